-- The twins of a new row that have its key: among what is below its parent's element, or among the roots.
use Rattle.std.proofs.Common.{◌≡◌, ℕ, ◌<◌, ◌==◌, Bool, true, false, not, cond, ◌&&◌, ◌||◌, List, [], ◌∷◌, ◌++◌, Option, None, Some, inl, inr, refl, sym, ap, subst, ◌∙◌, arith}
use Rattle.std.specs.Prelude.{nat_lt, find, filter, map, is_some, is_none, take_while}
use Rattle.std.specs.Cmp.{IsTotalOrder}
use Rattle.std.specs.List.{list_all, list_any, AllByRecursion}
use Rattle.std.specs.Option.{option_map_or}
use Rattle.std.specs.Ordering.{is_eq}
use Rattle.std.specs.Str.{bytes_eq}
use Rattle.std.specs.declared.cmp.Ordering.{Ordering}
use Rattle.std.specs.declared.cmp.Ordering.TheVariants.{Less, Equal, Greater}
use Rattle.std.proofs.lemmas.Bool.{and_parts, eqb-true, false_from_ne_true, ltb-true, not-true}
use Rattle.std.proofs.lemmas.Cmp.{nat_list_cmp_total, tied_itself}
use Rattle.std.proofs.lemmas.Slice.Eq.{bytes_eq-Decides}
use Rattle.std.specs.FinMap.{slice_cmp-IsAntisymmetric, nat_cmp-IsAntisymmetric}
use Rattle.hal_base.specs.declared.place.Ilk.{Ilk}
use Rattle.hal_schema.specs.declared.row.Row.{Row}
use Rattle.hal_schema.specs.declared.schema.Schema.{Schema}
use Rattle.hal_schema.specs.declared.schema.SegType.{SegType}
use Rattle.hal_schema.specs.Facts.{IsKept}
use Rattle.hal_schema.specs.Forest.{has_unique_key, is_forest, is_path, twin_cmp}
use Rattle.hal_schema.specs.Insertion.{has_free_key}
use Rattle.hal_schema.specs.Keys.{key_cmp}
use Rattle.hal_schema.specs.Paths.{path_after, path_with, paths_of, concatenated_key}
use Rattle.hal_schema.specs.Roots.{root_cmp}
use Rattle.hal_schema.specs.Row.{are_twins, is_parent, row_key, row_level, same_name, same_parent}
use Rattle.hal_schema.specs.SegType.{is_parent_code, key_in, level_of, parent_code}
use Rattle.hal_schema.specs.Span.{is_deeper, span_of}
use Rattle.hal_schema.proofs.RowNames.{name_from}
use Rattle.position_state.specs.declared.spot.Spot.{Spot}
use Rattle.position_state.specs.Looks.{root_of_key}
use Rattle.position_state.specs.View.{behind, plain_element, root_named}
use Rattle.dli_calls.specs.Changes.{name_at}
use Rattle.view_laws.specs.Views.{is_keyed, root_field}
use Rattle.call_gets.specs.Scan.{IsFound, plain_view}
use Rattle.call_gets.proofs.Stepping.{Differ}
use Rattle.forest_laws.specs.Spans.{is_on}
use Rattle.forest_laws.proofs.Lists.{Among, among_middle, found}
use Rattle.forest_laws.proofs.Parents.{EndsUnder, Parts, parts_of, path_among, path_end}
use Rattle.forest_laws.proofs.PathLaws.{each_path}
use Rattle.forest_laws.proofs.SpanLaws.{paths_rows, spans_are_below}
use Rattle.call_changes.specs.Inserts.{any_deep, is_keyed_so, row_below}
use Rattle.call_changes.proofs.Children.{child_same}
use Rattle.call_changes.proofs.Placing.{parent_row}
use Rattle.call_changes.proofs.Replacing.{OnPath, same_bool}
use Rattle.call_changes.proofs.Passing.{take_false, take_true}

-- ---- lists

any_all : {X : Type 0} (test : X → Bool) (xs : List X) → not (list_all (λ x. not (test x)) xs) ≡ list_any test xs
any_all test [] = refl
any_all {X} test (x ∷ xs) = by (test x) (any_all test xs)
  where
    by : (b : Bool) → not (list_all (λ y. not (test y)) xs) ≡ list_any test xs → not (not b && list_all (λ y. not (test y)) xs) ≡ (b || list_any test xs)
    by true rest = refl
    by false rest = rest

any_map : {X Y : Type 0} (f : X → Y) (test : Y → Bool) (xs : List X) → list_any test (map f xs) ≡ list_any (λ x. test (f x)) xs
any_map f test [] = refl
any_map f test (x ∷ xs) = ap (λ b. test (f x) || b) (any_map f test xs)

any_filter : {X Y : Type 0} (f : X → Y) (on : X → Bool) (test : Y → Bool) (xs : List X) → list_any (λ x. on x && test (f x)) xs ≡ list_any test (map f (filter on xs))
any_filter f on test [] = refl
any_filter {X} f on test (x ∷ xs) = by (on x) (any_filter f on test xs)
  where
    by : (b : Bool) → list_any (λ y. on y && test (f y)) xs ≡ list_any test (map f (filter on xs)) → ((b && test (f x)) || list_any (λ y. on y && test (f y)) xs) ≡ list_any test (map f (cond b (x ∷ filter on xs) (filter on xs)))
    by true rest = ap (λ b. test (f x) || b) rest
    by false rest = rest

any_same : {X : Type 0} (known f g : X → Bool) (xs : List X) → list_all known xs ≡ true → AllByRecursion (λ x. known x ≡ true → f x ≡ g x) xs → list_any f xs ≡ list_any g xs
any_same known f g [] k h = refl
any_same known f g (x ∷ xs) k h =
    let a = and_parts (known x) (list_all known xs) k in
    ap (λ b. b || list_any f xs) (h.0 a.0) ∙ ap (λ b. g x || b) (any_same known f g xs a.1 h.1)

some_any : {X : Type 0} (test : X → Bool) (xs : List X) → is_some (find test xs) ≡ list_any test xs
some_any test [] = refl
some_any {X} test (x ∷ xs) = by (test x) (some_any test xs)
  where
    by : (b : Bool) → is_some (find test xs) ≡ list_any test xs → is_some (cond b (Some x) (find test xs)) ≡ (b || list_any test xs)
    by true rest = refl
    by false rest = rest

map_join : {X Y : Type 0} (f : X → Y) (xs ys : List X) → map f (xs ++ ys) ≡ map f xs ++ map f ys
map_join f [] ys = refl
map_join f (x ∷ xs) ys = ap (λ l. f x ∷ l) (map_join f xs ys)

all_true : {X : Type 0} (xs : List X) → list_all (λ (x : X). true) xs ≡ true
all_true [] = refl
all_true (x ∷ xs) = all_true xs

and_false : (b : Bool) → (b && false) ≡ false
and_false true = refl
and_false false = refl

-- ---- a twin with the new row's key

abbrev is_equal_twin : Schema → Row → Row → Bool
is_equal_twin schema new row = are_twins row new && is_eq (twin_cmp schema row new)

pub unique_twin : (schema : Schema) (rows : List Row) (new : Row) → has_unique_key schema.types new.code ≡ true → not (has_free_key schema rows new) ≡ list_any (is_equal_twin schema new) rows
unique_twin schema rows new h =
    ap (λ u. not (not u || list_all (λ (row : Row). not (is_equal_twin schema new row)) rows)) h ∙ any_all (is_equal_twin schema new) rows

pub no_unique : (schema : Schema) (rows : List Row) (new : Row) → has_unique_key schema.types new.code ≡ false → not (has_free_key schema rows new) ≡ false
no_unique schema rows new h = ap (λ u. not (not u || list_all (λ (row : Row). not (is_equal_twin schema new row)) rows)) h

eq_key : (a b : List ℕ) → is_eq (key_cmp a b) ≡ bytes_eq a b
eq_key a b = same_bool (is_eq (key_cmp a b)) (bytes_eq a b) (λ h. (bytes_eq-Decides a b).1 (by (key_cmp a b) refl h)) (λ h. ap is_eq (ap (λ k. key_cmp k b) ((bytes_eq-Decides a b).0 h) ∙ tied_itself nat_list_cmp_total b))
  where
    by : (o : Ordering) → key_cmp a b ≡ o → is_eq o ≡ true → a ≡ b
    by Less e h = absurd (let no : ⊥ = cc in no)
    by Equal e h = slice_cmp-IsAntisymmetric nat_cmp-IsAntisymmetric a b e
    by Greater e h = absurd (let no : ⊥ = cc in no)

-- ---- below an element

-- among the first elements that are deeper, and among the first rows that are
deep_rows : (types : List SegType) (top code : ℕ) (key : List ℕ) (ps : List OnPath)
    → any_deep top (is_keyed_so types code key) (map (λ (p : OnPath). plain_element types p.0 p.1) ps)
    ≡ list_any (λ (row : Row). row.code == code && bytes_eq (key_in types code row.content) key) (take_while (λ (row : Row). nat_lt top (row_level types row)) (map (λ (p : OnPath). p.1) ps))
deep_rows types top code key [] = refl
deep_rows types top code key (p ∷ ps) = by (nat_lt top (row_level types p.1)) refl (deep_rows types top code key ps)
  where
    elem : OnPath → Spot
    elem p = plain_element types p.0 p.1

    of_row : Row → Bool
    of_row row = row.code == code && bytes_eq (key_in types code row.content) key

    deep : Row → Bool
    deep row = nat_lt top (row_level types row)

    by : (b : Bool) → nat_lt top (row_level types p.1) ≡ b → any_deep top (is_keyed_so types code key) (map elem ps) ≡ list_any of_row (take_while deep (map (λ (p : OnPath). p.1) ps))
        → any_deep top (is_keyed_so types code key) (elem p ∷ map elem ps) ≡ list_any of_row (take_while deep (p.1 ∷ map (λ (p : OnPath). p.1) ps))
    by true h rest =
        ap (list_any (is_keyed_so types code key)) (take_true (λ (z : Spot). nat_lt top z.level) (elem p) (map elem ps) h)
        ∙ ap (λ b. of_row p.1 || b) rest ∙ sym (ap (list_any of_row) (take_true deep p.1 (map (λ (p : OnPath). p.1) ps) h))
    by false h rest =
        ap (list_any (is_keyed_so types code key)) (take_false (λ (z : Spot). nat_lt top z.level) (elem p) (map elem ps) h)
        ∙ sym (ap (list_any of_row) (take_false deep p.1 (map (λ (p : OnPath). p.1) ps) h))

span_here : (types : List SegType) (name : Ilk) (front back : List OnPath) (p : OnPath) → list_all (λ (q : OnPath). not (same_name q.1.name name)) front ≡ true → same_name p.1.name name ≡ true
    → span_of types (map (λ (q : OnPath). q.1) front ++ p.1 ∷ map (λ (q : OnPath). q.1) back) name ≡ p.1 ∷ take_while (is_deeper types p.1) (map (λ (q : OnPath). q.1) back)
span_here types name [] back p none h = ap (λ b. cond b (p.1 ∷ take_while (is_deeper types p.1) (map (λ (q : OnPath). q.1) back)) (span_of types (map (λ (q : OnPath). q.1) back) name)) h
span_here types name (q ∷ front) back p none h =
    let a = and_parts (not (same_name q.1.name name)) (list_all (λ (q : OnPath). not (same_name q.1.name name)) front) none in
    let rest : List Row = map (λ (q : OnPath). q.1) front ++ p.1 ∷ map (λ (q : OnPath). q.1) back in
    ap (λ b. cond b (q.1 ∷ take_while (is_deeper types q.1) rest) (span_of types rest name)) (not-true (same_name q.1.name name) a.0) ∙ span_here types name front back p a.1 h

-- what is known of the row of a parent's element
record At (schema : Schema) (rows : List Row) (spot : Spot) : Type 0 where
  p : OnPath
  is : spot ≡ plain_element schema.types p.0 p.1
  front : List OnPath
  back : List OnPath
  split : paths_of schema.types rows ≡ front ++ p ∷ back
  none : list_all (λ (q : OnPath). not (same_name q.1.name p.1.name)) front ≡ true

at_of : (schema : Schema) (rows : List Row) (spot : Spot) → IsFound (plain_view schema rows) spot → At schema rows spot
at_of schema rows spot f =
    let r = parent_row schema rows spot f in
    let s = found (λ (q : OnPath). same_name q.1.name r.p.1.name) (paths_of schema.types rows) r.p r.found in
    record { p = r.p; is = r.is; front = s.front; back = s.behind; split = s.split; none = s.none }

-- a child's row with the new row's key
child_twin : (schema : Schema) → IsKept schema → (rows : List Row) → Parts schema rows → (above : Row) → Among above rows → (new : Row) → new.parent ≡ Some above.name → parent_code schema.types new.code ≡ Some above.code → (new.code == 1) ≡ false
    → (front : List Row) (row : Row) (back : List Row) → rows ≡ front ++ row ∷ back
    → is_equal_twin schema new row
    ≡ (is_on above.name (path_with (row_level schema.types) (path_after (row_level schema.types) [] front) row) && (row.code == new.code && bytes_eq (key_in schema.types new.code row.content) (row_key schema.types new)))
child_twin schema kept rows parts above there new named code low front row back split = by (row.code == new.code) refl
  where
    on : Bool
    on = is_on above.name (path_with (row_level schema.types) (path_after (row_level schema.types) [] front) row)

    key : Bool
    key = bytes_eq (key_in schema.types new.code row.content) (row_key schema.types new)

    and_true_left : (b : Bool) → (b && (true && key)) ≡ (b && key)
    and_true_left b = refl

    by : (b : Bool) → (row.code == new.code) ≡ b → ((b && same_parent row.parent new.parent) && is_eq (twin_cmp schema row new)) ≡ (on && (b && key))
    by false e = sym (and_false on)
    by true e =
        let same : row.code ≡ new.code = eqb-true row.code new.code e in
        let root : (row.code == 1) ≡ false = ap (λ (c : ℕ). c == 1) same ∙ low in
        let compared : is_eq (twin_cmp schema row new) ≡ key =
        ap (λ b. is_eq (cond b (root_cmp schema (row_key schema.types row) (row_key schema.types new)) (key_cmp (row_key schema.types row) (row_key schema.types new)))) root
        ∙ eq_key (row_key schema.types row) (row_key schema.types new)
        ∙ ap (λ (c : ℕ). bytes_eq (key_in schema.types c row.content) (row_key schema.types new)) same in
        let placed : same_parent row.parent new.parent ≡ on =
        ap (same_parent row.parent) named ∙ sym (child_same schema kept rows parts above there front back row split (ap (parent_code schema.types) same ∙ code)) in
        ap (λ b. b && is_eq (twin_cmp schema row new)) placed ∙ ap (λ b. on && b) compared

pub twins_below : (schema : Schema) (rows : List Row) (code : ℕ) (content : List ℕ) (spot : Spot) → IsKept schema → is_forest schema rows ≡ true → Differ (plain_view schema rows) → IsFound (plain_view schema rows) spot
    → parent_code schema.types code ≡ Some spot.code
    → list_any (is_equal_twin schema (row_below code (Some spot) content)) rows ≡ any_deep spot.level (is_keyed_so schema.types code (key_in schema.types code content)) (behind spot.at (plain_view schema rows))
twins_below schema rows code content spot kept forest differ f above =
    ap (list_any twin) (sym whole)
    ∙ any_map (λ (p : OnPath). p.1) twin (paths_of schema.types rows)
    ∙ any_same (λ (p : OnPath). true) (λ (p : OnPath). twin p.1) (λ (p : OnPath). is_on a.p.1.name p.0 && of_row p.1) (paths_of schema.types rows) (all_true (paths_of schema.types rows))
    (each_path (row_level schema.types) (λ (p : OnPath). true ≡ true → twin p.1 ≡ (is_on a.p.1.name p.0 && of_row p.1)) [] rows
    (λ front row back split known. child_twin schema kept rows parts a.p.1 there new named over low front row back split))
    ∙ any_filter (λ (p : OnPath). p.1) (λ (p : OnPath). is_on a.p.1.name p.0) of_row (paths_of schema.types rows)
    ∙ ap (list_any of_row) (sym (spans_are_below schema rows a.p.1.name forest))
    ∙ ap (list_any of_row) (ap (λ (rs : List Row). span_of schema.types rs a.p.1.name) rows_split ∙ span_here schema.types a.p.1.name a.front a.back a.p a.none (name_from a.p.1.name a.p.1.name refl))
    ∙ ap (λ b. b || list_any of_row (take_while (is_deeper schema.types a.p.1) (map (λ (q : OnPath). q.1) a.back))) self
    ∙ sym (deep_rows schema.types (row_level schema.types a.p.1) code (key_in schema.types code content) a.back)
    ∙ ap (λ (s : Spot). any_deep s.level keyed (map elem a.back)) (sym a.is)
    ∙ ap (any_deep spot.level keyed) (sym follows)
  where
    a : At schema rows spot
    a = at_of schema rows spot f

    parts : Parts schema rows
    parts = parts_of schema rows forest

    new : Row
    new = row_below code (Some spot) content

    twin : Row → Bool
    twin = is_equal_twin schema new

    keyed : Spot → Bool
    keyed = is_keyed_so schema.types code (key_in schema.types code content)

    of_row : Row → Bool
    of_row row = row.code == code && bytes_eq (key_in schema.types code row.content) (key_in schema.types code content)

    elem : OnPath → Spot
    elem p = plain_element schema.types p.0 p.1

    whole : map (λ (p : OnPath). p.1) (paths_of schema.types rows) ≡ rows
    whole = paths_rows (row_level schema.types) [] rows

    rows_split : rows ≡ map (λ (p : OnPath). p.1) a.front ++ a.p.1 ∷ map (λ (p : OnPath). p.1) a.back
    rows_split = sym whole ∙ ap (map (λ (p : OnPath). p.1)) a.split ∙ map_join (λ (p : OnPath). p.1) a.front (a.p ∷ a.back)

    there : Among a.p.1 rows
    there = subst (Among a.p.1) (sym rows_split) (among_middle a.p.1 (map (λ (p : OnPath). p.1) a.front) (map (λ (p : OnPath). p.1) a.back))

    named : new.parent ≡ Some a.p.1.name
    named = ap (λ (s : Spot). name_at s.at) a.is

    over : parent_code schema.types code ≡ Some a.p.1.code
    over = above ∙ ap (λ (s : Spot). Some s.code) a.is

    low : (code == 1) ≡ false
    low = false_from_ne_true (code == 1) (λ h. let no : None ≡ Some spot.code = sym kept.root ∙ ap (parent_code schema.types) (sym (eqb-true code 1 h)) ∙ above in let none : ⊥ = cc in none)

    -- the parent itself is of another type
    self : of_row a.p.1 ≡ false
    self = false_from_ne_true (of_row a.p.1) (λ h.
        let same : a.p.1.code ≡ code = eqb-true a.p.1.code code (and_parts (a.p.1.code == code) (bytes_eq (key_in schema.types code a.p.1.content) (key_in schema.types code content)) h).0 in
        let deeper = (kept.below a.p.1.code code over).level in
        absurd (omega (arith, deeper, ap (level_of schema.types) same)))

    follows : behind spot.at (plain_view schema rows) ≡ map elem a.back
    follows =
        (differ (map elem a.front) (map elem a.back) spot
        (ap (map elem) a.split ∙ map_join elem a.front (a.p ∷ a.back) ∙ ap (λ (s : Spot). map elem a.front ++ s ∷ map elem a.back) (sym a.is))).follows

-- ---- among the roots

eq_root : (schema : Schema) → IsTotalOrder (root_cmp schema) → ((a b : List ℕ) → root_cmp schema a b ≡ Equal → a ≡ b) → (a b : List ℕ) → is_eq (root_cmp schema a b) ≡ bytes_eq a b
eq_root schema total exact a b = same_bool (is_eq (root_cmp schema a b)) (bytes_eq a b) (λ h. (bytes_eq-Decides a b).1 (by (root_cmp schema a b) refl h)) (λ h. ap is_eq (ap (λ k. root_cmp schema k b) ((bytes_eq-Decides a b).0 h) ∙ tied_itself total b))
  where
    by : (o : Ordering) → root_cmp schema a b ≡ o → is_eq o ≡ true → a ≡ b
    by Less e h = absurd (let no : ⊥ = cc in no)
    by Equal e h = exact a b e
    by Greater e h = absurd (let no : ⊥ = cc in no)

-- a root has no parent
root_parent : (schema : Schema) → IsKept schema → (path : List Row) (row : Row) → is_path schema.types None (path ++ row ∷ []) ≡ true → (row.code == 1) ≡ true → same_parent row.parent None ≡ true
root_parent schema kept path row h one = by (path_end schema.types None path row h)
  where
    none : (o : Option Ilk) → is_none o ≡ true → same_parent o None ≡ true
    none None e = refl
    none (Some x) e = absurd (let no : ⊥ = cc in no)

    by : EndsUnder schema.types None path row → same_parent row.parent None ≡ true
    by (inl root) = none row.parent (and_parts (row.code == 1) (is_none row.parent) root.0).1
    by (inr more) =
        let c : is_parent_code schema.types more.0.code row.code ≡ true = (and_parts (is_parent more.0 row) (is_parent_code schema.types more.0.code row.code) more.2).1 in
        absurd (let no : false ≡ true = sym (ap (λ (o : Option ℕ). option_map_or (λ parent. parent == more.0.code) o false) (ap (parent_code schema.types) (eqb-true row.code 1 one) ∙ kept.root)) ∙ c in let none : ⊥ = cc in none)

root_twin : (schema : Schema) → IsKept schema → IsTotalOrder (root_cmp schema) → ((a b : List ℕ) → root_cmp schema a b ≡ Equal → a ≡ b) → (content : List ℕ) (path : List Row) (row : Row)
    → is_path schema.types None (path ++ row ∷ []) ≡ true → is_keyed schema.types (plain_element schema.types (path ++ row ∷ []) row) ≡ true
    → is_equal_twin schema (row_below 1 None content) row ≡ (row_level schema.types row == 1 && bytes_eq (concatenated_key schema.types (path ++ row ∷ [])) (key_in schema.types 1 content))
root_twin schema kept total exact content path row h keyed = by (row.code == 1) refl keyed
  where
    x : Spot
    x = plain_element schema.types (path ++ row ∷ []) row

    key : List ℕ
    key = key_in schema.types 1 content

    by : (b : Bool) → (row.code == 1) ≡ b → cond b (x.level == 1 && bytes_eq x.key (root_field schema.types x.content) && bytes_eq (root_named x.at) x.key) (nat_lt 1 x.level) ≡ true
        → ((b && same_parent row.parent None) && is_eq (cond b (root_cmp schema (row_key schema.types row) key) (key_cmp (row_key schema.types row) key))) ≡ (x.level == 1 && bytes_eq x.key key)
    by true e k =
        let a = and_parts (x.level == 1 && bytes_eq x.key (root_field schema.types x.content)) (bytes_eq (root_named x.at) x.key) k in
        let l = and_parts (x.level == 1) (bytes_eq x.key (root_field schema.types x.content)) a.0 in
        let field : key_in schema.types row.code row.content ≡ x.key = ap (λ (c : ℕ). key_in schema.types c row.content) (eqb-true row.code 1 e) ∙ sym ((bytes_eq-Decides x.key (root_field schema.types x.content)).0 l.1) in
        ap (λ b. b && is_eq (root_cmp schema (row_key schema.types row) key)) (root_parent schema kept path row h e)
        ∙ eq_root schema total exact (row_key schema.types row) key ∙ ap (λ (k : List ℕ). bytes_eq k key) field
        ∙ ap (λ b. b && bytes_eq x.key key) (sym l.0)
    by false e k =
        let lt : 1 < x.level = ltb-true 1 x.level k in
        sym (ap (λ b. b && bytes_eq x.key key) (false_from_ne_true (x.level == 1) (λ t. absurd (omega (arith, lt, eqb-true x.level 1 t)))))

pub twins_of_root : (schema : Schema) (rows : List Row) (content : List ℕ) → IsKept schema → is_forest schema rows ≡ true → IsTotalOrder (root_cmp schema) → ((a b : List ℕ) → root_cmp schema a b ≡ Equal → a ≡ b)
    → list_all (is_keyed schema.types) (plain_view schema rows) ≡ true
    → list_any (is_equal_twin schema (row_below 1 None content)) rows ≡ is_some (root_of_key (key_in schema.types 1 content) (plain_view schema rows))
twins_of_root schema rows content kept forest total exact keyed =
    ap (list_any twin) (sym (paths_rows (row_level schema.types) [] rows))
    ∙ any_map (λ (p : OnPath). p.1) twin (paths_of schema.types rows)
    ∙ any_same (λ (p : OnPath). is_keyed schema.types (elem p)) (λ (p : OnPath). twin p.1) (λ (p : OnPath). test (elem p)) (paths_of schema.types rows) (sym (all_map (is_keyed schema.types) (paths_of schema.types rows)) ∙ keyed)
    (each_path (row_level schema.types) (λ (p : OnPath). is_keyed schema.types (elem p) ≡ true → twin p.1 ≡ test (elem p)) [] rows
    (λ front row back split k. root_twin schema kept total exact content (filter (λ (r : Row). nat_lt (row_level schema.types r) (row_level schema.types row)) (path_after (row_level schema.types) [] front)) row
    (path_among schema front back row (subst (Parts schema) split (parts_of schema rows forest))) k))
    ∙ sym (any_map elem test (paths_of schema.types rows))
    ∙ sym (some_any test (plain_view schema rows))
  where
    twin : Row → Bool
    twin = is_equal_twin schema (row_below 1 None content)

    elem : OnPath → Spot
    elem p = plain_element schema.types p.0 p.1

    test : Spot → Bool
    test spot = spot.level == 1 && bytes_eq spot.key (key_in schema.types 1 content)

    all_map : (t : Spot → Bool) (ps : List OnPath) → list_all t (map elem ps) ≡ list_all (λ (p : OnPath). t (elem p)) ps
    all_map t [] = refl
    all_map t (p ∷ ps) = ap (λ b. t (elem p) && b) (all_map t ps)
