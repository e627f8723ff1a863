-- Where an insertion puts a row, in the words of the rule for twins.
use Rattle.std.proofs.Common.{◌≡◌, ℕ, suc, ◌+◌, ◌<◌, nat_lt, Bool, true, false, not, cond, ◌&&◌, ◌||◌, List, [], ◌∷◌, ◌++◌, length, map, take, Option, Some, None, ◌⊎◌, inl, inr, refl, sym, ap, subst, ◌∙◌, arith}
use Rattle.std.specs.Cmp.{IsTotalOrder}
use Rattle.std.specs.Prelude.{filter, find}
use Rattle.std.specs.List.{list_all, list_any, prefix_len}
use Rattle.std.specs.Option.{option_map_or}
use Rattle.std.specs.Ordering.{is_lt, is_eq}
use Rattle.std.specs.declared.cmp.Ordering.{Ordering}
use Rattle.std.specs.declared.cmp.Ordering.TheVariants.{Less, Equal, Greater}
use Rattle.std.proofs.lemmas.Bool.{and_parts, and_from, or_parts, ltb-true, ltb-false, lt-ltb, le-ltb, not-true, not_from_false, both_ways}
use Rattle.std.proofs.lemmas.List.{append_assoc, append-nil}
use Rattle.std.proofs.lemmas.List.Elements.{filter-append, filter_agree}
use Rattle.hal_schema.specs.declared.row.Row.{Row}
use Rattle.hal_schema.specs.declared.schema.SegType.{SegType}
use Rattle.hal_schema.specs.declared.schema.Schema.{Schema}
use Rattle.hal_schema.specs.SegType.{type_of, level_of}
use Rattle.hal_schema.specs.Roots.{root_cmp}
use Rattle.hal_schema.specs.Row.{same_name, same_parent, is_parent, are_twins, row_level}
use Rattle.hal_schema.specs.Paths.{path_with, path_after, with_paths, paths_of}
use Rattle.hal_schema.specs.Span.{is_deeper, span_of}
use Rattle.hal_schema.specs.Forest.{all_pairs, names_apart, has_length, is_path, in_type_order, twin_cmp}
use Rattle.hal_schema.specs.Insertion.{is_first, is_twin_before, is_lower_child, stands_before, goes_before, twins_before, inserted}
use Rattle.hal_schema.specs.Facts.{SchemasAreKept}
use Rattle.forest_laws.specs.Places.{is_earlier_twin, earlier_twins, is_lower_sibling, lower_spans, IsBehind, InsertionsAreByRule}
use Rattle.forest_laws.proofs.Lists.{Among, among_passes, among_append, among_left, among_right, among_middle, among_filter, all_among, all_append, all_parts, all_weaker, all_filtered, filter_none, Found, found, pairs_at}
use Rattle.hal_schema.proofs.RowNames.{name_from}
use Rattle.forest_laws.proofs.Names.{parent_is, parents_from, parents_are, twins_are, same_some, one_of_name}
use Rattle.forest_laws.proofs.Carried.{above_in, is_above, not_above, starts_above, after_append, with_append, passed_over}
use Rattle.forest_laws.proofs.Parents.{Parts, parts_of, IsRootRow, ParentOf, parent_before, child_level, child_parent, row_known, path_among}
use Rattle.forest_laws.proofs.Place.{Behind, placed_of}
use Rattle.forest_laws.proofs.NewRow.{new_parts, NewUnder, new_under, UnderAt, under_at, stands_as}
use Rattle.forest_laws.proofs.Order.{Around, Stands, type_order_is, beside_level, no_child_before}
use Rattle.forest_laws.proofs.CutKeeps.{take_front}
use Rattle.forest_laws.proofs.PathLaws.{go_on_at, after_goes_on, path_rows, path_front, path_step, paths_go_on}
use Rattle.forest_laws.proofs.SpanLaws.{paths_off, paths_rows, any_middle}

-- ---- the twins that must stand before, in both words

in_own_words : (first : Bool) (o : Ordering) → goes_before first o ≡ (is_lt o || (is_eq o && not first))
in_own_words first Less = refl
in_own_words first Equal = refl
in_own_words first Greater = refl

last_not_first : (o : Option SegType) → not (option_map_or (λ (t : SegType). t.first) o false) ≡ option_map_or (λ (t : SegType). not t.first) o true
last_not_first None = refl
last_not_first (Some t) = refl

same_twins : (schema : Schema) (new row : Row) → is_twin_before schema new row ≡ is_earlier_twin schema new row
same_twins schema new row =
    let o = twin_cmp schema row new in
    ap (λ b. are_twins row new && b) (in_own_words (is_first schema new.code) o)
    ∙ ap (λ b. are_twins row new && (is_lt o || (is_eq o && b))) (last_not_first (type_of schema.types new.code))

pub same_before : (schema : Schema) (rows : List Row) (new : Row) → twins_before schema rows new ≡ earlier_twins schema rows new
same_before schema rows new = filter_agree (is_twin_before schema new) (is_earlier_twin schema new) (same_twins schema new) rows

-- ---- what stands around the place

-- a row deeper than the new one is no twin that must stand before
deeper_no_twin : (schema : Schema) (rows : List Row) (new row : Row) → Around schema rows new → Among row rows → is_above (row_level schema.types) new row ≡ true → is_twin_before schema new row ≡ false
deeper_no_twin schema rows new row a among deeper = by (is_twin_before schema new row) refl
  where
    by : (b : Bool) → is_twin_before schema new row ≡ b → b ≡ false
    by true e =
        let t = twins_are row new (and_parts (are_twins row new) (goes_before (is_first schema new.code) (twin_cmp schema row new)) e).0 in
        let same = beside_level schema rows new row a.kept a.parts a.under among t.1 in
        let l = ltb-true (row_level schema.types new) (row_level schema.types row) deeper in
        absurd (omega (arith, same, l))
    by false e = refl

back_no_twin : (schema : Schema) (new row : Row) → not (stands_before schema new row) ≡ true → not (is_twin_before schema new row) ≡ true
back_no_twin schema new row h = not_from_false (is_twin_before schema new row) (or_parts (is_parent row new || is_lower_child new row) (is_twin_before schema new row) (not-true (stands_before schema new row) h)).1

back_no_lower : (schema : Schema) (new row : Row) → not (stands_before schema new row) ≡ true → not (is_lower_sibling new row) ≡ true
back_no_lower schema new row h =
    let a = or_parts (is_parent row new || is_lower_child new row) (is_twin_before schema new row) (not-true (stands_before schema new row) h) in
    not_from_false (is_lower_sibling new row) (or_parts (is_parent row new) (is_lower_child new row) a.0).1

-- the last of a list
last_from : Row → List Row → Row
last_from d [] = d
last_from d (x ∷ xs) = last_from x xs

last_is : (d : Row) (xs : List Row) (x : Row) → last_from d (xs ++ x ∷ []) ≡ x
unfolding last_from
last_is d [] x = refl
last_is d (y ∷ xs) x = last_is y xs x

last_same : (xs ys : List Row) (x y : Row) → xs ++ x ∷ [] ≡ ys ++ y ∷ [] → x ≡ y
last_same xs ys x y e = sym (last_is x xs x) ∙ ap (last_from x) e ∙ last_is x ys y

not_nothing : (xs : List Row) (x : Row) → [] ≡ xs ++ x ∷ [] → ⊥
not_nothing [] x e = cc
not_nothing (y ∷ xs) x e = cc

-- ---- behind the last twin

prefix_at : (p : Row → Bool) (below rest : List Row) → list_all p below ≡ true → ((x : Row) (more : List Row) → rest ≡ x ∷ more → p x ≡ false) → prefix_len p (below ++ rest) ≡ length below
prefix_at p [] [] h stops = refl
prefix_at p [] (x ∷ rest) h stops = ap (λ b. cond b (1 + prefix_len p rest) 0) (stops x rest refl)
prefix_at p (y ∷ below) rest h stops =
    let a = and_parts (p y) (list_all p below) h in
    let r = prefix_at p below rest a.1 stops in
    ap (λ b. cond b (1 + prefix_len p (below ++ rest)) 0) a.0 ∙ (let s : 1 + prefix_len p (below ++ rest) ≡ suc (length below) = omega (arith, r) in s)

span_is : (types : List SegType) (head : List Row) (x : Row) (below rest : List Row) → list_all (λ r. names_apart r x) head ≡ true → list_all (is_deeper types x) below ≡ true → ((y : Row) (more : List Row) → rest ≡ y ∷ more → is_deeper types x y ≡ false)
    → span_of types (head ++ x ∷ (below ++ rest)) x.name ≡ x ∷ below
span_is types [] x below rest h deeper stops =
    let all = below ++ rest in
    ap (λ b. cond b (x ∷ take (prefix_len (is_deeper types x) all) all) (span_of types all x.name)) (name_from x.name x.name refl)
    ∙ ap (λ (l : List Row). x ∷ l) (ap (λ n. take n all) (prefix_at (is_deeper types x) below rest deeper stops) ∙ take_front below rest)
span_is types (r ∷ head) x below rest h deeper stops =
    let a = and_parts (names_apart r x) (list_all (λ r. names_apart r x) head) h in
    let all = head ++ x ∷ (below ++ rest) in
    ap (λ b. cond b (r ∷ take (prefix_len (is_deeper types r) all) all) (span_of types all x.name)) (not-true (same_name r.name x.name) a.0) ∙ span_is types head x below rest a.1 deeper stops

next_stops : (level : Row → ℕ) (new : Row) (back : List Row) → starts_above level (new ∷ []) back ≡ true → (y : Row) (more : List Row) → back ≡ y ∷ more → is_above level new y ≡ false
next_stops level new [] h y more e = cc
next_stops level new (z ∷ back) h y more e =
    let same : z ≡ y = cc in
    ap (is_above level new) (sym same) ∙ not-true (is_above level new z) (and_parts (not_above level z new) true h).0

-- behind a twin
behind_span : (schema : Schema) (rows : List Row) (new : Row) → (a : Around schema rows new) → (b : Behind schema new a.place.front) → is_twin_before schema new b.last ≡ true → IsBehind (span_of schema.types rows b.last.name) rows new (inserted schema rows new)
behind_span schema rows new a b twin =
    let types = schema.types in
    let level = row_level types in
    let x = b.last in
    let back = a.place.back in
    let same : level x ≡ level new = ap (level_of types) (twins_are x new (and_parts (are_twins x new) (goes_before (is_first schema new.code) (twin_cmp schema x new)) twin).0).0 in
    let turn : (y : Row) → is_above level new y ≡ is_deeper types x y = λ y. ap (λ n. nat_lt n (level y)) (sym same) in
    let all : rows ≡ b.head ++ x ∷ (b.tail ++ back) = a.place.split ∙ ap (λ (l : List Row). l ++ back) b.split ∙ append_assoc b.head (x ∷ b.tail) back in
    let span : span_of types rows x.name ≡ x ∷ b.tail =
    ap (λ (l : List Row). span_of types l x.name) all
    ∙ span_is types b.head x b.tail back (pairs_at names_apart b.head (b.tail ++ back) x (subst (λ (l : List Row). all_pairs names_apart l ≡ true) all a.parts.named)).before
    (all_weaker (is_above level new) (is_deeper types x) (λ y h. sym (turn y) ∙ h) b.tail b.deeper) (λ y more e. sym (turn y) ∙ next_stops level new back a.place.next y more e) in
    record {
      front = b.head;
      back = back;
      whole = all ∙ ap (λ (l : List Row). b.head ++ (l ++ back)) (sym span);
      placed = a.place.placed ∙ ap (λ (l : List Row). l ++ new ∷ back) b.split ∙ append_assoc b.head (x ∷ b.tail) (new ∷ back) ∙ ap (λ (l : List Row). b.head ++ (l ++ new ∷ back)) (sym span);
    }

-- where no twin must stand before the new row, a row before it under the same parent has a lower code
pub lower_of : (schema : Schema) (rows : List Row) (new row : Row) → (a : Around schema rows new) → (b : Behind schema new a.place.front) → is_twin_before schema new b.last ≡ false → Among row a.place.front → row.parent ≡ new.parent → row.code < new.code
lower_of schema rows new row a b none among e = by (stands_as schema new b.last b.stands) (among_append row b.head (b.last ∷ b.tail) (subst (λ (l : List Row). Among row l) b.split among))
  where
    all : rows ≡ b.head ++ b.last ∷ (b.tail ++ a.place.back)
    all = a.place.split ∙ ap (λ (l : List Row). l ++ a.place.back) b.split ∙ append_assoc b.head (b.last ∷ b.tail) a.place.back

    parts : Parts schema (b.head ++ b.last ∷ (b.tail ++ a.place.back))
    parts = subst (Parts schema) all a.parts

    deep : Among row b.tail → row.code < new.code
    deep h =
        let here = subst (λ (l : List Row). Among row l) (sym a.place.split) (among_left row a.place.front a.place.back among) in
        let l = ltb-true (row_level schema.types new) (row_level schema.types row) (among_passes (is_above (row_level schema.types) new) row b.tail h b.deeper) in
        let same = beside_level schema rows new row a.kept a.parts a.under here e in
        absurd (omega (arith, l, same))

    by : Stands schema new b.last → Among row b.head ⊎ Among row (b.last ∷ b.tail) → row.code < new.code
    by s (inr (inr h)) = deep h
    by (inl parent) (inl h) = absurd (no_child_before schema b.head (b.tail ++ a.place.back) b.last row parts (inl h) (e ∙ parent_is b.last new parent))
    by (inl parent) (inr (inl s)) = absurd (no_child_before schema b.head (b.tail ++ a.place.back) b.last row parts (inr (sym s)) (e ∙ parent_is b.last new parent))
    by (inr (sibling, inr twin)) h = absurd (both_ways (is_twin_before schema new b.last) none twin)
    by (inr (sibling, inl lower)) (inl h) =
        let le = type_order_is row b.last (among_passes (λ r. in_type_order r b.last) row b.head h (pairs_at in_type_order b.head (b.tail ++ a.place.back) b.last parts.types).before) (e ∙ sym sibling) in
        omega (arith, le, lower)
    by (inr (sibling, inl lower)) (inr (inl s)) = subst (λ (r : Row). r.code < new.code) s lower

-- the twins before are those before the place
pub twins_in_front : (schema : Schema) (rows : List Row) (new : Row) → (a : Around schema rows new) → twins_before schema rows new ≡ filter (is_twin_before schema new) a.place.front
twins_in_front schema rows new a =
    let test = is_twin_before schema new in
    ap (filter test) a.place.split ∙ filter-append test a.place.front a.place.back
    ∙ ap (λ (l : List Row). filter test a.place.front ++ l) (filter_none test a.place.back (all_weaker (λ row. not (stands_before schema new row)) (λ row. not (test row)) (back_no_twin schema new) a.place.back a.place.behind))
    ∙ append-nil (filter test a.place.front)

twins_to_last : (schema : Schema) (rows : List Row) (new : Row) → (a : Around schema rows new) → (b : Behind schema new a.place.front) → twins_before schema rows new ≡ filter (is_twin_before schema new) b.head ++ cond (is_twin_before schema new b.last) (b.last ∷ []) []
twins_to_last schema rows new a b =
    let test = is_twin_before schema new in
    let none : filter test b.tail ≡ [] =
    filter_none test b.tail
    (all_among (λ r. not (test r)) b.tail
    (λ r h.
    let front = subst (λ (l : List Row). Among r l) (sym b.split) (among_right r b.head (b.last ∷ b.tail) (inr h)) in
    not_from_false (test r) (deeper_no_twin schema rows new r a (subst (λ (l : List Row). Among r l) (sym a.place.split) (among_left r a.place.front a.place.back front)) (among_passes (is_above (row_level schema.types) new) r b.tail h b.deeper)))) in
    twins_in_front schema rows new a ∙ ap (filter test) b.split ∙ filter-append test b.head (b.last ∷ b.tail)
    ∙ ap (λ (l : List Row). filter test b.head ++ cond (test b.last) (b.last ∷ l) l) none

by_twin : (schema : Schema) (rows : List Row) (new : Row) → (a : Around schema rows new) → (before : List Row) (last : Row) → twins_before schema rows new ≡ before ++ last ∷ [] → IsBehind (span_of schema.types rows last.name) rows new (inserted schema rows new)
by_twin schema rows new a before last e = by a.place.last
  where
    test : Row → Bool
    test = is_twin_before schema new

    at : (b : Behind schema new a.place.front) → (t : Bool) → is_twin_before schema new b.last ≡ t → IsBehind (span_of schema.types rows last.name) rows new (inserted schema rows new)
    at b true twin =
        let whole = sym (twins_to_last schema rows new a b ∙ ap (λ t. filter (is_twin_before schema new) b.head ++ cond t (b.last ∷ []) []) twin) ∙ e in
        subst (λ (r : Row). IsBehind (span_of schema.types rows r.name) rows new (inserted schema rows new)) (last_same (filter (is_twin_before schema new) b.head) before b.last last whole) (behind_span schema rows new a b twin)
    at b false none =
        let whole = sym (twins_to_last schema rows new a b ∙ ap (λ t. filter (is_twin_before schema new) b.head ++ cond t (b.last ∷ []) []) none ∙ append-nil (filter (is_twin_before schema new) b.head)) ∙ e in
        let among = among_filter (is_twin_before schema new) last b.head (subst (λ (l : List Row). Among last l) (sym whole) (among_middle last before [])) in
        let t = twins_are last new (and_parts (are_twins last new) (goes_before (is_first schema new.code) (twin_cmp schema last new)) among.1).0 in
        let front = subst (λ (l : List Row). Among last l) (sym b.split) (among_left last b.head (b.last ∷ b.tail) among.0) in
        let lower = lower_of schema rows new last a b none front t.1 in
        let same = t.0 in
        absurd (omega (arith, lower, same))

    by : Behind schema new a.place.front ⊎ (list_all (is_above (row_level schema.types) new) a.place.front ≡ true) → IsBehind (span_of schema.types rows last.name) rows new (inserted schema rows new)
    by (inl b) = at b (is_twin_before schema new b.last) refl
    by (inr deeper) =
        let none : filter (is_twin_before schema new) a.place.front ≡ [] =
        filter_none (is_twin_before schema new) a.place.front
        (all_among (λ r. not (is_twin_before schema new r)) a.place.front
        (λ r h.
        not_from_false (is_twin_before schema new r) (deeper_no_twin schema rows new r a (subst (λ (l : List Row). Among r l) (sym a.place.split) (among_left r a.place.front a.place.back h)) (among_passes (is_above (row_level schema.types) new) r a.place.front h deeper)))) in
        absurd (not_nothing before last (sym (twins_in_front schema rows new a ∙ none) ∙ e))

-- ---- behind the parent and the spans of its children of lower code

no_twin_last : (schema : Schema) (rows : List Row) (new : Row) → (a : Around schema rows new) → (b : Behind schema new a.place.front) → twins_before schema rows new ≡ [] → is_twin_before schema new b.last ≡ false
no_twin_last schema rows new a b none = by (is_twin_before schema new b.last) refl
  where
    by : (t : Bool) → is_twin_before schema new b.last ≡ t → t ≡ false
    by true twin =
        absurd (not_nothing (filter (is_twin_before schema new) b.head) b.last (sym none ∙ twins_to_last schema rows new a b ∙ ap (λ t. filter (is_twin_before schema new) b.head ++ cond t (b.last ∷ []) []) twin))
    by false e = refl

-- a child of the parent before the place is of lower code
child_lower : (schema : Schema) (rows : List Row) (new row : Row) → (a : Around schema rows new) → twins_before schema rows new ≡ [] → Among row a.place.front → row.parent ≡ new.parent → is_lower_sibling new row ≡ true
child_lower schema rows new row a none among e = and_from (same_parent row.parent new.parent) (nat_lt row.code new.code) (parents_from row.parent new.parent e) (lt-ltb row.code new.code (by a.place.last))
  where
    by : Behind schema new a.place.front ⊎ (list_all (is_above (row_level schema.types) new) a.place.front ≡ true) → row.code < new.code
    by (inl b) = lower_of schema rows new row a b (no_twin_last schema rows new a b none) among e
    by (inr deeper) =
        let here = subst (λ (l : List Row). Among row l) (sym a.place.split) (among_left row a.place.front a.place.back among) in
        let l = ltb-true (row_level schema.types new) (row_level schema.types row) (among_passes (is_above (row_level schema.types) new) row a.place.front among deeper) in
        let same = beside_level schema rows new row a.kept a.parts a.under here e in
        absurd (omega (arith, l, same))

first_row : (above : List Row) (row : Row) → (m : Row) × (more : List Row) × (above ++ row ∷ [] ≡ m ∷ more)
first_row [] row = (row, [], refl)
first_row (x ∷ above) row = (x, above ++ row ∷ [], refl)

-- the path of a row between the parent and the place has a child of lower code on it
lower_on : (schema : Schema) (rows : List Row) (new : Row) → (a : Around schema rows new) → twins_before schema rows new ≡ [] → (u : UnderAt schema a.place.front new) → (b1 : List Row) (y : Row) (b2 : List Row) → u.between ≡ b1 ++ y ∷ b2
    → list_any (is_lower_sibling new) (path_with (row_level schema.types) (path_after (row_level schema.types) [] u.head) u.above ++ path_with (row_level schema.types) (path_after (row_level schema.types) [] b1) y) ≡ true
lower_on schema rows new a none u b1 y b2 split =
    let types = schema.types in
    let level = row_level types in
    let p = u.above in
    let up = above_in level (path_after level [] u.head) p in
    let f = first_row (above_in level (path_after level [] b1) y) y in
    let m = f.0 in
    let all : rows ≡ (u.head ++ p ∷ b1) ++ y ∷ (b2 ++ a.place.back) =
    a.place.split ∙ ap (λ (l : List Row). l ++ a.place.back) (u.split ∙ ap (λ (l : List Row). u.head ++ p ∷ l) split ∙ sym (append_assoc u.head (p ∷ b1) (y ∷ b2))) ∙ append_assoc (u.head ++ p ∷ b1) (y ∷ b2) a.place.back in
    let whole = path_among schema (u.head ++ p ∷ b1) (b2 ++ a.place.back) y (subst (Parts schema) all a.parts) in
    let grows : path_with level (path_after level [] (u.head ++ p ∷ b1)) y ≡ (up ++ p ∷ []) ++ path_with level (path_after level [] b1) y = go_on_path schema rows new a u b1 y b2 split in
    let parted : is_path types None (((up ++ p ∷ []) ++ m ∷ []) ++ f.1) ≡ true =
    subst (λ (l : List Row). is_path types None l ≡ true) (grows ∙ ap (λ (l : List Row). (up ++ p ∷ []) ++ l) f.2 ∙ sym (append_assoc (up ++ p ∷ []) (m ∷ []) f.1)) whole in
    let child = path_step types None up p m (path_front types None ((up ++ p ∷ []) ++ m ∷ []) f.1 parted) in
    let sibling : m.parent ≡ new.parent = child_parent types p m child ∙ sym (child_parent types p new u.child) in
    let within : Among m (b1 ++ y ∷ b2) = path_rows level b1 b2 y m (subst (λ (l : List Row). Among m l) (sym f.2) (inl refl)) in
    let front : Among m a.place.front = subst (λ (l : List Row). Among m l) (sym u.split) (among_right m u.head (p ∷ u.between) (inr (subst (λ (l : List Row). Among m l) (sym split) within))) in
    ap (λ (l : List Row). list_any (is_lower_sibling new) ((up ++ p ∷ []) ++ l)) f.2 ∙ any_middle (is_lower_sibling new) (up ++ p ∷ []) f.1 m (child_lower schema rows new m a none front sibling)
  where
    go_on_path : (schema : Schema) (rows : List Row) (new : Row) → (a : Around schema rows new) → (u : UnderAt schema a.place.front new) → (b1 : List Row) (y : Row) (b2 : List Row) → u.between ≡ b1 ++ y ∷ b2
        → path_with (row_level schema.types) (path_after (row_level schema.types) [] (u.head ++ u.above ∷ b1)) y
        ≡ (above_in (row_level schema.types) (path_after (row_level schema.types) [] u.head) u.above ++ u.above ∷ []) ++ path_with (row_level schema.types) (path_after (row_level schema.types) [] b1) y
    go_on_path schema rows new a u b1 y b2 split =
        let level = row_level schema.types in
        let p = u.above in
        let path = path_with level (path_after level [] u.head) p in
        let deep = child_level schema a.kept p new u.child in
        let low : list_all (not_above level new) (b1 ++ y ∷ b2) ≡ true = subst (λ (l : List Row). list_all (not_above level new) l ≡ true) split u.low in
        let below : list_all (λ x. list_all (λ z. nat_lt (level z) (level x)) path) (b1 ++ y ∷ b2) ≡ true =
        all_weaker (not_above level new) (λ x. list_all (λ z. nat_lt (level z) (level x)) path)
        (λ x h.
        let far = ltb-false (level x) (level new) (not-true (nat_lt (level x) (level new)) h) in
        all_append (λ z. nat_lt (level z) (level x)) (above_in level (path_after level [] u.head) p) (p ∷ [])
        (all_weaker (λ z. nat_lt (level z) (level p)) (λ z. nat_lt (level z) (level x)) (λ z k. let l = ltb-true (level z) (level p) k in lt-ltb (level z) (level x) (omega (arith, l, far, deep))) (above_in level (path_after level [] u.head) p) (all_filtered (λ z. nat_lt (level z) (level p)) (path_after level [] u.head)))
        (and_from (nat_lt (level p) (level x)) true (lt-ltb (level p) (level x) (omega (arith, far, deep))) refl)) (b1 ++ y ∷ b2) low in
        let parts = all_parts (λ x. list_all (λ z. nat_lt (level z) (level x)) path) b1 (y ∷ b2) below in
        let here = (and_parts (list_all (λ z. nat_lt (level z) (level y)) path) (list_all (λ x. list_all (λ z. nat_lt (level z) (level x)) path) b2) parts.1).0 in
        ap (λ (l : List Row). path_with level l y) (after_append level [] u.head (p ∷ b1) ∙ after_goes_on level path b1 parts.0) ∙ go_on_at level path (path_after level [] b1) y here

-- a test that holds of each path
paths_all : (level : Row → ℕ) (test : List Row → Bool) (path : List Row) (done rows : List Row) → ((b1 : List Row) (y : Row) (b2 : List Row) → done ++ rows ≡ b1 ++ y ∷ b2 → test (path ++ path_with level (path_after level [] b1) y) ≡ true)
    → filter (λ (p : List Row × Row). test p.0) (map (λ (p : List Row × Row). (path ++ p.0, p.1)) (with_paths level (path_after level [] done) rows)) ≡ map (λ (p : List Row × Row). (path ++ p.0, p.1)) (with_paths level (path_after level [] done) rows)
paths_all level test path done [] h = refl
paths_all level test path done (row ∷ rows) h =
    let one = path_with level (path_after level [] done) row in
    let rest = map (λ (p : List Row × Row). (path ++ p.0, p.1)) (with_paths level one rows) in
    let more : path_after level [] (done ++ row ∷ []) ≡ one = after_append level [] done (row ∷ []) in
    let later = subst (λ (l : List Row). filter (λ (p : List Row × Row). test p.0) (map (λ (p : List Row × Row). (path ++ p.0, p.1)) (with_paths level l rows)) ≡ map (λ (p : List Row × Row). (path ++ p.0, p.1)) (with_paths level l rows)) more
    (paths_all level test path (done ++ row ∷ []) rows (λ b1 y b2 e. h b1 y b2 (sym (append_assoc done (row ∷ []) rows) ∙ e))) in
    ap (λ b. cond b ((path ++ one, row) ∷ filter (λ (p : List Row × Row). test p.0) rest) (filter (λ (p : List Row × Row). test p.0) rest)) (h done row rows refl) ∙ ap (λ (l : List (List Row × Row)). (path ++ one, row) ∷ l) later

mapped_rows : (path : List Row) (paths : List (List Row × Row)) → map (λ (p : List Row × Row). p.1) (map (λ (p : List Row × Row). (path ++ p.0, p.1)) paths) ≡ map (λ (p : List Row × Row). p.1) paths
mapped_rows path [] = refl
mapped_rows path (p ∷ paths) = ap (λ (l : List Row). p.1 ∷ l) (mapped_rows path paths)

-- the rows between the parent and the place are the spans of its children of lower code
between_is : (schema : Schema) (rows : List Row) (new : Row) → (a : Around schema rows new) → twins_before schema rows new ≡ [] → (u : UnderAt schema a.place.front new) → u.between ≡ lower_spans schema.types rows new
between_is schema rows new a none u =
    let types = schema.types in
    let level = row_level types in
    let p = u.above in
    let back = a.place.back in
    let head = path_after level [] u.head in
    let path = path_with level head p in
    let low = is_lower_sibling new in
    let fails : Row → Bool = λ r. not (low r) in
    let on : List Row × Row → Bool = λ q. list_any low q.0 in
    let second : List Row × Row → Row = λ q. q.1 in
    let first = with_paths level [] (u.head ++ p ∷ []) in
    let mid = with_paths level path u.between in
    let last = with_paths level path back in
    let deep = child_level schema a.kept p new u.child in
    let split : rows ≡ (u.head ++ p ∷ []) ++ (u.between ++ back) =
    a.place.split ∙ ap (λ (l : List Row). l ++ back) u.split ∙ append_assoc u.head (p ∷ u.between) back ∙ sym (append_assoc u.head (p ∷ []) (u.between ++ back)) in
    let above_all : rows ≡ u.head ++ p ∷ (u.between ++ back) = split ∙ append_assoc u.head (p ∷ []) (u.between ++ back) in
    let parts : Parts schema (u.head ++ p ∷ (u.between ++ back)) = subst (Parts schema) above_all a.parts in
    let front_fails : list_all fails (u.head ++ p ∷ []) ≡ true =
    all_among fails (u.head ++ p ∷ []) (λ r h. no_lower schema new u.head (u.between ++ back) p r parts (child_parent types p new u.child) (among_append r u.head (p ∷ []) h)) in
    let after : path_after level [] (u.head ++ p ∷ []) ≡ path = after_append level [] u.head (p ∷ []) in
    let path_fails : list_all fails path ≡ true =
    all_among fails path (λ r h. among_passes fails r (u.head ++ p ∷ []) (path_rows level u.head [] p r h) front_fails) in
    let back_fails : list_all fails back ≡ true = all_weaker (λ r. not (stands_before schema new r)) fails (back_no_lower schema new) back a.place.behind in
    let over : with_paths level (path_after level path u.between) back ≡ last = passed_over level path u.between back (low_starts level new u.between back u.low a.place.next) in
    let all : paths_of types rows ≡ first ++ (mid ++ last) =
    ap (paths_of types) split ∙ with_append level [] (u.head ++ p ∷ []) (u.between ++ back)
    ∙ ap (λ (l : List Row). first ++ with_paths level l (u.between ++ back)) after
    ∙ ap (λ (l : List (List Row × Row)). first ++ l) (with_append level path u.between back ∙ ap (λ (l : List (List Row × Row)). mid ++ l) over) in
    let none_first : filter on first ≡ [] = paths_off level low [] (u.head ++ p ∷ []) refl front_fails in
    let none_last : filter on last ≡ [] = paths_off level low path back path_fails back_fails in
    let goes : mid ≡ map (λ (q : List Row × Row). (path ++ q.0, q.1)) (with_paths level [] u.between) = paths_go_on Row level path u.between (deeper_than level path u.between p new head deep u.low) in
    let mid_on : filter on mid ≡ mid =
    ap (filter on) goes ∙ paths_all level (list_any low) path [] u.between (λ b1 y b2 e. lower_on schema rows new a none u b1 y b2 e) ∙ sym goes in
    let filtered : filter on (paths_of types rows) ≡ mid =
    ap (filter on) all ∙ filter-append on first (mid ++ last) ∙ ap (λ (l : List (List Row × Row)). l ++ filter on (mid ++ last)) none_first
    ∙ filter-append on mid last ∙ ap (λ (l : List (List Row × Row)). filter on mid ++ l) none_last ∙ append-nil (filter on mid) ∙ mid_on in
    sym (ap (map second) filtered ∙ paths_rows level path u.between)
  where
    no_lower : (schema : Schema) (new : Row) (head behind : List Row) (p r : Row) → Parts schema (head ++ p ∷ behind) → new.parent ≡ Some p.name → Among r head ⊎ Among r (p ∷ []) → not (is_lower_sibling new r) ≡ true
    no_lower schema new head behind p r parts parent h = by (is_lower_sibling new r) refl
      where
        place : Among r head ⊎ Among r (p ∷ []) → Among r head ⊎ (r ≡ p)
        place (inl a) = inl a
        place (inr (inl e)) = inr (sym e)
        place (inr (inr n)) = absurd n

        by : (b : Bool) → is_lower_sibling new r ≡ b → not b ≡ true
        by true e =
            let same = parents_are r.parent new.parent (and_parts (same_parent r.parent new.parent) (nat_lt r.code new.code) e).0 in
            absurd (no_child_before schema head behind p r parts (place h) (same ∙ parent))
        by false e = refl

    low_starts : (level : Row → ℕ) (new : Row) (between back : List Row) → list_all (not_above level new) between ≡ true → starts_above level (new ∷ []) back ≡ true → starts_above level between back ≡ true
    low_starts level new between [] low next = refl
    low_starts level new between (y ∷ back) low next =
        let far = ltb-false (level new) (level y) (not-true (nat_lt (level new) (level y)) (and_parts (not_above level y new) true next).0) in
        all_weaker (not_above level new) (not_above level y)
        (λ r h. let l = ltb-false (level r) (level new) (not-true (nat_lt (level r) (level new)) h) in not_from_false (nat_lt (level r) (level y)) (le-ltb (level r) (level y) (omega (arith, l, far)))) between low

    deeper_than : (level : Row → ℕ) (path between : List Row) (p new : Row) (head : List Row) → level new ≡ level p + 1 → list_all (not_above level new) between ≡ true → list_all (λ x. list_all (λ z. nat_lt (level z) (level x)) (path_with level head p)) between ≡ true
    deeper_than level path between p new head deep low =
        all_weaker (not_above level new) (λ x. list_all (λ z. nat_lt (level z) (level x)) (path_with level head p))
        (λ x h.
        let far = ltb-false (level x) (level new) (not-true (nat_lt (level x) (level new)) h) in
        all_append (λ z. nat_lt (level z) (level x)) (above_in level head p) (p ∷ [])
        (all_weaker (λ z. nat_lt (level z) (level p)) (λ z. nat_lt (level z) (level x)) (λ z k. let l = ltb-true (level z) (level p) k in lt-ltb (level z) (level x) (omega (arith, l, far, deep))) (above_in level head p) (all_filtered (λ z. nat_lt (level z) (level p)) head))
        (and_from (nat_lt (level p) (level x)) true (lt-ltb (level p) (level x) (omega (arith, far, deep))) refl)) between low

some_none : {X : Type 0} (x : X) → Some x ≡ None → ⊥
some_none x e = cc

by_parent : (schema : Schema) (rows : List Row) (new above : Row) → (a : Around schema rows new) → twins_before schema rows new ≡ [] → find (λ row. is_parent row new) rows ≡ Some above → IsBehind (above ∷ lower_spans schema.types rows new) rows new (inserted schema rows new)
by_parent schema rows new above a none e = by a.under
  where
    f : Found (λ row. is_parent row new) rows above
    f = found (λ row. is_parent row new) rows above e

    parent : new.parent ≡ Some above.name
    parent = parent_is above new f.passes

    here : Among above rows
    here = subst (λ (l : List Row). Among above l) (sym f.split) (among_middle above f.front f.behind)

    at : (u : UnderAt schema a.place.front new) → IsBehind (above ∷ lower_spans schema.types rows new) rows new (inserted schema rows new)
    at u =
        let back = a.place.back in
        let whole : rows ≡ u.head ++ (u.above ∷ (u.between ++ back)) = a.place.split ∙ ap (λ (l : List Row). l ++ back) u.split ∙ append_assoc u.head (u.above ∷ u.between) back in
        let stands : Among u.above rows = subst (λ (l : List Row). Among u.above l) (sym whole) (among_middle u.above u.head (u.between ++ back)) in
        let same : u.above ≡ above = one_of_name rows u.above above a.parts.named stands here (same_some u.above.name above.name (sym (child_parent schema.types u.above new u.child) ∙ parent)) in
        let part : u.above ∷ u.between ≡ above ∷ lower_spans schema.types rows new = ap (λ (r : Row). r ∷ u.between) same ∙ ap (λ (l : List Row). above ∷ l) (between_is schema rows new a none u) in
        record {
          front = u.head;
          back = back;
          whole = whole ∙ ap (λ (l : List Row). u.head ++ (l ++ back)) part;
          placed = a.place.placed ∙ ap (λ (l : List Row). l ++ new ∷ back) u.split ∙ append_assoc u.head (u.above ∷ u.between) (new ∷ back) ∙ ap (λ (l : List Row). u.head ++ (l ++ new ∷ back)) part;
        }

    by : NewUnder schema.types rows new → IsBehind (above ∷ lower_spans schema.types rows new) rows new (inserted schema rows new)
    by (inl root) = absurd (some_none above.name (sym parent ∙ root.1))
    by (inr p) = at (under_at schema rows new p.0 a.kept a.parts a.place p.1 p.2)

-- ---- at the front

root_front : (schema : Schema) (rows : List Row) (new : Row) → (a : Around schema rows new) → IsRootRow new → (front : List Row) → a.place.front ≡ front → list_all (is_above (row_level schema.types) new) front ≡ true → front ≡ []
root_front schema rows new a root [] e deeper = refl
root_front schema rows new a root (y ∷ front) e deeper = by (parent_before schema [] (front ++ a.place.back) y (subst (Parts schema) (a.place.split ∙ ap (λ (l : List Row). l ++ a.place.back) e) a.parts))
  where
    by : IsRootRow y ⊎ ParentOf schema [] y → y ∷ front ≡ []
    by (inl own) =
        let l = ltb-true (row_level schema.types new) (row_level schema.types y) (and_parts (is_above (row_level schema.types) new y) (list_all (is_above (row_level schema.types) new) front) deeper).0 in
        let same : row_level schema.types y ≡ row_level schema.types new = ap (level_of schema.types) (own.0 ∙ sym root.0) in
        absurd (omega (arith, l, same))
    by (inr of) = absurd (nothing of.kept.front of.above of.kept.behind of.kept.split)
      where
        nothing : (xs : List Row) (x : Row) (ys : List Row) → [] ≡ xs ++ x ∷ ys → ⊥
        nothing [] x ys e = cc
        nothing (z ∷ xs) x ys e = cc

by_front : (schema : Schema) (rows : List Row) (new : Row) → (a : Around schema rows new) → twins_before schema rows new ≡ [] → new.parent ≡ None → inserted schema rows new ≡ new ∷ rows
by_front schema rows new a none parent = at a.under
  where
    deeper : IsRootRow new → Behind schema new a.place.front ⊎ (list_all (is_above (row_level schema.types) new) a.place.front ≡ true) → list_all (is_above (row_level schema.types) new) a.place.front ≡ true
    deeper root (inr d) = d
    deeper root (inl b) = absurd (by (stands_as schema new b.last b.stands))
      where
        known : 0 < b.last.code
        known =
            let here = subst (λ (l : List Row). Among b.last l) (sym (a.place.split ∙ ap (λ (l : List Row). l ++ a.place.back) b.split)) (among_left b.last (b.head ++ b.last ∷ b.tail) a.place.back (among_middle b.last b.head b.tail)) in
            row_known schema.types b.last (among_passes (has_length schema.types) b.last rows here a.parts.long)

        by : Stands schema new b.last → ⊥
        by (inl p) = some_none b.last.name (sym (parent_is b.last new p) ∙ parent)
        by (inr (sibling, inl lower)) = let one = root.0 in let k = known in absurd (omega (arith, one, lower, k))
        by (inr (sibling, inr twin)) = both_ways (is_twin_before schema new b.last) (no_twin_last schema rows new a b none) twin

    at : NewUnder schema.types rows new → inserted schema rows new ≡ new ∷ rows
    at (inl root) =
        let empty : a.place.front ≡ [] = root_front schema rows new a root a.place.front refl (deeper root a.place.last) in
        a.place.placed ∙ ap (λ (l : List Row). l ++ new ∷ a.place.back) empty ∙ ap (λ (l : List Row). new ∷ l) (sym (a.place.split ∙ ap (λ (l : List Row). l ++ a.place.back) empty))
    at (inr p) = absurd (some_none p.0.name (sym (child_parent schema.types p.0 new p.2) ∙ parent))

pub insertions_are_by_rule : SchemasAreKept → ((schema : Schema) → IsTotalOrder (root_cmp schema)) → InsertionsAreByRule
insertions_are_by_rule kept roots schema rows new forest may =
    let is = new_parts schema rows new may in
    let a : Around schema rows new = record { kept = kept schema; roots = roots schema; parts = parts_of schema rows forest; under = new_under schema.types rows new is.parent; free = is.free; place = placed_of schema rows new } in
    let same = same_before schema rows new in
    record {
      behind_twin = λ before last e. by_twin schema rows new a before last (same ∙ e);
      behind_parent = λ above none e. by_parent schema rows new above a (same ∙ none) e;
      at_front = λ none parent. by_front schema rows new a (same ∙ none) parent;
    }
