-- A row that a change leaves stands under the same root.
use Rattle.std.proofs.Common.{◌≡◌, ℕ, Bool, true, false, not, cond, ◌&&◌, ◌||◌, List, [], ◌∷◌, ◌++◌, map, Some, ◌⊎◌, inl, inr, refl, sym, ap, subst, ◌∙◌}
use Rattle.std.specs.Prelude.{nat_lt, filter, find, is_none, IsTrue}
use Rattle.std.specs.List.{list_all, list_any, AllByRecursion}
use Rattle.std.specs.Option.{option_map_or}
use Rattle.std.specs.Str.{bytes_eq}
use Rattle.std.proofs.lemmas.Bool.{true≢false, and_parts, and_from, or_cases, or_left, or_right, not-true, false_from_ne_true}
use Rattle.std.proofs.lemmas.List.Folds.{list_any-append}
use Rattle.std.proofs.lemmas.Slice.Eq.{bytes_eq-Decides}
use Rattle.hal_base.specs.declared.place.Ilk.{Ilk}
use Rattle.hal_schema.specs.declared.row.Row.{Row}
use Rattle.hal_schema.specs.declared.schema.Schema.{Schema}
use Rattle.hal_schema.specs.declared.schema.SegType.{SegType}
use Rattle.hal_schema.specs.Row.{same_name, row_named, is_new_name, row_level, row_key}
use Rattle.hal_schema.specs.Paths.{path_with, with_paths, paths_of}
use Rattle.hal_schema.specs.Insertion.{inserted}
use Rattle.hal_schema.specs.Span.{without_span, with_content, replaced, may_replace, may_be_replaced}
use Rattle.hal_schema.specs.Forest.{all_pairs, names_apart, has_length, keys_are_placed, rows_are_named, rows_are_below_parents, twins_rise, types_rise, is_forest}
use Rattle.hal_schema.proofs.RowNames.{name_is, name_from}
use Rattle.position_state.specs.View.{root_key_of}
use Rattle.position_state.specs.Lawful.{is_under}
use Rattle.session_laws.proofs.PathParts.{OnPath, PathParts, cut_parts, insert_parts}

pub forest_names : (schema : Schema) (rows : List Row) → IsTrue (is_forest schema rows) → all_pairs names_apart rows ≡ true
forest_names schema rows h =
    let named : Bool = rows_are_named schema.types rows in
    let below : Bool = rows_are_below_parents schema.types rows in
    let a = and_parts (named && below && types_rise rows && twins_rise schema rows) (keys_are_placed schema rows) h in
    let b = and_parts (named && below && types_rise rows) (twins_rise schema rows) a.0 in
    let c = and_parts (named && below) (types_rise rows) b.0 in
    (and_parts (all_pairs names_apart rows) (list_all (has_length schema.types) rows) (and_parts named below c.0).0).0

-- a row that both lists have stands under the same root in the new one
abbrev pub Survive : Schema → List Row → List Row → Type 0
Survive schema old new = (name : Ilk) (root : List ℕ) → is_under schema old name root ≡ true → is_new_name new name ≡ false → is_under schema new name root ≡ true

-- ---- tests of a row with its path

abbrev pub is_at : List SegType → Ilk → List ℕ → OnPath → Bool
is_at types name root p = same_name p.1.name name && bytes_eq (root_key_of types p.0) root

named : Ilk → OnPath → Bool
named name p = same_name p.1.name name

at_named : (types : List SegType) (name : Ilk) (root : List ℕ) (ps : List OnPath) → list_any (is_at types name root) ps ≡ true → list_any (named name) ps ≡ true
unfolding named
at_named types name root [] h = h
at_named types name root (p ∷ ps) h = by (or_cases (is_at types name root p) (list_any (is_at types name root) ps) h) (at_named types name root ps)
  where
    by : (is_at types name root p ≡ true) ⊎ (list_any (is_at types name root) ps ≡ true) → (list_any (is_at types name root) ps ≡ true → list_any (named name) ps ≡ true)
        → (named name p || list_any (named name) ps) ≡ true
    by (inl e) rest = or_left (named name p) (list_any (named name) ps) (and_parts (same_name p.1.name name) (bytes_eq (root_key_of types p.0) root) e).0
    by (inr e) rest = or_right (named name p) (list_any (named name) ps) (rest e)

-- a row is on the list exactly where it is with its path
rows_named : (types : List SegType) (name : Ilk) (path rows : List Row) → is_new_name rows name ≡ not (list_any (named name) (with_paths (row_level types) path rows))
unfolding named
rows_named types name path [] = refl
rows_named types name path (row ∷ rows) = by (same_name row.name name) (rows_named types name (path_with (row_level types) path row) rows)
  where
    later : Bool
    later = list_any (named name) (with_paths (row_level types) (path_with (row_level types) path row) rows)

    by : (b : Bool) → is_new_name rows name ≡ not later → is_none (cond b (Some row) (row_named rows name)) ≡ not (b || later)
    by true rest = refl
    by false rest = rest

-- ---- names on paths are apart

apart_paths : OnPath → OnPath → Bool
apart_paths p q = names_apart p.1 q.1

one_apart : (types : List SegType) (one : OnPath) (path rows : List Row) → list_all (names_apart one.1) rows ≡ true → list_all (apart_paths one) (with_paths (row_level types) path rows) ≡ true
unfolding apart_paths
one_apart types one path [] h = refl
one_apart types one path (row ∷ rows) h =
    let a = and_parts (names_apart one.1 row) (list_all (names_apart one.1) rows) h in
    let next : List Row = path_with (row_level types) path row in
    and_from (names_apart one.1 row) (list_all (apart_paths one) (with_paths (row_level types) next rows)) a.0 (one_apart types one next rows a.1)

paths_apart : (types : List SegType) (path rows : List Row) → all_pairs names_apart rows ≡ true → all_pairs apart_paths (with_paths (row_level types) path rows) ≡ true
unfolding apart_paths
paths_apart types path [] h = refl
paths_apart types path (row ∷ rows) h =
    let a = and_parts (list_all (names_apart row) rows) (all_pairs names_apart rows) h in
    let next : List Row = path_with (row_level types) path row in
    and_from (list_all (apart_paths (next, row)) (with_paths (row_level types) next rows)) (all_pairs apart_paths (with_paths (row_level types) next rows))
    (one_apart types (next, row) next rows a.0) (paths_apart types next rows a.1)

-- no two of them have one name
not_both : (name : Ilk) (p : OnPath) (ps : List OnPath) → list_all (apart_paths p) ps ≡ true → named name p ≡ true → list_any (named name) ps ≡ true → ⊥
unfolding named apart_paths
not_both name p [] h one any = true≢false (sym any)
not_both name p (q ∷ ps) h one any =
    let a = and_parts (names_apart p.1 q.1) (list_all (apart_paths p) ps) h in by (or_cases (named name q) (list_any (named name) ps) any) a.0 (not_both name p ps a.1 one)
  where
    by : (named name q ≡ true) ⊎ (list_any (named name) ps ≡ true) → names_apart p.1 q.1 ≡ true → (list_any (named name) ps ≡ true → ⊥) → ⊥
    by (inl e) apart rest = true≢false (sym (name_from p.1.name q.1.name (name_is p.1.name name one ∙ sym (name_is q.1.name name e))) ∙ not-true (same_name p.1.name q.1.name) apart)
    by (inr e) apart rest = rest e

not_across : (name : Ilk) (ps qs : List OnPath) → all_pairs apart_paths (ps ++ qs) ≡ true → list_any (named name) ps ≡ true → list_any (named name) qs ≡ true → ⊥
not_across name [] qs h one any = true≢false (sym one)
not_across name (p ∷ ps) qs h one any =
    let a = and_parts (list_all (apart_paths p) (ps ++ qs)) (all_pairs apart_paths (ps ++ qs)) h in by (or_cases (named name p) (list_any (named name) ps) one) a.0 (not_across name ps qs a.1)
  where
    by : (named name p ≡ true) ⊎ (list_any (named name) ps ≡ true) → list_all (apart_paths p) (ps ++ qs) ≡ true → (list_any (named name) ps ≡ true → list_any (named name) qs ≡ true → ⊥) → ⊥
    by (inl e) apart rest = not_both name p (ps ++ qs) apart e (list_any-append (named name) ps qs ∙ or_right (list_any (named name) ps) (list_any (named name) qs) any)
    by (inr e) apart rest = rest e any

back_apart : (ps qs : List OnPath) → all_pairs apart_paths (ps ++ qs) ≡ true → all_pairs apart_paths qs ≡ true
back_apart [] qs h = h
back_apart (p ∷ ps) qs h = back_apart ps qs (and_parts (list_all (apart_paths p) (ps ++ qs)) (all_pairs apart_paths (ps ++ qs)) h).1

-- a row stands under one root alone
one_root : (types : List SegType) (name : Ilk) (a b : List ℕ) (ps : List OnPath) → all_pairs apart_paths ps ≡ true → list_any (is_at types name a) ps ≡ true → list_any (is_at types name b) ps ≡ true → a ≡ b
unfolding named apart_paths
one_root types name a b [] h x y = absurd (true≢false (sym x))
one_root types name a b (p ∷ ps) h x y =
    let parts = and_parts (list_all (apart_paths p) ps) (all_pairs apart_paths ps) h in
    by (or_cases (is_at types name a p) (list_any (is_at types name a) ps) x) (or_cases (is_at types name b p) (list_any (is_at types name b) ps) y) parts.0 (one_root types name a b ps parts.1)
  where
    by : (is_at types name a p ≡ true) ⊎ (list_any (is_at types name a) ps ≡ true) → (is_at types name b p ≡ true) ⊎ (list_any (is_at types name b) ps ≡ true) → list_all (apart_paths p) ps ≡ true
        → (list_any (is_at types name a) ps ≡ true → list_any (is_at types name b) ps ≡ true → a ≡ b) → a ≡ b
    by (inl e) (inl f) apart rest =
        sym ((bytes_eq-Decides (root_key_of types p.0) a).0 (and_parts (same_name p.1.name name) (bytes_eq (root_key_of types p.0) a) e).1)
        ∙ (bytes_eq-Decides (root_key_of types p.0) b).0 (and_parts (same_name p.1.name name) (bytes_eq (root_key_of types p.0) b) f).1
    by (inl e) (inr f) apart rest = absurd (not_both name p ps apart (and_parts (same_name p.1.name name) (bytes_eq (root_key_of types p.0) a) e).0 (at_named types name b ps f))
    by (inr e) (inl f) apart rest = absurd (not_both name p ps apart (and_parts (same_name p.1.name name) (bytes_eq (root_key_of types p.0) b) f).0 (at_named types name a ps e))
    by (inr e) (inr f) apart rest = rest e f

pub under_one_root : (schema : Schema) (rows : List Row) (name : Ilk) (a b : List ℕ) → IsTrue (is_forest schema rows) → is_under schema rows name a ≡ true → is_under schema rows name b ≡ true → a ≡ b
under_one_root schema rows name a b forest x y = one_root schema.types name a b (paths_of schema.types rows) (paths_apart schema.types [] rows (forest_names schema rows forest)) x y

-- ---- a deletion, and an insertion

pub cut_survives : (schema : Schema) (rows : List Row) (name : Ilk) → IsTrue (is_forest schema rows) → Survive schema rows (without_span schema.types rows name)
cut_survives schema rows name forest other root under there =
    ap (list_any test) parts.small_is ∙ list_any-append test parts.front parts.back ∙ by (or_cases (list_any test parts.front) (list_any test (parts.part ++ parts.back)) in_large)
  where
    test : OnPath → Bool
    test = is_at schema.types other root

    parts : PathParts schema.types [] rows (without_span schema.types rows name)
    parts = cut_parts schema.types name [] rows

    apart : all_pairs apart_paths (parts.front ++ (parts.part ++ parts.back)) ≡ true
    apart = subst (λ (ps : List OnPath). all_pairs apart_paths ps ≡ true) parts.large_is (paths_apart schema.types [] rows (forest_names schema rows forest))

    in_large : (list_any test parts.front || list_any test (parts.part ++ parts.back)) ≡ true
    in_large = sym (list_any-append test parts.front (parts.part ++ parts.back)) ∙ ap (list_any test) (sym parts.large_is) ∙ under

    flip : (b : Bool) → not b ≡ false → b ≡ true
    flip true e = refl
    flip false e = absurd (true≢false e)

    is_left : (list_any (named other) parts.front || list_any (named other) parts.back) ≡ true
    is_left =
        sym (list_any-append (named other) parts.front parts.back) ∙ ap (list_any (named other)) (sym parts.small_is)
        ∙ flip (list_any (named other) (paths_of schema.types (without_span schema.types rows name))) (sym (rows_named schema.types other [] (without_span schema.types rows name)) ∙ there)

    gone : list_any test parts.part ≡ true → (list_any (named other) parts.front ≡ true) ⊎ (list_any (named other) parts.back ≡ true) → ⊥
    gone e (inl f) =
        not_across other parts.front (parts.part ++ parts.back) apart f
        (list_any-append (named other) parts.part parts.back ∙ or_left (list_any (named other) parts.part) (list_any (named other) parts.back) (at_named schema.types other root parts.part e))
    gone e (inr f) = not_across other parts.part parts.back (back_apart parts.front (parts.part ++ parts.back) apart) (at_named schema.types other root parts.part e) f

    behind : (list_any test parts.part ≡ true) ⊎ (list_any test parts.back ≡ true) → (list_any test parts.front || list_any test parts.back) ≡ true
    behind (inl e) = absurd (gone e (or_cases (list_any (named other) parts.front) (list_any (named other) parts.back) is_left))
    behind (inr e) = or_right (list_any test parts.front) (list_any test parts.back) e

    by : (list_any test parts.front ≡ true) ⊎ (list_any test (parts.part ++ parts.back) ≡ true) → (list_any test parts.front || list_any test parts.back) ≡ true
    by (inl e) = or_left (list_any test parts.front) (list_any test parts.back) e
    by (inr e) = behind (or_cases (list_any test parts.part) (list_any test parts.back) (sym (list_any-append test parts.part parts.back) ∙ e))

pub insertion_survives : (schema : Schema) (rows : List Row) (new : Row) → Survive schema rows (inserted schema rows new)
insertion_survives schema rows new other root under there =
    ap (list_any test) parts.large_is ∙ list_any-append test parts.front (parts.part ++ parts.back)
    ∙ by (or_cases (list_any test parts.front) (list_any test parts.back) (sym (list_any-append test parts.front parts.back) ∙ ap (list_any test) (sym parts.small_is) ∙ under))
  where
    test : OnPath → Bool
    test = is_at schema.types other root

    parts : PathParts schema.types [] (inserted schema rows new) rows
    parts = insert_parts schema rows new

    by : (list_any test parts.front ≡ true) ⊎ (list_any test parts.back ≡ true) → (list_any test parts.front || list_any test (parts.part ++ parts.back)) ≡ true
    by (inl e) = or_left (list_any test parts.front) (list_any test (parts.part ++ parts.back)) e
    by (inr e) =
        or_right (list_any test parts.front) (list_any test (parts.part ++ parts.back))
        (list_any-append test parts.part parts.back ∙ or_right (list_any test parts.part) (list_any test parts.back) e)

-- ---- a replacement

abbrev pub changed_row : Ilk → List ℕ → Row → Row
changed_row name content row = cond (same_name row.name name) (with_content row content) row

-- new content leaves a row's sequence field
abbrev pub KeepsKey : List SegType → Ilk → List ℕ → Row → Type 0
KeepsKey types name content row = row_key types (changed_row name content row) ≡ row_key types row

others_keep : (types : List SegType) (name : Ilk) (content : List ℕ) (row : Row) (rows : List Row) → same_name row.name name ≡ true → list_all (names_apart row) rows ≡ true
    → AllByRecursion (KeepsKey types name content) rows
others_keep types name content row [] e h = tt
others_keep types name content row (other ∷ rows) e h =
    let a = and_parts (names_apart row other) (list_all (names_apart row) rows) h in
    let differs : same_name other.name name ≡ false =
    false_from_ne_true (same_name other.name name) (λ t. true≢false (sym (name_from row.name other.name (name_is row.name name e ∙ sym (name_is other.name name t))) ∙ not-true (same_name row.name other.name) a.0)) in
    (ap (λ b. row_key types (cond b (with_content other content) other)) differs, others_keep types name content row rows e a.1)

keys_kept : (schema : Schema) (whole : List Row) (name : Ilk) (content : List ℕ) (path rows : List Row) → all_pairs names_apart rows ≡ true
    → option_map_or (λ (p : OnPath). may_replace schema whole content p.0 p.1) (find (λ (p : OnPath). same_name p.1.name name) (with_paths (row_level schema.types) path rows)) false ≡ true
    → AllByRecursion (KeepsKey schema.types name content) rows
keys_kept schema whole name content path [] h k = tt
keys_kept schema whole name content path (row ∷ rows) h k =
    let a = and_parts (list_all (names_apart row) rows) (all_pairs names_apart rows) h in
    by (same_name row.name name) refl a.0 (keys_kept schema whole name content next rows a.1) k
  where
    next : List Row
    next = path_with (row_level schema.types) path row

    by : (b : Bool) → same_name row.name name ≡ b → list_all (names_apart row) rows ≡ true
        → (option_map_or (λ (p : OnPath). may_replace schema whole content p.0 p.1) (find (λ (p : OnPath). same_name p.1.name name) (with_paths (row_level schema.types) next rows)) false ≡ true → AllByRecursion (KeepsKey schema.types name content) rows)
        → option_map_or (λ (p : OnPath). may_replace schema whole content p.0 p.1) (cond b (Some (next, row)) (find (λ (p : OnPath). same_name p.1.name name) (with_paths (row_level schema.types) next rows))) false ≡ true
        → AllByRecursion (KeepsKey schema.types name content) (row ∷ rows)
    by true e apart rest may =
        let b = and_parts (has_length schema.types (with_content row content) && bytes_eq (row_key schema.types (with_content row content)) (row_key schema.types row)) _ may in
        let key = (and_parts (has_length schema.types (with_content row content)) (bytes_eq (row_key schema.types (with_content row content)) (row_key schema.types row)) b.0).1 in (
          ap (λ c. row_key schema.types (cond c (with_content row content) row)) e ∙ (bytes_eq-Decides (row_key schema.types (with_content row content)) (row_key schema.types row)).0 key,
          others_keep schema.types name content row rows e apart,
        )
    by false e apart rest may = (ap (λ c. row_key schema.types (cond c (with_content row content) row)) e, rest may)

same_level : (types : List SegType) (name : Ilk) (content : List ℕ) (row : Row) → row_level types (changed_row name content row) ≡ row_level types row
same_level types name content row = by (same_name row.name name)
  where
    by : (b : Bool) → row_level types (cond b (with_content row content) row) ≡ row_level types row
    by true = refl
    by false = refl

same_row_name : (name : Ilk) (content : List ℕ) (row : Row) → (changed_row name content row).name ≡ row.name
same_row_name name content row = by (same_name row.name name)
  where
    by : (b : Bool) → (let r : Row = cond b (with_content row content) row in r.name) ≡ row.name
    by true = refl
    by false = refl

filter_changed : (types : List SegType) (name : Ilk) (content : List ℕ) (level other : ℕ) (path : List Row) → other ≡ level
    → filter (λ r. nat_lt (row_level types r) other) (map (changed_row name content) path) ≡ map (changed_row name content) (filter (λ r. nat_lt (row_level types r) level) path)
filter_changed types name content level other [] e = refl
filter_changed types name content level other (row ∷ path) e =
    ap (λ b. cond b (changed_row name content row ∷ filter (λ r. nat_lt (row_level types r) other) (map (changed_row name content) path)) (filter (λ r. nat_lt (row_level types r) other) (map (changed_row name content) path)))
    (λ i. nat_lt (same_level types name content row i) (e i))
    ∙ by (nat_lt (row_level types row) level) (filter_changed types name content level other path e)
  where
    by : (b : Bool) → filter (λ r. nat_lt (row_level types r) other) (map (changed_row name content) path) ≡ map (changed_row name content) (filter (λ r. nat_lt (row_level types r) level) path)
        → cond b (changed_row name content row ∷ filter (λ r. nat_lt (row_level types r) other) (map (changed_row name content) path)) (filter (λ r. nat_lt (row_level types r) other) (map (changed_row name content) path))
        ≡ map (changed_row name content) (cond b (row ∷ filter (λ r. nat_lt (row_level types r) level) path) (filter (λ r. nat_lt (row_level types r) level) path))
    by true rest = ap (λ rs. changed_row name content row ∷ rs) rest
    by false rest = rest

map_one : (f : Row → Row) (rows : List Row) (row : Row) → map f (rows ++ row ∷ []) ≡ map f rows ++ f row ∷ []
map_one f [] row = refl
map_one f (r ∷ rows) row = ap (λ rs. f r ∷ rs) (map_one f rows row)

path_changed : (types : List SegType) (name : Ilk) (content : List ℕ) (path : List Row) (row : Row)
    → path_with (row_level types) (map (changed_row name content) path) (changed_row name content row) ≡ map (changed_row name content) (path_with (row_level types) path row)
path_changed types name content path row =
    ap (λ rs. rs ++ changed_row name content row ∷ [])
    (filter_changed types name content (row_level types row) (row_level types (changed_row name content row)) path (same_level types name content row))
    ∙ sym (map_one (changed_row name content) (filter (λ r. nat_lt (row_level types r) (row_level types row)) path) row)

each_filter : (P : Row → Type 0) (p : Row → Bool) (rows : List Row) → AllByRecursion P rows → AllByRecursion P (filter p rows)
each_filter P p [] h = h
each_filter P p (row ∷ rows) h = by (p row) (each_filter P p rows h.1)
  where
    by : (b : Bool) → AllByRecursion P (filter p rows) → AllByRecursion P (cond b (row ∷ filter p rows) (filter p rows))
    by true rest = (h.0, rest)
    by false rest = rest

each_one : (P : Row → Type 0) (rows : List Row) (row : Row) → AllByRecursion P rows → P row → AllByRecursion P (rows ++ row ∷ [])
each_one P [] row h one = (one, tt)
each_one P (r ∷ rows) row h one = (h.0, each_one P rows row h.1 one)

root_kept : (types : List SegType) (name : Ilk) (content : List ℕ) (path : List Row) → AllByRecursion (KeepsKey types name content) path
    → root_key_of types (map (changed_row name content) path) ≡ root_key_of types path
root_kept types name content [] h = refl
root_kept types name content (row ∷ path) h = h.0

-- each row stands under the root that it stood under
under_changed : (types : List SegType) (name : Ilk) (content : List ℕ) (other : Ilk) (root : List ℕ) (path rows : List Row) → AllByRecursion (KeepsKey types name content) path
    → AllByRecursion (KeepsKey types name content) rows
    → list_any (is_at types other root) (with_paths (row_level types) (map (changed_row name content) path) (map (changed_row name content) rows)) ≡ list_any (is_at types other root) (with_paths (row_level types) path rows)
under_changed types name content other root path [] h k = refl
under_changed types name content other root path (row ∷ rows) h k =
    let next : List Row = path_with (row_level types) path row in
    let keeps : AllByRecursion (KeepsKey types name content) next =
    each_one (KeepsKey types name content) (filter (λ r. nat_lt (row_level types r) (row_level types row)) path) row
    (each_filter (KeepsKey types name content) (λ r. nat_lt (row_level types r) (row_level types row)) path h) k.0 in
    ap (λ p. is_at types other root (p, changed_row name content row) || list_any (is_at types other root) (with_paths (row_level types) p (map (changed_row name content) rows)))
    (path_changed types name content path row)
    ∙ (λ i. (same_name (same_row_name name content row i) other && bytes_eq (root_kept types name content next keeps i) root) || under_changed types name content other root next rows keeps k.1 i)

pub replacement_survives : (schema : Schema) (rows : List Row) (name : Ilk) (content : List ℕ) → IsTrue (is_forest schema rows) → IsTrue (may_be_replaced schema rows name content)
    → Survive schema rows (replaced rows name content)
replacement_survives schema rows name content forest may other root under there =
    under_changed schema.types name content other root [] rows tt (keys_kept schema rows name content [] rows (forest_names schema rows forest) may) ∙ under
