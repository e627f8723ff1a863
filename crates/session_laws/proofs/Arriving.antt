-- A new row stands under the root that its insertion names.
use Rattle.std.proofs.Common.{◌≡◌, ℕ, Bool, true, false, not, cond, ◌&&◌, List, [], ◌∷◌, ◌++◌, ◌<◌, ◌≤◌, Option, None, Some, refl, sym, ap, subst, ◌∙◌, arith, append_assoc, take, drop}
use Rattle.std.specs.Prelude.{◌==◌, nat_lt, filter, is_none, IsTrue, ⊤}
use Rattle.std.specs.List.{list_all, list_any}
use Rattle.std.specs.Option.{option_map_or}
use Rattle.std.specs.Str.{bytes_eq}
use Rattle.std.proofs.lemmas.Bool.{true≢false, and_parts, and_from, or_left, or_right, not-true, le-ltb, ltb-true, ltb-false}
use Rattle.std.proofs.lemmas.List.{append-nil, take-append-drop}
use Rattle.std.proofs.lemmas.List.Folds.{list_any-append}
use Rattle.std.proofs.lemmas.Slice.Eq.{bytes_eq-Decides}
use Rattle.hal_base.specs.declared.place.Ilk.{Ilk}
use Rattle.hal_schema.specs.declared.row.Row.{Row}
use Rattle.hal_schema.specs.declared.schema.Schema.{Schema}
use Rattle.hal_schema.specs.declared.schema.SegType.{SegType}
use Rattle.hal_schema.specs.Row.{same_name, is_parent, row_level, row_key}
use Rattle.hal_schema.specs.SegType.{is_parent_code}
use Rattle.hal_schema.specs.Paths.{path_with, path_after, with_paths}
use Rattle.hal_schema.specs.Forest.{is_child_of, is_path, is_forest, keys_are_placed, rows_are_named, rows_are_below_parents, twins_rise, types_rise}
use Rattle.hal_schema.specs.Insertion.{inserted, insertion_place}
use Rattle.hal_schema.proofs.RowNames.{name_is, name_from}
use Rattle.position_state.specs.View.{root_key_of}
use Rattle.position_state.specs.Lawful.{is_under, names_its_root}
use Rattle.session_laws.proofs.PathParts.{OnPath, append_paths, insert_path}
use Rattle.session_laws.proofs.Surviving.{is_at, under_one_root}

-- ---- a path, all of whose rows stand under its first

-- a row isn't higher than the first, and stands under it
good : List SegType → List OnPath → Row → Row → Bool
good types ps root row = not (nat_lt (row_level types row) (row_level types root)) && list_any (is_at types row.name (row_key types root)) ps

abbrev Headed : List SegType → List OnPath → List Row → Type 0
Headed types ps [] = ⊤
Headed types ps (root ∷ more) = list_all (good types ps root) (root ∷ more) ≡ true

abbrev higher : List SegType → Row → List Row → List Row
higher types row path = filter (λ above. nat_lt (row_level types above) (row_level types row)) path

all_filter : (test p : Row → Bool) (rows : List Row) → list_all test rows ≡ true → list_all test (filter p rows) ≡ true
all_filter test p [] h = refl
all_filter test p (row ∷ rows) h = let a = and_parts (test row) (list_all test rows) h in by (p row) a.0 (all_filter test p rows a.1)
  where
    by : (b : Bool) → test row ≡ true → list_all test (filter p rows) ≡ true → list_all test (cond b (row ∷ filter p rows) (filter p rows)) ≡ true
    by true one rest = and_from (test row) (list_all test (filter p rows)) one rest
    by false one rest = rest

all_one : (test : Row → Bool) (rows : List Row) (row : Row) → list_all test rows ≡ true → test row ≡ true → list_all test (rows ++ row ∷ []) ≡ true
all_one test [] row h one = and_from (test row) true one refl
all_one test (r ∷ rows) row h one =
    let a = and_parts (test r) (list_all test rows) h in and_from (test r) (list_all test (rows ++ row ∷ [])) a.0 (all_one test rows row a.1 one)

-- what stands among some stands among more
good_more : (types : List SegType) (ps qs : List OnPath) (root row : Row) → good types ps root row ≡ true → good types (ps ++ qs) root row ≡ true
unfolding good
good_more types ps qs root row h =
    let a = and_parts (not (nat_lt (row_level types row) (row_level types root))) (list_any (is_at types row.name (row_key types root)) ps) h in
    and_from _ _ a.0 (list_any-append (is_at types row.name (row_key types root)) ps qs ∙ or_left _ _ a.1)

all_more : (types : List SegType) (ps qs : List OnPath) (root : Row) (rows : List Row) → list_all (good types ps root) rows ≡ true → list_all (good types (ps ++ qs) root) rows ≡ true
all_more types ps qs root [] h = refl
all_more types ps qs root (row ∷ rows) h =
    let a = and_parts (good types ps root row) (list_all (good types ps root) rows) h in
    and_from (good types (ps ++ qs) root row) (list_all (good types (ps ++ qs) root) rows) (good_more types ps qs root row a.0) (all_more types ps qs root rows a.1)

-- a row stands under the first of its own path
self_at : (types : List SegType) (root row : Row) (path : List Row) → root_key_of types path ≡ row_key types root → is_at types row.name (row_key types root) (path, row) ≡ true
self_at types root row path e = and_from _ _ (name_from row.name row.name refl) ((bytes_eq-Decides (root_key_of types path) (row_key types root)).1 e)

good_self : (types : List SegType) (ps : List OnPath) (root row : Row) (path : List Row) → nat_lt (row_level types row) (row_level types root) ≡ false → root_key_of types path ≡ row_key types root
    → good types (ps ++ (path, row) ∷ []) root row ≡ true
unfolding good
good_self types ps root row path low e =
    and_from _ _ (ap not low)
    (list_any-append (is_at types row.name (row_key types root)) ps ((path, row) ∷ []) ∙ or_right _ _ (or_left _ _ (self_at types root row path e)))

-- where the first isn't higher than a row, none of the path is
none_higher : (types : List SegType) (ps : List OnPath) (root row : Row) (rows : List Row) → row_level types row ≤ row_level types root → list_all (good types ps root) rows ≡ true → higher types row rows ≡ []
unfolding good
none_higher types ps root row [] le h = refl
none_higher types ps root row (r ∷ rows) le h =
    let a = and_parts (good types ps root r) (list_all (good types ps root) rows) h in
    let b = and_parts (not (nat_lt (row_level types r) (row_level types root))) (list_any (is_at types r.name (row_key types root)) ps) a.0 in
    let deep : row_level types root ≤ row_level types r = ltb-false (row_level types r) (row_level types root) (not-true (nat_lt (row_level types r) (row_level types root)) b.0) in
    ap (λ b. cond b (r ∷ higher types row rows) (higher types row rows)) (le-ltb (row_level types r) (row_level types row) (omega (arith, le, deep))) ∙ none_higher types ps root row rows le a.1

-- what of such a path is above a row: nothing, or the first and rows that stand under it
abbrev Upper : List SegType → List OnPath → Row → List Row → Type 0
Upper types ps row [] = ⊤
Upper types ps row (root ∷ more) = (list_all (good types ps root) (root ∷ more) ≡ true) × (nat_lt (row_level types root) (row_level types row) ≡ true)

upper : (types : List SegType) (ps : List OnPath) (row : Row) (path : List Row) → Headed types ps path → Upper types ps row (higher types row path)
upper types ps row [] h = tt
upper types ps row (root ∷ more) h = by (nat_lt (row_level types root) (row_level types row)) refl
  where
    a : (good types ps root root ≡ true) × (list_all (good types ps root) more ≡ true)
    a = and_parts (good types ps root root) (list_all (good types ps root) more) h

    by : (b : Bool) → nat_lt (row_level types root) (row_level types row) ≡ b → Upper types ps row (cond b (root ∷ higher types row more) (higher types row more))
    by true e = (and_from _ _ a.0 (all_filter (good types ps root) (λ above. nat_lt (row_level types above) (row_level types row)) more a.1), e)
    by false e = subst (Upper types ps row) (sym (none_higher types ps root row more (ltb-false (row_level types root) (row_level types row) e) a.1)) tt

headed_step : (types : List SegType) (ps : List OnPath) (row : Row) (above : List Row) → Upper types ps row above → Headed types (ps ++ (above ++ row ∷ [], row) ∷ []) (above ++ row ∷ [])
headed_step types ps row [] h = and_from _ _ (good_self types ps row row (row ∷ []) (le-ltb (row_level types row) (row_level types row) (omega arith)) refl) refl
headed_step types ps row (root ∷ more) h =
    let lt : row_level types root < row_level types row = ltb-true (row_level types root) (row_level types row) h.1 in
    all_one (good types (ps ++ (root ∷ more ++ row ∷ [], row) ∷ []) root) (root ∷ more) row (all_more types ps ((root ∷ more ++ row ∷ [], row) ∷ []) root (root ∷ more) h.0)
    (good_self types ps root row (root ∷ more ++ row ∷ []) (le-ltb (row_level types row) (row_level types root) (omega (arith, lt))) refl)

headed : (types : List SegType) (ps : List OnPath) (path rows : List Row) → Headed types ps path → Headed types (ps ++ with_paths (row_level types) path rows) (path_after (row_level types) path rows)
headed types ps path [] h = subst (λ (qs : List OnPath). Headed types qs path) (sym (append-nil ps)) h
headed types ps path (row ∷ rows) h =
    let next : List Row = path_with (row_level types) path row in
    subst (λ (qs : List OnPath). Headed types qs (path_after (row_level types) next rows)) (append_assoc ps ((next, row) ∷ []) (with_paths (row_level types) next rows))
    (headed types (ps ++ (next, row) ∷ []) next rows (headed_step types ps row (higher types row path) (upper types ps row path h)))

-- ---- the new row

-- the last row of a path is a child of the one before it
record Above (test : Row → Bool) (new : Row) : Type 0 where
  row : Row
  passes : test row ≡ true
  parent : is_parent row new ≡ true

last_above : (types : List SegType) (test : Row → Bool) (new above : Row) (more : List Row) → is_path types (Some above) (more ++ new ∷ []) ≡ true → list_all test (above ∷ more) ≡ true → Above test new
last_above types test new above [] h all =
    let a = and_parts (is_parent above new && is_parent_code types above.code new.code) true h in
    record { row = above; passes = (and_parts (test above) true all).0; parent = (and_parts (is_parent above new) (is_parent_code types above.code new.code) a.0).0 }
last_above types test new above (row ∷ more) h all =
    last_above types test new row more (and_parts (is_child_of types (Some above) row) (is_path types (Some row) (more ++ new ∷ [])) h).1 (and_parts (test above) (list_all test (row ∷ more)) all).1

passes_at : (test : OnPath → Bool) (front : List OnPath) (p : OnPath) (back : List OnPath) → list_all test (front ++ p ∷ back) ≡ true → test p ≡ true
passes_at test [] p back h = (and_parts (test p) (list_all test back) h).0
passes_at test (q ∷ front) p back h = passes_at test front p back (and_parts (test q) (list_all test (front ++ p ∷ back)) h).1

forest_paths : (schema : Schema) (rows : List Row) → IsTrue (is_forest schema rows) → rows_are_below_parents schema.types rows ≡ true
forest_paths schema rows h =
    let named : Bool = rows_are_named schema.types rows in
    let below : Bool = rows_are_below_parents schema.types rows in
    let a = and_parts (named && below && types_rise rows && twins_rise schema rows) (keys_are_placed schema rows) h in
    let b = and_parts (named && below && types_rise rows) (twins_rise schema rows) a.0 in
    let c = and_parts (named && below) (types_rise rows) b.0 in
    (and_parts named below c.0).1

pub arrives : (schema : Schema) (rows : List Row) (new : Row) (root : List ℕ) → IsTrue (is_forest schema rows) → IsTrue (is_forest schema (inserted schema rows new)) → names_its_root schema rows new root ≡ true
    → is_under schema (inserted schema rows new) new.name root ≡ true
unfolding good
arrives schema rows new root old forest names =
    ap (list_any test) (insert_path schema rows new) ∙ list_any-append test before ((next, new) ∷ behind) ∙ or_right (list_any test before) _ (or_left (test (next, new)) _ at)
  where
    types : List SegType
    types = schema.types

    n : ℕ
    n = insertion_place schema rows new

    path : List Row
    path = path_after (row_level types) [] (take n rows)

    next : List Row
    next = path_with (row_level types) path new

    before : List OnPath
    before = with_paths (row_level types) [] (take n rows)

    behind : List OnPath
    behind = with_paths (row_level types) next (drop n rows)

    test : OnPath → Bool
    test = is_at types new.name root

    chain : is_path types None next ≡ true
    chain = passes_at (λ p. is_path types None p.0) before (next, new) behind
        (ap (list_all (λ (p : OnPath). is_path types None p.0)) (sym (insert_path schema rows new)) ∙ forest_paths schema (inserted schema rows new) forest)

    -- a root names its own key
    own : (o : Option Ilk) → is_none o ≡ true → option_map_or (λ parent. is_under schema rows parent root) o (bytes_eq (row_key types new) root) ≡ true → row_key types new ≡ root
    own None e h = (bytes_eq-Decides (row_key types new) root).0 h
    own (Some parent) e h = absurd (true≢false (sym e))

    stood : (name : Ilk) (key : List ℕ) → list_any (is_at types name key) before ≡ true → is_under schema rows name key ≡ true
    stood name key h =
        ap (λ rs. list_any (is_at types name key) (with_paths (row_level types) [] rs)) (sym (take-append-drop n rows))
        ∙ ap (list_any (is_at types name key)) (append_paths types [] (take n rows) (drop n rows))
        ∙ list_any-append (is_at types name key) before (with_paths (row_level types) path (drop n rows)) ∙ or_left _ _ h

    -- any other names the root above its parent
    theirs : (first above : Row) (o : Option Ilk) → list_any (is_at types above.name (row_key types first)) before ≡ true → option_map_or (same_name above.name) o false ≡ true
        → option_map_or (λ parent. is_under schema rows parent root) o (bytes_eq (row_key types new) root) ≡ true → row_key types first ≡ root
    theirs first above None h e k = absurd (true≢false (sym e))
    theirs first above (Some parent) h e k =
        under_one_root schema rows parent (row_key types first) root old (subst (λ (name : Ilk). is_under schema rows name (row_key types first) ≡ true) (name_is above.name parent e) (stood above.name (row_key types first) h)) k

    root_is : (above : List Row) → Upper types before new above → is_path types None (above ++ new ∷ []) ≡ true → root_key_of types (above ++ new ∷ []) ≡ root
    root_is [] u h =
        let a = and_parts (new.code == 1 && is_none new.parent) true h in own new.parent (and_parts (new.code == 1) (is_none new.parent) a.0).1 names
    root_is (first ∷ more) u h =
        let a = last_above types (good types before first) new first more (and_parts (is_child_of types None first) (is_path types (Some first) (more ++ new ∷ [])) h).1 u.0 in
        theirs first a.row new.parent
        (and_parts (not (nat_lt (row_level types a.row) (row_level types first))) (list_any (is_at types a.row.name (row_key types first)) before) a.passes).1 a.parent names

    at : test (next, new) ≡ true
    at = and_from _ _ (name_from new.name new.name refl)
        ((bytes_eq-Decides (root_key_of types next) root).1 (root_is (higher types new path) (upper types before new path (headed types [] [] (take n rows) tt)) chain))
