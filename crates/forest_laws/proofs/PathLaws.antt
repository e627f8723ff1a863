-- What the paths by levels are.
use Rattle.std.proofs.Common.{◌≡◌, ℕ, zero, suc, ◌+◌, ◌-◌, ◌<◌, ◌≤◌, ◌==◌, nat_lt, Bool, true, false, ◌&&◌, List, [], ◌∷◌, ◌++◌, length, map, reverse, take, drop, Option, Some, None, ◌⊎◌, inl, inr, refl, sym, ap, subst, ◌∙◌, arith}
use Rattle.std.specs.Prelude.{filter, find, option_and_then, sum_by, is_none}
use Rattle.std.specs.List.{list_all, AllByRecursion}
use Rattle.std.specs.Option.{option_map_or}
use Rattle.std.proofs.lemmas.Bool.{and_parts, and_from, eqb-true}
use Rattle.std.proofs.lemmas.Grind.{reverse_onto}
use Rattle.std.proofs.lemmas.List.{append_assoc, append-nil, length-append, length-drop}
use Rattle.std.proofs.lemmas.List.Elements.{filter-append}
use Rattle.std.proofs.lemmas.List.Sums.{sum_by-append}
use Rattle.hal_base.specs.declared.place.Ilk.{Ilk}
use Rattle.hal_schema.specs.declared.row.Row.{Row}
use Rattle.hal_schema.specs.declared.schema.SegType.{SegType}
use Rattle.hal_schema.specs.declared.schema.KeyField.{KeyField}
use Rattle.hal_schema.specs.declared.schema.Schema.{Schema}
use Rattle.hal_schema.specs.SegType.{type_of, parent_code, is_parent_code, ancestry, key_bytes, path_key_bytes, portion}
use Rattle.hal_schema.specs.Row.{same_name, row_named, row_level, row_key, is_parent}
use Rattle.hal_schema.specs.Paths.{path_with, path_after, with_paths, concatenated_key}
use Rattle.hal_schema.specs.Forest.{all_pairs, names_apart, has_length, is_child_of, is_path}
use Rattle.hal_schema.specs.Facts.{IsKept, SchemasAreKept}
use Rattle.forest_laws.specs.Paths.{parents_within, path_by_parents, PathsAreByParents, PathsAreAncestries, KeysAreLong, PathsGoOn, PathsBeginAnew, PathsAppend}
use Rattle.forest_laws.proofs.Lists.{Among, among_passes, among_append, among_left, among_middle, among_filter, among_split, all_among, filter_all, pairs_at, find_at}
use Rattle.hal_schema.proofs.RowNames.{name_from}
use Rattle.forest_laws.proofs.Names.{none_is, parent_code_is}
use Rattle.forest_laws.proofs.Carried.{above_in, Kept, carried, after_append, with_append}
use Rattle.forest_laws.proofs.Parents.{Parts, parts_of, path_among, child_parent, row_known}

-- ---- of lists alone

pub go_on_at : {X : Type 0} (level : X → ℕ) (path more : List X) (x : X) → list_all (λ above. nat_lt (level above) (level x)) path ≡ true → path_with level (path ++ more) x ≡ path ++ path_with level more x
go_on_at level path more x h =
    ap (λ l. l ++ x ∷ []) (filter-append (λ above. nat_lt (level above) (level x)) path more)
    ∙ ap (λ l. (l ++ filter (λ above. nat_lt (level above) (level x)) more) ++ x ∷ []) (filter_all (λ above. nat_lt (level above) (level x)) path h)
    ∙ append_assoc path (filter (λ above. nat_lt (level above) (level x)) more) (x ∷ [])

pub go_on_from : {X : Type 0} (level : X → ℕ) (path more below : List X) → list_all (λ x. list_all (λ above. nat_lt (level above) (level x)) path) below ≡ true
    → with_paths level (path ++ more) below ≡ map (λ p. (path ++ p.0, p.1)) (with_paths level more below)
go_on_from level path more [] h = refl
go_on_from level path more (x ∷ below) h =
    let a = and_parts (list_all (λ above. nat_lt (level above) (level x)) path) (list_all (λ x. list_all (λ above. nat_lt (level above) (level x)) path) below) h in
    ap (λ l. (l, x) ∷ with_paths level l below) (go_on_at level path more x a.0) ∙ ap (λ l. (path ++ path_with level more x, x) ∷ l) (go_on_from level path (path_with level more x) below a.1)

after_goes_from : {X : Type 0} (level : X → ℕ) (path more below : List X) → list_all (λ x. list_all (λ above. nat_lt (level above) (level x)) path) below ≡ true → path_after level (path ++ more) below ≡ path ++ path_after level more below
after_goes_from level path more [] h = refl
after_goes_from level path more (x ∷ below) h =
    let a = and_parts (list_all (λ above. nat_lt (level above) (level x)) path) (list_all (λ x. list_all (λ above. nat_lt (level above) (level x)) path) below) h in
    ap (λ l. path_after level l below) (go_on_at level path more x a.0) ∙ after_goes_from level path (path_with level more x) below a.1

-- the path that such a list leaves goes on as well
pub after_goes_on : {X : Type 0} (level : X → ℕ) (path below : List X) → list_all (λ x. list_all (λ above. nat_lt (level above) (level x)) path) below ≡ true → path_after level path below ≡ path ++ path_after level [] below
after_goes_on level path below h = ap (λ l. path_after level l below) (sym (append-nil path)) ∙ after_goes_from level path [] below h

pub paths_go_on : (X : Type 0) → PathsGoOn X
paths_go_on X level path below h = ap (λ l. with_paths level l below) (sym (append-nil path)) ∙ go_on_from level path [] below h

pub paths_begin_anew : (X : Type 0) → PathsBeginAnew X
paths_begin_anew X level path root behind h = ap (λ l. (l ++ root ∷ [], root) ∷ with_paths level (l ++ root ∷ []) behind) h

pub paths_append : (X : Type 0) → PathsAppend X
paths_append X level path front back = with_append level path front back

-- ---- what holds of each row behind those before it holds of all paths

pub each_path : (level : Row → ℕ) (P : List Row × Row → Type 0) (done rows : List Row) → ((front : List Row) (row : Row) (back : List Row) → done ++ rows ≡ front ++ row ∷ back → P (path_with level (path_after level [] front) row, row))
    → AllByRecursion P (with_paths level (path_after level [] done) rows)
each_path level P done [] h = tt
each_path level P done (row ∷ rows) h =
    let more : path_after level [] (done ++ row ∷ []) ≡ path_with level (path_after level [] done) row = after_append level [] done (row ∷ []) in (
      h done row rows refl,
      subst (λ l. AllByRecursion P (with_paths level l rows)) more (each_path level P (done ++ row ∷ []) rows (λ front r back e. h front r back (sym (append_assoc done (row ∷ []) rows) ∙ e))),
    )

-- ---- codes

reverse_first : {X : Type 0} (x : X) (xs : List X) → reverse (x ∷ xs) ≡ reverse xs ++ x ∷ []
reverse_first x xs = reverse_onto xs x []

child_codes : (schema : Schema) → IsKept schema → (above row : Row) → is_child_of schema.types (Some above) row ≡ true → ancestry (parent_code schema.types) row.code ≡ row.code ∷ ancestry (parent_code schema.types) above.code
child_codes schema kept above row h =
    (kept.below above.code row.code (parent_code_is schema.types above.code row.code (and_parts (is_parent above row) (is_parent_code schema.types above.code row.code) h).1)).path

codes_below : (schema : Schema) → IsKept schema → (above : Row) (path : List Row) (row : Row) → is_path schema.types (Some above) (path ++ row ∷ []) ≡ true
    → reverse (map (λ r. r.code) (path ++ row ∷ [])) ++ ancestry (parent_code schema.types) above.code ≡ ancestry (parent_code schema.types) row.code
codes_below schema kept above [] row h = sym (child_codes schema kept above row (and_parts (is_child_of schema.types (Some above) row) true h).0)
codes_below schema kept above (q ∷ path) row h =
    let types = schema.types in
    let a = and_parts (is_child_of types (Some above) q) (is_path types (Some q) (path ++ row ∷ [])) h in
    let rest = map (λ (r : Row). r.code) (path ++ row ∷ []) in
    let up = ancestry (parent_code types) in
    ap (λ l. l ++ up above.code) (reverse_first q.code rest) ∙ append_assoc (reverse rest) (q.code ∷ []) (up above.code)
    ∙ ap (λ l. reverse rest ++ l) (sym (child_codes schema kept above q a.0)) ∙ codes_below schema kept q path row a.1

root_ancestry : (schema : Schema) → IsKept schema → (row : Row) → row.code ≡ 1 → ancestry (parent_code schema.types) row.code ≡ row.code ∷ []
root_ancestry schema kept row e =
    ap (ancestry (parent_code schema.types)) e ∙ ap (λ (o : Option ℕ). 1 ∷ option_map_or (λ (c : ℕ). []) o []) kept.root ∙ ap (λ (n : ℕ). n ∷ []) (sym e)

pub path_codes : (schema : Schema) → IsKept schema → (path : List Row) (row : Row) → is_path schema.types None (path ++ row ∷ []) ≡ true → reverse (map (λ r. r.code) (path ++ row ∷ [])) ≡ ancestry (parent_code schema.types) row.code
path_codes schema kept [] row h =
    let a = and_parts (is_child_of schema.types None row) true h in
    let one = eqb-true row.code 1 (and_parts (row.code == 1) (is_none row.parent) a.0).0 in
    sym (root_ancestry schema kept row one)
path_codes schema kept (q ∷ path) row h =
    let types = schema.types in
    let a = and_parts (is_child_of types None q) (is_path types (Some q) (path ++ row ∷ [])) h in
    let one = eqb-true q.code 1 (and_parts (q.code == 1) (is_none q.parent) a.0).0 in
    let rest = map (λ (r : Row). r.code) (path ++ row ∷ []) in
    reverse_first q.code rest ∙ ap (λ l. reverse rest ++ l) (sym (root_ancestry schema kept q one)) ∙ codes_below schema kept q path row a.1

pub paths_are_ancestries : SchemasAreKept → PathsAreAncestries
paths_are_ancestries kept schema rows forest =
    let level = row_level schema.types in
    let parts = parts_of schema rows forest in
    each_path level (λ p. reverse (map (λ (row : Row). row.code) p.0) ≡ ancestry (parent_code schema.types) p.1.code) [] rows
    (λ front row back e. path_codes schema (kept schema) (above_in level (path_after level [] front) row) row (path_among schema front back row (subst (Parts schema) e parts)))

-- ---- lengths

portion_long : (start bytes : ℕ) (content : List ℕ) → 1 ≤ start → start + bytes ≤ length content + 1 → length (portion start bytes content) ≡ bytes
portion_long start bytes content from within =
    let n : (start - 1 + bytes) - (start - 1) ≡ bytes = omega arith in
    ap (λ k. length (take k (drop (start - 1) content))) n ∙ took bytes (drop (start - 1) content) (let d = length-drop (start - 1) content in omega (arith, d))
  where
    took : (n : ℕ) (xs : List ℕ) → n ≤ length xs → length (take n xs) ≡ n
    took zero xs h = refl
    took (suc n) [] h = absurd (omega arith)
    took (suc n) (x ∷ xs) h = let t = took n xs (omega arith) in omega (arith, t)

key_long_by : (t : SegType) (key : Option KeyField) (content : List ℕ) → length content ≡ t.bytes → ((k : KeyField) → key ≡ Some k → (1 ≤ k.start) × (k.start + k.bytes ≤ t.bytes + 1))
    → length (option_map_or (λ (k : KeyField). portion k.start k.bytes content) key []) ≡ option_map_or (λ (k : KeyField). k.bytes) key 0
key_long_by t None content e h = refl
key_long_by t (Some k) content e h = let a = h k refl in portion_long k.start k.bytes content a.0 (let w = a.1 in omega (arith, w, e))

key_long_at : (schema : Schema) → IsKept schema → (code : ℕ) (content : List ℕ) (o : Option SegType) → type_of schema.types code ≡ o → option_map_or (λ (t : SegType). length content == t.bytes) o false ≡ true
    → length (option_map_or (λ (k : KeyField). portion k.start k.bytes content) (option_and_then (λ (t : SegType). t.key) o) []) ≡ option_map_or (λ (k : KeyField). k.bytes) (option_and_then (λ (t : SegType). t.key) o) 0
key_long_at schema kept code content None e h = cc
key_long_at schema kept code content (Some t) e h =
    key_long_by t t.key content (eqb-true (length content) t.bytes h) (λ k is. let f = ((kept.types code t e).key k is).field in (f.from, f.within))

pub key_long : (schema : Schema) → IsKept schema → (row : Row) → has_length schema.types row ≡ true → length (row_key schema.types row) ≡ key_bytes schema.types row.code
key_long schema kept row h = key_long_at schema kept row.code row.content (type_of schema.types row.code) refl h

child_bytes : (schema : Schema) → IsKept schema → (above row : Row) → is_child_of schema.types (Some above) row ≡ true → path_key_bytes schema.types row.code ≡ key_bytes schema.types row.code + path_key_bytes schema.types above.code
child_bytes schema kept above row h =
    (kept.below above.code row.code (parent_code_is schema.types above.code row.code (and_parts (is_parent above row) (is_parent_code schema.types above.code row.code) h).1)).path_key

long_below : (schema : Schema) → IsKept schema → (above : Row) (path : List Row) (row : Row) → is_path schema.types (Some above) (path ++ row ∷ []) ≡ true → list_all (has_length schema.types) (path ++ row ∷ []) ≡ true
    → length (concatenated_key schema.types (path ++ row ∷ [])) + path_key_bytes schema.types above.code ≡ path_key_bytes schema.types row.code
long_below schema kept above [] row h long =
    let c = child_bytes schema kept above row (and_parts (is_child_of schema.types (Some above) row) true h).0 in
    let k = key_long schema kept row (and_parts (has_length schema.types row) true long).0 in
    let n = length-append (row_key schema.types row) [] in
    omega (arith, c, k, n)
long_below schema kept above (q ∷ path) row h long =
    let types = schema.types in
    let a = and_parts (is_child_of types (Some above) q) (is_path types (Some q) (path ++ row ∷ [])) h in
    let b = and_parts (has_length types q) (list_all (has_length types) (path ++ row ∷ [])) long in
    let c = child_bytes schema kept above q a.0 in
    let k = key_long schema kept q b.0 in
    let n = length-append (row_key types q) (concatenated_key types (path ++ row ∷ [])) in
    let rest = long_below schema kept q path row a.1 b.1 in
    omega (arith, c, k, n, rest)

root_bytes : (schema : Schema) → IsKept schema → (row : Row) → row.code ≡ 1 → path_key_bytes schema.types row.code ≡ key_bytes schema.types row.code
root_bytes schema kept row e =
    let up = ap (sum_by (key_bytes schema.types)) (root_ancestry schema kept row e) in
    let one = sum_by-append (key_bytes schema.types) (row.code ∷ []) [] in
    up ∙ (let s : sum_by (key_bytes schema.types) (row.code ∷ []) ≡ key_bytes schema.types row.code = omega arith in s)

path_long : (schema : Schema) → IsKept schema → (path : List Row) (row : Row) → is_path schema.types None (path ++ row ∷ []) ≡ true → list_all (has_length schema.types) (path ++ row ∷ []) ≡ true
    → length (concatenated_key schema.types (path ++ row ∷ [])) ≡ path_key_bytes schema.types row.code
path_long schema kept [] row h long =
    let a = and_parts (is_child_of schema.types None row) true h in
    let one = eqb-true row.code 1 (and_parts (row.code == 1) (is_none row.parent) a.0).0 in
    let r = root_bytes schema kept row one in
    let k = key_long schema kept row (and_parts (has_length schema.types row) true long).0 in
    let n = length-append (row_key schema.types row) [] in
    omega (arith, r, k, n)
path_long schema kept (q ∷ path) row h long =
    let types = schema.types in
    let a = and_parts (is_child_of types None q) (is_path types (Some q) (path ++ row ∷ [])) h in
    let b = and_parts (has_length types q) (list_all (has_length types) (path ++ row ∷ [])) long in
    let one = eqb-true q.code 1 (and_parts (q.code == 1) (is_none q.parent) a.0).0 in
    let r = root_bytes schema kept q one in
    let k = key_long schema kept q b.0 in
    let n = length-append (row_key types q) (concatenated_key types (path ++ row ∷ [])) in
    let rest = long_below schema kept q path row a.1 b.1 in
    omega (arith, r, k, n, rest)

-- the rows of a path are among those before
pub path_within : (level : Row → ℕ) (x : Row) (rows : List Row) → Among x (path_after level [] rows) → Among x rows
path_within level x rows h = by (carried level x [] rows h)
  where
    by : Kept level x rows ⊎ (Among x [] × (list_all (λ y. nat_lt (level x) (level y)) rows ≡ true)) → Among x rows
    by (inl k) = subst (λ (l : List Row). Among x l) (sym k.split) (among_middle x k.front k.behind)
    by (inr n) = absurd n.0

pub path_rows : (level : Row → ℕ) (front back : List Row) (row x : Row) → Among x (path_with level (path_after level [] front) row) → Among x (front ++ row ∷ back)
path_rows level front back row x h = by (among_append x (above_in level (path_after level [] front) row) (row ∷ []) h)
  where
    by : Among x (above_in level (path_after level [] front) row) ⊎ Among x (row ∷ []) → Among x (front ++ row ∷ back)
    by (inl a) = among_left x front (row ∷ back) (path_within level x front (among_filter (λ above. nat_lt (level above) (level row)) x (path_after level [] front) a).0)
    by (inr (inl e)) = subst (λ (r : Row). Among r (front ++ row ∷ back)) e (among_middle row front back)
    by (inr (inr n)) = absurd n

pub keys_are_long : SchemasAreKept → KeysAreLong
keys_are_long kept schema rows forest =
    let types = schema.types in
    let level = row_level types in
    let parts = parts_of schema rows forest in
    each_path level (λ p. length (concatenated_key types p.0) ≡ path_key_bytes types p.1.code) [] rows
    (λ front row back e. path_long schema (kept schema) (above_in level (path_after level [] front) row) row (path_among schema front back row (subst (Parts schema) e parts))
    (all_among (has_length types) (path_with level (path_after level [] front) row) (λ x h. among_passes (has_length types) x rows (subst (λ (l : List Row). Among x l) (sym e) (path_rows level front back row x h)) parts.long)))

-- ---- by parents

pub last_row : {X : Type 0} (xs : List X) → (xs ≡ []) ⊎ ((ys : List X) × (y : X) × (xs ≡ ys ++ y ∷ []))
last_row [] = inl refl
last_row {X} (x ∷ xs) = by (last_row xs)
  where
    by : (xs ≡ []) ⊎ ((ys : List X) × (y : X) × (xs ≡ ys ++ y ∷ [])) → (x ∷ xs ≡ []) ⊎ ((ys : List X) × (y : X) × (x ∷ xs ≡ ys ++ y ∷ []))
    by (inl e) = inr ([], x, ap (λ l. x ∷ l) e)
    by (inr s) = inr (x ∷ s.0, s.1, ap (λ l. x ∷ l) s.2)

pub path_front : (types : List SegType) (up : Option Row) (xs ys : List Row) → is_path types up (xs ++ ys) ≡ true → is_path types up xs ≡ true
path_front types up [] ys h = refl
path_front types up (x ∷ xs) ys h =
    let a = and_parts (is_child_of types up x) (is_path types (Some x) (xs ++ ys)) h in
    and_from (is_child_of types up x) (is_path types (Some x) xs) a.0 (path_front types (Some x) xs ys a.1)

pub path_step : (types : List SegType) (up : Option Row) (xs : List Row) (above row : Row) → is_path types up ((xs ++ above ∷ []) ++ row ∷ []) ≡ true → is_child_of types (Some above) row ≡ true
path_step types up [] above row h =
    (and_parts (is_child_of types (Some above) row) true (and_parts (is_child_of types up above) (is_child_of types (Some above) row && true) h).1).0
path_step types up (x ∷ xs) above row h = path_step types (Some x) xs above row (and_parts (is_child_of types up x) (is_path types (Some x) ((xs ++ above ∷ []) ++ row ∷ [])) h).1

-- a row is found by its name
pub named_found : (rows : List Row) (row : Row) → all_pairs names_apart rows ≡ true → Among row rows → row_named rows row.name ≡ Some row
named_found rows row apart among =
    let s = among_split row rows among in
    let test : Row → Bool = λ r. same_name r.name row.name in
    ap (λ (l : List Row). find test l) s.split
    ∙ find_at test s.front row s.behind (pairs_at names_apart s.front s.behind row (subst (λ (l : List Row). all_pairs names_apart l ≡ true) s.split apart)).before (name_from row.name row.name refl)

parents_at : (schema : Schema) → IsKept schema → (rows : List Row) → all_pairs names_apart rows ≡ true → (most : ℕ) (path : List Row) (row : Row) → row.code ≤ most → 0 < row.code → is_path schema.types None (path ++ row ∷ []) ≡ true
    → ((x : Row) → Among x (path ++ row ∷ []) → Among x rows) → parents_within most rows row ≡ path ++ row ∷ []
parents_at schema kept rows apart zero path row le some h among = absurd (omega arith)
parents_at schema kept rows apart (suc most) path row le some h among = by (last_row path) (λ q p. parents_at schema kept rows apart most p q)
  where
    types : List SegType
    types = schema.types

    by : (path ≡ []) ⊎ ((ys : List Row) × (y : Row) × (path ≡ ys ++ y ∷ []))
        → ((q : Row) (p : List Row) → q.code ≤ most → 0 < q.code → is_path schema.types None (p ++ q ∷ []) ≡ true → ((x : Row) → Among x (p ++ q ∷ []) → Among x rows) → parents_within most rows q ≡ p ++ q ∷ [])
        → option_map_or (parents_within most rows) (option_and_then (row_named rows) row.parent) [] ++ row ∷ [] ≡ path ++ row ∷ []
    by (inl e) rest =
        let one : is_path schema.types None (row ∷ []) ≡ true = subst (λ (l : List Row). is_path schema.types None (l ++ row ∷ []) ≡ true) e h in
        let none = none_is row.parent (and_parts (row.code == 1) (is_none row.parent) (and_parts (is_child_of schema.types None row) true one).0).1 in
        ap (λ (o : Option Ilk). option_map_or (parents_within most rows) (option_and_then (row_named rows) o) [] ++ row ∷ []) none ∙ ap (λ (l : List Row). l ++ row ∷ []) (sym e)
    by (inr s) rest =
        let q = s.1 in
        let whole : is_path schema.types None ((s.0 ++ q ∷ []) ++ row ∷ []) ≡ true = subst (λ (l : List Row). is_path schema.types None (l ++ row ∷ []) ≡ true) s.2 h in
        let child = path_step schema.types None s.0 q row whole in
        let lower = kept.below q.code row.code (parent_code_is schema.types q.code row.code (and_parts (is_parent q row) (is_parent_code schema.types q.code row.code) child).1) in
        let within : (x : Row) → Among x (s.0 ++ q ∷ []) → Among x rows = λ x a. among x (subst (λ (l : List Row). Among x (l ++ row ∷ [])) (sym s.2) (among_left x (s.0 ++ q ∷ []) (row ∷ []) a)) in
        let here = within q (among_middle q s.0 []) in
        let up = rest q s.0 (let l = lower.lower in omega (arith, l, le)) lower.some (path_front schema.types None (s.0 ++ q ∷ []) (row ∷ []) whole) within in
        ap (λ (o : Option Ilk). option_map_or (parents_within most rows) (option_and_then (row_named rows) o) [] ++ row ∷ []) (child_parent schema.types q row child)
        ∙ ap (λ (o : Option Row). option_map_or (parents_within most rows) o [] ++ row ∷ []) (named_found rows q apart here)
        ∙ ap (λ (l : List Row). l ++ row ∷ []) up ∙ ap (λ (l : List Row). l ++ row ∷ []) (sym s.2)

paths_map : (level : Row → ℕ) (f : Row → List Row) (path rows : List Row) → AllByRecursion (λ p. f p.1 ≡ p.0) (with_paths level path rows) → with_paths level path rows ≡ map (λ row. (f row, row)) rows
paths_map level f path [] h = refl
paths_map level f path (row ∷ rows) h =
    ap (λ (l : List Row). (l, row) ∷ with_paths level (path_with level path row) rows) (sym h.0) ∙ ap (λ (l : List (List Row × Row)). (f row, row) ∷ l) (paths_map level f (path_with level path row) rows h.1)

pub paths_are_by_parents : SchemasAreKept → PathsAreByParents
paths_are_by_parents kept schema rows forest =
    let types = schema.types in
    let level = row_level types in
    let parts = parts_of schema rows forest in
    paths_map level (path_by_parents rows) [] rows
    (each_path level (λ p. path_by_parents rows p.1 ≡ p.0) [] rows
    (λ front row back e.
    let here : Among row rows = subst (λ (l : List Row). Among row l) (sym e) (among_middle row front back) in
    parents_at schema (kept schema) rows parts.named row.code (above_in level (path_after level [] front) row) row (omega arith) (row_known types row (among_passes (has_length types) row rows here parts.long))
    (path_among schema front back row (subst (Parts schema) e parts)) (λ x a. subst (λ (l : List Row). Among x l) (sym e) (path_rows level front back row x a))))
