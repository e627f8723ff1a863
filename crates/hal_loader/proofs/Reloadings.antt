-- The rows of a forest come one behind another, as they were unloaded.
use Rattle.std.proofs.Common.{◌≡◌, ℕ, ◌==◌, nat_lt, Bool, true, false, not, cond, List, [], ◌∷◌, ◌++◌, reverse, Option, Some, None, ◌⊎◌, inl, inr, refl, sym, ap, subst, ◌∙◌, arith}
use Rattle.std.specs.Prelude.{filter, find}
use Rattle.std.specs.List.{list_all}
use Rattle.std.specs.Option.{option_map_or}
use Rattle.std.proofs.lemmas.Bool.{and_parts, and_from, not-true, not_from_false, eq-eqb, ne_eqb, ltb-true, ltb-false, le-ltb}
use Rattle.std.proofs.lemmas.Grind.{reverse_onto}
use Rattle.std.proofs.lemmas.List.{append_assoc, reverse-append}
use Rattle.std.proofs.lemmas.List.Folds.{list_all-append}
use Rattle.hal_base.specs.declared.place.Ilk.{Ilk}
use Rattle.hal_schema.specs.declared.row.Row.{Row}
use Rattle.hal_schema.specs.declared.schema.Schema.{Schema}
use Rattle.hal_schema.specs.Facts.{IsKept}
use Rattle.hal_schema.specs.Forest.{all_pairs, names_apart, has_length, is_child_of}
use Rattle.hal_schema.specs.Insertion.{new_path}
use Rattle.hal_schema.specs.Paths.{path_with, path_after, paths_of, with_paths}
use Rattle.hal_schema.specs.Row.{same_name, is_parent, row_level}
use Rattle.hal_schema.specs.SegType.{parent_code, is_parent_code, level_of}
use Rattle.forest_laws.proofs.Lists.{all_append, all_each, all_filtered, all_weaker, filter_none, find_at, find_none, pairs_at}
use Rattle.forest_laws.proofs.Names.{apart_names, parent_code_is, parent_is, same_some}
use Rattle.forest_laws.proofs.Carried.{after_append, is_above, no_trace, not_above, path_above, with_append}
use Rattle.forest_laws.proofs.NewRow.{all_rows}
use Rattle.forest_laws.proofs.Parents.{IsRootRow, Parts, ParentOf, child_level, child_parent, parent_before, row_known}
use Rattle.hal_loader.specs.Placing.{first_name, is_of, parent_path, path_from}
use Rattle.hal_loader.proofs.Climbs.{none_above, row_code}

abbrev pub level : Schema → Row → ℕ
level schema = row_level schema.types

-- the path that rows leave, and what of it is above a row
abbrev pub left_by : Schema → List Row → List Row
left_by schema done = path_after (row_level schema.types) [] done

abbrev pub above_in_path : Schema → List Row → Row → List Row
above_in_path schema done row = filter (λ r. nat_lt (row_level schema.types r) (row_level schema.types row)) (left_by schema done)

-- ---- what is above a row of a forest: nothing, or a path that ends at its parent

pub record IsTop (schema : Schema) (done : List Row) (row : Row) : Type 0 where
  pub code : row.code ≡ 1
  pub parent : row.parent ≡ None
  pub above : above_in_path schema done row ≡ []
  pub found : find (λ (p : List Row × Row). is_parent p.1 row) (paths_of schema.types done) ≡ None

pub record IsChild (schema : Schema) (done : List Row) (row : Row) : Type 0 where
  pub front : List Row
  pub parent : Row
  pub above : above_in_path schema done row ≡ front ++ parent ∷ []
  pub child : is_child_of schema.types (Some parent) row ≡ true
  pub found : find (λ (p : List Row × Row). is_parent p.1 row) (paths_of schema.types done) ≡ Some (front ++ parent ∷ [], parent)

top_of : (schema : Schema) (done more : List Row) (row : Row) → IsKept schema → Parts schema (done ++ row ∷ more) → IsRootRow row → IsTop schema done row
top_of schema done more row k parts root =
    let types = schema.types in
    let one : row_level types row ≡ 1 = ap (level_of types) root.0 ∙ k.root_level in
    let long : list_all (has_length types) done ≡ true = (and_parts (list_all (has_length types) done) (list_all (has_length types) (row ∷ more)) (sym (list_all-append (has_length types) done (row ∷ more)) ∙ parts.long)).0 in
    let low : list_all (not_above (row_level types) row) done ≡ true =
    all_weaker (has_length types) (not_above (row_level types) row) (λ y h. let z = k.has_level y.code (row_known types y h) in not_from_false (nat_lt (row_level types y) (row_level types row)) (le-ltb (row_level types y) (row_level types row) (omega (arith, one, z)))) done long in
    let nobody : (r : Row) → not (is_parent r row) ≡ true = λ r. not_from_false (is_parent r row) (ap (λ (o : Option Ilk). option_map_or (same_name r.name) o false) root.1) in
    record {
      code = root.0;
      parent = root.1;
      above = no_trace (row_level types) row [] done low;
      found = find_none (λ (p : List Row × Row). is_parent p.1 row) (paths_of types done) (all_rows (row_level types) (λ r. not (is_parent r row)) [] done ∙ all_each (λ r. not (is_parent r row)) nobody done);
    }

child_of : (schema : Schema) (done more : List Row) (row : Row) → IsKept schema → Parts schema (done ++ row ∷ more) → ParentOf schema done row → IsChild schema done row
child_of schema done more row k parts of =
    let types = schema.types in
    let lv = row_level types in
    let q = of.above in
    let kept = of.kept in
    let deep = child_level schema k q row of.child in
    let path = path_with lv (path_after lv [] kept.front) q in
    let low : list_all (not_above lv row) kept.behind ≡ true =
    all_weaker (is_above lv q) (not_above lv row) (λ y e. let l = ltb-true (lv q) (lv y) e in not_from_false (nat_lt (lv y) (lv row)) (le-ltb (lv y) (lv row) (omega (arith, deep, l)))) kept.behind kept.deeper in
    let above : above_in_path schema done row ≡ path_with lv (path_after lv [] kept.front) q =
    ap (λ (l : List Row). above_in_path schema l row) kept.split
    ∙ ap (λ (l : List Row). filter (λ r. nat_lt (lv r) (lv row)) l) (after_append lv [] kept.front (q ∷ kept.behind))
    ∙ no_trace lv row path kept.behind low ∙ path_above lv (path_after lv [] kept.front) q row (omega (arith, deep)) in
    let whole : done ++ row ∷ more ≡ kept.front ++ q ∷ (kept.behind ++ row ∷ more) =
    ap (λ (l : List Row). l ++ row ∷ more) kept.split ∙ append_assoc kept.front (q ∷ kept.behind) (row ∷ more) in
    let before = (pairs_at names_apart kept.front (kept.behind ++ row ∷ more) q (subst (λ (l : List Row). all_pairs names_apart l ≡ true) whole parts.named)).before in
    let parent : is_parent q row ≡ true = (and_parts (is_parent q row) (is_parent_code types q.code row.code) of.child).0 in
    let none : list_all (λ (p : List Row × Row). not (is_parent p.1 row)) (with_paths lv [] kept.front) ≡ true =
    all_rows lv (λ r. not (is_parent r row)) [] kept.front
    ∙ all_weaker (λ r. names_apart r q) (λ r. not (is_parent r row)) (λ r apart. not_from_false (is_parent r row) (other r q row apart parent (is_parent r row) refl)) kept.front before in
    record {
      front = filter (λ above. nat_lt (lv above) (lv q)) (path_after lv [] kept.front);
      parent = q;
      above = above;
      child = of.child;
      found = ap (λ (l : List Row). find (λ (p : List Row × Row). is_parent p.1 row) (paths_of types l)) kept.split
          ∙ ap (find (λ (p : List Row × Row). is_parent p.1 row)) (with_append lv [] kept.front (q ∷ kept.behind))
          ∙ find_at (λ (p : List Row × Row). is_parent p.1 row) (with_paths lv [] kept.front) (path, q) (with_paths lv path kept.behind) none parent;
    }
  where
    other : (r q row : Row) → names_apart r q ≡ true → is_parent q row ≡ true → (b : Bool) → is_parent r row ≡ b → b ≡ false
    other r q row apart parent true e = absurd (apart_names r q apart (same_some r.name q.name (sym (parent_is r row e) ∙ parent_is q row parent)))
    other r q row apart parent false e = refl

pub above_of : (schema : Schema) (done more : List Row) (row : Row) → IsKept schema → Parts schema (done ++ row ∷ more) → IsTop schema done row ⊎ IsChild schema done row
above_of schema done more row k parts = by (parent_before schema done more row parts)
  where
    by : IsRootRow row ⊎ ParentOf schema done row → IsTop schema done row ⊎ IsChild schema done row
    by (inl root) = inl (top_of schema done more row k parts root)
    by (inr of) = inr (child_of schema done more row k parts of)

-- ---- the path upwards

pub rises : (lv : Row → ℕ) (path rows : List Row) → all_pairs (λ a b. nat_lt (lv a) (lv b)) path ≡ true → all_pairs (λ a b. nat_lt (lv a) (lv b)) (path_after lv path rows) ≡ true
rises lv path [] h = h
rises lv path (row ∷ rows) h = rises lv (path_with lv path row) rows (one path h)
  where
    low : (a : Row) (xs : List Row) → list_all (λ b. nat_lt (lv a) (lv b)) xs ≡ true → nat_lt (lv a) (lv row) ≡ true → list_all (λ b. nat_lt (lv a) (lv b)) (filter (λ r. nat_lt (lv r) (lv row)) xs ++ row ∷ []) ≡ true
    low a [] all last = and_from (nat_lt (lv a) (lv row)) true last refl
    low a (x ∷ xs) all last = let p = and_parts (nat_lt (lv a) (lv x)) (list_all (λ b. nat_lt (lv a) (lv b)) xs) all in by (nat_lt (lv x) (lv row)) p.0 (low a xs p.1 last)
      where
        by : (b : Bool) → nat_lt (lv a) (lv x) ≡ true → list_all (λ b. nat_lt (lv a) (lv b)) (filter (λ r. nat_lt (lv r) (lv row)) xs ++ row ∷ []) ≡ true
            → list_all (λ b. nat_lt (lv a) (lv b)) (cond b (x ∷ filter (λ r. nat_lt (lv r) (lv row)) xs) (filter (λ r. nat_lt (lv r) (lv row)) xs) ++ row ∷ []) ≡ true
        by true one go = and_from (nat_lt (lv a) (lv x)) (list_all (λ b. nat_lt (lv a) (lv b)) (filter (λ r. nat_lt (lv r) (lv row)) xs ++ row ∷ [])) one go
        by false one go = go

    one : (xs : List Row) → all_pairs (λ a b. nat_lt (lv a) (lv b)) xs ≡ true → all_pairs (λ a b. nat_lt (lv a) (lv b)) (filter (λ r. nat_lt (lv r) (lv row)) xs ++ row ∷ []) ≡ true
    one [] all = refl
    one (x ∷ xs) all = let p = and_parts (list_all (λ b. nat_lt (lv x) (lv b)) xs) (all_pairs (λ a b. nat_lt (lv a) (lv b)) xs) all in by (nat_lt (lv x) (lv row)) refl p.0 (one xs p.1)
      where
        by : (b : Bool) → nat_lt (lv x) (lv row) ≡ b → list_all (λ b. nat_lt (lv x) (lv b)) xs ≡ true → all_pairs (λ a b. nat_lt (lv a) (lv b)) (filter (λ r. nat_lt (lv r) (lv row)) xs ++ row ∷ []) ≡ true
            → all_pairs (λ a b. nat_lt (lv a) (lv b)) (cond b (x ∷ filter (λ r. nat_lt (lv r) (lv row)) xs) (filter (λ r. nat_lt (lv r) (lv row)) xs) ++ row ∷ []) ≡ true
        by true e f go = and_from (list_all (λ b. nat_lt (lv x) (lv b)) (filter (λ r. nat_lt (lv r) (lv row)) xs ++ row ∷ [])) (all_pairs (λ a b. nat_lt (lv a) (lv b)) (filter (λ r. nat_lt (lv r) (lv row)) xs ++ row ∷ [])) (low x xs f e) go
        by false e f go = go

-- what is above a row, and then the rest
pub parted : (lv : Row → ℕ) (row : Row) (path : List Row) → all_pairs (λ a b. nat_lt (lv a) (lv b)) path ≡ true
    → path ≡ filter (λ r. nat_lt (lv r) (lv row)) path ++ filter (λ r. not (nat_lt (lv r) (lv row))) path
parted lv row [] h = refl
parted lv row (x ∷ xs) h = let p = and_parts (list_all (λ b. nat_lt (lv x) (lv b)) xs) (all_pairs (λ a b. nat_lt (lv a) (lv b)) xs) h in by (nat_lt (lv x) (lv row)) refl p.0 (parted lv row xs p.1)
  where
    by : (b : Bool) → nat_lt (lv x) (lv row) ≡ b → list_all (λ b. nat_lt (lv x) (lv b)) xs ≡ true → xs ≡ filter (λ r. nat_lt (lv r) (lv row)) xs ++ filter (λ r. not (nat_lt (lv r) (lv row))) xs
        → x ∷ xs ≡ cond b (x ∷ filter (λ r. nat_lt (lv r) (lv row)) xs) (filter (λ r. nat_lt (lv r) (lv row)) xs) ++ cond (not b) (x ∷ filter (λ r. not (nat_lt (lv r) (lv row))) xs) (filter (λ r. not (nat_lt (lv r) (lv row))) xs)
    by true e f go = ap (λ (l : List Row). x ∷ l) go
    by false e f go =
        let ge = ltb-false (lv x) (lv row) e in
        let none : filter (λ r. nat_lt (lv r) (lv row)) xs ≡ [] =
        filter_none (λ r. nat_lt (lv r) (lv row)) xs
        (all_weaker (λ b. nat_lt (lv x) (lv b)) (λ r. not (nat_lt (lv r) (lv row))) (λ y g. let l = ltb-true (lv x) (lv y) g in not_from_false (nat_lt (lv y) (lv row)) (le-ltb (lv y) (lv row) (omega (arith, ge, l)))) xs f) in
        ap (λ (l : List Row). x ∷ l) (go ∙ ap (λ (l : List Row). l ++ filter (λ r. not (nat_lt (lv r) (lv row))) xs) none)
        ∙ ap (λ (l : List Row). l ++ x ∷ filter (λ r. not (nat_lt (lv r) (lv row))) xs) (sym none)

all_turned : (p : Row → Bool) (xs : List Row) → list_all p xs ≡ true → list_all p (reverse xs) ≡ true
all_turned p [] h = refl
all_turned p (x ∷ xs) h =
    let a = and_parts (p x) (list_all p xs) h in
    ap (list_all p) (reverse_onto xs x []) ∙ all_append p (reverse xs) (x ∷ []) (all_turned p xs a.1) (and_from (p x) true a.0 refl)

passes_over : (wanted : Option ℕ) (xs ys : List Row) → list_all (λ (r : Row). not (is_of wanted r.code)) xs ≡ true → path_from row_code wanted (xs ++ ys) ≡ path_from row_code wanted ys
passes_over wanted [] ys h = refl
passes_over wanted (x ∷ xs) ys h =
    let a = and_parts (not (is_of wanted x.code)) (list_all (λ (r : Row). not (is_of wanted r.code)) xs) h in
    ap (λ (b : Bool). cond b (x ∷ (xs ++ ys)) (path_from row_code wanted (xs ++ ys))) (not-true (is_of wanted x.code) a.0) ∙ passes_over wanted xs ys a.1

pub turned_push : (xs : List Row) (x : Row) → reverse (xs ++ x ∷ []) ≡ x ∷ reverse xs
turned_push xs x = reverse-append xs (x ∷ [])

-- the path upwards to a row's parent is what is above it
pub parent_path_is : (schema : Schema) (done : List Row) (row : Row) → IsKept schema → IsTop schema done row ⊎ IsChild schema done row
    → parent_path schema.types (reverse (left_by schema done)) row.code ≡ reverse (above_in_path schema done row)
parent_path_is schema done row k (inl top) =
    ap (λ (c : ℕ). parent_path schema.types (reverse (left_by schema done)) c) top.code ∙ ap (λ (o : Option ℕ). path_from row_code o (reverse (left_by schema done))) k.root
    ∙ none_above (reverse (left_by schema done)) ∙ ap (λ (l : List Row). reverse l) (sym top.above)
parent_path_is schema done row k (inr c) =
    let types = schema.types in
    let lv = row_level types in
    let q = c.parent in
    let low = filter (λ r. not (nat_lt (lv r) (lv row))) (left_by schema done) in
    let kind : parent_code types row.code ≡ Some q.code = parent_code_is types q.code row.code (and_parts (is_parent q row) (is_parent_code types q.code row.code) c.child).1 in
    let deep = child_level schema k q row c.child in
    let others : list_all (λ (r : Row). not (is_of (Some q.code) r.code)) (filter (λ r. not (nat_lt (lv r) (lv row))) (left_by schema done)) ≡ true =
    all_weaker (λ r. not (nat_lt (lv r) (lv row))) (λ (r : Row). not (is_of (Some q.code) r.code)) (λ r h. not_from_false (q.code == r.code) (ne_eqb q.code r.code (λ e.
    let same : lv q ≡ lv r = ap (level_of types) e in
    let ge = ltb-false (lv r) (lv row) (not-true (nat_lt (lv r) (lv row)) h) in
    absurd (omega (arith, same, ge, deep))))) low (all_filtered (λ r. not (nat_lt (lv r) (lv row))) (left_by schema done)) in
    let path : reverse (left_by schema done) ≡ reverse (filter (λ r. not (nat_lt (lv r) (lv row))) (left_by schema done)) ++ reverse (above_in_path schema done row) =
    ap (λ (l : List Row). reverse l) (parted lv row (left_by schema done) (rises lv [] done refl)) ∙ reverse-append (above_in_path schema done row) low in
    let turned : reverse (above_in_path schema done row) ≡ q ∷ reverse c.front = ap (λ (l : List Row). reverse l) c.above ∙ turned_push c.front q in
    ap (λ (o : Option ℕ). path_from row_code o (reverse (left_by schema done))) kind ∙ ap (path_from row_code (Some q.code)) path
    ∙ passes_over (Some q.code) (reverse low) (reverse (above_in_path schema done row)) (all_turned (λ (r : Row). not (is_of (Some q.code) r.code)) low others)
    ∙ ap (path_from row_code (Some q.code)) turned
    ∙ ap (λ (b : Bool). cond b (q ∷ reverse c.front) (path_from row_code (Some q.code) (reverse c.front))) (eq-eqb q.code q.code refl) ∙ sym turned

pub parent_is_first : (schema : Schema) (done : List Row) (row : Row) → IsTop schema done row ⊎ IsChild schema done row → first_name (reverse (above_in_path schema done row)) ≡ row.parent
parent_is_first schema done row (inl top) = ap (λ (l : List Row). first_name (reverse l)) top.above ∙ sym top.parent
parent_is_first schema done row (inr c) =
    ap (λ (l : List Row). first_name (reverse l)) c.above ∙ ap first_name (turned_push c.front c.parent) ∙ sym (child_parent schema.types c.parent row c.child)

pub new_path_is : (schema : Schema) (done : List Row) (row : Row) → IsTop schema done row ⊎ IsChild schema done row → new_path schema.types done row ≡ above_in_path schema done row ++ row ∷ []
new_path_is schema done row (inl top) =
    ap (λ (o : Option (List Row × Row)). option_map_or (λ (p : List Row × Row). p.0) o [] ++ row ∷ []) top.found ∙ ap (λ (l : List Row). l ++ row ∷ []) (sym top.above)
new_path_is schema done row (inr c) =
    ap (λ (o : Option (List Row × Row)). option_map_or (λ (p : List Row × Row). p.0) o [] ++ row ∷ []) c.found ∙ ap (λ (l : List Row). l ++ row ∷ []) (sym c.above)
