-- A row of a forest is loaded at the end of those before it.
use Rattle.std.proofs.Common.{◌≡◌, ℕ, zero, suc, ◌+◌, ◌-◌, ◌≤◌, ◌==◌, nat_lt, Bool, true, false, not, cond, ◌&&◌, ◌||◌, List, [], ◌∷◌, ◌++◌, length, drop, insert, reverse, Option, Some, None, ◌⊎◌, inl, inr, refl, sym, ap, subst, ◌∙◌, arith}
use Rattle.std.specs.Prelude.{filter, is_none}
use Rattle.std.specs.List.{list_all, prefix_len}
use Rattle.std.specs.Ordering.{is_lt, is_le}
use Rattle.std.proofs.Math.Seq.{take-length}
use Rattle.std.proofs.lemmas.Bool.{and_parts, and_from, or_left, or_right, not-true, true≢false, eqb-true, ltb-false}
use Rattle.std.proofs.lemmas.List.{append_assoc, append-nil, drop_all, length-drop}
use Rattle.hal_schema.specs.declared.row.Row.{Row}
use Rattle.hal_schema.specs.declared.schema.Schema.{Schema}
use Rattle.hal_schema.specs.Facts.{IsKept}
use Rattle.hal_schema.specs.Forest.{in_type_order, in_twin_order, is_child_of, is_path, has_unique_key, twin_cmp}
use Rattle.hal_schema.specs.Insertion.{is_lower_child, through_last}
use Rattle.hal_schema.specs.Paths.{path_after}
use Rattle.hal_schema.specs.Row.{same_parent, is_parent, are_twins, row_level}
use Rattle.hal_schema.specs.SegType.{is_parent_code, level_of}
use Rattle.forest_laws.proofs.Lists.{Among, all_middle, among_middle, among_passes, among_right, pairs_at}
use Rattle.forest_laws.proofs.Names.{none_is, parents_from, twins_from}
use Rattle.forest_laws.proofs.Carried.{Kept, after_append, carried, is_above}
use Rattle.forest_laws.proofs.Order.{twin_order_is, type_order_is}
use Rattle.forest_laws.proofs.Parents.{Parts, child_level, child_parent, path_among}
use Rattle.hal_loader.specs.Placing.{goes_by_key, loads_behind, load_place, with_loaded}
use Rattle.hal_loader.proofs.Judgements.{unique_root}
use Rattle.hal_loader.proofs.Lists.{all_dropped, none_behind}
use Rattle.hal_loader.proofs.Reloadings.{IsTop, IsChild, left_by, above_in_path, rises, parted, turned_push}

-- ---- behind a row that a new one goes behind, all is deeper

beyond : (p d : Row → Bool) (f : List Row) (x : Row) (b : List Row) (t : ℕ) → p x ≡ true → list_all (λ r. not (p r)) (drop t (f ++ x ∷ b)) ≡ true → list_all d b ≡ true → list_all d (drop t (f ++ x ∷ b)) ≡ true
beyond p d [] x b zero passes none deep = absurd (true≢false (sym passes ∙ not-true (p x) (and_parts (not (p x)) (list_all (λ r. not (p r)) b) none).0))
beyond p d [] x b (suc t) passes none deep = all_dropped d t b deep
beyond p d (y ∷ f) x b zero passes none deep = absurd (true≢false (sym passes ∙ not-true (p x) (all_middle (λ r. not (p r)) (y ∷ f) b x none)))
beyond p d (y ∷ f) x b (suc t) passes none deep = beyond p d f x b t passes none deep

prefix_all : (p : Row → Bool) (xs : List Row) → list_all p xs ≡ true → prefix_len p xs ≡ length xs
prefix_all p [] h = refl
prefix_all p (x ∷ xs) h =
    let a = and_parts (p x) (list_all p xs) h in
    ap (λ (b : Bool). cond b (1 + prefix_len p xs) 0) a.0 ∙ (let e = prefix_all p xs a.1 in let n : 1 + prefix_len p xs ≡ suc (length xs) = omega (arith, e) in n)

pub insert_end : (xs : List Row) (n : ℕ) (x : Row) → n ≡ length xs → insert xs n x ≡ xs ++ x ∷ []
insert_end xs n x e =
    ap (λ (k : ℕ). insert xs k x) e ∙ ap (λ (l : List Row). l ++ x ∷ drop (length xs) xs) (take-length xs)
    ∙ ap (λ (l : List Row). xs ++ x ∷ l) (drop_all (length xs) xs (let n : length xs ≤ length xs = omega arith in n))

behind_all : (schema : Schema) (done f b : List Row) (x row : Row) → done ≡ f ++ x ∷ b → loads_behind schema row x ≡ true → list_all (is_above (row_level schema.types) row) b ≡ true
    → load_place schema done row ≡ length done
behind_all schema done f b x row split passes deep =
    let d = is_above (row_level schema.types) row in
    let t : ℕ = through_last (loads_behind schema row) done in
    let none : list_all (λ r. not (loads_behind schema row r)) (drop (through_last (loads_behind schema row) done) (f ++ x ∷ b)) ≡ true =
    ap (λ (l : List Row). list_all (λ r. not (loads_behind schema row r)) (drop (through_last (loads_behind schema row) done) l)) (sym split) ∙ none_behind (loads_behind schema row) done in
    let all : list_all (is_above (row_level schema.types) row) (drop (through_last (loads_behind schema row) done) done) ≡ true =
    ap (λ (l : List Row). list_all d (drop (through_last (loads_behind schema row) done) l)) split ∙ beyond (loads_behind schema row) d f x b t passes none deep in
    let long = prefix_all d (drop t done) all in
    let left : length (drop t done) ≡ length done - t = length-drop t done in
    let most : t ≤ length done = omega arith in
    omega (arith, long, left, most)

-- ---- which row that is

data Ends (xs : List Row) : Type 0 where
  Empty : xs ≡ [] → Ends xs
  Last : (front : List Row) (x : Row) → xs ≡ front ++ x ∷ [] → Ends xs

ends : (xs : List Row) → Ends xs
ends [] = Empty refl
ends (x ∷ xs) = by (ends xs)
  where
    by : Ends xs → Ends (x ∷ xs)
    by (Empty e) = Last [] x (ap (λ (l : List Row). x ∷ l) e)
    by (Last front y e) = Last (x ∷ front) y (ap (λ (l : List Row). x ∷ l) e)

first_of_path : (schema : Schema) (up : Option Row) (y : Row) (rest : List Row) → is_path schema.types up (y ∷ rest) ≡ true → is_child_of schema.types up y ≡ true
first_of_path schema up y rest h = (and_parts (is_child_of schema.types up y) (is_path schema.types (Some y) rest) h).0

middle_of_path : (schema : Schema) (up : Option Row) (f : List Row) (q y : Row) (rest : List Row) → is_path schema.types up ((f ++ q ∷ []) ++ y ∷ rest) ≡ true → is_child_of schema.types (Some q) y ≡ true
middle_of_path schema up [] q y rest h = first_of_path schema (Some q) y rest (and_parts (is_child_of schema.types up q) (is_path schema.types (Some q) (y ∷ rest)) h).1
middle_of_path schema up (p ∷ f) q y rest h = middle_of_path schema (Some p) f q y rest (and_parts (is_child_of schema.types up p) (is_path schema.types (Some p) ((f ++ q ∷ []) ++ y ∷ rest)) h).1

-- a row on the path that is beside the new one
record Beside (schema : Schema) (y row : Row) : Type 0 where
  parent : y.parent ≡ row.parent
  level : row_level schema.types y ≡ row_level schema.types row

beside : (schema : Schema) (done : List Row) (row y : Row) (low : List Row) → IsKept schema → IsTop schema done row ⊎ IsChild schema done row → is_path schema.types None (above_in_path schema done row ++ y ∷ low) ≡ true → Beside schema y row
beside schema done row y low k (inl top) path =
    let child = first_of_path schema None y low (ap (λ (l : List Row). is_path schema.types None (l ++ y ∷ low)) (sym top.above) ∙ path) in
    let a = and_parts (y.code == 1) (is_none y.parent) child in
    let code : y.code ≡ row.code = eqb-true y.code 1 a.0 ∙ sym top.code in
    record { parent = none_is y.parent a.1 ∙ sym top.parent; level = ap (level_of schema.types) code }
beside schema done row y low k (inr c) path =
    let child = middle_of_path schema None c.front c.parent y low (ap (λ (l : List Row). is_path schema.types None (l ++ y ∷ low)) (sym c.above) ∙ path) in
    let a = child_level schema k c.parent y child in
    let b = child_level schema k c.parent row c.child in
    record { parent = child_parent schema.types c.parent y child ∙ sym (child_parent schema.types c.parent row c.child); level = omega (arith, a, b) }

goes_behind : (schema : Schema) (done more : List Row) (row y : Row) → IsKept schema → Parts schema (done ++ row ∷ more) → Among y done → y.parent ≡ row.parent → loads_behind schema row y ≡ true
goes_behind schema done more row y k parts among same = by (nat_lt y.code row.code) refl
  where
    le : y.code ≤ row.code
    le = type_order_is y row (among_passes (λ r. in_type_order r row) y done among (pairs_at in_type_order done more row parts.types).before) same

    siblings : same_parent y.parent row.parent ≡ true
    siblings = parents_from y.parent row.parent same

    by_key : y.code ≡ row.code → (g : Bool) → goes_by_key schema row ≡ g → (not g || is_lt (twin_cmp schema y row)) ≡ true
    by_key code false e = refl
    by_key code true e =
        let one : row.code ≡ 1 = eqb-true row.code 1 (and_parts schema.phdam (row.code == 1) e).1 in
        let follows = twin_order_is schema y row (among_passes (λ r. in_twin_order schema r row) y done among (pairs_at (in_twin_order schema) done more row parts.twins).before) code same in
        let unique : has_unique_key schema.types y.code ≡ true = ap (has_unique_key schema.types) (code ∙ one) ∙ unique_root schema k in
        sym (ap (λ (b : Bool). cond b (is_lt (twin_cmp schema y row)) (is_le (twin_cmp schema y row))) unique) ∙ follows

    by : (b : Bool) → nat_lt y.code row.code ≡ b → loads_behind schema row y ≡ true
    by true e = or_left (is_parent y row || is_lower_child row y) (are_twins y row && (not (goes_by_key schema row) || is_lt (twin_cmp schema y row)))
        (or_right (is_parent y row) (is_lower_child row y) (and_from (same_parent y.parent row.parent) (nat_lt y.code row.code) siblings e))
    by false e =
        let ge = ltb-false y.code row.code e in
        let code : y.code ≡ row.code = omega (arith, ge, le) in
        or_right (is_parent y row || is_lower_child row y) (are_twins y row && (not (goes_by_key schema row) || is_lt (twin_cmp schema y row)))
        (and_from (are_twins y row) (not (goes_by_key schema row) || is_lt (twin_cmp schema y row)) (twins_from y row code same) (by_key code (goes_by_key schema row) refl))

-- the last row before it is its parent, where nothing on the path is beside it
parent_behind : (schema : Schema) (done front : List Row) (z row : Row) → IsTop schema done row ⊎ IsChild schema done row → done ≡ front ++ z ∷ [] → left_by schema done ≡ above_in_path schema done row
    → loads_behind schema row z ≡ true
parent_behind schema done front z row is split same = by is
  where
    path : List Row
    path = filter (λ r. nat_lt (row_level schema.types r) (row_level schema.types z)) (path_after (row_level schema.types) [] front)

    ends_with : left_by schema done ≡ path ++ z ∷ []
    ends_with = ap (left_by schema) split ∙ after_append (row_level schema.types) [] front (z ∷ [])

    last_same : (xs ys : List Row) (x y : Row) → xs ++ x ∷ [] ≡ ys ++ y ∷ [] → x ≡ y
    last_same xs ys x y e =
        let f : x ∷ reverse xs ≡ y ∷ reverse ys = sym (turned_push xs x) ∙ ap (λ (l : List Row). reverse l) e ∙ turned_push ys y in cc f

    by : IsTop schema done row ⊎ IsChild schema done row → loads_behind schema row z ≡ true
    by (inl top) = none (path) (sym ends_with ∙ same ∙ top.above)
      where
        none : (xs : List Row) → xs ++ z ∷ [] ≡ [] → loads_behind schema row z ≡ true
        none [] e = cc e
        none (x ∷ xs) e = cc e
    by (inr c) =
        let is : z ≡ c.parent = last_same path c.front z c.parent (sym ends_with ∙ same ∙ c.above) in
        let parent : is_parent z row ≡ true = ap (λ (r : Row). is_parent r row) is ∙ (and_parts (is_parent c.parent row) (is_parent_code schema.types c.parent.code row.code) c.child).0 in
        or_left (is_parent z row || is_lower_child row z) (are_twins z row && (not (goes_by_key schema row) || is_lt (twin_cmp schema z row))) (or_left (is_parent z row) (is_lower_child row z) parent)

pub placed_last : (schema : Schema) (done more : List Row) (row : Row) → IsKept schema → Parts schema (done ++ row ∷ more) → IsTop schema done row ⊎ IsChild schema done row → load_place schema done row ≡ length done
placed_last schema done more row k parts is = by (ends done)
  where
    lv : Row → ℕ
    lv = row_level schema.types

    rest : List Row
    rest = filter (λ r. not (nat_lt (row_level schema.types r) (row_level schema.types row))) (left_by schema done)

    whole : left_by schema done ≡ above_in_path schema done row ++ rest
    whole = parted (row_level schema.types) row (left_by schema done) (rises (row_level schema.types) [] done refl)

    among_is : (y : Row) (low : List Row) → rest ≡ y ∷ low → Among y (path_after (row_level schema.types) [] done)
    among_is y low e = subst (λ (l : List Row). Among y l) (sym (whole ∙ ap (λ (l : List Row). above_in_path schema done row ++ l) e)) (among_right y (above_in_path schema done row) (y ∷ low) (inl refl))

    kept_in : (y : Row) → Kept (row_level schema.types) y done ⊎ (Among y [] × (list_all (is_above (row_level schema.types) y) done ≡ true)) → Kept (row_level schema.types) y done
    kept_in y (inl h) = h
    kept_in y (inr h) = absurd h.0

    next_to : (y : Row) (low : List Row) → rest ≡ y ∷ low → is_path schema.types None (left_by schema done) ≡ true → load_place schema done row ≡ length done
    next_to y low e path =
        let b = beside schema done row y low k is (ap (λ (l : List Row). is_path schema.types None l) (sym (whole ∙ ap (λ (l : List Row). above_in_path schema done row ++ l) e)) ∙ path) in
        let h = kept_in y (carried (row_level schema.types) y [] done (among_is y low e)) in
        let deep : list_all (is_above (row_level schema.types) row) h.behind ≡ true = ap (λ (n : ℕ). list_all (λ (r : Row). nat_lt n (row_level schema.types r)) h.behind) (sym b.level) ∙ h.deeper in
        let among : Among y done = subst (λ (l : List Row). Among y l) (sym h.split) (among_middle y h.front h.behind) in
        behind_all schema done h.front h.behind y row h.split (goes_behind schema done more row y k parts among b.parent) deep

    split_rest : (front : List Row) (z : Row) → done ≡ front ++ z ∷ [] → (low : List Row) → rest ≡ low → is_path schema.types None (left_by schema done) ≡ true → load_place schema done row ≡ length done
    split_rest front z split [] e path =
        behind_all schema done front [] z row split (parent_behind schema done front z row is split (whole ∙ ap (λ (l : List Row). above_in_path schema done row ++ l) e ∙ append-nil (above_in_path schema done row))) refl
    split_rest front z split (y ∷ low) e path = next_to y low e path

    by : Ends done → load_place schema done row ≡ length done
    by (Empty e) = subst (λ (l : List Row). load_place schema l row ≡ length l) (sym e) refl
    by (Last front z split) =
        let path : is_path schema.types None (left_by schema done) ≡ true =
        ap (λ (l : List Row). is_path schema.types None l) (ap (left_by schema) split ∙ after_append (row_level schema.types) [] front (z ∷ []))
        ∙ path_among schema front (row ∷ more) z (subst (λ (l : List Row). Parts schema l) (ap (λ (l : List Row). l ++ row ∷ more) split ∙ append_assoc front (z ∷ []) (row ∷ more)) parts) in
        split_rest front z split rest refl path

pub loaded_last : (schema : Schema) (done more : List Row) (row : Row) → IsKept schema → Parts schema (done ++ row ∷ more) → IsTop schema done row ⊎ IsChild schema done row → with_loaded schema done row ≡ done ++ row ∷ []
loaded_last schema done more row k parts is = insert_end done (load_place schema done row) row (placed_last schema done more row k parts is)
