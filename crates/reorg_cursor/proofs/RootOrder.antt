-- The roots of a partition stand in the order in which they are copied.
use Rattle.std.proofs.Common.{◌≡◌, ℕ, ◌==◌, Bool, true, false, not, ◌&&◌, List, [], ◌∷◌, Option, None, Some, inl, inr, length, refl, sym, ap, ◌∙◌}
use Rattle.std.specs.Prelude.{unwrap_or, is_none}
use Rattle.std.specs.List.{list_all}
use Rattle.std.specs.Option.{option_map_or}
use Rattle.std.specs.Ordering.{nat_cmp, ordering_then, is_lt, is_le}
use Rattle.std.proofs.lemmas.Bool.{true≢false, and_parts, and_from, or_cases, not-true, eqb-true, eq-eqb, both_ways, cond-true}
use Rattle.std.proofs.lemmas.Cmp.{nat_cmp_total, tied_itself}
use Rattle.hal_base.specs.declared.place.Ilk.{Ilk}
use Rattle.hal_schema.specs.declared.row.Row.{Row}
use Rattle.hal_schema.specs.declared.schema.Schema.{Schema}
use Rattle.hal_schema.specs.Forest.{all_pairs, is_forest, is_child_of, rows_are_named, rows_are_below_parents, types_rise, twins_rise, keys_are_placed, in_twin_order, may_follow, has_unique_key, twin_cmp, has_length, names_apart}
use Rattle.hal_schema.specs.Keys.{key_cmp}
use Rattle.hal_schema.specs.Roots.{partition_of, partition_place, root_cmp}
use Rattle.hal_schema.specs.Row.{are_twins, same_parent}
use Rattle.reorg_cursor.specs.Groups.{is_root_at, roots_at}
use Rattle.reorg_cursor.proofs.Grouping.{each_of, filter_passes, pairs_filter}
use Rattle.reorg_cursor.proofs.Marks.{group_cmp, key_of, is_before}

-- ---- what a root of a partition is

pub record IsRootOf (schema : Schema) (place : ℕ) (row : Row) : Type 0 where
  pub code : row.code ≡ 1
  pub parent : row.parent ≡ None
  pub partition : partition_of schema (key_of schema row) ≡ Some place

none_is : (o : Option Ilk) → is_none o ≡ true → o ≡ None
none_is None h = refl
none_is (Some x) h = absurd (true≢false (sym h))

place_is : (o : Option ℕ) (place : ℕ) → option_map_or (λ p. p == place) o false ≡ true → o ≡ Some place
place_is None place h = absurd (true≢false (sym h))
place_is (Some p) place h = ap (λ (n : ℕ). Some n) (eqb-true p place h)

pub root_is : (schema : Schema) (place : ℕ) (row : Row) → is_root_at schema place row ≡ true → IsRootOf schema place row
root_is schema place row h =
    let both = and_parts (is_child_of schema.types None row) (option_map_or (λ p. p == place) (partition_of schema (key_of schema row)) false) h in
    let root = and_parts (row.code == 1) (is_none row.parent) both.0 in
    record {
      code = eqb-true row.code 1 root.0;
      parent = none_is row.parent root.1;
      partition = place_is (partition_of schema (key_of schema row)) place both.1;
    }

-- ---- of two roots of a partition

twins_by : (m n : ℕ) (a b : Option Ilk) → m ≡ 1 → n ≡ 1 → a ≡ None → b ≡ None → (m == n && same_parent a b) ≡ true
twins_by m n a b em en ea eb =
    and_from (m == n) (same_parent a b) (eq-eqb m n (em ∙ sym en)) (ap (λ (o : Option Ilk). same_parent o b) ea ∙ ap (λ (o : Option Ilk). same_parent None o) eb)

-- in one partition the order of roots is that of their groups
same_partition : (schema : Schema) (place : ℕ) (a b : List ℕ) → partition_of schema a ≡ Some place → partition_of schema b ≡ Some place → root_cmp schema a b ≡ group_cmp schema a b
same_partition schema place a b ea eb =
    let pa = ap (λ (o : Option ℕ). unwrap_or o (length schema.parts)) ea in
    let pb = ap (λ (o : Option ℕ). unwrap_or o (length schema.parts)) eb in
    let equal = ap (λ n. nat_cmp n (partition_place schema b)) pa ∙ ap (λ n. nat_cmp place n) pb ∙ tied_itself nat_cmp_total place in
    ap (λ o. ordering_then o (group_cmp schema a b)) equal

follows_before : (schema : Schema) (place : ℕ) (a b : Row) → IsRootOf schema place a → IsRootOf schema place b → may_follow schema a b ≡ true → is_before schema a b ≡ true
follows_before schema place a b ra rb h =
    let unique : has_unique_key schema.types a.code ≡ true = ap (has_unique_key schema.types) ra.code ∙ schema.root_key in
    let less : is_lt (twin_cmp schema a b) ≡ true = sym (cond-true (has_unique_key schema.types a.code) (is_lt (twin_cmp schema a b)) (is_le (twin_cmp schema a b)) unique) ∙ h in
    let roots : twin_cmp schema a b ≡ root_cmp schema (key_of schema a) (key_of schema b) = cond-true (a.code == 1) (root_cmp schema (key_of schema a) (key_of schema b)) (key_cmp (key_of schema a) (key_of schema b)) (eq-eqb a.code 1 ra.code) in
    sym (ap is_lt (roots ∙ same_partition schema place (key_of schema a) (key_of schema b) ra.partition rb.partition)) ∙ less

twins_before : (schema : Schema) (place : ℕ) (a b : Row) → is_root_at schema place a ≡ true → is_root_at schema place b ≡ true → in_twin_order schema a b ≡ true → is_before schema a b ≡ true
twins_before schema place a b ha hb h =
    let ra = root_is schema place a ha in
    let rb = root_is schema place b hb in
    elim (or_cases (not (are_twins a b)) (may_follow schema a b) h) [
      | inl apart ↦ absurd (both_ways (are_twins a b) (not-true (are_twins a b) apart) (twins_by a.code b.code a.parent b.parent ra.code rb.code ra.parent rb.parent))
      | inr follows ↦ follows_before schema place a b ra rb follows
    ]

-- what holds of each two of items that pass a test
pairs_among : {X : Type 0} (p : X → Bool) (t u : X → X → Bool) → ((x y : X) → p x ≡ true → p y ≡ true → t x y ≡ true → u x y ≡ true) → (xs : List X) → list_all p xs ≡ true → all_pairs t xs ≡ true → all_pairs u xs ≡ true
pairs_among p t u w [] all h = refl
pairs_among p t u w (x ∷ xs) all h =
    let a = and_parts (p x) (list_all p xs) all in
    let b = and_parts (list_all (t x) xs) (all_pairs t xs) h in
    and_from (list_all (u x) xs) (all_pairs u xs) (each_of p (t x) (u x) (λ y one. w x y a.0 one) xs a.1 b.0) (pairs_among p t u w xs a.1 b.1)

-- ---- of a forest

pub record ForestParts (schema : Schema) (rows : List Row) : Type 0 where
  pub lengths : list_all (has_length schema.types) rows ≡ true
  pub twins : all_pairs (in_twin_order schema) rows ≡ true

pub forest_parts : (schema : Schema) (rows : List Row) → is_forest schema rows ≡ true → ForestParts schema rows
forest_parts schema rows h =
    let four = and_parts (rows_are_named schema.types rows && rows_are_below_parents schema.types rows && types_rise rows && twins_rise schema rows) (keys_are_placed schema rows) h in
    let three = and_parts (rows_are_named schema.types rows && rows_are_below_parents schema.types rows && types_rise rows) (twins_rise schema rows) four.0 in
    let two = and_parts (rows_are_named schema.types rows && rows_are_below_parents schema.types rows) (types_rise rows) three.0 in
    let one = and_parts (rows_are_named schema.types rows) (rows_are_below_parents schema.types rows) two.0 in
    let named = and_parts (all_pairs names_apart rows) (list_all (has_length schema.types) rows) one.0 in
    record { lengths = named.1; twins = three.1 }

pub roots_in_order : (schema : Schema) (place : ℕ) (rows : List Row) → is_forest schema rows ≡ true → all_pairs (is_before schema) (roots_at schema place rows) ≡ true
roots_in_order schema place rows h =
    pairs_among (is_root_at schema place) (in_twin_order schema) (is_before schema) (λ x y. twins_before schema place x y) (roots_at schema place rows)
    (filter_passes (is_root_at schema place) rows) (pairs_filter (in_twin_order schema) (is_root_at schema place) rows (forest_parts schema rows h).twins)
