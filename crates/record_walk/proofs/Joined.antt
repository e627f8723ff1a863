-- The lists of sides, one behind the other, are the list of all their trees.
use Rattle.std.proofs.Common.{◌≡◌, ℕ, ◌+◌, ◌<◌, ◌==◌, nat_lt, Bool, true, false, not, cond, ◌&&◌, ◌||◌, List, [], ◌∷◌, ◌++◌, Option, None, Some, is_some, inl, inr, refl, sym, ap, subst, ◌∙◌, arith}
use Rattle.std.specs.Prelude.{unwrap_or, length}
use Rattle.std.specs.declared.cmp.Ordering.TheVariants.{Less, Equal, Greater}
use Rattle.std.specs.Ordering.{is_lt, nat_cmp, ordering_then}
use Rattle.std.specs.List.{list_all, AllByRecursion}
use Rattle.std.specs.Option.{option_map_or}
use Rattle.std.proofs.lemmas.Bool.{and_parts, and_from, or_cases, eqb-true, ltb-true, lt-ltb, leb-true, false≢true}
use Rattle.std.proofs.lemmas.List.{append_assoc}
use Rattle.std.proofs.lemmas.List.Folds.{list_all-append}
use Rattle.hal_base.specs.declared.place.Ilk.{Ilk}
use Rattle.hal_schema.specs.declared.row.Row.{Row}
use Rattle.hal_schema.specs.declared.schema.SegType.{SegType}
use Rattle.hal_schema.specs.declared.schema.Schema.{Schema}
use Rattle.hal_schema.specs.Facts.{SchemasAreKept, IsKept}
use Rattle.hal_schema.specs.SegType.{level_of}
use Rattle.hal_schema.specs.Keys.{key_cmp}
use Rattle.hal_schema.specs.Roots.{root_cmp, partition_of, partition_place, anchor_place}
use Rattle.hal_schema.specs.Row.{row_level, row_key}
use Rattle.hal_schema.specs.Forest.{all_pairs, names_apart, has_length, is_selected, entries_differ, is_forest}
use Rattle.forest_laws.proofs.Lists.{Among, among_passes, all_append, all_among, all_weaker, pairs_join}
use Rattle.forest_laws.proofs.Parents.{Parts, forest_from}
use Rattle.record_walk.specs.Tree.{Occurrence, Twins, no_segment, segment, Chains, no_chain, chain, child_codes, are_of, are_chains_of, are_roots}
use Rattle.record_walk.specs.Listing.{Placed, placed, list_of, list_in, rows_of}
use Rattle.record_walk.specs.Side.{heads_of, heads_in, key_of, belongs, roots_rise, IsSideOf}
use Rattle.record_walk.specs.Siblings.{twins_follow, twins_follow_in}
use Rattle.record_walk.specs.Volume.{PlacedSide, listed, all_before, precedes, SidesAreForests}
use Rattle.record_walk.proofs.Levels.{children_level, typed, is_deep, deep_in}
use Rattle.record_walk.proofs.OnLists.{deepens}
use Rattle.record_walk.proofs.ParentsFirst.{below_parents}
use Rattle.record_walk.proofs.Rising.{siblings_rise}

-- ---- trees side by side

abbrev pub beside : Chains → Chains → Chains
beside no_chain more = more
beside (chain twins trees) more = chain twins (beside trees more)

abbrev pub joined : List PlacedSide → Chains
joined [] = no_chain
joined (side ∷ sides) = beside side.trees (joined sides)

beside_list : (trees more : Chains) → list_in None (beside trees more) ≡ list_in None trees ++ list_in None more
beside_list no_chain more = refl
beside_list (chain twins trees) more = ap (λ l. list_of None twins ++ l) (beside_list trees more) ∙ sym (append_assoc (list_of None twins) (list_in None trees) (list_in None more))

pub beside_heads : (trees more : Chains) → heads_in (beside trees more) ≡ heads_in trees ++ heads_in more
beside_heads no_chain more = refl
beside_heads (chain twins trees) more = ap (λ l. heads_of twins ++ l) (beside_heads trees more) ∙ sym (append_assoc (heads_of twins) (heads_in trees) (heads_in more))

beside_typed : (types : List SegType) (trees more : Chains) → are_roots types trees ≡ true → are_roots types more ≡ true → are_roots types (beside trees more) ≡ true
beside_typed types no_chain more h k = k
beside_typed types (chain twins trees) more h k =
    let p = and_parts (are_of types 1 twins) (are_roots types trees) h in
    and_from (are_of types 1 twins) (are_roots types (beside trees more)) p.0 (beside_typed types trees more p.1 k)

beside_twins : (schema : Schema) (trees more : Chains) → twins_follow_in schema trees ≡ true → twins_follow_in schema more ≡ true → twins_follow_in schema (beside trees more) ≡ true
beside_twins schema no_chain more h k = k
beside_twins schema (chain twins trees) more h k =
    let p = and_parts (twins_follow schema twins) (twins_follow_in schema trees) h in
    and_from (twins_follow schema twins) (twins_follow_in schema (beside trees more)) p.0 (beside_twins schema trees more p.1 k)

pub joined_list : (sides : List PlacedSide) → list_in None (joined sides) ≡ listed sides
joined_list [] = refl
joined_list (side ∷ sides) = beside_list side.trees (joined sides) ∙ ap (λ l. list_in None side.trees ++ l) (joined_list sides)

abbrev pub AreTyped : List SegType → List PlacedSide → Type 0
AreTyped types sides = AllByRecursion (λ side. are_roots types side.trees ≡ true) sides

pub joined_typed : (types : List SegType) (sides : List PlacedSide) → AreTyped types sides → are_roots types (joined sides) ≡ true
joined_typed types [] h = refl
joined_typed types (side ∷ sides) h = beside_typed types side.trees (joined sides) (h.0) (joined_typed types sides (h.1))

pub sides_typed : (schema : Schema) (sides : List PlacedSide) → AllByRecursion (λ side. IsSideOf schema side.place side.cells side.rows side.trees) sides → AreTyped schema.types sides
sides_typed schema [] h = tt
sides_typed schema (side ∷ sides) h = (h.0.walked.typed, sides_typed schema sides (h.1))

joined_twins : (schema : Schema) (sides : List PlacedSide) → list_all (λ side. twins_follow_in schema side.trees) sides ≡ true → twins_follow_in schema (joined sides) ≡ true
joined_twins schema [] h = refl
joined_twins schema (side ∷ sides) h =
    let p = and_parts (twins_follow_in schema side.trees) (list_all (λ (s : PlacedSide). twins_follow_in schema s.trees) sides) h in
    beside_twins schema side.trees (joined sides) p.0 (joined_twins schema sides p.1)

-- ---- roots of partitions

belongs_at : (schema : Schema) (place : ℕ) (root : Occurrence) → belongs schema place root ≡ true → partition_of schema (key_of schema root) ≡ Some place
belongs_at schema place root h = by (partition_of schema (key_of schema root)) h
  where
    by : (o : Option ℕ) → option_map_or (λ p. p == place) o false ≡ true → o ≡ Some place
    by None h = absurd (false≢true h)
    by (Some p) h = ap (λ (n : ℕ). Some n) (eqb-true p place h)

-- a root of an earlier partition stands before one of a later
pub lower_partition : (schema : Schema) (p q : ℕ) (a b : Occurrence) → belongs schema p a ≡ true → belongs schema q b ≡ true → p < q → is_lt (root_cmp schema (key_of schema a) (key_of schema b)) ≡ true
lower_partition schema p q a b h k lt =
    let e : partition_place schema (key_of schema a) ≡ p = ap (λ (o : Option ℕ). unwrap_or o (length schema.parts)) (belongs_at schema p a h) in
    let f : partition_place schema (key_of schema b) ≡ q = ap (λ (o : Option ℕ). unwrap_or o (length schema.parts)) (belongs_at schema q b k) in
    let less : nat_lt (partition_place schema (key_of schema a)) (partition_place schema (key_of schema b)) ≡ true = lt-ltb (partition_place schema (key_of schema a)) (partition_place schema (key_of schema b)) (omega (arith, e, f, lt)) in
    first (nat_lt (partition_place schema (key_of schema a)) (partition_place schema (key_of schema b))) less
  where
    ka : List ℕ
    ka = key_of schema a

    kb : List ℕ
    kb = key_of schema b

    first : (c : Bool) → c ≡ true → is_lt (ordering_then (cond c Less (cond (partition_place schema ka == partition_place schema kb) Equal Greater)) (ordering_then (nat_cmp (anchor_place schema ka) (anchor_place schema kb)) (key_cmp ka kb))) ≡ true
    first true e = refl
    first false e = absurd (false≢true e)

abbrev Rooted : Schema → ℕ → List Occurrence → Type 0
Rooted schema place roots = list_all (belongs schema place) roots ≡ true

across_sides : (schema : Schema) (a b : PlacedSide) → Rooted schema a.place (heads_in a.trees) → Rooted schema b.place (heads_in b.trees) → precedes schema a b ≡ true → all_before schema (heads_in a.trees) (heads_in b.trees) ≡ true
across_sides schema a b h k p =
    elim (or_cases (nat_lt a.place b.place) (a.place == b.place && all_before schema (heads_in a.trees) (heads_in b.trees)) p) [
      | inl lt ↦ all_among (λ r. list_all (λ s. is_lt (root_cmp schema (key_of schema r) (key_of schema s))) (heads_in b.trees)) (heads_in a.trees)
          (λ r m. all_among (λ s. is_lt (root_cmp schema (key_of schema r) (key_of schema s))) (heads_in b.trees)
          (λ s n. lower_partition schema a.place b.place r s (among_passes (belongs schema a.place) r (heads_in a.trees) m h) (among_passes (belongs schema b.place) s (heads_in b.trees) n k) (ltb-true a.place b.place lt)))
      | inr same ↦ (and_parts (a.place == b.place) (all_before schema (heads_in a.trees) (heads_in b.trees)) same).1
    ]

-- a test of each root of these that the roots of each side pass
roots_pass : (test : Occurrence → Bool) (sides : List PlacedSide) → AllByRecursion (λ side. list_all test (heads_in side.trees) ≡ true) sides → list_all test (heads_in (joined sides)) ≡ true
roots_pass test [] h = refl
roots_pass test (side ∷ sides) h =
    ap (list_all test) (beside_heads side.trees (joined sides)) ∙ all_append test (heads_in side.trees) (heads_in (joined sides)) (h.0) (roots_pass test sides (h.1))

before_all : (schema : Schema) (a : PlacedSide) (sides : List PlacedSide) → Rooted schema a.place (heads_in a.trees) → AllByRecursion (λ side. IsSideOf schema side.place side.cells side.rows side.trees) sides → list_all (precedes schema a) sides ≡ true
    → all_before schema (heads_in a.trees) (heads_in (joined sides)) ≡ true
before_all schema a sides own h p =
    all_among (λ r. list_all (λ s. is_lt (root_cmp schema (key_of schema r) (key_of schema s))) (heads_in (joined sides))) (heads_in a.trees) (λ r m. roots_pass (λ s. is_lt (root_cmp schema (key_of schema r) (key_of schema s))) sides (each r m sides h p))
  where
    each : (r : Occurrence) → Among r (heads_in a.trees) → (l : List PlacedSide) → AllByRecursion (λ side. IsSideOf schema side.place side.cells side.rows side.trees) l → list_all (precedes schema a) l ≡ true
        → AllByRecursion (λ side. list_all (λ s. is_lt (root_cmp schema (key_of schema r) (key_of schema s))) (heads_in side.trees) ≡ true) l
    each r m [] h p = tt
    each r m (b ∷ l) h p =
        let q = and_parts (precedes schema a b) (list_all (precedes schema a) l) p in
        (among_passes (λ x. list_all (λ s. is_lt (root_cmp schema (key_of schema x) (key_of schema s))) (heads_in b.trees)) r (heads_in a.trees) m (across_sides schema a b own (rooted b (h.0)) q.0), each r m l (h.1) q.1)
      where
        rooted : (b : PlacedSide) → IsSideOf schema b.place b.cells b.rows b.trees → Rooted schema b.place (heads_in b.trees)
        rooted b s = s.walked.roots_belong

joined_rise : (schema : Schema) (sides : List PlacedSide) → AllByRecursion (λ side. IsSideOf schema side.place side.cells side.rows side.trees) sides → all_pairs (precedes schema) sides ≡ true → roots_rise schema (heads_in (joined sides)) ≡ true
joined_rise schema [] h p = refl
joined_rise schema (side ∷ sides) h p =
    let q = and_parts (list_all (precedes schema side) sides) (all_pairs (precedes schema) sides) p in
    ap (roots_rise schema) (beside_heads side.trees (joined sides))
    ∙ pairs_join (λ a b. is_lt (root_cmp schema (key_of schema a) (key_of schema b))) (heads_in side.trees) (heads_in (joined sides))
    (record { front = h.0.walked.roots_are_rising; back = joined_rise schema sides (h.1) q.1; across = before_all schema side sides (h.0.walked.roots_belong) (h.1) q.0 })

-- ---- each root has a partition

-- a row that is deeper than the roots is none
pub no_root : (schema : Schema) → IsKept schema → (p : Placed) → is_deep schema.types 2 p ≡ true → p.row.code ≡ 1 → ⊥
no_root schema kept p h e =
    let one : level_of schema.types p.row.code ≡ 1 = ap (level_of schema.types) e ∙ kept.root_level in
    let two = leb-true 2 (row_level schema.types p.row) h in
    omega (arith, one, two)

inner_selected : (schema : Schema) → IsKept schema → (p : Placed) → is_deep schema.types 2 p ≡ true → is_selected schema p.row ≡ true
inner_selected schema kept p h = by (p.row.code == 1) refl
  where
    by : (b : Bool) → (p.row.code == 1) ≡ b → (not b || is_some (partition_of schema (row_key schema.types p.row))) ≡ true
    by true e = absurd (no_root schema kept p h (eqb-true p.row.code 1 e))
    by false e = refl

-- what is below a root is deeper than roots
pub below_roots : SchemasAreKept → (schema : Schema) (parent : Option Ilk) (below : Chains) → are_chains_of schema.types (child_codes schema.types 1) below ≡ true → list_all (is_deep schema.types 2) (list_in parent below) ≡ true
below_roots kept schema parent below h =
    let level = (kept schema).root_level in
    deep_in schema.types (deepens kept schema) 2 (level_of schema.types 1 + 1) (child_codes schema.types 1) (children_level schema.types (deepens kept schema) 1) parent below h (omega (arith, level))

chain_selected : SchemasAreKept → (schema : Schema) (twins : Twins) → are_of schema.types 1 twins ≡ true → list_all (λ root. is_some (partition_of schema (key_of schema root))) (heads_of twins) ≡ true
    → list_all (λ (p : Placed). is_selected schema p.row) (list_of None twins) ≡ true
chain_selected kept schema no_segment h s = refl
chain_selected kept schema (segment s below next) h all =
    let types = schema.types in
    let t = typed types 1 s below next h in
    let a = and_parts (is_some (partition_of schema (key_of schema s))) (list_all (λ root. is_some (partition_of schema (key_of schema root))) (heads_of next)) all in
    let level = (kept schema).root_level in
    and_from (is_selected schema (placed None s).row) (list_all (λ (p : Placed). is_selected schema p.row) (list_in (Some s.name) below ++ list_of None next)) (own (s.code == 1) a.0)
    (all_append (λ (p : Placed). is_selected schema p.row) (list_in (Some s.name) below) (list_of None next)
    (all_weaker (is_deep types 2) (λ (p : Placed). is_selected schema p.row) (λ p d. inner_selected schema (kept schema) p d) (list_in (Some s.name) below)
    (below_roots kept schema (Some s.name) below t.under))
    (chain_selected kept schema next t.later a.1))
  where
    own : (b : Bool) → is_some (partition_of schema (key_of schema s)) ≡ true → (not b || is_some (partition_of schema (key_of schema s))) ≡ true
    own true e = e
    own false e = refl

selected_in : SchemasAreKept → (schema : Schema) (trees : Chains) → are_roots schema.types trees ≡ true → list_all (λ root. is_some (partition_of schema (key_of schema root))) (heads_in trees) ≡ true
    → list_all (λ (p : Placed). is_selected schema p.row) (list_in None trees) ≡ true
selected_in kept schema no_chain h s = refl
selected_in kept schema (chain twins more) h s =
    let test : Occurrence → Bool = λ root. is_some (partition_of schema (key_of schema root)) in
    let p = and_parts (are_of schema.types 1 twins) (are_roots schema.types more) h in
    let q = and_parts (list_all test (heads_of twins)) (list_all test (heads_in more)) (sym (list_all-append test (heads_of twins) (heads_in more)) ∙ s) in
    all_append (λ (r : Placed). is_selected schema r.row) (list_of None twins) (list_in None more) (chain_selected kept schema twins p.0 q.0) (selected_in kept schema more p.1 q.1)

in_partition : (schema : Schema) (sides : List PlacedSide) → AllByRecursion (λ side. IsSideOf schema side.place side.cells side.rows side.trees) sides
    → AllByRecursion (λ side. list_all (λ root. is_some (partition_of schema (key_of schema root))) (heads_in side.trees) ≡ true) sides
in_partition schema [] h = tt
in_partition schema (side ∷ sides) h =
    (all_weaker (belongs schema side.place) (λ root. is_some (partition_of schema (key_of schema root))) (λ root b. ap is_some (belongs_at schema side.place root b)) (heads_in side.trees) (h.0.walked.roots_belong), in_partition schema sides (h.1))

pub rows_pass : (test : Row → Bool) (list : List Placed) → list_all (λ (p : Placed). test p.row) list ≡ list_all test (rows_of list)
rows_pass test [] = refl
rows_pass test (p ∷ list) = ap (λ (b : Bool). test p.row && b) (rows_pass test list)

pub sides_are_forests : SchemasAreKept → SidesAreForests
sides_are_forests kept schema sides h named indexed =
    let types = schema.types in
    let trees = joined sides in
    let same : list_in None trees ≡ listed sides = joined_list sides in
    let typed = joined_typed types sides (sides_typed schema sides h.each) in
    let n = and_parts (all_pairs names_apart (rows_of (listed sides))) (list_all (has_length types) (rows_of (listed sides))) named in
    let siblings = siblings_rise kept schema trees typed (ap (λ l. all_pairs names_apart (rows_of l)) same ∙ n.0) in
    let twins = siblings.twins ∙ and_from (roots_rise schema (heads_in trees)) (twins_follow_in schema trees) (joined_rise schema sides h.each h.order) (joined_twins schema sides h.twins) in
    let roots = roots_pass (λ root. is_some (partition_of schema (key_of schema root))) sides (in_partition schema sides h.each) in
    let parts : Parts schema (rows_of (list_in None trees)) = record {
      named = ap (λ l. all_pairs names_apart (rows_of l)) same ∙ n.0;
      long = ap (λ l. list_all (has_length types) (rows_of l)) same ∙ n.1;
      placed = below_parents kept schema trees typed;
      types = siblings.types;
      twins = twins;
      selected = sym (rows_pass (is_selected schema) (list_in None trees)) ∙ selected_in kept schema trees typed roots;
      indexed = subst (λ l. list_all (entries_differ types (rows_of l)) schema.indexes ≡ true) (sym same) indexed;
    } in
    subst (λ l. is_forest schema (rows_of l) ≡ true) same (forest_from schema (rows_of (list_in None trees)) parts)
