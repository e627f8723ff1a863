-- How many rows a span has, and how many segments trees have.
use Rattle.std.proofs.Common.{◌≡◌, ℕ, suc, ◌+◌, ◌==◌, Bool, true, false, cond, List, [], ◌∷◌, ◌++◌, length, Option, Some, refl, sym, ap, ◌∙◌, arith}
use Rattle.std.specs.Prelude.{take, drop}
use Rattle.std.specs.List.{prefix_len}
use Rattle.std.proofs.lemmas.List.{length-append, take-append-drop}
use Rattle.hal_base.specs.declared.place.Ilk.{Ilk}
use Rattle.hal_schema.specs.declared.schema.SegType.{SegType}
use Rattle.record_walk.specs.Tree.{Twins, no_segment, segment, Chains, no_chain, chain}
use Rattle.record_walk.specs.Listing.{Placed, list_of, list_in}
use Rattle.record_walk.specs.Spans.{lies_below, span_at, without_span_at}
use Rattle.record_tree.specs.Descending.{size, size_in}

-- ---- lists and their parts

length_taken : {X : Type 0} (n : ℕ) (list : List X) → length (take n list) + length (drop n list) ≡ length list
length_taken {X} n list = sym (length-append (take n list) (drop n list)) ∙ ap (λ (l : List X). length l) (take-append-drop n list)

pub length_span : (types : List SegType) (list : List Placed) (at : ℕ) → length (span_at types list at) + length (without_span_at types list at) ≡ length list
length_span types [] at = refl
length_span types (p ∷ list) at = by (p.home == at) (length_taken (prefix_len (lies_below types p) list) list) (length_span types list at)
  where
    by : (b : Bool) → length (take (prefix_len (lies_below types p) list) list) + length (drop (prefix_len (lies_below types p) list) list) ≡ length list → length (span_at types list at) + length (without_span_at types list at) ≡ length list
        → length (cond b (p ∷ take (prefix_len (lies_below types p) list) list) (span_at types list at)) + length (cond b (drop (prefix_len (lies_below types p) list) list) (p ∷ without_span_at types list at)) ≡ suc (length list)
    by true taken rest = omega (arith, taken)
    by false taken rest = omega (arith, rest)

-- ---- a row for each segment

mutual
  pub sized : (parent : Option Ilk) (twins : Twins) → length (list_of parent twins) ≡ size twins
  sized parent no_segment = refl
  sized parent (segment s below next) =
      let both = length-append (list_in (Some s.name) below) (list_of parent next) in
      let low = sized_in (Some s.name) below in
      let high = sized parent next in
      omega (arith, both, low, high)

  sized_in : (parent : Option Ilk) (chains : Chains) → length (list_in parent chains) ≡ size_in chains
  sized_in parent no_chain = refl
  sized_in parent (chain twins more) =
      let both = length-append (list_of parent twins) (list_in parent more) in
      let first = sized parent twins in
      let rest = sized_in parent more in
      omega (arith, both, first, rest)

-- ---- a change in the middle

-- a list of three parts, of which the middle one is another
pub changed_length : (front back old now : List Placed) → length (front ++ (old ++ back)) + length now ≡ length (front ++ (now ++ back)) + length old
changed_length front back old now =
    let a = length-append front (old ++ back) in
    let b = length-append old back in
    let c = length-append front (now ++ back) in
    let d = length-append now back in
    omega (arith, a, b, c, d)
