-- What it is for the blocks of some changes to be written to their places.
use Rattle.std.specs.Prelude.{◌≡◌, ◌⊎◌, ℕ, ◌+◌, ◌*◌, ◌<◌, ◌≤◌, List, [], ◌∷◌, length, slice_index}
use Rattle.block_journal.specs.Change.{Change}
use Rattle.block_journal.specs.Redo.{journal_start}

-- numbers below the count, whole blocks
abbrev pub AreWhole : ℕ → List Change → Type 0
AreWhole count [] = Unit {0}
AreWhole count (c ∷ cs) = (c.0 < count) × (length c.1 ≡ 4096) × AreWhole count cs

-- a byte that no change's block covers
abbrev pub IsOutside : ℕ → List Change → ℕ → Type 0
IsOutside first [] i = Unit {0}
IsOutside first (c ∷ cs) i = ((i < first + 4096 * c.0) ⊎ (first + 4096 * c.0 + 4096 ≤ i)) × IsOutside first cs i

-- but in the changes' blocks, the same bytes
pub record SameBut (first : ℕ) (cs : List Change) (x y : List ℕ) : Type 0 where
  pub byte : (i : ℕ) → IsOutside first cs i → slice_index x i ≡ slice_index y i

-- while these blocks are being written to a whole image: but in their places it is as before
abbrev pub Places : ℕ → ℕ → List Change → List ℕ → List ℕ → Type 0
Places first count changes old image = journal_start first count ≤ length old → SameBut first changes image old × (length old ≤ length image)

abbrev pub PlacedFrom : (List ℕ → List ℕ → Type 0) → ℕ → ℕ → List Change → List ℕ → List ℕ → Type 0
PlacedFrom outcomes first count changes image said = (old : List ℕ) × outcomes old said × Places first count changes old image
