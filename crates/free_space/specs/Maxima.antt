-- A tree of maxima over the largest holes of pages, as one list: the root at 1, below node i the nodes 2i and 2i + 1, and
-- the leaves, one for each page and some more, behind all others.
use Rattle.std.specs.Prelude.{◌≡◌, ℕ, ◌+◌, ◌*◌, ◌^◌, ◌<◌, ◌≤◌, max, List, length, map, slice_index}
use Rattle.segment_blocks.specs.declared.space.Space.{Space}

-- each node before the leaves has the larger of the two numbers below it
abbrev pub AreMaxima : ℕ → List ℕ → Type 0
AreMaxima half nodes = (i : ℕ) → 0 < i → i < half → slice_index nodes i ≡ max (slice_index nodes (2 * i)) (slice_index nodes (2 * i + 1))

abbrev pub leaf_at : ℕ → List ℕ → ℕ → ℕ
leaf_at half nodes k = slice_index nodes (half + k)

-- the largest hole of a page, 0 where there is no such page
abbrev pub largest_at : List Space → ℕ → ℕ
largest_at spaces k = slice_index (map (λ space. space.largest) spaces) k

-- the leaves have the largest holes of the pages, and zeros behind them
pub record IsTreeOf (height : ℕ) (nodes : List ℕ) (pages : List Space) : Type 0 where
  pub long : length nodes ≡ 2 ^ height + 2 ^ height
  pub maxima : AreMaxima (2 ^ height) nodes
  pub fits : length pages ≤ 2 ^ height
  pub leaves : (k : ℕ) → k < 2 ^ height → leaf_at (2 ^ height) nodes k ≡ largest_at pages k
