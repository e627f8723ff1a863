-- One side of a partition: its cells, the rows of its root set, and the trees that hang from these.
use Rattle.std.specs.Prelude.{◌≡◌, ℕ, ◌<◌, ◌≤◌, ◌==◌, nat_lt, ◌&&◌, Bool, true, false, if◌then◌else◌, List, [], ◌∷◌, ◌++◌, map, Option, None, Some}
use Rattle.std.specs.Int.{w32, to_be_bytes}
use Rattle.std.specs.List.{list_all}
use Rattle.std.specs.Option.{option_map, option_map_or}
use Rattle.std.specs.Ordering.{is_lt}
use Rattle.std.specs.Str.{bytes_eq}
use Rattle.segment_blocks.specs.declared.tile.Cell.{Cell}
use Rattle.hal_schema.specs.declared.schema.Schema.{Schema}
use Rattle.hal_schema.specs.Row.{row_key}
use Rattle.hal_schema.specs.Roots.{partition_of, anchor_place, root_cmp}
use Rattle.hal_schema.specs.Forest.{all_pairs}
use Rattle.record_walk.specs.Tree.{Occurrence, Twins, no_segment, segment, Chains, no_chain, chain, firsts_of, HangIn, times_in, are_roots}
use Rattle.record_walk.specs.Listing.{placed}

-- a row of a root set: under a root key the home of that root (PHIDAM), under an anchor's number in four bytes that of the anchor's first root (PHDAM)
pub record RootRow : Type 0 where
  pub key : List ℕ
  pub home : ℕ

-- What the walk sees of a cell. In PHIDAM a root's own twin means nothing, and is seen as none; in PHDAM it is the next root of the anchor.
abbrev pub alone : Cell → Cell
alone cell = if cell.code == 1 then record cell { twin = 0 } else cell

abbrev pub seen : Bool → (ℕ → Option Cell) → ℕ → Option Cell
seen phdam cells at = if phdam then cells at else option_map alone (cells at)

-- the segments of a chain, without what is below them
abbrev pub heads_of : Twins → List Occurrence
heads_of no_segment = []
heads_of (segment s below next) = s ∷ heads_of next

abbrev pub heads_in : Chains → List Occurrence
heads_in no_chain = []
heads_in (chain twins more) = heads_of twins ++ heads_in more

abbrev pub key_of : Schema → Occurrence → List ℕ
key_of schema root = row_key schema.types (placed None root).row

-- the key under which a root's row stands
abbrev pub row_key_of : Schema → Occurrence → List ℕ
row_key_of schema root = if schema.phdam then to_be_bytes w32 (anchor_place schema (key_of schema root)) else key_of schema root

-- each row has a chain, and the roots of that chain have the row's key
abbrev pub are_keyed : Schema → List RootRow → Chains → Bool
are_keyed schema [] no_chain = true
are_keyed schema [] (chain twins more) = false
are_keyed schema (row ∷ rows) no_chain = false
are_keyed schema (row ∷ rows) (chain twins more) = list_all (λ root. bytes_eq (row_key_of schema root) row.key) (heads_of twins) && are_keyed schema rows more

abbrev pub belongs : Schema → ℕ → Occurrence → Bool
belongs schema place root = option_map_or (λ p. p == place) (partition_of schema (key_of schema root)) false

-- each root behind another is above it in the order of roots
abbrev pub roots_rise : Schema → List Occurrence → Bool
roots_rise schema roots = all_pairs (λ a b. is_lt (root_cmp schema (key_of schema a) (key_of schema b))) roots

-- These trees hang from the rows of the root set of the partition at a place. A row may lead nowhere: a root's row comes before the root, and goes after it.
pub record IsWalked (schema : Schema) (place : ℕ) (cells : ℕ → Option Cell) (rows : List RootRow) (trees : Chains) : Type 0 where
  -- rule 4: the rows lead to roots, by home and by key; in PHDAM (rule 7) each root stands in the chain of its own anchor
  pub rows_lead : firsts_of trees ≡ map (λ row. row.home) rows
  pub rows_are_keyed : are_keyed schema rows trees ≡ true
  -- rule 5: the walk meets cells of the wanted types, none of them copied; each cell that isn't copied it meets just once
  pub hangs : HangIn (seen schema.phdam cells) trees
  pub typed : are_roots schema.types trees ≡ true
  pub once : (home : ℕ) → times_in home trees ≤ 1
  pub all_met : (home : ℕ) (cell : Cell) → cells home ≡ Some cell → cell.copied ≡ false → 0 < times_in home trees
  -- rule 7: each root belongs to the partition, and their keys rise in the order of roots
  pub roots_belong : list_all (belongs schema place) (heads_in trees) ≡ true
  pub roots_are_rising : roots_rise schema (heads_in trees) ≡ true

-- The side of the partition at a place: no row leads nowhere. Of the rules of a sound volume it is 4; 5 but for what it says of partitions that are
-- idle; and 7 in its part on roots.
pub record IsSideOf (schema : Schema) (place : ℕ) (cells : ℕ → Option Cell) (rows : List RootRow) (trees : Chains) : Type 0 where
  pub walked : IsWalked schema place cells rows trees
  pub rows_are_used : list_all (λ row. nat_lt 0 row.home) rows ≡ true

-- such trees there are: the condition of an object that stands for a side
abbrev pub IsSide : Schema → ℕ → (ℕ → Option Cell) → List RootRow → Type 0
IsSide schema place cells rows = (trees : Chains) × IsSideOf schema place cells rows trees
