-- In PHIDAM the rows of a root set have the keys of the roots, each its own: a root is found by its row.
use Rattle.std.specs.Prelude.{◌≡◌, ℕ, ◌==◌, ◌&&◌, Bool, true, false, List, find, Option, None}
use Rattle.std.specs.List.{list_all}
use Rattle.std.specs.Option.{option_map, option_map_or}
use Rattle.hal_schema.specs.declared.schema.Schema.{Schema}
use Rattle.hal_schema.specs.Roots.{partition_of}
use Rattle.hal_schema.specs.Row.{row_key}
use Rattle.segment_blocks.specs.declared.tile.Cell.{Cell}
use Rattle.record_walk.specs.Tree.{Chains}
use Rattle.record_walk.specs.Listing.{Placed, list_in}
use Rattle.record_walk.specs.Side.{RootRow, IsSideOf}

-- the home of the first row that passes
abbrev pub home_where : (Placed → Bool) → List Placed → Option ℕ
home_where test list = option_map (λ (p : Placed). p.home) (find test list)

-- a root whose key passes
abbrev pub is_root_where : Schema → (List ℕ → Bool) → Placed → Bool
is_root_where schema test p = p.row.code == 1 && test (row_key schema.types p.row)

-- the first root whose key passes is that of the first row whose key does; and each key of a row is one of the partition
pub record RootsOfRows (schema : Schema) (place : ℕ) (rows : List RootRow) (list : List Placed) : Type 0 where
  pub found : (test : List ℕ → Bool) → home_where (is_root_where schema test) list ≡ option_map (λ (row : RootRow). row.home) (find (λ (row : RootRow). test row.key) rows)
  pub belong : list_all (λ (row : RootRow). option_map_or (λ p. p == place) (partition_of schema row.key) false) rows ≡ true

abbrev pub RootsGoByRows : Type 0
RootsGoByRows = (schema : Schema) (place : ℕ) (cells : ℕ → Option Cell) (rows : List RootRow) (trees : Chains) → schema.phdam ≡ false
    → IsSideOf schema place cells rows trees → RootsOfRows schema place rows (list_in None trees)
