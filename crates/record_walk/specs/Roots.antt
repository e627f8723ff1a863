-- What changes of the side's cells and rows are for the walk: what is seen of a changed cell, and rows of the root set that come and go.
use Rattle.std.specs.Prelude.{◌≡◌, ℕ, zero, suc, ◌≤◌, ◌==◌, ◌||◌, not, Bool, true, if◌then◌else◌, List, length, count_by, insert, slice_get, Option, None, Some}
use Rattle.std.specs.List.{remove}
use Rattle.std.specs.Option.{option_map}
use Rattle.hal_schema.specs.declared.schema.Schema.{Schema}
use Rattle.segment_blocks.specs.declared.tile.Cell.{Cell}
use Rattle.record_walk.specs.Tree.{Occurrence, no_segment, Chains, no_chain, chain, times_in}
use Rattle.record_walk.specs.Listing.{Placed, list_in}
use Rattle.record_walk.specs.Pointers.{Behind, Below}
use Rattle.record_walk.specs.Side.{seen}
use Rattle.record_walk.specs.Changes.{set_in_cell, set_content, new_cell}
use Rattle.record_walk.specs.Spans.{AreRecords}

-- whether the twin of a cell of this code means something
abbrev pub has_twins : Bool → ℕ → Bool
has_twins phdam code = phdam || not (code == 1)

-- what is seen of cells that stay, of a free home, of a new cell, and of a cell in which a pointer was set or the content replaced
pub record SeenFollows : Type 0 where
  pub same : (phdam : Bool) (cells now : ℕ → Option Cell) (home : ℕ) → now home ≡ cells home → seen phdam now home ≡ seen phdam cells home
  pub free : (phdam : Bool) (cells : ℕ → Option Cell) (home : ℕ) → cells home ≡ None → seen phdam cells home ≡ None
  pub new : (phdam : Bool) (cells : ℕ → Option Cell) (new : Occurrence) (kinds twin : ℕ) → cells new.home ≡ Some (new_cell new kinds twin)
      → seen phdam cells new.home ≡ Some (new_cell new kinds (if has_twins phdam new.code then twin else 0))
  pub child : (phdam : Bool) (cells now : ℕ → Option Cell) (above place to : ℕ) → now above ≡ option_map (set_in_cell (Below above place) to) (cells above)
      → seen phdam now above ≡ option_map (set_in_cell (Below above place) to) (seen phdam cells above)
  pub twin : (phdam : Bool) (cells now : ℕ → Option Cell) (prior to : ℕ) (cell : Cell) → cells prior ≡ Some cell → has_twins phdam cell.code ≡ true
      → now prior ≡ option_map (set_in_cell (Behind prior) to) (cells prior) → seen phdam now prior ≡ option_map (set_in_cell (Behind prior) to) (seen phdam cells prior)
  pub content : (phdam : Bool) (cells now : ℕ → Option Cell) (home : ℕ) (content : List ℕ) → now home ≡ option_map (set_content content) (cells home)
      → seen phdam now home ≡ option_map (set_content content) (seen phdam cells home)

-- a row of the root set that leads nowhere came at a place, and the row at a place went
abbrev pub with_row : ℕ → Chains → Chains
with_row zero side = chain no_segment side
with_row (suc place) no_chain = no_chain
with_row (suc place) (chain twins more) = chain twins (with_row place more)

abbrev pub without_row : ℕ → Chains → Chains
without_row place no_chain = no_chain
without_row zero (chain twins more) = more
without_row (suc place) (chain twins more) = chain twins (without_row place more)

-- they are records still, of the same list
pub record SameList (schema : Schema) (cells : ℕ → Option Cell) (firsts : List ℕ) (old now : Chains) : Type 0 where
  pub records : AreRecords schema cells firsts now
  pub list : list_in None now ≡ list_in None old

pub record RowsComeAndGo : Type 0 where
  pub come : (schema : Schema) (cells : ℕ → Option Cell) (firsts : List ℕ) (trees : Chains) (place : ℕ) → AreRecords schema cells firsts trees → place ≤ length firsts
      → SameList schema cells (insert firsts place 0) trees (with_row place trees)
  pub go : (schema : Schema) (cells : ℕ → Option Cell) (firsts : List ℕ) (trees : Chains) (place : ℕ) → AreRecords schema cells firsts trees → slice_get firsts place ≡ Some 0
      → SameList schema cells (remove firsts place) trees (without_row place trees)

-- how often a home is met is how many rows of the list have it
abbrev pub HomesAreListed : Type 0
HomesAreListed = (home : ℕ) (trees : Chains) → times_in home trees ≡ count_by (λ (p : Placed). p.home == home) (list_in None trees)
