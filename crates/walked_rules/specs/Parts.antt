-- A partition as chains of cells, generation by generation, and what the rules that need no walk read of it.
use Rattle.std.specs.Prelude.{◌≡◌, ℕ, ◌+◌, true, if◌then◌else◌, List, [], ◌∷◌, map, flat_map, find, Option, None}
use Rattle.std.specs.Option.{option_map}
use Rattle.std.specs.Str.{bytes_eq}
use Rattle.hal_base.specs.declared.place.Ilk.{Ilk}
use Rattle.hal_base.specs.declared.place.PartState.{PartState}
use Rattle.hal_schema.specs.declared.schema.PartDef.{PartDef}
use Rattle.hal_schema.specs.declared.schema.Schema.{Schema}
use Rattle.segment_blocks.specs.declared.tile.Cell.{Cell}
use Rattle.record_walk.specs.Tree.{Chains}
use Rattle.record_walk.specs.Listing.{Placed, list_in}
use Rattle.record_walk.specs.Side.{RootRow, IsSideOf}
use Rattle.record_walk.specs.Volume.{PlacedSide}
use Rattle.volume_rules.specs.View.{Home, Homed, Segment, View, is_live, is_moving}
use Rattle.volume_rules.specs.Volume.{IndexRow, Volume}
use Rattle.volume_rules.specs.Sides.{RootSet}

-- the partition at a place, as its definition, its control row and its indirect list have it; and for each generation the cells of its side by their
-- addresses, the rows of its root set, and the trees that hang from these
pub record WalkedPart : Type 0 where
  pub place : ℕ
  pub part : PartDef
  pub state : PartState
  pub listed : Ilk → ℕ → Option Home
  pub cells : ℕ → ℕ → Option Cell
  pub roots : ℕ → List RootRow
  pub trees : ℕ → Chains

-- the side of each live generation is walked; of other generations nothing is said or read
abbrev pub IsWalkedPart : Schema → WalkedPart → Type 0
IsWalkedPart schema p = (number : ℕ) → is_live p.state number ≡ true → IsSideOf schema p.place (p.cells number) (p.roots number) (p.trees number)

-- all of a cell but its twin and its children
abbrev pub segment_of : Cell → Segment
segment_of cell = record { copied = cell.copied; code = cell.code; name = cell.name; content = cell.content }

abbrev pub homed : Placed → Homed
homed p = record { addr = p.home; row = p.row }

-- the partition without its chains: the segments are the cells of the live sides, and the rows of a generation the walk of its side
abbrev pub view_of : WalkedPart → View
view_of p = record {
  part = p.part;
  state = p.state;
  segments = λ home. if is_live p.state home.number then option_map segment_of (p.cells home.number home.addr) else None;
  listed = p.listed;
  rows = λ number. if is_live p.state number then map homed (list_in None (p.trees number)) else [];
}

-- the root sets of the live sides: under a key the home of its row
abbrev pub root_sets_of : WalkedPart → RootSet
root_sets_of p number key =
    if is_live p.state number then option_map (λ (r : RootRow). r.home) (find (λ (r : RootRow). bytes_eq r.key key) (p.roots number)) else None

abbrev pub side_at : WalkedPart → ℕ → PlacedSide
side_at p number = record { place = p.place; cells = p.cells number; rows = p.roots number; trees = p.trees number }

-- the live sides, the output before the input
abbrev pub live_sides : WalkedPart → List PlacedSide
live_sides p = if is_moving p.state then side_at p (p.state.number + 1) ∷ side_at p p.state.number ∷ [] else side_at p p.state.number ∷ []

abbrev pub all_sides : List WalkedPart → List PlacedSide
all_sides parts = flat_map live_sides parts

abbrev pub volume_of : List WalkedPart → List (List IndexRow) → Volume
volume_of parts indexes = record { parts = map view_of parts; indexes = indexes }
