-- A volume as a shelf of pages.
use Rattle.std.specs.Prelude.{◌≡◌, ℕ, ◌<◌, ◌≤◌, Bool, false, ◌&&◌, ◌==◌, nat_lt, not, if◌then◌else◌, List, [], length, map, take, reverse, slice_index_or, Option, IsTrue}
use Rattle.std.proofs.Common.{Vec, Global}
use Rattle.std.specs.List.{list_any}
use Rattle.std.specs.Option.{option_map}
use Rattle.hal_base.specs.declared.pages.SetId.{SetId}
use Rattle.hal_base.specs.declared.place.PartState.{PartState}
use Rattle.volume_image.specs.Header.{has_cells, is_free, is_left, is_live_set, kind_in, set_in}
use Rattle.hal_base.specs.ShelfCalls.{ShelfView}
use Rattle.hal_base.specs.StoreCalls.{StoreView}
use Rattle.data_set_pairs.specs.declared.place.PagePlace.{PagePlace}
use Rattle.data_set_pairs.specs.declared.table.Table.{Table}
use Rattle.data_set_pairs.specs.Table.{places_of}
use Rattle.data_set_pairs.specs.Kept.{last_states, last_pages, last_free}
use Rattle.data_set_pairs.specs.Stays.{Stays}

-- the blocks at these places
abbrev pub blocks_at : List ℕ → List (List ℕ) → List (List ℕ)
blocks_at places list = map (λ n. slice_index_or list n []) places

-- pages of `A` to `J` and `M` to `V` of a partition have cells (kind 1), those of the other letters and of secondary
-- indexes, which are the partitions from 32,768 on, have rows (kind 2)
abbrev pub kind_fits : SetId → ℕ → Bool
kind_fits set kind = if has_cells set.letter && nat_lt set.part 32768 then kind == 1 else kind == 2

-- each data block that isn't free has the kind that fits its data set
abbrev pub KindsFit : List PartState → ℕ → List (List ℕ) → Type 0
KindsFit states control list =
    (block : ℕ) → control ≤ block → block < length list → is_free states (slice_index_or list block []) ≡ false
    → IsTrue (kind_fits (set_in (slice_index_or list block [])) (kind_in (slice_index_or list block [])))

-- a block of this data set and kind isn't free, is of a data set that stands, and of the kind that fits it
abbrev pub takes : ℕ → List PartState → SetId → ℕ → Bool
takes indexes states set kind = not (is_left states set) && is_live_set indexes states kind set && kind_fits set kind

-- what is seen of a volume as a shelf
abbrev pub view : ℕ → List PartState → Table → StoreView → ShelfView
view indexes states table blocks = record {
  pages = λ set. option_map (blocks_at (places_of set table.pages.items)) blocks.list;
  places = λ set. places_of set table.pages.items;
  free = reverse table.free.items;
  takes = takes indexes states;
  disk_faults = blocks.disk_faults;
  fetches = blocks.fetches;
  live = blocks.live;
}

-- what a volume holds that no change of a page changes: the states, and the states and the table of the last commit
pub record Standing : Type 0 where
  pub indexes : ℕ
  pub control : ℕ
  pub states : List PartState
  pub last_states : List PartState
  pub last_pages : List PagePlace
  pub last_free : List ℕ

-- the control blocks are as they were
abbrev pub SameControl : ℕ → Option (List (List ℕ)) → Option (List (List ℕ)) → Type 0
SameControl control old new = option_map (take control) new ≡ option_map (take control) old

-- each block that is free now was free before, and holds what it held
pub record FreeStays (before now : List ℕ) (old new : Option (List (List ℕ))) : Type 0 where
  pub fewer : (block : ℕ) → IsTrue (list_any (λ n. n == block) now) → IsTrue (list_any (λ n. n == block) before)
  pub same : (block : ℕ) → IsTrue (list_any (λ n. n == block) now) → option_map (λ list. slice_index_or list block []) new ≡ option_map (λ list. slice_index_or list block []) old

abbrev pub standing : ℕ → ℕ → List PartState → List PartState → List PagePlace → List ℕ → Standing
standing indexes control states last_states last_pages last_free = record {
  indexes = indexes;
  control = control;
  states = states;
  last_states = last_states;
  last_pages = last_pages;
  last_free = last_free;
}

abbrev pub standing_of : ℕ → ℕ → Vec PartState Global → Option (Vec PartState Global) → Table → Option Table → Standing
standing_of indexes control states kept_states table kept_table =
    standing indexes control states.items (last_states kept_states states) (last_pages kept_table table) (last_free kept_table table)

-- what a call on pages changes nothing of
abbrev pub IsSteady : Type 0 → StoreView → StoreView → Standing → Standing → Table → Table → Type 0
IsSteady steady old new before now table after =
    Stays steady old new × (now ≡ before) × SameControl before.control old.list new.list
    × FreeStays (reverse table.free.items) (reverse after.free.items) old.list new.list
