-- A side that was only read is open still.
use Rattle.std.proofs.Common.{◌≡◌, ℕ, ◌<◌, nat_lt, List, length, Option, None, sym, ap, subst, ◌∙◌, if◌then◌else◌}
use Rattle.std.specs.Prelude.{IsSome, All}
use Rattle.std.specs.Option.{ForSome}
use Rattle.hal_base.specs.declared.pages.SetId.{SetId}
use Rattle.hal_base.specs.declared.place.Shape.{Shape}
use Rattle.hal_base.specs.Pages.{SameSets}
use Rattle.hal_base.specs.ShelfCalls.{ShelfView, SameShelf}
use Rattle.hal_schema.specs.declared.schema.Schema.{Schema}
use Rattle.segment_blocks.specs.declared.tile.Cell.{Cell}
use Rattle.free_space.specs.declared.store.CellStore.{CellStore}
use Rattle.free_space.specs.declared.side.SideCells.{SideCells}
use Rattle.free_space.specs.Side.{lettered, place_at, cell_in, side_cell}
use Rattle.free_space.specs.SideCalls.{StandsForSide}
use Rattle.free_space.specs.Store.{StandsFor}
use Rattle.keyed_sets.specs.declared.index.First.{First}
use Rattle.keyed_sets.specs.declared.set.KeyedSet.{KeyedSet}
use Rattle.keyed_sets.specs.Calls.{IsOpened}
use Rattle.keyed_sets.specs.Rule.{KeepsRule, tables}
use Rattle.keyed_sets.specs.Index.{firsts_of, empty_numbers}
use Rattle.record_walk.specs.Side.{RootRow, IsSide}
use Rattle.record_tree.specs.declared.records.Records.{Records}
use Rattle.record_tree.specs.Sides.{root_rows}
use Rattle.record_tree.specs.Standing.{StandsForRecords, cells_seen, rows_seen}

-- ---- what is seen of the same pages

pub cell_same : (first : SetId) (shapes : List Shape) (old new : ShelfView) → SameSets old.pages new.pages → (at : ℕ) → side_cell first shapes new at ≡ side_cell first shapes old at
unfolding side_cell
cell_same first shapes old new same at = ap (λ (told : Option (List (List ℕ))). if nat_lt (place_at at) 10 then cell_in shapes (lettered first (place_at at)) told at else None) (same (lettered first (place_at at)))

pub cells_same : (first : SetId) (shapes : List Shape) (old new : ShelfView) → SameSets old.pages new.pages → side_cell first shapes new ≡ side_cell first shapes old
cells_same first shapes old new same = λ i at. cell_same first shapes old new same at i

pub side_as : (schema : Schema) (place : ℕ) (cells now : ℕ → Option Cell) (rows later : List RootRow) → now ≡ cells → later ≡ rows → IsSide schema place cells rows → IsSide schema place now later
side_as schema place cells now rows later c r side = subst (λ (l : List RootRow). IsSide schema place now l) (sym r) (subst (λ (d : ℕ → Option Cell). IsSide schema place d rows) (sym c) side)

-- ---- open objects

pub store_same : (store : CellStore) (old new : ShelfView) → StandsFor store old → SameShelf old new → StandsFor store new
store_same store old new stands same = record {
  many = stands.many ∙ ap length (sym (same.places store.set));
  told = λ pages is. stands.told pages (sym (same.pages store.set) ∙ is);
}

pub side_same : (side : SideCells) (old new : ShelfView) → StandsForSide side old → SameShelf old new → StandsForSide side new
side_same side old new stands same = record {
  first = stands.first;
  letters = stands.letters;
  as_many = stands.as_many;
  ten = stands.ten;
  each = λ place store at. let l = stands.each place store at in record { set = l.set; shapes = l.shapes; stands = store_same store old new l.stands same };
}

-- of a set by itself
pub set_beside : (set : KeyedSet) (old new : ShelfView) → IsOpened set old → new.pages set.set ≡ old.pages set.set → new.places set.set ≡ old.places set.set → IsOpened set new
set_beside set old new opened pages places = record {
  firsts_within = subst (λ (l : List ℕ). All (λ (first : First). first.page < length l) set.index.firsts.items) (sym places) opened.firsts_within;
  empty_within = subst (λ (l : List ℕ). All (λ n. n < length l) set.index.empty.items) (sym places) opened.empty_within;
  rule = subst (λ (o : Option (List (List ℕ))). ForSome o (KeepsRule set.shape)) (sym pages) opened.rule;
  firsts = subst (λ (o : Option (List (List ℕ))). ForSome o (λ pages. set.index.firsts.items ≡ firsts_of (tables set.shape pages))) (sym pages) opened.firsts;
  empty = subst (λ (o : Option (List (List ℕ))). ForSome o (λ pages. set.index.empty.items ≡ empty_numbers 0 (tables set.shape pages))) (sym pages) opened.empty;
}

pub records_same : (records : Records) (old new : ShelfView) → StandsForRecords records old → SameShelf old new → StandsForRecords records new
records_same records old new stands same = record {
  of = stands.of;
  cells = side_same records.cells old new stands.cells same;
  roots = set_beside records.roots old new stands.roots (same.pages records.roots.set) (same.places records.roots.set);
  side = λ told. side_as records.schema records.place (cells_seen records old) (cells_seen records new) (rows_seen records old) (rows_seen records new)
      (cells_same records.cells.first records.cells.shapes old new same.pages) (ap (root_rows records.roots.shape) (same.pages records.roots.set))
      (stands.side (subst (λ (o : Option (List (List ℕ))). IsSome o) (same.pages records.cells.first) told));
}
