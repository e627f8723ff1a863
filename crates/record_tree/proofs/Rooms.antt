-- Where a new cell got its room, across the calls around the one that stored it.
use Rattle.std.proofs.Common.{◌≡◌, ◌∙◌, ◌-◌, ℕ, List, length, Option, refl, sym, ap, subst}
use Rattle.std.proofs.lemmas.List.{length-replicate}
use Rattle.hal_base.specs.declared.place.Ilk.{Ilk}
use Rattle.hal_base.specs.ShelfCalls.{ShelfView, SameShelf}
use Rattle.hal_schema.specs.declared.schema.Schema.{Schema}
use Rattle.segment_blocks.specs.declared.tile.Cell.{Cell}
use Rattle.free_space.specs.declared.side.SideCells.{SideCells}
use Rattle.free_space.specs.Map.{layout_of}
use Rattle.free_space.specs.SideCalls.{PlacesCell, AppendsCell, set_of}
use Rattle.record_walk.specs.Tree.{Occurrence}
use Rattle.record_walk.specs.SideChanges.{kinds_of}
use Rattle.record_tree.specs.declared.new_row.NewRow.{NewRow}
use Rattle.record_tree.specs.declared.records.Records.{Records}
use Rattle.record_tree.specs.declared.room.Room.{Room}
use Rattle.record_tree.specs.declared.room.Room.TheVariants.{Lowest, Past}
use Rattle.record_tree.specs.Placing.{unplaced}
use Rattle.record_tree.specs.Changing.{IsCellOf, RowGetsRoom}
use Rattle.record_tree.specs.Storing.{HasRoom, IsPast, RowHasRoom, row_cell, rule_of, segment_for}
use Rattle.record_tree.proofs.Joining.{told_same}
use Rattle.record_tree.proofs.Staying.{cells_same}

-- ---- the call that stores it

pub placed_room : (records : Records) (now : SideCells) (cell : Cell) (at : ℕ) (old later : ShelfView) → PlacesCell records.cells now cell old later at → HasRoom Lowest records cell old later at
placed_room records now cell at old later p = record {
  past = tt;
  gets = record { letter = p.letter; tiles = λ pages is. let b = p.places pages is in (layout_of records.cells.shapes b.now, b.leads) };
}

pub appended_room : (records : Records) (now : SideCells) (cell : Cell) (fbff fspf at : ℕ) (old later : ShelfView) → AppendsCell records.cells now cell fbff fspf old later at → HasRoom (Past fbff fspf) records cell old later at
appended_room records now cell fbff fspf at old later p = record {
  past = p.above;
  gets = record { letter = p.letter; tiles = λ pages is. let b = p.appends pages is in (layout_of records.cells.shapes b.now, b.leads) };
}

pub is_cell : (schema : Schema) (new : NewRow) (name : Ilk) (twin : ℕ) (cell : Cell) → cell ≡ row_cell schema (record (segment_for new) { name = name }) twin → IsCellOf schema (segment_for new) cell
is_cell schema new name twin cell is = record {
  code = ap (λ (c : Cell). c.code) is;
  content = ap (λ (c : Cell). c.content) is;
  kinds = ap (λ (c : Cell). length c.children) is ∙ length-replicate (kinds_of schema (segment_for new)) 0;
}

-- ---- around it

pub unmoved : (shelf : ShelfView) → SameShelf shelf shelf
unmoved shelf = record { pages = λ set. refl; places = λ set. refl; free = refl }

past_same : (room : Room) (records : Records) (old one : ShelfView) (at : ℕ) → SameShelf old one → IsPast room records one at → IsPast room records old at
past_same Lowest records old one at same past = tt
past_same (Past fbff fspf) records old one at same past = λ told other cell is. past (told_same records old one same told) other cell (ap (λ (cells : ℕ → Option Cell). cells other) (cells_same records.cells.first records.cells.shapes old one same.pages) ∙ is)

-- before it pages were only read, and behind it none was added to the cell's data set
pub room_around : (room : Room) (records : Records) (cell : Cell) (at : ℕ) (old one two later : ShelfView) → SameShelf old one → later.places (set_of records.cells cell) ≡ two.places (set_of records.cells cell) → HasRoom room records cell one two at
    → HasRoom room records cell old later at
room_around room records cell at old one two later same places has =
    let set = set_of records.cells cell in
    record {
      past = past_same room records old one at same has.past;
      gets = record {
        letter = λ told. has.gets.letter (told_same records old one same told);
        tiles = λ pages is.
            let (filled, rule) = has.gets.tiles pages (same.pages set ∙ is) in
            (filled, subst (λ (count : ℕ). rule_of room set cell count at (layout_of records.cells.shapes pages) filled) (λ i. length (sym places i) - length (same.places set i)) rule);
      };
    }

pub room_behind : (room : Room) (records : Records) (cell : Cell) (at : ℕ) (old two later : ShelfView) → later.places (set_of records.cells cell) ≡ two.places (set_of records.cells cell) → HasRoom room records cell old two at
    → HasRoom room records cell old later at
room_behind room records cell at old two later places has = room_around room records cell at old old two later (unmoved old) places has

-- of a new row
pub row_room : (room : Room) (records : Records) (new : NewRow) (name : Ilk) (twin : ℕ) (cell : Cell) (at : ℕ) (old later : ShelfView) → cell ≡ row_cell records.schema (record (segment_for new) { name = name }) twin
    → HasRoom room records cell old later at → RowHasRoom room records (segment_for new) old later at
row_room room records new name twin cell at old later is has = record { cell = cell; is = is_cell records.schema new name twin cell is; room_is = has }

pub row_room_around : (room : Room) (records : Records) (new : Occurrence) (at : ℕ) (old one two later : ShelfView) → SameShelf old one → ((cell : Cell) → later.places (set_of records.cells cell) ≡ two.places (set_of records.cells cell))
    → RowHasRoom room records new one two at → RowHasRoom room records new old later at
row_room_around room records new at old one two later same places has = record { cell = has.cell; is = has.is; room_is = room_around room records has.cell at old one two later same (places has.cell) has.room_is }

-- what the caller is told
pub row_gets_room : (room : Room) (records : Records) (code at : ℕ) (content copied : List ℕ) (old later : ShelfView) → copied ≡ content → RowHasRoom room records (unplaced code copied) old later at
    → RowGetsRoom (rule_of room) records (unplaced code content) old later at
row_gets_room room records code at content copied old later same has =
    subst (λ (l : List ℕ). RowGetsRoom (rule_of room) records (unplaced code l) old later at) same (record { cell = has.cell; is = has.is; room = has.room_is.gets })
