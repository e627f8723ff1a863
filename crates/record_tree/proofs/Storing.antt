-- The cell of a new row is stored.
use Rattle.std.proofs.Common.{◌≡◌, ℕ, zero, suc, ◌+◌, ◌-◌, ◌%◌, ◌<◌, ◌≤◌, ◌==◌, ◌&&◌, not, nat_le, Bool, true, false, List, [], ◌∷◌, length, get_or, replicate, Option, None, Some, refl, sym, ap, subst, ◌∙◌, arith, lit≤, if◌then◌else◌}
use Rattle.std.specs.Prelude.{slice_get, count_by, unwrap_or, IsSome}
use Rattle.std.specs.Option.{option_map, option_map_or}
use Rattle.std.proofs.lemmas.Bool.{eqb-true, and_parts, leb-true, false≢true}
use Rattle.std.proofs.lemmas.List.{length-replicate}
use Rattle.std.proofs.lemmas.Option.{slice_get_within}
use Rattle.hal_base.specs.declared.pages.SetId.{SetId}
use Rattle.hal_base.specs.declared.place.Ilk.{Ilk}
use Rattle.hal_base.specs.declared.place.Shape.{Shape}
use Rattle.hal_base.specs.ShelfCalls.{ShelfView}
use Rattle.hal_schema.specs.declared.schema.Schema.{Schema}
use Rattle.hal_schema.specs.declared.schema.SegType.{SegType}
use Rattle.hal_schema.specs.Facts.{SchemasAreKept}
use Rattle.hal_schema.specs.SegType.{is_child}
use Rattle.segment_blocks.specs.declared.tile.Cell.{Cell}
use Rattle.free_space.specs.declared.side.SideCells.{SideCells}
use Rattle.free_space.specs.Map.{Adds, Alters}
use Rattle.free_space.specs.Placing.{opened_pages}
use Rattle.free_space.specs.Side.{lettered, place_of, place_at, are_letters}
use Rattle.free_space.specs.SideCalls.{StandsForSide, StaysOpenOn, IsTold, Turns, OnlyChangesAt, GrowsFor, added_for, set_of, set_at}
use Rattle.free_space.specs.Store.{IsTyped}
use Rattle.keyed_sets.specs.declared.set.KeyedSet.{KeyedSet}
use Rattle.keyed_sets.specs.Calls.{IsOpened}
use Rattle.record_walk.specs.Orders.{ChildPlaces}
use Rattle.record_walk.specs.SideChanges.{kinds_of}
use Rattle.record_tree.specs.declared.new_row.NewRow.{NewRow}
use Rattle.record_tree.specs.declared.records.Records.{Records}
use Rattle.record_tree.specs.declared.room.Room.TheVariants.{Past}
use Rattle.record_tree.specs.Sides.{root_set, root_rows, shapes_of}
use Rattle.record_tree.specs.Standing.{StandsForRecords, cells_seen, rows_seen}
use Rattle.record_tree.specs.Placing.{FitsType, unplaced}
use Rattle.record_tree.specs.Changing.{ChangesSide, TakesSide, home_name}
use Rattle.record_tree.specs.Storing.{StoresCell, room_need, nameless, segment_for, set_name, row_cell, named_cell}
use Rattle.record_tree.proofs.RootRows.{Alike}
use Rattle.record_tree.proofs.Staying.{set_beside}
use Rattle.record_tree.proofs.Types.{shape_at}
use Rattle.record_tree.proofs.Frames.{roots_apart, within_ten, told_back, pages_apart}

-- ---- a segment of a type

pub record FitsAt (schema : Schema) (code : ℕ) (content : List ℕ) : Type 0 where
  pub k : ℕ
  pub t : SegType
  pub code_is : code ≡ suc k
  pub at : slice_get schema.types k ≡ Some t
  pub within : k < length schema.types
  pub long : length content ≡ t.bytes

pub fits_of : (schema : Schema) (code : ℕ) (content : List ℕ) → FitsType schema (unplaced code content) → FitsAt schema code content
fits_of schema zero content fits = absurd (false≢true fits)
fits_of schema (suc k) content fits = by (slice_get schema.types k) refl fits
  where
    by : (o : Option SegType) → slice_get schema.types k ≡ o → option_map_or (λ (t : SegType). length content == t.bytes) o false ≡ true → FitsAt schema (suc k) content
    by None at e = absurd (false≢true e)
    by (Some t) at e = record { k = k; t = t; code_is = refl; at = at; within = slice_get_within schema.types k t at; long = eqb-true (length content) t.bytes e }

pub typed_cell : ChildPlaces → (schema : Schema) (shapes : List Shape) (code : ℕ) (content : List ℕ) (name : Ilk) (twin : ℕ) → shapes ≡ shapes_of schema → FitsType schema (unplaced code content)
    → IsTyped shapes (row_cell schema (record (unplaced code content) { name = name }) twin)
typed_cell places schema shapes code content name twin is fits =
    let f = fits_of schema code content fits in
    let code_is = f.code_is in
    let kinds : ℕ = kinds_of schema (unplaced code content) in
    record {
      coded = omega (arith, code_is);
      typed = ap (λ (l : List Shape). slice_get l (code - 1)) is ∙ ap (slice_get (shapes_of schema)) (less code f.k f.code_is) ∙ shape_at schema f.k f.t f.at
          ∙ ap (λ (s : Shape). Some s) (shape_with (count_by (is_child (1 + f.k)) schema.types) (length (replicate kinds 0)) f.t.bytes (length content)
          (sym (ap (λ (n : ℕ). count_by (is_child n) schema.types) (code_is ∙ one_on f.k)) ∙ sym (places.many schema.types code) ∙ sym (length-replicate kinds 0)) (sym f.long));
    }
  where
    less : (m k : ℕ) → m ≡ suc k → m - 1 ≡ k
    less m k e = omega (arith, e)

    one_on : (n : ℕ) → suc n ≡ 1 + n
    one_on n = omega arith

    shape_with : (a b m n : ℕ) → a ≡ b → m ≡ n → ◌≡◌ {A = Shape} (record { children = a; bytes = m }) (record { children = b; bytes = n })
    shape_with a b m n e f = λ i. record { children = e i; bytes = f i }

pub short_content : SchemasAreKept → (schema : Schema) (code : ℕ) (content : List ℕ) → FitsType schema (unplaced code content) → length content ≤ 2016
short_content kept schema code content fits =
    let f = fits_of schema code content fits in
    let short = ((kept schema).types (suc f.k) f.t f.at).short in
    let long = f.long in
    omega (arith, short, long)

-- ---- the letter of a type

letter_upto : (letters : List ℕ) (k : ℕ) → are_letters letters ≡ true → get_or letters k 0 ≤ 74
letter_upto [] k all = lit_le
  where
    lit_le : 0 ≤ 74
    lit_le = omega arith
letter_upto (x ∷ xs) zero all = leb-true x 74 (and_parts (nat_le 65 x) (nat_le x 74) (and_parts (nat_le 65 x && nat_le x 74) (are_letters xs) all).0).1
letter_upto (x ∷ xs) (suc k) all = letter_upto xs k (and_parts (nat_le 65 x && nat_le x 74) (are_letters xs) all).1

pub place_below : (letters : List ℕ) (code : ℕ) → are_letters letters ≡ true → place_of letters code < 10
place_below letters code all = let upto = letter_upto letters (code - 1) all in omega (arith, upto)

-- ---- the room for a cell

pub takes_cell : (records : Records) (shelf : ShelfView) (cell : Cell) → StandsForRecords records shelf → TakesSide records shelf → shelf.takes (set_of records.cells cell) 1 ≡ true
takes_cell records shelf cell stands takes =
    let place : ℕ = place_of records.cells.letters cell.code in
    subst (λ (x : SetId). shelf.takes (lettered x place) 1 ≡ true) (sym stands.of.first) (takes.letters place (place_below records.cells.letters cell.code stands.cells.letters))

pub grows_cell : {more reads : ℕ} {s f : Type 0} (most : ℕ) (records : Records) (old new : ShelfView) (cell : Cell) → Alike old → Alike new → are_letters records.cells.letters ≡ true → GrowsFor more reads records.cells cell s f old new
    → added_for records.cells cell old new ≤ most → ChangesSide most records s f old new
grows_cell most records old new cell before after letters leaves few =
    let set_is : SetId = set_of records.cells cell in
    let below = place_below records.cells.letters cell.code letters in
    record {
      keeps = leaves.changes.keeps;
      pages = λ set apart. leaves.changes.grown.others set (λ e. apart.letters (place_of records.cells.letters cell.code) below (sym e));
      places = λ set apart. leaves.changes.grown.other_places set (λ e. apart.letters (place_of records.cells.letters cell.code) below (sym e));
      untold = λ set none. after set_is set (leaves.changes.grown.untold (before set set_is none));
      count = added_for records.cells cell old new;
      few = few;
      enough = leaves.changes.grown.enough;
      free = leaves.changes.grown.free;
    }

opened_few : (fbff count : ℕ) → opened_pages fbff count ≤ (if fbff == 0 then 1 else 2)
opened_few fbff count = by (fbff == 0) ((count + 1) % fbff == 0)
  where
    by : (b c : Bool) → (if not b && c then 2 else 1) ≤ (if b then 1 else 2)
    by true c = lit≤ tt
    by false true = lit≤ tt
    by false false = lit≤ tt

-- what FRSPC's rule opens for a cell that goes past all others
pub past_few : (fbff fspf count many : ℕ) → many ≤ opened_pages fbff count → many ≤ room_need (Past fbff fspf)
past_few fbff fspf count many le = let few = opened_few fbff count in omega (arith, le, few)

pub stores_cell : {more reads : ℕ} {s f : Type 0} (records : Records) (cells : SideCells) (cell : Cell) (at : ℕ) (old new : ShelfView) → Alike old → Alike new → StandsForRecords records old → GrowsFor more reads records.cells cell s f old new
    → StaysOpenOn records.cells cells new → Turns records.cells cells old new (Adds at cell) → StoresCell records (record records { cells = cells }) cell old new at
stores_cell records cells cell at old new before after stands leaves stays turns =
    let below = place_below records.cells.letters cell.code stands.cells.letters in
    let apart : records.roots.set ≡ set_of records.cells cell → ⊥ = λ e.
    roots_apart records.cells.first (place_of records.cells.letters cell.code) stands.cells.first below (sym e ∙ stands.of.roots ∙ ap root_set (sym stands.of.first)) in
    let pages : new.pages records.roots.set ≡ old.pages records.roots.set = leaves.changes.grown.others records.roots.set apart in
    record {
      schema = refl;
      place = refl;
      first = refl;
      roots = refl;
      cells = stays;
      opened = set_beside records.roots old new stands.roots pages (leaves.changes.grown.other_places records.roots.set apart);
      rows = ap (root_rows records.roots.shape) pages;
      adds = turns;
      back = λ told. told_back old new (set_of records.cells cell) before after leaves.changes.grown.untold records.cells.first (subst (λ (x : SetId). IsSome (new.pages x)) stays.first told);
    }

-- ---- a stored cell that is changed

adds_alters : (at : ℕ) (cell : Cell) (change : Cell → Cell) (old one two : ℕ → Option Cell) → Adds at cell old one → Alters at change one two → Adds at (change cell) old two
adds_alters at cell change old one two adds alters = record {
  free = adds.free;
  stands = alters.altered ∙ ap (option_map change) adds.stands;
  elsewhere = λ other off. alters.elsewhere other off ∙ adds.elsewhere other off;
}

-- the address is one of the ten letters'
pub stored_within : (records mid : Records) (cell : Cell) (at : ℕ) (old one : ShelfView) → StoresCell records mid cell old one at → IsTold mid.cells one → place_at at < 10
stored_within records mid cell at old one st told = within_ten mid.cells.first mid.cells.shapes one at cell (st.adds (st.back told)).1.stands

pub set_of_roots : (records mid : Records) (cell : Cell) (at : ℕ) (old one : ShelfView) → StandsForRecords records old → StoresCell records mid cell old one at → mid.roots.set ≡ root_set mid.cells.first
set_of_roots records mid cell at old one stands st =
    ap (λ (r : KeyedSet). r.set) st.roots ∙ stands.of.roots ∙ ap root_set (sym stands.of.first) ∙ ap root_set (sym st.cells.first)

-- of a cell of the side that was changed after a cell was stored
pub record Beside (mid : Records) (one two : ShelfView) : Type 0 where
  pub opened : IsOpened mid.roots two
  pub rows : rows_seen mid two ≡ rows_seen mid one
  pub back : IsTold mid.cells two → IsTold mid.cells one

pub beside_stored : {s f : Type 0} (records mid : Records) (cell : Cell) (at to : ℕ) (old one two : ShelfView) → Alike one → Alike two → StandsForRecords records old → StoresCell records mid cell old one at
    → (IsTold mid.cells one → place_at to < 10) → OnlyChangesAt mid.cells to s f one two → Beside mid one two
beside_stored records mid cell at to old one two before after stands st within leaves =
    let pages : two.pages mid.roots.set ≡ one.pages mid.roots.set = pages_apart mid.cells one two to before after within leaves.changed mid.roots.set
    (λ place below e. roots_apart mid.cells.first place st.cells.stands.first below (e ∙ set_of_roots records mid cell at old one stands st)) in
    record {
      opened = set_beside mid.roots one two st.opened pages (leaves.changed.places mid.roots.set);
      rows = ap (root_rows mid.roots.shape) pages;
      back = λ told. told_back one two (set_at mid.cells to) before after leaves.changed.untold mid.cells.first told;
    }

pub restored : {s f : Type 0} (records mid : Records) (cell : Cell) (at : ℕ) (change : Cell → Cell) (old one two : ShelfView) → Alike one → Alike two → StandsForRecords records old → StoresCell records mid cell old one at
    → OnlyChangesAt mid.cells at s f one two → StandsForSide mid.cells two → Turns mid.cells mid.cells one two (Alters at change) → StoresCell records mid (change cell) old two at
restored records mid cell at change old one two before after stands st leaves side turns =
    let b = beside_stored records mid cell at at old one two before after stands st (stored_within records mid cell at old one st) leaves in
    record {
      schema = st.schema;
      place = st.place;
      first = st.first;
      roots = st.roots;
      cells = record { first = st.cells.first; letters = st.cells.letters; shapes = st.cells.shapes; stands = side };
      opened = b.opened;
      rows = b.rows ∙ st.rows;
      adds = λ told.
          let (stored, adds) = st.adds told in
          let (now, alters) = turns stored in
          (now, adds_alters at cell change (cells_seen records old) (cells_seen mid one) (cells_seen mid two) adds alters);
      back = λ told. st.back (b.back told);
    }

-- ---- the name

pub named_some : (records : Records) (new : NewRow) (twin at : ℕ) (n : Ilk) → new.name ≡ Some n → row_cell records.schema (record (segment_for new) { name = unwrap_or new.name nameless }) twin ≡ named_cell records new twin at
named_some records new twin at n e =
    ap (λ (o : Option Ilk). row_cell records.schema (record (segment_for new) { name = unwrap_or o nameless }) twin) e
    ∙ sym (ap (λ (o : Option Ilk). row_cell records.schema (record (segment_for new) { home = at; name = unwrap_or o (home_name records at) }) twin) e)

pub named_none : (records : Records) (new : NewRow) (twin at : ℕ) → new.name ≡ None
    → set_name (home_name records at) (row_cell records.schema (record (segment_for new) { name = unwrap_or new.name nameless }) twin) ≡ named_cell records new twin at
named_none records new twin at e = sym (ap (λ (o : Option Ilk). row_cell records.schema (record (segment_for new) { home = at; name = unwrap_or o (home_name records at) }) twin) e)

pub name_stored : {s f : Type 0} (records mid : Records) (new : NewRow) (twin at : ℕ) (cell : Cell) (old one two : ShelfView) → Alike one → Alike two → StandsForRecords records old
    → cell ≡ row_cell records.schema (record (segment_for new) { name = unwrap_or new.name nameless }) twin → new.name ≡ None → StoresCell records mid cell old one at → OnlyChangesAt mid.cells at s f one two → StandsForSide mid.cells two
    → Turns mid.cells mid.cells one two (Alters at (set_name (home_name mid at))) → StoresCell records mid (named_cell records new twin at) old two at
name_stored records mid new twin at cell old one two before after stands is none st leaves side turns =
    let named : set_name (home_name mid at) cell ≡ named_cell records new twin at =
    ap (λ (x : SetId). set_name (record { addr = at; part = x.part; number = x.number }) cell) st.first ∙ ap (set_name (home_name records at)) is ∙ named_none records new twin at none in
    subst (λ (c : Cell). StoresCell records mid c old two at) named (restored records mid cell at (set_name (home_name mid at)) old one two before after stands st leaves side turns)
