-- What a new row makes of the list.
use Rattle.std.proofs.Common.{◌≡◌, ℕ, ◌==◌, ◌&&◌, ◌||◌, if◌then◌else◌, not, Bool, true, false, List, [], ◌∷◌, Option, None, Some, refl, sym, ap, subst, ◌∙◌, arith}
use Rattle.std.specs.Prelude.{find, slice_get}
use Rattle.std.specs.List.{list_all, list_any}
use Rattle.std.specs.Option.{option_map, option_map_or}
use Rattle.std.specs.Str.{bytes_eq}
use Rattle.std.proofs.lemmas.Bool.{and_parts, eqb-true, false≢true}
use Rattle.hal_base.specs.declared.place.Ilk.{Ilk}
use Rattle.hal_base.specs.ShelfCalls.{ShelfView}
use Rattle.hal_schema.specs.declared.schema.Schema.{Schema}
use Rattle.hal_schema.specs.Facts.{SchemasAreKept}
use Rattle.hal_schema.specs.Insertion.{inserted as inserted_into}
use Rattle.hal_schema.specs.Row.{same_name}
use Rattle.hal_schema.specs.SegType.{parent_code}
use Rattle.segment_blocks.specs.declared.tile.Cell.{Cell}
use Rattle.record_walk.specs.Tree.{Occurrence, Chains, child_codes}
use Rattle.record_walk.specs.Listing.{Placed, placed, list_in, rows_of}
use Rattle.record_walk.specs.Firsts.{NextStaysBehind, FirstChildrenAreInserted, LaterChildrenAreInserted}
use Rattle.record_walk.specs.InRecords.{SidesListTheirCells, is_cell_of}
use Rattle.record_walk.specs.Orders.{child_place, ChildPlaces}
use Rattle.record_walk.specs.Pointers.{Below}
use Rattle.record_walk.specs.Side.{seen}
use Rattle.record_walk.specs.SideChanges.{kinds_of}
use Rattle.record_walk.specs.Spans.{ComesIn, NewSegmentsAreListed, NewTwinsStandBehindSpans}
use Rattle.record_tree.specs.declared.new_row.NewRow.{NewRow}
use Rattle.record_tree.specs.declared.place.Place.{Place}
use Rattle.record_tree.specs.declared.records.Records.{Records}
use Rattle.record_tree.specs.declared.room.Room.{Room}
use Rattle.record_tree.specs.declared.room.Room.TheVariants.{Lowest, Past}
use Rattle.record_tree.specs.Standing.{Walks, HoldsRow, cells_seen, rows_seen}
use Rattle.record_tree.specs.Placing.{HasPointer, IsPlaceBelow, IsPlace, IsPlaceLast, FitsType, unplaced, pointer_at, led_to, name_of, pointer_from}
use Rattle.record_tree.specs.Changing.{RowComes, RowComesLast, RowIsIn, Inserts, ComesLast, LoadsRow, at_home, home_name}
use Rattle.record_tree.specs.Storing.{HasChildPlace, Joins, ComesAsRoot, ComesAt, HasPlace, RowHasRoom, pointer_home, joined_trees, segment_for}
use Rattle.record_tree.proofs.Seen.{some_is, seen_at}
use Rattle.record_tree.proofs.Leading.{homes, records_of, read_of}
use Rattle.record_tree.proofs.Joining.{is_met}
use Rattle.record_tree.proofs.Rooms.{row_gets_room}

-- ---- the parent's name

names_are : (a b : Ilk) → same_name a b ≡ true → a ≡ b
names_are a b e =
    let p = and_parts (a.addr == b.addr && a.part == b.part) (a.number == b.number) e in
    let q = and_parts (a.addr == b.addr) (a.part == b.part) p.0 in
    λ i. record { addr = eqb-true a.addr b.addr q.0 i; part = eqb-true a.part b.part q.1 i; number = eqb-true a.number b.number p.1 i }

named_in : (cells : ℕ → Option Cell) (at : ℕ) (cell : Cell) → cells at ≡ Some cell → (list : List Placed) → list_all (λ p. option_map_or (is_cell_of p.row) (cells p.home) false) list ≡ true → list_any (λ p. p.home == at) list ≡ true
    → name_of list (Some at) ≡ Some cell.name
named_in cells at cell is [] stand met = absurd (false≢true met)
named_in cells at cell is (p ∷ list) stand met =
    by (p.home == at) refl met
    (named_in cells at cell is list (and_parts (option_map_or (is_cell_of p.row) (cells p.home) false) (list_all (λ p. option_map_or (is_cell_of p.row) (cells p.home) false) list) stand).1)
  where
    by : (b : Bool) → (p.home == at) ≡ b → (b || list_any (λ p. p.home == at) list) ≡ true → (list_any (λ p. p.home == at) list ≡ true → name_of list (Some at) ≡ Some cell.name) → option_map (λ (p : Placed). p.row.name) (if b then Some p else find (λ (p : Placed). p.home == at) list) ≡ Some cell.name
    by true e m rest =
        let own = (and_parts (option_map_or (is_cell_of p.row) (cells p.home) false) (list_all (λ p. option_map_or (is_cell_of p.row) (cells p.home) false) list) stand).0 in
        let there : cells p.home ≡ Some cell = ap cells (eqb-true p.home at e) ∙ is in
        let of : is_cell_of p.row cell ≡ true = subst (λ (o : Option Cell). option_map_or (is_cell_of p.row) o false ≡ true) there own in
        let front = (and_parts (not cell.copied && cell.code == p.row.code && same_name cell.name p.row.name) (bytes_eq cell.content p.row.content) of).0 in
        let name = (and_parts (not cell.copied && cell.code == p.row.code) (same_name cell.name p.row.name) front).1 in
        ap (λ (n : Ilk). Some n) (sym (names_are cell.name p.row.name name))
    by false e m rest = rest m

named_at : SidesListTheirCells → (records : Records) (shelf : ShelfView) (trees : Chains) → Walks records shelf trees → (at : ℕ) (cell : Cell) → cells_seen records shelf at ≡ Some cell → cell.copied ≡ false
    → name_of (list_in None trees) (Some at) ≡ Some cell.name
named_at law records shelf trees walks at cell is un =
    let l = law records.schema records.place (cells_seen records shelf) (rows_seen records shelf) trees walks.side in
    named_in (cells_seen records shelf) at cell is (list_in None trees) l.stand (l.met at cell is un)

-- ---- a dependent

-- the laws that a proof is given
pub record Laws : Type 0 where
  pub kept : SchemasAreKept
  pub places : ChildPlaces
  pub cells : SidesListTheirCells
  pub listed : NewSegmentsAreListed

-- a new row as the list has it, and how many pointers it has
abbrev occurrence : Records → NewRow → ℕ → Occurrence
occurrence records new at = at_home records new.name (segment_for new) at

comes_in : Laws → (records : Records) (shelf : ShelfView) (above : ℕ) (prior : Option ℕ) (new : NewRow) (at : ℕ) → HasPointer records shelf above prior new.code
    → HoldsRow records shelf (pointer_home above prior) (HasChildPlace records.schema prior new.code) → (trees : Chains) → Walks records shelf trees
    → ComesIn records.schema.types (occurrence records new at) (list_in None trees) (list_in None (joined_trees records above prior new at trees))
comes_in laws records shelf above prior new at p place trees walks =
    let m = is_met laws.kept laws.places records shelf above prior new.code p place trees walks in
    laws.listed records.schema (seen records.schema.phdam (cells_seen records shelf)) (homes (rows_seen records shelf)) trees (pointer_at records.schema above new.code prior) (occurrence records new at) (kinds_of records.schema (segment_for new))
    (records_of records.schema records.place (cells_seen records shelf) (rows_seen records shelf) trees walks.side.walked) m.within

first_comes : Laws → FirstChildrenAreInserted → (records : Records) (shelf : ShelfView) (above : ℕ) (new : NewRow) (at : ℕ) → HasPointer records shelf above None new.code
    → HoldsRow records shelf above (HasChildPlace records.schema None new.code) → NextStaysBehind records.schema (Below above (child_place records.schema.types new.code)) (seen records.schema.phdam (cells_seen records shelf)) [] (segment_for new)
    → (trees : Chains) → Walks records shelf trees
    → RowComes records.schema (name_of (list_in None trees) (Some above)) (occurrence records new at) (list_in None trees) (list_in None (joined_trees records above None new at trees))
first_comes laws law records shelf above new at p place next trees walks =
    let types = records.schema.types in
    let (cell, is, (un, has)) = place walks.told in
    let read = read_of records shelf above (λ c. parent_code types new.code ≡ Some c.code) cell p.parent walks.told is in
    let s = seen_at records.schema.phdam (cells_seen records shelf) above cell is in
    let m = is_met laws.kept laws.places records shelf above None new.code p place trees walks in
    let coded : slice_get (child_codes types s.other.code) (child_place types new.code) ≡ Some new.code = laws.places.place types s.other.code new.code (read.holds ∙ ap (λ (n : ℕ). Some n) (sym s.of.code)) in
    let name : name_of (list_in None trees) (Some above) ≡ Some s.other.name = named_at laws.cells records shelf trees walks above cell is un ∙ ap (λ (n : Ilk). Some n) (sym s.of.name) in
    record {
      comes = comes_in laws records shelf above None new at p place trees walks;
      inserted = λ names rise.
          law records.schema (seen records.schema.phdam (cells_seen records shelf)) (homes (rows_seen records shelf)) trees above (child_place types new.code) s.other (occurrence records new at) (kinds_of records.schema (segment_for new))
          (records_of records.schema records.place (cells_seen records shelf) (rows_seen records shelf) trees walks.side.walked) m.within names rise s.is coded next
          ∙ ap (λ (o : Option Ilk). inserted_into records.schema (rows_of (list_in None trees)) (placed o (occurrence records new at)).row) (sym name);
    }

later_comes : Laws → LaterChildrenAreInserted → (records : Records) (shelf : ShelfView) (above prior : ℕ) (new : NewRow) (at : ℕ) → IsPlaceBelow records shelf above (Some prior) (segment_for new)
    → HoldsRow records shelf prior (HasChildPlace records.schema (Some prior) new.code) → (trees : Chains) → Walks records shelf trees
    → RowComes records.schema (name_of (list_in None trees) (Some above)) (occurrence records new at) (list_in None trees) (list_in None (joined_trees records above (Some prior) new at trees))
later_comes laws law records shelf above prior new at p place trees walks =
    let types = records.schema.types in
    let (cell, is, (un, up)) = p.parent walks.told in
    let (twin, there, (uncopied, has)) = place walks.told in
    let pointer : HasPointer records shelf above (Some prior) new.code = record { parent = p.parent; twin = p.twin } in
    let s = seen_at records.schema.phdam (cells_seen records shelf) above cell is in
    let coded : slice_get (child_codes types s.other.code) (child_place types new.code) ≡ Some new.code = laws.places.place types s.other.code new.code (up ∙ ap (λ (n : ℕ). Some n) (sym s.of.code)) in
    let name : name_of (list_in None trees) (Some above) ≡ Some s.other.name = named_at laws.cells records shelf trees walks above cell is un ∙ ap (λ (n : Ilk). Some n) (sym s.of.name) in
    record {
      comes = comes_in laws records shelf above (Some prior) new at pointer place trees walks;
      inserted = λ names rise.
          law records.schema (seen records.schema.phdam (cells_seen records shelf)) (homes (rows_seen records shelf)) trees above (child_place types new.code) prior s.other (occurrence records new at) (kinds_of records.schema (segment_for new))
          (records_of records.schema records.place (cells_seen records shelf) (rows_seen records shelf) trees walks.side.walked) (walks.side.walked.all_met above cell is un) (walks.side.walked.all_met prior twin there uncopied) names rise s.is coded
          (p.before prior refl trees walks) p.next
          ∙ ap (λ (o : Option Ilk). inserted_into records.schema (rows_of (list_in None trees)) (placed o (occurrence records new at)).row) (sym name);
    }

-- ---- by the place

pub inserted_row : Laws → FirstChildrenAreInserted → LaterChildrenAreInserted → (records now : Records) (place : Place) (new : NewRow) (at : ℕ) (old later : ShelfView) → IsPlace records old place (segment_for new) → ComesAt records now place new old later at
    → RowIsIn records now (pointer_from records.schema new.code place.parent place.prior) (occurrence records new at) old later (λ list changed. RowComes records.schema (name_of list place.parent) (occurrence records new at) list changed)
inserted_row laws first following records now place new at old later is comes = by place.parent place.prior is.below comes.below comes.root
  where
    by : (parent prior : Option ℕ) → ((above : ℕ) → parent ≡ Some above → IsPlaceBelow records old above prior (segment_for new)) → ((above : ℕ) → parent ≡ Some above → Joins records now above prior new old later at)
        → (parent ≡ None → ComesAsRoot records now new old later at) → RowIsIn records now (pointer_from records.schema new.code parent prior) (occurrence records new at) old later (λ list changed. RowComes records.schema (name_of list parent) (occurrence records new at) list changed)
    by None prior below joins root = root refl
    by (Some above) None below joins root =
        let j = joins above refl in
        let p = below above refl in
        record {
          stays = j.stays;
          list = λ trees walks. record {
            trees = joined_trees records above None new at trees;
            walks = j.trees trees walks;
            leads = first_comes laws first records old above new at (record { parent = p.parent; twin = p.twin }) j.place p.next trees walks;
          };
          cells = j.cells;
        }
    by (Some above) (Some prior) below joins root =
        let j = joins above refl in
        record {
          stays = j.stays;
          list = λ trees walks. record {
            trees = joined_trees records above (Some prior) new at trees;
            walks = j.trees trees walks;
            leads = later_comes laws following records old above prior new at (below above refl) j.place trees walks;
          };
          cells = j.cells;
        }

pub last_row : Laws → FirstChildrenAreInserted → NewTwinsStandBehindSpans → (records now : Records) (place : Place) (new : NewRow) (at : ℕ) (old later : ShelfView) → IsPlaceLast records old place (segment_for new) → ComesAt records now place new old later at
    → RowIsIn records now (pointer_from records.schema new.code place.parent place.prior) (occurrence records new at) old later (RowComesLast records.schema place.parent place.prior (occurrence records new at))
last_row laws first spans records now place new at old later is comes = by place.parent place.prior is.below comes.below comes.root
  where
    nothing : (above : ℕ) → led_to records old above None new.code ≡ 0 → NextStaysBehind records.schema (Below above (child_place records.schema.types new.code)) (seen records.schema.phdam (cells_seen records old)) [] (segment_for new)
    nothing above none cell some there = absurd (omega (arith, none, some))

    by : (parent prior : Option ℕ) → ((above : ℕ) → parent ≡ Some above → HasPointer records old above prior new.code × (led_to records old above prior new.code ≡ 0)) → ((above : ℕ) → parent ≡ Some above → Joins records now above prior new old later at)
        → (parent ≡ None → ComesAsRoot records now new old later at) → RowIsIn records now (pointer_from records.schema new.code parent prior) (occurrence records new at) old later (RowComesLast records.schema parent prior (occurrence records new at))
    by None None below joins root = root refl
    by None (Some prior) below joins root = root refl
    by (Some above) None below joins root =
        let j = joins above refl in
        let (p, none) = below above refl in
        record {
          stays = j.stays;
          list = λ trees walks. record {
            trees = joined_trees records above None new at trees;
            walks = j.trees trees walks;
            leads = first_comes laws first records old above new at p j.place (nothing above none) trees walks;
          };
          cells = j.cells;
        }
    by (Some above) (Some prior) below joins root =
        let j = joins above refl in
        record {
          stays = j.stays;
          list = λ trees walks.
              let (twin, there, (uncopied, has)) = j.place walks.told in
              record {
                trees = joined_trees records above (Some prior) new at trees;
                walks = j.trees trees walks;
                leads = spans records.schema (seen records.schema.phdam (cells_seen records old)) (homes (rows_seen records old)) trees prior (occurrence records new at) (kinds_of records.schema (segment_for new))
                    (records_of records.schema records.place (cells_seen records old) (rows_seen records old) trees walks.side.walked) (walks.side.walked.all_met prior twin there uncopied);
              };
          cells = j.cells;
        }

-- ---- the calls

-- the content was copied
pub place_for : (records : Records) (shelf : ShelfView) (place : Place) (code : ℕ) (name : Option Ilk) (room : Room) (content copied : List ℕ) → copied ≡ content → IsPlace records shelf place (unplaced code content)
    → HasPlace records shelf place (record { code = code; name = name; content = copied; room = room })
place_for records shelf place code name room content copied same is =
    subst (λ (l : List ℕ). HasPlace records shelf place (record { code = code; name = name; content = l; room = room })) (sym same)
    (record { below = λ above e. let p = is.below above e in record { parent = p.parent; twin = p.twin }; root = is.root })

pub last_place_for : (records : Records) (shelf : ShelfView) (place : Place) (code : ℕ) (name : Option Ilk) (room : Room) (content copied : List ℕ) → copied ≡ content → IsPlaceLast records shelf place (unplaced code content)
    → HasPlace records shelf place (record { code = code; name = name; content = copied; room = room })
last_place_for records shelf place code name room content copied same is =
    subst (λ (l : List ℕ). HasPlace records shelf place (record { code = code; name = name; content = l; room = room })) (sym same) (record { below = λ above e. (is.below above e).0; root = is.root })

pub fits_for : (schema : Schema) (code : ℕ) (content copied : List ℕ) → copied ≡ content → FitsType schema (unplaced code content) → FitsType schema (unplaced code copied)
fits_for schema code content copied same fits = subst (λ (l : List ℕ). FitsType schema (unplaced code l)) (sym same) fits

-- the name is that of the home, before as after
named_home : (records now : Records) (at : ℕ) (name : Ilk) → now.first ≡ records.first → name ≡ home_name now at → name ≡ home_name records at
named_home records now at name first is =
    let home : home_name now at ≡ home_name records at = λ i. record { addr = at; part = (first i).part; number = (first i).number } in
    is ∙ home

pub inserts : Laws → FirstChildrenAreInserted → LaterChildrenAreInserted → (records now : Records) (place : Place) (code : ℕ) (content copied : List ℕ) (at : ℕ) (name : Ilk) (old later : ShelfView) → copied ≡ content → name ≡ home_name now at
    → IsPlace records old place (unplaced code content) → ComesAt records now place (record { code = code; name = None; content = copied; room = Lowest }) old later at → RowHasRoom Lowest records (unplaced code copied) old later at
    → Inserts records now place (unplaced code content) old later name
inserts laws first following records now place code content copied at name old later same is place_is comes room =
    let new : NewRow = record { code = code; name = None; content = content; room = Lowest } in
    let row = inserted_row laws first following records now place new at old later place_is (subst (λ (l : List ℕ). ComesAt records now place (record { code = code; name = None; content = l; room = Lowest }) old later at) same comes) in
    subst (λ (n : Ilk). Inserts records now place (unplaced code content) old later n) (sym (named_home records now at name row.stays.first is))
    (record { name_is = refl; room = row_gets_room Lowest records code at content copied old later same room; row = row })

-- what is so of a row that came behind all others
pub record CameLast (fbff fspf : ℕ) (records now : Records) (place : Place) (code : ℕ) (name : Option Ilk) (copied : List ℕ) (at : ℕ) (old later : ShelfView) : Type 0 where
  pub comes : ComesAt records now place (record { code = code; name = name; content = copied; room = Past fbff fspf }) old later at
  pub room : RowHasRoom (Past fbff fspf) records (unplaced code copied) old later at

pub comes_last : Laws → FirstChildrenAreInserted → NewTwinsStandBehindSpans → (fbff fspf : ℕ) (records now : Records) (place : Place) (code : ℕ) (name : Option Ilk) (content copied : List ℕ) (at : ℕ) (old later : ShelfView) → copied ≡ content
    → IsPlaceLast records old place (unplaced code content) → CameLast fbff fspf records now place code name copied at old later → ComesLast fbff fspf records now place name (unplaced code content) old later at
comes_last laws first spans fbff fspf records now place code name content copied at old later same place_is came =
    let room = Past fbff fspf in
    record {
      above = came.room.room_is.past;
      room = row_gets_room room records code at content copied old later same came.room;
      row = last_row laws first spans records now place (record { code = code; name = name; content = content; room = room }) at old later place_is
          (subst (λ (l : List ℕ). ComesAt records now place (record { code = code; name = name; content = l; room = room }) old later at) same came.comes);
    }

pub loads : (fbff fspf : ℕ) (records now : Records) (place : Place) (code at : ℕ) (content : List ℕ) (name : Ilk) (old later : ShelfView) → name ≡ home_name now at
    → ComesLast fbff fspf records now place None (unplaced code content) old later at → LoadsRow fbff fspf records now place (unplaced code content) old later name
loads fbff fspf records now place code at content name old later is comes =
    subst (λ (n : Ilk). LoadsRow fbff fspf records now place (unplaced code content) old later n) (sym (named_home records now at name comes.row.stays.first is)) (record { name_is = refl; row = comes })

-- where a dependent came, and a root
pub at_dependent : (records now : Records) (place : Place) (above : ℕ) (new : NewRow) (old later : ShelfView) (at : ℕ) → place.parent ≡ Some above → Joins records now above place.prior new old later at → ComesAt records now place new old later at
at_dependent records now place above new old later at is joins = record {
  below = λ up e. subst (λ (n : ℕ). Joins records now n place.prior new old later at) (some_is above up (sym is ∙ e)) joins;
  root = λ none. absurd (let wrong : Some above ≡ None = sym is ∙ none in cc);
}

pub at_root : (records now : Records) (place : Place) (new : NewRow) (old later : ShelfView) (at : ℕ) → place.parent ≡ None → ComesAsRoot records now new old later at → ComesAt records now place new old later at
at_root records now place new old later at is comes = record { below = λ up e. absurd (let wrong : Some up ≡ None = sym e ∙ is in cc); root = λ none. comes }
