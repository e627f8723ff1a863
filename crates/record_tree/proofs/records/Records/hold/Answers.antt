use Rattle.std.proofs.Common.{length, sym, subst}
use Rattle.hal_base.specs.declared.outcome.PageFault.TheVariants.{Failed}
use Rattle.std.specs.Prelude.{IfOk, IsErrOf}
use Rattle.free_space.specs.SideCalls.{KeepsCells, PlacesCell, AppendsCell, set_of, added_for}
use Rattle.record_tree.specs.declared.room.Room.{Room}
use Rattle.record_tree.specs.declared.room.Room.TheVariants.{Lowest, Past}
use Rattle.record_tree.specs.Changing.{ChangesSide}
use Rattle.record_tree.specs.Storing.{HasRoom, StoresCell, room_need}
use Rattle.record_tree.proofs.Frames.{ok_match}
use Rattle.record_tree.proofs.Rooms.{placed_room, appended_room}
use Rattle.record_tree.proofs.Storing.{grows_cell, past_few, stores_cell}
use Rattle.record_tree.proofs.records.Records.hold.Goals as goal

pub returns-in-Lowest-clause-stored : goal.returns-in-Lowest-clause-stored
returns-in-Lowest-clause-stored g c =
    let records = c.args.self.now in
    let old = g.H.Shelf.seen c.args.shelf.now in
    let new = g.H.Shelf.seen c.place.new.shelf in
    let cells = c.place.new.self in
    let cell = c.args.cell.now in
    ok_match (PlacesCell records.cells cells cell old new) (StoresCell records (record records { cells = cells }) cell old new) (λ _. KeepsCells records.cells cells cell old new) c.place.result c.place.ensures.placed (λ at placed.
    stores_cell records cells cell at old new (g.met.H.Shelf.told_alike c.args.shelf.now) (g.met.H.Shelf.told_alike c.place.new.shelf) c.requires.stands c.place.ensures.leaves c.place.ensures.stays placed.adds)

pub returns-in-Lowest-clause-leaves : goal.returns-in-Lowest-clause-leaves
returns-in-Lowest-clause-leaves g c =
    let old = g.H.Shelf.seen c.args.shelf.now in
    let new = g.H.Shelf.seen c.place.new.shelf in
    subst (λ (r : Room). ChangesSide (room_need r) c.args.self.now (g.H.Shelf.steady c.args.shelf.now c.place.new.shelf) (IsErrOf c.place.result Failed) old new) (sym c.in-Lowest.is)
    (grows_cell 1 c.args.self.now old new c.args.cell.now (g.met.H.Shelf.told_alike c.args.shelf.now) (g.met.H.Shelf.told_alike c.place.new.shelf) c.requires.stands.cells.letters c.place.ensures.leaves c.place.ensures.leaves.at_most)

pub returns-in-Past-clause-stored : goal.returns-in-Past-clause-stored
returns-in-Past-clause-stored g c =
    let records = c.args.self.now in
    let old = g.H.Shelf.seen c.args.shelf.now in
    let new = g.H.Shelf.seen c.append.new.shelf in
    let cells = c.append.new.self in
    let cell = c.args.cell.now in
    ok_match (AppendsCell records.cells cells cell c.in-Past.fbff c.in-Past.fspf old new) (StoresCell records (record records { cells = cells }) cell old new) (λ _. KeepsCells records.cells cells cell old new) c.append.result
    c.append.ensures.appended (λ at appended.
    stores_cell records cells cell at old new (g.met.H.Shelf.told_alike c.args.shelf.now) (g.met.H.Shelf.told_alike c.append.new.shelf) c.requires.stands c.append.ensures.leaves c.append.ensures.stays appended.adds)

pub returns-in-Past-clause-leaves : goal.returns-in-Past-clause-leaves
returns-in-Past-clause-leaves g c =
    let records = c.args.self.now in
    let old = g.H.Shelf.seen c.args.shelf.now in
    let new = g.H.Shelf.seen c.append.new.shelf in
    subst (λ (r : Room). ChangesSide (room_need r) records (g.H.Shelf.steady c.args.shelf.now c.append.new.shelf) (IsErrOf c.append.result Failed) old new) (sym c.in-Past.is)
    (grows_cell (room_need (Past c.in-Past.fbff c.in-Past.fspf)) records old new c.args.cell.now (g.met.H.Shelf.told_alike c.args.shelf.now) (g.met.H.Shelf.told_alike c.append.new.shelf) c.requires.stands.cells.letters c.append.ensures.leaves
    (past_few c.in-Past.fbff c.in-Past.fspf (length (old.places (set_of records.cells c.args.cell.now))) (added_for records.cells c.args.cell.now old new) c.append.ensures.leaves.at_most))

pub returns-in-Lowest-clause-room : goal.returns-in-Lowest-clause-room
returns-in-Lowest-clause-room g c =
    let records = c.args.self.now in
    let old = g.H.Shelf.seen c.args.shelf.now in
    let new = g.H.Shelf.seen c.place.new.shelf in
    let cells = c.place.new.self in
    let cell = c.args.cell.now in
    subst (λ (r : Room). IfOk c.place.result (HasRoom r records cell old new)) (sym c.in-Lowest.is)
    (ok_match (PlacesCell records.cells cells cell old new) (HasRoom Lowest records cell old new) (λ _. KeepsCells records.cells cells cell old new) c.place.result c.place.ensures.placed (λ at placed. placed_room records cells cell at old new placed))

pub returns-in-Past-clause-room : goal.returns-in-Past-clause-room
returns-in-Past-clause-room g c =
    let records = c.args.self.now in
    let old = g.H.Shelf.seen c.args.shelf.now in
    let new = g.H.Shelf.seen c.append.new.shelf in
    let cells = c.append.new.self in
    let cell = c.args.cell.now in
    let fbff = c.in-Past.fbff in
    let fspf = c.in-Past.fspf in
    subst (λ (r : Room). IfOk c.append.result (HasRoom r records cell old new)) (sym c.in-Past.is)
    (ok_match (AppendsCell records.cells cells cell fbff fspf old new) (HasRoom (Past fbff fspf) records cell old new) (λ _. KeepsCells records.cells cells cell old new) c.append.result c.append.ensures.appended
    (λ at appended. appended_room records cells cell fbff fspf at old new appended))
