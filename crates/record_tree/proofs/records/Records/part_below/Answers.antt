use Rattle.std.proofs.Common.{◌≡◌, ◌∙◌, List, ap}
use Rattle.hal_schema.specs.declared.schema.SegType.{SegType}
use Rattle.record_walk.specs.Orders.{child_place}
use Rattle.record_tree.specs.Finding.{first_child}
use Rattle.record_tree.proofs.Frames.{ok_weaker, changes_cell}
use Rattle.record_tree.proofs.Passing.{parts_below, place_within}
use Rattle.record_tree.proofs.records.Records.part_below.Goals as goal

pub set_child-requires-clause-cell : goal.set_child-requires-clause-cell
set_child-requires-clause-cell g c =
    let records = c.args.self.now in
    let old = g.H.Shelf.seen c.args.shelf.now in
    let types = records.schema.types in
    let code = c.args.cell.now.code in
    let place : c.child_place-place.result ≡ child_place types code = c.child_place-place.ensures ∙ ap (λ (l : List SegType). child_place l code) c.as_slice-types.ensures in
    place_within records old c.args.above c.child_place-place.result c.args.at code (λ told. c.no_side_cell_is_at_zero.ensures records.cells old c.args.at c.args.cell.now c.requires.stands.cells (c.requires.cell told)) place c.requires.above

pub returns-clause-parted : goal.returns-clause-parted
returns-clause-parted g c =
    let records = c.args.self.now in
    let old = g.H.Shelf.seen c.args.shelf.now in
    let types = records.schema.types in
    let code = c.args.cell.now.code in
    let place : c.child_place-place.result ≡ child_place types code = c.child_place-place.ensures ∙ ap (λ (l : List SegType). child_place l code) c.as_slice-types.ensures in
    ok_weaker c.set_child.result c.set_child.ensures.alters.altered (λ turns.
    parts_below records old (g.H.Shelf.seen c.set_child.new.shelf) c.args.above c.child_place-place.result c.args.at c.next_twin.result c.args.cell.now (λ told. c.no_side_cell_is_at_zero.ensures records.cells old c.args.at c.args.cell.now c.requires.stands.cells (c.requires.cell told))
    (g.met.H.Shelf.told_alike c.args.shelf.now) (g.met.H.Shelf.told_alike c.set_child.new.shelf) c.requires.stands c.requires.above c.set_child.ensures.stands c.set_child.ensures.leaves.changes.changed place c.next_twin.ensures turns)

pub returns-clause-leaves : goal.returns-clause-leaves
returns-clause-leaves g c =
    changes_cell c.args.self.now (g.H.Shelf.seen c.args.shelf.now) (g.H.Shelf.seen c.set_child.new.shelf) c.args.above (λ above. first_child c.args.self.now.schema c.args.cell.now.code above ≡ c.args.at) (g.met.H.Shelf.told_alike c.args.shelf.now)
    (g.met.H.Shelf.told_alike c.set_child.new.shelf) c.requires.above c.set_child.ensures.leaves.changes
