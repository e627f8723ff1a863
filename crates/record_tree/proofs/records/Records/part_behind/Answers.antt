use Rattle.std.proofs.Common.{◌≡◌, ◌≢◌}
use Rattle.record_tree.proofs.Frames.{ok_weaker, changes_cell}
use Rattle.record_tree.proofs.Passing.{parts_behind}
use Rattle.record_tree.proofs.records.Records.part_behind.Goals as goal

pub returns-clause-parted : goal.returns-clause-parted
returns-clause-parted g c =
    ok_weaker c.set_twin.result c.set_twin.ensures.alters.altered (λ turns.
    parts_behind c.args.self.now (g.H.Shelf.seen c.args.shelf.now) (g.H.Shelf.seen c.set_twin.new.shelf) c.args.prior c.args.at c.next_twin.result c.args.cell.now (g.met.H.Shelf.told_alike c.args.shelf.now) (g.met.H.Shelf.told_alike c.set_twin.new.shelf)
    c.requires.stands c.requires.prior c.set_twin.ensures.stands c.set_twin.ensures.leaves.changes.changed c.next_twin.ensures turns)

pub returns-clause-leaves : goal.returns-clause-leaves
returns-clause-leaves g c =
    changes_cell c.args.self.now (g.H.Shelf.seen c.args.shelf.now) (g.H.Shelf.seen c.set_twin.new.shelf) c.args.prior (λ cell. (cell.code ≢ 1) × (cell.twin ≡ c.args.at)) (g.met.H.Shelf.told_alike c.args.shelf.now)
    (g.met.H.Shelf.told_alike c.set_twin.new.shelf) c.requires.prior c.set_twin.ensures.leaves.changes
