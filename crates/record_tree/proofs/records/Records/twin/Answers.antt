use Rattle.record_tree.proofs.Staying.{records_same}
use Rattle.record_tree.proofs.Leading.{twin_found}
use Rattle.record_tree.proofs.records.Records.twin.Goals as goal

pub returns-in_err-cell-clause-stands : goal.returns-in_err-cell-clause-stands
returns-in_err-cell-clause-stands g c = records_same c.args.self.now (g.H.Shelf.seen c.args.shelf.now) (g.H.Shelf.seen c.cell.new.shelf) c.requires.stands c.cell.ensures.leaves.same

pub returns-clause-found : goal.returns-clause-found
returns-clause-found g c =
    twin_found c.pointers_lead_on.ensures c.twins_are_next.ensures c.args.self.now (g.H.Shelf.seen c.args.shelf.now) c.requires.stands c.args.at c.in_ok-cell.cell c.requires.row c.in_ok-cell.ensures.cell c.pointed.result c.pointed.ensures

pub returns-clause-stands : goal.returns-clause-stands
returns-clause-stands g c = records_same c.args.self.now (g.H.Shelf.seen c.args.shelf.now) (g.H.Shelf.seen c.cell.new.shelf) c.requires.stands c.cell.ensures.leaves.same
