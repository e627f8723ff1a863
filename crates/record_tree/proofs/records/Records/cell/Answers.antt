use Rattle.record_tree.proofs.Staying.{records_same}
use Rattle.record_tree.proofs.records.Records.cell.Goals as goal

pub returns-clause-stands : goal.returns-clause-stands
returns-clause-stands g c = records_same c.args.self.now (g.H.Shelf.seen c.args.shelf.now) (g.H.Shelf.seen c.cell.new.shelf) c.requires.stands c.cell.ensures.leaves.same
