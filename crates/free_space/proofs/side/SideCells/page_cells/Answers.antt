use Rattle.free_space.proofs.SideSteps.{side_same}
use Rattle.free_space.proofs.side.SideCells.page_cells.Goals as goal

pub returns-clause-stands : goal.returns-clause-stands
returns-clause-stands g c = side_same c.args.self.now (g.H.Shelf.seen c.args.shelf.now) (g.H.Shelf.seen c.page_cells.new.shelf) c.requires.stands c.page_cells.ensures.leaves.same
