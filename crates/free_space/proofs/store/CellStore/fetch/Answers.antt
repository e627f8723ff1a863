use Rattle.free_space.proofs.Told.{stands_same}
use Rattle.free_space.proofs.store.CellStore.fetch.Goals as goal

pub returns-in-Ok-clause-stands : goal.returns-in-Ok-clause-stands
returns-in-Ok-clause-stands g c = stands_same c.args.self.now (g.H.Shelf.seen c.args.shelf.now) (g.H.Shelf.seen c.fetch_page.new.self) c.requires.stands c.fetch_page.ensures.leaves.same

pub returns-in-Err-clause-stands : goal.returns-in-Err-clause-stands
returns-in-Err-clause-stands g c = stands_same c.args.self.now (g.H.Shelf.seen c.args.shelf.now) (g.H.Shelf.seen c.fetch_page.new.self) c.requires.stands c.fetch_page.ensures.leaves.same
