use Rattle.free_space.proofs.Told.{some_head}
use Rattle.free_space.proofs.store.CellStore.stage.Goals as goal

pub stage_page-requires-clause-head : goal.stage_page-requires-clause-head
stage_page-requires-clause-head g c = some_head ((g.H.Shelf.seen c.args.shelf.now).pages c.args.self.now.set) c.args.page c.args.block.now c.requires.head
