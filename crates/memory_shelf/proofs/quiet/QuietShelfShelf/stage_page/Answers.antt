use Rattle.std.proofs.Common.{arith}
use Rattle.memory_shelf.proofs.Shelving.{is_at}
use Rattle.memory_shelf.proofs.quiet.QuietShelfShelf.stage_page.Goals as goal

pub index_mut-requires : goal.index_mut-requires
index_mut-requires c =
    let shelf = c.args.self.now.shelf in
    let it = is_at c.args.set c.args.n c.from.result c.place_of-place.result shelf.owners.items c.deref.result.now shelf.pages.items shelf.as_many c.deref.ensures.value c.from.ensures c.place_of-place.ensures in
    omega (arith, it.in_it)
