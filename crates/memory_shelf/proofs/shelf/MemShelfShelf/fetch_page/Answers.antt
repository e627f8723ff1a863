use Rattle.std.proofs.Common.{arith, ◌∙◌, length, refl}
use Rattle.std.proofs.lemmas.Option.{slice_get_read}
use Rattle.memory_shelf.proofs.Shelving.{is_at}
use Rattle.memory_shelf.proofs.shelf.MemShelfShelf.fetch_page.Goals as goal

pub index-requires : goal.index-requires
index-requires c =
    let it = is_at c.args.set c.args.n c.from.result c.place_of-place.result c.args.self.now.owners.items c.deref.result.now c.args.self.now.pages.items c.args.self.now.as_many c.deref.ensures.value c.from.ensures c.place_of-place.ensures in
    omega (arith, it.in_it)

pub returns-clause-page : goal.returns-clause-page
returns-clause-page c =
    let it = is_at c.args.set c.args.n c.from.result c.place_of-place.result c.args.self.now.owners.items c.deref.result.now c.args.self.now.pages.items c.args.self.now.as_many c.deref.ensures.value c.from.ensures c.place_of-place.ensures in
    it.page ∙ slice_get_read c.args.self.now.pages.items (length c.args.self.now.pages.items) c.place_of-place.result c.index.result.now refl it.in_it c.index.ensures
