use Rattle.std.proofs.Common.{ap, length, arith, List}
use Rattle.hal_base.specs.declared.pages.SetId.{SetId}
use Rattle.memory_shelf.specs.Shelved.{places_of}
use Rattle.memory_shelf.specs.ShelfLaw.{few_places}
use Rattle.memory_shelf.proofs.shelf.MemShelfShelf.pages.Goals as goal

pub overflow_cast-result : goal.overflow_cast-result
overflow_cast-result c = omega (arith, c.count_of.ensures, ap (λ (l : List SetId). length (places_of c.args.set 0 l)) c.deref.ensures.value, few_places c.args.set 0 c.args.self.now.owners.items, c.args.self.now.within, c.args.self.now.near)
