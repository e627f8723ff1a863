use Rattle.std.proofs.Common.{refl, sym, arith, ap, List, ℕ, Some}
use Rattle.std.proofs.lemmas.Option.{none-some}
use Rattle.memory_shelf.specs.Shelved.{pages_of}
use Rattle.memory_shelf.proofs.Shelving.{is_at}
use Rattle.memory_shelf.proofs.shelf.MemShelfShelf.stage_page.Goals as goal

pub index_mut-requires : goal.index_mut-requires
index_mut-requires c =
    let it = is_at c.args.set c.args.n c.from.result c.place_of-place.result c.args.self.now.owners.items c.deref.result.now c.args.self.now.pages.items c.args.self.now.as_many c.deref.ensures.value c.from.ensures c.place_of-place.ensures in
    omega (arith, it.in_it)

pub returns-clause-page : goal.returns-clause-page
returns-clause-page c =
    let it = is_at c.args.set c.args.n c.from.result c.place_of-place.result c.args.self.now.owners.items c.deref.result.now c.args.self.now.pages.items c.args.self.now.as_many c.deref.ensures.value c.from.ensures c.place_of-place.ensures in
    ap (λ (l : List (List ℕ)). Some l) (it.put c.args.from.now)

pub returns-clause-leaves : goal.returns-clause-leaves
returns-clause-leaves c =
    let it = is_at c.args.set c.args.n c.from.result c.place_of-place.result c.args.self.now.owners.items c.deref.result.now c.args.self.now.pages.items c.args.self.now.as_many c.deref.ensures.value c.from.ensures c.place_of-place.ensures in
    record {
      keeps = record { is_steady = tt; takes = λ set kind. refl; faults = record { later = omega arith; cause = λ failed. let wrong = failed in cc; alive = λ ok. refl; dead = λ failed. let wrong = failed in cc }; fetches = omega arith };
      changed = record {
        others = λ other apart. ap (λ (l : List (List ℕ)). Some l) (it.others other c.args.from.now apart);
        untold = λ none. absurd (none-some (pages_of c.args.set c.args.self.now.owners.items c.args.self.now.pages.items) (sym none));
        places = λ set. refl;
        free = refl;
      };
    }
