use Rattle.std.proofs.Common.{sym, take, drop, ◌≡◌, ◌∙◌, ◌++◌, ◌∷◌, ◌<◌, [], ap, length, arith, List, ℕ, Some}
use Rattle.std.proofs.lemmas.Option.{none-some}
use Rattle.hal_base.specs.declared.pages.SetId.{SetId}
use Rattle.memory_shelf.specs.Shelved.{places_of, pages_of}
use Rattle.memory_shelf.specs.ShelfLaw.{few_places}
use Rattle.memory_shelf.proofs.Shelving.{pages_own, pages_other, places_own, places_other, free_less}
use Rattle.memory_shelf.proofs.shelf.MemShelfShelf.grow.Goals as goal

pub overflow_cast-page : goal.overflow_cast-page
overflow_cast-page c =
    let room : length c.args.self.now.owners.items < c.args.self.now.count = omega (arith, c.if-len-self.false, c.len.ensures, c.args.self.now.within) in
    omega (arith, room, c.args.self.now.near, c.count_of-page.ensures, ap (λ (l : List SetId). length (places_of c.args.set 0 l)) (c.deref.ensures.value ∙ c.make_slots.ensures.owners), few_places c.args.set 0 c.args.self.now.owners.items)

pub returns-clause-page : goal.returns-clause-page
returns-clause-page c = ap (λ (l : List (List ℕ)). Some l) (pages_own c.args.set c.empty_page-content.result c.args.self.now.owners.items c.add.new.owners.items c.args.self.now.pages.items c.add.new.pages.items c.args.self.now.as_many (c.add.ensures.owners ∙ ap (λ (l : List SetId). l ++ c.args.set ∷ []) c.make_slots.ensures.owners) (c.add.ensures.pages ∙ ap (λ (l : List (List ℕ)). l ++ c.empty_page-content.result ∷ []) c.make_slots.ensures.pages))
    ∙ ap (λ (page : List ℕ). Some (pages_of c.args.set c.args.self.now.owners.items c.args.self.now.pages.items ++ page ∷ [])) c.empty_page-content.ensures

pub returns-clause-leaves : goal.returns-clause-leaves
returns-clause-leaves c =
    let owners = c.args.self.now.owners.items in
    let n : ℕ = length owners in
    let room : n < c.args.self.now.count = omega (arith, c.if-len-self.false, c.len.ensures, c.args.self.now.within) in
    let more : c.add.new.owners.items ≡ owners ++ c.args.set ∷ [] = c.add.ensures.owners ∙ ap (λ (l : List SetId). l ++ c.args.set ∷ []) c.make_slots.ensures.owners in
    let longer : c.add.new.pages.items ≡ c.args.self.now.pages.items ++ c.empty_page-content.result ∷ [] = c.add.ensures.pages ∙ ap (λ (l : List (List ℕ)). l ++ c.empty_page-content.result ∷ []) c.make_slots.ensures.pages in
    let one = free_less owners c.add.new.owners.items c.args.set c.args.self.now.count room more in
    record {
      others = λ other apart. ap (λ (l : List (List ℕ)). Some l) (pages_other c.args.set other c.empty_page-content.result owners c.add.new.owners.items c.args.self.now.pages.items c.add.new.pages.items apart c.args.self.now.as_many more longer);
      untold = λ none. absurd (none-some (pages_of c.args.set owners c.args.self.now.pages.items) (sym none));
      other_places = λ other apart. places_other c.args.set other owners c.add.new.owners.items apart more;
      placed = places_own c.args.set owners c.add.new.owners.items more ∙ sym (ap (λ (l : List ℕ). places_of c.args.set 0 owners ++ take 1 l) one);
      free = sym (ap (drop 1) one);
      enough = omega (arith, ap length one);
    }
