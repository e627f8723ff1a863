use Rattle.std.proofs.Common.{◌≡◌, sym, subst, ℕ, take}
use Rattle.std.specs.Prelude.{IfSome}
use Rattle.std.proofs.lemmas.Result.{on_ok_weaker}
use Rattle.keyed_sets.specs.Rule.{BreaksAt}
use Rattle.keyed_sets.specs.Taken.{TakesIn}
use Rattle.keyed_sets.proofs.PageByPage.{page_taken, page_breaks, page_crosses}
use Rattle.keyed_sets.proofs.opening.Opening.take_page.Goals as goal

pub returns-in-Some-clause-broken : goal.returns-in-Some-clause-broken
returns-in-Some-clause-broken g c = λ page offset is.
    let self = c.args.self.now in
    let told = (g.H.Shelf.seen c.args.shelf.now).pages c.args.set in
    let read = c.in_ok-fetch_page.ensures.page in
    let broken = c.in-Some.ensures.broken in
    let bad : page ≡ c.args.n = cc in
    let place : offset ≡ c.in-Some.offset = cc in
    let found = page_breaks c.args.shape told c.args.n c.in-Some.offset c.fetch_page.new.into self.firsts.items self.lasts.items self.empty.items read broken.0 broken.1 in
    subst (λ (p : ℕ). IfSome told (λ pages. TakesIn c.args.shape (take c.args.n pages) self.firsts.items self.lasts.items self.empty.items → BreaksAt c.args.shape pages p offset)) (sym bad)
    (subst (λ (o : ℕ). IfSome told (λ pages. TakesIn c.args.shape (take c.args.n pages) self.firsts.items self.lasts.items self.empty.items → BreaksAt c.args.shape pages c.args.n o)) (sym place) found)

pub returns-clause-taken : goal.returns-clause-taken
returns-clause-taken g c =
    let self = c.args.self.now in
    let new = c.take_rows.new.self in
    let read = c.in_ok-fetch_page.ensures.page in
    on_ok_weaker c.take_rows.result
    (λ takes. page_taken c.args.shape ((g.H.Shelf.seen c.args.shelf.now).pages c.args.set) c.args.n c.fetch_page.new.into self.firsts.items new.firsts.items self.lasts.items new.lasts.items self.empty.items new.empty.items read c.in_default.ensures.sound takes)
    c.take_rows.ensures.taken

pub returns-clause-broken : goal.returns-clause-broken
returns-clause-broken g c = λ page offset is.
    let self = c.args.self.now in
    let told = (g.H.Shelf.seen c.args.shelf.now).pages c.args.set in
    let read = c.in_ok-fetch_page.ensures.page in
    let crosses = c.take_rows.ensures.overlap page offset is in
    let found = page_crosses c.args.shape told c.args.n c.fetch_page.new.into self.firsts.items self.lasts.items self.empty.items c.requires.some read c.in_default.ensures.sound crosses.2 in
    subst (λ (p : ℕ). IfSome told (λ pages. TakesIn c.args.shape (take c.args.n pages) self.firsts.items self.lasts.items self.empty.items → BreaksAt c.args.shape pages p offset)) (sym crosses.0)
    (subst (λ (o : ℕ). IfSome told (λ pages. TakesIn c.args.shape (take c.args.n pages) self.firsts.items self.lasts.items self.empty.items → BreaksAt c.args.shape pages c.args.n o)) (sym crosses.1) found)
