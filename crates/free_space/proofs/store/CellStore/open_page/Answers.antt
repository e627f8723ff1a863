use Rattle.std.proofs.Common.{◌≡◌, ℕ, ◌+◌, length, sym, ap, subst, ◌∙◌, arith, rules}
use Rattle.std.proofs.lemmas.Result.{IfOk-weaker, err_from_is_err_and}
use Rattle.hal_base.specs.declared.outcome.PageFault.TheVariants.{NoRoom}
use Rattle.hal_base.proofs.ShelfLemmas.{same_changed, keeps_then}
use Rattle.free_space.specs.Placing.{is_due, opened_pages}
use Rattle.free_space.specs.Store.{GrewBy}
use Rattle.free_space.proofs.Told.{handed_on, added_is, stays_then}
use Rattle.free_space.proofs.PlaceSteps.{opened_is_one, opened_is_two, match_weaker, match_err, match_any, none_added, grew_none, grew_same, grew_as, grew_two, grew_many, one_left}
use Rattle.free_space.proofs.store.CellStore.open_page.Goals as goal

pub returns-then-not-is_due-clause-number : goal.returns-then-not-is_due-clause-number
returns-then-not-is_due-clause-number g c =
    let n : ℕ = length c.args.self.now.spaces.pages.items in
    let one = opened_is_one c.args.fbff n c.is_due.result (c.is_due.ensures ∙ ap (is_due c.args.fbff) (search rules)) c.if-not-is_due.true in
    IfOk-weaker c.add_page.result (λ k. k ≡ n) (λ k. k + 1 ≡ n + opened_pages c.args.fbff n) (λ k is. omega (arith, is, one)) c.add_page.ensures.number

pub returns-then-not-is_due-clause-grown : goal.returns-then-not-is_due-clause-grown
returns-then-not-is_due-clause-grown g c =
    let n : ℕ = length c.args.self.now.spaces.pages.items in
    let one = opened_is_one c.args.fbff n c.is_due.result (c.is_due.ensures ∙ ap (is_due c.args.fbff) (search rules)) c.if-not-is_due.true in
    match_weaker c.add_page.result c.add_page.ensures.grown
    (λ k grew. subst (λ (m : ℕ). GrewBy m c.args.self.now (g.H.Shelf.seen c.args.shelf.now) (g.H.Shelf.seen c.add_page.new.shelf)) (sym one) grew)
    (λ e same. grew_none c.args.self.now (g.H.Shelf.seen c.args.shelf.now) (g.H.Shelf.seen c.add_page.new.shelf) same)

pub returns-then-not-is_due-clause-few : goal.returns-then-not-is_due-clause-few
returns-then-not-is_due-clause-few g c =
    let n : ℕ = length c.args.self.now.spaces.pages.items in
    let one = opened_is_one c.args.fbff n c.is_due.result (c.is_due.ensures ∙ ap (is_due c.args.fbff) (search rules)) c.if-not-is_due.true in
    match_any c.add_page.result c.add_page.ensures.grown
    (λ k grew. omega (arith, one, added_is 1 c.args.self.now.set (g.H.Shelf.seen c.args.shelf.now) (g.H.Shelf.seen c.add_page.new.shelf) grew.blocks))
    (λ e same. omega (arith, one, none_added c.args.self.now.set (g.H.Shelf.seen c.args.shelf.now) (g.H.Shelf.seen c.add_page.new.shelf) (same_changed c.args.self.now.set same)))

pub returns-then-not-is_due-clause-no_room : goal.returns-then-not-is_due-clause-no_room
returns-then-not-is_due-clause-no_room g c = λ is.
    let one = opened_is_one c.args.fbff (length c.args.self.now.spaces.pages.items) c.is_due.result (c.is_due.ensures ∙ ap (is_due c.args.fbff) (search rules)) c.if-not-is_due.true in
    omega (arith, one, ap length (c.add_page.ensures.no_room is))

pub returns-in_err-_due-clause-grown : goal.returns-in_err-_due-clause-grown
returns-in_err-_due-clause-grown g c =
    let p = err_from_is_err_and c.from_residual.result c.from_residual.ensures.1 in
    match_err _ _ c.from_residual.result p.0 p.1 (λ e. grew_none c.args.self.now (g.H.Shelf.seen c.args.shelf.now) (g.H.Shelf.seen c.add_page-2.new.shelf) c.in_err-_due.ensures.grown)

pub returns-in_err-_due-clause-few : goal.returns-in_err-_due-clause-few
returns-in_err-_due-clause-few g c =
    let two = opened_is_two c.args.fbff (length c.args.self.now.spaces.pages.items) c.is_due.result (c.is_due.ensures ∙ ap (is_due c.args.fbff) (search rules)) c.if-not-is_due.false in
    omega (arith, two, none_added c.args.self.now.set (g.H.Shelf.seen c.args.shelf.now) (g.H.Shelf.seen c.add_page-2.new.shelf) (same_changed c.args.self.now.set c.in_err-_due.ensures.grown))

pub returns-in_err-_due-clause-no_room : goal.returns-in_err-_due-clause-no_room
returns-in_err-_due-clause-no_room g c = λ is.
    let p = err_from_is_err_and c.from_residual.result c.from_residual.ensures.1 in
    let two = opened_is_two c.args.fbff (length c.args.self.now.spaces.pages.items) c.is_due.result (c.is_due.ensures ∙ ap (is_due c.args.fbff) (search rules)) c.if-not-is_due.false in
    let failed = handed_on c.add_page-2.result c.from_residual.result p.0 c.in_err-_due.field-0.0 NoRoom p.1 p.2 c.in_err-_due.was is in
    omega (arith, two, ap length (c.add_page-2.ensures.no_room failed))

pub returns-clause-number : goal.returns-clause-number
returns-clause-number g c =
    let n : ℕ = length c.args.self.now.spaces.pages.items in
    let e = c.in_ok-_due.ensures in
    let two = opened_is_two c.args.fbff n c.is_due.result (c.is_due.ensures ∙ ap (is_due c.args.fbff) (search rules)) c.if-not-is_due.false in
    let more = grew_many 1 c.args.self.now c.add_page-2.new.self (g.H.Shelf.seen c.args.shelf.now) (g.H.Shelf.seen c.add_page-2.new.shelf) c.requires.stands e.stays e.grown.blocks in
    IfOk-weaker c.add_page-3.result (λ k. k ≡ length c.add_page-2.new.self.spaces.pages.items) (λ k. k + 1 ≡ n + opened_pages c.args.fbff n) (λ k is. omega (arith, is, two, more)) c.add_page-3.ensures.number

pub returns-clause-grown : goal.returns-clause-grown
returns-clause-grown g c =
    let e = c.in_ok-_due.ensures in
    let two = opened_is_two c.args.fbff (length c.args.self.now.spaces.pages.items) c.is_due.result (c.is_due.ensures ∙ ap (is_due c.args.fbff) (search rules)) c.if-not-is_due.false in
    match_weaker c.add_page-3.result c.add_page-3.ensures.grown
    (λ k grew. subst (λ (m : ℕ). GrewBy m c.args.self.now (g.H.Shelf.seen c.args.shelf.now) (g.H.Shelf.seen c.add_page-3.new.shelf)) (sym two)
    (grew_two c.args.self.now c.add_page-2.new.self (g.H.Shelf.seen c.args.shelf.now) (g.H.Shelf.seen c.add_page-2.new.shelf) (g.H.Shelf.seen c.add_page-3.new.shelf) e.stays e.grown grew))
    (λ f same. grew_as 1 c.args.self.now (g.H.Shelf.seen c.args.shelf.now) (g.H.Shelf.seen c.add_page-3.new.shelf)
    (grew_same 1 c.args.self.now (g.H.Shelf.seen c.args.shelf.now) (g.H.Shelf.seen c.add_page-2.new.shelf) (g.H.Shelf.seen c.add_page-3.new.shelf) e.grown same))

pub returns-clause-few : goal.returns-clause-few
returns-clause-few g c =
    let e = c.in_ok-_due.ensures in
    let two = opened_is_two c.args.fbff (length c.args.self.now.spaces.pages.items) c.is_due.result (c.is_due.ensures ∙ ap (is_due c.args.fbff) (search rules)) c.if-not-is_due.false in
    match_any c.add_page-3.result c.add_page-3.ensures.grown
    (λ k grew. omega (
      arith,
      two,
      added_is 2 c.args.self.now.set (g.H.Shelf.seen c.args.shelf.now) (g.H.Shelf.seen c.add_page-3.new.shelf)
          (grew_two c.args.self.now c.add_page-2.new.self (g.H.Shelf.seen c.args.shelf.now) (g.H.Shelf.seen c.add_page-2.new.shelf) (g.H.Shelf.seen c.add_page-3.new.shelf) e.stays e.grown grew).blocks,
    ))
    (λ f same. omega (
      arith,
      two,
      added_is 1 c.args.self.now.set (g.H.Shelf.seen c.args.shelf.now) (g.H.Shelf.seen c.add_page-3.new.shelf)
          (grew_same 1 c.args.self.now (g.H.Shelf.seen c.args.shelf.now) (g.H.Shelf.seen c.add_page-2.new.shelf) (g.H.Shelf.seen c.add_page-3.new.shelf) e.grown same).blocks,
    ))

pub returns-clause-no_room : goal.returns-clause-no_room
returns-clause-no_room g c = λ is.
    let two = opened_is_two c.args.fbff (length c.args.self.now.spaces.pages.items) c.is_due.result (c.is_due.ensures ∙ ap (is_due c.args.fbff) (search rules)) c.if-not-is_due.false in
    omega (arith, two, one_left 1 c.args.self.now.set (g.H.Shelf.seen c.args.shelf.now) (g.H.Shelf.seen c.add_page-2.new.shelf) c.in_ok-_due.ensures.grown.blocks (c.add_page-3.ensures.no_room is))

pub returns-clause-stays : goal.returns-clause-stays
returns-clause-stays g c = stays_then c.args.self.now c.add_page-2.new.self c.add_page-3.new.self (g.H.Shelf.seen c.add_page-2.new.shelf) (g.H.Shelf.seen c.add_page-3.new.shelf) c.in_ok-_due.ensures.stays c.add_page-3.ensures.stays

pub returns-clause-keeps : goal.returns-clause-keeps
returns-clause-keeps g c = keeps_then c.add_page-2.ensures.keeps c.add_page-3.ensures.keeps (g.met.H.Shelf.steady_then c.args.shelf.now c.add_page-2.new.shelf c.add_page-3.new.shelf)
