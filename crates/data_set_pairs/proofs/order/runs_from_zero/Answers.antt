use Rattle.std.proofs.Common.{◌∙◌, get_or, subst, sym, refl, arith}
use Rattle.std.proofs.lemmas.Bool.{true≢false}
use Rattle.std.proofs.lemmas.List.{take_all, get_or_default}
use Rattle.std.proofs.lemmas.List.Sorted.{IsNonDecreasingBy-take}
use Rattle.data_set_pairs.specs.declared.place.PagePlace.{PagePlace}
use Rattle.data_set_pairs.specs.Table.{set_rank, RunFromZero}
use Rattle.data_set_pairs.proofs.OrderSteps.{sets_in_order, in_front, run_more, run_not}
use Rattle.data_set_pairs.proofs.order.runs_from_zero.Goals as goal

pub count_before-requires-clause-order : goal.count_before-requires-clause-order
count_before-requires-clause-order c = IsNonDecreasingBy-take (λ (p : PagePlace). set_rank p.set) c.loop-i.i c.args.pages.now (sets_in_order c.args.pages.now c.requires.pages c.requires.order)

pub count_before-requires-clause-last : goal.count_before-requires-clause-last
count_before-requires-clause-last c =
    let x : PagePlace = get_or c.args.pages.now c.loop-i.i (record { set = record { part = 0; number = 0; letter = 0 }; page = 0; block = 0 }) in
    in_front c.args.pages.now c.loop-i.i x c.loop-i-test.true (get_or_default c.args.pages.now c.loop-i.i (record { set = record { part = 0; number = 0; letter = 0 }; page = 0; block = 0 }) x c.loop-i-test.true) (sets_in_order c.args.pages.now c.requires.pages c.requires.order)

pub loop-i-preserved : goal.loop-i-preserved
loop-i-preserved c =
    let x : PagePlace = get_or c.args.pages.now c.loop-i.i (record { set = record { part = 0; number = 0; letter = 0 }; page = 0; block = 0 }) in
    run_more c.args.pages.now c.loop-i.i x c.loop-i-test.true (get_or_default c.args.pages.now c.loop-i.i (record { set = record { part = 0; number = 0; letter = 0 }; page = 0; block = 0 }) x c.loop-i-test.true) c.loop-i.invariant (omega (arith, c.from.ensures, c.if-from-count_before.false, c.count_before.ensures))

pub returns-then-from-count_before : goal.returns-then-from-count_before
returns-then-from-count_before c =
    let x : PagePlace = get_or c.args.pages.now c.loop-i.i (record { set = record { part = 0; number = 0; letter = 0 }; page = 0; block = 0 }) in
    (λ is. absurd (true≢false (sym is)), λ run. absurd (run_not c.args.pages.now c.loop-i.i x c.loop-i-test.true (get_or_default c.args.pages.now c.loop-i.i (record { set = record { part = 0; number = 0; letter = 0 }; page = 0; block = 0 }) x c.loop-i-test.true) (λ is. c.if-from-count_before.true (c.from.ensures ∙ is ∙ sym c.count_before.ensures)) run))

pub returns : goal.returns
returns c = (λ is. subst RunFromZero (take_all c.loop-i.i c.args.pages.now c.loop-i-test.false) c.loop-i.invariant, λ run. refl)
