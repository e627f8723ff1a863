use Rattle.std.proofs.Common.{Ok, refl, ◌∙◌, ap, arith}
use Rattle.std.proofs.lemmas.Result.{err_from_is_err_and}
use Rattle.dbd_reader.proofs.Whole.{under_start, under_next, ends, fails, stops}
use Rattle.dbd_reader.proofs.reading.read_text.Goals as goal

pub loop-draft-init : goal.loop-draft-init
loop-draft-init c = under_start c.args.text.now

pub returns-in_err-next : goal.returns-in_err-next
returns-in_err-next c =
    let s = c.loop-draft in
    let p = err_from_is_err_and c.from_residual-in_err-next.result c.from_residual-in_err-next.ensures.1 in
    rw (p.1, p.2) (fails c.in_err-next.field-0.0 c.args.text.now s.draft s.line s.rest.now c.in-Some.statement c.in-Some.behind.now s.invariant (rw c.in-Some.is at c.in_ok-statement.ensures.whole) c.in_err-next.ensures)

pub returns-in-Ended : goal.returns-in-Ended
returns-in-Ended c =
    let s = c.loop-draft in
    ends c.args.text.now s.draft s.line s.rest.now c.in-Some.statement c.in-Some.behind.now c.in-Ended.dbd _ s.invariant (rw c.in-Some.is at c.in_ok-statement.ensures.whole)
    ((rw c.in-Some.is at c.in_ok-statement.ensures.behind) c.args.text.now s.invariant.behind) (c.in_ok-next.ensures ∙ ap Ok c.in-Ended.is) refl

pub loop-draft-preserved : goal.loop-draft-preserved
loop-draft-preserved c =
    let s = c.loop-draft in
    under_next c.args.text.now s.draft s.line s.rest.now c.in-Some.statement c.in-Some.behind.now _ s.invariant (rw c.in-Some.is at c.in_ok-statement.ensures.whole)
    ((rw c.in-Some.is at c.in_ok-statement.ensures.behind) c.args.text.now s.invariant.behind) (rw c.in-Some.is at c.in_ok-statement.ensures.few)
    (let shorter = rw c.in-Some.is at c.in_ok-statement.ensures.shorter in omega arith) c.in_ok-next.ensures (λ dbd h. c.in_default-2.not-Ended dbd h)

pub returns : goal.returns
returns c =
    let s = c.loop-draft in
    stops c.args.text.now s.draft s.line s.rest.now c.line_behind.result s.invariant (rw c.in_default.is at c.in_ok-statement.ensures.whole) c.line_behind.ensures
