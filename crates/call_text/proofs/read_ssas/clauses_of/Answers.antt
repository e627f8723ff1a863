use Rattle.std.proofs.Common.{◌<◌, Some, false, arith}
use Rattle.std.proofs.lemmas.Result.{err_from_is_err_and}
use Rattle.call_text.specs.Reading.{clauses_at}
use Rattle.call_text.proofs.Loops.{clauses_go_on, clauses_end, clauses_many, clauses_close}
use Rattle.call_text.proofs.read_ssas.clauses_of.Goals as goal

pub returns-then-left-eq0 : goal.returns-then-left-eq0
returns-then-left-eq0 c =
    clauses_many c.loop-next.clauses c.in-Some.or c.loop-next.rest.now (clauses_at c.args.most (Some false) c.args.text.now) (rw c.if-left-eq0.true at (rw c.in-Some.is at c.loop-next.invariant))

pub returns-in_err-clause : goal.returns-in_err-clause
returns-in_err-clause c =
    let some : 0 < c.loop-next.left = omega arith in
    let p = err_from_is_err_and c.from_residual.result c.from_residual.ensures.1 in
    rw (p.1, p.2) (clauses_end c.in_err-clause.field-0.0 c.loop-next.clauses c.loop-next.left c.in-Some.or c.loop-next.rest.now (clauses_at c.args.most (Some false) c.args.text.now) some c.in_err-clause.ensures (rw c.in-Some.is at c.loop-next.invariant))

pub loop-next-preserved : goal.loop-next-preserved
loop-next-preserved c =
    let some : 0 < c.loop-next.left = omega arith in
    rw c.in_ok-push.ensures.ok (clauses_go_on c.loop-next.clauses c.loop-next.left c.in-Some.or c.loop-next.rest.now c.in_ok-clause.clause c.in_ok-clause.connector c.in_ok-clause.behind.now (clauses_at c.args.most (Some false) c.args.text.now) some c.in_ok-clause.ensures (rw c.in-Some.is at c.loop-next.invariant))

pub returns : goal.returns
returns c = clauses_close c.loop-next.clauses c.loop-next.left c.loop-next.rest.now (clauses_at c.args.most (Some false) c.args.text.now) (rw c.in_default.is at c.loop-next.invariant)
