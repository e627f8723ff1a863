use Rattle.std.proofs.lemmas.Result.{err_from_is_err_and}
use Rattle.call_text.specs.Reading.{pairs_at}
use Rattle.call_text.proofs.Loops.{pairs_go_on, pairs_stop, pairs_close, pairs_end}
use Rattle.call_text.proofs.read_values.pairs_of.Goals as goal

pub loop-byte-preserved : goal.loop-byte-preserved
loop-byte-preserved c =
    rw c.in_ok-push.ensures.ok (pairs_go_on c.loop-byte.bytes c.loop-byte.rest.now c.in-Some.byte c.in-Some.behind.now (pairs_at c.args.text.now) c.in-Some.ensures.read c.loop-byte.invariant)

pub returns-in_err-rest : goal.returns-in_err-rest
returns-in_err-rest c =
    let total = pairs_at c.args.text.now in
    let p = err_from_is_err_and c.from_residual-in_err-rest.result c.from_residual-in_err-rest.ensures.1 in
    rw (p.1, p.2) (pairs_end c.in_err-rest.field-0.0 c.loop-byte.bytes c.loop-byte.rest.now total c.in_err-rest.ensures (pairs_stop c.loop-byte.bytes c.loop-byte.rest.now total c.in_default.ensures.read c.loop-byte.invariant))

pub returns : goal.returns
returns c =
    let total = pairs_at c.args.text.now in
    pairs_close c.loop-byte.bytes c.loop-byte.rest.now c.in_ok-rest.rest.now total c.in_ok-rest.ensures (pairs_stop c.loop-byte.bytes c.loop-byte.rest.now total c.in_default.ensures.read c.loop-byte.invariant)
