use Rattle.std.proofs.lemmas.Result.{err_from_is_err_and}
use Rattle.call_text.specs.Reading.{text_at}
use Rattle.call_text.proofs.Loops.{text_goes_on, text_closes, text_ends}
use Rattle.call_text.proofs.read_values.text_of.Goals as goal

pub returns-in_err-next : goal.returns-in_err-next
returns-in_err-next c =
    let p = err_from_is_err_and c.from_residual.result c.from_residual.ensures.1 in
    rw (p.1, p.2) (text_ends c.in_err-next.field-0.0 c.loop-bytes.bytes c.loop-bytes.rest.now (text_at c.args.text.now) c.in_err-next.ensures.read c.loop-bytes.invariant)

pub returns-in_default : goal.returns-in_default
returns-in_default c =
    text_closes c.loop-bytes.bytes c.loop-bytes.rest.now c.in_ok-next.behind.now (text_at c.args.text.now) (rw c.in_default.is at c.in_ok-next.ensures.read) c.loop-bytes.invariant

pub loop-bytes-preserved : goal.loop-bytes-preserved
loop-bytes-preserved c =
    rw c.in_ok-push.ensures.ok (text_goes_on c.loop-bytes.bytes c.loop-bytes.rest.now c.in-Some.byte c.in_ok-next.behind.now (text_at c.args.text.now) (rw c.in-Some.is at c.in_ok-next.ensures.read) c.loop-bytes.invariant)
