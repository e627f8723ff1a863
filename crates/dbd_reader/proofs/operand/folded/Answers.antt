use Rattle.std.proofs.Common.{false}
use Rattle.dbd_reader.specs.Operands.{folded}
use Rattle.dbd_reader.proofs.OperandText.{folded_on, folded_end}
use Rattle.dbd_reader.proofs.operand.folded.Goals as goal

pub loop-byte-preserved : goal.loop-byte-preserved
loop-byte-preserved c =
    let s = c.loop-byte in
    rw (c.in_ok-push.ensures.ok, c.folded_byte.ensures, c.quoted_behind-quoted.ensures) (folded_on s.bytes c.args.text.now (folded false c.args.text.now) s.quoted s.byte-index c.loop-byte-test.true s.invariant)

pub returns : goal.returns
returns c =
    let s = c.loop-byte in
    folded_end s.bytes c.args.text.now (folded false c.args.text.now) s.quoted s.byte-index c.loop-byte-test.false s.invariant
