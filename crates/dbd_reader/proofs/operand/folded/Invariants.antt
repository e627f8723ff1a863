use Rattle.std.proofs.Common.{◌≡◌, ◌++◌, drop, false}
use Rattle.dbd_reader.specs.Operands.{folded}
use Rattle.dbd_reader.proofs.operand.folded.Given as goal

abbrev pub invariant-loop-byte : goal.invariant-loop-byte
invariant-loop-byte l = l.bytes ++ folded l.quoted (drop l.byte-index l.text) ≡ folded false l.text
