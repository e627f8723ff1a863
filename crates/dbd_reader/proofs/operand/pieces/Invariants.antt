use Rattle.std.proofs.Common.{◌≡◌, ◌≤◌, ◌++◌, drop, false}
use Rattle.dbd_reader.specs.Operands.{pieces_from}
use Rattle.dbd_reader.proofs.OperandText.{before}
use Rattle.dbd_reader.proofs.operand.pieces.Given as goal

abbrev pub invariant-loop-byte : goal.invariant-loop-byte
invariant-loop-byte l = record {
  whole : l.list ++ before l.piece (pieces_from l.depth l.quoted (drop l.byte-index l.text)) ≡ pieces_from 0 false l.text;
  bound : l.depth ≤ l.byte-index;
}
