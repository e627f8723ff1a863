use Rattle.std.proofs.Common.{◌≡◌, map, take}
use Rattle.dbd_reader.specs.Operands.{operand_in}
use Rattle.dbd_reader.proofs.operand.operands_of_pieces.Given as goal

abbrev pub invariant-loop-piece : goal.invariant-loop-piece
invariant-loop-piece l = l.operands ≡ map (operand_in l.word) (take l.piece-index l.pieces)
