use Rattle.std.proofs.Common.{take}
use Rattle.std.specs.List.{flat_map}
use Rattle.std.specs.Int.{w32, to_be_bytes}
use Rattle.segment_blocks.specs.Tiling.{Writes}
use Rattle.segment_blocks.proofs.write.put_addresses.Given as goal

abbrev pub invariant-loop-i : goal.invariant-loop-i
invariant-loop-i l = Writes l.fn.block l.block l.at (flat_map (to_be_bytes w32) (take l.i l.addresses))
