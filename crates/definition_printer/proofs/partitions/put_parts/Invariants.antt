use Rattle.std.proofs.Common.{◌≡◌, ◌++◌, take}
use Rattle.std.specs.List.{flat_map}
use Rattle.definition_printer.specs.Partitions.{part_text}
use Rattle.definition_printer.proofs.partitions.put_parts.Given as goal

abbrev pub invariant-loop-p : goal.invariant-loop-p
invariant-loop-p l = l.out ≡ l.fn.out ++ flat_map part_text (take l.p-index l.parts)
