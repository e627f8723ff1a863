use Rattle.std.proofs.Common.{◌≡◌, ◌+◌, ◌++◌, length}
use Rattle.definition_printer.specs.Dbd.{types_text}
use Rattle.definition_printer.proofs.dbd.put_types.Given as goal

abbrev pub invariant-types : goal.invariant-types
invariant-types l = record {
  text : l.out ++ types_text l.types l.indexes (l.code + 1) l.left ≡ l.fn.out ++ types_text l.types l.indexes 1 l.types;
  count : l.code + length l.left ≡ length l.types;
}

abbrev pub decreases-types : goal.decreases-types
decreases-types l = length l.left
