use Rattle.std.proofs.Common.{◌≡◌, ◌++◌, take}
use Rattle.std.specs.List.{flat_map}
use Rattle.definition_printer.specs.Dbd.{text_over}
use Rattle.definition_printer.proofs.index.put_indexes.Given as goal

abbrev pub invariant-loop-i : goal.invariant-loop-i
invariant-loop-i l = l.out ≡ l.fn.out ++ flat_map (text_over l.types l.code) (take l.i-index l.indexes)
