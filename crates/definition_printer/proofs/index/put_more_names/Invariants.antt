use Rattle.std.proofs.Common.{◌≡◌, ◌++◌, take}
use Rattle.std.specs.List.{flat_map}
use Rattle.definition_printer.specs.Dbd.{behind_comma}
use Rattle.definition_printer.proofs.index.put_more_names.Given as goal

abbrev pub invariant-loop-f : goal.invariant-loop-f
invariant-loop-f l = l.out ≡ l.fn.out ++ flat_map behind_comma (take l.f-index l.fields)
