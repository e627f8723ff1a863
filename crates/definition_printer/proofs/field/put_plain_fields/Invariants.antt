use Rattle.std.proofs.Common.{◌≡◌, ◌++◌, take}
use Rattle.std.specs.List.{flat_map}
use Rattle.definition_printer.specs.Dbd.{plain_field}
use Rattle.definition_printer.proofs.field.put_plain_fields.Given as goal

abbrev pub invariant-loop-f : goal.invariant-loop-f
invariant-loop-f l = l.out ≡ l.fn.out ++ flat_map plain_field (take l.f-index l.fields)
