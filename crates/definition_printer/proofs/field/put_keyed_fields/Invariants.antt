use Rattle.std.proofs.Common.{◌≡◌, ◌++◌, length}
use Rattle.definition_printer.specs.Dbd.{keyed_fields}
use Rattle.definition_printer.proofs.field.put_keyed_fields.Given as goal

abbrev pub invariant-fields : goal.invariant-fields
invariant-fields l = l.out ++ keyed_fields l.key l.left ≡ l.fn.out ++ keyed_fields l.key l.fields

abbrev pub decreases-fields : goal.decreases-fields
decreases-fields l = length l.left
