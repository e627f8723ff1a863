use Rattle.std.proofs.Common.{◌≡◌, take}
use Rattle.hal_schema.proofs.copy.copy_parts.Given as goal

abbrev pub invariant-loop-part : goal.invariant-loop-part
invariant-loop-part l = l.list ≡ take l.part-index l.parts
