use Rattle.std.proofs.Common.{◌≡◌, ◌==◌, not, drop}
use Rattle.std.specs.List.{list_any}
use Rattle.hal_schema.specs.declared.schema.PartDef.{PartDef}
use Rattle.load_rows.proofs.need.some_leave_blocks.Given as goal

abbrev pub invariant-loop-part : goal.invariant-loop-part
invariant-loop-part l = list_any (λ (part : PartDef). not (part.fbff == 0)) l.parts ≡ list_any (λ (part : PartDef). not (part.fbff == 0)) (drop l.part-index l.parts)
