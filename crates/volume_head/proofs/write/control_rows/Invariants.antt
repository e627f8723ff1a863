use Rattle.std.proofs.Common.{◌≡◌, take}
use Rattle.std.specs.Prelude.{flat_map}
use Rattle.volume_head.specs.Empty.{first_row}
use Rattle.volume_head.proofs.write.control_rows.Given as goal

abbrev pub invariant-loop-part : goal.invariant-loop-part
invariant-loop-part l = l.rows ≡ flat_map first_row (take l.part-index l.schema.parts)
