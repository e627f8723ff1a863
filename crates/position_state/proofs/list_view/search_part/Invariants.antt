use Rattle.std.proofs.Common.{◌≡◌, length, take, min}
use Rattle.std.specs.Prelude.{sum_by}
use Rattle.hal_schema.specs.declared.schema.Field.{Field}
use Rattle.position_state.proofs.list_view.search_part.Given as goal

abbrev pub invariant-loop-field : goal.invariant-loop-field
invariant-loop-field l = l.bytes ≡ min (sum_by (λ (f : Field). f.bytes) (take l.field-index l.fields)) (length l.key)
