use Rattle.std.proofs.Common.{◌≡◌, min, take}
use Rattle.std.specs.Prelude.{sum_by}
use Rattle.hal_schema.proofs.rules.indexes.total_bytes.Given as goal

abbrev pub invariant-loop-f : goal.invariant-loop-f
invariant-loop-f l = l.total ≡ min (sum_by (λ f. f.bytes) (take l.f-index l.fields)) 1000
