use Rattle.std.proofs.Common.{◌≡◌, ◌++◌, take}
use Rattle.std.specs.Prelude.{flat_map}
use Rattle.hal_schema.specs.SegType.{portion}
use Rattle.load_rows.proofs.entries.append_portions.Given as goal

abbrev pub invariant-loop-field : goal.invariant-loop-field
invariant-loop-field l = l.key ≡ l.initial.key ++ flat_map (λ f. portion f.start f.bytes l.content) (take l.field-index l.fields)
