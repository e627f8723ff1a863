use Rattle.std.proofs.Common.{◌≡◌, drop}
use Rattle.std.specs.List.{list_any}
use Rattle.hal_schema.specs.Lawful.{same_field}
use Rattle.hal_schema.proofs.rules.indexes.is_among.Given as goal

abbrev pub invariant-loop-g : goal.invariant-loop-g
invariant-loop-g l = list_any (same_field l.f) l.fields ≡ list_any (same_field l.f) (drop l.g-index l.fields)
