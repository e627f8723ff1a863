use Rattle.std.proofs.Common.{◌≡◌, ◌&&◌, not, drop}
use Rattle.std.specs.List.{list_any, list_all}
use Rattle.hal_schema.specs.Lawful.{is_key_portion, same_field}
use Rattle.hal_schema.proofs.rules.indexes.search_is_kept.Given as goal

abbrev pub invariant-loop-f : goal.invariant-loop-f
invariant-loop-f l = list_all (λ f. not (is_key_portion f.name) && list_any (same_field f) l.fields) l.search ≡ list_all (λ f. not (is_key_portion f.name) && list_any (same_field f) l.fields) (drop l.f-index l.search)
