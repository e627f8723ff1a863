use Rattle.std.proofs.Common.{◌≡◌, ◌&&◌, drop}
use Rattle.std.specs.List.{list_any, list_all}
use Rattle.hal_schema.specs.Lawful.{is_key_portion, is_within, same_field}
use Rattle.hal_schema.proofs.rules.indexes.subseq_is_kept.Given as goal

abbrev pub invariant-loop-f : goal.invariant-loop-f
invariant-loop-f l = list_all (λ f. is_key_portion f.name && list_any (same_field f) l.fields && is_within l.path f.start f.bytes) l.subseq ≡ list_all (λ f. is_key_portion f.name && list_any (same_field f) l.fields && is_within l.path f.start f.bytes) (drop l.f-index l.subseq)
