use Rattle.std.proofs.Common.{ap, sym, ◌∙◌}
use Rattle.std.specs.Option.{option_map_or}
use Rattle.hal_schema.proofs.Ancestry.{key_bytes-at}
use Rattle.hal_schema.proofs.rules.indexes.key_bytes.Goals as goal

pub returns-in-Some : goal.returns-in-Some
returns-in-Some c = sym (key_bytes-at c.args.types.now c.args.code _ c.requires.above c.requires.known ∙ ap (λ o. option_map_or (λ k. k.bytes) o 0) c.in-Some.is)

pub returns-in-None : goal.returns-in-None
returns-in-None c = sym (key_bytes-at c.args.types.now c.args.code _ c.requires.above c.requires.known ∙ ap (λ o. option_map_or (λ k. k.bytes) o 0) c.in-None.is)
