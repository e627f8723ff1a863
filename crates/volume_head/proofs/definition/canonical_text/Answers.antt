use Rattle.std.proofs.Common.{ap, sym, subst, ◌∙◌, ◌++◌, ◌≤◌, ℕ, List, length, arith}
use Rattle.volume_head.specs.Head.{most_text}
use Rattle.volume_head.proofs.OneSchema.{canonical_of}
use Rattle.volume_head.proofs.definition.canonical_text.Goals as goal

pub returns-clause-text : goal.returns-clause-text
returns-clause-text c =
    canonical_of c.in_ok-text.text c.args.schema.now c.in_ok-text.ensures.text c.append.new.self
    (c.in_ok-append.ensures.ok ∙ ap (λ t. c.in_ok-text.text ++ t) (c.as_slice.ensures ∙ c.in_ok-parts.ensures.text)) c.in_ok-text.ensures.rebuilds

pub returns-clause-short : goal.returns-clause-short
returns-clause-short c =
    subst (λ (text : List ℕ). length text ≤ most_text) (sym (returns-clause-text c).is) (c.definitions_are_short.ensures c.args.schema.now (omega arith) (omega arith))
