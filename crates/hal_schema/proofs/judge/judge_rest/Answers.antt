use Rattle.std.proofs.Common.{ap, sym, ◌∙◌, subst}
use Rattle.std.proofs.lemmas.Result.{err_from_is_err_and, IfErr-weaker}
use Rattle.hal_schema.specs.Faults.{IsFaultAt}
use Rattle.hal_schema.specs.Rules.{indexes_broken, highs_broken}
use Rattle.hal_schema.proofs.Judged.{fault_indexes, fault_highs, fault_factors, fault_numbers}
use Rattle.hal_schema.proofs.judge.judge_rest.Goals as goal

pub returns-in_err-judge_indexes-clause-broken : goal.returns-in_err-judge_indexes-clause-broken
returns-in_err-judge_indexes-clause-broken c =
    let p = err_from_is_err_and c.from_residual.result c.from_residual.ensures.1 in
    rw (p.1, p.2) (fault_indexes c.args.raw.now _ c.requires.kept.parents c.requires.kept.roots c.requires.kept.names c.requires.kept.counts c.requires.kept.sizes c.requires.kept.sequence c.requires.kept.root_key c.requires.kept.letters (subst (λ ts. IsFaultAt 9 (indexes_broken ts c.args.raw.now.dbd.indexes) c.in_err-judge_indexes.field-0.0) c.requires.same c.in_err-judge_indexes.ensures.broken))

pub returns-in_err-judge_highs-clause-broken : goal.returns-in_err-judge_highs-clause-broken
returns-in_err-judge_highs-clause-broken c =
    let p = err_from_is_err_and c.from_residual-in_err-judge_highs.result c.from_residual-in_err-judge_highs.ensures.1 in
    rw (p.1, p.2) (fault_highs c.args.raw.now _ c.requires.kept.parents c.requires.kept.roots c.requires.kept.names c.requires.kept.counts c.requires.kept.sizes c.requires.kept.sequence c.requires.kept.root_key c.requires.kept.letters (ap (λ ts. indexes_broken ts c.args.raw.now.dbd.indexes) (sym c.requires.same) ∙ c.in_ok-judge_indexes.ensures.kept) (subst (λ ts. IsFaultAt 10 (highs_broken ts c.args.raw.now.parts.parts) c.in_err-judge_highs.field-0.0) c.requires.same c.in_err-judge_highs.ensures.broken))

pub returns-in_err-judge_factors-clause-broken : goal.returns-in_err-judge_factors-clause-broken
returns-in_err-judge_factors-clause-broken c =
    let p = err_from_is_err_and c.from_residual-in_err-judge_factors.result c.from_residual-in_err-judge_factors.ensures.1 in
    rw (p.1, p.2) (fault_factors c.args.raw.now _ c.requires.kept.parents c.requires.kept.roots c.requires.kept.names c.requires.kept.counts c.requires.kept.sizes c.requires.kept.sequence c.requires.kept.root_key c.requires.kept.letters (ap (λ ts. indexes_broken ts c.args.raw.now.dbd.indexes) (sym c.requires.same) ∙ c.in_ok-judge_indexes.ensures.kept) (ap (λ ts. highs_broken ts c.args.raw.now.parts.parts) (sym c.requires.same) ∙ c.in_ok-judge_highs.ensures.kept) c.in_err-judge_factors.ensures.broken)

pub returns-clause-broken : goal.returns-clause-broken
returns-clause-broken c = IfErr-weaker c.judge_numbers.result _ _ (λ f h. fault_numbers c.args.raw.now f c.requires.kept.parents c.requires.kept.roots c.requires.kept.names c.requires.kept.counts c.requires.kept.sizes c.requires.kept.sequence c.requires.kept.root_key c.requires.kept.letters (ap (λ ts. indexes_broken ts c.args.raw.now.dbd.indexes) (sym c.requires.same) ∙ c.in_ok-judge_indexes.ensures.kept) (ap (λ ts. highs_broken ts c.args.raw.now.parts.parts) (sym c.requires.same) ∙ c.in_ok-judge_highs.ensures.kept) c.in_ok-judge_factors.ensures.kept h) c.judge_numbers.ensures.broken
