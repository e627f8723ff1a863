use Rattle.std.proofs.lemmas.Result.{err_from_is_err_and, IfErr-weaker}
use Rattle.hal_schema.proofs.Judged.{fault_parents, fault_roots, fault_names, fault_counts, fault_sizes, fault_sequence, fault_root_key, fault_letters}
use Rattle.hal_schema.proofs.KeptTypes.{kept_parents}
use Rattle.hal_schema.proofs.judge.judge_statements.Goals as goal

pub returns-in_err-judge_parents-clause-broken : goal.returns-in_err-judge_parents-clause-broken
returns-in_err-judge_parents-clause-broken c =
    let p = err_from_is_err_and c.from_residual.result c.from_residual.ensures.1 in
    rw (p.1, p.2) (fault_parents c.args.raw.now _ c.in_err-judge_parents.ensures.broken)

pub returns-in_err-judge_roots-clause-broken : goal.returns-in_err-judge_roots-clause-broken
returns-in_err-judge_roots-clause-broken c =
    let p = err_from_is_err_and c.from_residual-in_err-judge_roots.result c.from_residual-in_err-judge_roots.ensures.1 in
    rw (p.1, p.2) (fault_roots c.args.raw.now _ c.in_ok-judge_parents.ensures.kept c.in_err-judge_roots.ensures.broken)

pub returns-in_err-judge_names-clause-broken : goal.returns-in_err-judge_names-clause-broken
returns-in_err-judge_names-clause-broken c =
    let p = err_from_is_err_and c.from_residual-in_err-judge_names.result c.from_residual-in_err-judge_names.ensures.1 in
    rw (p.1, p.2) (fault_names c.args.raw.now _ c.in_ok-judge_parents.ensures.kept c.in_ok-judge_roots.ensures.kept c.in_err-judge_names.ensures.broken)

pub returns-in_err-judge_counts-clause-broken : goal.returns-in_err-judge_counts-clause-broken
returns-in_err-judge_counts-clause-broken c =
    let p = err_from_is_err_and c.from_residual-in_err-judge_counts.result c.from_residual-in_err-judge_counts.ensures.1 in
    rw (p.1, p.2) (fault_counts c.args.raw.now _ c.in_ok-judge_parents.ensures.kept c.in_ok-judge_roots.ensures.kept c.in_ok-judge_names.ensures.kept c.in_err-judge_counts.ensures.broken)

pub returns-in_err-judge_sizes-clause-broken : goal.returns-in_err-judge_sizes-clause-broken
returns-in_err-judge_sizes-clause-broken c =
    let p = err_from_is_err_and c.from_residual-in_err-judge_sizes.result c.from_residual-in_err-judge_sizes.ensures.1 in
    rw (p.1, p.2) (fault_sizes c.args.raw.now _ c.in_ok-judge_parents.ensures.kept c.in_ok-judge_roots.ensures.kept c.in_ok-judge_names.ensures.kept c.in_ok-judge_counts.ensures.kept c.in_err-judge_sizes.ensures.broken)

pub returns-in_err-judge_sequence-clause-broken : goal.returns-in_err-judge_sequence-clause-broken
returns-in_err-judge_sequence-clause-broken c =
    let p = err_from_is_err_and c.from_residual-in_err-judge_sequence.result c.from_residual-in_err-judge_sequence.ensures.1 in
    rw (p.1, p.2) (fault_sequence c.args.raw.now _ c.in_ok-judge_parents.ensures.kept c.in_ok-judge_roots.ensures.kept c.in_ok-judge_names.ensures.kept c.in_ok-judge_counts.ensures.kept c.in_ok-judge_sizes.ensures.kept c.in_err-judge_sequence.ensures.broken)

pub returns-in_err-judge_root_key-clause-broken : goal.returns-in_err-judge_root_key-clause-broken
returns-in_err-judge_root_key-clause-broken c =
    let p = err_from_is_err_and c.from_residual-in_err-judge_root_key.result c.from_residual-in_err-judge_root_key.ensures.1 in
    rw (p.1, p.2) (fault_root_key c.args.raw.now _ c.in_ok-judge_parents.ensures.kept c.in_ok-judge_roots.ensures.kept c.in_ok-judge_names.ensures.kept c.in_ok-judge_counts.ensures.kept c.in_ok-judge_sizes.ensures.kept c.in_ok-judge_sequence.ensures.kept c.in_err-judge_root_key.ensures.broken)

pub returns-clause-broken : goal.returns-clause-broken
returns-clause-broken c = IfErr-weaker c.judge_letters.result _ _ (λ f h. fault_letters c.args.raw.now f c.in_ok-judge_parents.ensures.kept c.in_ok-judge_roots.ensures.kept c.in_ok-judge_names.ensures.kept c.in_ok-judge_counts.ensures.kept c.in_ok-judge_sizes.ensures.kept c.in_ok-judge_sequence.ensures.kept c.in_ok-judge_root_key.ensures.kept h) c.judge_letters.ensures.broken

pub judge_counts-requires : goal.judge_counts-requires
judge_counts-requires c = kept_parents c.args.raw.now.dbd.types c.in_ok-judge_parents.ensures.kept c.in_ok-judge_roots.ensures.kept
