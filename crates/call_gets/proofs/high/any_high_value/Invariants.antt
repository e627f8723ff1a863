use Rattle.std.proofs.Common.{◌≡◌, None, drop}
use Rattle.std.specs.List.{list_any}
use Rattle.call_text.specs.declared.line.Clause.{Clause}
use Rattle.dli_calls.specs.Refusals.{is_high_value}
use Rattle.dli_calls.specs.Ssas.{subject_of}
use Rattle.call_gets.proofs.high.any_high_value.Given as goal

abbrev pub invariant-loop-clause : goal.invariant-loop-clause
invariant-loop-clause l =
    list_any (λ (clause : Clause). is_high_value l.schema clause (subject_of l.schema None 1 clause.field)) l.clauses
    ≡ list_any (λ (clause : Clause). is_high_value l.schema clause (subject_of l.schema None 1 clause.field)) (drop l.clause-index l.clauses)
