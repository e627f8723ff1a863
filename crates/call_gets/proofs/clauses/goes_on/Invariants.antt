use Rattle.std.proofs.Common.{◌≡◌, None, drop}
use Rattle.dli_calls.specs.Meets.{goes_on}
use Rattle.dli_calls.specs.Ssas.{clause_holds}
use Rattle.call_gets.proofs.clauses.goes_on.Given as goal

abbrev pub invariant-loop-clause : goal.invariant-loop-clause
invariant-loop-clause l =
    goes_on (clause_holds l.schema None l.spot.code l.spot) l.fn.group l.clauses ≡ goes_on (clause_holds l.schema None l.spot.code l.spot) l.group (drop l.clause-index l.clauses)
