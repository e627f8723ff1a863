use Rattle.std.proofs.Common.{◌≡◌, ◌++◌, take}
use Rattle.std.specs.List.{flat_map}
use Rattle.call_text.specs.Printed.{joined_clause}
use Rattle.call_text.proofs.printing.put_joined_clauses.Given as goal

abbrev pub invariant-loop-clause : goal.invariant-loop-clause
invariant-loop-clause l = l.out ≡ l.fn.out ++ flat_map joined_clause (take l.clause-index l.clauses)
