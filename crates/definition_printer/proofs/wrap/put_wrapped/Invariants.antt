use Rattle.std.proofs.Common.{◌≡◌, ◌++◌, length}
use Rattle.definition_printer.specs.Wrapped.{pieces, on_lines}
use Rattle.definition_printer.proofs.wrap.put_wrapped.Given as goal

abbrev pub invariant-loop-rest : goal.invariant-loop-rest
invariant-loop-rest l = l.out ++ on_lines l.room (pieces l.rest) ≡ l.fn.out ++ on_lines 71 (pieces l.statement)

abbrev pub decreases-loop-rest : goal.decreases-loop-rest
decreases-loop-rest l = length l.rest
