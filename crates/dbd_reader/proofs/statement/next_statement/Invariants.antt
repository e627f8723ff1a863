use Rattle.std.proofs.Common.{◌≡◌, ◌≤◌, ◌+◌, ℕ, List, None, length}
use Rattle.std.specs.Str.Lines.{lines}
use Rattle.dbd_reader.specs.Lines.{IsBehind}
use Rattle.dbd_reader.specs.Statements.{statements}
use Rattle.dbd_reader.proofs.statement.next_statement.Given as goal

abbrev pub invariant-loop-rest : goal.invariant-loop-rest
invariant-loop-rest l = record {
  whole : statements l.line None (lines l.rest) ≡ statements l.number None (lines l.text);
  behind : (whole : List ℕ) → IsBehind whole l.number l.text → IsBehind whole l.line l.rest;
  few : l.line + length l.rest ≤ l.number + length l.text;
  short : length l.rest ≤ length l.text;
}

abbrev pub decreases-loop-rest : goal.decreases-loop-rest
decreases-loop-rest l = length l.rest
