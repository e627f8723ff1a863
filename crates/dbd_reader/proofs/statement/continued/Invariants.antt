use Rattle.std.proofs.Common.{◌≡◌, ◌≤◌, ◌+◌, ℕ, List, Some, length}
use Rattle.std.specs.Str.Lines.{lines}
use Rattle.dbd_reader.specs.Lines.{IsBehind}
use Rattle.dbd_reader.specs.Statements.{statements}
use Rattle.dbd_reader.proofs.statement.continued.Given as goal

abbrev pub invariant-loop-statement : goal.invariant-loop-statement
invariant-loop-statement l = record {
  whole : statements l.statement.next (Some l.statement) (lines l.rest) ≡ statements l.fn.begun.next (Some l.fn.begun) (lines l.text);
  behind : (whole : List ℕ) → IsBehind whole l.fn.begun.next l.text → IsBehind whole l.statement.next l.rest;
  few : l.statement.next + length l.rest ≤ l.fn.begun.next + length l.text;
  short : length l.rest ≤ length l.text;
}

abbrev pub decreases-loop-statement : goal.decreases-loop-statement
decreases-loop-statement l = length l.rest
