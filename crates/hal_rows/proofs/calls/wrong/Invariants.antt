use Rattle.std.specs.Prelude.{IsTrue}
use Rattle.hal_schema.specs.Forest.{is_forest}
use Rattle.hal_rows.proofs.calls.wrong.Given as goal

abbrev pub invariant-loop-place : goal.invariant-loop-place
invariant-loop-place l = IsTrue (is_forest l.schema l.rows)
