use Rattle.std.proofs.Common.{◌≡◌, ◌++◌}
use Rattle.std.specs.List.{flat_map}
use Rattle.block_journal.specs.Redo.{change_bytes, body_bytes}
use Rattle.block_journal.proofs.staged.make_body.Given as goal

abbrev pub invariant-loop-number : goal.invariant-loop-number
invariant-loop-number l = l.body.items ++ flat_map change_bytes l.number-iterator ≡ body_bytes l.changes.entries
