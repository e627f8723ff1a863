use Rattle.std.proofs.Common.{take}
use Rattle.std.specs.Prelude.{IsTrue}
use Rattle.position_state.specs.Names.{names_are_up_to}
use Rattle.position_state.proofs.list_change.highest_address.Given as goal

abbrev pub invariant-loop-row : goal.invariant-loop-row
invariant-loop-row l = IsTrue (names_are_up_to l.highest (take l.row-index l.rows))
