use Rattle.std.proofs.Common.{◌≡◌, ◌≤◌, take}
use Rattle.std.specs.Prelude.{IfSome, IsTrue, Some}
use Rattle.position_state.specs.AfterChange.{LooksUpTo}
use Rattle.call_changes.specs.Moves.{moved_entries}
use Rattle.call_changes.proofs.moves.moved_entries.Given as goal

-- as many looks as indexes so far, and as many entries that move
abbrev pub invariant-loop-place : goal.invariant-loop-place
invariant-loop-place g l = record {
  live : IsTrue (g.W.Walk.seen l.walk).live;
  looked : LooksUpTo l.place ⊥ (g.W.Walk.seen l.fn.walk) (g.W.Walk.seen l.walk);
  few : l.moved ≤ l.place;
  moved : IfSome (g.W.Walk.seen l.fn.walk).forest (λ rows. moved_entries l.schema.types rows l.row l.content (take l.place l.schema.indexes) ≡ Some l.moved);
}
