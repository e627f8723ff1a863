use Rattle.std.proofs.Common.{◌≡◌, take, map, List}
use Rattle.std.specs.Prelude.{IfSome, IsTrue}
use Rattle.hal_schema.specs.declared.row.Row.{Row}
use Rattle.call_changes.specs.Answer.{sessions_left}
use Rattle.call_changes.specs.Outcome.{OnlyLooks}
use Rattle.call_changes.proofs.answer.sessions_left.Given as goal

-- what is left of the sessions so far
abbrev pub invariant-loop-one : goal.invariant-loop-one
invariant-loop-one g l = record {
  live : IsTrue (g.W.Walk.seen l.walk).live;
  looked : OnlyLooks ⊥ (g.W.Walk.seen l.fn.walk) (g.W.Walk.seen l.walk);
  left : IfSome (g.W.Walk.seen l.fn.walk).forest (λ (rows : List Row). l.left ≡ sessions_left l.schema rows l.script l.call l.decision l.name (take l.one-index l.sessions));
}
