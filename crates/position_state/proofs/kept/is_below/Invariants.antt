use Rattle.std.proofs.Common.{◌≤◌, max, None}
use Rattle.std.specs.Prelude.{IfSome, IsTrue}
use Rattle.position_state.specs.declared.session.Anchor.TheVariants.{At}
use Rattle.position_state.specs.AfterChange.{LooksUpTo}
use Rattle.position_state.proofs.Climbing.{Climbs, IsLevel}
use Rattle.position_state.proofs.kept.is_below.Given as goal

-- so many looks led up to this element
abbrev pub invariant-loop-step : goal.invariant-loop-step
invariant-loop-step g l = record {
  live : IsTrue (g.W.Walk.seen l.walk).live;
  looked : LooksUpTo l._step ⊥ (g.W.Walk.seen l.fn.walk) (g.W.Walk.seen l.walk);
  few : l._step ≤ max 1 l.level;
  level : IsLevel (g.W.Walk.seen l.fn.walk) l.other l.level;
  climbs : IfSome (g.W.Walk.seen l.fn.walk).forest (λ rows. Climbs (g.W.Walk.seen l.fn.walk).schema rows l.name (At l.other l.key None) l.level l._step l.spot);
}
