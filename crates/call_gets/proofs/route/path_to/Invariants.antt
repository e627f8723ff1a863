use Rattle.std.specs.Prelude.{◌≤◌, ◌+◌, length, IfSome, IsTrue}
use Rattle.call_gets.specs.Scan.{LooksOn, plain_view}
use Rattle.call_gets.proofs.Routing.{Climbing}
use Rattle.call_gets.proofs.route.path_to.Given as goal

abbrev pub invariant-loop-step : goal.invariant-loop-step
invariant-loop-step g l = record {
  live : IsTrue (g.W.Walk.seen l.walk).live;
  looked : LooksOn ⊥ (g.W.Walk.seen l.fn.walk) (g.W.Walk.seen l.walk);
  few : (g.W.Walk.seen l.walk).looks ≤ (g.W.Walk.seen l.fn.walk).looks + (1 + length l.path.items);
  climbs : IfSome (g.W.Walk.seen l.fn.walk).forest (λ rows. Climbing (plain_view (g.W.Walk.seen l.fn.walk).schema rows) l.at l.low l.path.items);
}
