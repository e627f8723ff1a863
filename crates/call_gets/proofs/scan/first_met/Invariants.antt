use Rattle.std.specs.Prelude.{◌≡◌, ◌+◌, ◌≤◌, true, false, IfSome, IsTrue}
use Rattle.std.specs.List.{list_any}
use Rattle.dli_calls.specs.Ssas.{asks_last}
use Rattle.call_gets.specs.Scan.{LooksOn, from_on, inside_ahead, plain_view}
use Rattle.call_gets.specs.Passed.{all_lead}
use Rattle.call_gets.proofs.Moving.{Moved}
use Rattle.call_gets.proofs.Passing.{Passes}
use Rattle.call_gets.proofs.scan.first_met.Given as goal

abbrev pub invariant-loop-step : goal.invariant-loop-step
invariant-loop-step g l = record {
  live : IsTrue (g.W.Walk.seen l.walk).live;
  looked : LooksOn ⊥ (g.W.Walk.seen l.fn.walk) (g.W.Walk.seen l.walk);
  few : list_any asks_last l.ssas ≡ false
      → IfSome (g.W.Walk.seen l.fn.walk).forest (λ rows. (g.W.Walk.seen l.walk).looks + inside_ahead l.top (from_on (plain_view l.schema rows) l.next)
      ≤ (g.W.Walk.seen l.fn.walk).looks + inside_ahead l.top (from_on (plain_view l.schema rows) l.fn.first));
  passing : all_lead l.schema l.ssas l.fn.path.items ≡ true → list_any asks_last l.ssas ≡ false
      → IfSome (g.W.Walk.seen l.fn.walk).forest (λ rows. Passes l.schema (plain_view l.schema rows) l.ssas l.fn.path.items l.fn.first l.path.items l.next (g.W.Walk.seen l.fn.walk).looks (g.W.Walk.seen l.walk).looks);
  moved : IfSome (g.W.Walk.seen l.fn.walk).forest (λ rows. Moved l.schema (plain_view l.schema rows) l.ssas l.top l.fn.path.items l.fn.first l.path.items l.next);
}
