use Rattle.std.specs.Prelude.{None, IfSome, IsTrue}
use Rattle.position_state.specs.declared.spot.Spot.{Spot}
use Rattle.dli_calls.specs.Meets.{clauses_hold}
use Rattle.dli_calls.specs.Ssas.{clause_holds}
use Rattle.call_gets.specs.Scan.{LooksOn, plain_view}
use Rattle.call_gets.proofs.Twins.{TwinsLeft}
use Rattle.call_gets.proofs.judged.has_later_twin.Given as goal

-- the twins behind this one are those that are left
abbrev pub invariant-loop-look : goal.invariant-loop-look
invariant-loop-look g l = record {
  live : IsTrue (g.W.Walk.seen l.walk).live;
  looked : LooksOn ⊥ (g.W.Walk.seen l.fn.walk) (g.W.Walk.seen l.walk);
  left : IfSome (g.W.Walk.seen l.fn.walk).forest (λ rows. TwinsLeft (plain_view l.schema rows) (λ (other : Spot). clauses_hold (clause_holds l.schema None l.spot.code other) l.ssa.clauses) l.spot l.next);
}
