use Rattle.std.proofs.Common.{◌≡◌, ◌≤◌, false, [], ◌∷◌, ◌++◌, drop}
use Rattle.std.specs.Prelude.{IfSome, IsTrue}
use Rattle.std.specs.List.{list_any}
use Rattle.dli_calls.specs.Ssas.{asks_last}
use Rattle.call_gets.specs.Scan.{LooksOn, plain_view}
use Rattle.call_gets.proofs.Judging.{AllSoFar}
use Rattle.call_gets.proofs.judged.judge.Given as goal

abbrev pub invariant-loop-ssa : goal.invariant-loop-ssa
invariant-loop-ssa g l = record {
  live : IsTrue (g.W.Walk.seen l.walk).live;
  looked : LooksOn ⊥ (g.W.Walk.seen l.fn.walk) (g.W.Walk.seen l.walk);
  few : list_any asks_last l.ssas ≡ false → (g.W.Walk.seen l.walk).looks ≤ (g.W.Walk.seen l.fn.walk).looks;
  all : IfSome (g.W.Walk.seen l.fn.walk).forest (λ rows. AllSoFar l.schema (plain_view l.schema rows) l.ssas (l.above ++ l.spot ∷ []) l.all (drop l.ssa-index l.ssas));
}
