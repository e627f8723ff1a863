use Rattle.std.specs.Prelude.{IfSome, IsTrue}
use Rattle.call_gets.specs.Scan.{LooksOn, plain_view}
use Rattle.call_gets.proofs.Finds.{LaterFew, LaterLeft}
use Rattle.call_gets.proofs.below.later.Given as goal

abbrev pub invariant-loop-look : goal.invariant-loop-look
invariant-loop-look g l = record {
  live : IsTrue (g.W.Walk.seen l.walk).live;
  looked : LooksOn ⊥ (g.W.Walk.seen l.fn.walk) (g.W.Walk.seen l.walk);
  few : IfSome (g.W.Walk.seen l.fn.walk).forest (λ rows. LaterFew (plain_view (g.W.Walk.seen l.fn.walk).schema rows) l.at l.next (g.W.Walk.seen l.fn.walk).looks (g.W.Walk.seen l.walk).looks);
  left : IfSome (g.W.Walk.seen l.fn.walk).forest (λ rows. LaterLeft (plain_view (g.W.Walk.seen l.fn.walk).schema rows) l.at l.place l.next);
}
