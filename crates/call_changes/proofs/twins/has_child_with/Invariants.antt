use Rattle.std.specs.Prelude.{IfSome, IsTrue}
use Rattle.call_gets.specs.Scan.{LooksOn, plain_view}
use Rattle.call_changes.specs.Inserts.{is_keyed_so}
use Rattle.call_changes.proofs.Passing.{ChildrenLeft}
use Rattle.call_changes.proofs.twins.has_child_with.Given as goal

-- of the children those are left that stand from this one on
abbrev pub invariant-loop-look : goal.invariant-loop-look
invariant-loop-look g l = record {
  live : IsTrue (g.W.Walk.seen l.walk).live;
  looked : LooksOn ⊥ (g.W.Walk.seen l.fn.walk) (g.W.Walk.seen l.walk);
  left : IfSome (g.W.Walk.seen l.fn.walk).forest (λ rows. ChildrenLeft (plain_view l.schema rows) (is_keyed_so l.schema.types l.code l.key) l.above.level l.above.at l.next);
}
