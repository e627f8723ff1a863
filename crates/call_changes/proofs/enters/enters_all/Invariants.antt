use Rattle.std.proofs.Common.{◌≡◌, ◌≤◌, ◌+◌, true, take}
use Rattle.std.specs.Prelude.{IfSome, IsTrue}
use Rattle.std.specs.List.{list_all}
use Rattle.call_gets.specs.Scan.{LooksOn}
use Rattle.call_changes.specs.Inserts.{enters_by}
use Rattle.call_changes.proofs.enters.enters_all.Given as goal

-- as many looks as indexes so far, and in each the row enters freely
abbrev pub invariant-loop-place : goal.invariant-loop-place
invariant-loop-place g l = record {
  live : IsTrue (g.W.Walk.seen l.walk).live;
  looked : LooksOn ⊥ (g.W.Walk.seen l.fn.walk) (g.W.Walk.seen l.walk);
  few : (g.W.Walk.seen l.walk).looks ≤ (g.W.Walk.seen l.fn.walk).looks + l.place;
  enters : IfSome (g.W.Walk.seen l.fn.walk).forest (λ rows. list_all (enters_by l.schema.types rows l.code l.keys l.content) (take l.place l.schema.indexes) ≡ true);
}
