use Rattle.std.proofs.Common.{◌≡◌, ◌<◌, length, take}
use Rattle.std.specs.Prelude.{All, IfSome, IsTrue}
use Rattle.hal_base.specs.ShelfCalls.{OnlyReads}
use Rattle.keyed_sets.specs.declared.index.First.{First}
use Rattle.keyed_sets.specs.Taken.{TakesIn}
use Rattle.keyed_sets.proofs.set.KeyedSet.open.Given as goal

-- the pages before this one are taken in
abbrev pub invariant-loop-n : goal.invariant-loop-n
invariant-loop-n g l = record {
  live : IsTrue (g.H.Shelf.seen l.shelf).live;
  last : l.n-end ≡ length ((g.H.Shelf.seen l.fn.shelf).places l.set);
  firsts : All (λ (first : First). first.page < l.n-end) l.opening.firsts.items;
  empty : All (λ k. k < l.n-end) l.opening.empty.items;
  taken : IfSome ((g.H.Shelf.seen l.fn.shelf).pages l.set) (λ pages. TakesIn l.shape (take l.n pages) l.opening.firsts.items l.opening.lasts.items l.opening.empty.items);
  read : OnlyReads l.n (g.H.Shelf.steady l.fn.shelf l.shelf) ⊥ (g.H.Shelf.seen l.fn.shelf) (g.H.Shelf.seen l.shelf);
}
