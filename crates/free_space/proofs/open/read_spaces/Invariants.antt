use Rattle.std.proofs.Common.{◌≡◌, ℕ, List, length, Some}
use Rattle.hal_base.specs.ShelfCalls.{OnlyReads}
use Rattle.free_space.proofs.Openings.{KnowsFront}
use Rattle.free_space.proofs.open.read_spaces.Given as goal

abbrev pub invariant-loop-page : goal.invariant-loop-page
invariant-loop-page g l = record {
  reads : OnlyReads l.page (g.H.Shelf.steady l.fn.shelf l.shelf) ⊥ (g.H.Shelf.seen l.fn.shelf) (g.H.Shelf.seen l.shelf);
  count : length l.spaces.pages.items ≡ l.page;
  known : (pages : List (List ℕ)) → (g.H.Shelf.seen l.fn.shelf).pages l.set ≡ Some pages → KnowsFront l.shapes pages l.page l.spaces.pages.items;
}
