use Rattle.std.proofs.Common.{◌≡◌, ℕ, length, Some}
use Rattle.std.specs.Prelude.{slice_get}
use Rattle.hal_base.specs.ShelfCalls.{OnlyReads}
use Rattle.free_space.specs.declared.store.CellStore.{CellStore}
use Rattle.free_space.specs.Side.{lettered}
use Rattle.free_space.specs.SideCalls.{pages_upto}
use Rattle.free_space.specs.Store.{StandsFor}
use Rattle.free_space.proofs.side.open_stores.Given as goal

abbrev pub invariant-loop-place : goal.invariant-loop-place
invariant-loop-place g l = record {
  reads : OnlyReads (pages_upto l.first (g.H.Shelf.seen l.fn.shelf) l.place) (g.H.Shelf.steady l.fn.shelf l.shelf) ⊥ (g.H.Shelf.seen l.fn.shelf) (g.H.Shelf.seen l.shelf);
  count : length l.stores.items ≡ l.place;
  each : (k : ℕ) (store : CellStore) → slice_get l.stores.items k ≡ Some store → (store.set ≡ lettered l.first k) × (store.shapes ≡ l.shapes) × StandsFor store (g.H.Shelf.seen l.shelf);
}
