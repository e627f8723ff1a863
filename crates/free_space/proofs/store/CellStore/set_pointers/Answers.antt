use Rattle.std.proofs.Common.{ℕ, List, subst, ◌∙◌}
use Rattle.std.specs.Result.{OnOk}
use Rattle.free_space.specs.declared.change.Change.TheVariants.{Pointers}
use Rattle.free_space.specs.Changes.{changed, Rewrites}
use Rattle.free_space.specs.Store.{Relays}
use Rattle.free_space.proofs.Told.{writes_none}
use Rattle.free_space.proofs.store.CellStore.set_pointers.Goals as goal

pub rewrite-requires-clause-cell : goal.rewrite-requires-clause-cell
rewrite-requires-clause-cell g c = λ pages told. let there = c.requires.cell pages told in (there.0, there.1, tt)

pub returns-clause-changed : goal.returns-clause-changed
returns-clause-changed g c = subst (λ (x : List ℕ). OnOk c.rewrite.result (Relays c.args.self.now (g.H.Shelf.seen c.args.shelf.now) (g.H.Shelf.seen c.rewrite.new.shelf) (Rewrites c.args.self.now.set c.args.at (changed (Pointers c.args.twin x)))))
    (c.in-Ok.ensures ∙ c.as_slice.ensures) c.rewrite.ensures.changed

pub returns-in_default-clause-leaves : goal.returns-in_default-clause-leaves
returns-in_default-clause-leaves g c = writes_none 1 c.args.self.now.set (g.H.Shelf.seen c.args.shelf.now) (g.met.H.Shelf.steady_none c.args.shelf.now) c.requires.live (λ failed. let wrong = failed in cc)
