use Rattle.std.proofs.Common.{◌+◌, ◌++◌, ◌∷◌, ◌∙◌, [], List, ℕ, Option, Ok, refl, ap, subst}
use Rattle.std.proofs.lemmas.Result.{err_from_is_err_and}
use Rattle.hal_base.specs.declared.outcome.PageFault.TheVariants as page
use Rattle.keyed_sets.specs.Calls.{Gives}
use Rattle.keyed_sets.specs.Layout.{Row}
use Rattle.keyed_sets.specs.Map.{next_after}
use Rattle.record_tree.proofs.Opening.{one_fault, ok_not_err}
use Rattle.record_tree.proofs.Reading.{reads_fail, reads_then}
use Rattle.record_tree.proofs.RootHomes.{homes_taken, homes_done}
use Rattle.record_tree.proofs.walk.root_homes.Goals as goal

pub returns-in_err-next-clause-leaves : goal.returns-in_err-next-clause-leaves
returns-in_err-next-clause-leaves g c =
    let old = g.H.Shelf.seen c.args.shelf.now in
    let mid = g.H.Shelf.seen c.loop.shelf in
    let new = g.H.Shelf.seen c.next_after.new.shelf in
    let p = err_from_is_err_and c.from_residual.result c.from_residual.ensures.1 in
    let q = one_fault c.next_after.result c.from_residual.result _ p.0 page.Failed c.in_err-next.was p.1 p.2 in (
      c.loop.invariant.most + 2,
      reads_fail (c.loop.invariant.most + 2) old new (reads_then c.loop.invariant.most 2 old mid new c.loop.invariant.reads c.next_after.ensures.leaves (g.met.H.Shelf.steady_then c.args.shelf.now c.loop.shelf c.next_after.new.shelf)) q.0 q.1,
    )

pub returns-in_default-clause-homes : goal.returns-in_default-clause-homes
returns-in_default-clause-homes g c =
    let mid = g.H.Shelf.seen c.loop.shelf in
    let gives = subst (λ (k : Option (List ℕ)). Gives c.loop.roots mid (next_after k) c.in_ok-next.field-0) c.key_before.ensures c.in_ok-next.ensures.row in
    homes_done c.args.roots.now c.loop.roots c.loop.key c.loop.homes.items (g.H.Shelf.steady c.args.shelf.now c.loop.shelf) (g.H.Shelf.seen c.args.shelf.now) mid c.loop.invariant
    (subst (λ (o : Option Row). Gives c.loop.roots mid (next_after c.loop.key) o) c.in_default.is gives)

pub returns-in_default-clause-leaves : goal.returns-in_default-clause-leaves
returns-in_default-clause-leaves g c =
    let old = g.H.Shelf.seen c.args.shelf.now in
    let mid = g.H.Shelf.seen c.loop.shelf in
    let new = g.H.Shelf.seen c.next_after.new.shelf in (
      c.loop.invariant.most + 2,
      reads_fail (c.loop.invariant.most + 2) old new (reads_then c.loop.invariant.most 2 old mid new c.loop.invariant.reads c.next_after.ensures.leaves (g.met.H.Shelf.steady_then c.args.shelf.now c.loop.shelf c.next_after.new.shelf))
          (λ is. absurd (ok_not_err c.next_after.result c.in_ok-next.field-0 page.Failed c.in_ok-next.was is)) (λ is. absurd (ok_not_err (Ok c.loop.homes) c.loop.homes page.Failed refl is)),
    )

pub returns-in_err-add_home-clause-leaves : goal.returns-in_err-add_home-clause-leaves
returns-in_err-add_home-clause-leaves g c =
    let old = g.H.Shelf.seen c.args.shelf.now in
    let mid = g.H.Shelf.seen c.loop.shelf in
    let new = g.H.Shelf.seen c.next_after.new.shelf in
    let p = err_from_is_err_and c.from_residual-in_err-add_home.result c.from_residual-in_err-add_home.ensures.1 in (
      c.loop.invariant.most + 2,
      reads_fail (c.loop.invariant.most + 2) old new (reads_then c.loop.invariant.most 2 old mid new c.loop.invariant.reads c.next_after.ensures.leaves (g.met.H.Shelf.steady_then c.args.shelf.now c.loop.shelf c.next_after.new.shelf))
          (λ is. absurd (ok_not_err c.next_after.result c.in_ok-next.field-0 page.Failed c.in_ok-next.was is)) (λ is. absurd (let first = p.1 in let second = p.2 in cc)),
    )

pub loop-preserved : goal.loop-preserved
loop-preserved g c =
    let mid = g.H.Shelf.seen c.loop.shelf in
    let row : Row = (c.in-Some.next, c.in-Some.body) in
    let gives = subst (λ (k : Option (List ℕ)). Gives c.loop.roots mid (next_after k) c.in_ok-next.field-0) c.key_before.ensures c.in_ok-next.ensures.row in
    homes_taken c.rows_rise.ensures.of_pages c.args.roots.now c.loop.roots c.next_after.new.self c.loop.key c.loop.homes.items c.add_home.new.homes.items row (g.H.Shelf.steady c.args.shelf.now c.next_after.new.shelf) 2 (g.H.Shelf.seen c.args.shelf.now) mid
    (g.H.Shelf.seen c.next_after.new.shelf) c.loop.invariant (subst (λ (o : Option Row). Gives c.loop.roots mid (next_after c.loop.key) o) c.in-Some.is gives) c.next_after.ensures.kept.0 c.next_after.ensures.kept.1 c.next_after.ensures.leaves
    (λ is. ok_not_err c.next_after.result c.in_ok-next.field-0 page.Failed c.in_ok-next.was is) (g.met.H.Shelf.steady_then c.args.shelf.now c.loop.shelf c.next_after.new.shelf)
    (c.in_ok-add_home.ensures ∙ ap (λ (n : ℕ). c.loop.homes.items ++ n ∷ []) c.home_in.ensures)
