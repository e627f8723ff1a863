use Rattle.std.proofs.Common.{List, subst, arith}
use Rattle.std.proofs.lemmas.Result.{on_ok_weaker, on_err_weaker, err_from_is_err_and}
use Rattle.hal_base.specs.declared.place.Shape.{Shape}
use Rattle.hal_base.proofs.ShelfLemmas.{same_then, reads_changes, changes_then}
use Rattle.free_space.specs.Changes.{changed}
use Rattle.free_space.proofs.Told.{stands_same, heads_either, writes_err}
use Rattle.free_space.proofs.PageSteps.{RewritesAll, rewritten_told, stands_rewritten_told, on_either, same_front}
use Rattle.free_space.proofs.store.CellStore.rewrite.Goals as goal

pub stage-requires-clause-head : goal.stage-requires-clause-head
stage-requires-clause-head g c = same_front c.args.self.now.set c.page_of-page.result c.fetch.new.block c.rewrite_in.new.block (g.H.Shelf.seen c.args.shelf.now) (g.H.Shelf.seen c.fetch.new.shelf)
    c.fetch.ensures.leaves.same c.in_ok-fetch.ensures.page c.rewrite_in.ensures.head

pub returns-clause-changed : goal.returns-clause-changed
returns-clause-changed g c =
    let all : RewritesAll c.args.self.now.shapes c.fetch.new.block c.rewrite_in.new.block c.offset_of.result (changed c.args.change) =
    subst (λ (s : List Shape). RewritesAll s c.fetch.new.block c.rewrite_in.new.block c.offset_of.result (changed c.args.change)) c.as_slice-shapes.ensures c.in-Ok.ensures.tiled in
    on_ok_weaker c.stage.result (λ put. rewritten_told c.args.self.now (g.H.Shelf.seen c.args.shelf.now) (g.H.Shelf.seen c.fetch.new.shelf) (g.H.Shelf.seen c.stage.new.shelf) c.args.at c.page_of-page.result c.offset_of.result
    (changed c.args.change) _ c.fetch.new.block c.rewrite_in.new.block c.requires.cell c.page_of-page.ensures c.offset_of.ensures c.requires.stands c.fetch.ensures.leaves.same c.in_ok-fetch.ensures.page
    c.rewrite_in.ensures.head put all) c.stage.ensures.page

pub returns-clause-unchanged : goal.returns-clause-unchanged
returns-clause-unchanged g c = on_err_weaker c.stage.result (λ same. same_then c.fetch.ensures.leaves.same same) c.stage.ensures.unchanged

pub returns-clause-stands : goal.returns-clause-stands
returns-clause-stands g c =
    let all : RewritesAll c.args.self.now.shapes c.fetch.new.block c.rewrite_in.new.block c.offset_of.result (changed c.args.change) =
    subst (λ (s : List Shape). RewritesAll s c.fetch.new.block c.rewrite_in.new.block c.offset_of.result (changed c.args.change)) c.as_slice-shapes.ensures c.in-Ok.ensures.tiled in
    on_either c.stage.result c.stage.ensures.page c.stage.ensures.unchanged
    (λ put. stands_rewritten_told c.args.self.now (g.H.Shelf.seen c.args.shelf.now) (g.H.Shelf.seen c.fetch.new.shelf) (g.H.Shelf.seen c.stage.new.shelf) c.args.at c.page_of-page.result c.offset_of.result (changed c.args.change) _
    c.fetch.new.block c.rewrite_in.new.block c.requires.cell c.page_of-page.ensures c.offset_of.ensures c.requires.stands c.fetch.ensures.leaves.same c.in_ok-fetch.ensures.page put c.stage.ensures.leaves.changed all)
    (λ same. stands_same c.args.self.now (g.H.Shelf.seen c.args.shelf.now) (g.H.Shelf.seen c.stage.new.shelf) c.requires.stands (same_then c.fetch.ensures.leaves.same same))

pub returns-clause-leaves : goal.returns-clause-leaves
returns-clause-leaves g c = record {
  changes = changes_then (reads_changes c.args.self.now.set c.fetch.ensures.leaves) c.stage.ensures.leaves (g.met.H.Shelf.steady_then c.args.shelf.now c.fetch.new.shelf c.stage.new.shelf);
  heads = heads_either c.args.self.now (g.H.Shelf.seen c.args.shelf.now) (g.H.Shelf.seen c.stage.new.shelf) _ c.stage.result (returns-clause-changed g c) (returns-clause-unchanged g c);
  few = omega (arith, c.fetch.ensures.leaves.few, c.stage.ensures.fetches);
}

pub returns-in_err-fetch-clause-leaves : goal.returns-in_err-fetch-clause-leaves
returns-in_err-fetch-clause-leaves g c =
    let p = err_from_is_err_and c.from_residual.result c.from_residual.ensures.1 in
    writes_err 1 c.args.self.now.set c.fetch.result c.from_residual.result p.0 c.in_err-fetch.field-0.0 p.1 p.2 c.in_err-fetch.was c.fetch.ensures.leaves (omega arith)
