use Rattle.std.proofs.Common.{List, sym, subst, ap, ◌∙◌, refl, arith}
use Rattle.std.specs.Prelude.{slice_set}
use Rattle.std.proofs.lemmas.Result.{err_from_is_err_and}
use Rattle.hal_base.specs.declared.outcome.PageFault.TheVariants.{Failed}
use Rattle.hal_base.proofs.ShelfLemmas.{same_then, reads_changes, changes_then, changes_as}
use Rattle.segment_blocks.specs.declared.tile.Tile.{Tile}
use Rattle.segment_blocks.specs.Tiling.{IsTiling}
use Rattle.segment_blocks.specs.declared.space.Space.{Space}
use Rattle.segment_blocks.specs.Space.{space_of}
use Rattle.free_space.specs.Clearing.{IsCleared}
use Rattle.free_space.proofs.Told.{ok_err, handed_on, handed_to, stays_same, heads_same, relays_heads}
use Rattle.free_space.proofs.PageSteps.{given_back, stays_put, same_front}
use Rattle.free_space.proofs.store.CellStore.give_back.Goals as goal

pub clear-space-requires-clause-place : goal.clear-space-requires-clause-place
clear-space-requires-clause-place g c = (c.offset_of.result, c.in-Some.field-0-1.now, c.in-Some.ensures.found)

pub stage-requires-clause-head : goal.stage-requires-clause-head
stage-requires-clause-head g c = same_front c.args.self.now.set c.page_of-page.result c.read_page.new.block c.clear-space.new.block (g.H.Shelf.seen c.args.shelf.now) (g.H.Shelf.seen c.read_page.new.shelf)
    c.read_page.ensures.leaves.same c.in_ok-tiles.ensures.page c.clear-space.ensures.head

pub returns-clause-given_back : goal.returns-clause-given_back
returns-clause-given_back g c =
    let tiling = subst (IsTiling c.args.self.now.shapes c.read_page.new.block) (sym c.as_slice-found.ensures) c.in_ok-tiles.ensures.tiling in
    let done = c.clear-space.ensures.cleared c.args.self.now.shapes c.offset_of.result c.in-Some.field-0-1.now tiling c.in-Some.ensures.found in
    let cleared = subst (λ (l : List Tile). IsCleared l c.offset_of.result c.in-Some.field-0-1.now done.0) c.as_slice-found.ensures done.1 in
    given_back c.args.self.now (g.H.Shelf.seen c.args.shelf.now) (g.H.Shelf.seen c.read_page.new.shelf) (g.H.Shelf.seen c.stage.new.shelf) c.args.at c.page_of-page.result c.offset_of.result c.in-Some.field-0-1.now _
    c.in_ok-tiles.tiles done.0 c.read_page.new.block c.clear-space.new.block c.requires.cell c.page_of-page.ensures c.offset_of.ensures c.read_page.ensures.leaves.same c.in_ok-tiles.ensures.page c.clear-space.ensures.head
    c.in_ok-stage.ensures.page c.in_ok-tiles.ensures.tiling cleared done.2

pub returns-clause-stays : goal.returns-clause-stays
returns-clause-stays g c =
    let tiling = subst (IsTiling c.args.self.now.shapes c.read_page.new.block) (sym c.as_slice-found.ensures) c.in_ok-tiles.ensures.tiling in
    let done = c.clear-space.ensures.cleared c.args.self.now.shapes c.offset_of.result c.in-Some.field-0-1.now tiling c.in-Some.ensures.found in
    stays_put c.args.self.now _ (g.H.Shelf.seen c.args.shelf.now) (g.H.Shelf.seen c.read_page.new.shelf) (g.H.Shelf.seen c.stage.new.shelf) c.page_of-page.result c.clear-space.new.block done.0
    c.requires.stands c.read_page.ensures.leaves.same refl refl
    (c.set.ensures ∙ ap (λ (s : Space). slice_set c.args.self.now.spaces.pages.items c.from.result s) done.3 ∙ ap (λ (n : _). slice_set c.args.self.now.spaces.pages.items n (space_of done.0)) c.from.ensures) done.2 c.in_ok-stage.ensures.page c.in_ok-stage.ensures.leaves.changed

pub returns-in_err-stage-clause-stays : goal.returns-in_err-stage-clause-stays
returns-in_err-stage-clause-stays g c = stays_same c.args.self.now (g.H.Shelf.seen c.args.shelf.now) (g.H.Shelf.seen c.stage.new.shelf) c.requires.stands (same_then c.read_page.ensures.leaves.same c.in_err-stage.ensures.unchanged)

pub returns-clause-leaves : goal.returns-clause-leaves
returns-clause-leaves g c = record {
  changes = changes_as (changes_then (reads_changes c.args.self.now.set c.read_page.ensures.leaves) c.stage.ensures.leaves (g.met.H.Shelf.steady_then c.args.shelf.now c.read_page.new.shelf c.stage.new.shelf))
      (λ failed. absurd (ok_err c.stage.result c.in_ok-stage.was failed)) (λ failed. let wrong = failed in cc);
  heads = relays_heads c.args.self.now (g.H.Shelf.seen c.args.shelf.now) (g.H.Shelf.seen c.stage.new.shelf) _ (returns-clause-given_back g c);
  few = omega (arith, c.read_page.ensures.leaves.few, c.stage.ensures.fetches);
}

pub returns-in_err-stage-clause-leaves : goal.returns-in_err-stage-clause-leaves
returns-in_err-stage-clause-leaves g c =
    let p = err_from_is_err_and c.from_residual-in_err-stage.result c.from_residual-in_err-stage.ensures.1 in
    let x = c.in_err-stage.field-0.0 in
    record {
      changes = changes_as (changes_then (reads_changes c.args.self.now.set c.read_page.ensures.leaves) c.stage.ensures.leaves (g.met.H.Shelf.steady_then c.args.shelf.now c.read_page.new.shelf c.stage.new.shelf))
          (handed_to c.stage.result c.from_residual-in_err-stage.result p.0 x Failed p.1 p.2 c.in_err-stage.was) (handed_on c.stage.result c.from_residual-in_err-stage.result p.0 x Failed p.1 p.2 c.in_err-stage.was);
      heads = heads_same c.args.self.now.set (g.H.Shelf.seen c.args.shelf.now) (g.H.Shelf.seen c.stage.new.shelf) (same_then c.read_page.ensures.leaves.same c.in_err-stage.ensures.unchanged);
      few = omega (arith, c.read_page.ensures.leaves.few, c.stage.ensures.fetches);
    }
