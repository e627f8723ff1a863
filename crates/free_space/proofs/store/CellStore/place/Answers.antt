use Rattle.std.proofs.Common.{sym, ap, ◌∙◌, arith}
use Rattle.std.proofs.lemmas.Result.{err_from_is_err_and}
use Rattle.hal_base.specs.declared.outcome.PageFault.TheVariants.{NoRoom, Failed}
use Rattle.hal_base.proofs.ShelfLemmas.{same_changed, changed_grown, keeps_then, keeps_as}
use Rattle.segment_blocks.specs.Tiling.{cell_length}
use Rattle.free_space.specs.Map.{layout_of}
use Rattle.free_space.proofs.Told.{handed_on, handed_to, added_is, stays_then, heads_same, heads_match}
use Rattle.free_space.proofs.PlaceSteps.{none_fits, placed_here, placed_behind, match_of, match_err, none_added, grows_only, grew_none, grew_same, grew_as, grown_changed}
use Rattle.free_space.proofs.store.CellStore.place.Goals as goal

pub returns-in-Some-clause-placed : goal.returns-in-Some-clause-placed
returns-in-Some-clause-placed g c =
    let old = g.H.Shelf.seen c.args.shelf.now in
    let new = g.H.Shelf.seen c.place_in.new.shelf in
    let first = c.in-Some.ensures.found in
    match_of c.place_in.result c.place_in.ensures.places_in c.place_in.ensures.unchanged
    (λ at put. placed_here c.args.self.now old new c.args.cell.now at c.in-Some.page c.cell_size-len.result _ (c.cell_size-len.ensures ∙ ap cell_length c.shape_for.ensures)
    (sym (none_added c.args.self.now.set old new c.place_in.ensures.leaves.changed)) c.requires.stands first put)
    (λ same e. (grew_none c.args.self.now old new same).tiles)

pub returns-in-Some-clause-no_room : goal.returns-in-Some-clause-no_room
returns-in-Some-clause-no_room g c = λ is. absurd (c.place_in.ensures.room is)

pub returns-in-Some-clause-leaves : goal.returns-in-Some-clause-leaves
returns-in-Some-clause-leaves g c =
    let old = g.H.Shelf.seen c.args.shelf.now in
    let new = g.H.Shelf.seen c.place_in.new.shelf in
    record {
      changes = grows_only 0 c.args.self.now.set old new c.place_in.ensures.leaves.keeps (changed_grown c.place_in.ensures.leaves.changed);
      heads = heads_match c.args.self.now old new _ _ c.place_in.result (returns-in-Some-clause-placed g c);
      at_most = omega (arith, none_added c.args.self.now.set old new c.place_in.ensures.leaves.changed);
      few = c.place_in.ensures.few;
    }

pub returns-in_err-page-in-None-clause-placed : goal.returns-in_err-page-in-None-clause-placed
returns-in_err-page-in-None-clause-placed g c =
    let p = err_from_is_err_and c.from_residual.result c.from_residual.ensures.1 in
    match_err _ _ c.from_residual.result p.0 p.1 (λ e. (grew_none c.args.self.now (g.H.Shelf.seen c.args.shelf.now) (g.H.Shelf.seen c.add_page.new.shelf) c.in_err-page-in-None.ensures.grown).tiles)

pub returns-in_err-page-in-None-clause-no_room : goal.returns-in_err-page-in-None-clause-no_room
returns-in_err-page-in-None-clause-no_room g c = λ is.
    let p = err_from_is_err_and c.from_residual.result c.from_residual.ensures.1 in
    let failed = handed_on c.add_page.result c.from_residual.result p.0 c.in_err-page-in-None.field-0.0 NoRoom p.1 p.2 c.in_err-page-in-None.was is in
    let small = c.in-None.ensures.none in (
      c.add_page.ensures.no_room failed,
      c.in_err-page-in-None.ensures.grown,
      (λ pages told. none_fits c.args.self.now.spaces.pages.items (layout_of c.args.self.now.shapes pages) c.cell_size-len.result _ (c.cell_size-len.ensures ∙ ap cell_length c.shape_for.ensures) (c.requires.stands.told pages told).spaces_are small),
    )

pub returns-in_err-page-in-None-clause-leaves : goal.returns-in_err-page-in-None-clause-leaves
returns-in_err-page-in-None-clause-leaves g c =
    let p = err_from_is_err_and c.from_residual.result c.from_residual.ensures.1 in
    let old = g.H.Shelf.seen c.args.shelf.now in
    let new = g.H.Shelf.seen c.add_page.new.shelf in
    let same = c.in_err-page-in-None.ensures.grown in
    record {
      changes = grows_only 0 c.args.self.now.set old new (keeps_as c.add_page.ensures.keeps (handed_to c.add_page.result c.from_residual.result p.0 c.in_err-page-in-None.field-0.0 Failed p.1 p.2 c.in_err-page-in-None.was)
          (handed_on c.add_page.result c.from_residual.result p.0 c.in_err-page-in-None.field-0.0 Failed p.1 p.2 c.in_err-page-in-None.was)) (changed_grown (same_changed c.args.self.now.set same));
      heads = heads_same c.args.self.now.set old new same;
      at_most = omega (arith, none_added c.args.self.now.set old new (same_changed c.args.self.now.set same));
      few = omega (arith, c.add_page.ensures.fetches);
    }

pub returns-in_ok-page-in-None-clause-placed : goal.returns-in_ok-page-in-None-clause-placed
returns-in_ok-page-in-None-clause-placed g c =
    let e = c.in_ok-page-in-None.ensures in
    let old = g.H.Shelf.seen c.args.shelf.now in
    let mid = g.H.Shelf.seen c.add_page.new.shelf in
    let new = g.H.Shelf.seen c.place_in-in-None.new.shelf in
    let small = c.in-None.ensures.none in
    let grown = grown_changed 1 c.args.self.now.set c.add_page.new.self.set old mid new e.stays.set e.grown.blocks c.place_in-in-None.ensures.leaves.changed in
    match_of c.place_in-in-None.result c.place_in-in-None.ensures.places_in c.place_in-in-None.ensures.unchanged
    (λ at put. placed_behind c.args.self.now c.add_page.new.self old mid new c.args.cell.now at c.in_ok-page-in-None.page c.cell_size-len.result _ (c.cell_size-len.ensures ∙ ap cell_length c.shape_for.ensures)
    (sym (added_is 1 c.args.self.now.set old new grown)) e.stays.set e.stays.shapes c.requires.stands small e.number e.grown.tiles put)
    (λ same f. (grew_as 1 c.args.self.now old new (grew_same 1 c.args.self.now old mid new e.grown same)).tiles)

pub returns-in_ok-page-in-None-clause-no_room : goal.returns-in_ok-page-in-None-clause-no_room
returns-in_ok-page-in-None-clause-no_room g c = λ is. absurd (c.place_in-in-None.ensures.room is)

pub returns-in_ok-page-in-None-clause-stays : goal.returns-in_ok-page-in-None-clause-stays
returns-in_ok-page-in-None-clause-stays g c =
    stays_then c.args.self.now c.add_page.new.self c.place_in-in-None.new.self (g.H.Shelf.seen c.add_page.new.shelf) (g.H.Shelf.seen c.place_in-in-None.new.shelf) c.in_ok-page-in-None.ensures.stays c.place_in-in-None.ensures.stays

pub returns-in_ok-page-in-None-clause-leaves : goal.returns-in_ok-page-in-None-clause-leaves
returns-in_ok-page-in-None-clause-leaves g c =
    let e = c.in_ok-page-in-None.ensures in
    let old = g.H.Shelf.seen c.args.shelf.now in
    let mid = g.H.Shelf.seen c.add_page.new.shelf in
    let new = g.H.Shelf.seen c.place_in-in-None.new.shelf in
    let grown = grown_changed 1 c.args.self.now.set c.add_page.new.self.set old mid new e.stays.set e.grown.blocks c.place_in-in-None.ensures.leaves.changed in
    record {
      changes = grows_only 1 c.args.self.now.set old new
          (keeps_then c.add_page.ensures.keeps c.place_in-in-None.ensures.leaves.keeps (g.met.H.Shelf.steady_then c.args.shelf.now c.add_page.new.shelf c.place_in-in-None.new.shelf)) grown;
      heads = heads_match c.args.self.now old new _ _ c.place_in-in-None.result (returns-in_ok-page-in-None-clause-placed g c);
      at_most = omega (arith, added_is 1 c.args.self.now.set old new grown);
      few = omega (arith, c.add_page.ensures.fetches, c.place_in-in-None.ensures.few);
    }
