use Rattle.std.proofs.Common.{◌≡◌, ℕ, ◌<◌, List, length, All, sym, ap, subst, ◌∙◌, refl, arith}
use Rattle.std.specs.Prelude.{slice_get, Some}
use Rattle.std.proofs.lemmas.Result.{err_from_is_err_and}
use Rattle.hal_base.specs.declared.outcome.PageFault.TheVariants.{NoRoom, Failed}
use Rattle.hal_base.proofs.ShelfLemmas.{changed_grown, keeps_then, keeps_as}
use Rattle.segment_blocks.specs.Tiling.{cell_length}
use Rattle.segment_blocks.specs.declared.space.Space.{Space}
use Rattle.free_space.specs.Placing.{opened_pages, Appends, IsLastOpen, HasRoom}
use Rattle.free_space.specs.Store.{Relays}
use Rattle.free_space.proofs.Told.{handed_on, handed_to, if_some, added_is, stays_then, relays_heads, heads_match}
use Rattle.free_space.proofs.PlaceSteps.{NoRoomIn, no_place, appended_here, appended_behind, match_of, match_err, on_ok_any, none_added, grows_only, grew_none, grew_same, grew_as, grown_changed}
use Rattle.free_space.proofs.store.CellStore.append.Goals as goal

pub returns-in-Some-clause-appended : goal.returns-in-Some-clause-appended
returns-in-Some-clause-appended g c =
    let old = g.H.Shelf.seen c.args.shelf.now in
    let new = g.H.Shelf.seen c.append_in.new.shelf in
    let found = subst (λ (l : List Space). IsLastOpen c.args.fbff l c.in-Some.page × ((space : Space) → slice_get l c.in-Some.page ≡ Some space → HasRoom c.args.fspf c.cell_size-len.result space)) c.deref.ensures.value c.in-Some.ensures.found in
    match_of c.append_in.result c.append_in.ensures.appends_in c.append_in.ensures.unchanged
    (λ at put. appended_here c.args.self.now old new c.args.cell.now at c.in-Some.page c.cell_size-len.result c.args.fbff c.args.fspf _ (c.cell_size-len.ensures ∙ ap cell_length c.shape_for.ensures)
    (sym (none_added c.args.self.now.set old new c.append_in.ensures.leaves.changed)) c.requires.stands found.0 found.1 put)
    (λ same e. (grew_none c.args.self.now old new same).tiles)

pub returns-in-Some-clause-no_room : goal.returns-in-Some-clause-no_room
returns-in-Some-clause-no_room g c = λ is. absurd (c.append_in.ensures.room is)

pub returns-in-Some-clause-opened : goal.returns-in-Some-clause-opened
returns-in-Some-clause-opened g c = on_ok_any c.append_in.result
    (λ some. absurd (omega (arith, some, none_added c.args.self.now.set (g.H.Shelf.seen c.args.shelf.now) (g.H.Shelf.seen c.append_in.new.shelf) c.append_in.ensures.leaves.changed)))

pub returns-in-Some-clause-leaves : goal.returns-in-Some-clause-leaves
returns-in-Some-clause-leaves g c =
    let old = g.H.Shelf.seen c.args.shelf.now in
    let new = g.H.Shelf.seen c.append_in.new.shelf in
    record {
      changes = grows_only 0 c.args.self.now.set old new c.append_in.ensures.leaves.keeps (changed_grown c.append_in.ensures.leaves.changed);
      heads = heads_match c.args.self.now old new _ _ c.append_in.result (returns-in-Some-clause-appended g c);
      at_most = omega (arith, none_added c.args.self.now.set old new c.append_in.ensures.leaves.changed);
      few = c.append_in.ensures.few;
    }

pub returns-in_err-page-in-None-clause-appended : goal.returns-in_err-page-in-None-clause-appended
returns-in_err-page-in-None-clause-appended g c =
    let p = err_from_is_err_and c.from_residual.result c.from_residual.ensures.1 in
    match_err _ _ c.from_residual.result p.0 p.1 (λ e. c.in_err-page-in-None.ensures.grown.tiles)

pub returns-in_err-page-in-None-clause-no_room : goal.returns-in_err-page-in-None-clause-no_room
returns-in_err-page-in-None-clause-no_room g c = λ is.
    let p = err_from_is_err_and c.from_residual.result c.from_residual.ensures.1 in
    let failed = handed_on c.open_page.result c.from_residual.result p.0 c.in_err-page-in-None.field-0.0 NoRoom p.1 p.2 c.in_err-page-in-None.was is in
    let none = subst (λ (l : List Space). NoRoomIn l c.args.fbff c.args.fspf c.cell_size-len.result) c.deref.ensures.value c.in-None.ensures.none in (
      subst (λ (m : ℕ). length (g.H.Shelf.seen c.args.shelf.now).free < opened_pages c.args.fbff m) c.requires.stands.many (c.open_page.ensures.no_room failed),
      (λ pages told. no_place c.args.self.now.shapes c.args.self.now.spaces.pages.items pages c.args.fbff c.args.fspf c.cell_size-len.result _ (c.cell_size-len.ensures ∙ ap cell_length c.shape_for.ensures)
          (if_some (λ all. (length all ≡ length ((g.H.Shelf.seen c.args.shelf.now).places c.args.self.now.set)) × All (λ page. length page ≡ 4096) all) ((g.H.Shelf.seen c.args.shelf.now).pages c.args.self.now.set) pages
          (g.met.H.Shelf.pages_are c.args.shelf.now c.args.self.now.set) told).1 (c.requires.stands.told pages told) none),
    )

pub returns-in_err-page-in-None-clause-leaves : goal.returns-in_err-page-in-None-clause-leaves
returns-in_err-page-in-None-clause-leaves g c =
    let p = err_from_is_err_and c.from_residual.result c.from_residual.ensures.1 in
    let old = g.H.Shelf.seen c.args.shelf.now in
    let new = g.H.Shelf.seen c.open_page.new.shelf in
    let grew = c.in_err-page-in-None.ensures.grown in
    record {
      changes = record {
        keeps = keeps_as c.open_page.ensures.keeps (handed_to c.open_page.result c.from_residual.result p.0 c.in_err-page-in-None.field-0.0 Failed p.1 p.2 c.in_err-page-in-None.was)
            (handed_on c.open_page.result c.from_residual.result p.0 c.in_err-page-in-None.field-0.0 Failed p.1 p.2 c.in_err-page-in-None.was);
        grown = grew.blocks;
      };
      heads = relays_heads c.args.self.now old new _ grew.tiles;
      at_most = omega (arith, c.open_page.ensures.few, ap (opened_pages c.args.fbff) c.requires.stands.many);
      few = omega (arith, c.open_page.ensures.fetches);
    }

pub returns-in_ok-page-in-None-clause-appended : goal.returns-in_ok-page-in-None-clause-appended
returns-in_ok-page-in-None-clause-appended g c =
    let e = c.in_ok-page-in-None.ensures in
    let old = g.H.Shelf.seen c.args.shelf.now in
    let mid = g.H.Shelf.seen c.open_page.new.shelf in
    let new = g.H.Shelf.seen c.append_in-in-None.new.shelf in
    let count = opened_pages c.args.fbff (length c.args.self.now.spaces.pages.items) in
    let none = subst (λ (l : List Space). NoRoomIn l c.args.fbff c.args.fspf c.cell_size-len.result) c.deref.ensures.value c.in-None.ensures.none in
    let grown = grown_changed count c.args.self.now.set c.open_page.new.self.set old mid new e.stays.set e.grown.blocks c.append_in-in-None.ensures.leaves.changed in
    let are = added_is count c.args.self.now.set old new grown in
    match_of c.append_in-in-None.result c.append_in-in-None.ensures.appends_in c.append_in-in-None.ensures.unchanged
    (λ at put. subst (λ (k : ℕ). Relays c.args.self.now old new (Appends c.args.self.now.set c.args.cell.now c.args.fbff c.args.fspf k at)) are
    (appended_behind c.args.self.now c.open_page.new.self old mid new c.args.cell.now at c.in_ok-page-in-None.page c.cell_size-len.result c.args.fbff c.args.fspf count (c.cell_size-len.ensures ∙ ap cell_length c.shape_for.ensures)
    c.requires.step e.stays.set e.stays.shapes c.requires.stands e.stays.stands
    (λ pages told. (if_some (λ all. (length all ≡ length (old.places c.args.self.now.set)) × All (λ page. length page ≡ 4096) all) (old.pages c.args.self.now.set) pages (g.met.H.Shelf.pages_are c.args.shelf.now c.args.self.now.set) told).1)
    none refl e.number e.grown.tiles put))
    (λ same f. (grew_as count c.args.self.now old new (grew_same count c.args.self.now old mid new e.grown same)).tiles)

pub returns-in_ok-page-in-None-clause-no_room : goal.returns-in_ok-page-in-None-clause-no_room
returns-in_ok-page-in-None-clause-no_room g c = λ is. absurd (c.append_in-in-None.ensures.room is)

pub returns-in_ok-page-in-None-clause-opened : goal.returns-in_ok-page-in-None-clause-opened
returns-in_ok-page-in-None-clause-opened g c =
    let e = c.in_ok-page-in-None.ensures in
    let count = opened_pages c.args.fbff (length c.args.self.now.spaces.pages.items) in
    on_ok_any c.append_in-in-None.result (λ some. sym (added_is count c.args.self.now.set (g.H.Shelf.seen c.args.shelf.now) (g.H.Shelf.seen c.append_in-in-None.new.shelf)
    (grown_changed count c.args.self.now.set c.open_page.new.self.set (g.H.Shelf.seen c.args.shelf.now) (g.H.Shelf.seen c.open_page.new.shelf) (g.H.Shelf.seen c.append_in-in-None.new.shelf) e.stays.set e.grown.blocks c.append_in-in-None.ensures.leaves.changed))
    ∙ ap (opened_pages c.args.fbff) c.requires.stands.many)

pub returns-in_ok-page-in-None-clause-stays : goal.returns-in_ok-page-in-None-clause-stays
returns-in_ok-page-in-None-clause-stays g c =
    stays_then c.args.self.now c.open_page.new.self c.append_in-in-None.new.self (g.H.Shelf.seen c.open_page.new.shelf) (g.H.Shelf.seen c.append_in-in-None.new.shelf) c.in_ok-page-in-None.ensures.stays c.append_in-in-None.ensures.stays

pub returns-in_ok-page-in-None-clause-leaves : goal.returns-in_ok-page-in-None-clause-leaves
returns-in_ok-page-in-None-clause-leaves g c =
    let e = c.in_ok-page-in-None.ensures in
    let count = opened_pages c.args.fbff (length c.args.self.now.spaces.pages.items) in
    let old = g.H.Shelf.seen c.args.shelf.now in
    let mid = g.H.Shelf.seen c.open_page.new.shelf in
    let new = g.H.Shelf.seen c.append_in-in-None.new.shelf in
    let grown = grown_changed count c.args.self.now.set c.open_page.new.self.set old mid new e.stays.set e.grown.blocks c.append_in-in-None.ensures.leaves.changed in
    record {
      changes = grows_only count c.args.self.now.set old new
          (keeps_then c.open_page.ensures.keeps c.append_in-in-None.ensures.leaves.keeps (g.met.H.Shelf.steady_then c.args.shelf.now c.open_page.new.shelf c.append_in-in-None.new.shelf)) grown;
      heads = heads_match c.args.self.now old new _ _ c.append_in-in-None.result (returns-in_ok-page-in-None-clause-appended g c);
      at_most = omega (arith, ap (opened_pages c.args.fbff) c.requires.stands.many, added_is count c.args.self.now.set old new grown);
      few = omega (arith, c.open_page.ensures.fetches, c.append_in-in-None.ensures.few);
    }
