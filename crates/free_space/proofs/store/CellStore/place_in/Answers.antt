use Rattle.std.proofs.Common.{◌+◌, take, drop, ap, ◌∙◌}
use Rattle.std.proofs.lemmas.Result.{IfOk-weaker, on_err_weaker}
use Rattle.hal_base.proofs.ShelfLemmas.{same_then, reads_changes, changes_then}
use Rattle.segment_blocks.specs.Tiling.{cell_length}
use Rattle.free_space.specs.Placing.{TakesHole, PlacesIn}
use Rattle.free_space.specs.Store.{Relays}
use Rattle.free_space.proofs.PageSteps.{page_again}
use Rattle.free_space.proofs.PlaceSteps.{places_in}
use Rattle.free_space.proofs.store.CellStore.place_in.Goals as goal

pub fill_page-requires-clause-read : goal.fill_page-requires-clause-read
fill_page-requires-clause-read g c = page_again c.args.self.now.set c.args.page c.read_page.new.block (g.H.Shelf.seen c.args.shelf.now) (g.H.Shelf.seen c.read_page.new.shelf) c.read_page.ensures.leaves.same c.in_ok-tiles.ensures.page

pub returns-clause-places_in : goal.returns-clause-places_in
returns-clause-places_in g c =
    let mid = g.H.Shelf.seen c.read_page.new.shelf in
    let new = g.H.Shelf.seen c.fill_page.new.shelf in
    let gap = c.in-Some.gap in
    let found = c.as_slice-found.result.now in
    IfOk-weaker c.fill_page.result
    (λ at. Relays c.args.self.now mid new (TakesHole c.args.self.now.set c.args.cell.now at c.args.page (take gap.place found) gap.room (drop (gap.place + 1) found)))
    (λ at. Relays c.args.self.now (g.H.Shelf.seen c.args.shelf.now) new (PlacesIn c.args.self.now.set c.args.cell.now at c.args.page))
    (λ at put. places_in c.args.self.now (g.H.Shelf.seen c.args.shelf.now) mid new c.args.cell.now at c.args.page c.cell_size-len.result gap.place gap.room found (c.cell_size-len.ensures ∙ ap cell_length c.shape_for.ensures)
    c.read_page.ensures.leaves.same c.in-Some.ensures.found.first put)
    c.fill_page.ensures.takes

pub returns-clause-unchanged : goal.returns-clause-unchanged
returns-clause-unchanged g c = on_err_weaker c.fill_page.result (λ same. same_then c.read_page.ensures.leaves.same same) c.fill_page.ensures.unchanged

pub returns-clause-leaves : goal.returns-clause-leaves
returns-clause-leaves g c = changes_then (reads_changes c.args.self.now.set c.read_page.ensures.leaves) c.fill_page.ensures.leaves (g.met.H.Shelf.steady_then c.args.shelf.now c.read_page.new.shelf c.fill_page.new.shelf)
