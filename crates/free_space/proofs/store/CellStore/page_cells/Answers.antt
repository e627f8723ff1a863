use Rattle.std.proofs.Common.{List, sym, ap, ◌∙◌, arith}
use Rattle.std.specs.Prelude.{slice_get}
use Rattle.segment_blocks.specs.declared.tile.Tile.{Tile}
use Rattle.segment_blocks.specs.TilesOf.{tiles_of}
use Rattle.segment_blocks.proofs.TilesOf.{tiling_is}
use Rattle.free_space.specs.Listing.{placed_among}
use Rattle.free_space.proofs.Told.{some_is}
use Rattle.free_space.proofs.Rewriting.{cell_inside}
use Rattle.free_space.proofs.store.CellStore.page_cells.Goals as goal

pub placed_among-requires : goal.placed_among-requires
placed_among-requires g c = λ k offset cell is.
    let here = cell_inside c.args.self.now.shapes c.read_page.new.block c.in_ok-tiles.tiles k offset cell c.in_ok-tiles.ensures.tiling c.read_page.array_long (ap (λ (l : List Tile). slice_get l k) (sym c.as_slice.ensures) ∙ is) in
    omega (arith, here.0.room)

pub returns-in-Ok-clause-cells : goal.returns-in-Ok-clause-cells
returns-in-Ok-clause-cells g c = λ pages page told among.
    let same = some_is c.read_page.new.block page (sym (c.in_ok-tiles.ensures.page pages told) ∙ among) in
    c.in-Ok.ensures ∙ ap (placed_among c.args.self.now.set c.args.page) (c.as_slice.ensures ∙ tiling_is c.args.self.now.shapes c.read_page.new.block c.in_ok-tiles.tiles c.in_ok-tiles.ensures.tiling
    ∙ ap (tiles_of c.args.self.now.shapes) same)
