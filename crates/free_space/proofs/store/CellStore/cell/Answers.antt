use Rattle.std.proofs.Common.{◌≡◌, List, Some, sym, subst, ◌∙◌}
use Rattle.hal_base.specs.declared.place.Shape.{Shape}
use Rattle.segment_blocks.specs.declared.tile.Cell.{Cell}
use Rattle.segment_blocks.specs.declared.tile.Tile.{Tile}
use Rattle.segment_blocks.specs.Tiling.{IsTiling}
use Rattle.segment_blocks.specs.TilesOf.{cell_among}
use Rattle.free_space.proofs.PageSteps.{cell_on}
use Rattle.free_space.proofs.store.CellStore.cell.Goals as goal

pub returns-in-Ok-Some-clause-cell : goal.returns-in-Ok-Some-clause-cell
returns-in-Ok-Some-clause-cell g c =
    let read : (tiles : List Tile) (x : Cell) → IsTiling c.args.self.now.shapes c.fetch.new.block tiles → cell_among c.offset_of.result tiles ≡ Some x → Some c.in-Ok-Some.cell ≡ Some x =
    λ tiles x t e. sym c.in-Ok-Some.field-0-is ∙ c.in-Ok-Some.ensures.there tiles x (subst (λ (s : List Shape). IsTiling s c.fetch.new.block tiles) (sym c.as_slice.ensures) t) e in
    cell_on c.args.self.now (g.H.Shelf.seen c.args.shelf.now) c.args.at c.page_of.result c.offset_of.result c.fetch.new.block c.in-Ok-Some.cell _ c.requires.cell c.page_of.ensures c.offset_of.ensures c.requires.stands c.in_ok-fetch.ensures.page read
