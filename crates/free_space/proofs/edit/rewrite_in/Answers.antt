use Rattle.std.proofs.Common.{◌≡◌, ◌-◌, length, get_or, Some, sym, ◌∙◌, arith, refl}
use Rattle.segment_blocks.specs.declared.tile.Tile.TheVariants.{Seg}
use Rattle.segment_blocks.specs.Tiling.{shape_of, spelling}
use Rattle.segment_blocks.specs.TilesOf.{cell_among}
use Rattle.free_space.specs.Changes.{changed}
use Rattle.free_space.proofs.Filling.{head_kept}
use Rattle.free_space.proofs.Rewriting.{shape_at, is_read, rewritten_there}
use Rattle.free_space.proofs.Told.{if_some}
use Rattle.free_space.proofs.edit.rewrite_in.Goals as goal

pub returns-clause-tiled : goal.returns-clause-tiled
returns-clause-tiled c = λ tiles t some.
    let made = if_some _ c.in_ok-cell.field-0 c.in-Some.cell c.in_ok-cell.ensures.made c.in-Some.is in
    let typed = shape_at c.args.shapes.now c.in-Some.cell c.from.result (record { children = 0; bytes = 0 }) made.2 c.from.ensures in
    let found : cell_among c.args.offset tiles ≡ Some c.in-Some.cell =
    is_read (cell_among c.args.offset tiles) c.in-Some.cell some (λ x e. sym c.in-Some.is ∙ c.in_ok-cell.ensures.there tiles x t e) in
    let same : shape_of (changed c.args.change c.in-Some.cell) ≡ shape_of c.in-Some.cell = c.if-not-suits.ensures.0 refl in
    rewritten_there c.args.shapes.now c.args.block.now c.write_cell.new.block tiles c.args.offset c.in-Some.cell c.in_ok-new.new (get_or c.args.shapes.now (c.from.result - 1) (record { children = 0; bytes = 0 })) c.args.change
    t found typed.1 same c.in_ok-new.ensures c.write_cell.ensures.fits (c.others_stand_around.ensures.opened c.args.shapes.now c.args.block.now) (c.write_cell.ensures.tiled c.args.shapes.now)

pub returns-clause-head : goal.returns-clause-head
returns-clause-head c =
    let made = if_some _ c.in_ok-cell.field-0 c.in-Some.cell c.in_ok-cell.ensures.made c.in-Some.is in
    let long : length c.args.block.now ≡ 4096 = omega arith in
    head_kept c.args.block.now c.write_cell.new.block c.args.offset (spelling (Seg c.args.offset c.in_ok-new.new)) made.0 (let room = made.1 in omega (arith, long)) c.write_cell.ensures.written
