use Rattle.std.proofs.Common.{◌≡◌, ◌+◌, ◌-◌, ◌≤◌, ℕ, [], ◌∷◌, ◌++◌, sym, ap, subst, ◌∙◌, arith}
use Rattle.segment_blocks.specs.declared.tile.Tile.TheVariants.{Hole, Seg}
use Rattle.segment_blocks.specs.Tiling.{cell_length, shape_of, spelling, IsCell, IsTiling, StandAround}
use Rattle.segment_blocks.specs.Space.{left_over}
use Rattle.free_space.proofs.Filling.{head_kept, shape_is, is_cell, around_hole, fill_whole, fill_part}
use Rattle.free_space.proofs.page.fill.Goals as goal

pub returns-then-len-gap-clause-tiled : goal.returns-then-len-gap-clause-tiled
returns-then-len-gap-clause-tiled c = λ shapes before after t coded typed.
    let same : c.args.shape ≡ shape_of c.args.cell.now = shape_is c.args.shape c.args.cell.now c.requires.children c.requires.content in
    let size : c.cell_size-len.result ≡ cell_length c.args.shape = c.cell_size-len.ensures in
    let is : IsCell shapes c.args.cell.now = is_cell shapes c.args.shape c.args.cell.now coded typed same c.write_cell.ensures.fits in
    let around : StandAround c.args.block.now c.args.gap.at (c.args.gap.at + c.args.gap.room) before after =
    around_hole shapes c.args.block.now before after c.args.gap.at c.args.gap.room t (c.others_stand_around.ensures.opened shapes c.args.block.now before (Hole c.args.gap.at c.args.gap.room ∷ []) after t) in
    let joined : StandAround c.write_cell.new.block (c.args.gap.at + c.cell_size-len.result) (c.args.gap.at + c.args.gap.room) (before ++ Seg c.args.gap.at c.args.cell.now ∷ []) after =
    subst (λ (n : ℕ). StandAround c.write_cell.new.block (c.args.gap.at + n) (c.args.gap.at + c.args.gap.room) (before ++ Seg c.args.gap.at c.args.cell.now ∷ []) after) (sym size)
    (c.write_cell.ensures.joins (c.args.gap.at + c.args.gap.room) before after (omega (arith, c.requires.fits)) around) in
    subst (λ (n : ℕ). IsTiling shapes c.write_hole.new.block (before ++ (Seg c.args.gap.at c.args.cell.now ∷ left_over (c.args.gap.at + n) (c.args.gap.room - n) ++ after))) size
    (fill_part shapes c.args.block.now c.write_cell.new.block c.write_hole.new.block before after c.args.gap.at c.args.gap.room c.cell_size-len.result c.args.cell.now is (size ∙ ap cell_length same) c.if-len-gap.true t joined
    (c.write_hole.ensures.tiled shapes (before ++ Seg c.args.gap.at c.args.cell.now ∷ []) after))

pub returns-then-len-gap-clause-head : goal.returns-then-len-gap-clause-head
returns-then-len-gap-clause-head c =
    head_kept c.write_cell.new.block c.write_hole.new.block (c.args.gap.at + c.cell_size-len.result) (spelling (Hole (c.args.gap.at + c.cell_size-len.result) (c.args.gap.room - c.cell_size-len.result)))
    (omega (arith, c.requires.body)) (let room : c.args.gap.at + c.args.gap.room ≤ 4096 = c.requires.inside in let part = c.if-len-gap.true in omega (arith, c.write_cell.array_long)) c.write_hole.ensures.written
    ∙ head_kept c.args.block.now c.write_cell.new.block c.args.gap.at (spelling (Seg c.args.gap.at c.args.cell.now)) c.requires.body (omega (arith, c.requires.inside)) c.write_cell.ensures.written

pub returns-else-len-gap-clause-tiled : goal.returns-else-len-gap-clause-tiled
returns-else-len-gap-clause-tiled c = λ shapes before after t coded typed.
    let same : c.args.shape ≡ shape_of c.args.cell.now = shape_is c.args.shape c.args.cell.now c.requires.children c.requires.content in
    let is : IsCell shapes c.args.cell.now = is_cell shapes c.args.shape c.args.cell.now coded typed same c.write_cell.ensures.fits in
    let around : StandAround c.args.block.now c.args.gap.at (c.args.gap.at + c.args.gap.room) before after =
    around_hole shapes c.args.block.now before after c.args.gap.at c.args.gap.room t (c.others_stand_around.ensures.opened shapes c.args.block.now before (Hole c.args.gap.at c.args.gap.room ∷ []) after t) in
    let tight : c.args.gap.room ≤ cell_length c.args.shape = subst (λ (n : ℕ). c.args.gap.room ≤ n) c.cell_size-len.ensures c.if-len-gap.false in
    fill_whole shapes c.args.block.now c.write_cell.new.block before after c.args.gap.at c.args.gap.room (cell_length c.args.shape) c.args.cell.now is (ap cell_length same) c.requires.fits tight t around
    (c.write_cell.ensures.tiled shapes before after)

pub returns-else-len-gap-clause-head : goal.returns-else-len-gap-clause-head
returns-else-len-gap-clause-head c =
    head_kept c.args.block.now c.write_cell.new.block c.args.gap.at (spelling (Seg c.args.gap.at c.args.cell.now)) c.requires.body (omega (arith, c.requires.inside)) c.write_cell.ensures.written
