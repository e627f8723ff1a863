use Rattle.std.proofs.Common.{◌+◌, ◌-◌, [], ◌∷◌, ◌++◌, take, ap, ◌∙◌}
use Rattle.segment_blocks.specs.declared.tile.Tile.TheVariants.{Seg}
use Rattle.segment_blocks.specs.Space.{space_of}
use Rattle.segment_blocks.specs.Space.{left_over}
use Rattle.free_space.proofs.Filling.{regroup}
use Rattle.free_space.proofs.page.filled.Goals as goal

pub returns : goal.returns
returns c = λ cell.
    let front = c.with_all-before.ensures [] c.none.ensures in
    let more = c.with_cell.ensures (take c.args.gap.place c.args.tiles.now) c.args.gap.at cell front in
    let rest = c.with_rest-filled.ensures (take c.args.gap.place c.args.tiles.now ++ Seg c.args.gap.at cell ∷ []) (c.args.gap.at + c.args.len) more in
    c.with_all.ensures ((take c.args.gap.place c.args.tiles.now ++ Seg c.args.gap.at cell ∷ []) ++ left_over (c.args.gap.at + c.args.len) (c.args.gap.room - c.args.len)) rest
    ∙ ap space_of (regroup (take c.args.gap.place c.args.tiles.now) (Seg c.args.gap.at cell) (left_over (c.args.gap.at + c.args.len) (c.args.gap.room - c.args.len)) c.args.tiles.now (c.args.gap.place + 1))
