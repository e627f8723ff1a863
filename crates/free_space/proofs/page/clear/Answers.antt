use Rattle.std.proofs.Common.{◌≡◌, ℕ, ◌-◌, ◌≤◌, List, [], ◌∷◌, ◌++◌, length, ap, ◌∙◌, arith}
use Rattle.segment_blocks.specs.declared.tile.Tile.{Tile}
use Rattle.segment_blocks.specs.declared.tile.Tile.TheVariants.{Hole}
use Rattle.segment_blocks.specs.Tiling.{spelling}
use Rattle.segment_blocks.specs.Space.{space_of}
use Rattle.free_space.proofs.Filling.{head_kept}
use Rattle.free_space.proofs.Clearings.{parts_of, fewer, run_sizes, cleared_tiles, emptied}
use Rattle.free_space.proofs.page.clear.Goals as goal

pub start_of-at-requires : goal.start_of-at-requires
start_of-at-requires c = (fewer c.args.tiles.now c.requires.place.0 c.requires.place.1 c.without_last_hole-front.result.now c.without_first_hole-back.result.now
    (parts_of c.args.tiles.now c.args.place c.requires.place.0 c.requires.place.1 c.without_last_hole-front.result.now c.without_first_hole-back.result.now c.requires.place.2 c.without_last_hole-front.ensures c.without_first_hole-back.ensures)).0

pub overflow_sub-len : goal.overflow_sub-len
overflow_sub-len c =
    let long : length c.args.block.now ≡ 4096 = omega arith in
    let s = run_sizes c.requires.tiled.0 c.args.block.now c.args.tiles.now c.args.place c.requires.place.0 c.requires.place.1 c.without_last_hole-front.result.now c.without_first_hole-back.result.now c.start_of-at.result c.start_of.result c.requires.place.2 c.without_last_hole-front.ensures c.without_first_hole-back.ensures
    c.requires.tiled.1 long (c.start_of-at.ensures c.requires.tiled.0 c.args.block.now c.requires.tiled.1 long) (c.start_of.ensures c.requires.tiled.0 c.args.block.now c.requires.tiled.1 long) in
    s.1.forward

pub write_hole-requires : goal.write_hole-requires
write_hole-requires c =
    let long : length c.args.block.now ≡ 4096 = omega arith in
    let s = run_sizes c.requires.tiled.0 c.args.block.now c.args.tiles.now c.args.place c.requires.place.0 c.requires.place.1 c.without_last_hole-front.result.now c.without_first_hole-back.result.now c.start_of-at.result c.start_of.result c.requires.place.2 c.without_last_hole-front.ensures c.without_first_hole-back.ensures
    c.requires.tiled.1 long (c.start_of-at.ensures c.requires.tiled.0 c.args.block.now c.requires.tiled.1 long) (c.start_of.ensures c.requires.tiled.0 c.args.block.now c.requires.tiled.1 long) in
    record { body = omega (arith, s.1.begins); room = omega (arith, s.1.forward, s.1.room); least = s.1.least; whole = s.1.whole }

pub returns-clause-cleared : goal.returns-clause-cleared
returns-clause-cleared c = λ shapes offset cell t is.
    let long : length c.args.block.now ≡ 4096 = omega arith in
    let len : ℕ = c.start_of.result - c.start_of-at.result in
    let new : List Tile = c.without_last_hole-front.result.now ++ Hole c.start_of-at.result len ∷ c.without_first_hole-back.result.now in
    let done = cleared_tiles shapes c.args.block.now c.write_hole.new.block c.args.tiles.now c.args.place offset cell c.without_last_hole-front.result.now c.without_first_hole-back.result.now c.start_of-at.result c.start_of.result is
    c.without_last_hole-front.ensures c.without_first_hole-back.ensures t long (c.start_of-at.ensures shapes c.args.block.now t long) (c.start_of.ensures shapes c.args.block.now t long)
    (c.others_stand_around.ensures.opened shapes c.args.block.now) (c.write_hole.ensures.tiled shapes c.without_last_hole-front.result.now c.without_first_hole-back.result.now) in
    let front = c.with_all-before.ensures [] c.none.ensures in
    let hole = c.with_hole.ensures c.without_last_hole-front.result.now c.start_of-at.result front in
    let all = c.with_all.ensures (c.without_last_hole-front.result.now ++ Hole c.start_of-at.result len ∷ []) hole in
    (new, done.0, done.1, all ∙ ap space_of (emptied c.without_last_hole-front.result.now (Hole c.start_of-at.result len) c.without_first_hole-back.result.now))

pub returns-clause-head : goal.returns-clause-head
returns-clause-head c =
    let long : length c.args.block.now ≡ 4096 = omega arith in
    let s = run_sizes c.requires.tiled.0 c.args.block.now c.args.tiles.now c.args.place c.requires.place.0 c.requires.place.1 c.without_last_hole-front.result.now c.without_first_hole-back.result.now c.start_of-at.result c.start_of.result c.requires.place.2 c.without_last_hole-front.ensures c.without_first_hole-back.ensures
    c.requires.tiled.1 long (c.start_of-at.ensures c.requires.tiled.0 c.args.block.now c.requires.tiled.1 long) (c.start_of.ensures c.requires.tiled.0 c.args.block.now c.requires.tiled.1 long) in
    let body : 16 ≤ c.start_of-at.result = omega (arith, s.1.begins) in
    let room : c.start_of-at.result ≤ length c.args.block.now = omega (arith, s.1.forward, s.1.room, long) in
    head_kept c.args.block.now c.write_hole.new.block c.start_of-at.result (spelling (Hole c.start_of-at.result (c.start_of.result - c.start_of-at.result))) body room c.write_hole.ensures.written
