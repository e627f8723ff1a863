use Rattle.std.proofs.Common.{◌≡◌, ◌<◌, ◌^◌, length, arith, true, false}
use Rattle.segment_blocks.specs.Reading.{BeginsWithHole}
use Rattle.segment_blocks.proofs.Tiles.{no_tile}
use Rattle.segment_blocks.proofs.head.next_head.Goals as goal
use Rattle.segment_blocks.proofs.head.next_head.Goals.{else-not-after_hole-via-then-not-after_hole+else-begins_with_hole, else-not-after_hole-via-else-not-after_hole}

pub returns-in-None-clause-none : goal.returns-in-None-clause-none
returns-in-None-clause-none c = λ at tile.
    let short : length c.args.bytes.now < 2 ^ 16 = omega arith in
    let no_hole : c.args.after_hole ≡ false → BeginsWithHole c.args.bytes.now → ⊥ =
    elim c.else-not-after_hole.branch [
      | else-not-after_hole-via-then-not-after_hole+else-begins_with_hole w ↦ λ free h. let no : false ≡ true = w.if-begins_with_hole.ensures.1 h in cc
      | else-not-after_hole-via-else-not-after_hole w ↦ λ free h. cc
    ] in
    no_tile c.args.shapes.now at c.args.after_hole c.args.bytes.now short no_hole c.in-None.ensures.none tile
