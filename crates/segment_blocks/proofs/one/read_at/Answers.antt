use Rattle.std.proofs.Common.{◌≡◌, ◌≤◌, length, Some, ap, arith}
use Rattle.segment_blocks.specs.declared.tile.Cell.{Cell}
use Rattle.segment_blocks.proofs.Progress.{rest_of}
use Rattle.segment_blocks.proofs.Stepping.{is_there, none_there, one_there, made_there}
use Rattle.segment_blocks.proofs.one.read_at.Goals as goal
use Rattle.segment_blocks.proofs.one.read_at.Goals.{then-at-lt16-via-then-at-lt16, then-at-lt16-via-else-at-lt16+then-at-gt4080}

pub returns-then-at-lt16-clause-there : goal.returns-then-at-lt16-clause-there
returns-then-at-lt16-clause-there c = λ tiles cell t is.
    let long : length c.args.block.now ≡ 4096 = omega arith in
    let there = is_there c.args.shapes.now c.args.block.now tiles c.args.at cell long t is in
    elim c.then-at-lt16.branch [
      | then-at-lt16-via-then-at-lt16 w ↦ absurd (omega (arith, there.low, w.if-at-lt16.true))
      | then-at-lt16-via-else-at-lt16+then-at-gt4080 w ↦ absurd (omega (arith, there.high, w.if-at-gt4080.true))
    ]

pub returns-in-None-clause-there : goal.returns-in-None-clause-there
returns-in-None-clause-there c = λ tiles cell t is.
    let long : length c.args.block.now ≡ 4096 = omega arith in
    absurd (none_there c.args.shapes.now c.args.block.now _ tiles c.args.at c.from.result cell long c.from.ensures (rest_of c.args.block.now c.from.result long) t is c.in-None.ensures.none)

pub returns-in_ok-cell-in-Some-clause-there : goal.returns-in_ok-cell-in-Some-clause-there
returns-in_ok-cell-in-Some-clause-there c = λ tiles cell t is.
    let long : length c.args.block.now ≡ 4096 = omega arith in
    ap (λ (x : Cell). Some x) (one_there c.args.shapes.now c.args.block.now _ tiles c.args.at c.from.result c.in-Some.shape cell c.in_ok-cell-in-Some.cell long c.from.ensures
    (rest_of c.args.block.now c.from.result long) t is c.in-Some.ensures.found c.in_ok-cell-in-Some.ensures)

pub returns-in_ok-cell-in-Some-clause-made : goal.returns-in_ok-cell-in-Some-clause-made
returns-in_ok-cell-in-Some-clause-made c =
    let long : length c.args.block.now ≡ 4096 = omega arith in
    let low : 16 ≤ c.args.at = omega (arith, c.if-at-lt16.false) in
    let made = made_there c.args.shapes.now c.args.block.now _ c.args.at c.from.result c.in-Some.shape c.in_ok-cell-in-Some.cell long c.begun_shape.ensures.bytes c.from.ensures (omega (arith, c.if-at-gt4080.false))
    (rest_of c.args.block.now c.from.result long) c.in-Some.ensures.found c.in_ok-cell-in-Some.ensures in
    (low, made.0, made.1)
