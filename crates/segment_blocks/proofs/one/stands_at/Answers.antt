use Rattle.std.proofs.Common.{◌≡◌, ◌+◌, ◌<◌, ℕ, length, sym, subst, arith}
use Rattle.segment_blocks.proofs.Stepping.{WalksTo, steps, none_past, tells_by, tells_none}
use Rattle.segment_blocks.proofs.one.stands_at.Goals as goal

pub returns-then-at-gt4080 : goal.returns-then-at-gt4080
returns-then-at-gt4080 c = λ shapes tiles t.
    let long : length c.args.block.now ≡ 4096 = omega arith in
    none_past shapes c.args.block.now tiles c.args.at long t c.if-at-gt4080.true

pub returns-then-len-lt4 : goal.returns-then-len-lt4
returns-then-len-lt4 c = λ shapes tiles t.
    let long : length c.args.block.now ≡ 4096 = omega arith in
    let below : c.loop-start.start < c.args.at = omega (arith, c.loop-start-test.true, c.from-end.ensures) in
    let next = steps shapes c.args.block.now tiles c.args.at c.loop-start.start c.get16-len.result long below c.if-at-gt4080.false c.get16-len.ensures (c.loop-start.invariant shapes tiles t) in
    absurd (omega (arith, next.0, c.if-len-lt4.true))

pub loop-start-preserved : goal.loop-start-preserved
loop-start-preserved c = λ shapes tiles t.
    let long : length c.args.block.now ≡ 4096 = omega arith in
    let below : c.loop-start.start < c.args.at = omega (arith, c.loop-start-test.true, c.from-end.ensures) in
    let next = steps shapes c.args.block.now tiles c.args.at c.loop-start.start c.get16-len.result long below c.if-at-gt4080.false c.get16-len.ensures (c.loop-start.invariant shapes tiles t) in
    subst (λ (n : ℕ). WalksTo shapes c.args.block.now tiles c.args.at (c.loop-start.start + n)) (sym c.from-start.ensures) next.1

pub returns-then-start-end : goal.returns-then-start-end
returns-then-start-end c = λ shapes tiles t.
    let long : length c.args.block.now ≡ 4096 = omega arith in
    tells_by shapes c.args.block.now tiles c.args.at c.loop-start.start c.from-end.result long c.if-at-gt4080.false c.if-start-end.true c.from-end.ensures (c.loop-start.invariant shapes tiles t)

pub returns-else-start-end : goal.returns-else-start-end
returns-else-start-end c = λ shapes tiles t.
    tells_none shapes c.args.block.now tiles c.args.at c.loop-start.start c.from-end.result c.loop-start-test.false c.if-start-end.false c.from-end.ensures (c.loop-start.invariant shapes tiles t)
