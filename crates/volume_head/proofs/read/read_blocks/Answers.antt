use Rattle.std.proofs.Common.{◌≡◌, ◌∙◌, length, ap, arith, rules, length-append}
use Rattle.volume_head.proofs.Calls.{reads_then}
use Rattle.volume_head.proofs.Fronts.{blocks_more, blocks_missing}
use Rattle.volume_head.proofs.read.read_blocks.Goals as goal

pub returns-then-not-branch-clause-told : goal.returns-then-not-branch-clause-told
returns-then-not-branch-clause-told g c = λ y told.
    blocks_missing c.args.at c.from.result c.loop-number.number c.args.count c.read_block.new.block y c.in_ok-read_block.field-0 (c.in_ok-read_block.ensures.told y (c.loop-number.invariant.leaves.image_stays ∙ told)) c.if-not-branch.true c.from.ensures c.loop-number-test.true

pub loop-number-preserved : goal.loop-number-preserved
loop-number-preserved g c =
    let long : length c.read_block.new.block ≡ 4096 = search (rules, c.read_block.array_long) in
    let joined = c.in_ok-append.ensures.ok in
    record {
      told = λ y told.
          blocks_more c.args.at c.from.result c.loop-number.number c.read_block.new.block y c.loop-number.bytes c.append.new.self c.in_ok-read_block.field-0 (c.in_ok-read_block.ensures.told y (c.loop-number.invariant.leaves.image_stays ∙ told)) c.if-not-branch.false c.from.ensures (c.loop-number.invariant.told y told) joined;
      long = ap length joined ∙ length-append c.loop-number.bytes c.read_block.new.block ∙ omega (arith, long, c.loop-number.invariant.long);
      leaves = reads_then c.loop-number.invariant.leaves c.read_block.ensures.leaves;
    }
