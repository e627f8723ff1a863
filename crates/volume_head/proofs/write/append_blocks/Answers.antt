use Rattle.volume_head.proofs.Padding.{padded_on_ok}
use Rattle.volume_head.proofs.write.append_blocks.Goals as goal

pub returns : goal.returns
returns c = padded_on_ok c.append-2.result c.args.bytes.now c.args.text.now c.append.new.self c.append-2.new.self c.in_ok-append.ensures.ok c.append-2.ensures.ok
