use Rattle.std.proofs.Common.{◌<◌, arith}
use Rattle.segment_blocks.specs.Reading.{addresses_in}
use Rattle.segment_blocks.proofs.Addresses.{addresses_step}
use Rattle.segment_blocks.proofs.parse.read_addresses.Goals as goal

pub loop-i-preserved : goal.loop-i-preserved
loop-i-preserved c =
    let lt : c.loop-i.i < c.args.count = omega (arith, c.from-i-end.ensures) in
    addresses_step c.args.count c.loop-i.i c.args.bytes.now c.loop-i.addresses c.push.new.self (addresses_in c.args.count c.args.bytes.now) c.get32.result lt c.get32.ensures c.in_ok-push.ensures.ok c.loop-i.invariant
