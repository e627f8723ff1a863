use Rattle.std.proofs.Common.{◌<◌, ◌^◌, arith}
use Rattle.std.proofs.lemmas.List.Elements.{All-from_get_or, recursion_from_All}
use Rattle.segment_blocks.proofs.Writing.{writes_more}
use Rattle.segment_blocks.proofs.write.put_addresses.Goals as goal

pub loop-i-preserved : goal.loop-i-preserved
loop-i-preserved c =
    writes_more c.args.block.now c.loop-i.block c.put32.new.bytes c.args.at c.loop-i.i c.args.addresses.now c.requires c.loop-i-test.true c.loop-i.invariant c.put32.ensures

pub returns-clause-fits : goal.returns-clause-fits
returns-clause-fits c =
    recursion_from_All (λ address. address < 2 ^ 32) c.args.addresses.now
    (All-from_get_or (λ address. address < 2 ^ 32) c.args.addresses.now 0 (λ i lt. omega (arith, c.type_inv.addresses i)))
