use Rattle.std.proofs.Common.{refl, arith}
use Rattle.keyed_sets.proofs.Homes.{goes_to}
use Rattle.keyed_sets.proofs.Openings.{split_from}
use Rattle.keyed_sets.proofs.index.home_of.Goals as goal

pub returns-clause-goes : goal.returns-clause-goes
returns-clause-goes c = λ table p apart index there.
    let split = split_from c.args.key.now c.args.firsts.now c.args.firsts.now c.starts_upto.result refl c.starts_upto.ensures.within c.starts_upto.ensures.upto c.starts_upto.ensures.above index.rise in
    goes_to table c.args.firsts.now c.args.key.now c.starts_upto.result c.saturating_sub.result p apart index split (omega (arith, c.saturating_sub.ensures)) there
