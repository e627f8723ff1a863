use Rattle.data_set_pairs.specs.StaysLaw.{looks_then}
use Rattle.data_set_pairs.proofs.change.plan.Goals as goal

pub returns-in-Err-clause-looks : goal.returns-in-Err-clause-looks
returns-in-Err-clause-looks g c = looks_then c.look.ensures.looks c.table_under.ensures.looks (g.met.B.Blocks.steady_then c.args.blocks.now c.look.new.blocks c.table_under.new.blocks)
