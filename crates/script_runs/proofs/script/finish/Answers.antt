use Rattle.script_runs.proofs.Endings.{ran_cut_last}
use Rattle.script_runs.proofs.script.finish.Goals as goal

pub returns-in-Err-clause-ended : goal.returns-in-Err-clause-ended
returns-in-Err-clause-ended g c = λ before after room read end.
    rw c.from.ensures (ran_cut_last _ c.in-Err.fault c.args.pending.now.line c.args.pending.now.number room before after _ _ read end c.in-Err.ensures.took c.in-Err.ensures.ends.caused c.in-Err.ensures.ends.ready)
