use Rattle.reorg_cursor.proofs.Taken.{scripts_are_runs}
use Rattle.reorg_cursor.proofs.scripts.scripts_are_runs.Goals as goal

pub returns : goal.returns
returns c c' = scripts_are_runs
