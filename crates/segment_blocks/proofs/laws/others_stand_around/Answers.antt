use Rattle.segment_blocks.proofs.Writing.{run_opened, run_closed}
use Rattle.segment_blocks.proofs.laws.others_stand_around.Goals as goal

pub returns-clause-opened : goal.returns-clause-opened
returns-clause-opened c = run_opened

pub returns-clause-closed : goal.returns-clause-closed
returns-clause-closed c = run_closed
