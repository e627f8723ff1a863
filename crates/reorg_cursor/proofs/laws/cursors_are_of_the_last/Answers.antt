use Rattle.reorg_cursor.proofs.UnitLemmas.{behind_last}
use Rattle.reorg_cursor.proofs.laws.cursors_are_of_the_last.Goals as goal

pub returns : goal.returns
returns c = behind_last
