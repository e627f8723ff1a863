use Rattle.call_changes.proofs.Answering.{answers_keep}
use Rattle.call_changes.proofs.laws.answers_keep_a_forest.Goals as goal

pub returns : goal.returns
returns c = answers_keep c.decisions_keep_a_forest.ensures
