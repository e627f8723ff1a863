use Rattle.call_changes.proofs.Answering.{answers_lead}
use Rattle.call_changes.proofs.laws.answers_lead.Goals as goal

pub returns : goal.returns
returns c = answers_lead
