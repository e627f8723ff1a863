use Rattle.call_changes.proofs.Lawful.{decision_lawful}
use Rattle.call_changes.proofs.laws.decisions_are_lawful.Goals as goal

pub returns : goal.returns
returns c = λ schema rows free session call m.
    decision_lawful schema rows free session call (λ front rest spot split. c.places_differ.ensures schema rows front rest spot m.forest split) m.plain m.stands
