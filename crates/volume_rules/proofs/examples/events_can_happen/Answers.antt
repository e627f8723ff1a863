use Rattle.volume_rules.proofs.Happening.{can_happen}
use Rattle.volume_rules.proofs.examples.events_can_happen.Goals as goal

pub returns : goal.returns
returns c = can_happen c.schemas_are_kept.ensures c.entries_are_of_sources.ensures
