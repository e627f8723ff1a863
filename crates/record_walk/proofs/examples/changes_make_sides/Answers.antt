use Rattle.record_walk.proofs.ExampleChanges.{make_sides}
use Rattle.record_walk.proofs.examples.changes_make_sides.Goals as goal

pub returns : goal.returns
returns c = make_sides c.changed_sides.ensures
