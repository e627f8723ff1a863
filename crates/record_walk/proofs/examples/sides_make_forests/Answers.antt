use Rattle.record_walk.proofs.ExampleChanges.{make_forests}
use Rattle.record_walk.proofs.examples.sides_make_forests.Goals as goal

pub returns : goal.returns
returns c = make_forests c.changed_sides.ensures c.changes_of_one_side.ensures c.first_children_are_inserted.ensures c.first_roots_are_inserted.ensures c.later_roots_are_inserted.ensures c.entries_hang_in_records.ensures c.sides_are_forests.ensures
