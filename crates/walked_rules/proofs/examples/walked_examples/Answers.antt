use Rattle.walked_rules.proofs.ExampleParts.{walked_examples}
use Rattle.walked_rules.proofs.examples.walked_examples.Goals as goal

pub returns : goal.returns
returns c = walked_examples c.walked_parts_keep_rule_4.ensures c.walked_rows_stand.ensures c.walked_parts_keep_rule_7.ensures c.walked_volumes_are_forests.ensures c.example_sides.ensures c.sides_make_forests.ensures
