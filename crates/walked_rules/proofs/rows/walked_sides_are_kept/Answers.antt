use Rattle.walked_rules.proofs.SidesOfWalks.{walked_sides_are_kept}
use Rattle.walked_rules.proofs.rows.walked_sides_are_kept.Goals as goal

pub returns : goal.returns
returns c = walked_sides_are_kept c.schemas_are_kept.ensures c.walked_rows_stand.ensures c.walked_parts_keep_rule_7.ensures c.walked_names_differ.ensures c.siblings_rise.ensures c.parents_stand_first.ensures
