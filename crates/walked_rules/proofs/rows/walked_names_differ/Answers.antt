use Rattle.walked_rules.proofs.RulesOfWalks.{walked_names_differ}
use Rattle.walked_rules.proofs.rows.walked_names_differ.Goals as goal

pub returns : goal.returns
returns c = walked_names_differ c.walked_rows_stand.ensures
