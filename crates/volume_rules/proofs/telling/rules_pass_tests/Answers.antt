use Rattle.volume_rules.proofs.Passing.{rules_pass_tests}
use Rattle.volume_rules.proofs.telling.rules_pass_tests.Goals as goal

pub returns : goal.returns
returns c = rules_pass_tests
