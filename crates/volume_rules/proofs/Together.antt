-- A lawful delta keeps the rules: 6, then 9, then 10, then 8.
use Rattle.volume_rules.specs.Laws.{DeltasKeepRules}
use Rattle.volume_rules.proofs.Homes.{deltas_keep_homes}
use Rattle.volume_rules.proofs.Leading.{deltas_keep_rule_8}
use Rattle.volume_rules.proofs.Listed.{deltas_keep_rule_9}
use Rattle.volume_rules.proofs.Names.{deltas_keep_rule_6}
use Rattle.volume_rules.proofs.Roots.{deltas_keep_rule_10}

pub deltas_keep_rules : DeltasKeepRules
deltas_keep_rules types is_target view d old new lawful follows kept =
    let rule9 = deltas_keep_rule_9 types is_target view d lawful kept.rule6 kept.rule9 in
    record {
      homes = deltas_keep_homes types is_target view d lawful kept.homes;
      rule6 = deltas_keep_rule_6 types is_target view d lawful kept.homes kept.rule6;
      rule8 = deltas_keep_rule_8 types is_target view d old new lawful follows kept.rule6 kept.rule9 rule9 kept.rule8;
      rule9 = rule9;
      rule10 = deltas_keep_rule_10 types is_target view d lawful kept.homes kept.rule10;
    }
