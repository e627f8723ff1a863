use Rattle.std.proofs.Common.{◌∙◌, sym}
use Rattle.hal_loader.proofs.Climbs.{stays_above, stays_passed}
use Rattle.hal_loader.proofs.path.Path.climb.Goals as goal

pub returns-clause-above : goal.returns-clause-above
returns-clause-above c = sym (stays_above c.args.wanted c.levels.self (sym c.is_below.ensures ∙ c.levels-test.false)) ∙ c.levels.invariant.above

pub returns-clause-below : goal.returns-clause-below
returns-clause-below c = sym (stays_passed c.args.wanted c.levels.below c.levels.self (sym c.is_below.ensures ∙ c.levels-test.false)) ∙ c.levels.invariant.below
