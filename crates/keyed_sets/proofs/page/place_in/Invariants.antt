use Rattle.std.proofs.Common.{◌≤◌, ◌-◌}
use Rattle.keyed_sets.specs.Layout.{rows_in, count_of, place_of}
use Rattle.keyed_sets.specs.Rule.{Rise}
use Rattle.keyed_sets.proofs.page.place_in.Given as goal

-- the place isn't before `low`, nor behind `high`
abbrev pub invariant-loop-low : goal.invariant-loop-low
invariant-loop-low l = record {
  order : l.low ≤ l.high;
  within : l.high ≤ count_of l.page;
  from : Rise (rows_in l.shape l.page) → l.low ≤ place_of l.key (rows_in l.shape l.page);
  upto : Rise (rows_in l.shape l.page) → place_of l.key (rows_in l.shape l.page) ≤ l.high;
}

abbrev pub decreases-loop-low : goal.decreases-loop-low
decreases-loop-low l = l.high - l.low
