use Rattle.std.proofs.Common.{◌≡◌, ◌+◌, ◌-◌, ◌≤◌, drop}
use Rattle.keyed_sets.specs.Layout.{rows_from}
use Rattle.keyed_sets.specs.Rule.{rising_count}
use Rattle.keyed_sets.proofs.check.rising_in.Given as goal

-- the rows before this one rise
abbrev pub invariant-loop-at : goal.invariant-loop-at
invariant-loop-at l = record {
  from : 1 ≤ l.at;
  most : 1 ≤ l.count → l.at ≤ l.count;
  empty : l.count ≡ 0 → l.at ≡ 1;
  walked : rising_count (rows_from l.shape l.count (drop 16 l.page)) ≡ (l.at - 1) + rising_count (drop (l.at - 1) (rows_from l.shape l.count (drop 16 l.page)));
}
