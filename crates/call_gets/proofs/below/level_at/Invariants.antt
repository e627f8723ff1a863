use Rattle.std.proofs.Common.{◌≡◌, drop}
use Rattle.call_gets.specs.Scan.{level_at}
use Rattle.call_gets.proofs.below.level_at.Given as goal

abbrev pub invariant-loop-spot : goal.invariant-loop-spot
invariant-loop-spot l = level_at l.path l.at ≡ level_at (drop l.spot-index l.path) l.at
