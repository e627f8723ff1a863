use Rattle.std.proofs.Common.{◌≡◌}
use Rattle.script_runs.proofs.Loops.{UnitsSoFar}
use Rattle.script_runs.proofs.script.take_line.Given as goal

abbrev pub invariant-units : goal.invariant-units
invariant-units g l =
    let t = g.L.LineTaker in
    UnitsSoFar (t.meaning (t.schema l.fn.taker)) l.text l.number (t.seen l.fn.taker) (t.seen l.taker) × (t.schema l.taker ≡ t.schema l.fn.taker) × t.steady l.fn.taker l.taker

abbrev pub decreases-units : goal.decreases-units
decreases-units g l = g.L.LineTaker.units_left l.taker
