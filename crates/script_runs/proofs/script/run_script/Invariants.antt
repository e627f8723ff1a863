use Rattle.std.proofs.Common.{◌≡◌}
use Rattle.script_runs.specs.Script.{source_view}
use Rattle.script_runs.proofs.Loops.{PiecesSoFar}
use Rattle.script_runs.proofs.script.run_script.Given as goal

abbrev pub invariant-pieces : goal.invariant-pieces
invariant-pieces g l =
    let s = g.S.Source in
    let t = g.L.LineTaker in
    PiecesSoFar (t.meaning (t.schema l.fn.taker)) l.pending.line l.pending.number l.room (source_view s l.fn.source) (source_view s l.source)
    (t.seen l.fn.taker) (t.seen l.taker) × (t.schema l.taker ≡ t.schema l.fn.taker) × t.steady l.fn.taker l.taker

abbrev pub decreases-pieces : goal.decreases-pieces
decreases-pieces g l = l.room
