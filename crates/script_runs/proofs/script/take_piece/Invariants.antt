use Rattle.std.proofs.Common.{◌≡◌, take}
use Rattle.script_runs.proofs.Loops.{PieceSoFar}
use Rattle.script_runs.proofs.script.take_piece.Given as goal

abbrev pub invariant-loop-byte : goal.invariant-loop-byte
invariant-loop-byte g l =
    let t = g.L.LineTaker in
    PieceSoFar (t.meaning (t.schema l.fn.taker)) l.fn.pending.line l.fn.pending.number (take l.byte-index l.piece) l.pending.line l.pending.number (t.seen l.fn.taker) (t.seen l.taker)
    × (t.schema l.taker ≡ t.schema l.fn.taker) × t.steady l.fn.taker l.taker
