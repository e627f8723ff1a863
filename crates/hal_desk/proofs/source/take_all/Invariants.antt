use Rattle.std.proofs.Common.{◌≤◌, ◌+◌, ◌-◌, length}
use Rattle.std.specs.Io.KnownBytes.{Consumes}
use Rattle.script_runs.specs.Script.{limit}
use Rattle.hal_desk.proofs.source.take_all.Given as goal

abbrev pub invariant-pieces : goal.invariant-pieces
invariant-pieces g l =
    let s = g.S.Source in
    Consumes (s.left l.fn.source) (s.left l.source) l.text × (length l.text ≤ limit) × (s.read_faults l.fn.source ≤ s.read_faults l.source)

abbrev pub decreases-pieces : goal.decreases-pieces
decreases-pieces g l = limit + 1 - length l.text
