use Rattle.std.proofs.Common.{◌≡◌, take}
use Rattle.call_runs.proofs.state.copied_sessions.Given as goal

abbrev pub invariant-loop-one : goal.invariant-loop-one
invariant-loop-one l = l.copies ≡ take l.one-index l.sessions
