use Rattle.std.proofs.Common.{◌≡◌, [], rules}
use Rattle.script_runs.proofs.Joined.{did_none}
use Rattle.script_runs.proofs.script.take_last.Goals as goal

pub returns-then-is_empty-clause-took : goal.returns-then-is_empty-clause-took
returns-then-is_empty-clause-took g c =
    let t = g.L.LineTaker in
    let none : c.args.pending.now.line ≡ [] = search rules in
    rw none (did_none (t.meaning (t.schema c.args.taker.now)) _ c.args.pending.now.number (t.seen c.args.taker.now))
