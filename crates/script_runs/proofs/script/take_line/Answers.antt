use Rattle.std.proofs.Common.{refl, ◌∙◌, arith}
use Rattle.std.proofs.lemmas.Result.{err_from_is_err_and}
use Rattle.script_runs.proofs.Joined.{not_yet_none, not_yet_more, did_line, cut_line}
use Rattle.script_runs.proofs.script.take_line.Goals as goal

pub units-init : goal.units-init
units-init g c =
    let t = g.L.LineTaker in
    (record { ready = record { is_ready = c.requires; disk_later = omega arith; say_later = omega arith }; not_yet = not_yet_none (t.meaning (t.schema c.args.taker.now)) _ c.args.text.now c.args.number (t.seen c.args.taker.now) }, refl, g.met.L.LineTaker.steady_none c.args.taker.now)

pub returns-in_err-line-clause-took : goal.returns-in_err-line-clause-took
returns-in_err-line-clause-took g c =
    let inv = c.units.invariant in
    let told = rw inv.1 at (g.met.L.LineTaker.leaves_told c.units.taker inv.0.ready.is_ready) in
    let p = err_from_is_err_and c.from_residual.result c.from_residual.ensures.1 in
    rw (p.1, p.2) (cut_line {c = g.L.LineTaker.seen c.line.new.self} told inv.0.not_yet (rw inv.1 at c.in_err-line.ensures.cut))

pub returns-then-branch-clause-took : goal.returns-then-branch-clause-took
returns-then-branch-clause-took g c =
    let inv = c.units.invariant in
    let told = rw inv.1 at (g.met.L.LineTaker.leaves_told c.units.taker inv.0.ready.is_ready) in
    did_line {c = g.L.LineTaker.seen c.line.new.self} told inv.0.not_yet (rw (c.if-branch.true, inv.1) at c.in_ok-line.ensures.took)

pub units-preserved : goal.units-preserved
units-preserved g c =
    let inv = c.units.invariant in
    let told = rw inv.1 at (g.met.L.LineTaker.leaves_told c.units.taker inv.0.ready.is_ready) in
    let ends = c.in_ok-line.ensures.ends in (
      record {
        ready = record {
          is_ready = ends.ready;
          disk_later = omega (arith, inv.0.ready.disk_later, ends.disk_later);
          say_later = omega (arith, inv.0.ready.say_later, ends.say_later);
        };
        not_yet = not_yet_more {c = g.L.LineTaker.seen c.line.new.self} told inv.0.not_yet (rw (c.if-branch.false, inv.1) at c.in_ok-line.ensures.took);
      },
      c.in_ok-line.ensures.schema ∙ inv.1,
      g.met.L.LineTaker.steady_then _ _ _ inv.2 c.in_ok-line.ensures.steady,
    )
