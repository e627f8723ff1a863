use Rattle.std.proofs.Common.{◌≡◌, [], refl, ◌∙◌, ◌++◌, arith}
use Rattle.script_runs.specs.Script.{limit, source_view}
use Rattle.script_runs.proofs.LineLemmas.{rest_open}
use Rattle.script_runs.proofs.Endings.{ran_on}
use Rattle.script_runs.proofs.Pieces.{read_none, read_then}
use Rattle.script_runs.proofs.script.run_script.Goals as goal

pub pieces-preserved : goal.pieces-preserved
pieces-preserved g c =
    let inv = c.pieces.invariant in
    let on = c.in_default.ensures.on in (
      record {
        is_ready = c.in_default.ensures.ready;
        unended = rw on.line (rest_open (c.pieces.pending.line ++ on.piece));
        numbers = c.in_default.ensures.number;
        so_far = read_then _ inv.0.so_far (rw inv.1 at on);
        later = record {
          read = omega (arith, inv.0.later.read, c.in_default.ensures.later.read);
          say = omega (arith, inv.0.later.say, c.in_default.ensures.later.say);
          disk = omega (arith, inv.0.later.disk, c.in_default.ensures.later.disk);
        };
      },
      c.in_default.ensures.schema ∙ inv.1,
      g.met.L.LineTaker.steady_then _ _ _ inv.2 c.in_default.ensures.steady,
    )

pub pieces-init : goal.pieces-init
pieces-init g c =
    let s = g.S.Source in
    let t = g.L.LineTaker in (
      record {
        is_ready = c.requires;
        unended = rw c.new.ensures refl;
        numbers = omega arith;
        so_far = rw c.new.ensures (read_none (t.meaning (t.schema c.args.taker.now)) limit (source_view s c.args.source.now) (t.seen c.args.taker.now));
        later = record { read = omega arith; say = omega arith; disk = omega arith };
      },
      refl,
      g.met.L.LineTaker.steady_none c.args.taker.now,
    )

pub returns-in-Some-clause-ran : goal.returns-in-Some-clause-ran
returns-in-Some-clause-ran g c =
    let inv = c.pieces.invariant in
    ran_on _ [] 1 limit c.pieces.pending.line c.pieces.pending.number c.pieces.room _ _ _ _ _ _ _ inv.0.later inv.0.so_far (rw inv.1 at c.in-Some.ensures.ended)

pub returns-clause-ran : goal.returns-clause-ran
returns-clause-ran g c =
    let inv = c.pieces.invariant in
    let none : c.pieces.room ≡ 0 = omega (arith, c.pieces-test.false) in
    ran_on _ [] 1 limit c.pieces.pending.line c.pieces.pending.number 0 _ _ _ _ _ _ _ inv.0.later (rw none at inv.0.so_far) (rw inv.1 at c.read_past.ensures.ended)
