use Rattle.std.proofs.Common.{◌≡◌, ◌++◌, [], ◌∷◌, false, eqb, sym, ◌∙◌, arith, rules}
use Rattle.std.proofs.lemmas.Result.{err_from_is_err_and}
use Rattle.script_runs.specs.Lines.{ended_lines}
use Rattle.script_runs.proofs.LineLemmas.{longer_ended, longer_rest, ended_ended, ended_rest}
use Rattle.script_runs.proofs.Joined.{cut_none, did_none, cut_more}
use Rattle.script_runs.proofs.script.take_byte.Goals as goal

pub returns-in_err-push-clause-took : goal.returns-in_err-push-clause-took
returns-in_err-push-clause-took g c =
    let t = g.L.LineTaker in
    let p = err_from_is_err_and c.from_residual.result c.from_residual.ensures.1 in
    rw (p.1, p.2) (cut_more (ended_lines (c.args.pending.now.line ++ c.args.byte ∷ [])) (cut_none (t.meaning (t.schema c.args.taker.now)) _ c.args.pending.now.number (t.seen c.args.taker.now)))

pub returns-then-byte-ne10-clause-line : goal.returns-then-byte-ne10-clause-line
returns-then-byte-ne10-clause-line g c =
    let differs : eqb c.args.byte 10 ≡ false = search rules in
    c.in_ok-push.ensures.ok ∙ sym (longer_rest c.args.pending.now.line c.args.byte differs c.requires.unended)

pub returns-then-byte-ne10-clause-number : goal.returns-then-byte-ne10-clause-number
returns-then-byte-ne10-clause-number g c =
    let differs : eqb c.args.byte 10 ≡ false = search rules in
    rw (longer_ended c.args.pending.now.line c.args.byte differs c.requires.unended) (omega arith)

pub returns-then-byte-ne10-clause-took : goal.returns-then-byte-ne10-clause-took
returns-then-byte-ne10-clause-took g c =
    let t = g.L.LineTaker in
    let differs : eqb c.args.byte 10 ≡ false = search rules in
    rw (longer_ended c.args.pending.now.line c.args.byte differs c.requires.unended) (did_none (t.meaning (t.schema c.args.taker.now)) _ c.args.pending.now.number (t.seen c.args.taker.now))

pub returns-in_err-take_line-clause-took : goal.returns-in_err-take_line-clause-took
returns-in_err-take_line-clause-took g c =
    let p = err_from_is_err_and c.from_residual-in_err-take_line.result c.from_residual-in_err-take_line.ensures.1 in
    rw (p.1, p.2, c.if-byte-ne10.false, ended_ended c.args.pending.now.line c.requires.unended) (rw (c.stripped.ensures, c.as_slice.ensures) at c.in_err-take_line.ensures.took)

pub returns-clause-line : goal.returns-clause-line
returns-clause-line g c = rw (c.if-byte-ne10.false, ended_rest c.args.pending.now.line c.requires.unended) c.clear.ensures

pub returns-clause-number : goal.returns-clause-number
returns-clause-number g c = rw (c.if-byte-ne10.false, ended_ended c.args.pending.now.line c.requires.unended) (omega arith)

pub returns-clause-took : goal.returns-clause-took
returns-clause-took g c = rw (c.if-byte-ne10.false, ended_ended c.args.pending.now.line c.requires.unended) (rw (c.stripped.ensures, c.as_slice.ensures) at c.in_ok-take_line.ensures.took)
