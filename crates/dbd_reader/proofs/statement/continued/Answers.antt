use Rattle.std.proofs.Common.{sym, ◌∙◌, arith, eqb-true, length}
use Rattle.std.specs.Str.Lines.{lines}
use Rattle.dbd_reader.proofs.FirstLine.{behind_next, no_lines}
use Rattle.dbd_reader.proofs.NextLine.{goes_on_taken, ends_here, ends_with_text}
use Rattle.dbd_reader.proofs.statement.continued.Goals as goal
use Rattle.dbd_reader.proofs.statement.continued.Goals.{then-loop-statement-test+else-goes_on, else-loop-statement-test}

pub loop-statement-preserved : goal.loop-statement-preserved
loop-statement-preserved c =
    let s = c.loop-statement in
    let e = c.in_ok-statement.ensures in
    record {
      whole = goes_on_taken s.statement c.in_ok-statement.statement c.cut_line.result.0.now (lines s.rest.now) (lines c.cut_line.result.1.now) _ (sym c.goes_on.ensures ∙ c.if-goes_on.true) e.whole c.cut_line.ensures.cut s.invariant.whole;
      behind = λ whole h. behind_next whole s.statement.next c.in_ok-statement.statement.next s.rest.now c.cut_line.result.1.now e.next (s.invariant.behind whole h) c.cut_line.ensures.behind;
      few = omega (arith, e.next, c.cut_line.ensures.shorter, s.invariant.few);
      short = omega (arith, c.cut_line.ensures.shorter, s.invariant.short);
    }

pub returns-clause-whole : goal.returns-clause-whole
returns-clause-whole c =
    let s = c.loop-statement in
    elim c.loop-statement-test.branch [
      | then-loop-statement-test+else-goes_on w ↦ ends_here s.statement (lines s.rest.now) _ (sym w.goes_on.ensures ∙ w.if-goes_on.false) s.invariant.whole
      | else-loop-statement-test w ↦ ends_with_text s.statement (lines s.rest.now) _ (no_lines s.rest.now (eqb-true (length s.rest.now) 0 (sym c.is_empty.ensures ∙ w.loop-statement-test.false))) s.invariant.whole
    ]
