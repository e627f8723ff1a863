use Rattle.std.proofs.Common.{sym, ◌∙◌, arith, eqb-true, length, refl}
use Rattle.std.specs.Str.Lines.{lines}
use Rattle.dbd_reader.proofs.FirstLine.{behind_next, no_lines}
use Rattle.dbd_reader.proofs.NextLine.{passes, begins, none_left}
use Rattle.dbd_reader.proofs.statement.next_statement.Goals as goal

pub returns-then-not-is_comment-clause-whole : goal.returns-then-not-is_comment-clause-whole
returns-then-not-is_comment-clause-whole c =
    let s = c.loop-rest in
    begins s.line c.in_ok-statement.statement c.cut_line.result.0.now (lines s.rest.now) (lines c.cut_line.result.1.now) _ (sym c.is_comment.ensures ∙ c.if-not-is_comment.true) c.in_ok-statement.ensures.whole c.cut_line.ensures.cut s.invariant.whole
    ∙ c.in_ok-continued.ensures.whole

pub returns-then-not-is_comment-clause-behind : goal.returns-then-not-is_comment-clause-behind
returns-then-not-is_comment-clause-behind c = λ whole h.
    let s = c.loop-rest in
    c.in_ok-continued.ensures.behind whole (behind_next whole s.line c.in_ok-statement.statement.next s.rest.now c.cut_line.result.1.now c.in_ok-statement.ensures.next (s.invariant.behind whole h) c.cut_line.ensures.behind)

pub loop-rest-preserved : goal.loop-rest-preserved
loop-rest-preserved c =
    let s = c.loop-rest in
    record {
      whole = passes s.line c.cut_line.result.0.now (lines s.rest.now) (lines c.cut_line.result.1.now) _ (sym c.is_comment.ensures ∙ c.if-not-is_comment.false) c.cut_line.ensures.cut s.invariant.whole;
      behind = λ whole h. behind_next whole s.line _ s.rest.now c.cut_line.result.1.now refl (s.invariant.behind whole h) c.cut_line.ensures.behind;
      few = omega (arith, c.cut_line.ensures.shorter, s.invariant.few);
      short = omega (arith, c.cut_line.ensures.shorter, s.invariant.short);
    }

pub returns-clause-whole : goal.returns-clause-whole
returns-clause-whole c =
    let s = c.loop-rest in
    none_left s.line (lines s.rest.now) _ (no_lines s.rest.now (eqb-true (length s.rest.now) 0 (sym c.is_empty.ensures ∙ c.loop-rest-test.false))) s.invariant.whole
