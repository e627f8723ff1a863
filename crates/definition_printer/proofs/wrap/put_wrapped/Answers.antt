use Rattle.std.proofs.Common.{sym, ◌∙◌, eqb-true, length}
use Rattle.definition_printer.specs.Wrapped.{wrapped}
use Rattle.definition_printer.proofs.Pieces.{one_more, no_more}
use Rattle.definition_printer.proofs.wrap.put_wrapped.Goals as goal

pub loop-rest-preserved : goal.loop-rest-preserved
loop-rest-preserved c =
    let s = c.loop-rest in
    rw (c.in_ok-append.ensures.ok, c.in_ok-room.ensures.line, c.in_ok-room.ensures.room) (one_more s.out s.room s.rest.now c.split_piece.result.0.now c.split_piece.result.1.now _ c.split_piece.ensures.pieces s.invariant)

pub returns : goal.returns
unfolding wrapped
returns c =
    let s = c.loop-rest in
    c.in_ok-push.ensures.ok ∙ no_more s.out s.room s.rest.now _ (eqb-true (length s.rest.now) 0 (sym c.is_empty.ensures ∙ c.loop-rest-test.false)) s.invariant
