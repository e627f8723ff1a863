use Rattle.std.proofs.Common.{false, sym, ◌∙◌, arith}
use Rattle.dbd_reader.specs.Operands.{pieces_from}
use Rattle.dbd_reader.proofs.OperandText.{piece_ends, piece_grows, pieces_end}
use Rattle.dbd_reader.proofs.operand.pieces.Goals as goal
use Rattle.dbd_reader.proofs.operand.pieces.Goals.{then-parts_here+in_ok-push, else-parts_here+in_ok-push-2}

pub loop-byte-preserved : goal.loop-byte-preserved
loop-byte-preserved c =
    let s = c.loop-byte in
    let total = pieces_from 0 false c.args.text.now in
    elim c.if-parts_here.branch [
      | then-parts_here+in_ok-push w ↦ rw (w.list-is, w.piece-is, w.depth-is, w.quoted-is) (record {
        whole = rw (w.in_ok-push.ensures.ok, w.new-piece-then-parts_here.ensures) (piece_ends s.list s.piece c.args.text.now total s.depth s.quoted s.byte-index c.loop-byte-test.true (sym c.parts_here.ensures ∙ w.if-parts_here.true) s.invariant.whole);
        bound = omega (arith, s.invariant.bound);
      })
      | else-parts_here+in_ok-push-2 w ↦ rw (w.list-is, w.piece-is, w.depth-is, w.quoted-is) (record {
        whole = rw (w.in_ok-push-2.ensures.ok, w.depth_behind-depth.ensures.depth, w.quoted_behind-quoted.ensures) (piece_grows s.list s.piece c.args.text.now total s.depth s.quoted s.byte-index c.loop-byte-test.true (sym c.parts_here.ensures ∙ w.if-parts_here.false) s.invariant.whole);
        bound = omega (arith, s.invariant.bound, w.depth_behind-depth.ensures.bound);
      })
    ]

pub returns : goal.returns
returns c =
    let s = c.loop-byte in
    c.in_ok-push-3.ensures.ok ∙ pieces_end s.list s.piece c.args.text.now (pieces_from 0 false c.args.text.now) s.depth s.quoted s.byte-index c.loop-byte-test.false s.invariant.whole
