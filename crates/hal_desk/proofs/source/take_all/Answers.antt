use Rattle.std.proofs.Common.{◌≡◌, ◌++◌, length, take, length-append, arith}
use Rattle.std.proofs.lemmas.List.{length-take-le}
use Rattle.std.proofs.KnownBytes.{Consumes-trans}
use Rattle.hal_desk.proofs.source.take_all.Goals as goal

pub returns-then-len-count : goal.returns-then-len-count
returns-then-len-count g c =
    let piece = take c.in-Ok.count c.read_piece.new.buffer in
    let n : length piece ≡ c.in-Ok.count = length-take-le c.in-Ok.count c.read_piece.new.buffer (omega (arith, c.in-Ok.ensures.within, c.min-most.ensures)) in
    let m = length-append c.pieces.text piece in
    record {
      taken = c.pieces.text ++ piece;
      read = Consumes-trans _ _ _ _ _ c.pieces.invariant.0 c.in-Ok.ensures.taken;
      later = omega (arith, c.pieces.invariant.2, c.in-Ok.ensures.cause.later);
      ends = omega (arith, n, m, c.len.ensures, c.min-most.ensures, c.len-in-pieces.ensures, c.in-Ok.ensures.within, c.if-len-count.true, c.pieces.invariant.1);
    }

pub returns-in-Err-append : goal.returns-in-Err-append
returns-in-Err-append g c =
    let piece = take c.in-Ok.count c.read_piece.new.buffer in
    let n : length piece ≡ c.in-Ok.count = length-take-le c.in-Ok.count c.read_piece.new.buffer (omega (arith, c.in-Ok.ensures.within, c.min-most.ensures)) in
    let m = length-append c.pieces.text piece in
    record {
      taken = c.pieces.text ++ piece;
      read = Consumes-trans _ _ _ _ _ c.pieces.invariant.0 c.in-Ok.ensures.taken;
      later = omega (arith, c.pieces.invariant.2, c.in-Ok.ensures.cause.later);
      ends = omega (arith, n, m, c.len.ensures, c.min-most.ensures, c.len-in-pieces.ensures, c.in-Ok.ensures.within, c.if-len-count.false, c.pieces.invariant.1);
    }
