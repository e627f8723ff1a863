use Rattle.std.proofs.Common.{◌≤◌, [], length, take, arith}
use Rattle.std.proofs.lemmas.List.{length-take-le}
use Rattle.std.proofs.KnownBytes.{Consumes-nil, Consumes-kept}
use Rattle.script_runs.proofs.Endings.{ran_read_fault, ran_cut}
use Rattle.script_runs.proofs.script.step.Goals as goal

pub returns-in-Err-clause-ended : goal.returns-in-Err-clause-ended
returns-in-Err-clause-ended g c =
    let left = g.S.Source.left in
    let none = Consumes-kept (left c.args.source.now) (left c.args.source.now) (left c.read_piece.new.source) [] (Consumes-nil (left c.args.source.now)) c.in-Err.ensures.kept in
    ran_read_fault _ c.args.pending.now.line c.args.pending.now.number c.args.room.now _ _ _ c.requires.unended none c.in-Err.ensures.cause.failed c.requires.ready

pub returns-in-Err-take_piece-clause-ended : goal.returns-in-Err-take_piece-clause-ended
returns-in-Err-take_piece-clause-ended g c =
    let begun = c.args.pending.now.line in
    let piece = take c.in-Ok.count c.read_piece.new.buffer in
    let short : length piece ≤ c.args.room.now = omega (arith, length-take-le c.in-Ok.count c.read_piece.new.buffer (omega (arith, c.in-Ok.ensures.within)), c.in-Ok.ensures.within) in
    rw c.from.ensures
    (ran_cut _ c.in-Err-take_piece.fault begun c.args.pending.now.number c.args.room.now _ _ _ _ piece c.in-Ok.ensures.taken short c.in-Err-take_piece.ensures.took c.in-Err-take_piece.ensures.ends.caused c.in-Err-take_piece.ensures.ends.ready)
