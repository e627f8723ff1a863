use Rattle.std.proofs.Common.{◌≡◌, [], length, take, arith}
use Rattle.std.proofs.lemmas.List.{length-take-le}
use Rattle.std.proofs.KnownBytes.{Consumes-nil, Consumes-kept}
use Rattle.script_runs.proofs.Endings.{ran_read_fault, ran_too_long}
use Rattle.script_runs.proofs.script.read_past.Goals as goal

pub returns-in-Ok-clause-ended : goal.returns-in-Ok-clause-ended
returns-in-Ok-clause-ended g c =
    let taken = take c.in-Ok.field-0 c.read_piece.new.buffer in
    let one : length taken ≡ 1 = omega (arith, length-take-le c.in-Ok.field-0 c.read_piece.new.buffer (omega (arith, c.in-Ok.ensures.within)), c.in-Ok.ensures.within, c.in-Ok.field-0-test) in
    ran_too_long _ c.args.pending.now.line c.args.pending.now.number _ _ _ taken c.requires.unended c.in-Ok.ensures.taken one c.requires.ready

pub returns-in-Err-clause-ended : goal.returns-in-Err-clause-ended
returns-in-Err-clause-ended g c =
    let left = g.S.Source.left in
    let none = Consumes-kept (left c.args.source.now) (left c.args.source.now) (left c.read_piece.new.source) [] (Consumes-nil (left c.args.source.now)) c.in-Err.ensures.kept in
    ran_read_fault _ c.args.pending.now.line c.args.pending.now.number 0 _ _ _ c.requires.unended none c.in-Err.ensures.cause.failed c.requires.ready
