use Rattle.std.proofs.Common.{[], ◌∷◌, ◌++◌, ap, sym, ◌∙◌}
use Rattle.std.specs.Option.{option_copied}
use Rattle.call_gets.specs.Scan.{IsFound, plain_view}
use Rattle.call_gets.proofs.Judging.{one_is}
use Rattle.call_gets.proofs.judged.holds_on.Goals as goal

pub ssa_holds-requires-clause-shown : goal.ssa_holds-requires-clause-shown
ssa_holds-requires-clause-shown g c = λ rows e.
    one_is (IsFound (plain_view c.args.schema.now rows)) c.args.schema.now (c.args.above.now ++ c.args.spot.now ∷ []) c.args.ssa.now c.in-Some.one.now (c.requires.shown rows e).along
    (sym c.of_ssa.ensures ∙ ap option_copied c.in-Some.is)
