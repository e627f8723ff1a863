use Rattle.std.proofs.Common.{sym, ◌∙◌, ◌-◌, arith}
use Rattle.std.proofs.lemmas.Bool.{ne_eqb}
use Rattle.hal_schema.specs.SegType.{parent_code}
use Rattle.call_gets.proofs.Climbs.{one_up}
use Rattle.call_gets.proofs.path.is_in_subtree.Goals as goal

pub loop-left-preserved : goal.loop-left-preserved
loop-left-preserved c =
    c.loop-left.invariant
    ∙ one_up c.loop-left.left (c.loop-left.left - 1) c.args.above c.loop-left.at c.in-Some.parent (parent_code c.args.schema.now.types) (omega (arith, c.loop-left-test.true))
    (ne_eqb _ _ c.if-at-above.false) (sym c.in-Some.ensures)
