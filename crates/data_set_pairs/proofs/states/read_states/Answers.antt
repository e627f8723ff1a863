use Rattle.std.proofs.Common.{◌≡◌, ◌∙◌, ◌+◌, ◌*◌, ℕ, length, min, ap, subst, arith}
use Rattle.std.specs.Prelude.{IfSome}
use Rattle.volume_image.specs.Control.{control_count}
use Rattle.data_set_pairs.specs.Reading.{HasFirstStates}
use Rattle.data_set_pairs.proofs.StateSteps.{told_more}
use Rattle.data_set_pairs.specs.StaysLaw.{looks_then}
use Rattle.data_set_pairs.proofs.states.read_states.Goals as goal

pub loop-number-preserved : goal.loop-number-preserved
loop-number-preserved g c =
    let next : 32 * c.loop-number.number + 32 ≡ 32 * (c.loop-number.number + 1) = omega arith in
    let good = c.if-not-branch.false in
    record {
      many = c.in_ok-take_block.ensures.many c.loop-number.invariant.many good ∙ ap (λ (n : ℕ). min n (length c.args.schema.now.parts)) next;
      states = told_more c.args.schema.now (g.B.Blocks.seen c.args.blocks.now).list (g.B.Blocks.seen c.loop-number.blocks).list c.loop-number.number c.from.result c.look.new.into c.loop-number.states.items c.take_block.new.states.items c.in_ok-take_block.field-0 c.loop-number.invariant.looks.list c.loop-number.invariant.states c.from.ensures c.in_ok-look.ensures.block c.if-not-branch.false c.in_ok-take_block.ensures.taken;
      looks = looks_then c.loop-number.invariant.looks c.look.ensures.looks (g.met.B.Blocks.steady_then c.args.blocks.now c.loop-number.blocks c.look.new.blocks);
      live = c.in_ok-look.ensures.live;
    }

pub returns-clause-states : goal.returns-clause-states
returns-clause-states g c =
    let all : 32 * c.loop-number.number ≡ 32 * control_count c.args.schema.now = omega (arith, c.loop-number-test.false, c.loop-number.auto.number-end, c.control_count-number-end.ensures) in
    subst (λ (n : ℕ). IfSome (g.B.Blocks.seen c.args.blocks.now).list (λ list. HasFirstStates c.args.schema.now list n c.loop-number.states.items)) all c.loop-number.invariant.states
