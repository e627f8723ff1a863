use Rattle.std.proofs.Common.{◌∙◌, ◌++◌, ◌∷◌, [], List, ap, arith}
use Rattle.hal_base.specs.declared.place.Shape.{Shape}
use Rattle.record_tree.proofs.Types.{one_more, all_taken}
use Rattle.record_tree.proofs.sides.shapes_of.Goals as goal

pub loop-place-preserved : goal.loop-place-preserved
loop-place-preserved c =
    c.in_ok-push.ensures.ok ∙ ap (λ (l : List Shape). l ++ c.shape.result ∷ []) c.loop-place.invariant
    ∙ one_more c.args.schema.now c.loop-place.place c.shape.result (omega (arith, c.loop-place-test.true, c.len-place-end.ensures)) c.shape.ensures.children c.shape.ensures.bytes

pub returns : goal.returns
returns c = c.loop-place.invariant ∙ all_taken c.args.schema.now c.loop-place.place (omega (arith, c.loop-place-test.false, c.len-place-end.ensures))
