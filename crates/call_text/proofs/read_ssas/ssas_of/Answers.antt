use Rattle.std.proofs.Common.{◌≡◌, true, sym, ◌∙◌, arith}
use Rattle.std.proofs.lemmas.Result.{err_from_is_err_and}
use Rattle.call_text.specs.Reading.{begins_ssa, ssas_at}
use Rattle.call_text.proofs.Loops.{ssas_go_on, ssas_end, ssas_none_left, ssas_stop}
use Rattle.call_text.proofs.read_ssas.ssas_of.Goals as goal
use Rattle.call_text.proofs.read_ssas.ssas_of.Goals.{then-loop-left-test+else-begins_ssa, else-loop-left-test}

pub returns-in_err-ssa : goal.returns-in_err-ssa
returns-in_err-ssa c =
    let begins : begins_ssa c.loop-left.rest.now ≡ true = sym c.begins_ssa.ensures ∙ c.if-begins_ssa.true in
    let p = err_from_is_err_and c.from_residual.result c.from_residual.ensures.1 in
    rw (p.1, p.2) (ssas_end c.in_err-ssa.field-0.0 c.loop-left.ssas c.loop-left.left c.loop-left.rest.now (ssas_at c.args.most c.args.text.now) c.loop-left-test.true begins (rw c.past_blanks.ensures at c.in_err-ssa.ensures) c.loop-left.invariant)

pub loop-left-preserved : goal.loop-left-preserved
loop-left-preserved c =
    let begins : begins_ssa c.loop-left.rest.now ≡ true = sym c.begins_ssa.ensures ∙ c.if-begins_ssa.true in
    rw c.in_ok-push.ensures.ok (ssas_go_on c.loop-left.ssas c.loop-left.left c.loop-left.rest.now c.in_ok-ssa.ssa c.in_ok-ssa.behind.now (ssas_at c.args.most c.args.text.now) c.loop-left-test.true begins (rw c.past_blanks.ensures at c.in_ok-ssa.ensures) c.loop-left.invariant)

pub returns : goal.returns
returns c =
    elim c.loop-left-test.branch [
      | then-loop-left-test+else-begins_ssa w ↦ ssas_stop c.loop-left.ssas c.loop-left.left c.loop-left.rest.now (ssas_at c.args.most c.args.text.now) (sym w.begins_ssa.ensures ∙ w.if-begins_ssa.false) c.loop-left.invariant
      | else-loop-left-test w ↦
          let none : c.loop-left.left ≡ 0 = omega (arith, w.loop-left-test.false) in
          ssas_none_left c.loop-left.ssas c.loop-left.rest.now (ssas_at c.args.most c.args.text.now) (rw none at c.loop-left.invariant)
    ]
