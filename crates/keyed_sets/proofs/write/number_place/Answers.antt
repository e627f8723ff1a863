use Rattle.std.proofs.Common.{◌≡◌, ◌++◌, ℕ, take, drop, refl, length, ap, ◌∙◌, arith}
use Rattle.keyed_sets.specs.Standing.{with_number}
use Rattle.keyed_sets.proofs.Numbers.{number_more, number_here, number_last}
use Rattle.keyed_sets.proofs.write.number_place.Goals as goal

pub loop-at-preserved : goal.loop-at-preserved
loop-at-preserved c = number_more c.args.numbers.now c.args.n c.loop-at.at (with_number c.args.n c.args.numbers.now) c.loop-at-test.true c.if-number-n.false c.loop-at.invariant

pub returns-then-number-n-clause-place : goal.returns-then-number-n-clause-place
returns-then-number-n-clause-place c = number_here c.args.numbers.now c.args.n c.loop-at.at (with_number c.args.n c.args.numbers.now) c.loop-at-test.true c.if-number-n.true c.loop-at.invariant

pub returns-clause-place : goal.returns-clause-place
returns-clause-place c =
    let end : c.loop-at.at ≡ length c.args.numbers.now = omega (arith, c.loop-at-test.false, c.loop-at.auto.at-end) in
    number_last c.args.numbers.now c.args.n (length c.args.numbers.now) (with_number c.args.n c.args.numbers.now) refl (c.loop-at.invariant ∙ ap (λ (i : ℕ). take i c.args.numbers.now ++ with_number c.args.n (drop i c.args.numbers.now)) end)
