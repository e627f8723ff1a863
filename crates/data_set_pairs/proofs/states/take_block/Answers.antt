use Rattle.std.proofs.Common.{◌≡◌, ◌∙◌, ◌+◌, ◌*◌, ℕ, Bool, length, min, ap, subst, arith}
use Rattle.std.specs.Prelude.{MatchBool, slice_range}
use Rattle.data_set_pairs.specs.Reading.{HasFirstStates, HasNoStates}
use Rattle.data_set_pairs.proofs.StateSteps.{row_at}
use Rattle.data_set_pairs.proofs.states.take_block.Goals as goal

pub returns-then-not-branch-clause-taken : goal.returns-then-not-branch-clause-taken
returns-then-not-branch-clause-taken c = λ blocks is first.
    let start : 128 * c.loop-row.row ≡ c.from-start.result * 128 = omega (arith, c.from-start.ensures) in
    let row = row_at blocks c.args.number c.loop-row.row c.args.block.now is c.loop-row-test.true ∙ ap (λ (k : ℕ). slice_range c.args.block.now k (k + 128)) start in
    let step = c.in_ok-take_row.ensures.taken blocks row (c.loop-row.invariant.taken blocks is first) in
    subst (λ (b : Bool). MatchBool b (HasFirstStates c.args.schema.now blocks (32 * c.args.number + c.loop-row.row + 1) c.take_row.new.states.items) (HasNoStates c.args.schema.now blocks)) c.if-not-branch.true step

pub loop-row-preserved : goal.loop-row-preserved
loop-row-preserved c =
    let next : 32 * c.args.number + c.loop-row.row + 1 ≡ 32 * c.args.number + (c.loop-row.row + 1) = omega arith in
    record {
      many = λ before. c.in_ok-take_row.ensures.many (c.loop-row.invariant.many before) c.if-not-branch.false ∙ ap (λ (n : ℕ). min n (length c.args.schema.now.parts)) next;
      taken = λ blocks is first.
          let start : 128 * c.loop-row.row ≡ c.from-start.result * 128 = omega (arith, c.from-start.ensures) in
          let row = row_at blocks c.args.number c.loop-row.row c.args.block.now is c.loop-row-test.true ∙ ap (λ (k : ℕ). slice_range c.args.block.now k (k + 128)) start in
          let step = c.in_ok-take_row.ensures.taken blocks row (c.loop-row.invariant.taken blocks is first) in
          let good = subst (λ (b : Bool). MatchBool b (HasFirstStates c.args.schema.now blocks (32 * c.args.number + c.loop-row.row + 1) c.take_row.new.states.items) (HasNoStates c.args.schema.now blocks)) c.if-not-branch.false step in
          subst (λ (n : ℕ). HasFirstStates c.args.schema.now blocks n c.take_row.new.states.items) next good;
    }

pub returns-clause-taken : goal.returns-clause-taken
returns-clause-taken c = λ blocks is first.
    let all : c.loop-row.row ≡ 32 = omega (arith, c.loop-row.auto.row-end, c.loop-row-test.false) in
    subst (λ (row : ℕ). HasFirstStates c.args.schema.now blocks (32 * c.args.number + row) c.loop-row.states.items) all (c.loop-row.invariant.taken blocks is first)
