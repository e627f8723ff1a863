use Rattle.std.proofs.Common.{◌≤◌, ◌<◌, length, arith}
use Rattle.data_set_pairs.proofs.StateSteps.{padding_step, state_taken, none_taken}
use Rattle.data_set_pairs.proofs.states.take_row.Goals as goal

pub returns-then-from-len-clause-taken : goal.returns-then-from-len-clause-taken
returns-then-from-len-clause-taken c =
    let past : length c.args.schema.now.parts ≤ c.args.place = omega arith in
    λ blocks is first. padding_step c.args.schema.now blocks c.args.place c.args.states.now.items c.args.row.now c.is_zero.result is first past c.requires.place c.is_zero.ensures.0 c.is_zero.ensures.1

pub returns-in_ok-push-in-Some-clause-taken : goal.returns-in_ok-push-in-Some-clause-taken
returns-in_ok-push-in-Some-clause-taken c =
    let lt : c.args.place < length c.args.schema.now.parts = omega arith in
    λ blocks is first. state_taken c.args.schema.now blocks c.args.place c.args.states.now.items c.push.new.self.items c.args.row.now c.in_ok-state.field-0 c.in-Some.state is first lt c.in-Some.is c.in_ok-state.ensures.row c.in_ok-state.ensures.fits c.in_ok-state.ensures.one c.in_ok-push-in-Some.ensures.items

pub returns-in-None-clause-taken : goal.returns-in-None-clause-taken
returns-in-None-clause-taken c =
    let lt : c.args.place < length c.args.schema.now.parts = omega arith in
    λ blocks is first. none_taken c.args.schema.now blocks c.args.place c.args.row.now c.in_ok-state.field-0 is lt c.in-None.is c.in_ok-state.ensures.none
