use Rattle.std.proofs.Common.{◌≡◌, true}
use Rattle.std.specs.Ordering.{is_le}
use Rattle.hal_schema.specs.Keys.{key_cmp}
use Rattle.position_state.proofs.Sorting.{put_at}
use Rattle.position_state.proofs.Steps.{left_is}
use Rattle.position_state.proofs.list_entries.place_of.Goals as goal

pub returns-then-is_up_to-clause-place : goal.returns-then-is_up_to-clause-place
returns-then-is_up_to-clause-place c =
    let t : is_le (key_cmp c.args.key.now c.index-entries-place.result.key) ≡ true = cc in
    λ entry k. put_at c.args.entries.now c.loop-place.place c.index-entries-place.result entry c.args.key.now k (c.loop-place.invariant entry k)
    (left_is c.args.entries.now c.loop-place.place c.index-entries-place.result c.loop-place-test.true c.index-entries-place.is) t
