use Rattle.std.proofs.Common.{◌≡◌, ◌+◌, ◌∙◌, true, ap}
use Rattle.std.specs.List.{prefix_len}
use Rattle.hal_schema.specs.Span.{is_deeper}
use Rattle.hal_schema.specs.Row.{same_name}
use Rattle.position_state.proofs.Steps.{left_is, span_found, take_rest}
use Rattle.position_state.proofs.list_view.span_of.Goals as goal

pub returns-then-is_same_name : goal.returns-then-is_same_name
returns-then-is_same_name c =
    let s : same_name c.index-rows-place.result.name c.args.name.now ≡ true = cc in
    span_found c.args.schema.now.types c.args.rows.now c.args.name.now c.loop-place.place c.index-rows-place.result c.count_below-below.result c.loop-place.invariant
    (left_is c.args.rows.now c.loop-place.place c.index-rows-place.result c.loop-place-test.true c.index-rows-place.is) s
    (c.count_below-below.ensures.count ∙ ap (prefix_len (is_deeper c.args.schema.now.types c.index-rows-place.result)) (take_rest (c.loop-place.place + 1) c.args.rows.now))
