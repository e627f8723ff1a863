use Rattle.std.proofs.Common.{◌∙◌, ◌<◌, List, [], Bor, Some, get_or, length, map, sym, ap, arith}
use Rattle.hal_schema.specs.declared.row.Row.{Row}
use Rattle.position_state.specs.View.{plain_element}
use Rattle.position_state.proofs.Places.{spot_at, spot_past}
use Rattle.position_state.proofs.plain_view.PlainView.spot.Goals as goal

pub returns-then-place-self : goal.returns-then-place-self
returns-then-place-self c = sym (spot_past c.args.self.now.schema.now.types c.args.self.now.rows.now c.args.place c.if-place-self.true)

pub returns : goal.returns
returns c =
    let lt : c.args.place < length c.args.self.now.rows.now = omega (arith, c.if-place-self.false) in
    let row : Row = get_or c.args.self.now.rows.now c.args.place c.index-self-place.result in
    ap Some (c.in_ok-plain_element.ensures
    ∙ ap (λ (rs : List (Bor Row)). plain_element c.args.self.now.schema.now.types (map (λ r. r.now) rs) row) c.deref.ensures.value
    ∙ ap (λ (p : List Row). plain_element c.args.self.now.schema.now.types p row) c.in_ok-path.ensures)
    ∙ sym (spot_at c.args.self.now.schema.now.types [] c.args.self.now.rows.now c.args.place row lt (ap (get_or c.args.self.now.rows.now c.args.place) c.index-self-place.is))
