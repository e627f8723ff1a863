use Rattle.std.proofs.Common.{[], nat_le, ◌≡◌, ◌∙◌, ◌+◌, Option, IfOk, ap, subst}
use Rattle.std.specs.List.{position_or_len, slice_get}
use Rattle.hal_schema.specs.declared.row.Row.{Row}
use Rattle.hal_schema.specs.Row.{row_level}
use Rattle.position_state.specs.declared.spot.Spot.{Spot}
use Rattle.position_state.proofs.Places.{past_is}
use Rattle.position_state.proofs.Shown.{shown}
use Rattle.position_state.proofs.Steps.{take_rest}
use Rattle.position_state.proofs.plain_view.PlainView.past.Goals as goal

pub returns : goal.returns
returns c =
    subst (λ (o : Option Spot). IfOk c.spot.result (λ spot. spot ≡ o))
    (ap (λ n. slice_get (shown c.args.self.now.schema.now.types [] c.args.self.now.rows.now) (c.rows_through-from.result + n))
    (c.first_up_to.ensures.place
    ∙ ap (position_or_len (λ (row : Row). nat_le (row_level c.args.self.now.schema.now.types row) c.args.spot.now.level)) (take_rest c.rows_through-from.result c.args.self.now.rows.now))
    ∙ past_is c.args.self.now.schema.now.types c.args.spot.now c.args.self.now.rows.now c.rows_through-from.result c.rows_through-from.ensures.through)
    c.spot.ensures
