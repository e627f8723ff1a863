use Rattle.std.proofs.Common.{[], ◌≡◌, ◌∙◌, Option, IfOk, ap, subst}
use Rattle.std.specs.List.{slice_get}
use Rattle.position_state.specs.declared.spot.Spot.{Spot}
use Rattle.position_state.proofs.Places.{after_is}
use Rattle.position_state.proofs.Shown.{shown}
use Rattle.position_state.proofs.plain_view.PlainView.after.Goals as goal

pub returns : goal.returns
returns c =
    subst (λ (o : Option Spot). IfOk c.spot.result (λ spot. spot ≡ o))
    (ap (slice_get (shown c.args.self.now.schema.now.types [] c.args.self.now.rows.now)) c.rows_through.ensures.through ∙ after_is c.args.self.now.schema.now.types c.args.at.now c.args.self.now.rows.now)
    c.spot.ensures
