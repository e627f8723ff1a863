use Rattle.std.proofs.Common.{[], ◌≡◌, ◌∙◌, Option, None, IfOk, ap, subst, take}
use Rattle.std.specs.List.{last_or}
use Rattle.position_state.specs.declared.spot.Spot.{Spot}
use Rattle.position_state.proofs.Places.{before_is}
use Rattle.position_state.proofs.Shown.{shown}
use Rattle.position_state.proofs.plain_view.PlainView.before.Goals as goal

pub returns : goal.returns
returns c =
    subst (λ (o : Option Spot). IfOk c.last_of.result (λ spot. spot ≡ o))
    (ap (λ n. last_or None (take n (shown c.args.self.now.schema.now.types [] c.args.self.now.rows.now))) c.rows_before.ensures.before
    ∙ before_is c.args.self.now.schema.now.types c.args.at.now c.args.self.now.rows.now)
    c.last_of.ensures
