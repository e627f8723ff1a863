use Rattle.std.proofs.Common.{◌≡◌, ◌<◌, Option, IfOk, subst, arith}
use Rattle.position_state.specs.declared.spot.Spot.{Spot}
use Rattle.position_state.proofs.Places.{last_counted}
use Rattle.position_state.proofs.plain_view.PlainView.last_of.Goals as goal

pub returns : goal.returns
returns c =
    let some : 0 < c.args.count = omega (arith, c.if-count-eq0.false) in
    subst (λ (o : Option Spot). IfOk c.spot.result (λ spot. spot ≡ o)) (last_counted c.args.self.now.schema.now.types c.args.self.now.rows.now c.args.count some c.requires) c.spot.ensures
