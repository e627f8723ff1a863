use Rattle.std.proofs.Common.{[], ◌≡◌, ◌∙◌, Option, None, IfOk, ap, subst, take}
use Rattle.std.specs.List.{last_or}
use Rattle.position_state.specs.declared.spot.Spot.{Spot}
use Rattle.position_state.proofs.Places.{above_is, forest_levels, levels_taken}
use Rattle.position_state.proofs.Shown.{shown}
use Rattle.position_state.proofs.plain_view.PlainView.above.Goals as goal

pub through_above-requires : goal.through_above-requires
through_above-requires c = record {
  levels = levels_taken c.args.self.now.schema.now.types c.args.self.now.rows.now c.rows_before-before.result (forest_levels c.args.self.now.schema.now c.args.self.now.rows.now c.args.self.now.forest);
}

pub returns : goal.returns
returns c =
    subst (λ (o : Option Spot). IfOk c.last_of.result (λ spot. spot ≡ o))
    (ap (λ n. last_or None (take n (shown c.args.self.now.schema.now.types [] c.args.self.now.rows.now))) c.through_above.ensures.through
    ∙ above_is c.args.self.now.schema.now.types c.args.spot.now c.args.self.now.rows.now c.rows_before-before.result c.rows_before-before.ensures.before c.rows_before-before.ensures.within)
    c.last_of.ensures
