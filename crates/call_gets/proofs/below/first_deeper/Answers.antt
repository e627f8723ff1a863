use Rattle.std.proofs.Common.{◌≡◌, ◌≤◌, ◌+◌, length, List, Some, sym, ap, subst, ◌∙◌, arith}
use Rattle.std.specs.Option.{option_map}
use Rattle.hal_schema.specs.declared.row.Row.{Row}
use Rattle.hal_schema.specs.declared.schema.Schema.{Schema}
use Rattle.position_state.specs.declared.spot.Spot.{Spot}
use Rattle.position_state.specs.View.{behind}
use Rattle.call_gets.specs.Below.{deeper_around}
use Rattle.call_gets.specs.Scan.{IsGot, IsPath, LooksWithin, inside_ahead, met_behind, on_its_path, plain_view}
use Rattle.call_gets.proofs.Looking.{where_told, told_at}
use Rattle.call_gets.proofs.Finding.{if_ok}
use Rattle.call_gets.proofs.below.first_deeper.Goals as goal

pub first_from-requires-clause-path : goal.first_from-requires-clause-path
first_from-requires-clause-path g c = λ rows e.
    let a = g.W.Walk.seen c.args.walk.now in
    subst (λ (s : Schema). IsPath (plain_view s rows) c.args.spot.now.at c.in_ok-path.path.items) c.requires.schema
    (told_at a.forest rows (λ (r : List Row). IsPath (plain_view a.schema r) c.args.spot.now.at c.in_ok-path.path.items) (sym c.path_to.ensures.looked.forest ∙ e) c.in_ok-path.ensures.path)

pub returns-clause-met : goal.returns-clause-met
returns-clause-met g c =
    let a = g.W.Walk.seen c.args.walk.now in
    let b = g.W.Walk.seen c.path_to.new.walk in
    let schema = c.args.schema.now in
    let ssas = c.args.ssas.now in
    let spot = c.args.spot.now in
    if_ok c.first_from.result (IsGot schema b (met_behind schema ssas (Some spot.level) spot.at)) (IsGot schema a (met_behind schema ssas (Some spot.level) spot.at))
    (λ met h. where_told a.forest (λ (rows : List Row). option_map on_its_path met ≡ met_behind schema ssas (Some spot.level) spot.at (plain_view schema rows))
    (λ rows k. told_at b.forest rows (λ (r : List Row). option_map on_its_path met ≡ met_behind schema ssas (Some spot.level) spot.at (plain_view schema r)) (c.path_to.ensures.looked.forest ∙ k) h))
    c.first_from.ensures.met

pub returns-clause-few : goal.returns-clause-few
returns-clause-few g c =
    let a = g.W.Walk.seen c.args.walk.now in
    let b = g.W.Walk.seen c.path_to.new.walk in
    let new = g.W.Walk.seen c.first_from.new.walk in
    let schema = c.args.schema.now in
    let ssas = c.args.ssas.now in
    let spot = c.args.spot.now in
    if_ok c.first_from.result (λ met. LooksWithin ssas b new (λ rows. 1 + inside_ahead (Some spot.level) (behind spot.at (plain_view schema rows)))) (λ met. LooksWithin ssas a new (λ rows. 2 + deeper_around spot (plain_view schema rows)))
    (λ met few h. where_told a.forest (λ (rows : List Row). new.looks ≤ a.looks + (2 + deeper_around spot (plain_view schema rows)))
    (λ rows k.
    let p = subst (λ (s : Schema). IsPath (plain_view s rows) spot.at c.in_ok-path.path.items) c.requires.schema
    (told_at a.forest rows (λ (r : List Row). IsPath (plain_view a.schema r) spot.at c.in_ok-path.path.items) k c.in_ok-path.ensures.path) in
    let size = ap (λ (ys : List Spot). length ys) p.same in
    omega (
      arith,
      size,
      c.in_ok-path.ensures.few,
      told_at b.forest rows (λ (r : List Row). new.looks ≤ b.looks + (1 + inside_ahead (Some spot.level) (behind spot.at (plain_view schema r)))) (c.path_to.ensures.looked.forest ∙ k) (few h),
    )))
    c.first_from.ensures.few
