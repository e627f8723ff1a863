use Rattle.std.proofs.Common.{◌≡◌, ◌≤◌, ◌+◌, ◌*◌, List, None, Some, refl, sym, ◌∙◌, arith}
use Rattle.std.specs.Option.{option_map}
use Rattle.hal_schema.specs.declared.row.Row.{Row}
use Rattle.call_gets.specs.Below.{deeper_around, rows_around}
use Rattle.call_gets.specs.Scan.{IsGot, LooksWithin, met_behind, met_below, on_its_path, plain_view}
use Rattle.call_gets.proofs.Looking.{where_told, told_at, stands_at, differ_told, place_told}
use Rattle.call_gets.proofs.Counting.{few_deeper, path_shown, small_one}
use Rattle.call_gets.proofs.Finding.{if_ok}
use Rattle.call_gets.proofs.Parting.{below_later, later_stands}
use Rattle.call_gets.proofs.Records.{ahead, behind_all, in_one, ordered}
use Rattle.call_gets.proofs.below.below_one.Goals as goal

pub first_deeper-requires-clause-there : goal.first_deeper-requires-clause-there
first_deeper-requires-clause-there g c =
    let a = g.W.Walk.seen c.args.walk.now in
    let schema = c.args.schema.now in
    stands_at a a schema c.args.spot.now.at refl refl c.requires.schema
    (λ rows e. let view = plain_view schema rows in
    let d = differ_told c.places_differ.ensures a schema rows (g.met.W.Walk.keeps_forest c.args.walk.now) c.requires.schema e in
    let o = ordered c.roots_are_keyed.ensures c.roots_rise.ensures c.records_stand_together.ensures c.types_go_down.ensures c.root_order_is_total.ensures.total a schema rows (g.met.W.Walk.keeps_forest c.args.walk.now) c.requires.schema e in
    later_stands view c.args.at.now c.args.parent.now c.args.spot.now d
    (ahead schema view c.args.at.now c.args.parent.now c.args.spot.now d o (place_told a schema rows c.args.at.now c.requires.schema e c.requires.there) (c.requires.found rows e) (sym c.record_cmp.ensures ∙ c.in-Less.is)).later)

pub below_here-requires-clause-within : goal.below_here-requires-clause-within
below_here-requires-clause-within g c = λ rows e.
    let a = g.W.Walk.seen c.args.walk.now in
    let schema = c.args.schema.now in
    let view = plain_view schema rows in
    let d = differ_told c.places_differ.ensures a schema rows (g.met.W.Walk.keeps_forest c.args.walk.now) c.requires.schema e in
    let o = ordered c.roots_are_keyed.ensures c.roots_rise.ensures c.records_stand_together.ensures c.types_go_down.ensures c.root_order_is_total.ensures.total a schema rows (g.met.W.Walk.keeps_forest c.args.walk.now) c.requires.schema e in
    in_one schema view c.args.at.now c.args.parent.now c.args.spot.now d o (place_told a schema rows c.args.at.now c.requires.schema e c.requires.there) (c.requires.found rows e) (sym c.record_cmp.ensures ∙ c.in-Equal.is)

pub returns-in-Less-clause-got : goal.returns-in-Less-clause-got
returns-in-Less-clause-got g c =
    let a = g.W.Walk.seen c.args.walk.now in
    let schema = c.args.schema.now in
    let ssas = c.args.ssas.now in
    let at = c.args.at.now in
    let parent = c.args.parent.now in
    let spot = c.args.spot.now in
    if_ok c.first_deeper.result (IsGot schema a (met_behind schema ssas (Some spot.level) spot.at)) (IsGot schema a (met_below schema ssas at parent))
    (λ met h. where_told a.forest (λ (rows : List Row). option_map on_its_path met ≡ met_below schema ssas at parent (plain_view schema rows))
    (λ rows e. let view = plain_view schema rows in
    let d = differ_told c.places_differ.ensures a schema rows (g.met.W.Walk.keeps_forest c.args.walk.now) c.requires.schema e in
    let o = ordered c.roots_are_keyed.ensures c.roots_rise.ensures c.records_stand_together.ensures c.types_go_down.ensures c.root_order_is_total.ensures.total a schema rows (g.met.W.Walk.keeps_forest c.args.walk.now) c.requires.schema e in
    let there = place_told a schema rows at c.requires.schema e c.requires.there in
    let w = ahead schema view at parent spot d o there (c.requires.found rows e) (sym c.record_cmp.ensures ∙ c.in-Less.is) in
    told_at a.forest rows (λ (r : List Row). option_map on_its_path met ≡ met_behind schema ssas (Some spot.level) spot.at (plain_view schema r)) e h
    ∙ below_later schema view ssas at parent spot d there w.apart w.later))
    c.first_deeper.ensures.met

pub returns-in-Greater-clause-got : goal.returns-in-Greater-clause-got
returns-in-Greater-clause-got g c =
    let a = g.W.Walk.seen c.args.walk.now in
    let schema = c.args.schema.now in
    let ssas = c.args.ssas.now in
    let at = c.args.at.now in
    let parent = c.args.parent.now in
    where_told a.forest (λ (rows : List Row). None ≡ met_below schema ssas at parent (plain_view schema rows))
    (λ rows e. let view = plain_view schema rows in
    let d = differ_told c.places_differ.ensures a schema rows (g.met.W.Walk.keeps_forest c.args.walk.now) c.requires.schema e in
    let o = ordered c.roots_are_keyed.ensures c.roots_rise.ensures c.records_stand_together.ensures c.types_go_down.ensures c.root_order_is_total.ensures.total a schema rows (g.met.W.Walk.keeps_forest c.args.walk.now) c.requires.schema e in
    behind_all schema view ssas at parent c.args.spot.now d o (place_told a schema rows at c.requires.schema e c.requires.there) (c.requires.found rows e) (sym c.record_cmp.ensures ∙ c.in-Greater.is))

pub below_here-requires-clause-small : goal.below_here-requires-clause-small
below_here-requires-clause-small g c = λ rows e.
    let a = g.W.Walk.seen c.args.walk.now in
    let schema = c.args.schema.now in
    let view = plain_view schema rows in
    let at = c.args.at.now in
    let d = differ_told c.places_differ.ensures a schema rows (g.met.W.Walk.keeps_forest c.args.walk.now) c.requires.schema e in
    let o = ordered c.roots_are_keyed.ensures c.roots_rise.ensures c.records_stand_together.ensures c.types_go_down.ensures c.root_order_is_total.ensures.total a schema rows (g.met.W.Walk.keeps_forest c.args.walk.now) c.requires.schema e in
    small_one schema view at c.args.parent.now c.args.spot.now d o (c.root_order_is_total.ensures.exact schema) (place_told a schema rows at c.requires.schema e c.requires.there) (path_shown view at d (place_told a schema rows at c.requires.schema e c.requires.there)) (c.requires.found rows e)
    (sym c.record_cmp.ensures ∙ c.in-Equal.is)

pub returns-in-Less-clause-few : goal.returns-in-Less-clause-few
returns-in-Less-clause-few g c =
    let a = g.W.Walk.seen c.args.walk.now in
    let new = g.W.Walk.seen c.first_deeper.new.walk in
    let schema = c.args.schema.now in
    let ssas = c.args.ssas.now in
    let parent = c.args.parent.now in
    let spot = c.args.spot.now in
    if_ok c.first_deeper.result (λ met. LooksWithin ssas a new (λ rows. 2 + deeper_around spot (plain_view schema rows))) (λ met. LooksWithin ssas a new (λ rows. 4 + 2 * rows_around parent (plain_view schema rows)))
    (λ met few h. where_told a.forest (λ (rows : List Row). new.looks ≤ a.looks + (4 + 2 * rows_around parent (plain_view schema rows)))
    (λ rows e. let view = plain_view schema rows in
    let d = differ_told c.places_differ.ensures a schema rows (g.met.W.Walk.keeps_forest c.args.walk.now) c.requires.schema e in
    let o = ordered c.roots_are_keyed.ensures c.roots_rise.ensures c.records_stand_together.ensures c.types_go_down.ensures c.root_order_is_total.ensures.total a schema rows (g.met.W.Walk.keeps_forest c.args.walk.now) c.requires.schema e in
    omega (arith, told_at a.forest rows (λ (r : List Row). new.looks ≤ a.looks + (2 + deeper_around spot (plain_view schema r))) e (few h), few_deeper schema view parent spot d o (c.requires.found rows e))))
    c.first_deeper.ensures.few

pub returns-in-Greater-clause-few : goal.returns-in-Greater-clause-few
returns-in-Greater-clause-few g c = λ h.
    let a = g.W.Walk.seen c.args.walk.now in
    where_told a.forest (λ (rows : List Row). a.looks ≤ a.looks + (4 + 2 * rows_around c.args.parent.now (plain_view c.args.schema.now rows))) (λ rows e. omega arith)
