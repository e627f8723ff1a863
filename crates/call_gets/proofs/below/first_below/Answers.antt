use Rattle.std.proofs.Common.{◌≡◌, ◌≤◌, ◌+◌, ◌*◌, List, None, refl, sym, ◌∙◌, arith}
use Rattle.std.specs.Option.{option_map}
use Rattle.hal_schema.specs.declared.row.Row.{Row}
use Rattle.position_state.specs.Looks.{found_at}
use Rattle.call_gets.specs.Below.{rows_around}
use Rattle.call_gets.specs.Scan.{IsGot, LooksWithin, met_below, on_its_path, plain_view}
use Rattle.call_gets.proofs.Looking.{one_more, where_told, told_at, shows_for, differ_told, place_told}
use Rattle.call_gets.proofs.Finding.{if_ok}
use Rattle.call_gets.proofs.Records.{below_nothing}
use Rattle.call_gets.proofs.below.first_below.Goals as goal

pub below_one-requires-clause-found : goal.below_one-requires-clause-found
below_one-requires-clause-found g c = λ rows e.
    let a = g.W.Walk.seen c.args.walk.now in
    let schema = c.args.schema.now in
    let k = sym c.here.ensures.looked.forest ∙ e in
    sym (shows_for a a schema rows (found_at c.args.parent.now) c.in_ok-here.field-0 refl refl c.requires.schema k c.in_ok-here.ensures.shows) ∙ c.in-Some.is

pub returns-in-None-clause-got : goal.returns-in-None-clause-got
returns-in-None-clause-got g c =
    let a = g.W.Walk.seen c.args.walk.now in
    let schema = c.args.schema.now in
    let ssas = c.args.ssas.now in
    let at = c.args.at.now in
    let parent = c.args.parent.now in
    where_told a.forest (λ (rows : List Row). None ≡ met_below schema ssas at parent (plain_view schema rows))
    (λ rows e. below_nothing schema (plain_view schema rows) ssas at parent (differ_told c.places_differ.ensures a schema rows (g.met.W.Walk.keeps_forest c.args.walk.now) c.requires.schema e)
    (place_told a schema rows at c.requires.schema e c.requires.there)
    (sym (shows_for a a schema rows (found_at parent) c.in_ok-here.field-0 refl refl c.requires.schema e c.in_ok-here.ensures.shows) ∙ c.in-None.is))

pub returns-in-Some-clause-got : goal.returns-in-Some-clause-got
returns-in-Some-clause-got g c =
    let a = g.W.Walk.seen c.args.walk.now in
    let b = g.W.Walk.seen c.here.new.self in
    let schema = c.args.schema.now in
    let wanted = met_below schema c.args.ssas.now c.args.at.now c.args.parent.now in
    if_ok c.below_one.result (IsGot schema b wanted) (IsGot schema a wanted)
    (λ met h. where_told a.forest (λ (rows : List Row). option_map on_its_path met ≡ wanted (plain_view schema rows))
    (λ rows k. told_at b.forest rows (λ (r : List Row). option_map on_its_path met ≡ wanted (plain_view schema r)) (c.here.ensures.looked.forest ∙ k) h))
    c.below_one.ensures.got

pub returns-in-None-clause-few : goal.returns-in-None-clause-few
returns-in-None-clause-few g c = λ h.
    let a = g.W.Walk.seen c.args.walk.now in
    let new = g.W.Walk.seen c.here.new.self in
    where_told a.forest (λ (rows : List Row). new.looks ≤ a.looks + (5 + 2 * rows_around c.args.parent.now (plain_view c.args.schema.now rows))) (λ rows e. omega (arith, one_more c.here.ensures.looked))

pub returns-in-Some-clause-few : goal.returns-in-Some-clause-few
returns-in-Some-clause-few g c =
    let a = g.W.Walk.seen c.args.walk.now in
    let b = g.W.Walk.seen c.here.new.self in
    let new = g.W.Walk.seen c.below_one.new.walk in
    let schema = c.args.schema.now in
    let ssas = c.args.ssas.now in
    let parent = c.args.parent.now in
    if_ok c.below_one.result (λ met. LooksWithin ssas b new (λ rows. 4 + 2 * rows_around parent (plain_view schema rows))) (λ met. LooksWithin ssas a new (λ rows. 5 + 2 * rows_around parent (plain_view schema rows)))
    (λ met few h. where_told a.forest (λ (rows : List Row). new.looks ≤ a.looks + (5 + 2 * rows_around parent (plain_view schema rows)))
    (λ rows k. omega (arith, one_more c.here.ensures.looked, told_at b.forest rows (λ (r : List Row). new.looks ≤ b.looks + (4 + 2 * rows_around parent (plain_view schema r))) (c.here.ensures.looked.forest ∙ k) (few h))))
    c.below_one.ensures.few
