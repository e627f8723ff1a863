use Rattle.std.proofs.Common.{◌≡◌, ◌≤◌, ◌+◌, true, List, Option, refl, sym, ap, ◌∙◌, arith}
use Rattle.std.specs.Option.{option_map}
use Rattle.hal_schema.specs.declared.row.Row.{Row}
use Rattle.hal_schema.specs.declared.schema.Schema.{Schema}
use Rattle.hal_schema.specs.Forest.{is_forest}
use Rattle.position_state.specs.declared.spot.Spot.{Spot}
use Rattle.position_state.specs.View.{behind}
use Rattle.position_state.specs.Looks.{first_behind}
use Rattle.dli_calls.specs.Gets.{paths_behind}
use Rattle.dli_calls.specs.Meets.{on_paths}
use Rattle.call_gets.specs.Passed.{LooksBehind, all_lead, passed, passed_from}
use Rattle.call_gets.specs.Scan.{IsFirstMet, IsGot, LooksWithin, from_on, inside_ahead, met_behind, met_from, on_its_path, plain_view}
use Rattle.call_gets.proofs.Looking.{one_more, where_told, told_at, shows_for, differ_told, forest_at, place_told}
use Rattle.call_gets.proofs.Finding.{if_ok, begins, down_behind, meets_behind, passes_behind}
use Rattle.call_gets.proofs.Stepping.{ends_any, next_of}
use Rattle.call_gets.proofs.scan.first_from.Goals as goal

pub first_met-requires-clause-shown : goal.first_met-requires-clause-shown
first_met-requires-clause-shown g c = λ rows e.
    let a = g.W.Walk.seen c.args.walk.now in
    let schema = c.args.schema.now in
    let k = sym c.after.ensures.looked.forest ∙ e in
    begins (plain_view schema rows) c.args.at.now c.args.path.items c.in_ok-first.first (differ_told c.places_differ.ensures a schema rows (g.met.W.Walk.keeps_forest c.args.walk.now) c.requires.schema k)
    (c.requires.path rows k)
    (shows_for a a schema rows (first_behind c.args.at.now) c.in_ok-first.first refl refl c.requires.schema k c.in_ok-first.ensures.shows)

pub returns-clause-met : goal.returns-clause-met
returns-clause-met g c =
    let a = g.W.Walk.seen c.args.walk.now in
    let d = g.W.Walk.seen c.after.new.self in
    let schema = c.args.schema.now in
    let ssas = c.args.ssas.now in
    let at = c.args.at.now in
    if_ok c.first_met.result (IsFirstMet schema d ssas c.args.top c.args.path.items c.in_ok-first.first) (IsGot schema a (met_behind schema ssas c.args.top at))
    (λ met h. where_told a.forest (λ (rows : List Row). option_map on_its_path met ≡ met_behind schema ssas c.args.top at (plain_view schema rows))
    (λ rows k. meets_behind schema (plain_view schema rows) ssas c.args.top at c.args.path.items c.in_ok-first.first (option_map on_its_path met)
    (differ_told c.places_differ.ensures a schema rows (g.met.W.Walk.keeps_forest c.args.walk.now) c.requires.schema k)
    (c.requires.path rows k)
    (shows_for a a schema rows (first_behind at) c.in_ok-first.first refl refl c.requires.schema k c.in_ok-first.ensures.shows)
    (told_at d.forest rows (λ (r : List Row). option_map on_its_path met ≡ met_from schema (plain_view schema r) ssas c.args.top c.args.path.items c.in_ok-first.first) (c.after.ensures.looked.forest ∙ k) h)))
    c.first_met.ensures.met

pub first_met-requires-clause-down : goal.first_met-requires-clause-down
first_met-requires-clause-down g c = λ rows e.
    let a = g.W.Walk.seen c.args.walk.now in
    let schema = c.args.schema.now in
    let k = sym c.after.ensures.looked.forest ∙ e in
    down_behind schema (plain_view schema rows) c.args.at.now c.args.path.items c.in_ok-first.first (differ_told c.places_differ.ensures a schema rows (g.met.W.Walk.keeps_forest c.args.walk.now) c.requires.schema k)
    (place_told a schema rows c.args.at.now c.requires.schema k c.requires.there) (c.requires.path rows k)
    (shows_for a a schema rows (first_behind c.args.at.now) c.in_ok-first.first refl refl c.requires.schema k c.in_ok-first.ensures.shows)
    (c.types_go_down.ensures schema rows (ap (λ (s : Schema). is_forest s rows) (sym c.requires.schema) ∙ forest_at a rows (g.met.W.Walk.keeps_forest c.args.walk.now) k))

pub returns-clause-few : goal.returns-clause-few
returns-clause-few g c =
    let a = g.W.Walk.seen c.args.walk.now in
    let d = g.W.Walk.seen c.after.new.self in
    let new = g.W.Walk.seen c.first_met.new.walk in
    let schema = c.args.schema.now in
    let at = c.args.at.now in
    if_ok c.first_met.result (IsFirstMet schema d c.args.ssas.now c.args.top c.args.path.items c.in_ok-first.first) (λ met. LooksWithin c.args.ssas.now a new (λ rows. 1 + inside_ahead c.args.top (behind at (plain_view schema rows))))
    (λ met m h. where_told a.forest (λ (rows : List Row). new.looks ≤ a.looks + (1 + inside_ahead c.args.top (behind at (plain_view schema rows))))
    (λ rows k. let view = plain_view schema rows in
    let few : new.looks ≤ d.looks + inside_ahead c.args.top (from_on view c.in_ok-first.first) =
    told_at d.forest rows (λ (r : List Row). new.looks ≤ d.looks + inside_ahead c.args.top (from_on (plain_view schema r) c.in_ok-first.first)) (c.after.ensures.looked.forest ∙ k) (c.first_met.ensures.few h) in
    let same = ap (λ (o : Option Spot). inside_ahead c.args.top (from_on view o)) (shows_for a a schema rows (first_behind at) c.in_ok-first.first refl refl c.requires.schema k c.in_ok-first.ensures.shows) in
    let ends = ap (inside_ahead c.args.top) (next_of view (behind at view) (differ_told c.places_differ.ensures a schema rows (g.met.W.Walk.keeps_forest c.args.walk.now) c.requires.schema k) (ends_any view at)).is in
    omega (arith, few, same, ends, one_more c.after.ensures.looked)))
    c.first_met.ensures.met

pub returns-clause-passing : goal.returns-clause-passing
returns-clause-passing g c =
    let a = g.W.Walk.seen c.args.walk.now in
    let d = g.W.Walk.seen c.after.new.self in
    let new = g.W.Walk.seen c.first_met.new.walk in
    let schema = c.args.schema.now in
    let ssas = c.args.ssas.now in
    let at = c.args.at.now in
    let path = c.args.path.items in
    if_ok c.first_met.result (IsFirstMet schema d ssas c.args.top path c.in_ok-first.first) (λ met. all_lead schema ssas path ≡ true → LooksBehind schema ssas at a new)
    (λ met m lead h. where_told a.forest (λ (rows : List Row). let view = plain_view schema rows in new.looks ≤ a.looks + (2 + passed schema view ssas (paths_behind at (on_paths view))))
    (λ rows k. let view = plain_view schema rows in
    let few : new.looks ≤ d.looks + (1 + passed_from schema view ssas path c.in_ok-first.first) =
    told_at d.forest rows (λ (r : List Row). new.looks ≤ d.looks + (1 + passed_from schema (plain_view schema r) ssas path c.in_ok-first.first)) (c.after.ensures.looked.forest ∙ k) (c.first_met.ensures.passing lead h) in
    let same = passes_behind schema view ssas at path c.in_ok-first.first (differ_told c.places_differ.ensures a schema rows (g.met.W.Walk.keeps_forest c.args.walk.now) c.requires.schema k)
    (place_told a schema rows at c.requires.schema k c.requires.there) (c.requires.path rows k)
    (shows_for a a schema rows (first_behind at) c.in_ok-first.first refl refl c.requires.schema k c.in_ok-first.ensures.shows) in
    omega (arith, few, same, one_more c.after.ensures.looked)))
    c.first_met.ensures.met
