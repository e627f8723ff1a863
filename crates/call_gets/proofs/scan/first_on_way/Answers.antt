use Rattle.std.proofs.Common.{◌≡◌, ◌≤◌, ◌+◌, true, not, List, None, Some, refl, sym, ap, ◌∙◌, arith}
use Rattle.std.specs.Prelude.{find}
use Rattle.std.specs.Option.{option_copied, option_map}
use Rattle.hal_schema.specs.declared.row.Row.{Row}
use Rattle.hal_schema.specs.declared.schema.Schema.{Schema}
use Rattle.hal_schema.specs.Forest.{is_forest}
use Rattle.position_state.specs.declared.spot.Spot.{Spot}
use Rattle.position_state.specs.Looks.{past}
use Rattle.dli_calls.specs.Gets.{paths_behind}
use Rattle.dli_calls.specs.Meets.{on_paths}
use Rattle.call_gets.specs.Passed.{LooksBehind, all_lead, leads, passed, passed_from}
use Rattle.call_gets.specs.Scan.{IsFirstMet, IsGot, met_behind, met_from, on_its_path, plain_view}
use Rattle.call_gets.proofs.Finding.{if_ok}
use Rattle.call_gets.proofs.Leaving.{all_on_way, off_place, past_from}
use Rattle.call_gets.proofs.Looking.{one_more, where_told, told_at, shows_for, stands_at, differ_told, forest_at, place_told}
use Rattle.call_gets.proofs.scan.first_on_way.Goals as goal

pub returns-in_default-clause-passing : goal.returns-in_default-clause-passing
returns-in_default-clause-passing g c =
    let a = g.W.Walk.seen c.args.walk.now in
    let schema = c.args.schema.now in
    let ssas = c.args.ssas.now in
    let none : find (λ (s : Spot). not (leads schema ssas s.code)) c.args.path.items ≡ None =
    ap (find (λ (s : Spot). not (leads schema ssas s.code))) (sym c.deref.ensures.value) ∙ sym c.off_way.ensures ∙ ap option_copied c.in_default.is in
    if_ok c.first_from.result (λ met. all_lead schema ssas c.args.path.items ≡ true → LooksBehind schema ssas c.args.at.now a (g.W.Walk.seen c.first_from.new.walk))
    (λ met. LooksBehind schema ssas c.args.at.now a (g.W.Walk.seen c.first_from.new.walk))
    (λ met few. few (all_on_way schema ssas c.args.path.items none))
    c.first_from.ensures.passing

pub past-requires-clause-there : goal.past-requires-clause-there
past-requires-clause-there g c =
    let a = g.W.Walk.seen c.args.walk.now in
    let schema = c.args.schema.now in
    let ssas = c.args.ssas.now in
    let some : find (λ (s : Spot). not (leads schema ssas s.code)) c.args.path.items ≡ Some c.in-Some.spot.now =
    ap (find (λ (s : Spot). not (leads schema ssas s.code))) (sym c.deref.ensures.value) ∙ sym c.off_way.ensures ∙ ap option_copied c.in-Some.is in
    stands_at a a schema c.in-Some.spot.now.at refl refl c.requires.schema
    (λ rows e. off_place schema (plain_view schema rows) ssas c.args.path.items c.in-Some.spot.now (differ_told c.places_differ.ensures a schema rows (g.met.W.Walk.keeps_forest c.args.walk.now) c.requires.schema e)
    (c.requires.path rows e).found some)

pub first_met-requires-clause-shown : goal.first_met-requires-clause-shown
first_met-requires-clause-shown g c = λ rows e.
    let a = g.W.Walk.seen c.args.walk.now in
    let schema = c.args.schema.now in
    let ssas = c.args.ssas.now in
    let k = sym c.past.ensures.looked.forest ∙ e in
    let some : find (λ (s : Spot). not (leads schema ssas s.code)) c.args.path.items ≡ Some c.in-Some.spot.now =
    ap (find (λ (s : Spot). not (leads schema ssas s.code))) (sym c.deref.ensures.value) ∙ sym c.off_way.ensures ∙ ap option_copied c.in-Some.is in
    (past_from schema (c.schemas_are_kept.ensures schema) (plain_view schema rows) ssas c.args.at.now c.args.path.items c.leave.new.path.items c.in-Some.spot.now c.in_ok-next.next
    (differ_told c.places_differ.ensures a schema rows (g.met.W.Walk.keeps_forest c.args.walk.now) c.requires.schema k) (place_told a schema rows c.args.at.now c.requires.schema k c.requires.there) (c.requires.path rows k)
    (c.types_go_down.ensures schema rows (ap (λ (s : Schema). is_forest s rows) (sym c.requires.schema) ∙ forest_at a rows (g.met.W.Walk.keeps_forest c.args.walk.now) k)) some
    (shows_for a a schema rows (past c.in-Some.spot.now) c.in_ok-next.next refl refl c.requires.schema k c.in_ok-next.ensures.shows) c.leave.ensures).found

pub first_met-requires-clause-down : goal.first_met-requires-clause-down
first_met-requires-clause-down g c = λ rows e.
    let a = g.W.Walk.seen c.args.walk.now in
    let schema = c.args.schema.now in
    let ssas = c.args.ssas.now in
    let k = sym c.past.ensures.looked.forest ∙ e in
    let some : find (λ (s : Spot). not (leads schema ssas s.code)) c.args.path.items ≡ Some c.in-Some.spot.now =
    ap (find (λ (s : Spot). not (leads schema ssas s.code))) (sym c.deref.ensures.value) ∙ sym c.off_way.ensures ∙ ap option_copied c.in-Some.is in
    (past_from schema (c.schemas_are_kept.ensures schema) (plain_view schema rows) ssas c.args.at.now c.args.path.items c.leave.new.path.items c.in-Some.spot.now c.in_ok-next.next
    (differ_told c.places_differ.ensures a schema rows (g.met.W.Walk.keeps_forest c.args.walk.now) c.requires.schema k) (place_told a schema rows c.args.at.now c.requires.schema k c.requires.there) (c.requires.path rows k)
    (c.types_go_down.ensures schema rows (ap (λ (s : Schema). is_forest s rows) (sym c.requires.schema) ∙ forest_at a rows (g.met.W.Walk.keeps_forest c.args.walk.now) k)) some
    (shows_for a a schema rows (past c.in-Some.spot.now) c.in_ok-next.next refl refl c.requires.schema k c.in_ok-next.ensures.shows) c.leave.ensures).down

pub returns-clause-met : goal.returns-clause-met
returns-clause-met g c =
    let a = g.W.Walk.seen c.args.walk.now in
    let d = g.W.Walk.seen c.past.new.self in
    let schema = c.args.schema.now in
    let ssas = c.args.ssas.now in
    let at = c.args.at.now in
    let now = c.leave.new.path.items in
    let some : find (λ (s : Spot). not (leads schema ssas s.code)) c.args.path.items ≡ Some c.in-Some.spot.now =
    ap (find (λ (s : Spot). not (leads schema ssas s.code))) (sym c.deref.ensures.value) ∙ sym c.off_way.ensures ∙ ap option_copied c.in-Some.is in
    if_ok c.first_met.result (IsFirstMet schema d ssas None now c.in_ok-next.next) (IsGot schema a (met_behind schema ssas None at))
    (λ met h. where_told a.forest (λ (rows : List Row). option_map on_its_path met ≡ met_behind schema ssas None at (plain_view schema rows))
    (λ rows k. told_at d.forest rows (λ (r : List Row). option_map on_its_path met ≡ met_from schema (plain_view schema r) ssas None now c.in_ok-next.next) (c.past.ensures.looked.forest ∙ k) h
    ∙ (past_from schema (c.schemas_are_kept.ensures schema) (plain_view schema rows) ssas at c.args.path.items now c.in-Some.spot.now c.in_ok-next.next
    (differ_told c.places_differ.ensures a schema rows (g.met.W.Walk.keeps_forest c.args.walk.now) c.requires.schema k) (place_told a schema rows at c.requires.schema k c.requires.there) (c.requires.path rows k)
    (c.types_go_down.ensures schema rows (ap (λ (s : Schema). is_forest s rows) (sym c.requires.schema) ∙ forest_at a rows (g.met.W.Walk.keeps_forest c.args.walk.now) k)) some
    (shows_for a a schema rows (past c.in-Some.spot.now) c.in_ok-next.next refl refl c.requires.schema k c.in_ok-next.ensures.shows) c.leave.ensures).met))
    c.first_met.ensures.met

pub returns-clause-passing : goal.returns-clause-passing
returns-clause-passing g c =
    let a = g.W.Walk.seen c.args.walk.now in
    let d = g.W.Walk.seen c.past.new.self in
    let new = g.W.Walk.seen c.first_met.new.walk in
    let schema = c.args.schema.now in
    let ssas = c.args.ssas.now in
    let at = c.args.at.now in
    let now = c.leave.new.path.items in
    let some : find (λ (s : Spot). not (leads schema ssas s.code)) c.args.path.items ≡ Some c.in-Some.spot.now =
    ap (find (λ (s : Spot). not (leads schema ssas s.code))) (sym c.deref.ensures.value) ∙ sym c.off_way.ensures ∙ ap option_copied c.in-Some.is in
    if_ok c.first_met.result (IsFirstMet schema d ssas None now c.in_ok-next.next) (λ met. LooksBehind schema ssas at a new)
    (λ met m h. where_told a.forest (λ (rows : List Row). let view = plain_view schema rows in new.looks ≤ a.looks + (2 + passed schema view ssas (paths_behind at (on_paths view))))
    (λ rows k.
    let p = past_from schema (c.schemas_are_kept.ensures schema) (plain_view schema rows) ssas at c.args.path.items now c.in-Some.spot.now c.in_ok-next.next
    (differ_told c.places_differ.ensures a schema rows (g.met.W.Walk.keeps_forest c.args.walk.now) c.requires.schema k) (place_told a schema rows at c.requires.schema k c.requires.there) (c.requires.path rows k)
    (c.types_go_down.ensures schema rows (ap (λ (s : Schema). is_forest s rows) (sym c.requires.schema) ∙ forest_at a rows (g.met.W.Walk.keeps_forest c.args.walk.now) k)) some
    (shows_for a a schema rows (past c.in-Some.spot.now) c.in_ok-next.next refl refl c.requires.schema k c.in_ok-next.ensures.shows) c.leave.ensures in
    let few = told_at d.forest rows (λ (r : List Row). new.looks ≤ d.looks + (1 + passed_from schema (plain_view schema r) ssas now c.in_ok-next.next)) (c.past.ensures.looked.forest ∙ k) (c.first_met.ensures.passing p.lead h) in
    omega (arith, few, p.fewer, one_more c.past.ensures.looked)))
    c.first_met.ensures.met
