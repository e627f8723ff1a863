use Rattle.std.proofs.Common.{◌≡◌, ◌+◌, ◌≤◌, true, [], ◌∷◌, List, None, Some, refl, sym, ap, ◌∙◌, arith}
use Rattle.std.specs.Prelude.{option_and_then}
use Rattle.std.specs.Option.{option_map}
use Rattle.hal_schema.specs.declared.row.Row.{Row}
use Rattle.hal_schema.specs.declared.schema.Schema.{Schema}
use Rattle.hal_schema.specs.Forest.{is_forest}
use Rattle.position_state.specs.declared.spot.Spot.{Spot}
use Rattle.position_state.specs.Looks.{first_behind, root_of_key}
use Rattle.call_gets.specs.Keyed.{met_in_record, rows_under}
use Rattle.call_gets.specs.Scan.{IsGot, from_on, inside_ahead, met_from, on_its_path, plain_view}
use Rattle.call_gets.proofs.ByRecord.{record_bound, root_found, root_is_top}
use Rattle.call_gets.proofs.Finding.{if_ok}
use Rattle.call_gets.proofs.Looking.{where_told, told_at, shows_for, differ_told, forest_at, one_more}
use Rattle.call_gets.proofs.gets.first_in_record.Goals as goal

pub first_below_root-requires-clause-shown : goal.first_below_root-requires-clause-shown
first_below_root-requires-clause-shown g c = λ rows e.
    let a = g.W.Walk.seen c.args.walk.now in
    let schema = c.args.schema.now in
    let k = sym c.at_root.ensures.looked.forest ∙ e in
    root_found (plain_view schema rows) c.as_slice.result.now c.in-Some.root (differ_told c.places_differ.ensures a schema rows (g.met.W.Walk.keeps_forest c.args.walk.now) c.requires.schema k)
    (sym (shows_for a a schema rows (root_of_key c.as_slice.result.now) c.in_ok-at_root.field-0 refl refl c.requires.schema k c.in_ok-at_root.ensures.shows) ∙ c.in-Some.is)

pub returns-in-None-clause-met : goal.returns-in-None-clause-met
returns-in-None-clause-met g c =
    let a = g.W.Walk.seen c.args.walk.now in
    let schema = c.args.schema.now in
    let ssas = c.args.ssas.now in
    where_told a.forest (λ (rows : List Row). None ≡ met_in_record schema ssas c.args.key.now (plain_view schema rows))
    (λ rows k. let view = plain_view schema rows in
    ap (option_and_then (λ (root : Spot). met_from schema view ssas (Some 1) (root ∷ []) (first_behind root.at view)))
    (sym c.in-None.is ∙ shows_for a a schema rows (root_of_key c.as_slice.result.now) c.in_ok-at_root.field-0 refl refl c.requires.schema k c.in_ok-at_root.ensures.shows ∙ ap (λ key. root_of_key key view) c.as_slice.ensures))

pub returns-in-Some-clause-met : goal.returns-in-Some-clause-met
returns-in-Some-clause-met g c =
    let a = g.W.Walk.seen c.args.walk.now in
    let b = g.W.Walk.seen c.at_root.new.self in
    let schema = c.args.schema.now in
    let ssas = c.args.ssas.now in
    let root = c.in-Some.root in
    if_ok c.first_below_root.result (IsGot schema b (λ view. met_from schema view ssas (Some 1) (root ∷ []) (first_behind root.at view))) (IsGot schema a (met_in_record schema ssas c.args.key.now))
    (λ met h. where_told a.forest (λ (rows : List Row). option_map on_its_path met ≡ met_in_record schema ssas c.args.key.now (plain_view schema rows))
    (λ rows k. let view = plain_view schema rows in
    told_at b.forest rows (λ (r : List Row). option_map on_its_path met ≡ met_from schema (plain_view schema r) ssas (Some 1) (root ∷ []) (first_behind root.at (plain_view schema r))) (c.at_root.ensures.looked.forest ∙ k) h
    ∙ ap (option_and_then (λ (root : Spot). met_from schema view ssas (Some 1) (root ∷ []) (first_behind root.at view)))
    (sym c.in-Some.is ∙ shows_for a a schema rows (root_of_key c.as_slice.result.now) c.in_ok-at_root.field-0 refl refl c.requires.schema k c.in_ok-at_root.ensures.shows ∙ ap (λ key. root_of_key key view) c.as_slice.ensures)))
    c.first_below_root.ensures.met

pub returns-in-None-clause-within : goal.returns-in-None-clause-within
returns-in-None-clause-within g c = λ h.
    let a = g.W.Walk.seen c.args.walk.now in
    let b = g.W.Walk.seen c.at_root.new.self in
    where_told a.forest (λ (rows : List Row). b.looks ≤ a.looks + (2 + rows_under c.args.key.now (plain_view c.args.schema.now rows))) (λ rows k. omega (arith, one_more c.at_root.ensures.looked))

pub returns-in_err-at_root-clause-within : goal.returns-in_err-at_root-clause-within
returns-in_err-at_root-clause-within g c = λ h.
    let a = g.W.Walk.seen c.args.walk.now in
    let b = g.W.Walk.seen c.at_root.new.self in
    where_told a.forest (λ (rows : List Row). b.looks ≤ a.looks + (2 + rows_under c.args.key.now (plain_view c.args.schema.now rows))) (λ rows k. omega (arith, one_more c.at_root.ensures.looked))

pub returns-in-Some-clause-within : goal.returns-in-Some-clause-within
returns-in-Some-clause-within g c = λ h.
    let a = g.W.Walk.seen c.args.walk.now in
    let b = g.W.Walk.seen c.at_root.new.self in
    let new = g.W.Walk.seen c.first_below_root.new.walk in
    let schema = c.args.schema.now in
    let root = c.in-Some.root in
    where_told a.forest (λ (rows : List Row). new.looks ≤ a.looks + (2 + rows_under c.args.key.now (plain_view schema rows)))
    (λ rows k. let view = plain_view schema rows in
    let forest : is_forest schema rows ≡ true = ap (λ (s : Schema). is_forest s rows) (sym c.requires.schema) ∙ forest_at a rows (g.met.W.Walk.keeps_forest c.args.walk.now) k in
    let few : new.looks ≤ b.looks + (1 + inside_ahead (Some 1) (from_on view (first_behind root.at view))) =
    told_at b.forest rows (λ (r : List Row). new.looks ≤ b.looks + (1 + inside_ahead (Some 1) (from_on (plain_view schema r) (first_behind root.at (plain_view schema r))))) (c.at_root.ensures.looked.forest ∙ k) (c.first_below_root.ensures.few h) in
    let bound : inside_ahead (Some 1) (from_on view (first_behind root.at view)) ≤ rows_under c.args.key.now view =
    record_bound schema view c.args.key.now root (differ_told c.places_differ.ensures a schema rows (g.met.W.Walk.keeps_forest c.args.walk.now) c.requires.schema k)
    (c.roots_are_keyed.ensures schema rows forest) (c.records_stand_together.ensures schema rows forest)
    (ap (λ key. root_of_key key view) (sym c.as_slice.ensures) ∙ sym (shows_for a a schema rows (root_of_key c.as_slice.result.now) c.in_ok-at_root.field-0 refl refl c.requires.schema k c.in_ok-at_root.ensures.shows) ∙ c.in-Some.is) in
    omega (arith, few, bound, one_more c.at_root.ensures.looked))

pub first_below_root-requires-clause-top : goal.first_below_root-requires-clause-top
first_below_root-requires-clause-top g c = λ rows e.
    let a = g.W.Walk.seen c.args.walk.now in
    let schema = c.args.schema.now in
    let k = sym c.at_root.ensures.looked.forest ∙ e in
    root_is_top (plain_view schema rows) c.as_slice.result.now c.in-Some.root
    (sym (shows_for a a schema rows (root_of_key c.as_slice.result.now) c.in_ok-at_root.field-0 refl refl c.requires.schema k c.in_ok-at_root.ensures.shows) ∙ c.in-Some.is)
