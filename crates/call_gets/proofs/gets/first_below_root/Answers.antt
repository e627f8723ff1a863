use Rattle.std.proofs.Common.{◌≡◌, ◌+◌, ◌≤◌, true, [], ◌∷◌, ◌++◌, List, Option, Some, refl, sym, ap, ◌∙◌, arith}
use Rattle.std.specs.Option.{option_map}
use Rattle.hal_schema.specs.declared.row.Row.{Row}
use Rattle.hal_schema.specs.declared.schema.Schema.{Schema}
use Rattle.hal_schema.specs.Forest.{is_forest}
use Rattle.position_state.specs.declared.spot.Spot.{Spot}
use Rattle.position_state.specs.Looks.{first_behind}
use Rattle.call_gets.specs.Scan.{IsFirstMet, IsGot, from_on, inside_ahead, met_from, on_its_path, plain_view}
use Rattle.call_gets.proofs.ByRecord.{alone_shown, down_alone}
use Rattle.call_gets.proofs.Finding.{if_ok}
use Rattle.call_gets.proofs.Looking.{where_told, told_at, shows_for, stands_at, differ_told, forest_at, one_more}
use Rattle.call_gets.proofs.Stepping.{place_of_found}
use Rattle.call_gets.proofs.gets.first_below_root.Goals as goal

pub after-requires-clause-there : goal.after-requires-clause-there
after-requires-clause-there g c =
    let a = g.W.Walk.seen c.args.walk.now in
    let schema = c.args.schema.now in
    stands_at a a schema c.args.root.at refl refl c.requires.schema
    (λ rows e. place_of_found (plain_view schema rows) c.args.root (differ_told c.places_differ.ensures a schema rows (g.met.W.Walk.keeps_forest c.args.walk.now) c.requires.schema e) (c.requires.shown rows e))

pub first_met-requires-clause-shown : goal.first_met-requires-clause-shown
first_met-requires-clause-shown g c = λ rows e.
    let a = g.W.Walk.seen c.args.walk.now in
    let schema = c.args.schema.now in
    let k = sym c.after.ensures.looked.forest ∙ e in
    alone_shown (plain_view schema rows) c.args.root c.join.new.path.items c.in_ok-next.next (differ_told c.places_differ.ensures a schema rows (g.met.W.Walk.keeps_forest c.args.walk.now) c.requires.schema k)
    (c.requires.shown rows k) (c.in_ok-join.ensures ∙ ap (λ (ys : List Spot). ys ++ c.args.root ∷ []) c.new-path.ensures.items)
    (shows_for a a schema rows (first_behind c.args.root.at) c.in_ok-next.next refl refl c.requires.schema k c.in_ok-next.ensures.shows)

pub returns-clause-met : goal.returns-clause-met
returns-clause-met g c =
    let a = g.W.Walk.seen c.args.walk.now in
    let d = g.W.Walk.seen c.after.new.self in
    let schema = c.args.schema.now in
    let ssas = c.args.ssas.now in
    let root = c.args.root in
    let wanted = λ (view : List Spot). met_from schema view ssas (Some 1) (root ∷ []) (first_behind root.at view) in
    if_ok c.first_met.result (IsFirstMet schema d ssas (Some 1) c.join.new.path.items c.in_ok-next.next) (IsGot schema a wanted)
    (λ met h. where_told a.forest (λ (rows : List Row). option_map on_its_path met ≡ wanted (plain_view schema rows))
    (λ rows k. let view = plain_view schema rows in
    told_at d.forest rows (λ (r : List Row). option_map on_its_path met ≡ met_from schema (plain_view schema r) ssas (Some 1) c.join.new.path.items c.in_ok-next.next) (c.after.ensures.looked.forest ∙ k) h
    ∙ ap (λ (path : List Spot). met_from schema view ssas (Some 1) path c.in_ok-next.next) (c.in_ok-join.ensures ∙ ap (λ (ys : List Spot). ys ++ root ∷ []) c.new-path.ensures.items)
    ∙ ap (met_from schema view ssas (Some 1) (root ∷ [])) (shows_for a a schema rows (first_behind root.at) c.in_ok-next.next refl refl c.requires.schema k c.in_ok-next.ensures.shows)))
    c.first_met.ensures.met

pub returns-clause-few : goal.returns-clause-few
returns-clause-few g c = λ h.
    let a = g.W.Walk.seen c.args.walk.now in
    let d = g.W.Walk.seen c.after.new.self in
    let new = g.W.Walk.seen c.first_met.new.walk in
    let schema = c.args.schema.now in
    let root = c.args.root in
    where_told a.forest (λ (rows : List Row). new.looks ≤ a.looks + (1 + inside_ahead (Some 1) (from_on (plain_view schema rows) (first_behind root.at (plain_view schema rows)))))
    (λ rows k. let view = plain_view schema rows in
    let few : new.looks ≤ d.looks + inside_ahead (Some 1) (from_on view c.in_ok-next.next) =
    told_at d.forest rows (λ (r : List Row). new.looks ≤ d.looks + inside_ahead (Some 1) (from_on (plain_view schema r) c.in_ok-next.next)) (c.after.ensures.looked.forest ∙ k) (c.first_met.ensures.few h) in
    let same = ap (λ (o : Option Spot). inside_ahead (Some 1) (from_on view o)) (shows_for a a schema rows (first_behind root.at) c.in_ok-next.next refl refl c.requires.schema k c.in_ok-next.ensures.shows) in
    omega (arith, few, same, one_more c.after.ensures.looked))

pub returns-in_err-next-clause-few : goal.returns-in_err-next-clause-few
returns-in_err-next-clause-few g c = λ h.
    let a = g.W.Walk.seen c.args.walk.now in
    let new = g.W.Walk.seen c.after.new.self in
    where_told a.forest (λ (rows : List Row). new.looks ≤ a.looks + (1 + inside_ahead (Some 1) (from_on (plain_view c.args.schema.now rows) (first_behind c.args.root.at (plain_view c.args.schema.now rows)))))
    (λ rows k. omega (arith, one_more c.after.ensures.looked))

pub returns-in_err-join-clause-few : goal.returns-in_err-join-clause-few
returns-in_err-join-clause-few g c = λ h.
    let a = g.W.Walk.seen c.args.walk.now in
    let new = g.W.Walk.seen c.after.new.self in
    where_told a.forest (λ (rows : List Row). new.looks ≤ a.looks + (1 + inside_ahead (Some 1) (from_on (plain_view c.args.schema.now rows) (first_behind c.args.root.at (plain_view c.args.schema.now rows)))))
    (λ rows k. omega (arith, one_more c.after.ensures.looked))

pub first_met-requires-clause-down : goal.first_met-requires-clause-down
first_met-requires-clause-down g c = λ rows e.
    let a = g.W.Walk.seen c.args.walk.now in
    let schema = c.args.schema.now in
    let k = sym c.after.ensures.looked.forest ∙ e in
    let forest : is_forest schema rows ≡ true = ap (λ (s : Schema). is_forest s rows) (sym c.requires.schema) ∙ forest_at a rows (g.met.W.Walk.keeps_forest c.args.walk.now) k in
    down_alone schema (plain_view schema rows) c.args.root c.join.new.path.items c.in_ok-next.next (differ_told c.places_differ.ensures a schema rows (g.met.W.Walk.keeps_forest c.args.walk.now) c.requires.schema k)
    (c.requires.shown rows k) (c.requires.top rows k) (c.in_ok-join.ensures ∙ ap (λ (ys : List Spot). ys ++ c.args.root ∷ []) c.new-path.ensures.items)
    (shows_for a a schema rows (first_behind c.args.root.at) c.in_ok-next.next refl refl c.requires.schema k c.in_ok-next.ensures.shows)
    (c.roots_are_keyed.ensures schema rows forest) (c.types_go_down.ensures schema rows forest)
