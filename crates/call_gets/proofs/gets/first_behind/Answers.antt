use Rattle.std.proofs.Common.{◌≡◌, ◌≤◌, ◌+◌, [], ◌∷◌, length, List, None, sym, ap, subst, ◌∙◌, arith}
use Rattle.std.specs.Prelude.{find, IfSome}
use Rattle.std.specs.Option.{option_map}
use Rattle.std.proofs.lemmas.Bool.{true≢false}
use Rattle.hal_schema.specs.declared.row.Row.{Row}
use Rattle.hal_schema.specs.declared.schema.Schema.{Schema}
use Rattle.position_state.specs.declared.spot.Spot.{Spot}
use Rattle.position_state.specs.Looks.{first_behind}
use Rattle.dli_calls.specs.Meets.{meets, on_paths}
use Rattle.dli_calls.specs.Gets.{paths_behind}
use Rattle.call_gets.specs.Passed.{LooksBehind, LooksClimbing, passed}
use Rattle.call_gets.specs.Scan.{IsGot, IsPath, met_behind, on_its_path, path_of, plain_view}
use Rattle.call_gets.specs.Shown.{IsGiven, given}
use Rattle.call_gets.proofs.Looking.{where_told, told_at, differ_told, place_told}
use Rattle.call_gets.proofs.Finding.{if_ok, gets_behind, ok_any}
use Rattle.call_gets.proofs.Giving.{given_of_any}
use Rattle.call_gets.proofs.gets.first_behind.Goals as goal

pub first_on_way-requires-clause-path : goal.first_on_way-requires-clause-path
first_on_way-requires-clause-path g c = λ rows e.
    let a = g.W.Walk.seen c.args.walk.now in
    subst (λ (s : Schema). IsPath (plain_view s rows) c.args.at.now c.in_ok-path.path.items) c.requires.schema
    (told_at a.forest rows (λ (r : List Row). IsPath (plain_view a.schema r) c.args.at.now c.in_ok-path.path.items) (sym c.path_to.ensures.looked.forest ∙ e) c.in_ok-path.ensures.path)

pub returns-then-has_none-clause-got : goal.returns-then-has_none-clause-got
returns-then-has_none-clause-got g c =
    let a = g.W.Walk.seen c.args.walk.now in
    let schema = c.args.schema.now in
    let ssas = c.args.ssas.now in
    let at = c.args.at.now in
    if_ok c.first_of_any.result (λ met. IfSome a.forest (λ (rows : List Row). option_map on_its_path met ≡ option_map (λ (s : Spot). (s ∷ [], s)) (first_behind at (plain_view a.schema rows))))
    (IsGiven schema ssas a (λ view. find (meets schema None view ssas) (paths_behind at (on_paths view))))
    (λ met h. where_told a.forest (λ (rows : List Row). option_map (given schema ssas) (option_map on_its_path met) ≡ option_map (given schema ssas) (find (meets schema None (plain_view schema rows) ssas) (paths_behind at (on_paths (plain_view schema rows)))))
    (λ rows k. given_of_any schema (plain_view schema rows) ssas at (option_map on_its_path met) (differ_told c.places_differ.ensures a schema rows (g.met.W.Walk.keeps_forest c.args.walk.now) c.requires.schema k)
    (place_told a schema rows at c.requires.schema k c.requires.there) (sym c.has_none.ensures ∙ c.if-has_none.true)
    (subst (λ (s : Schema). option_map on_its_path met ≡ option_map (λ (x : Spot). (x ∷ [], x)) (first_behind at (plain_view s rows))) c.requires.schema
    (told_at a.forest rows (λ (r : List Row). option_map on_its_path met ≡ option_map (λ (s : Spot). (s ∷ [], s)) (first_behind at (plain_view a.schema r))) k h))))
    c.first_of_any.ensures.met

pub returns-clause-got : goal.returns-clause-got
returns-clause-got g c =
    let a = g.W.Walk.seen c.args.walk.now in
    let b = g.W.Walk.seen c.path_to.new.walk in
    let schema = c.args.schema.now in
    let ssas = c.args.ssas.now in
    let at = c.args.at.now in
    if_ok c.first_on_way.result (IsGot schema b (met_behind schema ssas None at)) (IsGiven schema ssas a (λ view. find (meets schema None view ssas) (paths_behind at (on_paths view))))
    (λ met h. where_told a.forest (λ (rows : List Row). option_map (given schema ssas) (option_map on_its_path met) ≡ option_map (given schema ssas) (find (meets schema None (plain_view schema rows) ssas) (paths_behind at (on_paths (plain_view schema rows)))))
    (λ rows k. ap (option_map (given schema ssas))
    (told_at b.forest rows (λ (r : List Row). option_map on_its_path met ≡ met_behind schema ssas None at (plain_view schema r)) (c.path_to.ensures.looked.forest ∙ k) h
    ∙ gets_behind schema (plain_view schema rows) ssas at (differ_told c.places_differ.ensures a schema rows (g.met.W.Walk.keeps_forest c.args.walk.now) c.requires.schema k)
    (place_told a schema rows at c.requires.schema k c.requires.there))))
    c.first_on_way.ensures.met

pub returns-then-has_none-clause-few : goal.returns-then-has_none-clause-few
returns-then-has_none-clause-few g c = λ e. c.first_of_any.ensures.few

pub returns-clause-few : goal.returns-clause-few
returns-clause-few g c = λ e. absurd (true≢false (sym e ∙ sym c.has_none.ensures ∙ c.if-has_none.false))

pub returns-then-has_none-clause-passing : goal.returns-then-has_none-clause-passing
returns-then-has_none-clause-passing g c =
    let a = g.W.Walk.seen c.args.walk.now in
    let new = g.W.Walk.seen c.first_of_any.new.walk in
    let schema = c.args.schema.now in
    let ssas = c.args.ssas.now in
    let at = c.args.at.now in
    ok_any c.first_of_any.result (λ met. LooksClimbing 3 schema ssas at a new)
    (λ met h. where_told a.forest (λ (rows : List Row). let view = plain_view schema rows in new.looks ≤ a.looks + (3 + length (path_of at view) + passed schema view ssas (paths_behind at (on_paths view)))) (λ rows k. omega (arith, c.first_of_any.ensures.few)))

pub returns-clause-passing : goal.returns-clause-passing
returns-clause-passing g c =
    let a = g.W.Walk.seen c.args.walk.now in
    let b = g.W.Walk.seen c.path_to.new.walk in
    let new = g.W.Walk.seen c.first_on_way.new.walk in
    let schema = c.args.schema.now in
    let ssas = c.args.ssas.now in
    let at = c.args.at.now in
    if_ok c.first_on_way.result (λ met. LooksBehind schema ssas at b new) (λ met. LooksClimbing 3 schema ssas at a new)
    (λ met few h. where_told a.forest (λ (rows : List Row). let view = plain_view schema rows in new.looks ≤ a.looks + (3 + length (path_of at view) + passed schema view ssas (paths_behind at (on_paths view))))
    (λ rows k. let view = plain_view schema rows in
    let p = subst (λ (s : Schema). IsPath (plain_view s rows) at c.in_ok-path.path.items) c.requires.schema
    (told_at a.forest rows (λ (r : List Row). IsPath (plain_view a.schema r) at c.in_ok-path.path.items) k c.in_ok-path.ensures.path) in
    let size = ap (λ (ys : List Spot). length ys) p.same in
    let told = told_at b.forest rows (λ (r : List Row). let view = plain_view schema r in new.looks ≤ b.looks + (2 + passed schema view ssas (paths_behind at (on_paths view)))) (c.path_to.ensures.looked.forest ∙ k) (few h) in
    omega (arith, size, c.in_ok-path.ensures.few, told)))
    c.first_on_way.ensures.passing
