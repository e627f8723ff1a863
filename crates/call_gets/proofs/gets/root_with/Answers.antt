use Rattle.std.proofs.Common.{◌≡◌, [], ◌∷◌, List, None, Some, refl, sym, ap, ◌∙◌}
use Rattle.std.specs.Option.{option_map}
use Rattle.hal_schema.specs.declared.row.Row.{Row}
use Rattle.position_state.specs.declared.spot.Spot.{Spot}
use Rattle.position_state.specs.Looks.{root_of_key}
use Rattle.dli_calls.specs.Gets.{OnPath}
use Rattle.call_gets.specs.Scan.{on_its_path, plain_view}
use Rattle.call_gets.proofs.Looking.{where_told, shows_for, one_more}
use Rattle.call_gets.proofs.gets.root_with.Goals as goal

pub returns-in-None-clause-met : goal.returns-in-None-clause-met
returns-in-None-clause-met g c =
    let a = g.W.Walk.seen c.args.walk.now in
    where_told a.forest (λ (rows : List Row). None ≡ option_map (λ (s : Spot). (s ∷ [], s)) (root_of_key c.args.key.now (plain_view a.schema rows)))
    (λ rows e. ap (option_map (λ (s : Spot). (s ∷ [], s))) (sym c.in-None.is ∙ shows_for a a a.schema rows (root_of_key c.as_slice.result.now) c.in_ok-at_root.field-0 refl refl refl e c.in_ok-at_root.ensures.shows ∙ ap (λ key. root_of_key key (plain_view a.schema rows)) c.as_slice.ensures))

pub returns-in-Some-clause-met : goal.returns-in-Some-clause-met
returns-in-Some-clause-met g c =
    let a = g.W.Walk.seen c.args.walk.now in
    where_told a.forest (λ (rows : List Row). Some (on_its_path c.alone.result) ≡ option_map (λ (s : Spot). (s ∷ [], s)) (root_of_key c.args.key.now (plain_view a.schema rows)))
    (λ rows e. ap (λ (p : OnPath). Some p) c.alone.ensures
    ∙ ap (option_map (λ (s : Spot). (s ∷ [], s))) (sym c.in-Some.is ∙ shows_for a a a.schema rows (root_of_key c.as_slice.result.now) c.in_ok-at_root.field-0 refl refl refl e c.in_ok-at_root.ensures.shows ∙ ap (λ key. root_of_key key (plain_view a.schema rows)) c.as_slice.ensures))

pub returns-in-None-clause-few : goal.returns-in-None-clause-few
returns-in-None-clause-few g c = one_more c.at_root.ensures.looked

pub returns-in-Some-clause-few : goal.returns-in-Some-clause-few
returns-in-Some-clause-few g c = one_more c.at_root.ensures.looked
