use Rattle.std.proofs.Common.{◌≡◌, ℕ, ◌+◌, ◌≤◌, ◌==◌, true, [], ◌∷◌, List, length, None, Some, sym, ap, subst, ◌∙◌, arith}
use Rattle.std.specs.Prelude.{find, is_some, IfSome}
use Rattle.std.specs.Option.{option_map}
use Rattle.std.proofs.lemmas.Bool.{true≢false}
use Rattle.hal_schema.specs.declared.row.Row.{Row}
use Rattle.hal_schema.specs.declared.schema.Schema.{Schema}
use Rattle.hal_schema.specs.Forest.{is_forest}
use Rattle.call_text.specs.declared.line.Ssa.{Ssa}
use Rattle.position_state.specs.declared.session.Anchor.TheVariants.{Front}
use Rattle.position_state.specs.declared.spot.Spot.{Spot}
use Rattle.position_state.specs.Looks.{root_of_key}
use Rattle.dli_calls.specs.Meets.{meets, on_paths}
use Rattle.dli_calls.specs.Gets.{paths_behind}
use Rattle.call_gets.specs.Keyed.{keyed_path, met_in_record, rows_under}
use Rattle.call_gets.specs.Passed.{LooksClimbing, passed}
use Rattle.call_gets.specs.Scan.{IsGot, LooksWithin, on_its_path, path_of, plain_view}
use Rattle.call_gets.specs.Shown.{IsGiven, given}
use Rattle.call_gets.proofs.ByRecord.{found_in_record, none_told, path_has_ssa, some_told, within_few}
use Rattle.call_gets.proofs.Looking.{where_told, told_at, differ_told, forest_at}
use Rattle.call_gets.proofs.Finding.{if_ok, front_stands, ok_any}
use Rattle.call_gets.proofs.ByKey.{found_by_call}
use Rattle.call_gets.proofs.gets.first_of_all.Goals as goal

pub first_behind-requires-clause-there : goal.first_behind-requires-clause-there
first_behind-requires-clause-there g c = front_stands (g.W.Walk.seen c.args.walk.now)

pub returns-in-None-clause-got : goal.returns-in-None-clause-got
returns-in-None-clause-got g c =
    let a = g.W.Walk.seen c.args.walk.now in
    let schema = c.args.schema.now in
    let call = c.args.call.now in
    if_ok c.first_behind.result (IsGiven schema c.as_slice-ssas.result.now a (λ view. find (meets schema None view c.as_slice-ssas.result.now) (paths_behind Front (on_paths view))))
    (IsGiven schema call.ssas a (λ view. find (meets schema None view call.ssas) (on_paths view)))
    (λ met h. subst (λ (ssas : List Ssa). IsGiven schema ssas a (λ view. find (meets schema None view ssas) (on_paths view)) met) c.as_slice-ssas.ensures h)
    c.first_behind.ensures.got

pub returns-in-Some-clause-got : goal.returns-in-Some-clause-got
returns-in-Some-clause-got g c =
    let a = g.W.Walk.seen c.args.walk.now in
    let schema = c.args.schema.now in
    let call = c.args.call.now in
    if_ok c.root_with.result (λ met. IfSome a.forest (λ (rows : List Row). option_map on_its_path met ≡ option_map (λ (s : Spot). (s ∷ [], s)) (root_of_key c.in-Some.key (plain_view a.schema rows))))
    (IsGiven schema call.ssas a (λ view. find (meets schema None view call.ssas) (on_paths view)))
    (λ met h. where_told a.forest (λ (rows : List Row). option_map (given schema call.ssas) (option_map on_its_path met) ≡ option_map (given schema call.ssas) (find (meets schema None (plain_view schema rows) call.ssas) (on_paths (plain_view schema rows))))
    (λ rows k. ap (option_map (given schema call.ssas))
    (subst (λ (s : Schema). option_map on_its_path met ≡ option_map (λ (x : Spot). (x ∷ [], x)) (root_of_key c.in-Some.key (plain_view s rows))) c.requires.schema
    (told_at a.forest rows (λ (r : List Row). option_map on_its_path met ≡ option_map (λ (s : Spot). (s ∷ [], s)) (root_of_key c.in-Some.key (plain_view a.schema r))) k h)
    ∙ found_by_call schema (plain_view schema rows) call c.in-Some.key (sym c.in_ok-key.ensures ∙ c.in-Some.is)
    (c.roots_are_keyed.ensures schema rows (ap (λ (s : Schema). is_forest s rows) (sym c.requires.schema) ∙ forest_at a rows (g.met.W.Walk.keeps_forest c.args.walk.now) k)))))
    c.root_with.ensures.met

pub returns-in-None-clause-few : goal.returns-in-None-clause-few
returns-in-None-clause-few g c = λ e. c.first_behind.ensures.few (ap (λ (ssas : List Ssa). length ssas == 0) c.as_slice-ssas.ensures ∙ e)

pub returns-in-Some-clause-few : goal.returns-in-Some-clause-few
returns-in-Some-clause-few g c = λ e. c.root_with.ensures.few

pub returns-in-None-clause-keyed : goal.returns-in-None-clause-keyed
returns-in-None-clause-keyed g c = λ e. absurd (true≢false (sym e ∙ ap is_some (sym c.in_ok-key.ensures ∙ c.in_default.is)))

pub returns-in-Some-clause-keyed : goal.returns-in-Some-clause-keyed
returns-in-Some-clause-keyed g c = λ e. c.root_with.ensures.few

-- where it goes on to dependents it looks at one record

pub returns-in-Some-2-clause-got : goal.returns-in-Some-2-clause-got
returns-in-Some-2-clause-got g c =
    let a = g.W.Walk.seen c.args.walk.now in
    let schema = c.args.schema.now in
    let call = c.args.call.now in
    let ssas = c.as_slice-ssas.result.now in
    let key = c.in-Some-2.key in
    if_ok c.first_in_record.result (IsGot schema a (met_in_record schema ssas key)) (IsGiven schema call.ssas a (λ view. find (meets schema None view call.ssas) (on_paths view)))
    (λ met h. where_told a.forest (λ (rows : List Row). option_map (given schema call.ssas) (option_map on_its_path met) ≡ option_map (given schema call.ssas) (find (meets schema None (plain_view schema rows) call.ssas) (on_paths (plain_view schema rows))))
    (λ rows k. let view = plain_view schema rows in
    let forest : is_forest schema rows ≡ true = ap (λ (s : Schema). is_forest s rows) (sym c.requires.schema) ∙ forest_at a rows (g.met.W.Walk.keeps_forest c.args.walk.now) k in
    ap (option_map (given schema call.ssas))
    (told_at a.forest rows (λ (r : List Row). option_map on_its_path met ≡ met_in_record schema ssas key (plain_view schema r)) k h
    ∙ ap (λ (ssas : List Ssa). met_in_record schema ssas key view) c.as_slice-ssas.ensures
    ∙ found_in_record schema view call key (sym c.in_ok-keyed_path.ensures ∙ c.in-Some-2.is) (c.roots_are_keyed.ensures schema rows forest) (c.roots_rise.ensures schema rows forest)
    (differ_told c.places_differ.ensures a schema rows (g.met.W.Walk.keeps_forest c.args.walk.now) c.requires.schema k))))
    c.first_in_record.ensures.met

pub returns-in-Some-2-clause-few : goal.returns-in-Some-2-clause-few
returns-in-Some-2-clause-few g c = λ e. absurd (path_has_ssa c.args.schema.now c.args.call.now c.in-Some-2.key (sym c.in_ok-keyed_path.ensures ∙ c.in-Some-2.is) e)

pub returns-in-Some-2-clause-keyed : goal.returns-in-Some-2-clause-keyed
returns-in-Some-2-clause-keyed g c = λ e. absurd (true≢false (sym e ∙ ap is_some (sym c.in_ok-key.ensures ∙ c.in_default.is)))

pub returns-in-Some-clause-within : goal.returns-in-Some-clause-within
returns-in-Some-clause-within g c = within_few c.args.schema.now c.args.call.now (g.W.Walk.seen c.args.walk.now) (g.W.Walk.seen c.root_with.new.walk) c.root_with.ensures.few

pub returns-in-None-clause-within : goal.returns-in-None-clause-within
returns-in-None-clause-within g c =
    none_told (keyed_path c.args.schema.now c.args.call.now)
    (λ (key : List ℕ). LooksWithin c.args.call.now.ssas (g.W.Walk.seen c.args.walk.now) (g.W.Walk.seen c.first_behind.new.walk) (λ rows. 2 + rows_under key (plain_view c.args.schema.now rows)))
    (sym c.in_ok-keyed_path.ensures ∙ c.in-None.is)

pub returns-in-Some-2-clause-within : goal.returns-in-Some-2-clause-within
returns-in-Some-2-clause-within g c =
    let a = g.W.Walk.seen c.args.walk.now in
    let new = g.W.Walk.seen c.first_in_record.new.walk in
    let schema = c.args.schema.now in
    let call = c.args.call.now in
    some_told (keyed_path schema call) c.in-Some-2.key (λ (key : List ℕ). LooksWithin call.ssas a new (λ rows. 2 + rows_under key (plain_view schema rows))) (sym c.in_ok-keyed_path.ensures ∙ c.in-Some-2.is)
    (subst (λ (ssas : List Ssa). LooksWithin ssas a new (λ rows. 2 + rows_under c.in-Some-2.key (plain_view schema rows))) c.as_slice-ssas.ensures c.first_in_record.ensures.within)

pub returns-in_err-key-clause-within : goal.returns-in_err-key-clause-within
returns-in_err-key-clause-within g c = let a = g.W.Walk.seen c.args.walk.now in within_few c.args.schema.now c.args.call.now a a (omega arith)

pub returns-in_err-keyed_path-clause-within : goal.returns-in_err-keyed_path-clause-within
returns-in_err-keyed_path-clause-within g c = let a = g.W.Walk.seen c.args.walk.now in within_few c.args.schema.now c.args.call.now a a (omega arith)

-- else it looks at what it passes

pub returns-in-Some-clause-passing : goal.returns-in-Some-clause-passing
returns-in-Some-clause-passing g c =
    let a = g.W.Walk.seen c.args.walk.now in
    let new = g.W.Walk.seen c.root_with.new.walk in
    let schema = c.args.schema.now in
    let ssas = c.args.call.now.ssas in
    ok_any c.root_with.result (λ met. keyed_path schema c.args.call.now ≡ None → LooksClimbing 3 schema ssas Front a new)
    (λ met off h. where_told a.forest (λ (rows : List Row). let view = plain_view schema rows in new.looks ≤ a.looks + (3 + length (path_of Front view) + passed schema view ssas (paths_behind Front (on_paths view)))) (λ rows k. omega (arith, c.root_with.ensures.few)))

pub returns-in-None-clause-passing : goal.returns-in-None-clause-passing
returns-in-None-clause-passing g c =
    let a = g.W.Walk.seen c.args.walk.now in
    let new = g.W.Walk.seen c.first_behind.new.walk in
    let schema = c.args.schema.now in
    let call = c.args.call.now in
    if_ok c.first_behind.result (λ met. LooksClimbing 3 schema c.as_slice-ssas.result.now Front a new) (λ met. keyed_path schema call ≡ None → LooksClimbing 3 schema call.ssas Front a new)
    (λ met few off. subst (λ (ssas : List Ssa). LooksClimbing 3 schema ssas Front a new) c.as_slice-ssas.ensures few)
    c.first_behind.ensures.passing

pub returns-in-Some-2-clause-passing : goal.returns-in-Some-2-clause-passing
returns-in-Some-2-clause-passing g c =
    let a = g.W.Walk.seen c.args.walk.now in
    let new = g.W.Walk.seen c.first_in_record.new.walk in
    let schema = c.args.schema.now in
    let call = c.args.call.now in
    ok_any c.first_in_record.result (λ met. keyed_path schema call ≡ None → LooksClimbing 3 schema call.ssas Front a new)
    (λ met off. let some : keyed_path schema call ≡ Some c.in-Some-2.key = sym c.in_ok-keyed_path.ensures ∙ c.in-Some-2.is in let no : ⊥ = cc in absurd no)
