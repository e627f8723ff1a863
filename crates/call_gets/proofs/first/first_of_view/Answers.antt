use Rattle.std.proofs.Common.{◌≡◌, true, [], ◌∷◌, List, None, sym, ap, subst, ◌∙◌}
use Rattle.std.specs.Prelude.{codes, find, IfSome}
use Rattle.std.specs.Option.{option_map}
use Rattle.hal_schema.specs.declared.row.Row.{Row}
use Rattle.hal_schema.specs.declared.schema.Schema.{Schema}
use Rattle.hal_schema.specs.Forest.{is_forest}
use Rattle.call_text.specs.declared.line.Call.{Call}
use Rattle.call_text.specs.declared.line.Ssa.{Ssa}
use Rattle.position_state.specs.declared.spot.Spot.{Spot}
use Rattle.position_state.specs.Looks.{root_of_key}
use Rattle.dli_calls.specs.Meets.{meets, on_paths}
use Rattle.call_gets.specs.Keyed.{met_in_record}
use Rattle.call_gets.specs.Scan.{IsGot, on_its_path, plain_view}
use Rattle.call_gets.specs.Shown.{IsGiven, given}
use Rattle.call_gets.proofs.ByRecord.{found_in_record}
use Rattle.call_gets.proofs.Looking.{where_told, told_at, differ_told, forest_at}
use Rattle.call_gets.proofs.Finding.{if_ok, front_stands}
use Rattle.call_gets.proofs.ByKey.{found_by_call}
use Rattle.call_gets.proofs.first.first_of_view.Goals as goal

-- a GU with these SSAs
abbrev get_of : List Ssa → Call
get_of ssas = record { session = []; func = codes "GU"; ssas = ssas; content = None }

pub first_behind-requires-clause-there : goal.first_behind-requires-clause-there
first_behind-requires-clause-there g c = front_stands (g.W.Walk.seen c.args.walk.now)

pub returns-in-Some-clause-got : goal.returns-in-Some-clause-got
returns-in-Some-clause-got g c =
    let a = g.W.Walk.seen c.args.walk.now in
    let schema = c.args.schema.now in
    let ssas = c.args.ssas.now in
    if_ok c.root_with.result (λ met. IfSome a.forest (λ (rows : List Row). option_map on_its_path met ≡ option_map (λ (s : Spot). (s ∷ [], s)) (root_of_key c.in-Some.key (plain_view a.schema rows))))
    (IsGiven schema ssas a (λ view. find (meets schema None view ssas) (on_paths view)))
    (λ met h. where_told a.forest (λ (rows : List Row). option_map (given schema ssas) (option_map on_its_path met) ≡ option_map (given schema ssas) (find (meets schema None (plain_view schema rows) ssas) (on_paths (plain_view schema rows))))
    (λ rows k. ap (option_map (given schema ssas))
    (subst (λ (s : Schema). option_map on_its_path met ≡ option_map (λ (x : Spot). (x ∷ [], x)) (root_of_key c.in-Some.key (plain_view s rows))) c.requires.schema
    (told_at a.forest rows (λ (r : List Row). option_map on_its_path met ≡ option_map (λ (s : Spot). (s ∷ [], s)) (root_of_key c.in-Some.key (plain_view a.schema r))) k h)
    ∙ found_by_call schema (plain_view schema rows) (get_of ssas) c.in-Some.key (sym c.in_ok-key.ensures ∙ c.in-Some.is)
    (c.roots_are_keyed.ensures schema rows (ap (λ (s : Schema). is_forest s rows) (sym c.requires.schema) ∙ forest_at a rows (g.met.W.Walk.keeps_forest c.args.walk.now) k)))))
    c.root_with.ensures.met

-- where it goes on to dependents it looks at one record
pub returns-in-Some-2-clause-got : goal.returns-in-Some-2-clause-got
returns-in-Some-2-clause-got g c =
    let a = g.W.Walk.seen c.args.walk.now in
    let schema = c.args.schema.now in
    let ssas = c.args.ssas.now in
    let key = c.in-Some-2.key in
    if_ok c.first_in_record.result (IsGot schema a (met_in_record schema ssas key)) (IsGiven schema ssas a (λ view. find (meets schema None view ssas) (on_paths view)))
    (λ met h. where_told a.forest (λ (rows : List Row). option_map (given schema ssas) (option_map on_its_path met) ≡ option_map (given schema ssas) (find (meets schema None (plain_view schema rows) ssas) (on_paths (plain_view schema rows))))
    (λ rows k. let view = plain_view schema rows in
    let forest : is_forest schema rows ≡ true = ap (λ (s : Schema). is_forest s rows) (sym c.requires.schema) ∙ forest_at a rows (g.met.W.Walk.keeps_forest c.args.walk.now) k in
    ap (option_map (given schema ssas))
    (told_at a.forest rows (λ (r : List Row). option_map on_its_path met ≡ met_in_record schema ssas key (plain_view schema r)) k h
    ∙ found_in_record schema view (get_of ssas) key (sym c.in_ok-record_wanted.ensures ∙ c.in-Some-2.is) (c.roots_are_keyed.ensures schema rows forest) (c.roots_rise.ensures schema rows forest)
    (differ_told c.places_differ.ensures a schema rows (g.met.W.Walk.keeps_forest c.args.walk.now) c.requires.schema k))))
    c.first_in_record.ensures.met
