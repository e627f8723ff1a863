use Rattle.std.proofs.Common.{◌≡◌, ℕ, List, Option, None, Some, refl, sym, ap, ◌∙◌}
use Rattle.std.specs.Prelude.{find}
use Rattle.std.specs.Option.{option_map}
use Rattle.hal_schema.specs.declared.row.Row.{Row}
use Rattle.hal_schema.specs.declared.schema.Schema.{Schema}
use Rattle.call_text.specs.declared.line.Ssa.{Ssa}
use Rattle.position_state.specs.declared.spot.Spot.{Spot}
use Rattle.dli_calls.specs.Gets.{OnPath}
use Rattle.dli_calls.specs.Meets.{meets, on_paths}
use Rattle.call_gets.specs.declared.scan.Met.{Met}
use Rattle.call_gets.specs.Scan.{on_its_path, plain_view}
use Rattle.call_gets.specs.Shown.{given}
use Rattle.call_gets.proofs.Looking.{where_told, told_at}
use Rattle.call_gets.proofs.first.first_that_meets.Goals as goal

-- the element of what is given
given_first : (schema : Schema) (ssas : List Ssa) (o : Option OnPath) → option_map (λ (q : Spot × List ℕ). q.0) (option_map (given schema ssas) o) ≡ option_map (λ (p : OnPath). p.1) o
given_first schema ssas None = refl
given_first schema ssas (Some p) = refl

first_of : (schema : Schema) (ssas : List Ssa) (a b : Option OnPath) → option_map (given schema ssas) a ≡ option_map (given schema ssas) b → option_map (λ (p : OnPath). p.1) a ≡ option_map (λ (p : OnPath). p.1) b
first_of schema ssas a b h = sym (given_first schema ssas a) ∙ ap (option_map (λ (q : Spot × List ℕ). q.0)) h ∙ given_first schema ssas b

pub returns-in-None-clause-met : goal.returns-in-None-clause-met
returns-in-None-clause-met g c =
    let a = g.W.Walk.seen c.args.walk.now in
    let schema = c.args.schema.now in
    let ssas = c.args.ssas.now in
    where_told a.forest (λ (rows : List Row). None ≡ option_map (λ (p : OnPath). p.1) (find (meets schema None (plain_view schema rows) ssas) (on_paths (plain_view schema rows))))
    (λ rows e. ap (λ (o : Option Met). option_map (λ (p : OnPath). p.1) (option_map on_its_path o)) (sym c.in-None.is)
    ∙ first_of schema ssas _ _ (told_at a.forest rows (λ (r : List Row). option_map (given schema ssas) (option_map on_its_path c.in_ok-first_of_view.field-0) ≡ option_map (given schema ssas) (find (meets schema None (plain_view schema r) ssas) (on_paths (plain_view schema r)))) e c.in_ok-first_of_view.ensures.got))

pub returns-in-Some-clause-met : goal.returns-in-Some-clause-met
returns-in-Some-clause-met g c =
    let a = g.W.Walk.seen c.args.walk.now in
    let schema = c.args.schema.now in
    let ssas = c.args.ssas.now in
    where_told a.forest (λ (rows : List Row). Some c.in-Some.met.spot ≡ option_map (λ (p : OnPath). p.1) (find (meets schema None (plain_view schema rows) ssas) (on_paths (plain_view schema rows))))
    (λ rows e. ap (λ (o : Option Met). option_map (λ (p : OnPath). p.1) (option_map on_its_path o)) (sym c.in-Some.is)
    ∙ first_of schema ssas _ _ (told_at a.forest rows (λ (r : List Row). option_map (given schema ssas) (option_map on_its_path c.in_ok-first_of_view.field-0) ≡ option_map (given schema ssas) (find (meets schema None (plain_view schema r) ssas) (on_paths (plain_view schema r)))) e c.in_ok-first_of_view.ensures.got))
