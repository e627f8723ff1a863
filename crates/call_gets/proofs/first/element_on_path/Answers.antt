use Rattle.std.proofs.Common.{◌≡◌, ◌==◌, List, ap, ◌∙◌}
use Rattle.std.specs.Prelude.{find}
use Rattle.hal_schema.specs.declared.row.Row.{Row}
use Rattle.position_state.specs.declared.spot.Spot.{Spot}
use Rattle.call_gets.specs.Scan.{IsPath, path_of, plain_view}
use Rattle.call_gets.proofs.Looking.{where_told, told_at}
use Rattle.call_gets.proofs.first.element_on_path.Goals as goal

pub returns-clause-on_path : goal.returns-clause-on_path
returns-clause-on_path g c =
    let a = g.W.Walk.seen c.args.walk.now in
    where_told a.forest (λ (rows : List Row). c.in_ok-copied.field-0 ≡ find (λ (s : Spot). s.code == c.args.code) (path_of c.args.at.now (plain_view a.schema rows)))
    (λ rows e. c.in_ok-copied.ensures ∙ c.of_code.ensures
    ∙ ap (find (λ (s : Spot). s.code == c.args.code)) (c.deref.ensures.value ∙ (told_at a.forest rows (λ (r : List Row). IsPath (plain_view a.schema r) c.args.at.now c.in_ok-path.path.items) e c.in_ok-path.ensures.path).same))
