use Rattle.std.proofs.Common.{◌≡◌, ◌==◌, ℕ, List, Option, refl, sym, ap, subst, ◌∙◌}
use Rattle.std.specs.Prelude.{find, IfSome, IsTrue}
use Rattle.hal_schema.specs.declared.row.Row.{Row}
use Rattle.hal_schema.specs.declared.schema.Schema.{Schema}
use Rattle.position_state.specs.declared.spot.Spot.{Spot}
use Rattle.position_state.specs.View.{is_place_of, view_of}
use Rattle.dli_calls.specs.Changes.{parent_by_anchor}
use Rattle.call_gets.specs.Scan.{path_of, plain_view}
use Rattle.call_gets.proofs.Looking.{stands_at}
use Rattle.call_changes.proofs.Looking.{if_ok, told_at, where_told}
use Rattle.call_changes.proofs.Parenting.{by_anchor}
use Rattle.call_changes.proofs.parent.parent_by_anchor.Goals as goal

pub element_on_path-requires-clause-there : goal.element_on_path-requires-clause-there
element_on_path-requires-clause-there g c =
    let a = g.W.Walk.seen c.args.walk.now in
    let schema = c.args.schema.now in
    let session = c.args.session.now in
    stands_at a a schema session.anchor refl refl c.requires.schema
    (λ rows e. subst (λ (i : Option ℕ). IsTrue (is_place_of (view_of schema i rows) session.anchor)) c.requires.plain (c.requires.stands rows e).anchor)

pub returns-in-Some-clause-parent : goal.returns-in-Some-clause-parent
returns-in-Some-clause-parent g c =
    let a = g.W.Walk.seen c.args.walk.now in
    let schema = c.args.schema.now in
    let session = c.args.session.now in
    let above = c.in-Some.above in
    if_ok c.element_on_path.result (λ (o : Option Spot). IfSome a.forest (λ (rows : List Row). o ≡ find (λ (s : Spot). s.code == above) (path_of session.anchor (plain_view a.schema rows))))
    (λ (o : Option Spot). IfSome a.forest (λ (rows : List Row). o ≡ parent_by_anchor schema rows c.args.code session))
    (λ o h. where_told a.forest (λ (rows : List Row). o ≡ parent_by_anchor schema rows c.args.code session)
    (λ rows e. told_at a.forest rows (λ (r : List Row). o ≡ find (λ (s : Spot). s.code == above) (path_of session.anchor (plain_view a.schema r))) e h
    ∙ ap (λ (s : Schema). find (λ (x : Spot). x.code == above) (path_of session.anchor (plain_view s rows))) c.requires.schema
    ∙ by_anchor schema rows c.args.code above session (sym c.parent_code.ensures ∙ c.in-Some.is)))
    c.element_on_path.ensures.on_path
