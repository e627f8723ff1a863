use Rattle.std.proofs.Common.{◌≡◌, List, Option, None, ap, ◌∙◌}
use Rattle.std.specs.Prelude.{IfSome}
use Rattle.std.specs.Option.{option_map}
use Rattle.hal_schema.specs.declared.row.Row.{Row}
use Rattle.hal_schema.specs.declared.schema.Schema.{Schema}
use Rattle.position_state.specs.declared.spot.Spot.{Spot}
use Rattle.position_state.specs.View.{plain_element, view_of}
use Rattle.dli_calls.specs.Changes.{held_row}
use Rattle.call_changes.specs.Moves.{row_at}
use Rattle.call_changes.proofs.Looking.{if_ok, where_told, told_at}
use Rattle.call_changes.proofs.Replacing.{OnPath, held_at, held_none}
use Rattle.call_changes.proofs.held.held_row.Goals as goal

pub returns-in-None-clause-held : goal.returns-in-None-clause-held
returns-in-None-clause-held g c =
    where_told (g.W.Walk.seen c.args.walk.now).forest (λ (rows : List Row). None ≡ option_map (λ (p : OnPath). plain_element c.args.schema.now.types p.0 p.1) (held_row c.args.schema.now rows c.args.session.now))
    (λ rows e. held_none c.args.schema.now rows c.args.session.now c.in-None.is)

pub returns-in-Some-clause-held : goal.returns-in-Some-clause-held
returns-in-Some-clause-held g c =
    let a = g.W.Walk.seen c.args.walk.now in
    let schema = c.args.schema.now in
    let session = c.args.session.now in
    if_ok c.row_at.result (λ (o : Option Spot). IfSome a.forest (λ (rows : List Row). o ≡ row_at c.in-Some.at (view_of a.schema None rows)))
    (λ (o : Option Spot). IfSome a.forest (λ (rows : List Row). o ≡ option_map (λ (p : OnPath). plain_element schema.types p.0 p.1) (held_row schema rows session)))
    (λ o h. where_told a.forest (λ (rows : List Row). o ≡ option_map (λ (p : OnPath). plain_element schema.types p.0 p.1) (held_row schema rows session))
    (λ rows e. told_at a.forest rows (λ (r : List Row). o ≡ row_at c.in-Some.at (view_of a.schema None r)) e h
    ∙ ap (λ (s : Schema). row_at c.in-Some.at (view_of s None rows)) c.requires.schema
    ∙ held_at schema rows session c.in-Some.at c.in-Some.is))
    c.row_at.ensures.row
