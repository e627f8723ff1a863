use Rattle.std.proofs.Common.{◌≡◌, ◌+◌, ℕ, List, Option, None, Some, not, sym, ap, ◌∙◌}
use Rattle.std.specs.Prelude.{IfSome, is_some}
use Rattle.hal_schema.specs.declared.row.Row.{Row}
use Rattle.hal_schema.specs.declared.schema.Schema.{Schema}
use Rattle.hal_schema.specs.Forest.{has_unique_key, is_forest}
use Rattle.hal_schema.specs.Insertion.{has_free_key}
use Rattle.hal_schema.specs.SegType.{key_in, level_of, parent_code}
use Rattle.position_state.specs.declared.spot.Spot.{Spot}
use Rattle.position_state.specs.Looks.{root_of_key}
use Rattle.position_state.specs.View.{behind}
use Rattle.call_gets.specs.Scan.{IsFound, plain_view}
use Rattle.call_gets.proofs.Looking.{differ_told, forest_at}
use Rattle.call_changes.specs.Inserts.{StandsBelow, any_deep, is_keyed_so, row_below}
use Rattle.call_changes.proofs.Looking.{if_ok, told_at, where_told}
use Rattle.call_changes.proofs.Placing.{parent_row}
use Rattle.call_changes.proofs.Twinning.{twins_below, twins_of_root, unique_twin}
use Rattle.call_changes.proofs.twins.has_equal_twin.Goals as goal

-- where a row stands below an element, that is of its parent's type, and one level higher
over : (schema : Schema) (rows : List Row) (code : ℕ) (parent : Option Spot) (spot : Spot) → StandsBelow schema rows code parent → parent ≡ Some spot → IsFound (plain_view schema rows) spot × (parent_code schema.types code ≡ Some spot.code)
over schema rows code parent spot below is =
    (told_at parent spot (IsFound (plain_view schema rows)) is below.found, told_at parent spot (λ (s : Spot). parent_code schema.types code ≡ Some s.code) is below.above)

pub has_child_with-requires-clause-shown : goal.has_child_with-requires-clause-shown
has_child_with-requires-clause-shown g c = λ rows e. (over c.args.schema.now rows c.args.code c.args.parent.now c.in-Some.above (c.requires.below rows e) c.in-Some.is).0

pub has_child_with-requires-clause-level : goal.has_child_with-requires-clause-level
has_child_with-requires-clause-level g c = λ rows e.
    let schema = c.args.schema.now in
    let o = over schema rows c.args.code c.args.parent.now c.in-Some.above (c.requires.below rows e) c.in-Some.is in
    let p = parent_row schema rows c.in-Some.above o.0 in
    ((c.schemas_are_kept.ensures schema).below c.in-Some.above.code c.args.code o.1).level
    ∙ ap (λ (n : ℕ). n + 1) (ap (λ (s : Spot). level_of schema.types s.code) p.is ∙ sym (ap (λ (s : Spot). s.level) p.is))

pub returns-in-None-clause-has : goal.returns-in-None-clause-has
returns-in-None-clause-has g c =
    let a = g.W.Walk.seen c.args.walk.now in
    let schema = c.args.schema.now in
    let code = c.args.code in
    let content = c.args.content.now in
    if_ok c.has_root_with.result (λ has. IfSome a.forest (λ (rows : List Row). has ≡ is_some (root_of_key c.key_in-key.result.now (plain_view schema rows))))
    (λ has. IfSome a.forest (λ (rows : List Row). has ≡ not (has_free_key schema rows (row_below code c.args.parent.now content))))
    (λ has h. where_told a.forest (λ (rows : List Row). has ≡ not (has_free_key schema rows (row_below code c.args.parent.now content)))
    (λ rows e.
    let forest : is_forest schema rows ≡ _ = ap (λ (s : Schema). is_forest s rows) (sym c.requires.schema) ∙ forest_at a rows (g.met.W.Walk.keeps_forest c.args.walk.now) e in
    let one : code ≡ 1 = (c.requires.below rows e).none c.in-None.is in
    let key : c.key_in-key.result.now ≡ key_in schema.types 1 content = c.key_in-key.ensures ∙ ap (λ (n : ℕ). key_in schema.types n c.as_slice.result.now) one ∙ ap (key_in schema.types 1) c.as_slice.ensures in
    told_at a.forest rows (λ (r : List Row). has ≡ is_some (root_of_key c.key_in-key.result.now (plain_view schema r))) e h
    ∙ ap (λ (k : List ℕ). is_some (root_of_key k (plain_view schema rows))) key
    ∙ sym (twins_of_root schema rows content (c.schemas_are_kept.ensures schema) forest (c.root_order_is_total.ensures.total schema) (c.root_order_is_total.ensures.exact schema) (c.roots_are_keyed.ensures schema rows forest))
    ∙ sym (unique_twin schema rows (row_below 1 None content) (ap (λ (n : ℕ). has_unique_key schema.types n) (sym one) ∙ sym c.has_unique_key.ensures ∙ c.if-not-has_unique_key.false))
    ∙ ap (λ (n : ℕ). not (has_free_key schema rows (row_below n None content))) (sym one)
    ∙ ap (λ (o : Option Spot). not (has_free_key schema rows (row_below code o content))) (sym c.in-None.is)))
    c.has_root_with.ensures.has

pub returns-in-Some-clause-has : goal.returns-in-Some-clause-has
returns-in-Some-clause-has g c =
    let a = g.W.Walk.seen c.args.walk.now in
    let schema = c.args.schema.now in
    let code = c.args.code in
    let content = c.args.content.now in
    let above = c.in-Some.above in
    if_ok c.has_child_with.result (λ has. IfSome a.forest (λ (rows : List Row). has ≡ any_deep above.level (is_keyed_so schema.types code c.key_in-key.result.now) (behind above.at (plain_view schema rows))))
    (λ has. IfSome a.forest (λ (rows : List Row). has ≡ not (has_free_key schema rows (row_below code c.args.parent.now content))))
    (λ has h. where_told a.forest (λ (rows : List Row). has ≡ not (has_free_key schema rows (row_below code c.args.parent.now content)))
    (λ rows e.
    let forest : is_forest schema rows ≡ _ = ap (λ (s : Schema). is_forest s rows) (sym c.requires.schema) ∙ forest_at a rows (g.met.W.Walk.keeps_forest c.args.walk.now) e in
    let o = over schema rows code c.args.parent.now above (c.requires.below rows e) c.in-Some.is in
    let key : c.key_in-key.result.now ≡ key_in schema.types code content = c.key_in-key.ensures ∙ ap (key_in schema.types code) c.as_slice.ensures in
    told_at a.forest rows (λ (r : List Row). has ≡ any_deep above.level (is_keyed_so schema.types code c.key_in-key.result.now) (behind above.at (plain_view schema r))) e h
    ∙ ap (λ (k : List ℕ). any_deep above.level (is_keyed_so schema.types code k) (behind above.at (plain_view schema rows))) key
    ∙ sym (twins_below schema rows code content above (c.schemas_are_kept.ensures schema) forest (differ_told c.places_differ.ensures a schema rows (g.met.W.Walk.keeps_forest c.args.walk.now) c.requires.schema e) o.0 o.1)
    ∙ sym (unique_twin schema rows (row_below code (Some above) content) (sym c.has_unique_key.ensures ∙ c.if-not-has_unique_key.false))
    ∙ ap (λ (p : Option Spot). not (has_free_key schema rows (row_below code p content))) (sym c.in-Some.is)))
    c.has_child_with.ensures.has
