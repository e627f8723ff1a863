use Rattle.std.proofs.Common.{◌≡◌, ℕ, List, None, sym, ◌∙◌}
use Rattle.std.specs.Prelude.{codes, IfSome}
use Rattle.hal_schema.specs.declared.row.Row.{Row}
use Rattle.position_state.specs.Lawful.{IsLawful}
use Rattle.dli_calls.specs.declared.decision.Decision.{Decision}
use Rattle.dli_calls.specs.Decided.{decision_of}
use Rattle.call_changes.proofs.Deciding.{decided_text, refused_lawful}
use Rattle.call_changes.proofs.Fewness.{few_delete, few_get, few_insert, few_none, few_replace}
use Rattle.call_changes.proofs.Functions.{get_lawful, looks_of_on, looks_of_up, no_function}
use Rattle.call_changes.proofs.Looking.{if_ok, told_at, where_told}
use Rattle.call_changes.proofs.calls.decide.Goals as goal

pub returns-then-is_get-clause-decided : goal.returns-then-is_get-clause-decided
returns-then-is_get-clause-decided g c =
    let a = g.W.Walk.seen c.args.walk.now in
    let schema = c.args.schema.now in
    let session = c.args.session.now in
    let call = c.args.call.now in
    if_ok c.decide_get.result (λ (d : Decision). IfSome a.forest (λ (rows : List Row). (free : ℕ) → d ≡ decision_of schema rows free session call))
    (λ (d : Decision). IfSome a.forest (λ (rows : List Row). d ≡ decision_of schema rows a.free session call))
    (λ d h. where_told a.forest (λ (rows : List Row). d ≡ decision_of schema rows a.free session call)
    (λ rows e. told_at a.forest rows (λ (r : List Row). (free : ℕ) → d ≡ decision_of schema r free session call) e h a.free))
    c.decide_get.ensures.decided

pub returns-then-is_get-clause-lawful : goal.returns-then-is_get-clause-lawful
returns-then-is_get-clause-lawful g c =
    let a = g.W.Walk.seen c.args.walk.now in
    let schema = c.args.schema.now in
    let session = c.args.session.now in
    let call = c.args.call.now in
    if_ok c.decide_get.result (λ (d : Decision). IfSome a.forest (λ (rows : List Row). (free : ℕ) → d ≡ decision_of schema rows free session call))
    (λ (d : Decision). IfSome a.forest (λ (rows : List Row). IsLawful schema rows d.change))
    (λ d h. where_told a.forest (λ (rows : List Row). IsLawful schema rows d.change)
    (λ rows e. get_lawful schema rows a.free session call d c.requires.plain (sym c.is_get.ensures ∙ c.if-is_get.true) (told_at a.forest rows (λ (r : List Row). (free : ℕ) → d ≡ decision_of schema r free session call) e h a.free)))
    c.decide_get.ensures.decided

pub returns-then-is_get-clause-looked : goal.returns-then-is_get-clause-looked
returns-then-is_get-clause-looked g c = looks_of_on c.decide_get.ensures.looked

pub returns-then-is_insert-clause-looked : goal.returns-then-is_insert-clause-looked
returns-then-is_insert-clause-looked g c = looks_of_on c.decide_insert.ensures.looked

pub returns-then-is_replace-clause-looked : goal.returns-then-is_replace-clause-looked
returns-then-is_replace-clause-looked g c = looks_of_up c.decide_replace.ensures.looked

pub returns-then-is_delete-clause-looked : goal.returns-then-is_delete-clause-looked
returns-then-is_delete-clause-looked g c = looks_of_up c.decide_delete.ensures.looked

pub returns-clause-decided : goal.returns-clause-decided
returns-clause-decided g c =
    let a = g.W.Walk.seen c.args.walk.now in
    let schema = c.args.schema.now in
    let session = c.args.session.now in
    let call = c.args.call.now in
    where_told a.forest (λ (rows : List Row). c.in_ok-refused.field-0 ≡ decision_of schema rows a.free session call)
    (λ rows e. decided_text schema rows a.free session call (codes "AD") c.in_ok-refused.field-0
    (no_function schema session call (sym c.is_get.ensures ∙ c.if-is_get.false) (sym c.is_insert.ensures ∙ c.if-is_insert.false) (sym c.is_replace.ensures ∙ c.if-is_replace.false) (sym c.is_delete.ensures ∙ c.if-is_delete.false))
    c.in_ok-refused.ensures)

pub returns-clause-lawful : goal.returns-clause-lawful
returns-clause-lawful g c =
    where_told (g.W.Walk.seen c.args.walk.now).forest (λ (rows : List Row). IsLawful c.args.schema.now rows c.in_ok-refused.field-0.change)
    (λ rows e. refused_lawful c.args.schema.now rows (codes "AD") None c.args.session.now c.in_ok-refused.field-0 c.in_ok-refused.ensures)

pub returns-then-is_get-clause-few : goal.returns-then-is_get-clause-few
returns-then-is_get-clause-few g c =
    few_get c.args.schema.now c.args.session.now c.args.call.now (g.W.Walk.seen c.args.walk.now) (g.W.Walk.seen c.decide_get.new.walk) (sym c.is_get.ensures ∙ c.if-is_get.true)

pub returns-then-is_insert-clause-few : goal.returns-then-is_insert-clause-few
returns-then-is_insert-clause-few g c =
    few_insert c.args.schema.now c.args.session.now c.args.call.now (g.W.Walk.seen c.args.walk.now) (g.W.Walk.seen c.decide_insert.new.walk) (sym c.is_insert.ensures ∙ c.if-is_insert.true) c.decide_insert.ensures.few

pub returns-then-is_replace-clause-few : goal.returns-then-is_replace-clause-few
returns-then-is_replace-clause-few g c =
    few_replace c.args.schema.now c.args.session.now c.args.call.now (g.W.Walk.seen c.args.walk.now) (g.W.Walk.seen c.decide_replace.new.walk) (sym c.is_replace.ensures ∙ c.if-is_replace.true) c.decide_replace.ensures.looked.looks

pub returns-then-is_delete-clause-few : goal.returns-then-is_delete-clause-few
returns-then-is_delete-clause-few g c =
    few_delete c.args.schema.now c.args.session.now c.args.call.now (g.W.Walk.seen c.args.walk.now) (g.W.Walk.seen c.decide_delete.new.walk) (sym c.is_delete.ensures ∙ c.if-is_delete.true) c.decide_delete.ensures.looked.looks

pub returns-clause-few : goal.returns-clause-few
returns-clause-few g c = few_none c.args.schema.now c.args.session.now c.args.call.now (g.W.Walk.seen c.args.walk.now)
