use Rattle.std.proofs.Common.{◌≡◌, List, Option, None, sym, ap, subst, ◌∙◌}
use Rattle.std.specs.Prelude.{codes, IfSome}
use Rattle.std.specs.Option.{option_map}
use Rattle.hal_schema.specs.declared.row.Row.{Row}
use Rattle.position_state.specs.Lawful.{IsLawful}
use Rattle.position_state.specs.View.{plain_element}
use Rattle.dli_calls.specs.declared.decision.Decision.{Decision}
use Rattle.dli_calls.specs.Changes.{held_row}
use Rattle.dli_calls.specs.Decided.{decision_of}
use Rattle.call_changes.specs.Moves.{replaced_row}
use Rattle.call_changes.proofs.Deciding.{only_replace, decided_text, refused_lawful}
use Rattle.call_changes.proofs.Looking.{if_ok, told_at, up_then, where_told}
use Rattle.call_changes.proofs.Replacing.{OnPath, decided_data, decided_key_of, decided_replace_of, may_have, no_fit, no_row}
use Rattle.call_changes.proofs.replace.decide_replace.Goals as goal

pub returns-in-Some-clause-decided : goal.returns-in-Some-clause-decided
returns-in-Some-clause-decided g c =
    let a = g.W.Walk.seen c.args.walk.now in
    where_told a.forest (λ (rows : List Row). c.in_ok-refused.field-0 ≡ decision_of c.args.schema.now rows a.free c.args.session.now c.args.call.now)
    (λ rows e. decided_text c.args.schema.now rows a.free c.args.session.now c.args.call.now c.in-Some.status c.in_ok-refused.field-0 (sym c.text_refusal.ensures ∙ c.in-Some.is) c.in_ok-refused.ensures)

pub returns-in-Some-clause-lawful : goal.returns-in-Some-clause-lawful
returns-in-Some-clause-lawful g c =
    where_told (g.W.Walk.seen c.args.walk.now).forest (λ (rows : List Row). IsLawful c.args.schema.now rows c.in_ok-refused.field-0.change)
    (λ rows e. refused_lawful c.args.schema.now rows c.in-Some.status None c.args.session.now c.in_ok-refused.field-0 c.in_ok-refused.ensures)

pub returns-in_default-2-clause-decided : goal.returns-in_default-2-clause-decided
returns-in_default-2-clause-decided g c =
    let a = g.W.Walk.seen c.args.walk.now in
    let schema = c.args.schema.now in
    let session = c.args.session.now in
    where_told a.forest (λ (rows : List Row). c.in_ok-refused-2.field-0 ≡ decision_of schema rows a.free session c.args.call.now)
    (λ rows e. decided_data schema rows a.free session c.args.call.now c.in_ok-refused-2.field-0
    (record { only = only_replace c.args.call.now c.requires.replace; plain = c.requires.plain; text = sym c.text_refusal.ensures ∙ c.in_default.is })
    (no_row schema rows session c.args.call.now (sym c.in_default-2.is
    ∙ told_at a.forest rows (λ (r : List Row). c.in_ok-row.field-0 ≡ option_map (λ (p : OnPath). plain_element schema.types p.0 p.1) (held_row schema r session)) e c.in_ok-row.ensures.held))
    c.in_ok-refused-2.ensures)

pub returns-in_default-2-clause-lawful : goal.returns-in_default-2-clause-lawful
returns-in_default-2-clause-lawful g c =
    where_told (g.W.Walk.seen c.args.walk.now).forest (λ (rows : List Row). IsLawful c.args.schema.now rows c.in_ok-refused-2.field-0.change)
    (λ rows e. refused_lawful c.args.schema.now rows (codes "+L") None c.args.session.now c.in_ok-refused-2.field-0 c.in_ok-refused-2.ensures)

pub returns-in_default-3-clause-decided : goal.returns-in_default-3-clause-decided
returns-in_default-3-clause-decided g c =
    let a = g.W.Walk.seen c.args.walk.now in
    let schema = c.args.schema.now in
    let session = c.args.session.now in
    where_told a.forest (λ (rows : List Row). c.in_ok-refused-3.field-0 ≡ decision_of schema rows a.free session c.args.call.now)
    (λ rows e. decided_data schema rows a.free session c.args.call.now c.in_ok-refused-3.field-0
    (record { only = only_replace c.args.call.now c.requires.replace; plain = c.requires.plain; text = sym c.text_refusal.ensures ∙ c.in_default.is })
    (no_fit schema rows session c.args.call.now c.in-Some-2.row (sym c.in-Some-2.is
    ∙ told_at a.forest rows (λ (r : List Row). c.in_ok-row.field-0 ≡ option_map (λ (p : OnPath). plain_element schema.types p.0 p.1) (held_row schema r session)) e c.in_ok-row.ensures.held)
    (sym c.in_ok-content.ensures ∙ c.in_default-3.is))
    c.in_ok-refused-3.ensures)

pub returns-in_default-3-clause-lawful : goal.returns-in_default-3-clause-lawful
returns-in_default-3-clause-lawful g c =
    where_told (g.W.Walk.seen c.args.walk.now).forest (λ (rows : List Row). IsLawful c.args.schema.now rows c.in_ok-refused-3.field-0.change)
    (λ rows e. refused_lawful c.args.schema.now rows (codes "+L") None c.args.session.now c.in_ok-refused-3.field-0 c.in_ok-refused-3.ensures)

pub returns-then-changes_key-clause-decided : goal.returns-then-changes_key-clause-decided
returns-then-changes_key-clause-decided g c =
    let a = g.W.Walk.seen c.args.walk.now in
    let schema = c.args.schema.now in
    let session = c.args.session.now in
    where_told a.forest (λ (rows : List Row). c.in_ok-refused-4.field-0 ≡ decision_of schema rows a.free session c.args.call.now)
    (λ rows e. decided_key_of schema rows a.free session c.args.call.now c.in-Some-2.row c.in-Some-3.content c.in_ok-refused-4.field-0
    (record { only = only_replace c.args.call.now c.requires.replace; plain = c.requires.plain; text = sym c.text_refusal.ensures ∙ c.in_default.is })
    (sym c.in-Some-2.is ∙ told_at a.forest rows (λ (r : List Row). c.in_ok-row.field-0 ≡ option_map (λ (p : OnPath). plain_element schema.types p.0 p.1) (held_row schema r session)) e c.in_ok-row.ensures.held)
    (sym c.in_ok-content.ensures ∙ c.in-Some-3.is) (sym c.changes_key.ensures ∙ c.if-changes_key.true) c.in_ok-refused-4.ensures)

pub returns-then-changes_key-clause-lawful : goal.returns-then-changes_key-clause-lawful
returns-then-changes_key-clause-lawful g c =
    where_told (g.W.Walk.seen c.args.walk.now).forest (λ (rows : List Row). IsLawful c.args.schema.now rows c.in_ok-refused-4.field-0.change)
    (λ rows e. refused_lawful c.args.schema.now rows (codes "DA") None c.args.session.now c.in_ok-refused-4.field-0 c.in_ok-refused-4.ensures)

pub replace_row-requires-clause-stands : goal.replace_row-requires-clause-stands
replace_row-requires-clause-stands g c = λ rows e. c.requires.stands rows (sym c.held_row.ensures.looked.forest ∙ e)

pub replace_row-requires-clause-may_have : goal.replace_row-requires-clause-may_have
replace_row-requires-clause-may_have g c = λ rows e.
    let a = g.W.Walk.seen c.args.walk.now in
    let schema = c.args.schema.now in
    let session = c.args.session.now in
    may_have schema rows session c.args.call.now c.in-Some-2.row c.in-Some-3.content
    (sym c.in-Some-2.is ∙ told_at a.forest rows (λ (r : List Row). c.in_ok-row.field-0 ≡ option_map (λ (p : OnPath). plain_element schema.types p.0 p.1) (held_row schema r session)) (sym c.held_row.ensures.looked.forest ∙ e) c.in_ok-row.ensures.held)
    (sym c.in_ok-content.ensures ∙ c.in-Some-3.is) (sym c.changes_key.ensures ∙ c.if-changes_key.false)

pub returns-clause-decided : goal.returns-clause-decided
returns-clause-decided g c =
    let a = g.W.Walk.seen c.args.walk.now in
    let b = g.W.Walk.seen c.held_row.new.walk in
    let schema = c.args.schema.now in
    let session = c.args.session.now in
    if_ok c.replace_row.result (λ (d : Decision). IfSome b.forest (λ (rows : List Row). d ≡ replaced_row schema rows b.free session c.in-Some-2.row c.in-Some-3.content))
    (λ (d : Decision). IfSome a.forest (λ (rows : List Row). d ≡ decision_of schema rows a.free session c.args.call.now))
    (λ d h. where_told a.forest (λ (rows : List Row). d ≡ decision_of schema rows a.free session c.args.call.now)
    (λ rows e. decided_replace_of schema rows a.free session c.args.call.now c.in-Some-2.row c.in-Some-3.content d
    (record { only = only_replace c.args.call.now c.requires.replace; plain = c.requires.plain; text = sym c.text_refusal.ensures ∙ c.in_default.is })
    (sym c.in-Some-2.is ∙ told_at a.forest rows (λ (r : List Row). c.in_ok-row.field-0 ≡ option_map (λ (p : OnPath). plain_element schema.types p.0 p.1) (held_row schema r session)) e c.in_ok-row.ensures.held)
    (sym c.in_ok-content.ensures ∙ c.in-Some-3.is) (sym c.changes_key.ensures ∙ c.if-changes_key.false)
    (told_at b.forest rows (λ (r : List Row). d ≡ replaced_row schema r b.free session c.in-Some-2.row c.in-Some-3.content) (c.held_row.ensures.looked.forest ∙ e) h
    ∙ ap (λ free. replaced_row schema rows free session c.in-Some-2.row c.in-Some-3.content) c.held_row.ensures.looked.free)))
    c.replace_row.ensures.replaced

pub returns-clause-lawful : goal.returns-clause-lawful
returns-clause-lawful g c =
    let a = g.W.Walk.seen c.args.walk.now in
    let b = g.W.Walk.seen c.held_row.new.walk in
    if_ok c.replace_row.result (λ (d : Decision). IfSome b.forest (λ (rows : List Row). IsLawful c.args.schema.now rows d.change))
    (λ (d : Decision). IfSome a.forest (λ (rows : List Row). IsLawful c.args.schema.now rows d.change))
    (λ d h. subst (λ (o : Option (List Row)). IfSome o (λ (rows : List Row). IsLawful c.args.schema.now rows d.change)) c.held_row.ensures.looked.forest h)
    c.replace_row.ensures.lawful

pub returns-clause-looked : goal.returns-clause-looked
returns-clause-looked g c = up_then c.held_row.ensures.looked c.replace_row.ensures.looked
