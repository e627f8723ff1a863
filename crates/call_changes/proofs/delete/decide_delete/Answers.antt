use Rattle.std.proofs.Common.{◌≡◌, ◌≤◌, List, sym, subst, ◌∙◌, arith}
use Rattle.std.specs.Prelude.{codes, IfSome, None}
use Rattle.hal_schema.specs.declared.row.Row.{Row}
use Rattle.position_state.specs.Keep.{changed, kept_session}
use Rattle.position_state.specs.Lawful.{IsLawful, Stands}
use Rattle.position_state.specs.AfterChange.{looks_for}
use Rattle.position_state.specs.declared.spot.Change.{Change}
use Rattle.hal_schema.specs.declared.schema.Schema.{Schema}
use Rattle.dli_calls.specs.Changes.{no_name}
use Rattle.dli_calls.specs.declared.decision.Decision.{Decision}
use Rattle.dli_calls.specs.Decided.{decision_of}
use Rattle.call_changes.specs.Outcome.{carried}
use Rattle.call_changes.proofs.Deciding.{only_delete, decided_text, refused_lawful, carried_lawful}
use Rattle.call_changes.proofs.Deleting.{decided_data, decided_delete, deletion_lawful}
use Rattle.call_changes.proofs.Looking.{if_ok, up_more, where_told, told_at}
use Rattle.call_changes.proofs.delete.decide_delete.Goals as goal

pub returns-in-Some-clause-decided : goal.returns-in-Some-clause-decided
returns-in-Some-clause-decided g c =
    let a = g.W.Walk.seen c.args.walk.now in
    where_told a.forest (λ (rows : List Row). c.in_ok-refused.field-0 ≡ decision_of c.args.schema.now rows a.free c.args.session.now c.args.call.now)
    (λ rows e. decided_text c.args.schema.now rows a.free c.args.session.now c.args.call.now c.in-Some.status c.in_ok-refused.field-0 (sym c.text_refusal.ensures ∙ c.in-Some.is) c.in_ok-refused.ensures)

pub returns-in-Some-clause-lawful : goal.returns-in-Some-clause-lawful
returns-in-Some-clause-lawful g c =
    where_told (g.W.Walk.seen c.args.walk.now).forest (λ (rows : List Row). IsLawful c.args.schema.now rows c.in_ok-refused.field-0.change)
    (λ rows e. refused_lawful c.args.schema.now rows c.in-Some.status None c.args.session.now c.in_ok-refused.field-0 c.in_ok-refused.ensures)

pub returns-then-is_some-clause-decided : goal.returns-then-is_some-clause-decided
returns-then-is_some-clause-decided g c =
    let a = g.W.Walk.seen c.args.walk.now in
    where_told a.forest (λ (rows : List Row). c.in_ok-refused-2.field-0 ≡ decision_of c.args.schema.now rows a.free c.args.session.now c.args.call.now)
    (λ rows e. decided_data c.args.schema.now rows a.free c.args.session.now c.args.call.now c.in_ok-refused-2.field-0
    (record { only = only_delete c.args.call.now c.requires.delete; plain = c.requires.plain; text = sym c.text_refusal.ensures ∙ c.in_default.is })
    (sym c.is_some.ensures ∙ c.if-is_some.true) c.in_ok-refused-2.ensures)

pub returns-then-is_some-clause-lawful : goal.returns-then-is_some-clause-lawful
returns-then-is_some-clause-lawful g c =
    where_told (g.W.Walk.seen c.args.walk.now).forest (λ (rows : List Row). IsLawful c.args.schema.now rows c.in_ok-refused-2.field-0.change)
    (λ rows e. refused_lawful c.args.schema.now rows (codes "+L") None c.args.session.now c.in_ok-refused-2.field-0 c.in_ok-refused-2.ensures)

pub carry_out-requires-clause-of_list : goal.carry_out-requires-clause-of_list
carry_out-requires-clause-of_list g c = λ rows e.
    let schema = c.args.schema.now in
    let session = c.args.session.now in
    subst (λ (s : Schema). Stands s rows session × IsLawful s rows c.in_ok-change.change) (sym c.requires.schema)
    (c.requires.stands rows e, subst (λ (change : Change). IsLawful schema rows change) (sym c.in_ok-change.ensures) (deletion_lawful schema rows session (c.requires.stands rows e)))

pub returns-clause-decided : goal.returns-clause-decided
returns-clause-decided g c =
    let a = g.W.Walk.seen c.args.walk.now in
    let schema = c.args.schema.now in
    let session = c.args.session.now in
    let change = c.in_ok-change.change in
    if_ok c.carry_out.result (λ (d : Decision). IfSome a.forest (λ (rows : List Row). d ≡ carried change (kept_session schema change rows (changed schema change no_name rows) session)))
    (λ (d : Decision). IfSome a.forest (λ (rows : List Row). d ≡ decision_of schema rows a.free session c.args.call.now))
    (λ d h. where_told a.forest (λ (rows : List Row). d ≡ decision_of schema rows a.free session c.args.call.now)
    (λ rows e. decided_delete schema rows a.free session c.args.call.now change d
    (record { only = only_delete c.args.call.now c.requires.delete; plain = c.requires.plain; text = sym c.text_refusal.ensures ∙ c.in_default.is })
    (sym c.is_some.ensures ∙ c.if-is_some.false) c.in_ok-change.ensures
    (told_at a.forest rows (λ (r : List Row). d ≡ carried change (kept_session schema change r (changed schema change no_name r) session)) e h)))
    c.carry_out.ensures.carried

pub returns-clause-lawful : goal.returns-clause-lawful
returns-clause-lawful g c =
    let a = g.W.Walk.seen c.args.walk.now in
    let schema = c.args.schema.now in
    let session = c.args.session.now in
    let change = c.in_ok-change.change in
    if_ok c.carry_out.result (λ (d : Decision). IfSome a.forest (λ (rows : List Row). d ≡ carried change (kept_session schema change rows (changed schema change no_name rows) session)))
    (λ (d : Decision). IfSome a.forest (λ (rows : List Row). IsLawful schema rows d.change))
    (λ d h. where_told a.forest (λ (rows : List Row). IsLawful schema rows d.change)
    (λ rows e. carried_lawful schema rows change (kept_session schema change rows (changed schema change no_name rows) session) d
    (told_at a.forest rows (λ (r : List Row). d ≡ carried change (kept_session schema change r (changed schema change no_name r) session)) e h)
    (subst (λ (change : Change). IsLawful schema rows change) (sym c.in_ok-change.ensures) (deletion_lawful schema rows session (c.requires.stands rows e)))))
    c.carry_out.ensures.carried

pub returns-clause-looked : goal.returns-clause-looked
returns-clause-looked g c =
    let a = g.W.Walk.seen c.args.walk.now in
    up_more c.carry_out.ensures.looked (subst (λ (change : Change). looks_for a c.in_ok-change.change c.args.session.now ≤ looks_for a change c.args.session.now) c.in_ok-change.ensures (omega arith))
