use Rattle.std.proofs.Common.{◌≡◌, ◌==◌, true, false, ◌||◌, not, Bool, List, None, refl, sym, ap, subst, ◌∙◌}
use Rattle.std.specs.Prelude.{codes, is_some, IfSome}
use Rattle.std.specs.List.{list_any}
use Rattle.hal_schema.specs.declared.row.Row.{Row}
use Rattle.position_state.specs.Lawful.{IsLawful}
use Rattle.dli_calls.specs.declared.decision.Decision.{Decision}
use Rattle.dli_calls.specs.Decided.{decision_of}
use Rattle.dli_calls.specs.Refusals.{asks_high_root}
use Rattle.call_gets.proofs.Looking.{differ_told}
use Rattle.call_changes.specs.Inserts.{is_high_root, placed_below, wanted_parent}
use Rattle.call_changes.proofs.Deciding.{decided_text, only_insert, refused_lawful}
use Rattle.call_changes.proofs.Inserting.{decided_data, decided_high, decided_parent, decided_placed, no_type}
use Rattle.call_changes.proofs.Looking.{if_ok, told_at, where_told}
use Rattle.call_changes.proofs.Parenting.{or_off, pathed, stands_below}
use Rattle.call_changes.proofs.Placing.{placed_lawful}
use Rattle.call_changes.proofs.Replacing.{content_long, not_false}
use Rattle.call_changes.proofs.insert.decide_insert.Goals as goal

pub returns-in-Some-clause-decided : goal.returns-in-Some-clause-decided
returns-in-Some-clause-decided g c =
    let a = g.W.Walk.seen c.args.walk.now in
    where_told a.forest (λ (rows : List Row). c.in_ok-refused.field-0 ≡ decision_of c.args.schema.now rows a.free c.args.session.now c.args.call.now)
    (λ rows e. decided_text c.args.schema.now rows a.free c.args.session.now c.args.call.now c.in-Some.status c.in_ok-refused.field-0 (sym c.text_refusal.ensures ∙ c.in-Some.is) c.in_ok-refused.ensures)

pub returns-in-Some-clause-lawful : goal.returns-in-Some-clause-lawful
returns-in-Some-clause-lawful g c =
    where_told (g.W.Walk.seen c.args.walk.now).forest (λ (rows : List Row). IsLawful c.args.schema.now rows c.in_ok-refused.field-0.change)
    (λ rows e. refused_lawful c.args.schema.now rows c.in-Some.status None c.args.session.now c.in_ok-refused.field-0 c.in_ok-refused.ensures)

pub returns-in_default-name_of_type-clause-decided : goal.returns-in_default-name_of_type-clause-decided
returns-in_default-name_of_type-clause-decided g c =
    let a = g.W.Walk.seen c.args.walk.now in
    where_told a.forest (λ (rows : List Row). c.in_ok-refused-2.field-0 ≡ decision_of c.args.schema.now rows a.free c.args.session.now c.args.call.now)
    (λ rows e. decided_data c.args.schema.now rows a.free c.args.session.now c.args.call.now c.inserted_code-code.result c.in_ok-refused-2.field-0
    (record { only = only_insert c.args.call.now c.requires.insert; plain = c.requires.plain; text = sym c.text_refusal.ensures ∙ c.in_default.is; code = c.inserted_code-code.ensures })
    (no_type c.args.schema.now c.inserted_code-code.result c.args.call.now (sym c.name_of_type.ensures ∙ c.in_default-name_of_type.is)) c.in_ok-refused-2.ensures)

pub returns-in_default-name_of_type-clause-lawful : goal.returns-in_default-name_of_type-clause-lawful
returns-in_default-name_of_type-clause-lawful g c =
    where_told (g.W.Walk.seen c.args.walk.now).forest (λ (rows : List Row). IsLawful c.args.schema.now rows c.in_ok-refused-2.field-0.change)
    (λ rows e. refused_lawful c.args.schema.now rows (codes "+L") None c.args.session.now c.in_ok-refused-2.field-0 c.in_ok-refused-2.ensures)

pub returns-in_default-2-clause-decided : goal.returns-in_default-2-clause-decided
returns-in_default-2-clause-decided g c =
    let a = g.W.Walk.seen c.args.walk.now in
    where_told a.forest (λ (rows : List Row). c.in_ok-refused-3.field-0 ≡ decision_of c.args.schema.now rows a.free c.args.session.now c.args.call.now)
    (λ rows e. decided_data c.args.schema.now rows a.free c.args.session.now c.args.call.now c.inserted_code-code.result c.in_ok-refused-3.field-0
    (record { only = only_insert c.args.call.now c.requires.insert; plain = c.requires.plain; text = sym c.text_refusal.ensures ∙ c.in_default.is; code = c.inserted_code-code.ensures })
    (sym c.in_ok-content.ensures ∙ c.in_default-2.is) c.in_ok-refused-3.ensures)

pub returns-in_default-2-clause-lawful : goal.returns-in_default-2-clause-lawful
returns-in_default-2-clause-lawful g c =
    where_told (g.W.Walk.seen c.args.walk.now).forest (λ (rows : List Row). IsLawful c.args.schema.now rows c.in_ok-refused-3.field-0.change)
    (λ rows e. refused_lawful c.args.schema.now rows (codes "+L") None c.args.session.now c.in_ok-refused-3.field-0 c.in_ok-refused-3.ensures)

pub returns-then-branch-clause-decided : goal.returns-then-branch-clause-decided
returns-then-branch-clause-decided g c =
    let a = g.W.Walk.seen c.args.walk.now in
    where_told a.forest (λ (rows : List Row). c.in_ok-refused-4.field-0 ≡ decision_of c.args.schema.now rows a.free c.args.session.now c.args.call.now)
    (λ rows e. decided_high c.args.schema.now rows a.free c.args.session.now c.args.call.now c.inserted_code-code.result c.in-Some-2.content c.in_ok-refused-4.field-0
    (record { only = only_insert c.args.call.now c.requires.insert; plain = c.requires.plain; text = sym c.text_refusal.ensures ∙ c.in_default.is; code = c.inserted_code-code.ensures })
    (sym c.in_ok-content.ensures ∙ c.in-Some-2.is) (sym c.in_ok-asks_too_high.ensures ∙ c.if-branch.true) c.in_ok-refused-4.ensures)

pub returns-then-branch-clause-lawful : goal.returns-then-branch-clause-lawful
returns-then-branch-clause-lawful g c =
    where_told (g.W.Walk.seen c.args.walk.now).forest (λ (rows : List Row). IsLawful c.args.schema.now rows c.in_ok-refused-4.field-0.change)
    (λ rows e. refused_lawful c.args.schema.now rows (codes "FM") None c.args.session.now c.in_ok-refused-4.field-0 c.in_ok-refused-4.ensures)

pub returns-then-lacks_parent-clause-decided : goal.returns-then-lacks_parent-clause-decided
returns-then-lacks_parent-clause-decided g c =
    let a = g.W.Walk.seen c.args.walk.now in
    let schema = c.args.schema.now in
    let session = c.args.session.now in
    let call = c.args.call.now in
    where_told a.forest (λ (rows : List Row). c.in_ok-refused-5.field-0 ≡ decision_of schema rows a.free session call)
    (λ rows e. decided_parent schema rows a.free session call c.inserted_code-code.result c.in_ok-parent.parent c.in-Some-2.content c.in_ok-refused-5.field-0
    (record { only = only_insert call c.requires.insert; plain = c.requires.plain; text = sym c.text_refusal.ensures ∙ c.in_default.is; code = c.inserted_code-code.ensures })
    (record { parent = told_at a.forest rows (λ (r : List Row). c.in_ok-parent.parent ≡ wanted_parent schema r call session) e c.in_ok-parent.ensures.parent; content = sym c.in_ok-content.ensures ∙ c.in-Some-2.is })
    (sym c.in_ok-asks_too_high.ensures ∙ c.if-branch.false) (not_true_of (c.inserted_code-code.result == 1 || is_some c.in_ok-parent.parent) (sym c.lacks_parent.ensures ∙ c.if-lacks_parent.true)) c.in_ok-refused-5.ensures)
  where
    not_true_of : (b : Bool) → not b ≡ true → b ≡ false
    not_true_of true h = sym h
    not_true_of false h = refl

pub returns-then-lacks_parent-clause-lawful : goal.returns-then-lacks_parent-clause-lawful
returns-then-lacks_parent-clause-lawful g c =
    where_told (g.W.Walk.seen c.args.walk.now).forest (λ (rows : List Row). IsLawful c.args.schema.now rows c.in_ok-refused-5.field-0.change)
    (λ rows e. refused_lawful c.args.schema.now rows (codes "GE") None c.args.session.now c.in_ok-refused-5.field-0 c.in_ok-refused-5.ensures)

pub insert_below-requires-clause-below : goal.insert_below-requires-clause-below
insert_below-requires-clause-below g c = λ rows e.
    let a = g.W.Walk.seen c.args.walk.now in
    let schema = c.args.schema.now in
    let session = c.args.session.now in
    let call = c.args.call.now in
    let told = sym c.parent_of.ensures.looked.forest ∙ e in
    stands_below schema rows session call c.inserted_code-code.result c.in_ok-parent.parent (differ_told c.places_differ.ensures a schema rows (g.met.W.Walk.keeps_forest c.args.walk.now) c.requires.schema told)
    (pathed schema session call c.requires.insert (sym c.text_refusal.ensures ∙ c.in_default.is)) c.inserted_code-code.ensures
    (told_at a.forest rows (λ (r : List Row). c.in_ok-parent.parent ≡ wanted_parent schema r call session) told c.in_ok-parent.ensures.parent)
    (not_false (c.inserted_code-code.result == 1 || is_some c.in_ok-parent.parent) (sym c.lacks_parent.ensures ∙ c.if-lacks_parent.false))

pub returns-clause-decided : goal.returns-clause-decided
returns-clause-decided g c =
    let a = g.W.Walk.seen c.args.walk.now in
    let b = g.W.Walk.seen c.parent_of.new.walk in
    let schema = c.args.schema.now in
    let session = c.args.session.now in
    let call = c.args.call.now in
    let code = c.inserted_code-code.result in
    let parent = c.in_ok-parent.parent in
    let content = c.in-Some-2.content in
    if_ok c.insert_below.result (λ (d : Decision). IfSome b.forest (λ (rows : List Row). d ≡ placed_below schema rows b.free session code parent content))
    (λ (d : Decision). IfSome a.forest (λ (rows : List Row). d ≡ decision_of schema rows a.free session call))
    (λ d h. where_told a.forest (λ (rows : List Row). d ≡ decision_of schema rows a.free session call)
    (λ rows e. decided_placed schema rows a.free session call code parent content d
    (record { only = only_insert call c.requires.insert; plain = c.requires.plain; text = sym c.text_refusal.ensures ∙ c.in_default.is; code = c.inserted_code-code.ensures })
    (record {
      asked = record { parent = told_at a.forest rows (λ (r : List Row). c.in_ok-parent.parent ≡ wanted_parent schema r call session) e c.in_ok-parent.ensures.parent; content = sym c.in_ok-content.ensures ∙ c.in-Some-2.is };
      high = sym c.in_ok-asks_too_high.ensures ∙ c.if-branch.false;
      parent = not_false (code == 1 || is_some parent) (sym c.lacks_parent.ensures ∙ c.if-lacks_parent.false);
    })
    (told_at b.forest rows (λ (r : List Row). d ≡ placed_below schema r b.free session code parent content) (c.parent_of.ensures.looked.forest ∙ e) h
    ∙ ap (λ free. placed_below schema rows free session code parent content) c.parent_of.ensures.looked.free)))
    c.insert_below.ensures.placed

pub returns-clause-lawful : goal.returns-clause-lawful
returns-clause-lawful g c =
    let a = g.W.Walk.seen c.args.walk.now in
    let b = g.W.Walk.seen c.parent_of.new.walk in
    let schema = c.args.schema.now in
    let session = c.args.session.now in
    let call = c.args.call.now in
    let code = c.inserted_code-code.result in
    let parent = c.in_ok-parent.parent in
    let content = c.in-Some-2.content in
    if_ok c.insert_below.result (λ (d : Decision). IfSome b.forest (λ (rows : List Row). d ≡ placed_below schema rows b.free session code parent content))
    (λ (d : Decision). IfSome a.forest (λ (rows : List Row). IsLawful schema rows d.change))
    (λ d h. where_told a.forest (λ (rows : List Row). IsLawful schema rows d.change)
    (λ rows e. subst (λ (d : Decision). IsLawful schema rows d.change) (sym (told_at b.forest rows (λ (r : List Row). d ≡ placed_below schema r b.free session code parent content) (c.parent_of.ensures.looked.forest ∙ e) h))
    (placed_lawful schema rows b.free session code parent content
    (stands_below schema rows session call code parent (differ_told c.places_differ.ensures a schema rows (g.met.W.Walk.keeps_forest c.args.walk.now) c.requires.schema e)
    (pathed schema session call c.requires.insert (sym c.text_refusal.ensures ∙ c.in_default.is)) c.inserted_code-code.ensures
    (told_at a.forest rows (λ (r : List Row). parent ≡ wanted_parent schema r call session) e c.in_ok-parent.ensures.parent)
    (not_false (code == 1 || is_some parent) (sym c.lacks_parent.ensures ∙ c.if-lacks_parent.false)))
    (content_long schema code call content (sym c.in_ok-content.ensures ∙ c.in-Some-2.is))
    (or_off (list_any (asks_high_root schema) call.ssas) (is_high_root schema code content) (sym c.in_ok-asks_too_high.ensures ∙ c.if-branch.false)).1)))
    c.insert_below.ensures.placed
