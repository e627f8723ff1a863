use Rattle.std.proofs.Common.{◌≡◌, List, None, sym, ap, subst, ◌∙◌, arith}
use Rattle.std.specs.Prelude.{IfSome, codes}
use Rattle.std.proofs.lemmas.Bool.{le-ltb}
use Rattle.hal_schema.specs.declared.row.Row.{Row}
use Rattle.hal_schema.specs.declared.schema.Schema.{Schema}
use Rattle.position_state.specs.declared.spot.Change.{Change}
use Rattle.position_state.specs.Keep.{changed, kept_session}
use Rattle.position_state.specs.Lawful.{IsLawful, Stands}
use Rattle.dli_calls.specs.Changes.{no_name}
use Rattle.dli_calls.specs.declared.decision.Decision.{Decision}
use Rattle.call_changes.specs.Moves.{moved_entries, replaced_by, replaced_row}
use Rattle.call_changes.specs.Outcome.{carried}
use Rattle.call_changes.proofs.Deciding.{carried_lawful, refused_lawful}
use Rattle.call_changes.proofs.Looking.{if_ok, told_at, where_told}
use Rattle.call_changes.proofs.Replacing.{row_lawful, left_by_need}
use Rattle.call_changes.proofs.replace.replace_row.Goals as goal

pub carry_out-requires-clause-of_list : goal.carry_out-requires-clause-of_list
carry_out-requires-clause-of_list g c = λ rows e.
    let a = g.W.Walk.seen c.args.walk.now in
    let b = g.W.Walk.seen c.moved_entries.new.walk in
    let schema = c.args.schema.now in
    let session = c.args.session.now in
    let told = sym c.moved_entries.ensures.looked.forest ∙ e in
    subst (λ (s : Schema). Stands s rows session × IsLawful s rows c.in_ok-change.change) (sym (c.moved_entries.ensures.looked.schema ∙ c.requires.schema)) (
      c.requires.stands rows told,
      subst (λ (change : Change). IsLawful schema rows change) (sym c.in_ok-change.ensures)
          (row_lawful schema rows session c.args.row.now c.args.content c.in-Some.need (c.requires.stands rows told) (c.requires.may_have rows told)
          (sym (told_at a.forest rows (λ (r : List Row). c.in_ok-need.field-0 ≡ moved_entries schema.types r c.args.row.now c.args.content schema.indexes) told c.in_ok-need.ensures.moved) ∙ c.in-Some.is)),
    )

pub returns-in_default-clause-replaced : goal.returns-in_default-clause-replaced
returns-in_default-clause-replaced g c =
    let a = g.W.Walk.seen c.args.walk.now in
    let schema = c.args.schema.now in
    let session = c.args.session.now in
    where_told a.forest (λ (rows : List Row). c.in_ok-refused.field-0 ≡ replaced_row schema rows a.free session c.args.row.now c.args.content)
    (λ rows e. c.in_ok-refused.ensures
    ∙ ap (replaced_by schema rows a.free session c.args.content) (sym c.in_default.is ∙ told_at a.forest rows (λ (r : List Row). c.in_ok-need.field-0 ≡ moved_entries schema.types r c.args.row.now c.args.content schema.indexes) e c.in_ok-need.ensures.moved))

pub returns-in_default-clause-lawful : goal.returns-in_default-clause-lawful
returns-in_default-clause-lawful g c =
    where_told (g.W.Walk.seen c.args.walk.now).forest (λ (rows : List Row). IsLawful c.args.schema.now rows c.in_ok-refused.field-0.change)
    (λ rows e. refused_lawful c.args.schema.now rows (codes "NI") None c.args.session.now c.in_ok-refused.field-0 c.in_ok-refused.ensures)

pub returns-clause-replaced : goal.returns-clause-replaced
returns-clause-replaced g c =
    let a = g.W.Walk.seen c.args.walk.now in
    let b = g.W.Walk.seen c.moved_entries.new.walk in
    let schema = c.args.schema.now in
    let session = c.args.session.now in
    let change = c.in_ok-change.change in
    if_ok c.carry_out.result (λ (d : Decision). IfSome b.forest (λ (rows : List Row). d ≡ carried change (kept_session schema change rows (changed schema change no_name rows) session)))
    (λ (d : Decision). IfSome a.forest (λ (rows : List Row). d ≡ replaced_row schema rows a.free session c.args.row.now c.args.content))
    (λ d h. where_told a.forest (λ (rows : List Row). d ≡ replaced_row schema rows a.free session c.args.row.now c.args.content)
    (λ rows e. told_at b.forest rows (λ (r : List Row). d ≡ carried change (kept_session schema change r (changed schema change no_name r) session)) (c.moved_entries.ensures.looked.forest ∙ e) h
    ∙ ap (λ (change : Change). carried change (kept_session schema change rows (changed schema change no_name rows) session)) c.in_ok-change.ensures
    ∙ left_by_need schema rows a.free session c.args.content c.in-Some.need (le-ltb a.free c.in-Some.need (omega (arith, c.free.ensures, c.moved_entries.ensures.looked.free, c.if-free-need.false, c.from-need.ensures)))
    ∙ ap (replaced_by schema rows a.free session c.args.content) (sym c.in-Some.is ∙ told_at a.forest rows (λ (r : List Row). c.in_ok-need.field-0 ≡ moved_entries schema.types r c.args.row.now c.args.content schema.indexes) e c.in_ok-need.ensures.moved)))
    c.carry_out.ensures.carried

pub returns-clause-lawful : goal.returns-clause-lawful
returns-clause-lawful g c =
    let a = g.W.Walk.seen c.args.walk.now in
    let b = g.W.Walk.seen c.moved_entries.new.walk in
    let schema = c.args.schema.now in
    let session = c.args.session.now in
    let change = c.in_ok-change.change in
    if_ok c.carry_out.result (λ (d : Decision). IfSome b.forest (λ (rows : List Row). d ≡ carried change (kept_session schema change rows (changed schema change no_name rows) session)))
    (λ (d : Decision). IfSome a.forest (λ (rows : List Row). IsLawful schema rows d.change))
    (λ d h. where_told a.forest (λ (rows : List Row). IsLawful schema rows d.change)
    (λ rows e. carried_lawful schema rows change (kept_session schema change rows (changed schema change no_name rows) session) d
    (told_at b.forest rows (λ (r : List Row). d ≡ carried change (kept_session schema change r (changed schema change no_name r) session)) (c.moved_entries.ensures.looked.forest ∙ e) h)
    (subst (λ (change : Change). IsLawful schema rows change) (sym c.in_ok-change.ensures)
    (row_lawful schema rows session c.args.row.now c.args.content c.in-Some.need (c.requires.stands rows e) (c.requires.may_have rows e)
    (sym (told_at a.forest rows (λ (r : List Row). c.in_ok-need.field-0 ≡ moved_entries schema.types r c.args.row.now c.args.content schema.indexes) e c.in_ok-need.ensures.moved) ∙ c.in-Some.is)))))
    c.carry_out.ensures.carried
