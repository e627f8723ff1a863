-- What an answer leaves: a forest, in which all sessions stand.
use Rattle.std.proofs.Common.{◌≡◌, ℕ, Bool, true, false, ◌&&◌, cond, List, [], ◌∷◌, map, Option, None, Some, refl, sym, ap, subst, ◌∙◌, IsTrue}
use Rattle.std.specs.Prelude.{MatchOption, is_none}
use Rattle.std.specs.List.{list_all}
use Rattle.std.specs.Option.{option_map_or}
use Rattle.std.proofs.lemmas.Bool.{and_from, and_parts}
use Rattle.hal_base.specs.declared.place.Ilk.{Ilk}
use Rattle.hal_schema.specs.declared.row.Row.{Row}
use Rattle.hal_schema.specs.declared.schema.Schema.{Schema}
use Rattle.hal_schema.specs.Forest.{is_forest}
use Rattle.hal_schema.specs.Row.{is_new_name}
use Rattle.call_text.specs.declared.line.Call.{Call}
use Rattle.position_state.specs.declared.session.Session.{Session}
use Rattle.position_state.specs.declared.spot.Change.{Change}
use Rattle.position_state.specs.declared.spot.Change.TheVariants.{Nothing, Insert, Replace, Delete, Heal}
use Rattle.position_state.specs.Keep.{changed, kept_session}
use Rattle.position_state.specs.Lawful.{Stands, is_row_of}
use Rattle.position_state.specs.View.{is_place_of, view_of}
use Rattle.dli_calls.specs.declared.decision.Decision.{Decision}
use Rattle.dli_calls.specs.Decided.{decision_of}
use Rattle.call_runs.specs.declared.state.OpenSession.{OpenSession}
use Rattle.call_runs.specs.Sessions.{is_named, session_of, session_reply}
use Rattle.call_runs.specs.Steps.{DecisionLeads, MayName, session_after, set_on_new}
use Rattle.call_changes.specs.declared.answer.Answer.{Answer}
use Rattle.call_changes.specs.Answer.{AnswersKeepAForest, AnswersLead, after_answer, all_stand, answered, is_plain, is_standing, unanswered}
use Rattle.call_changes.specs.Laws.{DecisionsKeepAForest, KeepsAll}
use Rattle.call_changes.proofs.Sessions.{found_holds, plain_index, stands}

none_plain : (index : Option ℕ) → index ≡ None → is_none index ≡ true
none_plain None e = refl
none_plain (Some i) e = absurd (let no : ⊥ = cc in no)

standing : (schema : Schema) (rows : List Row) (one : OpenSession) → one.session.index ≡ None → Stands schema rows one.session → is_standing schema rows one ≡ true
standing schema rows one plain s =
    and_from (is_plain one && is_place_of (view_of schema one.session.index rows) one.session.anchor && is_row_of schema rows one.session.held) (is_row_of schema rows one.session.parent)
    (and_from (is_plain one && is_place_of (view_of schema one.session.index rows) one.session.anchor) (is_row_of schema rows one.session.held)
    (and_from (is_plain one) (is_place_of (view_of schema one.session.index rows) one.session.anchor) (none_plain one.session.index plain) s.anchor) s.held) s.parent

set_plain : (change : Change) (name : Ilk) (session : Session) → session.index ≡ None → (set_on_new change name session).index ≡ None
set_plain Nothing name session e = e
set_plain (Insert parent root code content) name session e = e
set_plain (Replace row root content) name session e = e
set_plain (Delete row root) name session e = e
set_plain (Heal index entry) name session e = e

may_name : (change : Change) (rows : List Row) (name : Ilk) → IsTrue (is_new_name rows name) → MayName change rows name
may_name Nothing rows name new = tt
may_name (Insert parent root code content) rows name new = new
may_name (Replace row root content) rows name new = tt
may_name (Delete row root) rows name new = tt
may_name (Heal index entry) rows name new = tt

-- one session, after a call of this or of another one
one_stands : (schema : Schema) (rows : List Row) (d : Decision) (name : Ilk) (script : Option ℕ) (call : Call) (one : OpenSession) → KeepsAll schema rows (changed schema d.change name rows) d name
    → is_standing schema rows one ≡ true → is_standing schema (changed schema d.change name rows) (session_after schema rows (changed schema d.change name rows) d name script call one) ≡ true
one_stands schema rows d name script call one keeps is = by (is_named script call.session one)
  where
    new : List Row
    new = changed schema d.change name rows

    plain : one.session.index ≡ None
    plain = plain_index one (and_parts (is_plain one) _ (and_parts _ _ (and_parts _ (is_row_of schema rows one.session.parent) is).0).0).0

    by : (b : Bool) → is_standing schema (changed schema d.change name rows) (record one {
      session = cond b (set_on_new d.change name d.session) (kept_session schema d.change rows (changed schema d.change name rows) one.session);
    }) ≡ true
    by true = standing schema (changed schema d.change name rows) (record one { session = set_on_new d.change name d.session }) (set_plain d.change name d.session keeps.plain) keeps.own
    by false = standing schema (changed schema d.change name rows) (record one { session = kept_session schema d.change rows (changed schema d.change name rows) one.session }) plain
        (keeps.others one.session plain (stands schema rows one is))

all_after : (schema : Schema) (rows : List Row) (d : Decision) (name : Ilk) (script : Option ℕ) (call : Call) (sessions : List OpenSession) → KeepsAll schema rows (changed schema d.change name rows) d name
    → all_stand schema rows sessions ≡ true → all_stand schema (changed schema d.change name rows) (map (session_after schema rows (changed schema d.change name rows) d name script call) sessions) ≡ true
all_after schema rows d name script call [] keeps all = refl
all_after schema rows d name script call (one ∷ sessions) keeps all =
    let a = and_parts (is_standing schema rows one) (all_stand schema rows sessions) all in
    and_from _ _ (one_stands schema rows d name script call one keeps a.0) (all_after schema rows d name script call sessions keeps a.1)

pub answers_keep : DecisionsKeepAForest → AnswersKeepAForest
answers_keep keep schema rows free sessions script call name forest all new = by (session_of sessions script call.session) refl
  where
    of : Option OpenSession → Answer
    of o = option_map_or (λ (s : OpenSession). answered schema rows script call name sessions (decision_of schema rows free s.session call)) o (unanswered sessions)

    by : (o : Option OpenSession) → session_of sessions script call.session ≡ o
        → IsTrue (is_forest schema (changed schema (of o).change name rows)) × IsTrue (all_stand schema (changed schema (of o).change name rows) (of o).sessions)
    by None e = (forest, all)
    by (Some s) e =
        let own = found_holds (is_standing schema rows) (is_named script call.session) sessions s all e in
        let d : Decision = decision_of schema rows free s.session call in
        let plain = plain_index s (and_parts (is_plain s) _ (and_parts _ _ (and_parts _ (is_row_of schema rows s.session.parent) own).0).0).0 in
        let k = keep schema rows free s.session call name (record { forest = forest; plain = plain; stands = stands schema rows s own }) (may_name d.change rows name new) in
        (k.forest, all_after schema rows d name script call sessions k all)

pub answers_lead : AnswersLead
answers_lead schema state free script call name new = by (session_of state.sessions script call.session)
  where
    of : Option OpenSession → Answer
    of o = option_map_or (λ (s : OpenSession). answered schema state.forest script call name state.sessions (decision_of schema state.forest free s.session call)) o (unanswered state.sessions)

    by : (o : Option OpenSession)
        → ((of o).reply ≡ option_map_or (λ (s : OpenSession). (decision_of schema state.forest free s.session call).reply) o (session_reply (Some 5)))
        × MatchOption o (after_answer schema state (of o) name ≡ state) (λ (s : OpenSession). DecisionLeads schema state script call (decision_of schema state.forest free s.session call) (after_answer schema state (of o) name))
    by None = (refl, refl)
    by (Some s) =
        let d : Decision = decision_of schema state.forest free s.session call in
        (refl, record { name = name; fresh = may_name d.change state.forest name new; is = refl })
