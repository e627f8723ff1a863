-- What a call of a script is answered by looks, and what it leaves of the open sessions.
use Rattle.std.specs.Prelude.{◌≡◌, ℕ, ◌&&◌, Bool, List, map, Option, Some, IfSome, IsTrue, is_none}
use Rattle.std.specs.List.{list_all}
use Rattle.std.specs.Option.{ForSome, option_map_or}
use Rattle.hal_base.specs.declared.place.Ilk.{Ilk}
use Rattle.hal_schema.specs.declared.row.Row.{Row}
use Rattle.hal_schema.specs.declared.schema.Schema.{Schema}
use Rattle.hal_schema.specs.Forest.{is_forest}
use Rattle.hal_schema.specs.Row.{is_new_name}
use Rattle.call_text.specs.declared.line.Call.{Call}
use Rattle.position_state.specs.declared.session.Session.{Session}
use Rattle.position_state.specs.declared.spot.Change.TheVariants.{Nothing}
use Rattle.position_state.specs.Keep.{changed}
use Rattle.position_state.specs.Lawful.{IsLawful, is_row_of}
use Rattle.position_state.specs.Looks.{WalkView}
use Rattle.position_state.specs.View.{is_place_of, view_of}
use Rattle.dli_calls.specs.declared.decision.Decision.{Decision}
use Rattle.call_runs.specs.declared.state.OpenSession.{OpenSession}
use Rattle.call_runs.specs.Sessions.{session_of, session_reply}
use Rattle.call_runs.specs.declared.state.CallState.{CallState}
use Rattle.call_runs.specs.Steps.{CallLeads, call_reply, session_after}
use Rattle.dli_calls.specs.Decided.{decision_of}
use Rattle.call_changes.specs.declared.answer.Answer.{Answer}

-- a session that sees the database in hierarchic sequence
abbrev pub is_plain : OpenSession → Bool
is_plain one = is_none one.session.index

-- and stands in a list: its position is the front or an element, its hold and its parentage are rows
abbrev pub is_standing : Schema → List Row → OpenSession → Bool
is_standing schema rows one =
    is_plain one && is_place_of (view_of schema one.session.index rows) one.session.anchor && is_row_of schema rows one.session.held && is_row_of schema rows one.session.parent

abbrev pub all_stand : Schema → List Row → List OpenSession → Bool
all_stand schema rows sessions = list_all (is_standing schema rows) sessions

-- what a decision leaves of open sessions, where a new row has this name
abbrev pub sessions_left : Schema → List Row → Option ℕ → Call → Decision → Ilk → List OpenSession → List OpenSession
sessions_left schema rows script call decision name sessions =
    map (session_after schema rows (changed schema decision.change name rows) decision name script call) sessions

abbrev pub session_left : Schema → List Row → Option ℕ → Call → Decision → Ilk → OpenSession → Session
session_left schema rows script call decision name one =
    (session_after schema rows (changed schema decision.change name rows) decision name script call one).session

-- what is answered by a decision, and where the call names no open session of its script
abbrev pub answered : Schema → List Row → Option ℕ → Call → Ilk → List OpenSession → Decision → Answer
answered schema rows script call name sessions decision = record {
  reply = decision.reply;
  change = decision.change;
  sessions = sessions_left schema rows script call decision name sessions;
}

abbrev pub unanswered : List OpenSession → Answer
unanswered sessions = record { reply = session_reply (Some 5); change = Nothing; sessions = sessions }

-- what a call of a script is answered in a list with so many free blocks
abbrev pub answer_of : Schema → List Row → ℕ → List OpenSession → Option ℕ → Call → Ilk → Answer
answer_of schema rows free sessions script call name =
    option_map_or (λ (s : OpenSession). answered schema rows script call name sessions (decision_of schema rows free s.session call))
    (session_of sessions script call.session) (unanswered sessions)

-- where the list is told, this is answered, and the change is one that calls may make
abbrev pub IsAnswer : WalkView → List OpenSession → Option ℕ → Call → Ilk → Answer → Type 0
IsAnswer seen sessions script call name answer =
    IfSome seen.forest (λ rows. (answer ≡ answer_of seen.schema rows seen.free sessions script call name) × IsLawful seen.schema rows answer.change)

-- where the list is told, this session stands in it, or all of these
abbrev pub StandsIn : WalkView → OpenSession → Type 0
StandsIn seen one = ForSome seen.forest (λ rows. IsTrue (is_standing seen.schema rows one))

abbrev pub AllStandIn : WalkView → List OpenSession → Type 0
AllStandIn seen sessions = ForSome seen.forest (λ rows. IsTrue (all_stand seen.schema rows sessions))

-- after an answer's change the list is a forest again, in which all sessions stand that the answer leaves
abbrev pub AnswersKeepAForest : Type 0
AnswersKeepAForest = (schema : Schema) (rows : List Row) (free : ℕ) (sessions : List OpenSession) (script : Option ℕ) (call : Call) (name : Ilk)
    → IsTrue (is_forest schema rows) → IsTrue (all_stand schema rows sessions) → IsTrue (is_new_name rows name)
    → let answer : Answer = answer_of schema rows free sessions script call name in
    let new : List Row = changed schema answer.change name rows in IsTrue (is_forest schema new) × IsTrue (all_stand schema new answer.sessions)

-- the state that an answer's change makes of one
abbrev pub after_answer : Schema → CallState → Answer → Ilk → CallState
after_answer schema state answer name = record state { forest = changed schema answer.change name state.forest; sessions = answer.sessions }

-- an answer is what the language of calls says, and it leads where a call may lead
abbrev pub AnswersLead : Type 0
AnswersLead = (schema : Schema) (state : CallState) (free : ℕ) (script : Option ℕ) (call : Call) (name : Ilk) → IsTrue (is_new_name state.forest name)
    → let answer : Answer = answer_of schema state.forest free state.sessions script call name in
    (answer.reply ≡ call_reply schema state script free call) × CallLeads schema state script free call (after_answer schema state answer name)
