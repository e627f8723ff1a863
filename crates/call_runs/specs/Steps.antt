-- What a call of a script is answered, what it leads to, and how many free blocks it may take.
use Rattle.std.specs.Prelude.{◌≡◌, ℕ, true, List, map, Option, None, Some, MatchOption, if◌then◌else◌, ⊤}
use Rattle.std.specs.Option.{option_map_or}
use Rattle.hal_base.specs.declared.place.Ilk.{Ilk}
use Rattle.hal_schema.specs.declared.row.Row.{Row}
use Rattle.hal_schema.specs.declared.schema.Schema.{Schema}
use Rattle.hal_schema.specs.Row.{is_new_name}
use Rattle.call_text.specs.declared.line.Call.{Call}
use Rattle.call_text.specs.declared.reply.Reply.{Reply}
use Rattle.position_state.specs.declared.session.Anchor.TheVariants.{At}
use Rattle.position_state.specs.declared.session.Session.{Session}
use Rattle.position_state.specs.declared.spot.Change.{Change}
use Rattle.position_state.specs.declared.spot.Change.TheVariants.{Insert}
use Rattle.position_state.specs.Keep.{changed, kept_session}
use Rattle.dli_calls.specs.declared.decision.Decision.{Decision}
use Rattle.dli_calls.specs.Decided.{decision_of}
use Rattle.dli_calls.specs.Refusals.{need_of, refusal_of}
use Rattle.call_runs.specs.declared.state.CallState.{CallState}
use Rattle.call_runs.specs.declared.state.OpenSession.{OpenSession}
use Rattle.call_runs.specs.Sessions.{is_named, session_of, session_reply}

-- a call that names no open session of its script is answered `+S 5`
abbrev pub call_reply : Schema → CallState → Option ℕ → ℕ → Call → Reply
call_reply schema state script free call =
    option_map_or (λ (s : OpenSession). (decision_of schema state.forest free s.session call).reply) (session_of state.sessions script call.session) (session_reply (Some 5))

-- ---- what it leads to

-- the name of a new row is any that no row has
abbrev pub MayName : Change → List Row → Ilk → Type 0
MayName (Insert parent root code content) rows name = is_new_name rows name ≡ true
MayName change rows name = ⊤

-- an ISRT sets its session on the new row
abbrev pub set_on_new : Change → Ilk → Session → Session
set_on_new (Insert parent root code content) name session = record session { anchor = At name root None }
set_on_new change name session = session

-- what a call leaves of an open session: of its own what was decided, of each other what the change leaves of it
abbrev pub session_after : Schema → List Row → List Row → Decision → Ilk → Option ℕ → Call → OpenSession → OpenSession
session_after schema old new decision name script call one =
    record one {
      session = if is_named script call.session one then set_on_new decision.change name decision.session else kept_session schema decision.change old new one.session;
    }

abbrev pub state_after : Schema → CallState → Option ℕ → Call → Decision → Ilk → CallState
state_after schema state script call decision name =
    let new = changed schema decision.change name state.forest in
    record state { forest = new; sessions = map (session_after schema state.forest new decision name script call) state.sessions }

pub record DecisionLeads (schema : Schema) (state : CallState) (script : Option ℕ) (call : Call) (decision : Decision) (after : CallState) : Type 0 where
  pub name : Ilk
  pub fresh : MayName decision.change state.forest name
  pub is : after ≡ state_after schema state script call decision name

-- a call on no open session changes nothing
abbrev pub CallLeads : Schema → CallState → Option ℕ → ℕ → Call → CallState → Type 0
CallLeads schema state script free call after =
    MatchOption (session_of state.sessions script call.session) (after ≡ state)
    (λ (s : OpenSession). DecisionLeads schema state script call (decision_of schema state.forest free s.session call) after)

-- ---- its need

-- a refused call takes no block, and neither does a get or a DLET
abbrev pub need_done : Schema → List Row → ℕ → Session → Call → ℕ
need_done schema rows free session call = option_map_or (λ status. 0) (refusal_of schema rows free session call) (need_of schema rows session call)

abbrev pub call_need : Schema → CallState → Option ℕ → ℕ → Call → ℕ
call_need schema state script free call = option_map_or (λ (s : OpenSession). need_done schema state.forest free s.session call) (session_of state.sessions script call.session) 0
