-- Laws of decisions.
use Rattle.std.specs.Prelude.{◌≡◌, ℕ, true, false, List, codes, None, Some}
use Rattle.std.specs.Str.{bytes_eq}
use Rattle.hal_base.specs.declared.place.Ilk.{Ilk}
use Rattle.hal_schema.specs.declared.row.Row.{Row}
use Rattle.hal_schema.specs.declared.schema.Schema.{Schema}
use Rattle.call_text.specs.declared.line.Call.{Call}
use Rattle.position_state.specs.declared.session.Session.{Session}
use Rattle.position_state.specs.declared.spot.Change.TheVariants.{Nothing}
use Rattle.position_state.specs.Keep.{changed}
use Rattle.dli_calls.specs.declared.decision.Decision.{Decision}
use Rattle.dli_calls.specs.Gets.{is_get}
use Rattle.dli_calls.specs.Refusals.{refusal_of}
use Rattle.dli_calls.specs.Decided.{decision_of}

-- the status is said, nothing is changed, and of the session the hold ends; no more but after GB
pub record LeavesAll (status : List ℕ) (session : Session) (decision : Decision) : Type 0 where
  pub said : decision.reply.status ≡ status
  pub change : decision.change ≡ Nothing
  pub hold : decision.session.held ≡ None
  pub stays : bytes_eq status (codes "GB") ≡ false → decision.session ≡ record session { held = None }

abbrev pub RefusalsLeave : Type 0
RefusalsLeave = (schema : Schema) (rows : List Row) (free : ℕ) (session : Session) (call : Call) (status : List ℕ) → refusal_of schema rows free session call ≡ Some status
    → LeavesAll status session (decision_of schema rows free session call)

-- a get leaves the list, whatever it sets of an entry's pointer
abbrev pub GetsLeaveTheList : Type 0
GetsLeaveTheList = (schema : Schema) (rows : List Row) (free : ℕ) (session : Session) (call : Call) (name : Ilk) → is_get call ≡ true
    → changed schema (decision_of schema rows free session call).change name rows ≡ rows
