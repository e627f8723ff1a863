-- What a decision by looks is.
use Rattle.std.specs.Prelude.{◌≡◌, ℕ, ◌+◌, ◌≤◌, true, List, length, Option, None, Some, IfSome}
use Rattle.hal_base.specs.Fault.{Fails}
use Rattle.hal_schema.specs.declared.schema.Schema.{Schema}
use Rattle.call_text.specs.declared.line.Call.{Call}
use Rattle.position_state.specs.declared.session.Anchor.{Anchor}
use Rattle.position_state.specs.declared.session.Anchor.TheVariants.{Front, At}
use Rattle.position_state.specs.declared.session.Session.{Session}
use Rattle.position_state.specs.declared.spot.Change.{Change}
use Rattle.position_state.specs.declared.spot.Change.TheVariants.{Nothing, Replace, Delete}
use Rattle.position_state.specs.AfterChange.{looks_for}
use Rattle.position_state.specs.Lawful.{IsLawful}
use Rattle.position_state.specs.Looks.{WalkView}
use Rattle.dli_calls.specs.declared.decision.Decision.{Decision}
use Rattle.dli_calls.specs.Changes.{inserted_code}
use Rattle.dli_calls.specs.Decided.{decision_of, reply_of, unheld}
use Rattle.dli_calls.specs.Gets.{blank_status}
use Rattle.dli_calls.specs.Refusals.{is_delete, is_insert, is_replace}

-- where the list is told, this is the decision of a call, with as many blocks as are free
abbrev pub IsDecision : Schema → WalkView → Session → Call → Decision → Type 0
IsDecision schema seen session call decision = IfSome seen.forest (λ rows. decision ≡ decision_of schema rows seen.free session call)

-- where the list is told, the change is one that calls may make
abbrev pub IsLawfulIn : Schema → WalkView → Decision → Type 0
IsLawfulIn schema seen decision = IfSome seen.forest (λ rows. IsLawful schema rows decision.change)

-- looks, however many: nothing is changed, and a fault comes only where its count rose
pub record OnlyLooks (failed : Type 0) (old new : WalkView) : Type 0 where
  pub faults : Fails failed old.faults new.faults new.live
  pub schema : new.schema ≡ old.schema
  pub forest : new.forest ≡ old.forest
  pub free : new.free ≡ old.free

-- a refusal other than GB
abbrev pub refused_with : List ℕ → Option ℕ → Session → Decision
refused_with status number session = record {
  reply = record { status = status; seg = None; part = None; number = number };
  change = Nothing;
  session = unheld session;
}

-- a change of the held row, and what it leaves of the session that made it
abbrev pub carried : Change → Session → Decision
carried change left = record { reply = reply_of blank_status None; change = change; session = unheld left }

-- a DLET deletes the held row
abbrev pub deletion_of : Option Anchor → Change
deletion_of None = Nothing
deletion_of (Some Front) = Nothing
deletion_of (Some (At name root entry)) = Delete name root

-- a REPL gives the held row other content
abbrev pub replacement_of : Option Anchor → List ℕ → Change
replacement_of None content = Nothing
replacement_of (Some Front) content = Nothing
replacement_of (Some (At name root entry)) content = Replace name root content

-- how often a call that changes looks at most: a REPL once for its row and once for each index, an ISRT of a root once for its
-- key and once for each index, a DLET for what it leaves of its own session
pub record LooksFew (schema : Schema) (session : Session) (call : Call) (old new : WalkView) : Type 0 where
  pub replace : is_replace call ≡ true → new.looks ≤ old.looks + (1 + length schema.indexes)
  pub root : is_insert call ≡ true → inserted_code schema call ≡ 1 → new.looks ≤ old.looks + (1 + length schema.indexes)
  pub delete : is_delete call ≡ true → new.looks ≤ old.looks + looks_for old (deletion_of session.held) session
