-- What the decision of every call keeps: its change is one that calls may make, so the list that it leaves is a forest, in
-- which its own session stands, and each other that stood.
use Rattle.std.specs.Prelude.{◌≡◌, ℕ, List, None, IsTrue}
use Rattle.hal_base.specs.declared.place.Ilk.{Ilk}
use Rattle.hal_schema.specs.declared.row.Row.{Row}
use Rattle.hal_schema.specs.declared.schema.Schema.{Schema}
use Rattle.hal_schema.specs.Forest.{is_forest}
use Rattle.call_text.specs.declared.line.Call.{Call}
use Rattle.position_state.specs.declared.session.Session.{Session}
use Rattle.position_state.specs.Keep.{changed, kept_session}
use Rattle.position_state.specs.Lawful.{Stands, IsLawful}
use Rattle.dli_calls.specs.declared.decision.Decision.{Decision}
use Rattle.dli_calls.specs.Decided.{decision_of}
use Rattle.call_runs.specs.Steps.{MayName, set_on_new}

-- a session that sees a forest in hierarchic sequence, and stands in it
pub record MayCall (schema : Schema) (rows : List Row) (session : Session) : Type 0 where
  pub forest : IsTrue (is_forest schema rows)
  pub plain : session.index ≡ None
  pub stands : Stands schema rows session

abbrev pub DecisionsAreLawful : Type 0
DecisionsAreLawful = (schema : Schema) (rows : List Row) (free : ℕ) (session : Session) (call : Call) → MayCall schema rows session
    → IsLawful schema rows (decision_of schema rows free session call).change

-- the list after a decision's change: a forest, in which its own session stands, and each other one that stood in the old list
pub record KeepsAll (schema : Schema) (rows new : List Row) (decision : Decision) (name : Ilk) : Type 0 where
  pub forest : IsTrue (is_forest schema new)
  pub plain : decision.session.index ≡ None
  pub own : Stands schema new (set_on_new decision.change name decision.session)
  pub others : (other : Session) → other.index ≡ None → Stands schema rows other → Stands schema new (kept_session schema decision.change rows new other)

abbrev pub DecisionsKeepAForest : Type 0
DecisionsKeepAForest = (schema : Schema) (rows : List Row) (free : ℕ) (session : Session) (call : Call) (name : Ilk) → MayCall schema rows session
    → let decision : Decision = decision_of schema rows free session call in
    MayName decision.change rows name → KeepsAll schema rows (changed schema decision.change name rows) decision name
