-- What the changes that calls make keep: the list is a forest again, and a session that stands still stands.
use Rattle.std.specs.Prelude.{◌≡◌, ℕ, List, Option, None, IsTrue}
use Rattle.hal_base.specs.declared.place.Ilk.{Ilk}
use Rattle.hal_schema.specs.declared.row.Row.{Row}
use Rattle.hal_schema.specs.declared.schema.Schema.{Schema}
use Rattle.hal_schema.specs.Row.{is_new_name}
use Rattle.hal_schema.specs.Forest.{is_forest}
use Rattle.position_state.specs.declared.session.Session.{Session}
use Rattle.position_state.specs.declared.spot.Change.{Change}
use Rattle.position_state.specs.declared.spot.Change.TheVariants.{Insert}
use Rattle.position_state.specs.Keep.{changed, kept_session}
use Rattle.position_state.specs.Lawful.{Stands, IsLawful, is_under}

-- a change that calls make, of a forest, with a name for a new row
pub record MayHappen (schema : Schema) (rows : List Row) (change : Change) (name : Ilk) : Type 0 where
  pub forest : IsTrue (is_forest schema rows)
  pub lawful : IsLawful schema rows change
  pub fresh : IsTrue (is_new_name rows name)

abbrev pub ChangesKeepAForest : Type 0
ChangesKeepAForest = (schema : Schema) (rows : List Row) (change : Change) (name : Ilk) → MayHappen schema rows change name
    → IsTrue (is_forest schema (changed schema change name rows))

-- of a session in hierarchic sequence
abbrev pub KeptSessionsStand : Type 0
KeptSessionsStand = (schema : Schema) (rows : List Row) (change : Change) (name : Ilk) (session : Session) → MayHappen schema rows change name
    → session.index ≡ None → Stands schema rows session
    → Stands schema (changed schema change name rows) (kept_session schema change rows (changed schema change name rows) session)

-- a new row stands under the root that the change names
abbrev pub NewRowsStand : Type 0
NewRowsStand = (schema : Schema) (rows : List Row) (name : Ilk) (parent : Option Ilk) (root : List ℕ) (code : ℕ) (content : List ℕ)
    → MayHappen schema rows (Insert parent root code content) name
    → IsTrue (is_under schema (changed schema (Insert parent root code content) name rows) name root)
