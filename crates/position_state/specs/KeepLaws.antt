-- Laws of what a change leaves of an anchor and of a session.
use Rattle.std.specs.Prelude.{◌≡◌, ◌↔◌, ℕ, false, List, None, IsTrue, ◌⊎◌}
use Rattle.std.specs.List.{list_any}
use Rattle.hal_base.specs.declared.place.Ilk.{Ilk}
use Rattle.hal_schema.specs.declared.row.Row.{Row}
use Rattle.hal_schema.specs.declared.schema.Schema.{Schema}
use Rattle.hal_schema.specs.Forest.{is_forest}
use Rattle.hal_schema.specs.Row.{is_new_name}
use Rattle.position_state.specs.declared.session.Anchor.{Anchor}
use Rattle.position_state.specs.declared.session.Anchor.TheVariants.{Front, At}
use Rattle.position_state.specs.declared.session.Session.{Session}
use Rattle.position_state.specs.declared.spot.Change.{Change}
use Rattle.position_state.specs.declared.spot.Change.TheVariants.{Nothing, Heal}
use Rattle.position_state.specs.declared.spot.Spot.{Spot}
use Rattle.position_state.specs.View.{view_of, is_at, is_place_of}
use Rattle.position_state.specs.Keep.{kept_anchor, changed, kept_session}
use Rattle.position_state.specs.Lawful.{is_under, Stands}

-- a place of both views stays
abbrev pub AnchorsStay : Type 0
AnchorsStay = (old new : List Spot) (at : Anchor) → IsTrue (is_place_of old at) → IsTrue (is_place_of new at) → kept_anchor old new at ≡ at

-- what is left of a place is the front or at an element of the new view
abbrev pub AnchorsStand : Type 0
AnchorsStand = (old new : List Spot) (at : Anchor) → (kept_anchor old new at ≡ Front) ⊎ IsTrue (list_any (is_at (kept_anchor old new at)) new)

-- a change that is nothing of the list leaves the list and every session as they stand
abbrev pub LeavesAll : Change → Type 0
LeavesAll change = (schema : Schema) (rows : List Row) (name : Ilk) (session : Session) → Stands schema rows session
    → (changed schema change name rows ≡ rows) × (kept_session schema change rows rows session ≡ session)

abbrev pub SessionsStay : Type 0
SessionsStay = LeavesAll Nothing × ((index : ℕ) (entry : List ℕ) → LeavesAll (Heal index entry))

-- in a forest the places of the plain view are those of the rows, each under its root
abbrev pub RowsArePlaces : Type 0
RowsArePlaces = (schema : Schema) (rows : List Row) (name : Ilk) (root : List ℕ) → IsTrue (is_forest schema rows)
    → IsTrue (is_under schema rows name root) ↔ IsTrue (is_place_of (view_of schema None rows) (At name root None))

-- what is left of a place in the plain view of a forest is the front, or at a row of it that is in the new list too
pub record IsOfBoth (schema : Schema) (rows new : List Row) (at : Anchor) : Type 0 where
  pub name : Ilk
  pub root : List ℕ
  pub is : at ≡ At name root None
  pub before : IsTrue (is_under schema rows name root)
  pub behind : is_new_name new name ≡ false

abbrev pub AnchorsAreOfBoth : Type 0
AnchorsAreOfBoth = (schema : Schema) (rows new : List Row) (at : Anchor) → IsTrue (is_forest schema rows)
    → let left : Anchor = kept_anchor (view_of schema None rows) (view_of schema None new) at in (left ≡ Front) ⊎ IsOfBoth schema rows new left
