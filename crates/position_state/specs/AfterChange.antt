-- What a change leaves of a session where it is found by looks, and how many looks that takes.
use Rattle.std.specs.Prelude.{◌≡◌, ℕ, ◌+◌, ◌≤◌, Bool, true, false, ◌||◌, List, Option, None, Some, IfSome, IsTrue, if◌then◌else◌}
use Rattle.std.specs.Option.{ForSome, option_map_or}
use Rattle.std.specs.Str.{bytes_eq}
use Rattle.hal_base.specs.Fault.{Fails}
use Rattle.hal_base.specs.declared.place.Ilk.{Ilk}
use Rattle.hal_schema.specs.declared.row.Row.{Row}
use Rattle.hal_schema.specs.declared.schema.Schema.{Schema}
use Rattle.hal_schema.specs.Row.{same_name, row_named, row_level, is_new_name}
use Rattle.hal_schema.specs.Span.{without_span}
use Rattle.position_state.specs.declared.session.Anchor.{Anchor}
use Rattle.position_state.specs.declared.session.Anchor.TheVariants.{Front, At}
use Rattle.position_state.specs.declared.session.Session.{Session}
use Rattle.position_state.specs.declared.spot.Change.{Change}
use Rattle.position_state.specs.declared.spot.Change.TheVariants.{Delete}
use Rattle.position_state.specs.View.{view_of}
use Rattle.position_state.specs.Keep.{changed, kept_anchor, kept_parent, kept_session}
use Rattle.position_state.specs.Lawful.{is_under, Stands, IsLawful}
use Rattle.position_state.specs.Looks.{WalkView}

-- where the list is told, the session stands in it, and the change is one that calls make
abbrev pub AreOfList : WalkView → Change → Session → Type 0
AreOfList seen change session = ForSome seen.forest (λ rows. Stands seen.schema rows session × IsLawful seen.schema rows change)

-- where the list is told, the session is what the change leaves of the old one, whatever name a new row gets
abbrev pub IsLeft : WalkView → Change → Session → Session → Type 0
IsLeft seen change old new =
    IfSome seen.forest (λ rows. (name : Ilk) → new ≡ kept_session seen.schema change rows (changed seen.schema change name rows) old)

-- ---- looks

-- at most so many looks: nothing is changed
pub record LooksUpTo (most : ℕ) (failed : Type 0) (old new : WalkView) : Type 0 where
  pub faults : Fails failed old.faults new.faults new.live
  pub looks : new.looks ≤ old.looks + most
  pub schema : new.schema ≡ old.schema
  pub forest : new.forest ≡ old.forest
  pub free : new.free ≡ old.free

-- a place at a row under the root of this key
abbrev pub is_near : List ℕ → Anchor → Bool
is_near root Front = false
is_near root (At name other entry) = bytes_eq other root

-- the level of the row at a place; where the list isn't told, the highest that a look may show
abbrev pub level_at : WalkView → Anchor → ℕ
level_at seen Front = 0
level_at seen (At name root entry) = option_map_or (λ rows. option_map_or (row_level seen.schema.types) (row_named rows name) 0) seen.forest 255

-- as many looks as the row's level tell whether it is at or below a row under this root, and none where it is under another
abbrev pub looks_at : WalkView → List ℕ → Anchor → ℕ
looks_at seen root at = if is_near root at then level_at seen at else 0

abbrev pub looks_for_anchor : WalkView → List ℕ → Anchor → ℕ
looks_for_anchor seen root at = if is_near root at then level_at seen at + 1 else 0

abbrev pub looks_for_place : WalkView → List ℕ → Option Anchor → ℕ
looks_for_place seen root place = option_map_or (looks_at seen root) place 0

-- only a deletion is looked for: for the position, the hold and the parentage, and once for the element before the deleted row
abbrev pub looks_for : WalkView → Change → Session → ℕ
looks_for seen (Delete name root) session =
    looks_for_anchor seen root session.anchor + looks_for_place seen root session.held + looks_for_place seen root session.parent
looks_for seen change session = 0

-- whether a session has a place in the record in which a change deletes
abbrev pub is_touched : Change → Session → Bool
is_touched (Delete name root) session =
    is_near root session.anchor || option_map_or (is_near root) session.held false || option_map_or (is_near root) session.parent false
is_touched change session = false

-- ---- a deletion, place by place

-- a place at a row that the list doesn't have
abbrev pub is_gone : List Row → Anchor → Bool
is_gone rows Front = false
is_gone rows (At name root entry) = is_new_name rows name

-- a place is the front or at a row under the root that it names
abbrev pub is_row_place : Schema → List Row → Anchor → Bool
is_row_place schema rows Front = true
is_row_place schema rows (At name root entry) = is_under schema rows name root

-- where the list is told, the row that is deleted is under this root, and the place is one of the list
abbrev pub AreUnder : WalkView → Ilk → List ℕ → Anchor → Type 0
AreUnder seen name root at =
    ForSome seen.forest (λ rows. IsTrue (is_under seen.schema rows name root) × IsTrue (is_row_place seen.schema rows at))

abbrev pub IsCut : WalkView → Ilk → Anchor → Bool → Type 0
IsCut seen name at cut = IfSome seen.forest (λ rows. cut ≡ is_gone (without_span seen.schema.types rows name) at)

abbrev pub IsPlaceLeft : WalkView → Ilk → Option Anchor → Option Anchor → Type 0
IsPlaceLeft seen name old new = IfSome seen.forest (λ rows. new ≡ kept_parent (without_span seen.schema.types rows name) old)

abbrev pub IsAnchorLeft : WalkView → Ilk → Anchor → Anchor → Type 0
IsAnchorLeft seen name old new =
    IfSome seen.forest (λ rows. new ≡ kept_anchor (view_of seen.schema None rows) (view_of seen.schema None (without_span seen.schema.types rows name)) old)

abbrev pub is_row_at : Ilk → Anchor → Bool
is_row_at name Front = false
is_row_at name (At other root entry) = same_name name other

-- a hold without that of the row of this name
abbrev pub let_go : Ilk → Option Anchor → Option Anchor
let_go name None = None
let_go name (Some at) = if is_row_at name at then None else Some at
