-- What a get looks at, what it finds, what it says and leaves. DL/I: GU, GN, GNP and their hold forms.
use Rattle.std.specs.Prelude.{ℕ, ◌==◌, nat_lt, Bool, true, false, not, ◌&&◌, ◌||◌, List, [], ◌∷◌, ◌++◌, find, filter, flat_map, codes, Option, None, Some, if◌then◌else◌}
use Rattle.std.specs.List.{list_any, after_first}
use Rattle.std.specs.Option.{option_map_or}
use Rattle.std.specs.Str.{bytes_eq}
use Rattle.hal_schema.specs.declared.row.Row.{Row}
use Rattle.hal_schema.specs.declared.schema.Schema.{Schema}
use Rattle.hal_schema.specs.SegType.{type_of}
use Rattle.call_text.specs.declared.line.Call.{Call}
use Rattle.call_text.specs.declared.line.Ssa.{Ssa}
use Rattle.call_text.specs.declared.reply.SegOut.{SegOut}
use Rattle.position_state.specs.declared.session.Anchor.{Anchor}
use Rattle.position_state.specs.declared.session.Anchor.TheVariants.{Front, At}
use Rattle.position_state.specs.declared.session.Session.{Session}
use Rattle.position_state.specs.declared.spot.Spot.{Spot}
use Rattle.position_state.specs.View.{view_of, is_at}
use Rattle.position_state.specs.Looks.{found_at}
use Rattle.dli_calls.specs.Ssas.{asks_data}
use Rattle.dli_calls.specs.Meets.{on_paths, is_of, meets}

abbrev pub is_one_of : Call → List (List ℕ) → Bool
is_one_of call names = list_any (bytes_eq call.func) names

abbrev pub is_get : Call → Bool
is_get call = is_one_of call (codes "GU" ∷ codes "GN" ∷ codes "GNP" ∷ codes "GHU" ∷ codes "GHN" ∷ codes "GHNP" ∷ [])

abbrev pub is_unique : Call → Bool
is_unique call = is_one_of call (codes "GU" ∷ codes "GHU" ∷ [])

abbrev pub is_next : Call → Bool
is_next call = is_one_of call (codes "GN" ∷ codes "GHN" ∷ [])

abbrev pub is_within_parent : Call → Bool
is_within_parent call = is_one_of call (codes "GNP" ∷ codes "GHNP" ∷ [])

abbrev pub is_hold : Call → Bool
is_hold call = is_one_of call (codes "GHU" ∷ codes "GHN" ∷ codes "GHNP" ∷ [])

-- an element with its path
abbrev pub OnPath : Type 0
OnPath = List Spot × Spot

abbrev pub paths_behind : Anchor → List OnPath → List OnPath
paths_behind Front paths = paths
paths_behind (At name root entry) paths = after_first (λ p. is_at (At name root entry) p.1) paths

-- below the parent: its element is on the path, and isn't the last of it
abbrev pub is_below_parent : Option Anchor → OnPath → Bool
is_below_parent None p = false
is_below_parent (Some parent) p = list_any (is_at parent) p.0 && not (is_at parent p.1)

-- GU looks at the whole view, GN behind the anchor, GNP at what of that is below the parent
abbrev pub looked_at : Call → Session → List OnPath → List OnPath
looked_at call session paths =
    if is_unique call then paths
    else if is_next call then paths_behind session.anchor paths
    else filter (is_below_parent session.parent) (paths_behind session.anchor paths)

-- the first element that meets the SSAs
abbrev pub got : Schema → List Row → Call → Session → Option OnPath
got schema rows call session =
    let view = view_of schema session.index rows in
    find (meets schema session.index view call.ssas) (looked_at call session (on_paths view))

abbrev pub blank_status : List ℕ
blank_status = codes "  "

-- GA where a higher level was crossed, GK where another type of the level was reached
abbrev pub crossing : Spot → Spot → List ℕ
crossing from to =
    if nat_lt to.level from.level then codes "GA"
    else if to.level == from.level && not (to.code == from.code) then codes "GK"
    else blank_status

-- only a get without an SSA that goes on from an element says what it crossed
abbrev pub got_status : Schema → List Row → Call → Session → Spot → List ℕ
got_status schema rows call session spot =
    if is_unique call || not (takes_any call.ssas) then blank_status
    else option_map_or (λ from. crossing from spot) (found_at session.anchor (view_of schema session.index rows)) blank_status
  where
    takes_any : List Ssa → Bool
    takes_any [] = true
    takes_any (ssa ∷ more) = false

-- the content of the levels whose SSA has D, and of the last level, top down
abbrev pub shown_content : Schema → List Ssa → OnPath → List ℕ
shown_content schema ssas p = flat_map (λ (above : Spot). above.content) (filter (λ above. list_any (λ ssa. asks_data ssa && is_of schema above ssa) ssas) (above_last p.0)) ++ p.1.content
  where
    above_last : List Spot → List Spot
    above_last path = filter (λ above. nat_lt above.level p.1.level) path

abbrev pub name_of_type : Schema → ℕ → List ℕ
name_of_type schema code = option_map_or (λ t. t.name) (type_of schema.types code) []

abbrev pub got_segment : Schema → Call → OnPath → SegOut
got_segment schema call p = record { seg = name_of_type schema p.1.code; key = p.1.key; content = Some (shown_content schema call.ssas p) }

-- success sets the anchor; GU and GN set parentage; a hold form holds the row
abbrev pub after_get : Call → Session → Spot → Session
after_get call session spot = record session {
  anchor = spot.at;
  held = if is_hold call then Some spot.at else None;
  parent = if is_within_parent call then session.parent else Some spot.at;
}
