-- Kept sessions stand.
use Rattle.std.proofs.Common.{◌≡◌, ℕ, Bool, true, false, cond, List, Option, None, Some, ◌⊎◌, inl, inr, refl, sym, ap, subst, ◌∙◌}
use Rattle.std.specs.Prelude.{IsTrue}
use Rattle.std.proofs.lemmas.Bool.{true≢false, or_parts}
use Rattle.hal_base.specs.declared.place.Ilk.{Ilk}
use Rattle.hal_schema.specs.declared.row.Row.{Row}
use Rattle.hal_schema.specs.declared.schema.Schema.{Schema}
use Rattle.hal_schema.specs.Row.{same_name, is_new_name}
use Rattle.hal_schema.specs.Forest.{is_forest}
use Rattle.forest_laws.specs.Keeping.{InsertionKeeps, CutKeeps, ReplacementKeeps}
use Rattle.position_state.specs.declared.session.Anchor.{Anchor}
use Rattle.position_state.specs.declared.session.Anchor.TheVariants.{Front, At}
use Rattle.position_state.specs.declared.spot.Change.{Change}
use Rattle.position_state.specs.declared.spot.Change.TheVariants.{Nothing, Insert, Replace, Delete, Heal}
use Rattle.position_state.specs.View.{view_of, is_place_of}
use Rattle.position_state.specs.Keep.{changed, kept_anchor, is_struck, kept_hold, kept_parent}
use Rattle.position_state.specs.KeepLaws.{RowsArePlaces, IsOfBoth, AnchorsAreOfBoth}
use Rattle.position_state.specs.Lawful.{is_row_of}
use Rattle.session_laws.specs.Standing.{MayHappen, ChangesKeepAForest, KeptSessionsStand, NewRowsStand}
use Rattle.session_laws.proofs.Arriving.{arrives}
use Rattle.session_laws.proofs.Surviving.{Survive, cut_survives, insertion_survives, replacement_survives}

pub changes_keep_a_forest : InsertionKeeps → ReplacementKeeps → CutKeeps → ChangesKeepAForest
changes_keep_a_forest inserts replaces cuts schema rows Nothing name h = h.forest
changes_keep_a_forest inserts replaces cuts schema rows (Insert parent root code content) name h =
    inserts schema rows (record { name = name; code = code; parent = parent; content = content }) h.forest (h.lawful name h.fresh).0
changes_keep_a_forest inserts replaces cuts schema rows (Replace row root content) name h = replaces schema rows row content h.forest h.lawful.0
changes_keep_a_forest inserts replaces cuts schema rows (Delete row root) name h = cuts schema rows row h.forest
changes_keep_a_forest inserts replaces cuts schema rows (Heal index entry) name h = h.forest

survive : (schema : Schema) (rows : List Row) (change : Change) (name : Ilk) → MayHappen schema rows change name → Survive schema rows (changed schema change name rows)
survive schema rows Nothing name h = λ other root under there. under
survive schema rows (Insert parent root code content) name h = insertion_survives schema rows (record { name = name; code = code; parent = parent; content = content })
survive schema rows (Replace row root content) name h = replacement_survives schema rows row content h.forest h.lawful.0
survive schema rows (Delete row root) name h = cut_survives schema rows row h.forest
survive schema rows (Heal index entry) name h = λ other root under there. under

-- a row that a change doesn't strike is still there
not_struck : (change : Change) (new : List Row) (name : Ilk) → is_struck change new name ≡ false → is_new_name new name ≡ false
not_struck Nothing new name h = h
not_struck (Insert parent root code content) new name h = h
not_struck (Replace row root content) new name h = (or_parts (same_name row name) (is_new_name new name) h).1
not_struck (Delete row root) new name h = h
not_struck (Heal index entry) new name h = h

hold_stands : (schema : Schema) (change : Change) (rows new : List Row) (held : Option Anchor) → Survive schema rows new → is_row_of schema rows held ≡ true
    → is_row_of schema new (kept_hold change new held) ≡ true
hold_stands schema change rows new None lives h = refl
hold_stands schema change rows new (Some Front) lives h = absurd (true≢false (sym h))
hold_stands schema change rows new (Some (At name root entry)) lives h = by (is_struck change new name) refl
  where
    by : (b : Bool) → is_struck change new name ≡ b → is_row_of schema new (cond b None (Some (At name root entry))) ≡ true
    by true e = refl
    by false e = lives name root h (not_struck change new name e)

parent_stands : (schema : Schema) (rows new : List Row) (parent : Option Anchor) → Survive schema rows new → is_row_of schema rows parent ≡ true → is_row_of schema new (kept_parent new parent) ≡ true
parent_stands schema rows new None lives h = refl
parent_stands schema rows new (Some Front) lives h = absurd (true≢false (sym h))
parent_stands schema rows new (Some (At name root entry)) lives h = by (is_new_name new name) refl
  where
    by : (b : Bool) → is_new_name new name ≡ b → is_row_of schema new (cond b None (Some (At name root entry))) ≡ true
    by true e = refl
    by false e = lives name root h e

anchor_stands : (schema : Schema) (rows new : List Row) (at : Anchor) → RowsArePlaces → IsTrue (is_forest schema new) → Survive schema rows new
    → (at ≡ Front) ⊎ IsOfBoth schema rows new at → is_place_of (view_of schema None new) at ≡ true
anchor_stands schema rows new at places forest lives (inl e) = ap (is_place_of (view_of schema None new)) e
anchor_stands schema rows new at places forest lives (inr b) =
    ap (is_place_of (view_of schema None new)) b.is ∙ (places schema new b.name b.root forest).0 (lives b.name b.root b.before b.behind)

pub kept_sessions_stand : ChangesKeepAForest → RowsArePlaces → AnchorsAreOfBoth → KeptSessionsStand
kept_sessions_stand keep places both schema rows change name session h plain s =
    let new = changed schema change name rows in
    let lives = survive schema rows change name h in
    record {
      index = s.index;
      anchor = subst (λ (i : Option ℕ). is_place_of (view_of schema i new) (kept_anchor (view_of schema i rows) (view_of schema i new) session.anchor) ≡ true) (sym plain)
          (anchor_stands schema rows new (kept_anchor (view_of schema None rows) (view_of schema None new) session.anchor) places (keep schema rows change name h) lives (both schema rows new session.anchor h.forest));
      held = hold_stands schema change rows new session.held lives s.held;
      parent = parent_stands schema rows new session.parent lives s.parent;
    }

pub new_rows_stand : ChangesKeepAForest → NewRowsStand
new_rows_stand keep schema rows name parent root code content h =
    arrives schema rows (record { name = name; code = code; parent = parent; content = content }) root h.forest (keep schema rows (Insert parent root code content) name h) (h.lawful name h.fresh).1
