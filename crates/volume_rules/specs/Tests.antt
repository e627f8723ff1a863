-- The rules of a partition as tests over the homes at which cells stand and the names that the list has rows of: what a
-- pass over the cells of a partition and the rows of its list can find out.
use Rattle.std.specs.Prelude.{◌≡◌, ℕ, ◌+◌, ◌==◌, nat_le, Bool, true, false, not, ◌&&◌, ◌||◌, List, Option, Some}
use Rattle.std.specs.List.{list_all, list_any}
use Rattle.std.specs.Option.{option_map_or}
use Rattle.hal_base.specs.declared.place.Ilk.{Ilk}
use Rattle.hal_schema.specs.declared.schema.SegType.{SegType}
use Rattle.hal_schema.specs.Row.{same_name}
use Rattle.volume_rules.specs.View.{Home, Segment, View, same_home, born_at, name_at, is_moving, is_live, has_passed, segment_key}
use Rattle.volume_rules.specs.Target.{Pointer, bears, leads_home}

-- a name and a code under which the indirect list may have a row
pub record ListKey : Type 0 where
  pub name : Ilk
  pub code : ℕ

-- each cell stands at one of these homes, and each row of the list under one of these names
pub record Covers (view : View) (homes : List Home) (keys : List ListKey) : Type 0 where
  pub cells : (home : Home) (s : Segment) → view.segments home ≡ Some s → list_any (same_home home) homes ≡ true
  pub rows : (name : Ilk) (code : ℕ) (home : Home) → view.listed name code ≡ Some home → list_any (λ k. same_name name k.name && code == k.code) keys ≡ true

-- what is asked of the segment at each home, if there is one
abbrev pub at_each_home : View → (Home → Segment → Bool) → List Home → Bool
at_each_home view test homes = list_all (λ home. option_map_or (test home) (view.segments home) true) homes

abbrev pub homes_stand : View → List Home → Bool
homes_stand view homes =
    at_each_home view (λ home s. is_live view.state home.number && (not s.copied || is_moving view.state && home.number == view.state.number)) homes

-- the segments at two homes, if none of them is copied, have two names
abbrev pub names_differ : View → List Home → Bool
names_differ view homes =
    at_each_home view (λ a s. s.copied || at_each_home view (λ b t. t.copied || not (same_name s.name t.name) || same_home a b) homes) homes

abbrev pub is_own_name : Ilk → Option Ilk → Bool
is_own_name name borne = option_map_or (same_name name) borne false

-- a name whose number is live is that of its own home
abbrev pub has_own_home : View → Ilk → Bool
has_own_home view name = not (is_live view.state name.number) || is_own_name name (name_at view (born_at name))

abbrev pub name_stands : View → Home → Ilk → Bool
name_stands view home name = name.part == view.state.part && nat_le 1 name.number && nat_le name.number home.number && has_own_home view name

abbrev pub names_stand : View → List Home → Bool
names_stand view homes = at_each_home view (λ home s. s.copied || name_stands view home s.name) homes

abbrev pub is_at : Home → Option Home → Bool
is_at home listed = option_map_or (same_home home) listed false

abbrev pub moved_are_listed : (ℕ → Bool) → View → List Home → Bool
moved_are_listed is_target view homes =
    at_each_home view (λ home s. s.copied || not (is_target s.code) || s.name.number == home.number || is_at home (view.listed s.name s.code)) homes

abbrev pub row_stands : (ℕ → Bool) → View → ListKey → Home → Bool
row_stands is_target view k home = bears view k.name k.code home && is_target k.code && not (k.name.number == home.number)

abbrev pub listed_are_moved : (ℕ → Bool) → View → List ListKey → Bool
listed_are_moved is_target view keys = list_all (λ k. option_map_or (row_stands is_target view k) (view.listed k.name k.code) true) keys

abbrev pub roots_are_parted : List SegType → View → List Home → Bool
roots_are_parted types view homes =
    at_each_home view
    (λ home s.
    not (is_moving view.state) || not (s.code == 1)
    || (not (home.number == view.state.number + 1) || has_passed view.part.anchors view.state.cursor (segment_key types s))
    && (s.copied || not (home.number == view.state.number) || not (has_passed view.part.anchors view.state.cursor (segment_key types s))))
    homes

abbrev pub keeps_rules : List SegType → (ℕ → Bool) → View → List Pointer → List Home → List ListKey → Bool
keeps_rules types is_target view pointers homes keys =
    homes_stand view homes && names_differ view homes && names_stand view homes && list_all (λ p. is_target p.code && leads_home view p) pointers
    && moved_are_listed is_target view homes && listed_are_moved is_target view keys && roots_are_parted types view homes
