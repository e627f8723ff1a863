-- The rules of a sound volume that no walk is needed for, of one partition: functions, tests and equations, so that a
-- type can keep them.
use Rattle.std.specs.Prelude.{◌≡◌, ℕ, ◌+◌, ◌≤◌, ◌≢◌, Bool, true, false, ◌&&◌, List, Some}
use Rattle.std.specs.List.{list_all}
use Rattle.hal_base.specs.declared.place.Ilk.{Ilk}
use Rattle.hal_schema.specs.declared.schema.SegType.{SegType}
use Rattle.volume_rules.specs.View.{Home, Segment, View, Stands, born_at, name_at, is_moving, is_live, has_passed, segment_key}
use Rattle.volume_rules.specs.Target.{Pointer, bears, leads_home}

-- of rule 5, the homes: cells stand in live generations, and copied ones only in the input of a partition that is active or paused
pub record KeepsHomes (view : View) : Type 0 where
  pub live : (home : Home) (s : Segment) → view.segments home ≡ Some s → is_live view.state home.number ≡ true
  pub moving : (home : Home) (s : Segment) → view.segments home ≡ Some s → s.copied ≡ true → is_moving view.state ≡ true
  pub input : (home : Home) (s : Segment) → view.segments home ≡ Some s → s.copied ≡ true → home.number ≡ view.state.number

-- 6: names of cells that aren't copied are distinct; a name's partition is that of its cell, and its number at least 1 and
-- at most the cell's generation; where that number is a live generation, a cell of this very name, copied or not, stands
-- at the name's address in it
pub record KeepsRule6 (view : View) : Type 0 where
  pub distinct : (a b : Home) (s t : Segment) → Stands view a s → Stands view b t → s.name ≡ t.name → a ≡ b
  pub part : (home : Home) (s : Segment) → Stands view home s → s.name.part ≡ view.state.part
  pub low : (home : Home) (s : Segment) → Stands view home s → 1 ≤ s.name.number
  pub high : (home : Home) (s : Segment) → Stands view home s → s.name.number ≤ home.number
  pub own : (home : Home) (s : Segment) → Stands view home s → is_live view.state s.name.number ≡ true → name_at view (born_at s.name) ≡ Some s.name

-- 8, in its part on a partition: each pointer that leads into it has a number that is at most the generation of its
-- target's root, and leads to its own target, directly or by the indirect list
abbrev pub KeepsRule8 : (ℕ → Bool) → View → List Pointer → Type 0
KeepsRule8 is_target view pointers = list_all (λ p. is_target p.code && leads_home view p) pointers ≡ true

-- 9: the rows of the indirect list are exactly those of the cells of index targets that aren't copied and whose name's
-- number isn't their generation; each gives that cell's address and generation
pub record KeepsRule9 (is_target : ℕ → Bool) (view : View) : Type 0 where
  pub each : (home : Home) (s : Segment) → Stands view home s → is_target s.code ≡ true → s.name.number ≢ home.number → view.listed s.name s.code ≡ Some home
  pub stands : (name : Ilk) (code : ℕ) (home : Home) → view.listed name code ≡ Some home → bears view name code home ≡ true
  pub target : (name : Ilk) (code : ℕ) (home : Home) → view.listed name code ≡ Some home → is_target code ≡ true
  pub moved : (name : Ilk) (code : ℕ) (home : Home) → view.listed name code ≡ Some home → name.number ≢ home.number

-- 10: while a partition is active or paused, each root in the output is at or before the cursor, and each root in the
-- input that isn't copied is behind it
pub record KeepsRule10 (types : List SegType) (view : View) : Type 0 where
  pub output : (home : Home) (s : Segment) → is_moving view.state ≡ true → home.number ≡ view.state.number + 1 → view.segments home ≡ Some s → s.code ≡ 1
      → has_passed view.part.anchors view.state.cursor (segment_key types s) ≡ true
  pub input : (home : Home) (s : Segment) → is_moving view.state ≡ true → home.number ≡ view.state.number → Stands view home s → s.code ≡ 1
      → has_passed view.part.anchors view.state.cursor (segment_key types s) ≡ false

-- all of them, of a partition and of the pointers that lead into it
pub record KeepsRules (types : List SegType) (is_target : ℕ → Bool) (view : View) (pointers : List Pointer) : Type 0 where
  pub homes : KeepsHomes view
  pub rule6 : KeepsRule6 view
  pub rule8 : KeepsRule8 is_target view pointers
  pub rule9 : KeepsRule9 is_target view
  pub rule10 : KeepsRule10 types view
