-- Which record a row stands in, and that an entry's root is that of the record in which its target hangs.
use Rattle.std.specs.Prelude.{◌≡◌, ℕ, ◌==◌, Bool, true, false, List, [], ◌∷◌, Option, None, Some, option_and_then, unwrap_or, if◌then◌else◌, IsTrue}
use Rattle.std.specs.List.{list_all, slice_get}
use Rattle.std.specs.Option.{option_map_or}
use Rattle.std.specs.Str.{bytes_eq}
use Rattle.hal_base.specs.declared.place.Ilk.{Ilk}
use Rattle.hal_schema.specs.declared.row.Row.{Row}
use Rattle.hal_schema.specs.declared.schema.IndexDef.{IndexDef}
use Rattle.hal_schema.specs.declared.schema.Schema.{Schema}
use Rattle.hal_schema.specs.declared.schema.SegType.{SegType}
use Rattle.hal_schema.specs.Entry.{entries_of}
use Rattle.hal_schema.specs.Forest.{is_forest}
use Rattle.hal_schema.specs.Row.{same_name, row_key, is_new_name}
use Rattle.volume_rules.specs.View.{Home, Segment, View, name_at}
use Rattle.volume_rules.specs.Target.{Pointer, bears, is_among}
use Rattle.volume_rules.specs.Volume.{Volume, KeepsEntries, pointers_of, forest_of}

-- the key of a row's record: its own where it is a root, else that of the last root before it
abbrev pub record_at : List SegType → List ℕ → Row → List ℕ
record_at types before row = if row.code == 1 then row_key types row else before

abbrev pub root_from : List SegType → List ℕ → List Row → Ilk → Option (List ℕ)
root_from types before [] name = None
root_from types before (row ∷ rows) name =
    if same_name row.name name then Some (record_at types before row) else root_from types (record_at types before row) rows name

-- the key of the root in whose record a row of this name stands
abbrev pub root_of : List SegType → List Row → Ilk → Option (List ℕ)
root_of types rows name = root_from types [] rows name

abbrev pub is_root_of : List SegType → List Row → Ilk → List ℕ → Bool
is_root_of types rows name root = option_map_or (bytes_eq root) (root_of types rows name) false

-- the record of the segment that stands at a home
abbrev pub record_key : List SegType → List Row → View → Home → List ℕ
record_key types rows view home = unwrap_or (option_and_then (root_of types rows) (name_at view home)) []

-- in a forest an entry's root is that of the record in which its target stands
abbrev pub EntriesHang : Type 0
EntriesHang = (schema : Schema) (rows : List Row) (place : ℕ) (index : IndexDef) → IsTrue (is_forest schema rows) → slice_get schema.indexes place ≡ Some index
    → list_all (λ e. is_root_of schema.types rows e.target e.root) (entries_of schema.types index rows) ≡ true

-- so a pointer's root is the key of the record that stands where its target does
abbrev pub PointersHang : Type 0
PointersHang = (schema : Schema) (volume : Volume) (view : View) (p : Pointer) (home : Home) → IsTrue (is_forest schema (forest_of volume))
    → KeepsEntries schema volume
    → is_among (pointers_of schema.indexes volume.indexes) p ≡ true → bears view p.eps.name p.code home ≡ true
    → p.root ≡ record_key schema.types (forest_of volume) view home

-- a segment whose name no row has any more is the target of no pointer: so after a cut none leads to what it took
abbrev pub GoneAreUnpointed : Type 0
GoneAreUnpointed = (schema : Schema) (volume : Volume) (view : View) (p : Pointer) (home : Home) → IsTrue (is_forest schema (forest_of volume))
    → KeepsEntries schema volume → is_among (pointers_of schema.indexes volume.indexes) p ≡ true
    → ((s : Segment) → view.segments home ≡ Some s → is_new_name (forest_of volume) s.name ≡ true) → bears view p.eps.name p.code home ≡ false
