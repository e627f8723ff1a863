-- Partitions whose live sides are walked keep the rules 4, 5 and 7 in the words of those rules that need no walk; and their list is one.
use Rattle.std.specs.Prelude.{◌≡◌, ℕ, Bool, true, false, not, ◌||◌, List, ◌∷◌, ◌++◌, None, Some, map}
use Rattle.std.specs.List.{list_all, slice_get, AllByRecursion}
use Rattle.std.specs.Option.{option_map_or}
use Rattle.std.specs.Str.{bytes_eq}
use Rattle.hal_schema.specs.declared.schema.IndexDef.{IndexDef}
use Rattle.hal_schema.specs.declared.schema.Schema.{Schema}
use Rattle.hal_schema.specs.declared.schema.SegType.{SegType}
use Rattle.hal_schema.specs.Entry.{Entry, entries_of}
use Rattle.hal_schema.specs.Forest.{all_pairs, names_apart, has_length}
use Rattle.hal_schema.specs.Row.{row_key}
use Rattle.record_walk.specs.Listing.{list_in, rows_of}
use Rattle.record_walk.specs.InRecords.{root_above, hangs_by}
use Rattle.record_walk.specs.OneSide.{rows_in, rows_in_all}
use Rattle.record_walk.specs.Siblings.{twins_follow_in}
use Rattle.volume_rules.specs.View.{Home, View, is_live}
use Rattle.volume_rules.specs.Target.{bears}
use Rattle.volume_rules.specs.Rules.{KeepsRule6, KeepsRule10}
use Rattle.volume_rules.specs.Volume.{IndexRow, RowsStand, forest_of}
use Rattle.volume_rules.specs.Sides.{KeepsRule4, KeepsRule7}
use Rattle.volume_rules.specs.SideForest.{sides_of, has_its_cursor, KeepsSides, SidesStand}
use Rattle.walked_rules.specs.Parts.{WalkedPart, IsWalkedPart, view_of, root_sets_of, all_sides, volume_of}

-- rule 5: the rows are exactly the segments that stand, each at its home
abbrev pub WalkedRowsStand : Type 0
WalkedRowsStand = (schema : Schema) (p : WalkedPart) → IsWalkedPart schema p → RowsStand (view_of p)

-- rule 4, of the partition that the schema has at this place
abbrev pub WalkedPartsKeepRule4 : Type 0
WalkedPartsKeepRule4 = (schema : Schema) (p : WalkedPart) → IsWalkedPart schema p → slice_get schema.parts p.place ≡ Some p.part
    → KeepsRule4 schema (view_of p) (root_sets_of p)

-- the names of each live side differ
abbrev pub NamesDiffer : WalkedPart → Type 0
NamesDiffer p = (number : ℕ) → is_live p.state number ≡ true → all_pairs names_apart (rows_of (list_in None (p.trees number))) ≡ true

-- which rule 6 says
abbrev pub WalkedNamesDiffer : Type 0
WalkedNamesDiffer = (schema : Schema) (p : WalkedPart) → IsWalkedPart schema p → KeepsRule6 (view_of p) → NamesDiffer p

-- the twins of each chain of the live sides stand in order
abbrev pub TwinsFollow : Schema → WalkedPart → Type 0
TwinsFollow schema p = (number : ℕ) → is_live p.state number ≡ true → twins_follow_in schema (p.trees number) ≡ true

-- rule 7: roots belong to the partition, and any two twins of a side stand in order
abbrev pub WalkedPartsKeepRule7 : Type 0
WalkedPartsKeepRule7 = (schema : Schema) (p : WalkedPart) → IsWalkedPart schema p → NamesDiffer p → TwinsFollow schema p → KeepsRule7 schema p.place (view_of p)

-- the sides of the volume, and their list, are those of the walks
pub record ListsWalks (parts : List WalkedPart) (indexes : List (List IndexRow)) : Type 0 where
  pub sides : sides_of (volume_of parts indexes) ≡ map rows_in (all_sides parts)
  pub list : forest_of (volume_of parts indexes) ≡ rows_in_all (all_sides parts)

abbrev pub WalksAreListed : Type 0
WalksAreListed = (parts : List WalkedPart) (indexes : List (List IndexRow)) → ListsWalks parts indexes

-- An entry's root key is that of the record in which the row of its target's name stands, in whichever partition and generation that is.
abbrev pub WalkedEntriesHang : Type 0
WalkedEntriesHang = (schema : Schema) (front behind : List WalkedPart) (p : WalkedPart) (indexes : List (List IndexRow)) (index : IndexDef) (number : ℕ)
    → AllByRecursion (IsWalkedPart schema) (front ++ p ∷ behind)
    → all_pairs names_apart (forest_of (volume_of (front ++ p ∷ behind) indexes)) ≡ true
    → list_all (λ entry. list_all (hangs_by schema.types (λ r. r.addr) (λ r. r.row) ((view_of p).rows number) entry) ((view_of p).rows number))
    (entries_of schema.types index (forest_of (volume_of (front ++ p ∷ behind) indexes))) ≡ true

-- where a segment of an entry's target's name and code stands at a home, it stands in the record of the entry's root key
abbrev pub leads_to_record : List SegType → View → Home → ℕ → Entry → Bool
leads_to_record types view home code entry =
    not (bears view entry.target code home)
    || option_map_or (λ root. bytes_eq (row_key types root) entry.root) (root_above (λ r. r.addr) (λ r. r.row) None (view.rows home.number) home.addr) false

-- so it is of each entry of the volume's list and of each home
abbrev pub WalkedTargetsHang : Type 0
WalkedTargetsHang = (schema : Schema) (front behind : List WalkedPart) (p : WalkedPart) (indexes : List (List IndexRow)) (index : IndexDef) (home : Home)
    → AllByRecursion (IsWalkedPart schema) (front ++ p ∷ behind)
    → all_pairs names_apart (forest_of (volume_of (front ++ p ∷ behind) indexes)) ≡ true
    → list_all (leads_to_record schema.types (view_of p) home index.target)
    (entries_of schema.types index (forest_of (volume_of (front ++ p ∷ behind) indexes))) ≡ true

-- each content of a live side has the length of its type
abbrev pub LengthsAreKept : Schema → WalkedPart → Type 0
LengthsAreKept schema p = (number : ℕ) → is_live p.state number ≡ true → list_all (has_length schema.types) (rows_of (list_in None (p.trees number))) ≡ true

-- What the rules say of a walked partition beside its walks: its definition and its number, the kind of its cursor, the rules 6 and 10, the order of the
-- twins of each chain, and the lengths of contents.
pub record KeepsTheRest (schema : Schema) (p : WalkedPart) : Type 0 where
  pub defined : slice_get schema.parts p.place ≡ Some p.part
  pub numbered : p.state.part ≡ p.part.number
  pub cursor : has_its_cursor schema.phdam p.state.cursor ≡ true
  pub rule6 : KeepsRule6 (view_of p)
  pub rule10 : KeepsRule10 schema.types (view_of p)
  pub twins : TwinsFollow schema p
  pub lengths : LengthsAreKept schema p

-- then each side is in hierarchic sequence, and of such partitions the sides are a forest (`sides_are_a_forest`)
abbrev pub WalkedSidesAreKept : Type 0
WalkedSidesAreKept = (schema : Schema) (p : WalkedPart) → IsWalkedPart schema p → KeepsTheRest schema p → KeepsSides schema p.place (view_of p)

-- the partition at a place of a volume
pub record IsPartAt (schema : Schema) (place : ℕ) (p : WalkedPart) : Type 0 where
  pub stands : p.place ≡ place
  pub walked : IsWalkedPart schema p
  pub rest : KeepsTheRest schema p

-- The sides of walked partitions in their places stand in order, and their list is a forest where no index has a key twice.
abbrev pub WalkedVolumesAreForests : Type 0
WalkedVolumesAreForests = (schema : Schema) (parts : List WalkedPart) (indexes : List (List IndexRow))
    → ((place : ℕ) (p : WalkedPart) → slice_get parts place ≡ Some p → IsPartAt schema place p) → SidesStand schema (volume_of parts indexes)
