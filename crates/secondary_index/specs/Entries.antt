-- The entries of a secondary index, sorted by key: the rows of its data set, of which each has an entry's key, and in its
-- body the extended pointer to the target and the key of the record's root. IMS: the index pointer segments of a PSINDEX.
use Rattle.std.specs.Prelude.{◌≡◌, ℕ, ◌+◌, List, ◌++◌, take, drop, map, Bool, Option, IfSome, is_some, if◌then◌else◌}
use Rattle.std.specs.List.{slice_get}
use Rattle.std.specs.Option.{ForSome, option_map}
use Rattle.std.specs.Str.{bytes_eq}
use Rattle.hal_base.specs.declared.pages.SetId.{SetId}
use Rattle.hal_base.specs.ShelfCalls.{ShelfView}
use Rattle.hal_schema.specs.declared.schema.Schema.{Schema}
use Rattle.hal_schema.specs.declared.schema.IndexDef.{IndexDef}
use Rattle.hal_schema.specs.SegType.{key_bytes, entry_bytes}
use Rattle.keyed_sets.specs.declared.row.RowShape.{RowShape}
use Rattle.keyed_sets.specs.declared.set.KeyedSet.{KeyedSet}
use Rattle.keyed_sets.specs.Layout.{Row, HasShape}
use Rattle.keyed_sets.specs.Rule.{BreaksAt}
use Rattle.keyed_sets.specs.Map.{lookup, next_after, last_below, rows_of}
use Rattle.eps_pointers.specs.Layout.{eps_bytes, eps_in}
use Rattle.secondary_index.specs.declared.entry.Entry.{Entry}

-- the data set of the index at this place of the definition: partition numbers end below 32,768, and letter A is 65
abbrev pub index_set : ℕ → SetId
index_set place = record { part = 32768 + place; number = 0; letter = 65 }

-- the lengths of its rows: the search fields and the SUBSEQ portions; a pointer of 16 bytes, and the root's key
abbrev pub index_shape : Schema → IndexDef → RowShape
index_shape schema def = record { key = entry_bytes def; body = 16 + key_bytes schema.types 1 }

-- and so of the index at a place
abbrev pub IsShape : Schema → ℕ → RowShape → Type 0
IsShape schema place shape = ForSome (slice_get schema.indexes place) (λ def. shape ≡ index_shape schema def)

-- the type of the targets of the index at a place
abbrev pub HasTarget : Schema → ℕ → ℕ → Type 0
HasTarget schema place code = ForSome (slice_get schema.indexes place) (λ def. code ≡ def.target)

-- the pages first break the rule of such rows there
abbrev pub BreaksIndex : Schema → ℕ → ℕ → ℕ → List (List ℕ) → Type 0
BreaksIndex schema place page offset pages = ForSome (slice_get schema.indexes place) (λ def. BreaksAt (index_shape schema def) pages page offset)

abbrev pub entry_row : Entry → Row
entry_row entry = (entry.key, eps_bytes entry.eps ++ entry.root)

-- and back
abbrev pub entry_of : Row → Entry
entry_of row = record { key = row.0; eps = eps_in (take 16 (row.1)); root = drop 16 (row.1) }

-- the entries that told pages hold
abbrev pub entries_of : RowShape → List (List ℕ) → List Entry
entries_of shape pages = map entry_of (rows_of shape pages)

-- the first entry above a key, or of all; the last below a key
abbrev pub entry_above : Option (List ℕ) → List Row → Option Entry
entry_above key rows = option_map entry_of (next_after key rows)

abbrev pub entry_below : List ℕ → List Row → Option Entry
entry_below key rows = option_map entry_of (last_below key rows)

-- an entry has this key
abbrev pub has_entry : List ℕ → List Row → Bool
has_entry key rows = is_some (lookup key rows)

-- the entry of this key
abbrev pub entry_with : List ℕ → List Row → Option Entry
entry_with key rows = option_map (λ body. entry_of (key, body)) (lookup key rows)

-- an entry whose pointer has another number and address, where it is that of this key
abbrev pub healed_at : List ℕ → ℕ → ℕ → Entry → Entry
healed_at key number addr entry = if bytes_eq entry.key key then record entry { eps = record entry.eps { number = number; addr = addr } } else entry

-- the entry has the lengths of the index
abbrev pub FitsIndex : KeyedSet → Entry → Type 0
FitsIndex set entry = HasShape set.shape (entry_row entry)

-- the entry that is wanted, where the rows are told; it has the lengths of the index
pub record GivesEntry (set : KeyedSet) (seen : ShelfView) (wanted : List Row → Option Entry) (found : Option Entry) : Type 0 where
  pub is : IfSome (seen.pages set.set) (λ pages. found ≡ wanted (rows_of set.shape pages))
  pub fits : IfSome found (FitsIndex set)

-- whether an entry has the key, where the rows are told
abbrev pub KeyIs : Bool → KeyedSet → List ℕ → ShelfView → Type 0
KeyIs is set key seen = IfSome (seen.pages set.set) (λ pages. has_entry key (rows_of set.shape pages) ≡ is)
