-- The entries of a secondary index, computed from all rows each time. DBD: XDFLD with SRCH and SUBSEQ.
use Rattle.std.specs.Prelude.{ℕ, ◌==◌, Bool, List, [], ◌∷◌, ◌++◌, Option, Some, option_and_then, filter, filter_map, find, flat_map, if◌then◌else◌}
use Rattle.std.specs.List.{slice_get, list_any}
use Rattle.std.specs.Ordering.{is_le}
use Rattle.std.specs.Str.{bytes_eq}
use Rattle.hal_base.specs.declared.place.Ilk.{Ilk}
use Rattle.hal_schema.specs.declared.row.Row.{Row}
use Rattle.hal_schema.specs.declared.schema.IndexDef.{IndexDef}
use Rattle.hal_schema.specs.declared.schema.SegType.{SegType}
use Rattle.hal_schema.specs.SegType.{portion}
use Rattle.hal_schema.specs.Row.{row_key}
use Rattle.hal_schema.specs.Paths.{paths_of, concatenated_key}
use Rattle.hal_schema.specs.Keys.{key_cmp}

-- an entry's key, the name of its target, and the key of the root above
pub record Entry : Type 0 where
  pub key : List ℕ
  pub target : Ilk
  pub root : List ℕ

-- the key of the entry of a row of the source type with this content and this concatenated key: the search fields, and then the SUBSEQ portions
abbrev pub entry_key : IndexDef → List ℕ → List ℕ → Option (List ℕ)
entry_key index content keys =
    Some (flat_map (λ f. portion f.start f.bytes content) index.search ++ flat_map (λ f. portion f.start f.bytes keys) index.subseq)

-- the entry of a row of the source type with this path: its target is the row of the target type on it
abbrev pub entry_of : List SegType → IndexDef → List Row → Row → Option Entry
entry_of types index path row =
    option_and_then (λ key. option_and_then (λ target. option_and_then (λ root. Some (record { key = key; target = target.name; root = row_key types root }))
    (slice_get path 0)) (find (λ r. r.code == index.target) path)) (entry_key index row.content (concatenated_key types path))

-- one entry a row of the source type, in the order of the rows
abbrev pub entries_by_row : List SegType → IndexDef → List (List Row × Row) → List Entry
entries_by_row types index paths = filter_map (λ p. entry_of types index p.0 p.1) (filter (λ p. p.1.code == index.source) paths)

-- an entry among others in the order of their keys
abbrev pub with_entry : Entry → List Entry → List Entry
with_entry entry [] = entry ∷ []
with_entry entry (e ∷ entries) = if is_le (key_cmp entry.key e.key) then entry ∷ e ∷ entries else e ∷ with_entry entry entries

abbrev pub in_key_order : List Entry → List Entry
in_key_order [] = []
in_key_order (entry ∷ entries) = with_entry entry (in_key_order entries)

-- the entries of an index, in the order of their keys
abbrev pub entries_of : List SegType → IndexDef → List Row → List Entry
entries_of types index rows = in_key_order (entries_by_row types index (paths_of types rows))

-- whether an entry has this key
abbrev pub is_taken : List ℕ → List Entry → Bool
is_taken key entries = list_any (λ e. bytes_eq key e.key) entries
