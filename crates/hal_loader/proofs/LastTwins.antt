-- A schema whose twins of equal keys stand last: its forests are the same, and in it a load is an insertion.
use Rattle.std.proofs.Common.{◌≡◌, ℕ, zero, suc, ◌==◌, nat_le, Bool, true, false, not, cond, ◌&&◌, ◌||◌, List, [], ◌∷◌, ◌++◌, length, map, Option, Some, None, refl, ap, ◌∙◌}
use Rattle.std.specs.Prelude.{filter, filter_map, find, flat_map, option_and_then, is_none, is_some, sum_by}
use Rattle.std.specs.List.{list_all, list_any, slice_get, enumerate_from}
use Rattle.std.specs.Option.{option_map, option_map_or}
use Rattle.std.specs.Ordering.{is_lt, is_le, is_eq}
use Rattle.std.specs.Str.{bytes_eq}
use Rattle.std.proofs.lemmas.List.{length-map}
use Rattle.std.proofs.lemmas.Option.{slice_get-map}
use Rattle.hal_schema.specs.declared.row.Row.{Row}
use Rattle.hal_schema.specs.declared.schema.IndexDef.{IndexDef}
use Rattle.hal_schema.specs.declared.schema.KeyField.{KeyField}
use Rattle.hal_schema.specs.declared.schema.PartDef.{PartDef}
use Rattle.hal_schema.specs.declared.schema.Schema.{Schema}
use Rattle.hal_schema.specs.declared.schema.SegType.{SegType}
use Rattle.hal_schema.specs.Entry.{Entry, entry_key, in_key_order, is_taken}
use Rattle.hal_schema.specs.Forest.{all_pairs, names_apart, has_length, is_path, types_rise, twin_cmp, has_unique_key, keys_apart, is_forest}
use Rattle.hal_schema.specs.Insertion.{has_free_key, may_be_inserted}
use Rattle.hal_schema.specs.Keys.{key_cmp}
use Rattle.hal_base.specs.Name.{is_name}
use Rattle.hal_schema.specs.Lawful.{parent_is_before, parents_are_before, all_differ, field_names, field_names_differ, counts_are_kept, field_fits, fields_are_kept, index_is_kept, type_is_named, is_key_field, is_key_portion, same_field, is_within, all_rise, index_is_named}
use Rattle.hal_schema.specs.Paths.{with_paths}
use Rattle.hal_schema.specs.Roots.{partition_of, root_cmp}
use Rattle.hal_schema.specs.Row.{is_parent, are_twins, is_new_name, row_key, row_level}
use Rattle.hal_schema.specs.SegType.{type_of, parent_code, is_parent_code, ancestry, level_of, key_bytes, path_key_bytes, portion, entry_bytes}
use Rattle.hal_schema.proofs.Numbered.{numbered-map}

abbrev pub last_type : SegType → SegType
last_type t = record t { first = false }

abbrev pub last_types : List SegType → List SegType
last_types types = map last_type types

-- ---- what the types say but for RULES

pub of_last : {X : Type 0} (f : SegType → X) → ((t : SegType) → f (last_type t) ≡ f t) → (d : X) (types : List SegType) (code : ℕ)
    → option_map_or f (type_of (last_types types) code) d ≡ option_map_or f (type_of types code) d
of_last f e d types zero = refl
of_last {X} f e d types (suc place) = ap (λ (o : Option SegType). option_map_or f o d) (slice_get-map last_type types place) ∙ by (slice_get types place)
  where
    by : (o : Option SegType) → option_map_or f (option_map last_type o) d ≡ option_map_or f o d
    by None = refl
    by (Some t) = e t

pub then_last : {X : Type 0} (f : SegType → Option X) → ((t : SegType) → f (last_type t) ≡ f t) → (types : List SegType) (code : ℕ)
    → option_and_then f (type_of (last_types types) code) ≡ option_and_then f (type_of types code)
then_last f e types zero = refl
then_last {X} f e types (suc place) = ap (λ (o : Option SegType). option_and_then f o) (slice_get-map last_type types place) ∙ by (slice_get types place)
  where
    by : (o : Option SegType) → option_and_then f (option_map last_type o) ≡ option_and_then f o
    by None = refl
    by (Some t) = e t

abbrev pub key_field : List SegType → ℕ → Option KeyField
key_field types code = option_and_then (λ t. t.key) (type_of types code)

abbrev pub bytes_of : List SegType → ℕ → ℕ → Bool
bytes_of types long code = option_map_or (λ t. long == t.bytes) (type_of types code) false

pub parents_last : (types : List SegType) → parent_code (last_types types) ≡ parent_code types
parents_last types = λ i code. then_last (λ t. t.parent) (λ t. refl) types code i

pub keys_last : (types : List SegType) → key_field (last_types types) ≡ key_field types
keys_last types = λ i code. then_last (λ t. t.key) (λ t. refl) types code i

pub bytes_last : (types : List SegType) → bytes_of (last_types types) ≡ bytes_of types
bytes_last types = λ i long code. of_last (λ t. long == t.bytes) (λ t. refl) false types code i

pub level_last : (types : List SegType) → level_of (last_types types) ≡ level_of types
level_last types = λ i code. length (ancestry (parents_last types i) code)

pub key_bytes_last : (types : List SegType) → key_bytes (last_types types) ≡ key_bytes types
key_bytes_last types = λ i code. option_map_or (λ (k : KeyField). k.bytes) (keys_last types i code) 0

pub path_key_last : (types : List SegType) → path_key_bytes (last_types types) ≡ path_key_bytes types
path_key_last types = λ i code. sum_by (key_bytes_last types i) (ancestry (parents_last types i) code)

pub all_last : (p : SegType → Bool) → ((t : SegType) → p (last_type t) ≡ p t) → (types : List SegType) → list_all p (last_types types) ≡ list_all p types
all_last p e [] = refl
all_last p e (t ∷ types) = λ i. e t i && all_last p e types i

pub names_last : (types : List SegType) → map (λ t. t.name) (last_types types) ≡ map (λ t. t.name) types
names_last [] = refl
names_last (t ∷ types) = ap (λ (l : List (List ℕ)). t.name ∷ l) (names_last types)

-- ---- the schema

pub parents_kept : (types : List SegType) → parents_are_before (last_types types) ≡ parents_are_before types
parents_kept types = numbered-map (λ (t : ℕ × SegType). parent_is_before t.0 t.1.parent) last_type 1 types

pub fields_kept : (types : List SegType) (indexes : List IndexDef) → field_names_differ (last_types types) indexes ≡ field_names_differ types indexes
fields_kept types indexes = numbered-map (λ (t : ℕ × SegType). all_differ bytes_eq (field_names indexes t.0 t.1)) last_type 1 types

pub counts_kept : (types : List SegType) (indexes : List IndexDef) (parts : List PartDef) → counts_are_kept (last_types types) indexes parts ≡ counts_are_kept types indexes parts
counts_kept types indexes parts =
    let len : length (last_types types) ≡ length types = length-map types last_type in
    let levels : list_all (λ (t : ℕ × SegType). nat_le (level_of (last_types types) t.0) 15) (enumerate_from 1 (last_types types)) ≡ list_all (λ (t : ℕ × SegType). nat_le (level_of types t.0) 15) (enumerate_from 1 types) =
    numbered-map (λ (t : ℕ × SegType). nat_le (level_of (last_types types) t.0) 15) last_type 1 types
    ∙ ap (λ (l : ℕ → ℕ). list_all (λ (t : ℕ × SegType). nat_le (l t.0) 15) (enumerate_from 1 types)) (level_last types) in
    let few = all_last (λ t. nat_le (length t.fields) 255) (λ t. refl) types in
    λ i. nat_le 1 (len i) && nat_le (len i) 255 && levels i && few i && nat_le (length indexes) 16 && nat_le 1 (length parts) && nat_le (length parts) 100

pub index_kept : (types : List SegType) → index_is_kept (last_types types) ≡ index_is_kept types
index_kept types = λ i index. list_any (λ code. code == index.target) (ancestry (parents_last types i) index.source) && nat_le 1 (length index.search) && nat_le (length index.search) 5
    && (of_last (fields_are_kept (last_types types) index) (λ t. refl) false types index.source
    ∙ ap (λ (w : ℕ → ℕ). option_map_or (λ (t : SegType). list_all (λ f. not (is_key_portion f.name) && list_any (same_field f) t.fields) index.search
    && list_all (λ f. is_key_portion f.name && list_any (same_field f) t.fields && is_within (w index.source) f.start f.bytes) index.subseq) (type_of types index.source) false) (path_key_last types)) i
    && nat_le (entry_bytes index) 240

abbrev pub last_schema : Schema → Schema
last_schema s = record s {
  types = last_types s.types;
  parents = parents_kept s.types ∙ s.parents;
  type_names = ap (all_differ bytes_eq) (names_last s.types) ∙ s.type_names;
  field_names = fields_kept s.types s.indexes ∙ s.field_names;
  counts = counts_kept s.types s.indexes s.parts ∙ s.counts;
  fields = all_last (λ t. nat_le 1 t.bytes && nat_le t.bytes 2000 && list_all (field_fits t.bytes) t.fields) (λ t. refl) s.types ∙ s.fields;
  keys = all_last (λ t. option_map_or (λ k. nat_le k.bytes 100 && list_any (is_key_field k) t.fields) t.key true) (λ t. refl) s.types ∙ s.keys;
  root_key = ap (λ (k : ℕ → Option KeyField). option_map_or (λ (f : KeyField). f.unique) (k 1) false) (keys_last s.types) ∙ s.root_key;
  letters = all_last (λ t. nat_le 65 t.letter && nat_le t.letter 74) (λ t. refl) s.types ∙ s.letters;
  kept_indexes = ap (λ (k : IndexDef → Bool). list_all k s.indexes && all_rise (λ i j. nat_le i.target j.target) s.indexes) (index_kept s.types) ∙ s.kept_indexes;
  highs = ap (λ (k : ℕ → ℕ). list_all (λ p. length p.high == k 1) s.parts && all_rise (λ p q. is_lt (key_cmp p.high q.high)) s.parts) (key_bytes_last s.types) ∙ s.highs;
  names = ap (λ (b : Bool). is_name s.name && option_map_or is_name s.rm true && b && list_all index_is_named s.indexes && list_all (λ p. is_name p.name) s.parts)
      (all_last type_is_named (λ t. refl) s.types) ∙ s.names;
}

-- ---- a row's level, its length, its key, and whether that is unique

pub level_row : (types : List SegType) → row_level (last_types types) ≡ row_level types
level_row types = λ i row. level_last types i row.code

pub long_row : (types : List SegType) → has_length (last_types types) ≡ has_length types
long_row types = λ i row. bytes_last types i (length row.content) row.code

pub key_row : (types : List SegType) → row_key (last_types types) ≡ row_key types
key_row types = λ i row. option_map_or (λ (k : KeyField). portion k.start k.bytes row.content) (keys_last types i row.code) []

pub unique_code : (types : List SegType) → has_unique_key (last_types types) ≡ has_unique_key types
unique_code types = λ i code. option_map_or (λ (k : KeyField). k.unique) (keys_last types i code) false

pub child_code : (types : List SegType) → is_parent_code (last_types types) ≡ is_parent_code types
child_code types = λ i above code. option_map_or (λ parent. parent == above) (parents_last types i code) false

pub twins_cmp : (schema : Schema) → twin_cmp (last_schema schema) ≡ twin_cmp schema
twins_cmp schema = λ i a b. cond (a.code == 1) (root_cmp schema (key_row schema.types i a) (key_row schema.types i b)) (key_cmp (key_row schema.types i a) (key_row schema.types i b))

-- ---- forests

pub path_is : (types : List SegType) (above : Option Row) (path : List Row) → is_path (last_types types) above path ≡ is_path types above path
path_is types above [] = refl
path_is types None (row ∷ path) = λ i. (row.code == 1 && is_none row.parent) && path_is types (Some row) path i
path_is types (Some above) (row ∷ path) = λ i. (is_parent above row && child_code types i above.code row.code) && path_is types (Some row) path i

-- the entry of a row by the keys of rows
abbrev pub entry_by : (Row → List ℕ) → IndexDef → List Row → Row → Option Entry
entry_by key index path row =
    option_and_then (λ (own : List ℕ). option_and_then (λ (target : Row). option_and_then (λ (root : Row). let e : Entry = record { key = own; target = target.name; root = key root } in Some e)
    (slice_get path 0)) (find (λ r. r.code == index.target) path)) (entry_key index row.content (flat_map key path))

abbrev pub entries_by : (Row → List ℕ) → (Row → ℕ) → IndexDef → List Row → List Entry
entries_by key level index rows =
    in_key_order (filter_map (λ (p : List Row × Row). entry_by key index p.0 p.1) (filter (λ (p : List Row × Row). p.1.code == index.source) (with_paths level [] rows)))

pub forest_last : (schema : Schema) (rows : List Row) → is_forest (last_schema schema) rows ≡ is_forest schema rows
forest_last schema rows = λ i.
    (all_pairs names_apart rows && list_all (long_row schema.types i) rows)
    && list_all (λ (p : List Row × Row). path_is schema.types None p.0 i) (with_paths (level_row schema.types i) [] rows)
    && types_rise rows
    && all_pairs (λ a b. not (are_twins a b) || (cond (unique_code schema.types i a.code) (is_lt (twins_cmp schema i a b)) (is_le (twins_cmp schema i a b)))) rows
    && (list_all (λ row. not (row.code == 1) || is_some (partition_of schema (key_row schema.types i row))) rows
    && list_all (λ index. all_pairs keys_apart (entries_by (key_row schema.types i) (level_row schema.types i) index rows)) schema.indexes)

pub free_last : (schema : Schema) (rows : List Row) (new : Row) → has_free_key (last_schema schema) rows new ≡ has_free_key schema rows new
free_last schema rows new = λ i. not (unique_code schema.types i new.code) || list_all (λ row. not (are_twins row new && is_eq (twins_cmp schema i row new))) rows

pub may_last : (schema : Schema) (rows : List Row) (new : Row) → may_be_inserted (last_schema schema) rows new ≡ may_be_inserted schema rows new
may_last schema rows new = λ i.
    long_row schema.types i new && is_new_name rows new.name
    && (cond (new.code == 1) (is_none new.parent) (option_map_or (λ (above : Row). child_code schema.types i above.code new.code) (find (λ row. is_parent row new) rows) false))
    && free_last schema rows new i
    && (not (new.code == 1) || is_some (partition_of schema (key_row schema.types i new)))
    && list_all (λ index. not (new.code == index.source) || option_map_or (λ (key : List ℕ). not (is_taken key (entries_by (key_row schema.types i) (level_row schema.types i) index rows)))
    (entry_key index new.content (flat_map (key_row schema.types i) (option_map_or (λ (p : List Row × Row). p.0) (find (λ (p : List Row × Row). is_parent p.1 new) (with_paths (level_row schema.types i) [] rows)) [] ++ new ∷ []))) true) schema.indexes
