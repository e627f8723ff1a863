-- What a checked definition keeps, as tests over its parts.
use Rattle.std.specs.Prelude.{ℕ, ◌+◌, ◌==◌, nat_lt, nat_le, Bool, true, false, ◌&&◌, ◌||◌, not, List, [], ◌∷◌, ◌++◌, length, Option, None, Some}
use Rattle.std.specs.Prelude.{is_some, map, filter, option_and_then, if◌then◌else◌}
use Rattle.std.specs.List.{list_all, list_any, slice_get, enumerate_from}
use Rattle.std.specs.Option.{option_map_or}
use Rattle.std.specs.Ordering.{is_lt}
use Rattle.hal_base.specs.Name.{is_name, is_field_name}
use Rattle.hal_schema.specs.Keys.{key_cmp}
use Rattle.std.specs.Str.{bytes_eq}
use Rattle.hal_schema.specs.declared.schema.Field.{Field}
use Rattle.hal_schema.specs.declared.schema.KeyField.{KeyField}
use Rattle.hal_schema.specs.declared.schema.SegType.{SegType}
use Rattle.hal_schema.specs.declared.schema.IndexDef.{IndexDef}
use Rattle.hal_schema.specs.declared.schema.PartDef.{PartDef}
use Rattle.hal_schema.specs.SegType.{type_of, parent_code, ancestry, level_of, key_bytes, path_key_bytes, entry_bytes}

-- no two of the list are the same
abbrev pub all_differ : {X : Type 0} → (X → X → Bool) → List X → Bool
all_differ same [] = true
all_differ same (x ∷ xs) = not (list_any (same x) xs) && all_differ same xs

abbrev pub is_below_first : {X : Type 0} → (X → X → Bool) → X → List X → Bool
is_below_first below x [] = true
is_below_first below x (y ∷ ys) = below x y

-- each of the list is below the next
abbrev pub all_rise : {X : Type 0} → (X → X → Bool) → List X → Bool
all_rise below [] = true
all_rise below (x ∷ xs) = is_below_first below x xs && all_rise below xs

-- a portion of the concatenated key, and no field of the content: its name begins with `/`
abbrev pub is_key_portion : List ℕ → Bool
is_key_portion name = option_map_or (λ byte. byte == 47) (slice_get name 0) false

-- the first type is the root type, and the parent of every other stands before it
abbrev pub parent_is_before : ℕ → Option ℕ → Bool
parent_is_before code None = code == 1
parent_is_before code (Some parent) = nat_lt 0 parent && nat_lt parent code

abbrev pub parents_are_before : List SegType → Bool
parents_are_before types = list_all (λ t. parent_is_before t.0 t.1.parent) (enumerate_from 1 types)

abbrev pub type_names_differ : List SegType → Bool
type_names_differ types = all_differ bytes_eq (map (λ t. t.name) types)

abbrev pub index_names_differ : List IndexDef → Bool
index_names_differ indexes = all_differ bytes_eq (map (λ i. i.name) indexes)

abbrev pub part_names_differ : List PartDef → Bool
part_names_differ parts = all_differ bytes_eq (map (λ p. p.name) parts)

abbrev pub part_numbers_differ : List PartDef → Bool
part_numbers_differ parts = all_differ (λ m n. m == n) (map (λ p. p.number) parts)

-- a type's fields, with the XDFLDs of the indexes whose target it is
abbrev pub field_names : List IndexDef → ℕ → SegType → List (List ℕ)
field_names indexes code t = map (λ f. f.name) t.fields ++ map (λ i. i.xdfld) (filter (λ i. i.target == code) indexes)

abbrev pub field_names_differ : List SegType → List IndexDef → Bool
field_names_differ types indexes = list_all (λ t. all_differ bytes_eq (field_names indexes t.0 t.1)) (enumerate_from 1 types)

abbrev pub counts_are_kept : List SegType → List IndexDef → List PartDef → Bool
counts_are_kept types indexes parts =
    nat_le 1 (length types) && nat_le (length types) 255 && list_all (λ t. nat_le (level_of types t.0) 15) (enumerate_from 1 types)
    && list_all (λ t. nat_le (length t.fields) 255) types && nat_le (length indexes) 16 && nat_le 1 (length parts) && nat_le (length parts) 100

-- a portion of so many bytes, whose start counts from 1, lies within a length
abbrev pub is_within : ℕ → ℕ → ℕ → Bool
is_within all start bytes = nat_le 1 start && nat_le 1 bytes && nat_le (start + bytes) (all + 1)

abbrev pub field_fits : ℕ → Field → Bool
field_fits all f = if is_key_portion f.name then nat_le f.start 65535 && nat_le f.bytes 65535 else is_within all f.start f.bytes

abbrev pub fields_fit : List SegType → Bool
fields_fit types = list_all (λ t. nat_le 1 t.bytes && nat_le t.bytes 2000 && list_all (field_fits t.bytes) t.fields) types

-- this field is the sequence field: it stands at its place, and is no portion of the concatenated key
abbrev pub is_key_field : KeyField → Field → Bool
is_key_field key f = f.start == key.start && f.bytes == key.bytes && not (is_key_portion f.name)

-- a sequence field is a field of its type
abbrev pub keys_are_fields : List SegType → Bool
keys_are_fields types = list_all (λ t. option_map_or (λ k. nat_le k.bytes 100 && list_any (is_key_field k) t.fields) t.key true) types

abbrev pub root_key_is_unique : List SegType → Bool
root_key_is_unique types = option_map_or (λ k. k.unique) (option_and_then (λ t. t.key) (type_of types 1)) false

-- `A` to `J`
abbrev pub letters_are_known : List SegType → Bool
letters_are_known types = list_all (λ t. nat_le 65 t.letter && nat_le t.letter 74) types

abbrev pub same_field : Field → Field → Bool
same_field a b = bytes_eq a.name b.name && a.start == b.start && a.bytes == b.bytes

-- the search fields are fields of the source, and the SUBSEQ portions lie in its concatenated key
abbrev pub lie_in_source : ℕ → List Field → IndexDef → Bool
lie_in_source path fields i =
    list_all (λ f. not (is_key_portion f.name) && list_any (same_field f) fields) i.search
    && list_all (λ f. is_key_portion f.name && list_any (same_field f) fields && is_within path f.start f.bytes) i.subseq

abbrev pub fields_are_kept : List SegType → IndexDef → SegType → Bool
fields_are_kept types i t = lie_in_source (path_key_bytes types i.source) t.fields i

-- the source is the target or below it
abbrev pub index_is_kept : List SegType → IndexDef → Bool
index_is_kept types i =
    list_any (λ code. code == i.target) (ancestry (parent_code types) i.source) && nat_le 1 (length i.search) && nat_le (length i.search) 5
    && option_map_or (fields_are_kept types i) (type_of types i.source) false && nat_le (entry_bytes i) 240

abbrev pub indexes_are_kept : List SegType → List IndexDef → Bool
indexes_are_kept types indexes = list_all (index_is_kept types) indexes && all_rise (λ i j. nat_le i.target j.target) indexes

-- high keys have the length of the root key, and rise
abbrev pub highs_rise : List SegType → List PartDef → Bool
highs_rise types parts =
    list_all (λ p. length p.high == key_bytes types 1) parts && all_rise (λ p q. is_lt (key_cmp p.high q.high)) parts

abbrev pub factors_fit : Bool → PartDef → Bool
factors_fit phdam p =
    (not phdam || (nat_le 1 p.anchors && nat_le p.anchors 1000000)) && (p.fbff == 0 || (nat_le 2 p.fbff && nat_le p.fbff 100)) && nat_le p.fspf 99

abbrev pub number_fits : ℕ → Bool
number_fits number = nat_le 1 number && nat_le number 32767

abbrev pub part_is_kept : Bool → PartDef → Bool
part_is_kept phdam p = factors_fit phdam p && number_fits p.number

abbrev pub blocks_are_kept : ℕ → Bool
blocks_are_kept blocks = nat_le 1 blocks && nat_le blocks 65536

-- No name but a field's is that of a portion of the concatenated key.
abbrev pub type_is_named : SegType → Bool
type_is_named t = is_name t.name && list_all (λ f. is_field_name f.name) t.fields

abbrev pub index_is_named : IndexDef → Bool
index_is_named i = is_name i.seg && is_name i.name && is_name i.xdfld

abbrev pub names_are_kept : List ℕ → Option (List ℕ) → List SegType → List IndexDef → List PartDef → Bool
names_are_kept name rm types indexes parts =
    is_name name && option_map_or is_name rm true && list_all type_is_named types && list_all index_is_named indexes && list_all (λ p. is_name p.name) parts

-- RMNAME: PHDAM alone has one, and without one there is one anchor point and one block
abbrev pub module_is_kept : Bool → Option (List ℕ) → ℕ → ℕ → Bool
module_is_kept phdam rm anch rbn = if is_some rm then phdam else (anch == 1 && rbn == 1)

-- a count of 32 bits, and a key of bytes
abbrev pub part_is_stored : PartDef → Bool
part_is_stored p = nat_lt p.anchors 4294967296 && list_all (λ b. nat_lt b 256) p.high
