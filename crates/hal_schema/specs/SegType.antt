-- Segment types by their codes. A code is a type's place from 1 in the definition. DBD: SEGM.
use Rattle.std.specs.Prelude.{ℕ, zero, suc, ◌+◌, ◌-◌, ◌==◌, Bool, false, List, [], ◌∷◌, length, Option, None, option_and_then, slice_range, sum_by}
use Rattle.std.specs.List.{slice_get}
use Rattle.std.specs.Option.{option_map_or}
use Rattle.hal_schema.specs.declared.schema.IndexDef.{IndexDef}
use Rattle.hal_schema.specs.declared.schema.SegType.{SegType}

abbrev pub type_of : List SegType → ℕ → Option SegType
type_of types zero = None
type_of types (suc place) = slice_get types place

-- the code of a type's parent; the root type has none
abbrev pub parent_code : List SegType → ℕ → Option ℕ
parent_code types code = option_and_then (λ t. t.parent) (type_of types code)

-- whether the second type's parent has the first code
abbrev pub is_parent_code : List SegType → ℕ → ℕ → Bool
is_parent_code types above code = option_map_or (λ parent. parent == above) (parent_code types code) false

-- a code, the code of its parent, and so on up to the root type: at most so many of them
abbrev pub ancestry_within : ℕ → (ℕ → Option ℕ) → ℕ → List ℕ
ancestry_within zero parent code = []
ancestry_within (suc most) parent code = code ∷ option_map_or (ancestry_within most parent) (parent code) []

-- all of them, since a parent's code is lower
abbrev pub ancestry : (ℕ → Option ℕ) → ℕ → List ℕ
ancestry parent code = ancestry_within code parent code

-- 1 for the root type, and one more than its parent's for every other
abbrev pub level_of : List SegType → ℕ → ℕ
level_of types code = length (ancestry (parent_code types) code)

-- whether a type's parent has this code
abbrev pub is_child : ℕ → SegType → Bool
is_child code t = option_map_or (λ parent. parent == code) t.parent false

-- the bytes from a start, which counts from 1
abbrev pub portion : ℕ → ℕ → List ℕ → List ℕ
portion start bytes content = slice_range content (start - 1) (start - 1 + bytes)

-- the sequence field in a content of a type, empty where the type has none
abbrev pub key_in : List SegType → ℕ → List ℕ → List ℕ
key_in types code content = option_map_or (λ k. portion k.start k.bytes content) (option_and_then (λ t. t.key) (type_of types code)) []

-- how long the sequence field of a type is, 0 where it has none
abbrev pub key_bytes : List SegType → ℕ → ℕ
key_bytes types code = option_map_or (λ k. k.bytes) (option_and_then (λ t. t.key) (type_of types code)) 0

-- how long the concatenated key of a row of a type is
abbrev pub path_key_bytes : List SegType → ℕ → ℕ
path_key_bytes types code = sum_by (key_bytes types) (ancestry (parent_code types) code)

-- how long the search fields of an index are, with which an entry's key begins
abbrev pub search_bytes : IndexDef → ℕ
search_bytes index = sum_by (λ f. f.bytes) index.search

-- how long an entry's key is
abbrev pub entry_bytes : IndexDef → ℕ
entry_bytes index = search_bytes index + sum_by (λ f. f.bytes) index.subseq
