-- What every schema keeps, as those use it who stand on one.
use Rattle.std.specs.Prelude.{◌≡◌, ◌≢◌, ℕ, ◌+◌, ◌<◌, ◌≤◌, ◌==◌, true, false, List, ◌∷◌, length, None, Some}
use Rattle.std.specs.List.{list_any, slice_get}
use Rattle.hal_schema.specs.declared.schema.Field.{Field}
use Rattle.hal_schema.specs.declared.schema.KeyField.{KeyField}
use Rattle.hal_schema.specs.declared.schema.SegType.{SegType}
use Rattle.hal_schema.specs.declared.schema.IndexDef.{IndexDef}
use Rattle.hal_schema.specs.declared.schema.PartDef.{PartDef}
use Rattle.hal_schema.specs.declared.schema.Schema.{Schema}
use Rattle.hal_schema.specs.SegType.{type_of, parent_code, ancestry, level_of, key_bytes, path_key_bytes, entry_bytes}
use Rattle.hal_schema.specs.Lawful.{is_key_portion}

-- so many bytes, some, from a start that counts from 1 lie in a length
pub record LiesIn (all start bytes : ℕ) : Type 0 where
  pub from : 1 ≤ start
  pub some : 1 ≤ bytes
  pub within : start + bytes ≤ all + 1

-- a type whose parent has a code: that is lower, and the type is one level deeper
pub record IsBelow (types : List SegType) (above code : ℕ) : Type 0 where
  pub some : 0 < above
  pub lower : above < code
  pub level : level_of types code ≡ level_of types above + 1
  pub path : ancestry (parent_code types) code ≡ code ∷ ancestry (parent_code types) above
  pub path_key : path_key_bytes types code ≡ key_bytes types code + path_key_bytes types above

pub record KeepsKey (t : SegType) (k : KeyField) : Type 0 where
  pub field : LiesIn t.bytes k.start k.bytes
  pub short : k.bytes ≤ 100

pub record KeepsType (t : SegType) : Type 0 where
  pub some : 1 ≤ t.bytes
  pub short : t.bytes ≤ 2000
  pub few_fields : length t.fields ≤ 255
  pub letter_from : 65 ≤ t.letter
  pub letter_to : t.letter ≤ 74
  pub fields : (place : ℕ) (f : Field) → slice_get t.fields place ≡ Some f → is_key_portion f.name ≡ false → LiesIn t.bytes f.start f.bytes
  pub key : (k : KeyField) → t.key ≡ Some k → KeepsKey t k

-- the source is the target or below it, the search fields lie in the source's content, and the SUBSEQ portions in its concatenated key
pub record KeepsIndex (types : List SegType) (i : IndexDef) (t : SegType) : Type 0 where
  pub source : type_of types i.source ≡ Some t
  pub target : list_any (λ code. code == i.target) (ancestry (parent_code types) i.source) ≡ true
  pub some_search : 1 ≤ length i.search
  pub few_search : length i.search ≤ 5
  pub search : (place : ℕ) (f : Field) → slice_get i.search place ≡ Some f → LiesIn t.bytes f.start f.bytes
  pub subseq : (place : ℕ) (f : Field) → slice_get i.subseq place ≡ Some f → LiesIn (path_key_bytes types i.source) f.start f.bytes
  pub short : entry_bytes i ≤ 240

pub record KeepsPart (schema : Schema) (p : PartDef) : Type 0 where
  pub high : length p.high ≡ key_bytes schema.types 1
  pub number_from : 1 ≤ p.number
  pub number_to : p.number ≤ 32767
  pub some_anchors : schema.phdam ≡ true → 1 ≤ p.anchors
  pub few_anchors : schema.phdam ≡ true → p.anchors ≤ 1000000
  pub free_blocks : p.fbff ≤ 100
  pub not_each_block : p.fbff ≢ 1
  pub free_space : p.fspf ≤ 99

pub record IsKept (schema : Schema) : Type 0 where
  pub some_types : 1 ≤ length schema.types
  pub few_types : length schema.types ≤ 255
  pub root : parent_code schema.types 1 ≡ None
  pub root_level : level_of schema.types 1 ≡ 1
  pub below : (above code : ℕ) → parent_code schema.types code ≡ Some above → IsBelow schema.types above code
  pub has_level : (code : ℕ) → 0 < code → 1 ≤ level_of schema.types code
  pub few_levels : (code : ℕ) → level_of schema.types code ≤ 15
  pub only_root : (code : ℕ) (t : SegType) → type_of schema.types code ≡ Some t → t.parent ≡ None → code ≡ 1
  pub types : (code : ℕ) (t : SegType) → type_of schema.types code ≡ Some t → KeepsType t
  pub root_key : (t : SegType) × (k : KeyField) × (type_of schema.types 1 ≡ Some t) × (t.key ≡ Some k) × (k.unique ≡ true)
  pub few_indexes : length schema.indexes ≤ 16
  pub indexes : (place : ℕ) (i : IndexDef) → slice_get schema.indexes place ≡ Some i → (t : SegType) × KeepsIndex schema.types i t
  pub some_parts : 1 ≤ length schema.parts
  pub few_parts : length schema.parts ≤ 100
  pub parts : (place : ℕ) (p : PartDef) → slice_get schema.parts place ≡ Some p → KeepsPart schema p
  pub some_blocks : 1 ≤ schema.blocks
  pub few_blocks : schema.blocks ≤ 65536

abbrev pub SchemasAreKept : Type 0
SchemasAreKept = (schema : Schema) → IsKept schema
