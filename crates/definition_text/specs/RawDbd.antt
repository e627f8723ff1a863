-- The raw definition that the canonical DBD text of a schema says. A line is that on which a statement of the text begins.
use Rattle.std.specs.Prelude.{ℕ, ◌+◌, ◌==◌, Bool, true, false, if◌then◌else◌, List, [], ◌∷◌, ◌++◌, map, count_by, Option, None, Some}
use Rattle.std.specs.Option.{option_map}
use Rattle.hal_schema.specs.declared.raw.RawField.{RawField}
use Rattle.hal_schema.specs.declared.raw.RawType.{RawType}
use Rattle.hal_schema.specs.declared.raw.RawIndex.{RawIndex}
use Rattle.hal_schema.specs.declared.raw.RawDbd.{RawDbd}
use Rattle.hal_schema.specs.declared.raw.RawSchema.{RawSchema}
use Rattle.hal_schema.specs.declared.schema.Field.{Field}
use Rattle.hal_schema.specs.declared.schema.KeyField.{KeyField}
use Rattle.hal_schema.specs.declared.schema.SegType.{SegType}
use Rattle.hal_schema.specs.declared.schema.IndexDef.{IndexDef}
use Rattle.hal_schema.specs.declared.schema.Schema.{Schema}
use Rattle.definition_printer.specs.Wrapped.{wrapped}
use Rattle.hal_schema.specs.Lawful.{is_key_field}
use Rattle.definition_printer.specs.Dbd.{name_of, dbd_statement, segm_statement, field_statement, sequence_name, plain_field, fields_text, index_text, type_text}
use Rattle.definition_text.specs.Raw.{raw_parts_of}

-- how many lines a text takes, each with its end
abbrev pub lines_in : List ℕ → ℕ
lines_in text = count_by (λ b. b == 10) text

-- 0 for no sequence field, 1 for a unique one, 2 for one that may stand twice
abbrev pub sequence : Bool → ℕ
sequence true = 1
sequence false = 2

abbrev pub raw_field : ℕ → ℕ → Field → RawField
raw_field line seq f = record { name = f.name; start = f.start; bytes = f.bytes; seq = seq; line = line }

-- fields, the first of which is on a line
abbrev pub raw_plain : ℕ → List Field → List RawField
raw_plain line [] = []
raw_plain line (f ∷ more) = raw_field line 0 f ∷ raw_plain (line + lines_in (plain_field f)) more

-- the first field at the place of the sequence field is that
abbrev pub raw_keyed : KeyField → ℕ → List Field → List RawField
raw_keyed key line [] = []
raw_keyed key line (f ∷ more) =
    if is_key_field key f then raw_field line (sequence key.unique) f ∷ raw_plain (line + lines_in (wrapped (field_statement (sequence_name key f.name) f))) more
    else raw_field line 0 f ∷ raw_keyed key (line + lines_in (plain_field f)) more

abbrev pub raw_fields : Option KeyField → ℕ → List Field → List RawField
raw_fields None line fields = raw_plain line fields
raw_fields (Some key) line fields = raw_keyed key line fields

-- the line behind the SEGM statement of a type
abbrev pub behind_segm : List SegType → ℕ → SegType → ℕ
behind_segm types line t = line + lines_in (wrapped (segm_statement types t))

abbrev pub raw_type : List SegType → ℕ → SegType → RawType
raw_type types line t = record {
  name = t.name;
  parent = option_map (name_of types) t.parent;
  bytes = t.bytes;
  first = t.first;
  letter = t.letter;
  fields = raw_fields t.key (behind_segm types line t) t.fields;
  line = line;
}

abbrev pub raw_index : List SegType → List ℕ → ℕ → IndexDef → RawIndex
raw_index types target line i = record {
  seg = i.seg;
  name = i.name;
  xdfld = i.xdfld;
  target = target;
  source = name_of types i.source;
  search = map (λ f. f.name) i.search;
  subseq = map (λ f. f.name) i.subseq;
  line = line;
}

-- the indexes over the target of a code and a name
abbrev pub raw_over : List SegType → ℕ → List ℕ → ℕ → List IndexDef → List RawIndex
raw_over types code target line [] = []
raw_over types code target line (i ∷ more) =
    if i.target == code then raw_index types target line i ∷ raw_over types code target (line + lines_in (index_text types i)) more else raw_over types code target line more

-- the types from a code on, the first of which is on a line, and the indexes over them
abbrev pub raw_types : List SegType → List IndexDef → ℕ → ℕ → List SegType → List RawType
raw_types types indexes code line [] = []
raw_types types indexes code line (t ∷ more) = raw_type types line t ∷ raw_types types indexes (code + 1) (line + lines_in (type_text types indexes code t)) more

abbrev pub raw_indexes : List SegType → List IndexDef → ℕ → ℕ → List SegType → List RawIndex
raw_indexes types indexes code line [] = []
raw_indexes types indexes code line (t ∷ more) =
    raw_over types code t.name (behind_segm types line t + lines_in (fields_text t.key t.fields)) indexes
    ++ raw_indexes types indexes (code + 1) (line + lines_in (type_text types indexes code t)) more

abbrev pub raw_dbd_of : Schema → RawDbd
raw_dbd_of s = record {
  name = s.name;
  phdam = s.phdam;
  rm = s.rm;
  anch = s.anch;
  rbn = s.rbn;
  types = raw_types s.types s.indexes 1 (1 + lines_in (wrapped (dbd_statement s))) s.types;
  indexes = raw_indexes s.types s.indexes 1 (1 + lines_in (wrapped (dbd_statement s))) s.types;
}

-- what both canonical texts say
abbrev pub raw_schema_of : Schema → RawSchema
raw_schema_of s = record { dbd = raw_dbd_of s; parts = raw_parts_of s }
