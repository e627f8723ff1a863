-- The canonical DBD text of a schema: its statements, each from the beginning of a line on.
use Rattle.std.specs.Prelude.{ℕ, ◌+◌, ◌==◌, ◌&&◌, Bool, true, false, if◌then◌else◌, List, [], ◌∷◌, ◌++◌, flat_map, Option, Some, None, codes, decimal}
use Rattle.std.specs.Option.{option_map_or}
use Rattle.hal_schema.specs.declared.schema.Field.{Field}
use Rattle.hal_schema.specs.declared.schema.KeyField.{KeyField}
use Rattle.hal_schema.specs.declared.schema.SegType.{SegType}
use Rattle.hal_schema.specs.declared.schema.IndexDef.{IndexDef}
use Rattle.hal_schema.specs.declared.schema.Schema.{Schema}
use Rattle.hal_schema.specs.SegType.{type_of}
use Rattle.hal_schema.specs.Lawful.{is_key_field}
use Rattle.definition_printer.specs.Wrapped.{wrapped}

abbrev pub method : Bool → List ℕ
method true = codes "PHDAM"
method false = codes "PHIDAM"

-- the randomizer, its anchor points and its blocks: of a PHDAM database that names one
abbrev pub randomizer : Bool → Option (List ℕ) → ℕ → ℕ → List ℕ
randomizer true (Some name) anch rbn = codes ",RMNAME=(" ++ name ++ codes "," ++ decimal anch ++ codes "," ++ decimal rbn ++ codes ")"
randomizer _ _ anch rbn = []

unfoldable pub dbd_statement : Schema → List ℕ
dbd_statement s = codes "DBD NAME=" ++ s.name ++ codes ",ACCESS=(" ++ method s.phdam ++ codes ")" ++ randomizer s.phdam s.rm s.anch s.rbn

-- the name of a type
abbrev pub name_of : List SegType → ℕ → List ℕ
name_of types code = option_map_or (λ t. t.name) (type_of types code) []

-- 0 where there is none
abbrev pub parent_name : List SegType → Option ℕ → List ℕ
parent_name types None = codes "0"
parent_name types (Some code) = name_of types code

abbrev pub twin_place : Bool → List ℕ
twin_place true = codes "FIRST"
twin_place false = codes "LAST"

unfoldable pub segm_statement : List SegType → SegType → List ℕ
segm_statement types t = codes "SEGM NAME=" ++ t.name ++ codes ",PARENT=" ++ parent_name types t.parent ++ codes ",BYTES=" ++ decimal t.bytes ++ codes ",RULES=(," ++ twin_place t.first ++ codes "),DSGROUP=" ++ t.letter ∷ []

unfoldable pub field_statement : List ℕ → Field → List ℕ
field_statement name f = codes "FIELD NAME=" ++ name ++ codes ",BYTES=" ++ decimal f.bytes ++ codes ",START=" ++ decimal f.start ++ codes ",TYPE=C"

abbrev pub kind : Bool → List ℕ
kind true = codes ",SEQ,U)"
kind false = codes ",SEQ,M)"

unfoldable pub sequence_name : KeyField → List ℕ → List ℕ
sequence_name key name = codes "(" ++ name ++ kind key.unique

abbrev pub plain_field : Field → List ℕ
plain_field f = wrapped (field_statement f.name f)

-- the first field at the place of the sequence field is that
abbrev pub keyed_fields : KeyField → List Field → List ℕ
keyed_fields key [] = []
keyed_fields key (f ∷ more) = if is_key_field key f then wrapped (field_statement (sequence_name key f.name) f) ++ flat_map plain_field more else plain_field f ++ keyed_fields key more

abbrev pub fields_text : Option KeyField → List Field → List ℕ
fields_text None fields = flat_map plain_field fields
fields_text (Some key) fields = keyed_fields key fields

-- the segment and the database of an index
unfoldable pub child_names : IndexDef → List ℕ
child_names i = i.seg ++ codes "," ++ i.name ++ codes "),PTR=INDX"

abbrev pub lchild_statement : IndexDef → List ℕ
lchild_statement i = codes "LCHILD NAME=(" ++ child_names i

abbrev pub behind_comma : Field → List ℕ
behind_comma f = 44 ∷ f.name

abbrev pub name_list : List Field → List ℕ
name_list [] = []
name_list (f ∷ more) = f.name ++ flat_map behind_comma more

-- the portions of the concatenated key, where there are any
abbrev pub subseq_operand : List Field → List ℕ
subseq_operand [] = []
subseq_operand (f ∷ more) = codes ",SUBSEQ=(" ++ name_list (f ∷ more) ++ codes ")"

-- its field's name, its source and its fields
unfoldable pub indexed_field : List SegType → IndexDef → List ℕ
indexed_field types i = i.xdfld ++ codes ",SEGMENT=" ++ name_of types i.source ++ codes ",SRCH=(" ++ name_list i.search ++ codes ")" ++ subseq_operand i.subseq

abbrev pub xdfld_statement : List SegType → IndexDef → List ℕ
xdfld_statement types i = codes "XDFLD NAME=" ++ indexed_field types i

abbrev pub index_text : List SegType → IndexDef → List ℕ
index_text types i = wrapped (lchild_statement i) ++ wrapped (xdfld_statement types i)

-- an index stands behind the fields of its target
abbrev pub text_over : List SegType → ℕ → IndexDef → List ℕ
text_over types code i = if i.target == code then index_text types i else []

-- a segment type, its fields, and the indexes over it
unfoldable pub type_text : List SegType → List IndexDef → ℕ → SegType → List ℕ
type_text types indexes code t = wrapped (segm_statement types t) ++ fields_text t.key t.fields ++ flat_map (text_over types code) indexes

-- the types from a code on
abbrev pub types_text : List SegType → List IndexDef → ℕ → List SegType → List ℕ
types_text types indexes code [] = []
types_text types indexes code (t ∷ more) = type_text types indexes code t ++ types_text types indexes (code + 1) more

abbrev pub end_text : List ℕ
end_text = wrapped (codes "DBDGEN") ++ wrapped (codes "FINISH") ++ wrapped (codes "END")

unfoldable pub dbd_text : Schema → List ℕ
dbd_text s = wrapped (dbd_statement s) ++ types_text s.types s.indexes 1 s.types ++ end_text
