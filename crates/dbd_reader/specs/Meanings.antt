-- What each statement says: 16 is the rule of a needed operand that is absent.
use Rattle.hal_base.specs.Reading.{◌>>=◌}
use Rattle.std.specs.Prelude.{ℕ, Bool, true, false, List, [], Option, Some, None, Result, Ok, Err, codes}
use Rattle.std.specs.Option.{option_map, option_map_or}
use Rattle.hal_schema.specs.declared.raw.RawField.{RawField}
use Rattle.hal_schema.specs.declared.raw.RawType.{RawType}
use Rattle.hal_schema.specs.declared.raw.RawIndex.{RawIndex}
use Rattle.hal_schema.specs.declared.raw.RawDbd.{RawDbd}
use Rattle.dbd_reader.specs.declared.word.Word.TheVariants as words
use Rattle.dbd_reader.specs.declared.operand.Operand.{Operand}
use Rattle.dbd_reader.specs.declared.value.RmName.{RmName}
use Rattle.dbd_reader.specs.declared.value.Child.{Child}
use Rattle.dbd_reader.specs.Operands.{value_of}
use Rattle.dbd_reader.specs.Values.{name_value, access_value, rmname_value, parent_value, bytes_value, rules_value, letter_value, keyed_value, number_value, child_value, index_value, search_value, fields_value}
use Rattle.dbd_reader.specs.Verdicts.{checked}

abbrev pub present : Option (List ℕ) → Result (List ℕ) ℕ
present None = Err 16
present (Some value) = Ok value

-- the value of an operand that the statement needs
unfoldable pub needed : List ℕ → List Operand → Result (List ℕ) ℕ
needed key operands = present (value_of key operands)

abbrev pub rmname_or_none : Option (List ℕ) → Result (Option RmName) ℕ
rmname_or_none None = Ok None
rmname_or_none (Some value) = rmname_value value >>= λ rm. Ok (Some rm)

-- the database; without RMNAME it has one anchor and one block
unfoldable pub dbd_of : List Operand → Result RawDbd ℕ
dbd_of operands = do
  _ ← checked words.Dbd operands
  name ← needed (codes "NAME") operands >>= name_value
  phdam ← needed (codes "ACCESS") operands >>= access_value
  rm ← rmname_or_none (value_of (codes "RMNAME") operands)
  Ok (record { name = name; phdam = phdam; rm = option_map (λ r. r.module_name) rm; anch = option_map_or (λ r. r.anch) rm 1; rbn = option_map_or (λ r. r.rbn) rm 1; types = []; indexes = [] })

abbrev pub parent_or_none : Option (List ℕ) → Result (Option (List ℕ)) ℕ
parent_or_none None = Ok None
parent_or_none (Some value) = parent_value value

abbrev pub first_or_last : Option (List ℕ) → Result Bool ℕ
first_or_last None = Ok false
first_or_last (Some value) = rules_value value

-- data set group A, where none is named
abbrev pub letter_or_a : Option (List ℕ) → Result ℕ ℕ
letter_or_a None = Ok 65
letter_or_a (Some value) = letter_value value

unfoldable pub segm_of : ℕ → List Operand → Result RawType ℕ
segm_of line operands = do
  _ ← checked words.Segm operands
  name ← needed (codes "NAME") operands >>= name_value
  bytes ← needed (codes "BYTES") operands >>= bytes_value
  parent ← parent_or_none (value_of (codes "PARENT") operands)
  first ← first_or_last (value_of (codes "RULES") operands)
  letter ← letter_or_a (value_of (codes "DSGROUP") operands)
  Ok (record { name = name; parent = parent; bytes = bytes; first = first; letter = letter; fields = []; line = line })

unfoldable pub field_of : ℕ → List Operand → Result RawField ℕ
field_of line operands = do
  _ ← checked words.Field operands
  name ← needed (codes "NAME") operands >>= keyed_value
  start ← needed (codes "START") operands >>= number_value
  bytes ← needed (codes "BYTES") operands >>= number_value
  Ok (record { name = name.name; start = start; bytes = bytes; seq = name.seq; line = line })

unfoldable pub lchild_of : List Operand → Result Child ℕ
lchild_of operands = do
  _ ← checked words.Lchild operands
  child ← needed (codes "NAME") operands >>= child_value
  _ ← needed (codes "PTR") operands >>= index_value
  Ok child

-- the target, where no source is named
abbrev pub source_or : List ℕ → Option (List ℕ) → Result (List ℕ) ℕ
source_or target None = Ok target
source_or target (Some value) = name_value value

abbrev pub fields_or_none : Option (List ℕ) → Result (List (List ℕ)) ℕ
fields_or_none None = Ok []
fields_or_none (Some value) = fields_value value

-- the index that an LCHILD and its XDFLD define over a target; the line is that of the LCHILD
unfoldable pub xdfld_of : ℕ → Child → List ℕ → List Operand → Result RawIndex ℕ
xdfld_of line child target operands = do
  _ ← checked words.Xdfld operands
  xdfld ← needed (codes "NAME") operands >>= name_value
  search ← needed (codes "SRCH") operands >>= search_value
  source ← source_or target (value_of (codes "SEGMENT") operands)
  subseq ← fields_or_none (value_of (codes "SUBSEQ") operands)
  Ok (record { seg = child.seg; name = child.name; xdfld = xdfld; target = target; source = source; search = search; subseq = subseq; line = line })
