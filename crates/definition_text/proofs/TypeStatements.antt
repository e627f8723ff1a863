-- What printed SEGM and FIELD statements say, and the drafts that reading them gives.
use Rattle.std.proofs.Common.{◌≡◌, ℕ, ◌+◌, ◌<◌, ◌^◌, Bool, true, false, ◌==◌, List, [], ◌∷◌, ◌++◌, length, map, Option, Some, None, Ok, codes, decimal, refl, append_assoc}
use Rattle.std.specs.Option.{option_map}
use Rattle.hal_base.specs.Name.{is_name}
use Rattle.hal_schema.specs.declared.raw.RawType.{RawType}
use Rattle.hal_schema.specs.declared.raw.RawDbd.{RawDbd}
use Rattle.hal_schema.specs.declared.schema.Field.{Field}
use Rattle.hal_schema.specs.declared.schema.SegType.{SegType}
use Rattle.dbd_reader.specs.declared.word.Word.TheVariants as words
use Rattle.dbd_reader.specs.declared.operand.Operand.{Operand}
use Rattle.dbd_reader.specs.declared.draft.Draft.TheVariants as drafts
use Rattle.dbd_reader.specs.Operands.{has_twins, value_of}
use Rattle.dbd_reader.specs.Values.{keyed_value, parent_value}
use Rattle.dbd_reader.specs.Verdicts.{verdict, takes, value_verdict, segm_verdict, field_verdict}
use Rattle.dbd_reader.specs.Meanings.{needed, segm_of, field_of}
use Rattle.dbd_reader.specs.Definition.{with_type, with_field, at_head, at_segment, step}
use Rattle.definition_printer.specs.Wrapped.{wrapped}
use Rattle.definition_printer.specs.Dbd.{parent_name, name_of, twin_place, segm_statement, field_statement}
use Rattle.definition_text.specs.RawDbd.{lines_in, raw_field}
use Rattle.definition_text.proofs.Printed.{Value, alone, listed, value_text, Printed, operands_text, IsValue, is_short, ArePrinted}
use Rattle.definition_text.proofs.OperandsRead.{operand_of}
use Rattle.definition_text.proofs.PrintedValues.{name_short, name_some, name_back, decimal_short, decimal_some, number_back, bytes_back, parent_back, rules_back, letter_back}
use Rattle.definition_text.proofs.StatementStep.{names_segm, names_field, reads, GoesOn, statement_reads, AreGood, checked_good}

abbrev pub op : List ℕ → Value → Printed
op key value = record { key = key; value = value }

pub in_segment : (dbd : RawDbd) (segm : RawType) → GoesOn (drafts.Segment dbd segm)
in_segment dbd segm = record { same = λ m more. refl }

-- ---- FIELD

abbrev field_first : Value → Printed
field_first v = op (codes "NAME") v

abbrev field_more : Field → List Printed
field_more f = op (codes "BYTES") (alone (decimal f.bytes)) ∷ op (codes "START") (alone (decimal f.start)) ∷ op (codes "TYPE") (alone (codes "C")) ∷ []

abbrev field_operands : Value → Field → List Operand
field_operands v f = operand_of words.Field (field_first v) ∷ map (operand_of words.Field) (field_more f)

-- what a name in a FIELD statement has to be, and whether it makes a sequence field
pub record IsFieldName (v : Value) (name : List ℕ) (seq : ℕ) : Type 0 where
  pub value : IsValue v
  pub some : (length (value_text v) == 0) ≡ false
  pub reads : keyed_value (value_text v) ≡ Ok (record { name = name; seq = seq })

-- the numbers of a field are small
pub record IsSmall (f : Field) : Type 0 where
  pub bytes : f.bytes < 2 ^ 32
  pub start : f.start < 2 ^ 32

field_text : (v : Value) (f : Field) → field_statement (value_text v) f ≡ codes "FIELD" ++ 32 ∷ operands_text (field_first v) (field_more f)
unfolding field_statement
field_text v f = simp append_assoc

field_printed : (v : Value) (seq : ℕ) (f : Field) → IsFieldName v f.name seq → IsSmall f → ArePrinted (field_first v ∷ field_more f)
field_printed v seq f n s =
    (record { key = refl; value = n.value }, (record { key = refl; value = decimal_short f.bytes s.bytes }, (record { key = refl; value = decimal_short f.start s.start }, (record { key = refl; value = refl }, tt))))

field_good : (v : Value) (seq : ℕ) (f : Field) → IsFieldName v f.name seq → IsSmall f → AreGood words.Field (field_operands v f)
unfolding verdict takes value_verdict field_verdict
field_good v seq f n s =
    (rw (n.some, n.reads) refl, (rw (decimal_some f.bytes s.bytes, number_back f.bytes s.bytes) refl, (rw (decimal_some f.start s.start, number_back f.start s.start) refl, (refl, tt))))

field_twins : (v : Value) (f : Field) → has_twins (field_operands v f) ≡ false
unfolding has_twins
field_twins v f = refl

field_says : (line : ℕ) (v : Value) (seq : ℕ) (f : Field) → IsFieldName v f.name seq → IsSmall f → field_of line (field_operands v f) ≡ Ok (raw_field line seq f)
unfolding field_of needed value_of
field_says line v seq f n s =
    rw (checked_good words.Field (field_operands v f) (field_good v seq f n s) (field_twins v f), n.reads, number_back f.start s.start, number_back f.bytes s.bytes) refl

field_step : (line : ℕ) (dbd : RawDbd) (segm : RawType) (v : Value) (seq : ℕ) (f : Field) → IsFieldName v f.name seq → IsSmall f
    → step (drafts.Segment dbd segm) words.Field line (field_operands v f) ≡ Ok (drafts.Segment dbd (with_field segm (raw_field line seq f)))
unfolding step at_segment
field_step line dbd segm v seq f n s = rw (field_says line v seq f n s) refl

pub field_reads : (n last : ℕ) (dbd : RawDbd) (segm : RawType) (v : Value) (seq : ℕ) (f : Field) (rest : List ℕ) → IsFieldName v f.name seq → IsSmall f
    → reads n (drafts.Segment dbd segm) (wrapped (field_statement (value_text v) f) ++ rest) last
    ≡ reads (n + lines_in (wrapped (field_statement (value_text v) f))) (drafts.Segment dbd (with_field segm (raw_field n seq f))) rest last
field_reads n last dbd segm v seq f rest name small =
    rw (field_text v f)
    (statement_reads n last (drafts.Segment dbd segm) (drafts.Segment dbd (with_field segm (raw_field n seq f))) (codes "FIELD") words.Field (field_first v) (field_more f) rest names_field (field_printed v seq f name small)
    (field_step n dbd segm v seq f name small) (in_segment dbd (with_field segm (raw_field n seq f))))

-- ---- SEGM

abbrev segm_first : SegType → Printed
segm_first t = op (codes "NAME") (alone t.name)

abbrev segm_more : List SegType → SegType → List Printed
segm_more types t =
    op (codes "PARENT") (alone (parent_name types t.parent)) ∷ op (codes "BYTES") (alone (decimal t.bytes)) ∷ op (codes "RULES") (listed [] (twin_place t.first ∷ [])) ∷ op (codes "DSGROUP") (alone (t.letter ∷ [])) ∷ []

abbrev segm_operands : List SegType → SegType → List Operand
segm_operands types t = operand_of words.Segm (segm_first t) ∷ map (operand_of words.Segm) (segm_more types t)

-- a parent is printed by a name
abbrev pub IsParent : List SegType → Option ℕ → Type 0
IsParent types None = Unit {0}
IsParent types (Some code) = is_name (name_of types code) ≡ true

pub record IsSegment (types : List SegType) (t : SegType) : Type 0 where
  pub name : is_name t.name ≡ true
  pub parent : IsParent types t.parent
  pub bytes : t.bytes < 2 ^ 32
  pub letter : is_short (t.letter ∷ []) ≡ true

-- a type that has no fields yet
abbrev pub begun_type : List SegType → ℕ → SegType → RawType
begun_type types line t = record { name = t.name; parent = option_map (name_of types) t.parent; bytes = t.bytes; first = t.first; letter = t.letter; fields = []; line = line }

segm_text : (types : List SegType) (t : SegType) → segm_statement types t ≡ codes "SEGM" ++ 32 ∷ operands_text (segm_first t) (segm_more types t)
unfolding segm_statement
segm_text types t = simp append_assoc

parent_short : (types : List SegType) (parent : Option ℕ) → IsParent types parent → is_short (parent_name types parent) ≡ true
parent_short types None h = refl
parent_short types (Some code) h = name_short (name_of types code) h

parent_some : (types : List SegType) (parent : Option ℕ) → IsParent types parent → (length (parent_name types parent) == 0) ≡ false
parent_some types None h = refl
parent_some types (Some code) h = name_some (name_of types code) h

parent_says : (types : List SegType) (parent : Option ℕ) → IsParent types parent → parent_value (parent_name types parent) ≡ Ok (option_map (name_of types) parent)
unfolding parent_value
parent_says types None h = refl
parent_says types (Some code) h = parent_back (name_of types code) h

place_short : (first : Bool) → is_short (twin_place first) ≡ true
place_short true = refl
place_short false = refl

segm_printed : (types : List SegType) (t : SegType) → IsSegment types t → ArePrinted (segm_first t ∷ segm_more types t)
segm_printed types t h = (
  record { key = refl; value = name_short t.name h.name },
  (
    record { key = refl; value = parent_short types t.parent h.parent },
    (
      record { key = refl; value = decimal_short t.bytes h.bytes },
      (record { key = refl; value = (refl, rw (place_short t.first) refl) }, (record { key = refl; value = h.letter }, tt)),
    ),
  ),
)

rules_some : (first : Bool) → (length (value_text (listed [] (twin_place first ∷ []))) == 0) ≡ false
rules_some true = refl
rules_some false = refl

segm_good : (types : List SegType) (t : SegType) → IsSegment types t → AreGood words.Segm (segm_operands types t)
unfolding verdict takes value_verdict segm_verdict
segm_good types t h = (
  rw (name_some t.name h.name, name_back t.name h.name) refl,
  (
    rw (parent_some types t.parent h.parent, parent_says types t.parent h.parent) refl,
    (
      rw (decimal_some t.bytes h.bytes, bytes_back t.bytes h.bytes) refl,
      (rw (rules_some t.first, rules_back t.first) refl, (rw (letter_back t.letter) refl, tt)),
    ),
  ),
)

segm_twins : (types : List SegType) (t : SegType) → has_twins (segm_operands types t) ≡ false
unfolding has_twins
segm_twins types t = refl

segm_says : (line : ℕ) (types : List SegType) (t : SegType) → IsSegment types t → segm_of line (segm_operands types t) ≡ Ok (begun_type types line t)
unfolding segm_of needed value_of
segm_says line types t h =
    rw (checked_good words.Segm (segm_operands types t) (segm_good types t h) (segm_twins types t), name_back t.name h.name, bytes_back t.bytes h.bytes, parent_says types t.parent h.parent, rules_back t.first, letter_back t.letter) refl

head_step : (line : ℕ) (dbd : RawDbd) (types : List SegType) (t : SegType) → IsSegment types t → step (drafts.Head dbd) words.Segm line (segm_operands types t) ≡ Ok (drafts.Segment dbd (begun_type types line t))
unfolding step at_head
head_step line dbd types t h = rw (segm_says line types t h) refl

next_step : (line : ℕ) (dbd : RawDbd) (segm : RawType) (types : List SegType) (t : SegType) → IsSegment types t
    → step (drafts.Segment dbd segm) words.Segm line (segm_operands types t) ≡ Ok (drafts.Segment (with_type dbd segm) (begun_type types line t))
unfolding step at_segment
next_step line dbd segm types t h = rw (segm_says line types t h) refl

pub first_segm_reads : (n last : ℕ) (dbd : RawDbd) (types : List SegType) (t : SegType) (rest : List ℕ) → IsSegment types t
    → reads n (drafts.Head dbd) (wrapped (segm_statement types t) ++ rest) last ≡ reads (n + lines_in (wrapped (segm_statement types t))) (drafts.Segment dbd (begun_type types n t)) rest last
first_segm_reads n last dbd types t rest h =
    rw (segm_text types t)
    (statement_reads n last (drafts.Head dbd) (drafts.Segment dbd (begun_type types n t)) (codes "SEGM") words.Segm (segm_first t) (segm_more types t) rest names_segm (segm_printed types t h) (head_step n dbd types t h) (in_segment dbd (begun_type types n t)))

pub next_segm_reads : (n last : ℕ) (dbd : RawDbd) (segm : RawType) (types : List SegType) (t : SegType) (rest : List ℕ) → IsSegment types t
    → reads n (drafts.Segment dbd segm) (wrapped (segm_statement types t) ++ rest) last
    ≡ reads (n + lines_in (wrapped (segm_statement types t))) (drafts.Segment (with_type dbd segm) (begun_type types n t)) rest last
next_segm_reads n last dbd segm types t rest h =
    rw (segm_text types t)
    (statement_reads n last (drafts.Segment dbd segm) (drafts.Segment (with_type dbd segm) (begun_type types n t)) (codes "SEGM") words.Segm (segm_first t) (segm_more types t) rest names_segm (segm_printed types t h)
    (next_step n dbd segm types t h) (in_segment (with_type dbd segm) (begun_type types n t)))
