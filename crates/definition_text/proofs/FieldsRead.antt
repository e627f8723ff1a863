-- The FIELD statements of a type read, one after the other, as its raw fields.
use Rattle.std.proofs.Common.{◌≡◌, ℕ, ◌+◌, Bool, true, false, ◌==◌, List, [], ◌∷◌, ◌++◌, length, flat_map, Option, Some, None, codes, refl, sym, ap, ◌∙◌, arith, append_assoc, append-nil}
use Rattle.std.proofs.lemmas.Bool.{ne_eqb}
use Rattle.std.specs.List.{AllByRecursion}
use Rattle.hal_base.specs.Name.{is_field_name}
use Rattle.hal_schema.specs.declared.raw.RawField.{RawField}
use Rattle.hal_schema.specs.declared.raw.RawType.{RawType}
use Rattle.hal_schema.specs.declared.raw.RawDbd.{RawDbd}
use Rattle.hal_schema.specs.declared.schema.Field.{Field}
use Rattle.hal_schema.specs.declared.schema.KeyField.{KeyField}
use Rattle.dbd_reader.specs.declared.draft.Draft.{Draft}
use Rattle.dbd_reader.specs.declared.draft.Draft.TheVariants as drafts
use Rattle.dbd_reader.specs.Definition.{with_field}
use Rattle.definition_printer.specs.Wrapped.{wrapped}
use Rattle.hal_schema.specs.Lawful.{is_key_field}
use Rattle.definition_printer.specs.Dbd.{kind, sequence_name, plain_field, keyed_fields, fields_text, field_statement}
use Rattle.definition_text.specs.RawDbd.{lines_in, sequence, raw_field, raw_plain, raw_keyed, raw_fields}
use Rattle.definition_text.proofs.Printed.{Value, alone, listed, value_text}
use Rattle.definition_text.proofs.Pieced.{lines_append}
use Rattle.definition_text.proofs.PrintedValues.{field_short, field_some, plain_back, unique_letter, keyed_is, keyed_back}
use Rattle.definition_text.proofs.StatementStep.{reads}
use Rattle.definition_text.proofs.TypeStatements.{IsFieldName, IsSmall, field_reads}

-- ---- fields

-- a field that can be printed
pub record IsPrintedField (f : Field) : Type 0 where
  pub name : is_field_name f.name ≡ true
  pub small : IsSmall f

-- a segment with fields behind those that it has
abbrev pub with_fields : RawType → List RawField → RawType
with_fields segm fields = record segm { fields = segm.fields ++ fields }

abbrev pub in_fields : RawDbd → RawType → List RawField → Draft
in_fields dbd segm fields = drafts.Segment dbd (with_fields segm fields)

fields_behind : (dbd : RawDbd) (segm : RawType) (field : RawField) (fields : List RawField) → in_fields dbd (with_field segm field) fields ≡ in_fields dbd segm (field ∷ fields)
fields_behind dbd segm field fields = ap (λ (fs : List RawField). drafts.Segment dbd (record segm { fields = fs })) (append_assoc segm.fields (field ∷ []) fields)

no_fields : (dbd : RawDbd) (segm : RawType) → drafts.Segment dbd segm ≡ in_fields dbd segm []
no_fields dbd segm = ap (λ (fs : List RawField). drafts.Segment dbd (record segm { fields = fs })) (sym (append-nil segm.fields))

-- one statement, and then the fields behind it
field_then : (n last : ℕ) (dbd : RawDbd) (segm : RawType) (v : Value) (seq : ℕ) (f : Field) (more rest : List ℕ) (fields : List RawField) → IsFieldName v f.name seq → IsSmall f
    → reads (n + lines_in (wrapped (field_statement (value_text v) f))) (drafts.Segment dbd (with_field segm (raw_field n seq f))) (more ++ rest) last
    ≡ reads (n + lines_in (wrapped (field_statement (value_text v) f)) + lines_in more) (in_fields dbd (with_field segm (raw_field n seq f)) fields) rest last
    → reads n (drafts.Segment dbd segm) ((wrapped (field_statement (value_text v) f) ++ more) ++ rest) last
    ≡ reads (n + lines_in (wrapped (field_statement (value_text v) f) ++ more)) (in_fields dbd segm (raw_field n seq f ∷ fields)) rest last
field_then n last dbd segm v seq f more rest fields name small then =
    let text : List ℕ = wrapped (field_statement (value_text v) f) in
    let count = lines_append text more in
    let lines : n + lines_in text + lines_in more ≡ n + lines_in (text ++ more) = omega (arith, count) in
    ap (λ (t : List ℕ). reads n (drafts.Segment dbd segm) t last) (append_assoc text more rest)
    ∙ field_reads n last dbd segm v seq f (more ++ rest) name small ∙ then
    ∙ ap (λ (m : ℕ). reads m (in_fields dbd (with_field segm (raw_field n seq f)) fields) rest last) lines
    ∙ ap (λ (d : Draft). reads (n + lines_in (text ++ more)) d rest last) (fields_behind dbd segm (raw_field n seq f) fields)

nothing_reads : (n last : ℕ) (dbd : RawDbd) (segm : RawType) (rest : List ℕ) → reads n (drafts.Segment dbd segm) rest last ≡ reads (n + 0) (in_fields dbd segm []) rest last
nothing_reads n last dbd segm rest =
    let here : n ≡ n + 0 = omega arith in
    ap (λ (d : Draft). reads n d rest last) (no_fields dbd segm) ∙ ap (λ (m : ℕ). reads m (in_fields dbd segm []) rest last) here

plain_name : (f : Field) → IsPrintedField f → IsFieldName (alone f.name) f.name 0
plain_name f h = record { value = field_short f.name h.name; some = field_some f.name h.name; reads = plain_back f.name h.name }

plain_reads : (n last : ℕ) (dbd : RawDbd) (segm : RawType) (fields : List Field) (rest : List ℕ) → AllByRecursion IsPrintedField fields
    → reads n (drafts.Segment dbd segm) (flat_map plain_field fields ++ rest) last ≡ reads (n + lines_in (flat_map plain_field fields)) (in_fields dbd segm (raw_plain n fields)) rest last
plain_reads n last dbd segm [] rest h = nothing_reads n last dbd segm rest
plain_reads n last dbd segm (f ∷ fs) rest h =
    let m : ℕ = n + lines_in (plain_field f) in
    field_then n last dbd segm (alone f.name) 0 f (flat_map plain_field fs) rest (raw_plain m fs) (plain_name f h.0) h.0.small (plain_reads m last dbd (with_field segm (raw_field n 0 f)) fs rest h.1)

kind_text : (name : List ℕ) (unique : Bool) → codes "(" ++ name ++ kind unique ≡ value_text (listed name (codes "SEQ" ∷ unique_letter unique ∷ []))
kind_text name true = simp append_assoc
kind_text name false = simp append_assoc

key_text : (key : KeyField) (name : List ℕ) → sequence_name key name ≡ value_text (listed name (codes "SEQ" ∷ unique_letter key.unique ∷ []))
unfolding sequence_name
key_text key name = kind_text name key.unique

key_some : (name : List ℕ) (unique : Bool) → (length (value_text (listed name (codes "SEQ" ∷ unique_letter unique ∷ []))) == 0) ≡ false
key_some name unique = ne_eqb (length (value_text (listed name (codes "SEQ" ∷ unique_letter unique ∷ [])))) 0 (λ e. omega (arith, e))

key_name : (key : KeyField) (f : Field) → IsPrintedField f → IsFieldName (listed f.name (codes "SEQ" ∷ unique_letter key.unique ∷ [])) f.name (sequence key.unique)
key_name key f h = record { value = keyed_is f.name key.unique h.name; some = key_some f.name key.unique; reads = keyed_back f.name key.unique h.name }

-- the sequence field, and the fields behind it
keyed_then : (n last : ℕ) (dbd : RawDbd) (segm : RawType) (key : KeyField) (f : Field) (fs : List Field) (rest : List ℕ) → IsPrintedField f → AllByRecursion IsPrintedField fs
    → reads n (drafts.Segment dbd segm) ((wrapped (field_statement (sequence_name key f.name) f) ++ flat_map plain_field fs) ++ rest) last
    ≡ reads (n + lines_in (wrapped (field_statement (sequence_name key f.name) f) ++ flat_map plain_field fs))
    (in_fields dbd segm (raw_field n (sequence key.unique) f ∷ raw_plain (n + lines_in (wrapped (field_statement (sequence_name key f.name) f))) fs)) rest last
keyed_then n last dbd segm key f fs rest h more =
    let v : Value = listed f.name (codes "SEQ" ∷ unique_letter key.unique ∷ []) in
    let m : ℕ = n + lines_in (wrapped (field_statement (value_text v) f)) in
    rw (key_text key f.name)
    (field_then n last dbd segm v (sequence key.unique) f (flat_map plain_field fs) rest (raw_plain m fs) (key_name key f h) h.small (plain_reads m last dbd (with_field segm (raw_field n (sequence key.unique) f)) fs rest more))

keyed_by : (b : Bool) (n last : ℕ) (dbd : RawDbd) (segm : RawType) (key : KeyField) (f : Field) (fs : List Field) (rest : List ℕ) → is_key_field key f ≡ b → IsPrintedField f → AllByRecursion IsPrintedField fs
    → ((m : ℕ) (next : RawType) → reads m (drafts.Segment dbd next) (keyed_fields key fs ++ rest) last ≡ reads (m + lines_in (keyed_fields key fs)) (in_fields dbd next (raw_keyed key m fs)) rest last)
    → reads n (drafts.Segment dbd segm) (keyed_fields key (f ∷ fs) ++ rest) last ≡ reads (n + lines_in (keyed_fields key (f ∷ fs))) (in_fields dbd segm (raw_keyed key n (f ∷ fs))) rest last
keyed_by true n last dbd segm key f fs rest e h more later = rw e (keyed_then n last dbd segm key f fs rest h more)
keyed_by false n last dbd segm key f fs rest e h more later =
    let m : ℕ = n + lines_in (plain_field f) in
    rw e (field_then n last dbd segm (alone f.name) 0 f (keyed_fields key fs) rest (raw_keyed key m fs) (plain_name f h) h.small (later m (with_field segm (raw_field n 0 f))))

keyed_reads : (fields : List Field) (n last : ℕ) (dbd : RawDbd) (segm : RawType) (key : KeyField) (rest : List ℕ) → AllByRecursion IsPrintedField fields
    → reads n (drafts.Segment dbd segm) (keyed_fields key fields ++ rest) last ≡ reads (n + lines_in (keyed_fields key fields)) (in_fields dbd segm (raw_keyed key n fields)) rest last
keyed_reads [] n last dbd segm key rest h = nothing_reads n last dbd segm rest
keyed_reads (f ∷ fs) n last dbd segm key rest h = keyed_by (is_key_field key f) n last dbd segm key f fs rest refl h.0 h.1 (λ m next. keyed_reads fs m last dbd next key rest h.1)

pub fields_read : (n last : ℕ) (dbd : RawDbd) (segm : RawType) (key : Option KeyField) (fields : List Field) (rest : List ℕ) → AllByRecursion IsPrintedField fields
    → reads n (drafts.Segment dbd segm) (fields_text key fields ++ rest) last ≡ reads (n + lines_in (fields_text key fields)) (in_fields dbd segm (raw_fields key n fields)) rest last
fields_read n last dbd segm None fields rest h = plain_reads n last dbd segm fields rest h
fields_read n last dbd segm (Some key) fields rest h = keyed_reads fields n last dbd segm key rest h
