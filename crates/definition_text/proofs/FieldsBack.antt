-- The fields that the canonical text of a type says are its fields, with its sequence field among them.
use Rattle.std.proofs.Common.{◌≡◌, ℕ, ◌+◌, ◌==◌, Bool, true, false, ◌&&◌, ◌||◌, not, nat_lt, nat_le, List, [], ◌∷◌, map, Option, None, Some, refl, sym, ap, arith, ◌∙◌}
use Rattle.std.specs.List.{list_all, list_any, find}
use Rattle.std.specs.Option.{option_map, option_map_or}
use Rattle.std.proofs.lemmas.Bool.{and_parts, and_from, and_right, or_left, or_from, not_from_false, cond_both, false≢true, eqb-true, leb-true, le-ltb, not-true}
use Rattle.hal_schema.specs.declared.raw.RawField.{RawField}
use Rattle.hal_schema.specs.declared.schema.Field.{Field}
use Rattle.hal_schema.specs.declared.schema.KeyField.{KeyField}
use Rattle.hal_schema.specs.Lawful.{all_differ, is_key_portion, is_key_field}
use Rattle.hal_schema.specs.Raw.{field_of, is_sequence_field, key_field}
use Rattle.hal_schema.specs.Rules.{both_sequence}
use Rattle.definition_printer.specs.Wrapped.{wrapped}
use Rattle.definition_printer.specs.Dbd.{field_statement, sequence_name, plain_field}
use Rattle.definition_text.specs.RawDbd.{lines_in, sequence, raw_field, raw_plain, raw_keyed, raw_fields}

-- the fields of a type with a sequence field, from one that stands at its place on
abbrev from_key : KeyField → ℕ → Field → List Field → List RawField
from_key key line f more = raw_field line (sequence key.unique) f ∷ raw_plain (line + lines_in (wrapped (field_statement (sequence_name key f.name) f))) more

abbrev past_plain : KeyField → ℕ → Field → List Field → List RawField
past_plain key line f more = raw_field line 0 f ∷ raw_keyed key (line + lines_in (plain_field f)) more

-- what holds of both holds of the fields
keyed : (P : List RawField → Type 0) (key : KeyField) (line : ℕ) (f : Field) (more : List Field)
    → (is_key_field key f ≡ true → P (from_key key line f more)) → (is_key_field key f ≡ false → P (past_plain key line f more)) → P (raw_keyed key line (f ∷ more))
keyed P key line f more here_at away = cond_both (is_key_field key f) (from_key key line f more) (past_plain key line f more) P here_at away

plain_back : (line : ℕ) (fields : List Field) → map field_of (raw_plain line fields) ≡ fields
plain_back line [] = refl
plain_back line (f ∷ more) = ap (λ (fs : List Field). f ∷ fs) (plain_back (line + lines_in (plain_field f)) more)

keyed_back : (key : KeyField) (line : ℕ) (fields : List Field) → map field_of (raw_keyed key line fields) ≡ fields
keyed_back key line [] = refl
keyed_back key line (f ∷ more) =
    keyed (λ (fs : List RawField). map field_of fs ≡ f ∷ more) key line f more
    (λ _. ap (λ (fs : List Field). f ∷ fs) (plain_back (line + lines_in (wrapped (field_statement (sequence_name key f.name) f))) more))
    (λ _. ap (λ (fs : List Field). f ∷ fs) (keyed_back key (line + lines_in (plain_field f)) more))

pub fields_back : (key : Option KeyField) (line : ℕ) (fields : List Field) → map field_of (raw_fields key line fields) ≡ fields
fields_back None line fields = plain_back line fields
fields_back (Some key) line fields = keyed_back key line fields

-- ---- the sequence field

-- it stands among the later fields, where it isn't this one
among_later : (key : KeyField) (f : Field) (more : List Field) → list_any (is_key_field key) (f ∷ more) ≡ true → is_key_field key f ≡ false → list_any (is_key_field key) more ≡ true
among_later key f more h away =
    sym (ap (λ b. b || list_any (is_key_field key) more) away) ∙ h

plain_none : (line : ℕ) (fields : List Field) → find is_sequence_field (raw_plain line fields) ≡ None
plain_none line [] = refl
plain_none line (f ∷ more) = plain_none (line + lines_in (plain_field f)) more

first_sequence : (u : Bool) (line : ℕ) (f : Field) (rest : List RawField) → find is_sequence_field (raw_field line (sequence u) f ∷ rest) ≡ Some (raw_field line (sequence u) f)
first_sequence true line f rest = refl
first_sequence false line f rest = refl

unique_back : (u : Bool) → (sequence u == 1) ≡ u
unique_back true = refl
unique_back false = refl

abbrev key_at : ℕ → ℕ → Bool → KeyField
key_at start bytes unique = record { start = start; bytes = bytes; unique = unique }

record IsAt (key : KeyField) (f : Field) : Type 0 where
  pub start : f.start ≡ key.start
  pub bytes : f.bytes ≡ key.bytes
  pub portion : is_key_portion f.name ≡ false

is_at : (key : KeyField) (f : Field) → is_key_field key f ≡ true → IsAt key f
is_at key f h =
    let a = and_parts (f.start == key.start && f.bytes == key.bytes) (not (is_key_portion f.name)) h in
    let b = and_parts (f.start == key.start) (f.bytes == key.bytes) a.0 in
    record { start = eqb-true f.start key.start b.0; bytes = eqb-true f.bytes key.bytes b.1; portion = not-true (is_key_portion f.name) a.1 }

abbrev key_of : RawField → KeyField
key_of f = record { start = f.start; bytes = f.bytes; unique = f.seq == 1 }

key_here : (key : KeyField) (line : ℕ) (f : Field) (more : List Field) → IsAt key f → key_field (from_key key line f more) ≡ Some key
key_here key line f more at =
    let rest = raw_plain (line + lines_in (wrapped (field_statement (sequence_name key f.name) f))) more in
    ap (option_map key_of) (first_sequence key.unique line f rest)
    ∙ ap (λ (n : ℕ). Some (key_at n f.bytes (sequence key.unique == 1))) at.start
    ∙ ap (λ (n : ℕ). Some (key_at key.start n (sequence key.unique == 1))) at.bytes
    ∙ ap (λ (u : Bool). Some (key_at key.start key.bytes u)) (unique_back key.unique)

keyed_key : (key : KeyField) (line : ℕ) (fields : List Field) → list_any (is_key_field key) fields ≡ true → key_field (raw_keyed key line fields) ≡ Some key
keyed_key key line [] h = absurd (false≢true h)
keyed_key key line (f ∷ more) h =
    keyed (λ (fs : List RawField). key_field fs ≡ Some key) key line f more
    (λ here_at. key_here key line f more (is_at key f here_at))
    (λ away. keyed_key key (line + lines_in (plain_field f)) more (among_later key f more h away))

-- a sequence field stands among the fields
abbrev pub KeyIsField : Option KeyField → List Field → Bool
KeyIsField key fields = option_map_or (λ k. nat_le k.bytes 100 && list_any (is_key_field k) fields) key true

pub key_back : (key : Option KeyField) (line : ℕ) (fields : List Field) → KeyIsField key fields ≡ true → key_field (raw_fields key line fields) ≡ key
key_back None line fields h = ap (option_map key_of) (plain_none line fields)
key_back (Some key) line fields h = keyed_key key line fields (and_parts (nat_le key.bytes 100) (list_any (is_key_field key) fields) h).1

-- ---- at most one sequence field, and it may be one

plain_apart : (r : RawField) (line : ℕ) (fields : List Field) → list_any (both_sequence r) (raw_plain line fields) ≡ false
plain_apart r line [] = refl
plain_apart r line (f ∷ more) = or_from (is_sequence_field r && false) _ (and_right (is_sequence_field r) false refl) (plain_apart r (line + lines_in (plain_field f)) more)

none_apart : (line : ℕ) (f : Field) (fields : List RawField) → list_any (both_sequence (raw_field line 0 f)) fields ≡ false
none_apart line f [] = refl
none_apart line f (g ∷ fields) = none_apart line f fields

plain_differ : (line : ℕ) (fields : List Field) → all_differ both_sequence (raw_plain line fields) ≡ true
plain_differ line [] = refl
plain_differ line (f ∷ more) =
    let rest = raw_plain (line + lines_in (plain_field f)) more in
    and_from (not (list_any (both_sequence (raw_field line 0 f)) rest)) (all_differ both_sequence rest) (not_from_false (list_any (both_sequence (raw_field line 0 f)) rest) (none_apart line f rest)) (plain_differ (line + lines_in (plain_field f)) more)

keyed_differ : (key : KeyField) (line : ℕ) (fields : List Field) → all_differ both_sequence (raw_keyed key line fields) ≡ true
keyed_differ key line [] = refl
keyed_differ key line (f ∷ more) =
    let here = raw_field line (sequence key.unique) f in
    let behind = line + lines_in (wrapped (field_statement (sequence_name key f.name) f)) in
    let plain = raw_plain behind more in
    let first = raw_field line 0 f in
    let rest = raw_keyed key (line + lines_in (plain_field f)) more in
    keyed (λ (fs : List RawField). all_differ both_sequence fs ≡ true) key line f more
    (λ _. and_from (not (list_any (both_sequence here) plain)) (all_differ both_sequence plain) (not_from_false (list_any (both_sequence here) plain) (plain_apart here behind more)) (plain_differ behind more))
    (λ _. and_from (not (list_any (both_sequence first) rest)) (all_differ both_sequence rest) (not_from_false (list_any (both_sequence first) rest) (none_apart line f rest)) (keyed_differ key (line + lines_in (plain_field f)) more))

pub fields_differ : (key : Option KeyField) (line : ℕ) (fields : List Field) → all_differ both_sequence (raw_fields key line fields) ≡ true
fields_differ None line fields = plain_differ line fields
fields_differ (Some key) line fields = keyed_differ key line fields

-- what no field breaks that is no sequence field
abbrev pub is_bad : RawField → Bool
is_bad f = is_sequence_field f && (nat_lt 100 f.bytes || is_key_portion f.name)

plain_good : (line : ℕ) (fields : List Field) → list_all (λ f. not (is_bad f)) (raw_plain line fields) ≡ true
plain_good line [] = refl
plain_good line (f ∷ more) = plain_good (line + lines_in (plain_field f)) more

not_long : (a b : ℕ) → nat_le b 100 ≡ true → a ≡ b → nat_lt 100 a ≡ false
not_long a b h e =
    let le = leb-true b 100 h in
    le-ltb 100 a (omega (arith, le, e))

keyed_good : (key : KeyField) (line : ℕ) (fields : List Field) → nat_le key.bytes 100 ≡ true → list_all (λ f. not (is_bad f)) (raw_keyed key line fields) ≡ true
keyed_good key line [] short = refl
keyed_good key line (f ∷ more) short =
    let here = raw_field line (sequence key.unique) f in
    let behind = line + lines_in (wrapped (field_statement (sequence_name key f.name) f)) in
    keyed (λ (fs : List RawField). list_all (λ f. not (is_bad f)) fs ≡ true) key line f more
    (λ here_at. let at = is_at key f here_at in
    and_from (not (is_bad here)) (list_all (λ f. not (is_bad f)) (raw_plain behind more))
    (not_from_false (is_bad here) (and_right (is_sequence_field here) (nat_lt 100 f.bytes || is_key_portion f.name) (or_from (nat_lt 100 f.bytes) (is_key_portion f.name) (not_long f.bytes key.bytes short at.bytes) at.portion)))
    (plain_good behind more))
    (λ _. keyed_good key (line + lines_in (plain_field f)) more short)

pub fields_good : (key : Option KeyField) (line : ℕ) (fields : List Field) → KeyIsField key fields ≡ true → list_all (λ f. not (is_bad f)) (raw_fields key line fields) ≡ true
fields_good None line fields h = plain_good line fields
fields_good (Some key) line fields h = keyed_good key line fields (and_parts (nat_le key.bytes 100) (list_any (is_key_field key) fields) h).0

-- ---- a unique one: that of the root

plain_single : (line : ℕ) (fields : List Field) → list_all (λ f. not (nat_lt 1 f.seq)) (raw_plain line fields) ≡ true
plain_single line [] = refl
plain_single line (f ∷ more) = plain_single (line + lines_in (plain_field f)) more

pub keyed_single : (key : KeyField) (line : ℕ) (fields : List Field) → key.unique ≡ true → list_all (λ f. not (nat_lt 1 f.seq)) (raw_keyed key line fields) ≡ true
keyed_single key line [] u = refl
keyed_single key line (f ∷ more) u =
    let behind = line + lines_in (wrapped (field_statement (sequence_name key f.name) f)) in
    keyed (λ (fs : List RawField). list_all (λ f. not (nat_lt 1 f.seq)) fs ≡ true) key line f more
    (λ _. and_from (not (nat_lt 1 (sequence key.unique))) (list_all (λ f. not (nat_lt 1 f.seq)) (raw_plain behind more)) (ap (λ (b : Bool). not (nat_lt 1 (sequence b))) u) (plain_single behind more))
    (λ _. keyed_single key (line + lines_in (plain_field f)) more u)

is_sequence : (u : Bool) → nat_lt 0 (sequence u) ≡ true
is_sequence true = refl
is_sequence false = refl

pub keyed_any : (key : KeyField) (line : ℕ) (fields : List Field) → list_any (is_key_field key) fields ≡ true → list_any is_sequence_field (raw_keyed key line fields) ≡ true
keyed_any key line [] h = absurd (false≢true h)
keyed_any key line (f ∷ more) h =
    let behind = line + lines_in (wrapped (field_statement (sequence_name key f.name) f)) in
    keyed (λ (fs : List RawField). list_any is_sequence_field fs ≡ true) key line f more
    (λ _. or_left (nat_lt 0 (sequence key.unique)) (list_any is_sequence_field (raw_plain behind more)) (is_sequence key.unique))
    (λ away. keyed_any key (line + lines_in (plain_field f)) more (among_later key f more h away))
