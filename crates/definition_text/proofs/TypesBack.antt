-- The types that the canonical text says are those of the schema.
use Rattle.std.proofs.Common.{◌≡◌, ℕ, zero, suc, ◌+◌, ◌≤◌, ◌<◌, Bool, true, false, not, nat_lt, cond, List, [], ◌∷◌, length, map, Option, None, Some, slice_get, get_or, ⊎_elim, refl, sym, ap, arith, ◌∙◌}
use Rattle.std.specs.Prelude.{option_and_then}
use Rattle.std.specs.List.{list_all, list_any, prefix_len, enumerate_from}
use Rattle.std.specs.Option.{option_map, option_map_or}
use Rattle.std.specs.Str.{bytes_eq}
use Rattle.std.proofs.lemmas.Bool.{and_parts, or_parts, not-true, ltb-true, lt-ltb}
use Rattle.std.proofs.lemmas.Option.{none-some, same_Some, slice_get_within, slice_get_cases}
use Rattle.std.proofs.lemmas.Slice.Eq.{bytes_eq-Decides}
use Rattle.hal_schema.specs.declared.raw.RawType.{RawType}
use Rattle.hal_schema.specs.declared.schema.Field.{Field}
use Rattle.hal_schema.specs.declared.schema.IndexDef.{IndexDef}
use Rattle.hal_schema.specs.declared.schema.KeyField.{KeyField}
use Rattle.hal_schema.specs.declared.schema.SegType.{SegType}
use Rattle.hal_schema.specs.Lawful.{all_differ, parent_is_before}
use Rattle.hal_schema.specs.Raw.{code_of, code_named, field_of, key_field, seg_type, types_of}
use Rattle.definition_printer.specs.Dbd.{name_of, type_text}
use Rattle.definition_text.specs.RawDbd.{lines_in, behind_segm, raw_fields, raw_type, raw_types}
use Rattle.definition_text.proofs.FieldsBack.{KeyIsField, fields_back, key_back}

-- where the next type stands
abbrev pub line_behind : List SegType → List IndexDef → ℕ → ℕ → SegType → ℕ
line_behind types indexes code line t = line + lines_in (type_text types indexes code t)

pub raws_length : (types : List SegType) (indexes : List IndexDef) (code line : ℕ) (ts : List SegType) → length (raw_types types indexes code line ts) ≡ length ts
raws_length types indexes code line [] = refl
raws_length types indexes code line (t ∷ more) = ap suc (raws_length types indexes (code + 1) (line_behind types indexes code line t) more)

-- ---- codes by name

raws_prefix : (p : List ℕ → Bool) (types : List SegType) (indexes : List IndexDef) (code line : ℕ) (ts : List SegType)
    → prefix_len (λ (r : RawType). p r.name) (raw_types types indexes code line ts) ≡ prefix_len (λ (t : SegType). p t.name) ts
raws_prefix p types indexes code line [] = refl
raws_prefix p types indexes code line (t ∷ more) = ap (λ (n : ℕ). cond (p t.name) (1 + n) 0) (raws_prefix p types indexes (code + 1) (line_behind types indexes code line t) more)

abbrev code_at : ℕ → ℕ → Option ℕ
code_at place count = option_map (λ (place : ℕ). place + 1) (cond (nat_lt place count) (Some place) None)

pub raws_code : (types : List SegType) (indexes : List IndexDef) (code line : ℕ) (ts : List SegType) (name : List ℕ) → code_of (raw_types types indexes code line ts) name ≡ code_named ts name
raws_code types indexes code line ts name =
    let raws = raw_types types indexes code line ts in
    ap (λ (n : ℕ). code_at n (length raws)) (raws_prefix (λ (other : List ℕ). not (bytes_eq other name)) types indexes code line ts)
    ∙ ap (code_at (prefix_len (λ (t : SegType). not (bytes_eq t.name name)) ts)) (raws_length types indexes code line ts)

apart_at : (name : List ℕ) (types : List SegType) (k : ℕ) (t : SegType) → list_any (bytes_eq name) (map (λ (t : SegType). t.name) types) ≡ false → slice_get types k ≡ Some t → bytes_eq name t.name ≡ false
apart_at name [] k t h e = absurd (none-some t e)
apart_at name (u ∷ us) zero t h e =
    let p = or_parts (bytes_eq name u.name) (list_any (bytes_eq name) (map (λ (t : SegType). t.name) us)) h in
    ap (λ (v : SegType). bytes_eq name v.name) (sym (same_Some u t e)) ∙ p.0
apart_at name (u ∷ us) (suc k) t h e =
    let p = or_parts (bytes_eq name u.name) (list_any (bytes_eq name) (map (λ (t : SegType). t.name) us)) h in
    apart_at name us k t p.1 e

abbrev pub NamesDiffer : List SegType → Type 0
NamesDiffer types = all_differ bytes_eq (map (λ (t : SegType). t.name) types) ≡ true

place_found : (types : List SegType) (k : ℕ) (t : SegType) → NamesDiffer types → slice_get types k ≡ Some t → prefix_len (λ (u : SegType). not (bytes_eq u.name t.name)) types ≡ k
place_found [] k t d e = absurd (none-some t e)
place_found (u ∷ us) zero t d e =
    let same : bytes_eq u.name t.name ≡ true = ap (λ (v : SegType). bytes_eq v.name t.name) (same_Some u t e) ∙ (bytes_eq-Decides t.name t.name).1 refl in
    ap (λ (b : Bool). cond (not b) (1 + prefix_len (λ (u : SegType). not (bytes_eq u.name t.name)) us) 0) same
place_found (u ∷ us) (suc k) t d e =
    let p = and_parts (not (list_any (bytes_eq u.name) (map (λ (t : SegType). t.name) us))) (all_differ bytes_eq (map (λ (t : SegType). t.name) us)) d in
    let away = apart_at u.name us k t (not-true (list_any (bytes_eq u.name) (map (λ (t : SegType). t.name) us)) p.0) e in
    ap (λ (b : Bool). cond (not b) (1 + prefix_len (λ (u : SegType). not (bytes_eq u.name t.name)) us) 0) away ∙ (let rest = place_found us k t p.1 e in omega (arith, rest))

-- a type is found by its name
pub named_back : (types : List SegType) (k : ℕ) (t : SegType) → NamesDiffer types → slice_get types k ≡ Some t → code_named types t.name ≡ Some (k + 1)
named_back types k t d e =
    let within = slice_get_within types k t e in
    ap (λ (n : ℕ). code_at n (length types)) (place_found types k t d e) ∙ ap (λ (b : Bool). option_map (λ (place : ℕ). place + 1) (cond b (Some k) None)) (lt-ltb k (length types) within)

-- the code of a type's name
pub code_back : (types : List SegType) (code : ℕ) → NamesDiffer types → 0 < code → code ≤ length types → code_named types (name_of types code) ≡ Some code
code_back types zero d some within = absurd (omega (arith, some))
code_back types (suc k) d some within = ⊎_elim found past (slice_get_cases types k).1
  where
    found : ((t : SegType) × (k < length types) × (slice_get types k ≡ Some t) × (get_or types k t ≡ t)) → code_named types (name_of types (suc k)) ≡ Some (suc k)
    found (t, lt, e, _) =
        let next : k + 1 ≡ suc k = omega arith in
        ap (λ (o : Option SegType). code_named types (option_map_or (λ (t : SegType). t.name) o [])) e ∙ named_back types k t d e ∙ ap (λ (n : ℕ). Some n) next

    past : ((length types ≤ k) × (slice_get types k ≡ None)) → code_named types (name_of types (suc k)) ≡ Some (suc k)
    past (le, _) = absurd (omega (arith, le, within))

-- ---- the types

abbrev pub before_next : ℕ × SegType → Bool
before_next t = parent_is_before t.0 t.1.parent

abbrev pub has_key : SegType → Bool
has_key t = KeyIsField t.key t.fields

-- the raw types name their types
abbrev pub Name : List RawType → List SegType → Type 0
Name raws types = (name : List ℕ) → code_of raws name ≡ code_named types name

parent_back : (raws : List RawType) (types : List SegType) (code : ℕ) (parent : Option ℕ) → Name raws types → NamesDiffer types → code ≤ length types → parent_is_before code parent ≡ true
    → option_and_then (code_of raws) (option_map (name_of types) parent) ≡ parent
parent_back raws types code None names d within h = refl
parent_back raws types code (Some p) names d within h =
    let (some, lower) = and_parts (nat_lt 0 p) (nat_lt p code) h in
    let low = ltb-true 0 p some in
    let high = ltb-true p code lower in
    names (name_of types p) ∙ code_back types p d low (omega (arith, high, within))

abbrev type_at : SegType → Option ℕ → Option KeyField → List Field → SegType
type_at t parent key fields = record { name = t.name; parent = parent; bytes = t.bytes; key = key; first = t.first; letter = t.letter; fields = fields }

type_back : (raws : List RawType) (types : List SegType) (code line : ℕ) (t : SegType) → Name raws types → NamesDiffer types → code ≤ length types → parent_is_before code t.parent ≡ true → has_key t ≡ true
    → seg_type raws (raw_type types line t) ≡ t
type_back raws types code line t names d within before key =
    let behind = behind_segm types line t in
    let fields = map field_of (raw_fields t.key behind t.fields) in
    ap (λ (p : Option ℕ). type_at t p (key_field (raw_fields t.key behind t.fields)) fields) (parent_back raws types code t.parent names d within before)
    ∙ ap (λ (k : Option KeyField). type_at t t.parent k fields) (key_back t.key behind t.fields key)
    ∙ ap (λ (fs : List Field). type_at t t.parent t.key fs) (fields_back t.key behind t.fields)

from_code : (raws : List RawType) (types : List SegType) (indexes : List IndexDef) (code line : ℕ) (ts : List SegType) → Name raws types → NamesDiffer types → code + length ts ≤ length types + 1
    → list_all before_next (enumerate_from code ts) ≡ true → list_all has_key ts ≡ true → map (seg_type raws) (raw_types types indexes code line ts) ≡ ts
from_code raws types indexes code line [] names d within before keys = refl
from_code raws types indexes code line (t ∷ more) names d within before keys =
    let (first, later) = and_parts (before_next (code, t)) (list_all before_next (enumerate_from (code + 1) more)) before in
    let (key, others) = and_parts (has_key t) (list_all has_key more) keys in
    let behind = line_behind types indexes code line t in
    let one = type_back raws types code line t names d (omega (arith, within)) first key in
    ap (λ (u : SegType). u ∷ map (seg_type raws) (raw_types types indexes (code + 1) behind more)) one
    ∙ ap (λ (us : List SegType). t ∷ us) (from_code raws types indexes (code + 1) behind more names d (omega (arith, within)) later others)

pub types_back : (types : List SegType) (indexes : List IndexDef) (line : ℕ) → NamesDiffer types → list_all before_next (enumerate_from 1 types) ≡ true → list_all has_key types ≡ true
    → types_of (raw_types types indexes 1 line types) ≡ types
types_back types indexes line d before keys =
    from_code (raw_types types indexes 1 line types) types indexes 1 line types (raws_code types indexes 1 line types) d (omega arith) before keys
