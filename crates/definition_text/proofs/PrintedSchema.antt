-- What a schema keeps, and plain names, make it printable.
use Rattle.std.proofs.Common.{◌≡◌, ℕ, zero, suc, ◌+◌, ◌<◌, ◌≤◌, ◌^◌, Bool, true, false, ◌&&◌, ◌==◌, not, nat_lt, nat_le, List, [], ◌∷◌, length, Option, Some, None, refl, ap, ◌∙◌, arith, ◌⊎◌, inl, inr}
use Rattle.std.proofs.lemmas.Bool.{and_parts, and_from, or_cases, ltb-true, leb-true, eqb-true}
use Rattle.std.proofs.lemmas.Bool.Decides.{nat_tests}
use Rattle.std.proofs.lemmas.Slice.Eq.{bytes_eq-Decides}
use Rattle.std.specs.List.{list_all, list_any, slice_get, enumerate_from, AllByRecursion}
use Rattle.std.specs.Option.{option_map_or}
use Rattle.std.specs.Str.{bytes_eq}
use Rattle.hal_base.specs.Name.{is_name, is_field_name}
use Rattle.hal_schema.specs.declared.schema.Field.{Field}
use Rattle.hal_schema.specs.declared.schema.SegType.{SegType}
use Rattle.hal_schema.specs.declared.schema.IndexDef.{IndexDef}
use Rattle.hal_schema.specs.declared.schema.PartDef.{PartDef}
use Rattle.hal_schema.specs.declared.schema.Schema.{Schema}
use Rattle.hal_schema.specs.SegType.{type_of, path_key_bytes}
use Rattle.hal_schema.specs.Lawful.{parent_is_before, is_key_portion, is_within, field_fits, same_field, fields_are_kept, index_is_kept, counts_are_kept}
use Rattle.definition_printer.specs.Dbd.{name_of}
use Rattle.hal_schema.specs.Lawful.{type_is_named, index_is_named, module_is_kept}
use Rattle.definition_text.proofs.Plain.{IsPlain}
use Rattle.definition_text.proofs.Printed.{is_inner, is_short}
use Rattle.definition_text.proofs.TypeStatements.{IsSmall, IsParent}
use Rattle.definition_text.proofs.FieldsRead.{IsPrintedField}
use Rattle.definition_text.proofs.IndexStatements.{names_of, IsPrintedIndex}
use Rattle.definition_text.proofs.DatabaseStatement.{IsModule}
use Rattle.definition_text.proofs.TextRead.{IsPrintedType, IsPrintedSchema}

pub module_of : (phdam : Bool) (rm : Option (List ℕ)) (anch rbn : ℕ) → module_is_kept phdam rm anch rbn ≡ true → option_map_or is_name rm true ≡ true → anch < 2 ^ 32 → rbn < 2 ^ 32 → IsModule phdam rm anch rbn
module_of phdam None anch rbn kept name a r =
    let (one, block) = and_parts (anch == 1) (rbn == 1) kept in
    (eqb-true anch 1 one, eqb-true rbn 1 block)
module_of phdam (Some rm) anch rbn kept name a r = (kept, name, a, r)

-- ---- the type of a code

-- a type of this code, whose names are plain
record HasType (types : List SegType) (code : ℕ) : Type 0 where
  t : SegType
  is : type_of types code ≡ Some t
  named : type_is_named t ≡ true

has_place : (types : List SegType) (place : ℕ) → list_all type_is_named types ≡ true → place < length types → HasType types (suc place)
has_place [] place named within = absurd (omega arith)
has_place (t ∷ types) zero named within = record { t = t; is = refl; named = (and_parts (type_is_named t) (list_all type_is_named types) named).0 }
has_place (t ∷ types) (suc place) named within =
    let h = has_place types place (and_parts (type_is_named t) (list_all type_is_named types) named).1 (omega arith) in
    record { t = h.t; is = h.is; named = h.named }

has_type : (types : List SegType) (code : ℕ) → list_all type_is_named types ≡ true → 0 < code → code ≤ length types → HasType types code
has_type types zero named some within = absurd (omega arith)
has_type types (suc place) named some within = has_place types place named (omega arith)

type_name : (types : List SegType) (code : ℕ) → HasType types code → is_name (name_of types code) ≡ true
type_name types code h = rw h.is (and_parts (is_name h.t.name) (list_all (λ f. is_field_name f.name) h.t.fields) h.named).0

-- a code at which a test of its type holds
tested_by : (test : SegType → Bool) (types : List SegType) (place : ℕ) → option_map_or test (slice_get types place) false ≡ true → place < length types
tested_by test [] place h = absurd (let no : false ≡ true = h in cc)
tested_by test (t ∷ types) zero h = omega arith
tested_by test (t ∷ types) (suc place) h = let more = tested_by test types place h in omega (arith, more)

tested : (test : SegType → Bool) (types : List SegType) (code : ℕ) → list_all type_is_named types ≡ true → option_map_or test (type_of types code) false ≡ true → HasType types code
tested test types zero named h = absurd (let no : false ≡ true = h in cc)
tested test types (suc place) named h = has_place types place named (tested_by test types place h)

-- ---- types

parent_printed : (types : List SegType) (code : ℕ) (parent : Option ℕ) → list_all type_is_named types ≡ true → code ≤ length types → parent_is_before code parent ≡ true → IsParent types parent
parent_printed types code None named within h = tt
parent_printed types code (Some parent) named within h =
    let (some, before) = and_parts (nat_lt 0 parent) (nat_lt parent code) h in
    let above = ltb-true 0 parent some in
    let below = ltb-true parent code before in
    type_name types parent (has_type types parent named above (omega (arith, below)))

letter_short : (letter : ℕ) → (nat_le 65 letter && nat_le letter 74) ≡ true → is_short (letter ∷ []) ≡ true
letter_short letter h = let inner : is_inner letter ≡ true = grind (arith, nat_tests) in rw inner refl

field_small : (portion : Bool) (all : ℕ) (f : Field) → is_key_portion f.name ≡ portion → all ≤ 2000 → field_fits all f ≡ true → IsSmall f
field_small true all f e few h =
    let kept : (nat_le f.start 65535 && nat_le f.bytes 65535) ≡ true = rw e at h in
    let (start, bytes) = and_parts (nat_le f.start 65535) (nat_le f.bytes 65535) kept in
    let a = leb-true f.start 65535 start in
    let b = leb-true f.bytes 65535 bytes in
    record { bytes = omega (arith, b); start = omega (arith, a) }
field_small false all f e few h =
    let kept : is_within all f.start f.bytes ≡ true = rw e at h in
    let a = leb-true (f.start + f.bytes) (all + 1) (and_parts (nat_le 1 f.start && nat_le 1 f.bytes) (nat_le (f.start + f.bytes) (all + 1)) kept).1 in
    record { bytes = omega (arith, a); start = omega (arith, a) }

fields_printed : (all : ℕ) (fields : List Field) → all ≤ 2000 → list_all (λ f. is_field_name f.name) fields ≡ true → list_all (field_fits all) fields ≡ true → AllByRecursion IsPrintedField fields
fields_printed all [] few names fit = tt
fields_printed all (f ∷ fields) few names fit =
    let (name, names_later) = and_parts (is_field_name f.name) (list_all (λ f. is_field_name f.name) fields) names in
    let (fits, fit_later) = and_parts (field_fits all f) (list_all (field_fits all) fields) fit in
    (record { name = name; small = field_small (is_key_portion f.name) all f refl few fits }, fields_printed all fields few names_later fit_later)

abbrev type_fits : SegType → Bool
type_fits t = nat_le 1 t.bytes && nat_le t.bytes 2000 && list_all (field_fits t.bytes) t.fields

abbrev is_lettered : SegType → Bool
is_lettered t = nat_le 65 t.letter && nat_le t.letter 74

abbrev is_placed : ℕ × SegType → Bool
is_placed t = parent_is_before t.0 t.1.parent

type_printed : (types : List SegType) (code : ℕ) (t : SegType) → list_all type_is_named types ≡ true → code ≤ length types → type_is_named t ≡ true → parent_is_before code t.parent ≡ true → type_fits t ≡ true → is_lettered t ≡ true → IsPrintedType types t
type_printed types code t all within named placed fits lettered =
    let (name, names) = and_parts (is_name t.name) (list_all (λ f. is_field_name f.name) t.fields) named in
    let (sizes, fields) = and_parts (nat_le 1 t.bytes && nat_le t.bytes 2000) (list_all (field_fits t.bytes) t.fields) fits in
    let few = leb-true t.bytes 2000 (and_parts (nat_le 1 t.bytes) (nat_le t.bytes 2000) sizes).1 in
    record {
      segment = record { name = name; parent = parent_printed types code t.parent all within placed; bytes = omega (arith, few); letter = letter_short t.letter lettered };
      fields = fields_printed t.bytes t.fields few names fields;
    }

types_printed : (types ts : List SegType) (code : ℕ) → list_all type_is_named types ≡ true → code + length ts ≤ suc (length types) → list_all type_is_named ts ≡ true → list_all is_placed (enumerate_from code ts) ≡ true → list_all type_fits ts ≡ true
    → list_all is_lettered ts ≡ true → AllByRecursion (IsPrintedType types) ts
types_printed types [] code all within named placed fits lettered = tt
types_printed types (t ∷ ts) code all within named placed fits lettered =
    let (named_here, named_later) = and_parts (type_is_named t) (list_all type_is_named ts) named in
    let (placed_here, placed_later) = and_parts (parent_is_before code t.parent) (list_all is_placed (enumerate_from (code + 1) ts)) placed in
    let (fits_here, fits_later) = and_parts (type_fits t) (list_all type_fits ts) fits in
    let (lettered_here, lettered_later) = and_parts (is_lettered t) (list_all is_lettered ts) lettered in
    (type_printed types code t all (omega arith) named_here placed_here fits_here lettered_here, types_printed types ts (code + 1) all (omega arith) named_later placed_later fits_later lettered_later)

-- ---- indexes

same_name : (a b : List ℕ) → bytes_eq a b ≡ true → a ≡ b
same_name a b h = (bytes_eq-Decides a b).0 h

like_field : (f : Field) (fields : List Field) → list_all (λ f. is_field_name f.name) fields ≡ true → list_any (same_field f) fields ≡ true → is_field_name f.name ≡ true
like_field f [] names h = absurd (let no : false ≡ true = h in cc)
like_field f (g ∷ fields) names h =
    let (name, later) = and_parts (is_field_name g.name) (list_all (λ f. is_field_name f.name) fields) names in
    by (or_cases (same_field f g) (list_any (same_field f) fields) h) name (like_field f fields later)
  where
    by : (same_field f g ≡ true) ⊎ (list_any (same_field f) fields ≡ true) → is_field_name g.name ≡ true → (list_any (same_field f) fields ≡ true → is_field_name f.name ≡ true) → is_field_name f.name ≡ true
    by (inl same) name rest =
        let (front, _) = and_parts (bytes_eq f.name g.name && f.start == g.start) (f.bytes == g.bytes) same in
        ap is_field_name (same_name f.name g.name (and_parts (bytes_eq f.name g.name) (f.start == g.start) front).0) ∙ name
    by (inr more) name rest = rest more

abbrev is_searched : SegType → Field → Bool
is_searched t f = not (is_key_portion f.name) && list_any (same_field f) t.fields

abbrev is_portion : ℕ → SegType → Field → Bool
is_portion all t f = is_key_portion f.name && list_any (same_field f) t.fields && is_within all f.start f.bytes

search_names : (t : SegType) (fields : List Field) → list_all (λ f. is_field_name f.name) t.fields ≡ true → list_all (is_searched t) fields ≡ true → list_all is_field_name (names_of fields) ≡ true
search_names t [] names h = refl
search_names t (f ∷ fields) names h =
    let (here, later) = and_parts (is_searched t f) (list_all (is_searched t) fields) h in
    and_from (is_field_name f.name) (list_all is_field_name (names_of fields)) (like_field f t.fields names (and_parts (not (is_key_portion f.name)) (list_any (same_field f) t.fields) here).1) (search_names t fields names later)

portion_names : (all : ℕ) (t : SegType) (fields : List Field) → list_all (λ f. is_field_name f.name) t.fields ≡ true → list_all (is_portion all t) fields ≡ true → list_all is_field_name (names_of fields) ≡ true
portion_names all t [] names h = refl
portion_names all t (f ∷ fields) names h =
    let (here, later) = and_parts (is_portion all t f) (list_all (is_portion all t) fields) h in
    let (front, _) = and_parts (is_key_portion f.name && list_any (same_field f) t.fields) (is_within all f.start f.bytes) here in
    and_from (is_field_name f.name) (list_all is_field_name (names_of fields)) (like_field f t.fields names (and_parts (is_key_portion f.name) (list_any (same_field f) t.fields) front).1) (portion_names all t fields names later)

names_count : (fields : List Field) → length (names_of fields) ≡ length fields
names_count [] = refl
names_count (f ∷ fields) = ap suc (names_count fields)

index_printed : (types : List SegType) (i : IndexDef) → list_all type_is_named types ≡ true → index_is_named i ≡ true → index_is_kept types i ≡ true → IsPrintedIndex types i
index_printed types i all named kept =
    let (child, xdfld) = and_parts (is_name i.seg && is_name i.name) (is_name i.xdfld) named in
    let (seg, name) = and_parts (is_name i.seg) (is_name i.name) child in
    let (front, _) = and_parts _ _ kept in
    let (counts, source) = and_parts _ (option_map_or (fields_are_kept types i) (type_of types i.source) false) front in
    let (counts_front, few) = and_parts _ (nat_le (length i.search) 5) counts in
    let (_, some) = and_parts _ (nat_le 1 (length i.search)) counts_front in
    let h : HasType types i.source = tested (fields_are_kept types i) types i.source all source in
    let fields : fields_are_kept types i h.t ≡ true = rw h.is at source in
    let (search, subseq) = and_parts (list_all (is_searched h.t) i.search) (list_all (is_portion (path_key_bytes types i.source) h.t) i.subseq) fields in
    let (_, names) = and_parts (is_name h.t.name) (list_all (λ f. is_field_name f.name) h.t.fields) h.named in
    let least = leb-true 1 (length i.search) some in
    let most = leb-true (length i.search) 5 few in
    let count = names_count i.search in
    record {
      child = record { seg = seg; name = name };
      indexed = record { named = xdfld; known = type_name types i.source h; some = omega (arith, least); few = omega (arith, count, most); searched = search_names h.t i.search names search; portions = portion_names (path_key_bytes types i.source) h.t i.subseq names subseq };
    }

indexes_printed : (types : List SegType) (is : List IndexDef) → list_all type_is_named types ≡ true → list_all index_is_named is ≡ true → list_all (index_is_kept types) is ≡ true → AllByRecursion (IsPrintedIndex types) is
indexes_printed types [] all named kept = tt
indexes_printed types (i ∷ is) all named kept =
    let (named_here, named_later) = and_parts (index_is_named i) (list_all index_is_named is) named in
    let (kept_here, kept_later) = and_parts (index_is_kept types i) (list_all (index_is_kept types) is) kept in
    (index_printed types i all named_here kept_here, indexes_printed types is all named_later kept_later)

-- ---- the schema

some_types : (types : List SegType) (indexes : List IndexDef) (parts : List PartDef) → counts_are_kept types indexes parts ≡ true → 0 < length types
some_types types indexes parts h =
    let a = and_parts _ (nat_le (length parts) 100) h in
    let b = and_parts _ (nat_le 1 (length parts)) a.0 in
    let c = and_parts _ (nat_le (length indexes) 16) b.0 in
    let d = and_parts _ (list_all (λ t. nat_le (length t.fields) 255) types) c.0 in
    let e = and_parts (nat_le 1 (length types) && nat_le (length types) 255) _ d.0 in
    let least = leb-true 1 (length types) (and_parts (nat_le 1 (length types)) (nat_le (length types) 255) e.0).0 in
    omega (arith, least)

pub schema_printed : (s : Schema) → IsPlain s → s.anch < 2 ^ 32 → s.rbn < 2 ^ 32 → IsPrintedSchema s
schema_printed s plain anch rbn =
    let (kept, _) = and_parts (list_all (index_is_kept s.types) s.indexes) _ s.kept_indexes in
    record {
      name = plain.name;
      module_kept = module_of s.phdam s.rm s.anch s.rbn plain.module_kept plain.rm anch rbn;
      some = some_types s.types s.indexes s.parts s.counts;
      types = types_printed s.types s.types 1 plain.types (omega arith) plain.types s.parents s.fields s.letters;
      indexes = indexes_printed s.types s.indexes plain.types plain.indexes kept;
    }
