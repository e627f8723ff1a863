-- What the canonical text says of types and indexes breaks no rule.
use Rattle.std.proofs.Common.{◌≡◌, ℕ, ◌+◌, ◌≤◌, ◌==◌, Bool, true, false, ◌&&◌, not, nat_lt, nat_le, cond, List, [], ◌∷◌, ◌++◌, length, map, Option, None, Some, slice_get, refl, sym, ap, arith, ◌∙◌}
use Rattle.std.specs.Prelude.{option_and_then, is_some, is_none}
use Rattle.std.specs.List.{list_all, list_any, flat_map, enumerate_from}
use Rattle.std.specs.Option.{option_map, option_map_or}
use Rattle.std.proofs.lemmas.Bool.{and_parts, false≢true, ltb-true, ne_eqb}
use Rattle.hal_schema.specs.declared.fault.Place.{Place}
use Rattle.hal_schema.specs.declared.raw.RawField.{RawField}
use Rattle.hal_schema.specs.declared.raw.RawType.{RawType}
use Rattle.hal_schema.specs.declared.schema.IndexDef.{IndexDef}
use Rattle.hal_schema.specs.declared.schema.KeyField.{KeyField}
use Rattle.hal_schema.specs.declared.schema.SegType.{SegType}
use Rattle.hal_schema.specs.Lawful.{parent_is_before, field_fits, is_key_field}
use Rattle.hal_schema.specs.Places.{statement, when, twice}
use Rattle.hal_schema.specs.Raw.{code_of, code_named, field_of, is_sequence_field}
use Rattle.hal_schema.specs.Rules.{is_unknown_parent, unknown_parents, misplaced_roots, sizes_in, sizes_broken, both_sequence, sequence_broken, root_key_broken, letters_unknown}
use Rattle.definition_printer.specs.Dbd.{name_of}
use Rattle.definition_text.specs.RawDbd.{behind_segm, raw_fields, raw_keyed, raw_type, raw_types}
use Rattle.definition_text.proofs.FieldsBack.{KeyIsField, fields_back, fields_differ, fields_good, is_bad, keyed_single, keyed_any}
use Rattle.definition_text.proofs.TypesBack.{NamesDiffer, before_next, has_key, line_behind, raws_code, code_back}
use Rattle.definition_text.proofs.IndexesBack.{AreKnown}
use Rattle.definition_text.proofs.NoPlaces.{both_none, never, never_not, none_fails, none_breaks, twice_none}

-- ---- raw types, one by one

pub raws_same : {X : Type 0} (F : RawType → X) (G : SegType → X) (types : List SegType) (indexes : List IndexDef) → ((line : ℕ) (t : SegType) → F (raw_type types line t) ≡ G t)
    → (code line : ℕ) (ts : List SegType) → map F (raw_types types indexes code line ts) ≡ map G ts
raws_same F G types indexes each code line [] = refl
raws_same {X = X} F G types indexes each code line (t ∷ more) =
    let behind = line_behind types indexes code line t in
    ap (λ (x : X). x ∷ map F (raw_types types indexes (code + 1) behind more)) (each line t) ∙ ap (λ (xs : List X). G t ∷ xs) (raws_same F G types indexes each (code + 1) behind more)

pub each_raw : (f : RawType → List Place) (p : SegType → Bool) (types : List SegType) (indexes : List IndexDef) → ((line : ℕ) (t : SegType) → p t ≡ true → f (raw_type types line t) ≡ [])
    → (code line : ℕ) (ts : List SegType) → list_all p ts ≡ true → flat_map f (raw_types types indexes code line ts) ≡ []
each_raw f p types indexes each code line [] h = refl
each_raw f p types indexes each code line (t ∷ more) h =
    let (here, later) = and_parts (p t) (list_all p more) h in
    let behind = line_behind types indexes code line t in
    both_none (f (raw_type types line t)) (flat_map f (raw_types types indexes (code + 1) behind more)) (each line t here) (each_raw f p types indexes each (code + 1) behind more later)

pub each_numbered : (f : ℕ × RawType → List Place) (p : ℕ × SegType → Bool) (types : List SegType) (indexes : List IndexDef) → ((code line : ℕ) (t : SegType) → code ≤ length types → p (code, t) ≡ true → f (code, raw_type types line t) ≡ [])
    → (code line : ℕ) (ts : List SegType) → code + length ts ≤ length types + 1 → list_all p (enumerate_from code ts) ≡ true → flat_map f (enumerate_from code (raw_types types indexes code line ts)) ≡ []
each_numbered f p types indexes each code line [] within h = refl
each_numbered f p types indexes each code line (t ∷ more) within h =
    let (here, later) = and_parts (p (code, t)) (list_all p (enumerate_from (code + 1) more)) h in
    let behind = line_behind types indexes code line t in
    both_none (f (code, raw_type types line t)) (flat_map f (enumerate_from (code + 1) (raw_types types indexes (code + 1) behind more))) (each code line t (omega (arith, within)) here)
    (each_numbered f p types indexes each (code + 1) behind more (omega (arith, within)) later)

-- ---- 1 and 2: parents

known_parent : (raws : List RawType) (types : List SegType) (code : ℕ) (parent : Option ℕ) → ((name : List ℕ) → code_of raws name ≡ code_named types name) → NamesDiffer types → code ≤ length types → parent_is_before code parent ≡ true
    → is_unknown_parent raws code (option_map (name_of types) parent) ≡ false
known_parent raws types code None called d within h = refl
known_parent raws types code (Some p) called d within h =
    let (some, lower) = and_parts (nat_lt 0 p) (nat_lt p code) h in
    let low = ltb-true 0 p some in
    let high = ltb-true p code lower in
    let is : code_of raws (name_of types p) ≡ Some p = called (name_of types p) ∙ code_back types p d low (omega (arith, high, within)) in
    ap (λ (o : Option ℕ). not (option_map_or (λ (known : ℕ). nat_lt known code) o false)) is ∙ ap not lower

pub parents_known : (types : List SegType) (indexes : List IndexDef) (line : ℕ) → AreKnown types → unknown_parents (raw_types types indexes 1 line types) ≡ []
parents_known types indexes line known =
    let raws = raw_types types indexes 1 line types in
    each_numbered (λ (t : ℕ × RawType). when (is_unknown_parent raws t.0 t.1.parent) (statement t.1.line)) before_next types indexes
    (λ code at t within h. never (is_unknown_parent raws code (option_map (name_of types) t.parent)) (statement at) (known_parent raws types code t.parent (raws_code types indexes 1 line types) known.differ within h))
    1 line types (omega arith) known.before

placed_root : (types : List SegType) (code : ℕ) (parent : Option ℕ) → parent_is_before code parent ≡ true
    → cond (code == 1) (is_some (option_map (name_of types) parent)) (is_none (option_map (name_of types) parent)) ≡ false
placed_root types code None h = ap (λ (b : Bool). cond b false true) h
placed_root types code (Some p) h =
    let (some, lower) = and_parts (nat_lt 0 p) (nat_lt p code) h in
    let low = ltb-true 0 p some in
    let high = ltb-true p code lower in
    ap (λ (b : Bool). cond b true false) (ne_eqb code 1 (λ e. omega (arith, low, high, e)))

pub roots_placed : (types : List SegType) (indexes : List IndexDef) (line : ℕ) → AreKnown types → misplaced_roots (raw_types types indexes 1 line types) ≡ []
roots_placed types indexes line known =
    each_numbered (λ (t : ℕ × RawType). when (cond (t.0 == 1) (is_some t.1.parent) (is_none t.1.parent)) (statement t.1.line)) before_next types indexes
    (λ code at t within h. never (cond (code == 1) (is_some (option_map (name_of types) t.parent)) (is_none (option_map (name_of types) t.parent))) (statement at) (placed_root types code t.parent h))
    1 line types (omega arith) known.before

-- ---- 5 to 8: sizes, sequence fields and data set groups

fits : SegType → Bool
fits t = nat_le 1 t.bytes && nat_le t.bytes 2000 && list_all (field_fits t.bytes) t.fields

pub all_map : {X Y : Type 0} (p : Y → Bool) (f : X → Y) (xs : List X) → list_all p (map f xs) ≡ list_all (λ (x : X). p (f x)) xs
all_map p f [] = refl
all_map p f (x ∷ xs) = ap (λ (b : Bool). p (f x) && b) (all_map p f xs)

size_kept : (types : List SegType) (line : ℕ) (t : SegType) → fits t ≡ true → sizes_in (raw_type types line t) ≡ []
unfolding fits
size_kept types line t h =
    let bytes = nat_le 1 t.bytes && nat_le t.bytes 2000 in
    let raws = raw_fields t.key (behind_segm types line t) t.fields in
    let (here, fields) = and_parts bytes (list_all (field_fits t.bytes) t.fields) h in
    let each : list_all (λ (f : RawField). field_fits t.bytes (field_of f)) raws ≡ true =
    sym (all_map (field_fits t.bytes) field_of raws) ∙ ap (list_all (field_fits t.bytes)) (fields_back t.key (behind_segm types line t) t.fields) ∙ fields in
    both_none (when (not bytes) (statement line)) (flat_map (λ (f : RawField). when (not (field_fits t.bytes (field_of f))) (statement f.line)) raws) (never_not bytes (statement line) here)
    (none_fails (λ (f : RawField). field_fits t.bytes (field_of f)) (λ (f : RawField). statement f.line) raws each)

pub sizes_kept : (types : List SegType) (indexes : List IndexDef) (line : ℕ) → list_all (λ (t : SegType). nat_le 1 t.bytes && nat_le t.bytes 2000 && list_all (field_fits t.bytes) t.fields) types ≡ true → sizes_broken (raw_types types indexes 1 line types) ≡ []
unfolding fits
sizes_kept types indexes line h = each_raw sizes_in fits types indexes (size_kept types) 1 line types h

sequence_kept : (types : List SegType) (line : ℕ) (t : SegType) → has_key t ≡ true
    → twice both_sequence (λ (f : RawField). statement f.line) (raw_fields t.key (behind_segm types line t) t.fields) ++ flat_map (λ (f : RawField). when (is_bad f) (statement f.line)) (raw_fields t.key (behind_segm types line t) t.fields) ≡ []
sequence_kept types line t h =
    let raws = raw_fields t.key (behind_segm types line t) t.fields in
    both_none (twice both_sequence (λ (f : RawField). statement f.line) raws) (flat_map (λ (f : RawField). when (is_bad f) (statement f.line)) raws)
    (twice_none both_sequence (λ (f : RawField). statement f.line) raws (fields_differ t.key (behind_segm types line t) t.fields))
    (none_breaks is_bad (λ (f : RawField). statement f.line) raws (fields_good t.key (behind_segm types line t) t.fields h))

pub sequences_kept : (types : List SegType) (indexes : List IndexDef) (line : ℕ) → list_all has_key types ≡ true → sequence_broken (raw_types types indexes 1 line types) ≡ []
sequences_kept types indexes line h =
    each_raw (λ (t : RawType). twice both_sequence (λ (f : RawField). statement f.line) t.fields ++ flat_map (λ (f : RawField). when (is_bad f) (statement f.line)) t.fields) has_key types indexes (sequence_kept types) 1 line types h

root_keyed : (types : List SegType) (line : ℕ) (t : SegType) (o : Option KeyField) → t.key ≡ o → has_key t ≡ true → option_map_or (λ (k : KeyField). k.unique) o false ≡ true → root_key_broken (Some (raw_type types line t)) ≡ []
root_keyed types line t None e h u = absurd (false≢true u)
root_keyed types line t (Some k) e h u =
    let behind = behind_segm types line t in
    let raws = raw_fields t.key behind t.fields in
    let same : raws ≡ raw_keyed k behind t.fields = ap (λ (o : Option KeyField). raw_fields o behind t.fields) e in
    let told : KeyIsField (Some k) t.fields ≡ true = ap (λ (o : Option KeyField). KeyIsField o t.fields) (sym e) ∙ h in
    let among = (and_parts (nat_le k.bytes 100) (list_any (is_key_field k) t.fields) told).1 in
    both_none (when (not (list_any is_sequence_field raws)) (statement line)) (flat_map (λ (f : RawField). when (nat_lt 1 f.seq) (statement f.line)) raws)
    (never_not (list_any is_sequence_field raws) (statement line) (ap (list_any is_sequence_field) same ∙ keyed_any k behind t.fields among))
    (none_breaks (λ (f : RawField). nat_lt 1 f.seq) (λ (f : RawField). statement f.line) raws (ap (list_all (λ (f : RawField). not (nat_lt 1 f.seq))) same ∙ keyed_single k behind t.fields u))

pub root_kept : (types : List SegType) (indexes : List IndexDef) (line : ℕ) (ts : List SegType) → list_all has_key ts ≡ true → option_map_or (λ (k : KeyField). k.unique) (option_and_then (λ (t : SegType). t.key) (slice_get ts 0)) false ≡ true
    → root_key_broken (slice_get (raw_types types indexes 1 line ts) 0) ≡ []
root_kept types indexes line [] keys u = refl
root_kept types indexes line (t ∷ more) keys u = root_keyed types line t t.key refl (and_parts (has_key t) (list_all has_key more) keys).0 u

pub letters_kept : (types : List SegType) (indexes : List IndexDef) (line : ℕ) → list_all (λ (t : SegType). nat_le 65 t.letter && nat_le t.letter 74) types ≡ true → letters_unknown (raw_types types indexes 1 line types) ≡ []
letters_kept types indexes line h =
    each_raw (λ (t : RawType). when (not (nat_le 65 t.letter && nat_le t.letter 74)) (statement t.line)) (λ (t : SegType). nat_le 65 t.letter && nat_le t.letter 74) types indexes
    (λ at t k. never_not (nat_le 65 t.letter && nat_le t.letter 74) (statement at) k) 1 line types h
