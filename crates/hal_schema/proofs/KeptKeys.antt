-- The keys and names of a raw definition that keeps the rules.
use Rattle.std.proofs.Common.{◌≡◌, ℕ, ◌<◌, Bool, true, false, ◌&&◌, ◌||◌, not, cond, ◌==◌, nat_lt, nat_le, IsTrue, List, [], ◌∷◌, ◌++◌, length, map, Option, Some, None, refl, sym, ap, ◌∙◌, arith}
use Rattle.std.specs.Prelude.{flat_map, find, option_and_then}
use Rattle.std.specs.List.{list_all, list_any, slice_get}
use Rattle.std.specs.Option.{option_map, option_map_or}
use Rattle.std.specs.Ordering.{is_lt, ordering_reverse}
use Rattle.std.specs.declared.cmp.Ordering.{Ordering}
use Rattle.std.specs.declared.cmp.Ordering.TheVariants.{Less, Equal, Greater}
use Rattle.std.specs.FinMap.{slice_cmp-IsAntisymmetric, nat_cmp-IsAntisymmetric}
use Rattle.std.specs.Str.{bytes_eq}
use Rattle.std.proofs.lemmas.Bool.{and_parts, and_from, or_parts, or_right, or_left, not-true, not_from_false, ltb-true, ltb-false, le-leb, eq-eqb, both_ways}
use Rattle.std.proofs.lemmas.Cmp.{nat_list_cmp_total}
use Rattle.std.proofs.lemmas.List.Folds.{list_all-map}
use Rattle.std.proofs.lemmas.Slice.Eq.{bytes_eq-Decides}
use Rattle.hal_schema.specs.declared.raw.RawDbd.{RawDbd}
use Rattle.hal_schema.specs.declared.raw.RawField.{RawField}
use Rattle.hal_schema.specs.declared.raw.RawPart.{RawPart}
use Rattle.hal_schema.specs.declared.raw.RawType.{RawType}
use Rattle.hal_schema.specs.declared.schema.Field.{Field}
use Rattle.hal_schema.specs.declared.schema.KeyField.{KeyField}
use Rattle.hal_schema.specs.declared.schema.SegType.{SegType}
use Rattle.hal_schema.specs.declared.schema.PartDef.{PartDef}
use Rattle.hal_schema.specs.Keys.{key_cmp}
use Rattle.hal_schema.specs.Lawful.{keys_are_fields, root_key_is_unique, highs_rise, all_rise, is_key_portion, is_key_field}
use Rattle.hal_schema.specs.Places.{partition, statement, twice, when, later}
use Rattle.hal_schema.specs.Raw.{types_of, seg_type, field_of, key_field, is_sequence_field, parts_of, part_of, high_below, in_order}
use Rattle.hal_schema.specs.Rules.{same_high, sequence_broken, both_sequence, root_key_broken, highs_broken, high_is_long}
use Rattle.hal_schema.specs.SegType.{key_bytes}
use Rattle.hal_schema.proofs.KeptTypes.{nil_parts, sound, all_sound, all_kept}
use Rattle.hal_schema.proofs.KeptSchema.{each_nil}
use Rattle.hal_schema.proofs.Indexes.{all_weaker}
use Rattle.hal_schema.proofs.Ordered.{all-order, rise-put}

-- ---- sequence fields

abbrev key_of_field : RawField → KeyField
key_of_field f = record { start = f.start; bytes = f.bytes; unique = f.seq == 1 }

abbrev key_ok : List Field → KeyField → Bool
key_ok fields k = nat_le k.bytes 100 && list_any (is_key_field k) fields

one_more : (g : Field) (fields : List Field) (o : Option KeyField) → option_map_or (key_ok fields) o true ≡ true → option_map_or (key_ok (g ∷ fields)) o true ≡ true
one_more g fields None h = refl
one_more g fields (Some k) h =
    let p = and_parts (nat_le k.bytes 100) (list_any (is_key_field k) fields) h in
    and_from (nat_le k.bytes 100) (list_any (is_key_field k) (g ∷ fields)) p.0 (or_right (is_key_field k g) (list_any (is_key_field k) fields) p.1)

abbrev is_bad : RawField → Bool
is_bad f = nat_lt 100 f.bytes || is_key_portion f.name

here_ok : (f : RawField) (fields : List Field) → is_bad f ≡ false → key_ok (field_of f ∷ fields) (key_of_field f) ≡ true
here_ok f fields good =
    let p = or_parts (nat_lt 100 f.bytes) (is_key_portion f.name) good in
    let at : is_key_field (key_of_field f) (field_of f) ≡ true = and_from _ _ (and_from _ _ (eq-eqb f.start f.start refl) (eq-eqb f.bytes f.bytes refl)) (not_from_false _ p.1) in
    and_from (nat_le f.bytes 100) (list_any (is_key_field (key_of_field f)) (field_of f ∷ fields)) (le-leb f.bytes 100 (ltb-false 100 f.bytes p.0)) (or_left (is_key_field (key_of_field f) (field_of f)) (list_any (is_key_field (key_of_field f)) fields) at)

key_found : (fields : List RawField) → list_all (λ f. not (is_sequence_field f && is_bad f)) fields ≡ true → option_map_or (key_ok (map field_of fields)) (key_field fields) true ≡ true
key_found [] h = refl
key_found (f ∷ fields) h = by (is_sequence_field f) refl (key_found fields (and_parts _ _ h).1)
  where
    by : (b : Bool) → is_sequence_field f ≡ b → option_map_or (key_ok (map field_of fields)) (key_field fields) true ≡ true
        → option_map_or (key_ok (field_of f ∷ map field_of fields)) (option_map key_of_field (cond b (Some f) (find is_sequence_field fields))) true ≡ true
    by true e rest =
        let no = not-true (is_sequence_field f && is_bad f) (and_parts _ _ h).0 in
        here_ok f (map field_of fields) (ap (λ b. b && is_bad f) (sym e) ∙ no)
    by false e rest = one_more (field_of f) (map field_of fields) (key_field fields) rest

type_key : (t : RawType) → twice both_sequence (λ f. statement f.line) t.fields ++ flat_map (λ f. when (is_sequence_field f && (nat_lt 100 f.bytes || is_key_portion f.name)) (statement f.line)) t.fields ≡ []
    → option_map_or (key_ok (map field_of t.fields)) (key_field t.fields) true ≡ true
type_key t e =
    let p = nil_parts (twice both_sequence (λ f. statement f.line) t.fields) (flat_map (λ f. when (is_sequence_field f && (nat_lt 100 f.bytes || is_key_portion f.name)) (statement f.line)) t.fields) e in
    key_found t.fields (all_kept (λ f. is_sequence_field f && is_bad f) (λ f. statement f.line) t.fields p.1)

pub kept_keys : (types : List RawType) → sequence_broken types ≡ [] → IsTrue (keys_are_fields (types_of types))
kept_keys types e =
    list_all-map (λ (t : SegType). option_map_or (key_ok t.fields) t.key true) (seg_type types) types
    ∙ each_nil (λ (t : RawType). twice both_sequence (λ f. statement f.line) t.fields ++ flat_map (λ f. when (is_sequence_field f && (nat_lt 100 f.bytes || is_key_portion f.name)) (statement f.line)) t.fields)
    (λ t. option_map_or (key_ok (map field_of t.fields)) (key_field t.fields) true) type_key types e

-- ---- the root's key

key_unique : (fields : List RawField) → list_any is_sequence_field fields ≡ true → list_all (λ f. not (nat_lt 1 f.seq)) fields ≡ true → option_map_or (λ k. k.unique) (key_field fields) false ≡ true
key_unique [] any all = any
key_unique (f ∷ fields) any all = by (is_sequence_field f) refl (λ more. key_unique fields more (and_parts _ _ all).1)
  where
    by : (b : Bool) → is_sequence_field f ≡ b → (list_any is_sequence_field fields ≡ true → option_map_or (λ k. k.unique) (key_field fields) false ≡ true)
        → option_map_or (λ k. k.unique) (option_map key_of_field (cond b (Some f) (find is_sequence_field fields))) false ≡ true
    by true e rest =
        let a = ltb-true 0 f.seq e in
        let b = ltb-false 1 f.seq (not-true _ (and_parts _ _ all).0) in
        eq-eqb f.seq 1 (omega (arith, a, b))
    by false e rest = rest (ap (λ b. b || list_any is_sequence_field fields) (sym e) ∙ any)

root_unique : (all : List RawType) (types : List RawType) → 0 < length types → root_key_broken (slice_get types 0) ≡ [] → option_map_or (λ k. k.unique) (option_and_then (λ t. t.key) (slice_get (map (seg_type all) types) 0)) false ≡ true
root_unique all [] z e = absurd (omega arith)
root_unique all (t ∷ types) z e =
    let p = nil_parts (when (not (list_any is_sequence_field t.fields)) (statement t.line)) (flat_map (λ f. when (nat_lt 1 f.seq) (statement f.line)) t.fields) e in
    key_unique t.fields (sound (list_any is_sequence_field t.fields) (statement t.line) p.0) (all_kept (λ f. nat_lt 1 f.seq) (λ f. statement f.line) t.fields p.1)

pub kept_root_key : (types : List RawType) → 0 < length types → root_key_broken (slice_get types 0) ≡ [] → IsTrue (root_key_is_unique (types_of types))
kept_root_key types z e = root_unique types types z e

-- ---- high keys

apart : (a b : List ℕ) → bytes_eq a b ≡ false → (is_lt (key_cmp b a) || is_lt (key_cmp a b)) ≡ true
apart a b e = by (key_cmp a b) (key_cmp b a) refl (nat_list_cmp_total.antisymm b a)
  where
    by : (o p : Ordering) → key_cmp a b ≡ o → p ≡ ordering_reverse (key_cmp a b) → (is_lt p || is_lt o) ≡ true
    by Less p f g = or_right (is_lt p) true refl
    by Greater p f g = or_left (is_lt p) false (ap is_lt (g ∙ ap ordering_reverse f))
    by Equal p f g =
        let same : a ≡ b = slice_cmp-IsAntisymmetric nat_cmp-IsAntisymmetric a b f in
        absurd (both_ways (bytes_eq a b) e ((bytes_eq-Decides a b).1 same))

highs_above : (dbd : RawDbd) (parts : List RawPart) → twice same_high (λ p. partition p.place) parts ≡ [] → all_rise high_below (in_order high_below (map (part_of dbd) parts)) ≡ true
highs_above dbd [] e = refl
highs_above dbd (p ∷ parts) e =
    let q = nil_parts (flat_map (λ q. when (same_high p q) (later (partition p.place) (partition q.place))) parts) (twice same_high (λ p. partition p.place) parts) e in
    let test = λ (y : PartDef). high_below y (part_of dbd p) || high_below (part_of dbd p) y in
    let each : list_all test (map (part_of dbd) parts) ≡ true =
    list_all-map test (part_of dbd) parts
    ∙ all_weaker (λ q. not (same_high p q)) (λ q. test (part_of dbd q)) (λ q h. apart p.high q.high (not-true _ h)) parts
    (all_kept (λ q. same_high p q) (λ q. later (partition p.place) (partition q.place)) parts q.0) in
    rise-put high_below high_below (part_of dbd p) (λ y h. h) (in_order high_below (map (part_of dbd) parts)) (all-order test high_below (map (part_of dbd) parts) each) (highs_above dbd parts q.1)

pub kept_highs : (dbd : RawDbd) (types : List SegType) (parts : List RawPart) → highs_broken types parts ≡ [] → IsTrue (highs_rise types (parts_of dbd parts))
kept_highs dbd types parts e =
    let q = nil_parts (flat_map (λ p. when (not (high_is_long (key_bytes types 1) p)) (partition p.place)) parts) (twice same_high (λ p. partition p.place) parts) e in
    and_from _ _ (all-order (λ (p : PartDef). length p.high == key_bytes types 1) high_below (map (part_of dbd) parts)
    (list_all-map (λ (p : PartDef). length p.high == key_bytes types 1) (part_of dbd) parts ∙ all_sound (high_is_long (key_bytes types 1)) (λ p. partition p.place) parts q.0))
    (highs_above dbd parts q.1)
