-- A raw definition that keeps the rules says a schema that keeps them.
use Rattle.std.proofs.Common.{◌≡◌, ℕ, zero, suc, ◌<◌, ◌≤◌, Bool, true, false, ◌&&◌, ◌||◌, not, ◌==◌, nat_lt, nat_le, IsTrue, List, [], ◌∷◌, length, drop, map, Option, Some, None, refl, ◌∙◌, arith}
use Rattle.std.specs.Prelude.{flat_map, filter_map}
use Rattle.std.specs.List.{list_all, enumerate_from, cons_option}
use Rattle.std.specs.Option.{option_map_or}
use Rattle.std.proofs.lemmas.Bool.{and_parts, and_from, not-true, eqb-false, ltb-true, ltb-false, le-leb}
use Rattle.std.proofs.lemmas.List.{length-map}
use Rattle.std.proofs.lemmas.List.Folds.{list_all-map}
use Rattle.hal_schema.specs.declared.fault.Place.{Place}
use Rattle.hal_schema.specs.declared.raw.RawDbd.{RawDbd}
use Rattle.hal_schema.specs.declared.raw.RawIndex.{RawIndex}
use Rattle.hal_schema.specs.declared.raw.RawPart.{RawPart}
use Rattle.hal_schema.specs.declared.raw.RawParts.{RawParts}
use Rattle.hal_schema.specs.declared.raw.RawSchema.{RawSchema}
use Rattle.hal_schema.specs.declared.raw.RawType.{RawType}
use Rattle.hal_schema.specs.declared.schema.SegType.{SegType}
use Rattle.hal_schema.specs.declared.schema.IndexDef.{IndexDef}
use Rattle.hal_schema.specs.Lawful.{counts_are_kept, fields_fit, field_fits, letters_are_known, indexes_are_kept, index_is_kept, part_is_kept, factors_fit, number_fits, blocks_are_kept, all_rise}
use Rattle.hal_schema.specs.Places.{is_before, passing, partition, statement, when}
use Rattle.hal_schema.specs.Raw.{types_of, seg_type, field_of, indexes_of, index_of, parts_of, part_of, target_below, high_below, in_order}
use Rattle.hal_schema.specs.Rules.{statement_counts_passed, part_counts_passed, sizes_in, sizes_broken, letters_unknown, indexes_broken, factors_broken, numbers_broken, counts_passed}
use Rattle.hal_schema.specs.SegType.{level_of}
use Rattle.hal_schema.proofs.KeptTypes.{nil_parts, not_broken, sound, all_sound, all_kept, kept_sizes, kept_bytes}
use Rattle.hal_schema.proofs.Indexes.{all_weaker}
use Rattle.hal_schema.proofs.Numbered.{numbered-map}
use Rattle.hal_schema.proofs.Ordered.{all-order, length-order, rise-put}

-- ---- sizes

pub each_nil : {X Y : Type 0} (f : X → List Y) (p : X → Bool) → ((x : X) → f x ≡ [] → p x ≡ true) → (xs : List X) → flat_map f xs ≡ [] → list_all p xs ≡ true
each_nil f p w [] e = refl
each_nil f p w (x ∷ xs) e = let q = nil_parts (f x) (flat_map f xs) e in and_from _ _ (w x q.0) (each_nil f p w xs q.1)

fields_kept : (t : RawType) → sizes_in t ≡ [] → (nat_le 1 t.bytes && nat_le t.bytes 2000 && list_all (field_fits t.bytes) (map field_of t.fields)) ≡ true
fields_kept t e = and_from _ _ (kept_bytes t e) (list_all-map (field_fits t.bytes) field_of t.fields ∙ kept_sizes t e)

pub kept_fields : (types : List RawType) → sizes_broken types ≡ [] → IsTrue (fields_fit (types_of types))
kept_fields types e =
    list_all-map (λ (t : SegType). nat_le 1 t.bytes && nat_le t.bytes 2000 && list_all (field_fits t.bytes) t.fields) (seg_type types) types
    ∙ each_nil sizes_in (λ t. nat_le 1 t.bytes && nat_le t.bytes 2000 && list_all (field_fits t.bytes) (map field_of t.fields)) fields_kept types e

-- ---- letters, blocks

pub kept_letters : (types : List RawType) → letters_unknown types ≡ [] → IsTrue (letters_are_known (types_of types))
kept_letters types e =
    list_all-map (λ (t : SegType). nat_le 65 t.letter && nat_le t.letter 74) (seg_type types) types
    ∙ all_sound (λ (t : RawType). nat_le 65 t.letter && nat_le t.letter 74) (λ t. statement t.line) types e

pub kept_blocks : (parts : RawParts) → numbers_broken parts ≡ [] → IsTrue (blocks_are_kept parts.blocks)
kept_blocks parts e =
    sound (blocks_are_kept parts.blocks) (partition 0) (nil_parts (when (not (blocks_are_kept parts.blocks)) (partition 0)) (flat_map (λ p. when (not (number_fits p.number)) (partition p.place)) parts.parts) e).0

-- ---- partitions

pub kept_numbers : (parts : RawParts) → numbers_broken parts ≡ [] → list_all (λ p. number_fits p.number) parts.parts ≡ true
kept_numbers parts e =
    all_sound (λ (p : RawPart). number_fits p.number) (λ p. partition p.place) parts.parts
    (nil_parts (when (not (blocks_are_kept parts.blocks)) (partition 0)) (flat_map (λ p. when (not (number_fits p.number)) (partition p.place)) parts.parts) e).1

pub kept_factors : (dbd : RawDbd) (parts : List RawPart) → factors_broken dbd parts ≡ [] → list_all (λ p. factors_fit dbd.phdam (part_of dbd p)) parts ≡ true
kept_factors dbd parts e = all_sound (λ p. factors_fit dbd.phdam (part_of dbd p)) (λ p. partition p.place) parts e

two_tests : {X : Type 0} (p q : X → Bool) (xs : List X) → list_all p xs ≡ true → list_all q xs ≡ true → list_all (λ x. p x && q x) xs ≡ true
two_tests p q [] a b = refl
two_tests p q (x ∷ xs) a b =
    let u = and_parts (p x) (list_all p xs) a in
    let v = and_parts (q x) (list_all q xs) b in
    and_from (p x && q x) (list_all (λ x. p x && q x) xs) (and_from (p x) (q x) u.0 v.0) (two_tests p q xs u.1 v.1)

pub kept_parts : (dbd : RawDbd) (parts : RawParts) → factors_broken dbd parts.parts ≡ [] → numbers_broken parts ≡ [] → IsTrue (list_all (part_is_kept dbd.phdam) (parts_of dbd parts.parts))
kept_parts dbd parts f n =
    all-order (part_is_kept dbd.phdam) high_below (map (part_of dbd) parts.parts)
    (list_all-map (part_is_kept dbd.phdam) (part_of dbd) parts.parts ∙ two_tests (λ p. factors_fit dbd.phdam (part_of dbd p)) (λ p. number_fits p.number) parts.parts (kept_factors dbd parts.parts f) (kept_numbers parts n))

-- ---- counts

passing-few : (most : ℕ) (places : List Place) → passing most places ≡ [] → length places ≤ most
unfolding passing
passing-few most places e = let n = length-order is_before places in let l = by most (in_order is_before places) e in omega (arith, n, l)
  where
    by : (n : ℕ) (xs : List Place) → drop n xs ≡ [] → length xs ≤ n
    by zero [] e = omega arith
    by zero (x ∷ xs) e = cc
    by (suc n) [] e = omega arith
    by (suc n) (x ∷ xs) e = let r = by n xs e in omega arith

few_of : {X : Type 0} (most : ℕ) (at : X → Place) (xs : List X) → passing most (map at xs) ≡ [] → length xs ≤ most
few_of most at xs e = let a = passing-few most (map at xs) e in let b = length-map xs at in omega (arith, a, b)

not_above : (b : ℕ) → not (nat_lt 15 b) ≡ true → nat_le b 15 ≡ true
not_above b e = le-leb b 15 (ltb-false 15 b (not-true _ e))

length-filter_map : {X Y : Type 0} (f : X → Option Y) (xs : List X) → length (filter_map f xs) ≤ length xs
length-filter_map f [] = omega arith
length-filter_map f (x ∷ xs) = by (f x) (length-filter_map f xs)
  where
    by : (o : Option _) → length (filter_map f xs) ≤ length xs → length (cons_option o (filter_map f xs)) ≤ suc (length xs)
    by None h = omega arith
    by (Some y) h = omega arith

pub few_types : (raw : RawSchema) → counts_passed raw ≡ [] → length raw.dbd.types ≤ 255
few_types raw e =
    let a = nil_parts (statement_counts_passed raw.dbd) (part_counts_passed raw.parts.parts) e in
    let b = nil_parts _ (passing 16 (map (λ i. statement i.line) raw.dbd.indexes)) a.0 in
    let c = nil_parts _ (flat_map (λ t. passing 255 (map (λ f. statement f.line) t.fields)) raw.dbd.types) b.0 in
    let d = nil_parts (passing 255 (map (λ t. statement t.line) raw.dbd.types)) _ c.0 in
    few_of 255 (λ t. statement t.line) raw.dbd.types d.0

pub kept_counts : (raw : RawSchema) → counts_passed raw ≡ [] → 0 < length raw.dbd.types → IsTrue (counts_are_kept (types_of raw.dbd.types) (indexes_of (types_of raw.dbd.types) raw.dbd.indexes) (parts_of raw.dbd raw.parts.parts))
kept_counts raw e some =
    let types = raw.dbd.types in
    let a = nil_parts (statement_counts_passed raw.dbd) (part_counts_passed raw.parts.parts) e in
    let b = nil_parts _ (passing 16 (map (λ i. statement i.line) raw.dbd.indexes)) a.0 in
    let c = nil_parts _ (flat_map (λ t. passing 255 (map (λ f. statement f.line) t.fields)) types) b.0 in
    let d = nil_parts (passing 255 (map (λ t. statement t.line) types)) (flat_map (λ t. when (nat_lt 15 (level_of (types_of types) t.0)) (statement t.1.line)) (enumerate_from 1 types)) c.0 in
    let p = nil_parts (when (length raw.parts.parts == 0) (partition 0)) (passing 100 (map (λ p. partition p.place) raw.parts.parts)) a.1 in
    let n : length (types_of types) ≡ length types = length-map types (seg_type types) in
    let few = few_of 255 (λ t. statement t.line) types d.0 in
    let few_i = few_of 16 (λ i. statement i.line) raw.dbd.indexes b.1 in
    let few_p = few_of 100 (λ p. partition p.place) raw.parts.parts p.1 in
    let ni = length-order target_below (filter_map (index_of (types_of types)) raw.dbd.indexes) in
    let mi = length-filter_map (index_of (types_of types)) raw.dbd.indexes in
    let np = length-order high_below (map (part_of raw.dbd) raw.parts.parts) in
    let mp = length-map raw.parts.parts (part_of raw.dbd) in
    let z = eqb-false (length raw.parts.parts) 0 (not_broken _ _ p.0) in
    let levels : list_all (λ t. nat_le (level_of (types_of types) t.0) 15) (enumerate_from 1 (types_of types)) ≡ true =
    numbered-map (λ (t : ℕ × SegType). nat_le (level_of (types_of types) t.0) 15) (seg_type types) 1 types
    ∙ all_weaker _ (λ (t : ℕ × RawType). nat_le (level_of (types_of types) t.0) 15) (λ t h. not_above _ h) (enumerate_from 1 types)
    (all_kept (λ (t : ℕ × RawType). nat_lt 15 (level_of (types_of types) t.0)) (λ t. statement t.1.line) (enumerate_from 1 types) d.1) in
    let fields : list_all (λ t. nat_le (length t.fields) 255) (types_of types) ≡ true =
    list_all-map (λ (t : SegType). nat_le (length t.fields) 255) (seg_type types) types
    ∙ each_nil (λ t. passing 255 (map (λ f. statement f.line) t.fields)) (λ (t : RawType). nat_le (length (map field_of t.fields)) 255)
    (λ t h. let k = few_of 255 (λ f. statement f.line) t.fields h in let m = length-map t.fields field_of in le-leb (length (map field_of t.fields)) 255 (omega (arith, k, m))) types c.1 in
    let l = types_of types in
    let is = indexes_of (types_of types) raw.dbd.indexes in
    let ps = parts_of raw.dbd raw.parts.parts in
    let c1 : nat_le 1 (length l) ≡ true = le-leb 1 (length l) (omega (arith, n, some)) in
    let c2 : nat_le (length l) 255 ≡ true = le-leb (length l) 255 (omega (arith, n, few)) in
    let c5 : nat_le (length is) 16 ≡ true = le-leb (length is) 16 (omega (arith, ni, mi, few_i)) in
    let nz : ¬ (length raw.parts.parts ≡ 0) = z in
    let c6 : nat_le 1 (length ps) ≡ true = le-leb 1 (length ps) (omega (arith, np, mp, nz)) in
    let c7 : nat_le (length ps) 100 ≡ true = le-leb (length ps) 100 (omega (arith, np, mp, few_p)) in
    and_from _ _ (and_from _ _ (and_from _ _ (and_from _ _ (and_from _ _ (and_from _ _ c1 c2) levels) fields) c5) c6) c7

-- ---- indexes

sound_index : (test : IndexDef → Bool) (o : Option IndexDef) (rest : List IndexDef) → option_map_or test o false ≡ true → list_all test rest ≡ true → list_all test (cons_option o rest) ≡ true
sound_index test None rest h all = all
sound_index test (Some i) rest h all = and_from _ _ h all

sound_indexes : (types : List SegType) (indexes : List RawIndex) → list_all (λ i. option_map_or (index_is_kept types) (index_of types i) false) indexes ≡ true → list_all (index_is_kept types) (filter_map (index_of types) indexes) ≡ true
sound_indexes types [] h = refl
sound_indexes types (i ∷ indexes) h = sound_index (index_is_kept types) (index_of types i) _ (and_parts _ _ h).0 (sound_indexes types indexes (and_parts _ _ h).1)

at_or_above : (a b : ℕ) → (nat_lt b a || nat_le a b) ≡ true
at_or_above a b = by (nat_lt b a) refl
  where
    by : (t : Bool) → nat_lt b a ≡ t → (t || nat_le a b) ≡ true
    by true e = refl
    by false e = le-leb a b (ltb-false b a e)

all_true : {X : Type 0} (p : X → Bool) → ((x : X) → p x ≡ true) → (xs : List X) → list_all p xs ≡ true
all_true p w [] = refl
all_true p w (x ∷ xs) = and_from _ _ (w x) (all_true p w xs)

targets_rise : (indexes : List IndexDef) → all_rise (λ (i : IndexDef) (j : IndexDef). nat_le i.target j.target) (in_order target_below indexes) ≡ true
targets_rise [] = refl
targets_rise (i ∷ indexes) =
    rise-put target_below (λ (i : IndexDef) (j : IndexDef). nat_le i.target j.target) i (λ j h. le-leb j.target i.target (let l = ltb-true j.target i.target h in omega (arith, l))) (in_order target_below indexes)
    (all_true (λ j. target_below j i || nat_le i.target j.target) (λ j. at_or_above i.target j.target) (in_order target_below indexes)) (targets_rise indexes)

pub kept_indexes : (types : List SegType) (indexes : List RawIndex) → indexes_broken types indexes ≡ [] → IsTrue (indexes_are_kept types (indexes_of types indexes))
kept_indexes types indexes e =
    and_from _ _ (all-order (index_is_kept types) target_below (filter_map (index_of types) indexes)
    (sound_indexes types indexes (all_sound (λ i. option_map_or (index_is_kept types) (index_of types i) false) (λ i. statement i.line) indexes e)))
    (targets_rise (filter_map (index_of types) indexes))
