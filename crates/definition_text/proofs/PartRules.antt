-- What the canonical partition file says breaks no rule.
use Rattle.std.proofs.Common.{◌≡◌, ℕ, ◌≤◌, ◌==◌, Bool, true, false, not, List, [], ◌∷◌, length, map, Ordering, Less, Equal, Greater, refl, sym, ap, arith, ◌∙◌}
use Rattle.std.specs.List.{list_all, list_any, flat_map}
use Rattle.std.specs.Ordering.{is_lt}
use Rattle.std.specs.Str.{bytes_eq}
use Rattle.std.proofs.lemmas.Bool.{and_parts, and_from, or_from, not_from_false, true≢false, false≢true, ne_eqb, false_from_ne_true}
use Rattle.std.proofs.lemmas.Cmp.{nat_list_cmp_total}
use Rattle.std.proofs.lemmas.List.{length-map}
use Rattle.std.proofs.lemmas.Slice.Eq.{bytes_eq-Decides}
use Rattle.hal_schema.specs.declared.fault.Place.{Place}
use Rattle.hal_schema.specs.declared.rules.names.Named.{Named}
use Rattle.hal_schema.specs.declared.raw.RawDbd.{RawDbd}
use Rattle.hal_schema.specs.declared.raw.RawPart.{RawPart}
use Rattle.hal_schema.specs.declared.raw.RawParts.{RawParts}
use Rattle.hal_schema.specs.declared.schema.PartDef.{PartDef}
use Rattle.hal_schema.specs.declared.schema.SegType.{SegType}
use Rattle.hal_schema.specs.SegType.{key_bytes}
use Rattle.hal_schema.specs.Keys.{key_cmp}
use Rattle.hal_schema.specs.Lawful.{all_differ, all_rise, factors_fit, number_fits, part_is_kept, blocks_are_kept}
use Rattle.hal_schema.specs.Places.{partition, when, twice, passing}
use Rattle.hal_schema.specs.Raw.{part_of, high_below}
use Rattle.hal_schema.specs.Rules.{names_twice, part_name, same_number, same_high, high_is_long, highs_broken, factors_broken, numbers_broken, part_counts_passed}
use Rattle.partition_reader.specs.Tables.{next_place}
use Rattle.definition_text.specs.Raw.{raw_part, raw_parts_from}
use Rattle.definition_text.proofs.Rebuilt.{not_below}
use Rattle.definition_text.proofs.NoPlaces.{both_none, never, never_not, twice_none_by, names_none, passing_none, map_map}

parts_same : {X : Type 0} (F : RawPart → X) (G : PartDef → X) → ((place : ℕ) (p : PartDef) → F (raw_part place p) ≡ G p) → (place : ℕ) (parts : List PartDef) → map F (raw_parts_from place parts) ≡ map G parts
parts_same F G each place [] = refl
parts_same {X = X} F G each place (p ∷ more) = ap (λ (x : X). x ∷ map F (raw_parts_from (next_place place) more)) (each place p) ∙ ap (λ (xs : List X). G p ∷ xs) (parts_same F G each (next_place place) more)

each_part : (f : RawPart → List Place) (test : PartDef → Bool) → ((place : ℕ) (p : PartDef) → test p ≡ true → f (raw_part place p) ≡ []) → (place : ℕ) (parts : List PartDef) → list_all test parts ≡ true → flat_map f (raw_parts_from place parts) ≡ []
each_part f test each place [] h = refl
each_part f test each place (p ∷ more) h =
    let (here, later) = and_parts (test p) (list_all test more) h in
    both_none (f (raw_part place p)) (flat_map f (raw_parts_from (next_place place) more)) (each place p here) (each_part f test each (next_place place) more later)

-- ---- 3: names and numbers

pub part_names_apart : (parts : List PartDef) → all_differ bytes_eq (map (λ (p : PartDef). p.name) parts) ≡ true → names_twice (map part_name (raw_parts_from 1 parts)) ≡ []
part_names_apart parts d =
    let raws = raw_parts_from 1 parts in
    names_none (map part_name raws) (map (λ (p : PartDef). p.name) parts) (map_map (λ (n : Named). n.name) part_name raws ∙ parts_same (λ (p : RawPart). p.name) (λ (p : PartDef). p.name) (λ place p. refl) 1 parts) d

pub part_numbers_apart : (parts : List PartDef) → all_differ (λ (m n : ℕ). m == n) (map (λ (p : PartDef). p.number) parts) ≡ true → twice same_number (λ (p : RawPart). partition p.place) (raw_parts_from 1 parts) ≡ []
part_numbers_apart parts d =
    twice_none_by (λ (m n : ℕ). m == n) (λ (p : RawPart). p.number) (λ (p : RawPart). partition p.place) (raw_parts_from 1 parts) (map (λ (p : PartDef). p.number) parts)
    (parts_same (λ (p : RawPart). p.number) (λ (p : PartDef). p.number) (λ place p. refl) 1 parts) d

-- ---- 4: counts

parts_length : (parts : List PartDef) → length (raw_parts_from 1 parts) ≡ length parts
parts_length parts =
    sym (length-map (raw_parts_from 1 parts) (λ (p : RawPart). p.name)) ∙ ap length (parts_same (λ (p : RawPart). p.name) (λ (p : PartDef). p.name) (λ place p. refl) 1 parts) ∙ length-map parts (λ (p : PartDef). p.name)

pub part_counts_kept : (parts : List PartDef) → 1 ≤ length parts → length parts ≤ 100 → part_counts_passed (raw_parts_from 1 parts) ≡ []
part_counts_kept parts some few =
    let raws = raw_parts_from 1 parts in
    let many = parts_length parts in
    let placed = length-map raws (λ (p : RawPart). partition p.place) in
    both_none (when (length raws == 0) (partition 0)) (passing 100 (map (λ (p : RawPart). partition p.place) raws))
    (never (length raws == 0) (partition 0) (ne_eqb (length raws) 0 (λ e. omega (arith, some, many, e)))) (passing_none 100 (map (λ (p : RawPart). partition p.place) raws) (omega (arith, few, many, placed)))

-- ---- 10: high keys

lesser : (o : Ordering) → is_lt o ≡ true → o ≡ Less
lesser Less h = refl
lesser Equal h = absurd (false≢true h)
lesser Greater h = absurd (false≢true h)

below_then : (a b c : List ℕ) → is_lt (key_cmp a b) ≡ true → is_lt (key_cmp b c) ≡ true → is_lt (key_cmp a c) ≡ true
below_then a b c h k = ap is_lt (nat_list_cmp_total.trans a b c (lesser (key_cmp a b) h) (lesser (key_cmp b c) k))

below_differs : (a b : List ℕ) → is_lt (key_cmp a b) ≡ true → bytes_eq a b ≡ false
below_differs a b h =
    false_from_ne_true (bytes_eq a b) (λ e. let same : a ≡ b = (bytes_eq-Decides a b).0 e in
    let itself : is_lt (key_cmp b b) ≡ true = ap (λ (k : List ℕ). is_lt (key_cmp k b)) (sym same) ∙ h in
    true≢false (sym itself ∙ not_below b b itself))

-- each that is below the first is below all
rise_above : (high : List ℕ) (p : PartDef) (parts : List PartDef) → is_lt (key_cmp high p.high) ≡ true → all_rise high_below (p ∷ parts) ≡ true → list_any (bytes_eq high) (map (λ (p : PartDef). p.high) (p ∷ parts)) ≡ false
rise_above high p [] h rise = or_from (bytes_eq high p.high) false (below_differs high p.high h) refl
rise_above high p (q ∷ parts) h rise =
    let (first, later) = and_parts (high_below p q) (all_rise high_below (q ∷ parts)) rise in
    or_from (bytes_eq high p.high) (list_any (bytes_eq high) (map (λ (p : PartDef). p.high) (q ∷ parts))) (below_differs high p.high h) (rise_above high q parts (below_then high p.high q.high h first) later)

highs_differ : (parts : List PartDef) → all_rise high_below parts ≡ true → all_differ bytes_eq (map (λ (p : PartDef). p.high) parts) ≡ true
highs_differ [] h = refl
highs_differ (p ∷ []) h = refl
highs_differ (p ∷ q ∷ parts) h =
    let (first, later) = and_parts (high_below p q) (all_rise high_below (q ∷ parts)) h in
    let rest = map (λ (p : PartDef). p.high) (q ∷ parts) in
    and_from (not (list_any (bytes_eq p.high) rest)) (all_differ bytes_eq rest) (not_from_false (list_any (bytes_eq p.high) rest) (rise_above p.high q parts first later)) (highs_differ (q ∷ parts) later)

pub highs_kept : (types : List SegType) (parts : List PartDef) → list_all (λ (p : PartDef). length p.high == key_bytes types 1) parts ≡ true → all_rise high_below parts ≡ true → highs_broken types (raw_parts_from 1 parts) ≡ []
highs_kept types parts long rise =
    let raws = raw_parts_from 1 parts in
    both_none (flat_map (λ (p : RawPart). when (not (high_is_long (key_bytes types 1) p)) (partition p.place)) raws) (twice same_high (λ (p : RawPart). partition p.place) raws)
    (each_part (λ (p : RawPart). when (not (high_is_long (key_bytes types 1) p)) (partition p.place)) (λ (p : PartDef). length p.high == key_bytes types 1)
    (λ place p h. never_not (length p.high == key_bytes types 1) (partition place) h) 1 parts long)
    (twice_none_by bytes_eq (λ (p : RawPart). p.high) (λ (p : RawPart). partition p.place) raws (map (λ (p : PartDef). p.high) parts) (parts_same (λ (p : RawPart). p.high) (λ (p : PartDef). p.high) (λ place p. refl) 1 parts) (highs_differ parts rise))

-- ---- 11 and 12: factors and numbers

pub factors_kept : (dbd : RawDbd) (parts : List PartDef) → list_all (part_is_kept dbd.phdam) parts ≡ true → factors_broken dbd (raw_parts_from 1 parts) ≡ []
factors_kept dbd parts h =
    each_part (λ (p : RawPart). when (not (factors_fit dbd.phdam (part_of dbd p))) (partition p.place)) (part_is_kept dbd.phdam)
    (λ place p k. never_not (factors_fit dbd.phdam p) (partition place) (and_parts (factors_fit dbd.phdam p) (number_fits p.number) k).0) 1 parts h

pub numbers_kept : (phdam : Bool) (raws : RawParts) (parts : List PartDef) → raws.parts ≡ raw_parts_from 1 parts → blocks_are_kept raws.blocks ≡ true → list_all (part_is_kept phdam) parts ≡ true → numbers_broken raws ≡ []
numbers_kept phdam raws parts same blocks h =
    both_none (when (not (blocks_are_kept raws.blocks)) (partition 0)) (flat_map (λ (p : RawPart). when (not (number_fits p.number)) (partition p.place)) raws.parts) (never_not (blocks_are_kept raws.blocks) (partition 0) blocks)
    (ap (flat_map (λ (p : RawPart). when (not (number_fits p.number)) (partition p.place))) same
    ∙ each_part (λ (p : RawPart). when (not (number_fits p.number)) (partition p.place)) (part_is_kept phdam)
    (λ place p k. never_not (number_fits p.number) (partition place) (and_parts (factors_fit phdam p) (number_fits p.number) k).1) 1 parts h)
