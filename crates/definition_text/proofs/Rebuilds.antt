-- What the canonical texts of a schema say breaks no rule, and builds the schema.
use Rattle.std.proofs.Common.{◌≡◌, ℕ, ◌+◌, ◌≤◌, ◌==◌, Bool, true, false, ◌&&◌, not, nat_le, cond, List, [], ◌∷◌, ◌++◌, length, map, drop, Option, None, Some, is_some, slice_get, refl, sym, ap, ◌∙◌}
use Rattle.std.specs.List.{list_all, list_any, enumerate_from, flat_map}
use Rattle.std.specs.Option.{option_map_or}
use Rattle.std.specs.Str.{bytes_eq}
use Rattle.std.proofs.lemmas.Bool.{and_parts, and_from, or_parts, not-true, not_from_false, false≢true, eqb-true, leb-true}
use Rattle.std.proofs.Math.Seq.{drop-append_seam}
use Rattle.std.proofs.lemmas.List.Folds.{list_any-append}
use Rattle.hal_schema.specs.declared.fault.Place.{Place}
use Rattle.hal_schema.specs.declared.raw.RawPart.{RawPart}
use Rattle.hal_schema.specs.declared.raw.RawType.{RawType}
use Rattle.hal_schema.specs.declared.schema.IndexDef.{IndexDef}
use Rattle.hal_schema.specs.declared.schema.PartDef.{PartDef}
use Rattle.hal_schema.specs.declared.schema.SegType.{SegType}
use Rattle.hal_schema.specs.declared.schema.Schema.{Schema}
use Rattle.hal_schema.specs.SegType.{level_of, key_bytes}
use Rattle.hal_schema.specs.Built.{IsSchemaOf}
use Rattle.hal_schema.specs.Facts.{SchemasAreKept}
use Rattle.hal_schema.specs.Lawful.{all_differ, all_rise, index_is_kept, module_is_kept}
use Rattle.hal_schema.specs.Places.{partition, twice, least}
use Rattle.hal_schema.specs.Raw.{types_of, indexes_of, high_below}
use Rattle.hal_schema.specs.Rules.{unknown_parents, misplaced_roots, names_twice, type_name, index_name, part_name, same_number, field_names, names_repeated, statement_counts_passed, part_counts_passed, counts_passed, sizes_broken, sequence_broken, root_key_broken, letters_unknown, indexes_broken, highs_broken, factors_broken, numbers_broken, broken, first_broken, first_fault}
use Rattle.definition_printer.specs.Wrapped.{wrapped}
use Rattle.definition_printer.specs.Dbd.{dbd_statement, dbd_text}
use Rattle.definition_printer.specs.Partitions.{partitions_text}
use Rattle.partition_reader.specs.Partitions.{partitions_of}
use Rattle.definition_text.specs.Builds.{Builds, IsDefinitionOf}
use Rattle.definition_text.specs.Raw.{raw_parts_of, raw_parts_from}
use Rattle.definition_text.specs.RawDbd.{lines_in, raw_types, raw_indexes, raw_dbd_of, raw_schema_of}
use Rattle.definition_text.proofs.TypesBack.{types_back}
use Rattle.definition_text.proofs.IndexesBack.{AreKnown, names}
use Rattle.definition_text.proofs.IndexOrder.{over, groups, groups_same, indexes_back}
use Rattle.definition_text.proofs.NoPlaces.{both_none}
use Rattle.definition_text.proofs.TypeRules.{parents_known, roots_placed, sizes_kept, sequences_kept, root_kept, letters_kept}
use Rattle.definition_text.proofs.NameRules.{type_names_apart, index_names_apart, fields_apart, counts_kept, indexes_kept}
use Rattle.definition_text.proofs.PartRules.{part_names_apart, part_numbers_apart, part_counts_kept, highs_kept, factors_kept, numbers_kept}
use Rattle.definition_text.proofs.Rebuilt.{parts_rebuilt}
use Rattle.definition_text.proofs.SameSchema.{same_schema}
use Rattle.definition_text.proofs.TextRead.{IsPrintedSchema, dbd_read_back}
use Rattle.definition_text.proofs.ReadBack.{partitions_read_back}

-- ---- what a schema keeps, one by one

differ_front : {X : Type 0} (same : X → X → Bool) (xs ys : List X) → all_differ same (xs ++ ys) ≡ true → all_differ same xs ≡ true
differ_front same [] ys h = refl
differ_front same (x ∷ xs) ys h =
    let (here, later) = and_parts (not (list_any (same x) (xs ++ ys))) (all_differ same (xs ++ ys)) h in
    let none = or_parts (list_any (same x) xs) (list_any (same x) ys) (sym (list_any-append (same x) xs ys) ∙ not-true (list_any (same x) (xs ++ ys)) here) in
    and_from (not (list_any (same x) xs)) (all_differ same xs) (not_from_false (list_any (same x) xs) none.0) (differ_front same xs ys later)

abbrev names_apart : List IndexDef → ℕ × SegType → Bool
names_apart indexes t = all_differ bytes_eq (names t.1.fields ++ map (λ (i : IndexDef). i.xdfld) (over t.0 indexes))

fields_differ : (indexes : List IndexDef) (code : ℕ) (types : List SegType) → list_all (names_apart indexes) (enumerate_from code types) ≡ true → list_all (λ (t : SegType). all_differ bytes_eq (names t.fields)) types ≡ true
fields_differ indexes code [] h = refl
fields_differ indexes code (t ∷ more) h =
    let (here, later) = and_parts (names_apart indexes (code, t)) (list_all (names_apart indexes) (enumerate_from (code + 1) more)) h in
    and_from (all_differ bytes_eq (names t.fields)) (list_all (λ (t : SegType). all_differ bytes_eq (names t.fields)) more)
    (differ_front bytes_eq (names t.fields) (map (λ (i : IndexDef). i.xdfld) (over code indexes)) here) (fields_differ indexes (code + 1) more later)

known : (s : Schema) → AreKnown s.types
known s = record { differ = s.type_names; fields = fields_differ s.indexes 1 s.types s.field_names; before = s.parents }

record Counts (s : Schema) : Type 0 where
  pub few : length s.types ≤ 255
  pub levels : list_all (λ (t : ℕ × SegType). nat_le (level_of s.types t.0) 15) (enumerate_from 1 s.types) ≡ true
  pub fields : list_all (λ (t : SegType). nat_le (length t.fields) 255) s.types ≡ true
  pub few_indexes : length s.indexes ≤ 16
  pub some_parts : 1 ≤ length s.parts
  pub few_parts : length s.parts ≤ 100

counts : (s : Schema) → Counts s
counts s =
    let levels = list_all (λ (t : ℕ × SegType). nat_le (level_of s.types t.0) 15) (enumerate_from 1 s.types) in
    let fields = list_all (λ (t : SegType). nat_le (length t.fields) 255) s.types in
    let some = nat_le 1 (length s.types) in
    let few = nat_le (length s.types) 255 in
    let few_indexes = nat_le (length s.indexes) 16 in
    let some_parts = nat_le 1 (length s.parts) in
    let a = and_parts (some && few && levels && fields && few_indexes && some_parts) (nat_le (length s.parts) 100) s.counts in
    let b = and_parts (some && few && levels && fields && few_indexes) some_parts a.0 in
    let c = and_parts (some && few && levels && fields) few_indexes b.0 in
    let d = and_parts (some && few && levels) fields c.0 in
    let e = and_parts (some && few) levels d.0 in
    let f = and_parts some few e.0 in
    record {
      few = leb-true (length s.types) 255 f.1;
      levels = e.1;
      fields = d.1;
      few_indexes = leb-true (length s.indexes) 16 c.1;
      some_parts = leb-true 1 (length s.parts) b.1;
      few_parts = leb-true (length s.parts) 100 a.1;
    }

abbrev first_line : Schema → ℕ
first_line s = 1 + lines_in (wrapped (dbd_statement s))

same_types : (s : Schema) → types_of (raw_types s.types s.indexes 1 (first_line s) s.types) ≡ s.types
same_types s = types_back s.types s.indexes (first_line s) s.type_names s.parents s.keys

abbrev no_lower : IndexDef → IndexDef → Bool
no_lower i j = nat_le i.target j.target

record Indexes (s : Schema) : Type 0 where
  pub kept : list_all (index_is_kept s.types) s.indexes ≡ true
  pub rise : all_rise no_lower s.indexes ≡ true

indexes : (s : Schema) → Indexes s
indexes s =
    let p = and_parts (list_all (index_is_kept s.types) s.indexes) (all_rise no_lower s.indexes) s.kept_indexes in
    record { kept = p.0; rise = p.1 }

same_groups : (s : Schema) → groups 1 s.types s.indexes ≡ s.indexes
same_groups s = groups_same s.types s.indexes (known s) (indexes s).kept (indexes s).rise

-- ---- the schema again

module_back : (phdam : Bool) (rm : Option (List ℕ)) (anch rbn : ℕ) → module_is_kept phdam rm anch rbn ≡ true → rm ≡ cond phdam rm None
module_back true rm anch rbn h = refl
module_back false None anch rbn h = refl
module_back false (Some name) anch rbn h = absurd (false≢true h)

one_back : (phdam : Bool) (rm : Option (List ℕ)) (anch rbn : ℕ) → module_is_kept phdam rm anch rbn ≡ true
    → (anch ≡ cond (is_some (cond phdam rm None)) anch 1) × (rbn ≡ cond (is_some (cond phdam rm None)) rbn 1)
one_back true (Some name) anch rbn h = (refl, refl)
one_back false (Some name) anch rbn h = absurd (false≢true h)
one_back true None anch rbn h =
    let p = and_parts (anch == 1) (rbn == 1) h in
    (eqb-true anch 1 p.0, eqb-true rbn 1 p.1)
one_back false None anch rbn h =
    let p = and_parts (anch == 1) (rbn == 1) h in
    (eqb-true anch 1 p.0, eqb-true rbn 1 p.1)

rebuilt : (s : Schema) → IsSchemaOf (raw_schema_of s) s
rebuilt s =
    let types = same_types s in
    let raws = raw_indexes s.types s.indexes 1 (first_line s) s.types in
    let one = one_back s.phdam s.rm s.anch s.rbn s.module_kept in
    record {
      name = refl;
      phdam = refl;
      rm = module_back s.phdam s.rm s.anch s.rbn s.module_kept;
      anch = one.0;
      rbn = one.1;
      types = sym types;
      indexes = sym (ap (λ (ts : List SegType). indexes_of ts raws) types ∙ indexes_back s.types s.indexes (first_line s) (known s) (indexes s).kept (indexes s).rise);
      parts = sym (parts_rebuilt (raw_dbd_of s) s.types s s.highs);
      blocks = refl;
    }

-- ---- and no rule is broken

names_kept : (s : Schema) → names_repeated (raw_schema_of s) ≡ []
names_kept s =
    let types = raw_types s.types s.indexes 1 (first_line s) s.types in
    let raws = raw_indexes s.types s.indexes 1 (first_line s) s.types in
    let parts = raw_parts_from 1 s.parts in
    let a = names_twice (map type_name types) in
    let b = names_twice (map index_name raws) in
    let c = names_twice (map part_name parts) in
    let d = twice same_number (λ (p : RawPart). partition p.place) parts in
    let e = flat_map (λ (t : RawType). names_twice (field_names raws t)) types in
    both_none (a ++ b ++ c ++ d) e
    (both_none (a ++ b ++ c) d
    (both_none (a ++ b) c
    (both_none a b (type_names_apart s.types s.indexes (first_line s) s.type_names) (index_names_apart s.types s.indexes (first_line s) (same_groups s) s.index_names))
    (part_names_apart s.parts s.part_names))
    (part_numbers_apart s.parts s.part_numbers))
    (fields_apart s.types s.indexes (first_line s) (known s) (same_groups s) s.field_names)

all_counts : (s : Schema) → counts_passed (raw_schema_of s) ≡ []
all_counts s =
    let c = counts s in
    both_none (statement_counts_passed (raw_dbd_of s)) (part_counts_passed (raw_parts_from 1 s.parts))
    (counts_kept s.types s.indexes (first_line s) (same_types s) (same_groups s) c.few c.levels c.fields c.few_indexes) (part_counts_kept s.parts c.some_parts c.few_parts)

none_broken : (rule : ℕ) (places : List Place) (rules : List (List Place)) → places ≡ [] → first_broken (rule + 1) rules ≡ None → first_broken rule (places ∷ rules) ≡ None
none_broken rule places rules e h = ap (λ (places : List Place). option_map_or (λ (place : Place). Some (rule, place)) (least places) (first_broken (rule + 1) rules)) e ∙ h

faultless : (s : Schema) → first_fault (raw_schema_of s) ≡ None
unfolding broken
faultless s =
    let types = raw_types s.types s.indexes 1 (first_line s) s.types in
    let raws = raw_indexes s.types s.indexes 1 (first_line s) s.types in
    let parts = raw_parts_from 1 s.parts in
    let all = broken (raw_schema_of s) in
    let back = same_types s in
    let highs = and_parts (list_all (λ (p : PartDef). length p.high == key_bytes s.types 1) s.parts) (all_rise high_below s.parts) s.highs in
    none_broken 1 (unknown_parents types) (drop 1 all) (parents_known s.types s.indexes (first_line s) (known s))
    (none_broken 2 (misplaced_roots types) (drop 2 all) (roots_placed s.types s.indexes (first_line s) (known s))
    (none_broken 3 (names_repeated (raw_schema_of s)) (drop 3 all) (names_kept s)
    (none_broken 4 (counts_passed (raw_schema_of s)) (drop 4 all) (all_counts s)
    (none_broken 5 (sizes_broken types) (drop 5 all) (sizes_kept s.types s.indexes (first_line s) s.fields)
    (none_broken 6 (sequence_broken types) (drop 6 all) (sequences_kept s.types s.indexes (first_line s) s.keys)
    (none_broken 7 (root_key_broken (slice_get types 0)) (drop 7 all) (root_kept s.types s.indexes (first_line s) s.types s.keys s.root_key)
    (none_broken 8 (letters_unknown types) (drop 8 all) (letters_kept s.types s.indexes (first_line s) s.letters)
    (none_broken 9 (indexes_broken (types_of types) raws) (drop 9 all) (ap (λ (ts : List SegType). indexes_broken ts raws) back ∙ indexes_kept s.types s.indexes (first_line s) (known s) (indexes s).kept)
    (none_broken 10 (highs_broken (types_of types) parts) (drop 10 all) (ap (λ (ts : List SegType). highs_broken ts parts) back ∙ highs_kept s.types s.parts highs.0 highs.1)
    (none_broken 11 (factors_broken (raw_dbd_of s) parts) (drop 11 all) (factors_kept (raw_dbd_of s) s.parts s.kept_parts)
    (none_broken 12 (numbers_broken (raw_parts_of s)) (drop 12 all) (numbers_kept s.phdam (raw_parts_of s) s.parts refl s.kept_blocks s.kept_parts) refl)))))))))))

builds : (s : Schema) → Builds (raw_schema_of s) s
builds s = record { kept = faultless s; said = rebuilt s; alone = λ other h. same_schema (raw_schema_of s) other s h (rebuilt s) }

-- both texts, one behind the other
pub is_definition : SchemasAreKept → (s : Schema) → IsPrintedSchema s → IsDefinitionOf (dbd_text s ++ partitions_text s) s
is_definition all s h =
    let behind : drop (length (dbd_text s)) (dbd_text s ++ partitions_text s) ≡ partitions_text s = drop-append_seam (dbd_text s) (partitions_text s) in
    record {
      raw = raw_schema_of s;
      behind = length (dbd_text s);
      dbd = dbd_read_back s (partitions_text s) h;
      parts = ap partitions_of behind ∙ partitions_read_back all s;
      builds = builds s;
    }
