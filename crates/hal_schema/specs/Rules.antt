-- The rules of a definition: each one's places are those at which it is broken.
use Rattle.std.specs.Prelude.{ℕ, ◌+◌, ◌==◌, nat_lt, nat_le, Bool, false, ◌&&◌, ◌||◌, not, List, [], ◌∷◌, ◌++◌, length, Option, None, Some, map}
use Rattle.std.specs.Prelude.{filter, flat_map, is_some, is_none, if◌then◌else◌}
use Rattle.std.specs.List.{enumerate_from, list_any, slice_get}
use Rattle.std.specs.Option.{option_map_or}
use Rattle.std.specs.Str.{bytes_eq}
use Rattle.hal_schema.specs.declared.fault.Place.{Place}
use Rattle.hal_schema.specs.declared.rules.names.Named.{Named}
use Rattle.hal_schema.specs.declared.raw.RawField.{RawField}
use Rattle.hal_schema.specs.declared.raw.RawType.{RawType}
use Rattle.hal_schema.specs.declared.raw.RawIndex.{RawIndex}
use Rattle.hal_schema.specs.declared.raw.RawPart.{RawPart}
use Rattle.hal_schema.specs.declared.raw.RawParts.{RawParts}
use Rattle.hal_schema.specs.declared.raw.RawDbd.{RawDbd}
use Rattle.hal_schema.specs.declared.raw.RawSchema.{RawSchema}
use Rattle.hal_schema.specs.declared.schema.SegType.{SegType}
use Rattle.hal_schema.specs.SegType.{level_of, key_bytes}
use Rattle.hal_schema.specs.Places.{statement, partition, when, twice, passing, least}
use Rattle.hal_schema.specs.Lawful.{is_key_portion, field_fits, index_is_kept, factors_fit, number_fits, blocks_are_kept}
use Rattle.hal_schema.specs.Raw.{code_of, field_of, is_sequence_field, types_of, index_of, part_of}

-- 1: a parent isn't a segment defined before
abbrev pub is_unknown_parent : List RawType → ℕ → Option (List ℕ) → Bool
is_unknown_parent types code None = false
is_unknown_parent types code (Some parent) = not (option_map_or (λ known. nat_lt known code) (code_of types parent) false)

abbrev pub unknown_parents : List RawType → List Place
unknown_parents types = flat_map (λ t. when (is_unknown_parent types t.0 t.1.parent) (statement t.1.line)) (enumerate_from 1 types)

-- 2: the first segment has a parent, or a later one has none
abbrev pub misplaced_roots : List RawType → List Place
misplaced_roots types = flat_map (λ t. when (if t.0 == 1 then is_some t.1.parent else is_none t.1.parent) (statement t.1.line)) (enumerate_from 1 types)

-- 3: a segment, index or partition name, a partition number, or a field name stands twice; an XDFLD counts as a field of its target
abbrev pub same_name : Named → Named → Bool
same_name a b = bytes_eq a.name b.name

abbrev pub names_twice : List Named → List Place
names_twice = twice same_name (λ named. named.place)

abbrev pub type_name : RawType → Named
type_name t = record { name = t.name; place = statement t.line }

abbrev pub index_name : RawIndex → Named
index_name i = record { name = i.name; place = statement i.line }

abbrev pub part_name : RawPart → Named
part_name p = record { name = p.name; place = partition p.place }

abbrev pub named_fields : List RawField → List Named
named_fields fields = map (λ f. record { name = f.name; place = statement f.line }) fields

abbrev pub xdflds_of : List RawIndex → List ℕ → List Named
xdflds_of indexes target = map (λ i. record { name = i.xdfld; place = statement i.line }) (filter (λ i. bytes_eq i.target target) indexes)

abbrev pub field_names : List RawIndex → RawType → List Named
field_names indexes t = named_fields t.fields ++ xdflds_of indexes t.name

abbrev pub same_number : RawPart → RawPart → Bool
same_number p q = p.number == q.number

abbrev pub names_repeated : RawSchema → List Place
names_repeated raw =
    names_twice (map type_name raw.dbd.types) ++ names_twice (map index_name raw.dbd.indexes) ++ names_twice (map part_name raw.parts.parts)
    ++ twice same_number (λ p. partition p.place) raw.parts.parts ++ flat_map (λ t. names_twice (field_names raw.dbd.indexes t)) raw.dbd.types

-- 4: more than 255 types, 15 levels, 255 fields in a segment or 16 indexes, or not 1 to 100 partitions; each item that passes a count is a place
abbrev pub statement_counts_passed : RawDbd → List Place
statement_counts_passed dbd =
    passing 255 (map (λ t. statement t.line) dbd.types)
    ++ flat_map (λ t. when (nat_lt 15 (level_of (types_of dbd.types) t.0)) (statement t.1.line)) (enumerate_from 1 dbd.types)
    ++ flat_map (λ t. passing 255 (map (λ f. statement f.line) t.fields)) dbd.types ++ passing 16 (map (λ i. statement i.line) dbd.indexes)

abbrev pub part_counts_passed : List RawPart → List Place
part_counts_passed parts = when (length parts == 0) (partition 0) ++ passing 100 (map (λ p. partition p.place) parts)

abbrev pub counts_passed : RawSchema → List Place
counts_passed raw = statement_counts_passed raw.dbd ++ part_counts_passed raw.parts.parts

-- 5: BYTES isn't 1 to 2,000, or a field has no bytes or leaves its segment, or a number of a /CK field is above 65,535
abbrev pub sizes_in : RawType → List Place
sizes_in t = when (not (nat_le 1 t.bytes && nat_le t.bytes 2000)) (statement t.line)
    ++ flat_map (λ f. when (not (field_fits t.bytes (field_of f))) (statement f.line)) t.fields

abbrev pub sizes_broken : List RawType → List Place
sizes_broken types = flat_map sizes_in types

-- 6: a segment has two sequence fields, or one is longer than 100 or is a /CK field
abbrev pub both_sequence : RawField → RawField → Bool
both_sequence f g = is_sequence_field f && is_sequence_field g

abbrev pub sequence_broken : List RawType → List Place
sequence_broken types = flat_map (λ t. twice both_sequence (λ f. statement f.line) t.fields
    ++ flat_map (λ f. when (is_sequence_field f && (nat_lt 100 f.bytes || is_key_portion f.name)) (statement f.line)) t.fields) types

-- 7: the root has no sequence field, or one with M
abbrev pub root_key_broken : Option RawType → List Place
root_key_broken None = []
root_key_broken (Some t) = when (not (list_any is_sequence_field t.fields)) (statement t.line) ++ flat_map (λ f. when (nat_lt 1 f.seq) (statement f.line)) t.fields

-- 8: DSGROUP isn't A to J
abbrev pub letters_unknown : List RawType → List Place
letters_unknown types = flat_map (λ t. when (not (nat_le 65 t.letter && nat_le t.letter 74)) (statement t.line)) types

-- 9: a name of an index is unknown, or the index isn't one of its types
abbrev pub indexes_broken : List SegType → List RawIndex → List Place
indexes_broken types indexes = flat_map (λ i. when (not (option_map_or (index_is_kept types) (index_of types i) false)) (statement i.line)) indexes

-- 10: a high key hasn't the root key's length, or two are equal
abbrev pub same_high : RawPart → RawPart → Bool
same_high p q = bytes_eq p.high q.high

abbrev pub high_is_long : ℕ → RawPart → Bool
high_is_long bytes p = length p.high == bytes

abbrev pub highs_broken : List SegType → List RawPart → List Place
highs_broken types parts =
    flat_map (λ p. when (not (high_is_long (key_bytes types 1) p)) (partition p.place)) parts ++ twice same_high (λ p. partition p.place) parts

-- 11: PHDAM anchors aren't 1 to 1,000,000, fbff isn't 0 or 2 to 100, or fspf isn't 0 to 99
abbrev pub factors_broken : RawDbd → List RawPart → List Place
factors_broken dbd parts = flat_map (λ p. when (not (factors_fit dbd.phdam (part_of dbd p))) (partition p.place)) parts

-- 12: blocks aren't 1 to 65,536, or a partition number isn't 1 to 32,767
abbrev pub numbers_broken : RawParts → List Place
numbers_broken parts = when (not (blocks_are_kept parts.blocks)) (partition 0)
    ++ flat_map (λ p. when (not (number_fits p.number)) (partition p.place)) parts.parts

-- by rule, from rule 1 on: the places at which the rule is broken
unfoldable pub broken : RawSchema → List (List Place)
broken raw =
    unknown_parents raw.dbd.types ∷ misplaced_roots raw.dbd.types ∷ names_repeated raw ∷ counts_passed raw ∷ sizes_broken raw.dbd.types ∷ sequence_broken raw.dbd.types
    ∷ root_key_broken (slice_get raw.dbd.types 0) ∷ letters_unknown raw.dbd.types ∷ indexes_broken (types_of raw.dbd.types) raw.dbd.indexes
    ∷ highs_broken (types_of raw.dbd.types) raw.parts.parts ∷ factors_broken raw.dbd raw.parts.parts ∷ numbers_broken raw.parts ∷ []

-- the least rule that is broken, and the first of its places
abbrev pub first_broken : ℕ → List (List Place) → Option (ℕ × Place)
first_broken rule [] = None
first_broken rule (places ∷ rules) = option_map_or (λ place. Some (rule, place)) (least places) (first_broken (rule + 1) rules)

-- what a definition is refused for, none where it keeps all rules
abbrev pub first_fault : RawSchema → Option (ℕ × Place)
first_fault raw = first_broken 1 (broken raw)
