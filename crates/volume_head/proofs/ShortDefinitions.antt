-- The canonical text of a schema is short: it has place in what a head may say.
use Rattle.std.proofs.Common.{◌≡◌, ℕ, zero, suc, ◌+◌, ◌*◌, ◌^◌, ◌<◌, ◌≤◌, ◌==◌, ◌&&◌, Bool, true, false, not, ◌||◌, cond, nat_le, List, [], ◌∷◌, ◌++◌, length, Option, Some, None, sym, refl, subst, arith, inl, inr, codes}
use Rattle.std.specs.Prelude.{flat_map, sum_by, option_and_then}
use Rattle.std.specs.List.{list_all, list_any, slice_get}
use Rattle.std.specs.Option.{option_map_or}
use Rattle.std.specs.Str.{bytes_eq}
use Rattle.std.proofs.lemmas.Bool.{and_parts, or_cases, leb-true, ltb-true, eqb-true}
use Rattle.std.proofs.lemmas.List.Sums.{sum_by-cons}
use Rattle.std.proofs.lemmas.Slice.Eq.{bytes_eq-Decides}
use Rattle.hex.proofs.HexLemmas.{length-encode_with}
use Rattle.hex.specs.Hex.{encode_upper, upper_digits}
use Rattle.hal_base.specs.Name.{is_name, is_field_name}
use Rattle.hal_schema.specs.declared.schema.Field.{Field}
use Rattle.hal_schema.specs.declared.schema.KeyField.{KeyField}
use Rattle.hal_schema.specs.declared.schema.SegType.{SegType}
use Rattle.hal_schema.specs.declared.schema.IndexDef.{IndexDef}
use Rattle.hal_schema.specs.declared.schema.PartDef.{PartDef}
use Rattle.hal_schema.specs.declared.schema.Schema.{Schema}
use Rattle.hal_schema.specs.SegType.{type_of, key_bytes, entry_bytes}
use Rattle.hal_schema.specs.Facts.{IsKept, SchemasAreKept}
use Rattle.hal_schema.specs.Lawful.{field_fits, fields_are_kept, index_is_kept, index_is_named, is_key_portion, is_within, part_is_kept, part_is_stored, same_field, type_is_named}
use Rattle.definition_printer.specs.Dbd.{dbd_statement, dbd_text, end_text, types_text}
use Rattle.definition_printer.specs.Partitions.{is_plain, number_line, part_text, partitions_text, table_line, text_line}
use Rattle.volume_head.specs.Head.{canonical_text}
use Rattle.volume_head.specs.Definition.{AreShort}
use Rattle.volume_head.proofs.Shortness.{Long, own, long, join, on_lines_fit, name_fits, field_name_fits, number_fits}
use Rattle.volume_head.proofs.ShortTexts.{AllShort, AllTypes, ShortIndex, ShortNames, all_fit, method_fits, rm_fits, types_fit}

-- ---- what a schema keeps of its types

types_short : (types : List SegType) → list_all type_is_named types ≡ true → list_all (λ t. nat_le 1 t.bytes && nat_le t.bytes 2000 && list_all (field_fits t.bytes) t.fields) types ≡ true
    → list_all (λ t. nat_le (length t.fields) 255) types ≡ true → AllTypes types
types_short [] named fit few = tt
types_short (t ∷ more) named fit few =
    let n = and_parts _ _ named in
    let own = and_parts _ _ n.0 in
    let f = and_parts _ _ fit in
    let a = and_parts _ _ f.0 in
    let short : t.bytes ≤ 2000 = leb-true _ _ (and_parts _ _ a.0).1 in
    let k = and_parts _ _ few in (
      record { name = own.0; bytes = short; fields = all_fit t.bytes t.fields (omega (arith, short)) own.1 a.1; few = leb-true _ _ k.0 },
      types_short more n.1 f.1 k.1,
    )

-- ---- and of its indexes

named_at : (types : List SegType) (place : ℕ) (t : SegType) → list_all type_is_named types ≡ true → slice_get types place ≡ Some t → type_is_named t ≡ true
named_at [] place t named at = cc
named_at (s ∷ types) zero t named at = subst (λ (o : Option SegType). option_map_or type_is_named o true ≡ true) at (and_parts _ _ named).0
named_at (s ∷ types) (suc place) t named at = named_at types place t (and_parts _ _ named).1 at

named_type : (types : List SegType) (code : ℕ) (t : SegType) → list_all type_is_named types ≡ true → type_of types code ≡ Some t → type_is_named t ≡ true
named_type types zero t named at = cc
named_type types (suc place) t named at = named_at types place t named at

among_short : (f : Field) (fields : List Field) → list_all (λ f. is_field_name f.name) fields ≡ true → list_any (same_field f) fields ≡ true → length f.name ≤ 8
among_short f [] named any = cc
among_short f (g ∷ fields) named any =
    let n = and_parts _ _ named in
    elim (or_cases _ _ any) [
      | inl here ↦
          let a = and_parts (bytes_eq f.name g.name && f.start == g.start) (f.bytes == g.bytes) here in
          let b = and_parts (bytes_eq f.name g.name) (f.start == g.start) a.0 in
          let name : f.name ≡ g.name = (bytes_eq-Decides f.name g.name).0 b.0 in
          subst (λ (text : List ℕ). length text ≤ 8) (sym name) (field_name_fits g.name n.0)
      | inr later ↦ among_short f fields n.1 later
    ]

search_short : (fields fs : List Field) → list_all (λ f. is_field_name f.name) fields ≡ true → list_all (λ f. not (is_key_portion f.name) && list_any (same_field f) fields) fs ≡ true → ShortNames fs
search_short fields [] named all = tt
search_short fields (f ∷ fs) named all =
    let a = and_parts _ _ all in
    (among_short f fields named (and_parts _ _ a.0).1, search_short fields fs named a.1)

subseq_short : (path : ℕ) (fields fs : List Field) → list_all (λ f. is_field_name f.name) fields ≡ true
    → list_all (λ f. is_key_portion f.name && list_any (same_field f) fields && is_within path f.start f.bytes) fs ≡ true → ShortNames fs × (length fs ≤ sum_by (λ (f : Field). f.bytes) fs)
subseq_short path fields [] named all = (tt, omega arith)
subseq_short path fields (f ∷ fs) named all =
    let a = and_parts _ _ all in
    let b = and_parts _ _ a.0 in
    let some : 1 ≤ f.bytes = leb-true 1 f.bytes (and_parts _ _ (and_parts _ _ b.1).0).1 in
    let later = subseq_short path fields fs named a.1 in
    let more : length fs ≤ sum_by (λ (f : Field). f.bytes) fs = later.1 in
    let step : sum_by (λ (f : Field). f.bytes) (f ∷ fs) ≡ f.bytes + sum_by (λ (f : Field). f.bytes) fs = sum_by-cons (λ (f : Field). f.bytes) f fs in
    ((among_short f fields named (and_parts _ _ b.0).1, later.0), omega (arith, some, more, step))

index_short_by : (types : List SegType) (i : IndexDef) (o : Option SegType) → list_all type_is_named types ≡ true → type_of types i.source ≡ o → option_map_or (fields_are_kept types i) o false ≡ true
    → index_is_named i ≡ true → length i.search ≤ 5 → entry_bytes i ≤ 240 → ShortIndex i
index_short_by types i None named at kept own few short = cc
index_short_by types i (Some t) named at kept own few short =
    let lists = and_parts _ _ kept in
    let fields = (and_parts _ _ (named_type types i.source t named at)).1 in
    let names = and_parts _ _ own in
    let front = and_parts _ _ names.0 in
    let behind = subseq_short _ t.fields i.subseq fields lists.1 in
    let long = behind.1 in
    record {
      seg = name_fits i.seg front.0;
      name = name_fits i.name front.1;
      xdfld = name_fits i.xdfld names.1;
      search = search_short t.fields i.search fields lists.0;
      few_search = few;
      subseq = behind.0;
      few_subseq = omega (arith, long, short);
    }

indexes_short : (types : List SegType) (indexes : List IndexDef) → list_all type_is_named types ≡ true → list_all index_is_named indexes ≡ true → list_all (index_is_kept types) indexes ≡ true → AllShort indexes
indexes_short types [] named own kept = tt
indexes_short types (i ∷ more) named own kept =
    let n = and_parts _ _ own in
    let k = and_parts _ _ kept in
    let a = and_parts _ _ k.0 in
    let b = and_parts _ _ a.0 in
    let c = and_parts _ _ b.0 in
    (index_short_by types i (type_of types i.source) named refl b.1 n.0 (leb-true _ _ c.1) (leb-true _ _ a.1), indexes_short types more named n.1 k.1)

-- ---- the partition file

text_line_fits : {k n : ℕ} {key text : List ℕ} → Long k key → Long n text → Long (k + 6 + n) (text_line key text)
unfolding text_line
text_line_fits a b = let all = (join (join (join a (own (codes " = \""))) b) (own (codes "\"\n"))).fits in record { fits = omega (arith, all) }

number_line_fits : {k : ℕ} {key : List ℕ} (number : ℕ) → Long k key → number < 2 ^ 32 → Long (k + 14) (number_line key number)
unfolding number_line
number_line_fits number a b = let all = (join (join (join a (own (codes " = "))) (long (number_fits number b))) (own (codes "\n"))).fits in record { fits = omega (arith, all) }

high_by : (v : Bool) (high : List ℕ) → length high ≤ 100 → length (cond v high (codes "X'" ++ encode_upper high ++ codes "'")) ≤ 203
high_by true high h = omega (arith, h)
high_by false high h =
    let digits = length-encode_with upper_digits high in
    let all = (join (join (own (codes "X'")) (own (encode_upper high))) (own (codes "'"))).fits in
    omega (arith, all, digits, h)

-- a partition whose name, key and numbers are short
record ShortPart (p : PartDef) : Type 0 where
  name : is_name p.name ≡ true
  number : p.number ≤ 32767
  high : length p.high ≤ 100
  anchors : p.anchors < 2 ^ 32
  fbff : p.fbff ≤ 100
  fspf : p.fspf ≤ 99

part_fits : (p : PartDef) → ShortPart p → length (part_text p) ≤ 322
unfolding part_text table_line
part_fits p h =
    let number = h.number in
    let fbff = h.fbff in
    let fspf = h.fspf in
    let named = join (text_line_fits (own (codes "name")) (long (name_fits p.name h.name))) (number_line_fits p.number (own (codes "number")) (omega (arith, number))) in
    let high = join named (text_line_fits (own (codes "high")) (long (high_by (list_all is_plain p.high) p.high h.high))) in
    let spaces = join (number_line_fits p.anchors (own (codes "anchors")) h.anchors) (number_line_fits p.fbff (own (codes "fbff")) (omega (arith, fbff))) in
    let rest = join spaces (number_line_fits p.fspf (own (codes "fspf")) (omega (arith, fspf))) in
    let all = (join (join (own table_line) high) rest).fits in
    omega (arith, all)

abbrev AllParts : List PartDef → Type 0
AllParts [] = Unit {0}
AllParts (p ∷ more) = ShortPart p × AllParts more

parts_fit : (most : ℕ) (parts : List PartDef) → AllParts parts → length parts ≤ most → length (flat_map part_text parts) ≤ most * 322
parts_fit most [] all few = omega arith
parts_fit zero (p ∷ parts) all few = absurd (omega (arith, few))
parts_fit (suc most) (p ∷ parts) all few =
    let a = (join (long (part_fits p all.0)) (long (parts_fit most parts all.1 (omega (arith, few))))).fits in
    omega (arith, a)

free_blocks_short : (fbff : ℕ) → (fbff == 0 || (nat_le 2 fbff && nat_le fbff 100)) ≡ true → fbff ≤ 100
free_blocks_short fbff h = elim (or_cases (fbff == 0) (nat_le 2 fbff && nat_le fbff 100) h) [
  | inl none ↦ let zero_is : fbff ≡ 0 = eqb-true fbff 0 none in omega (arith, zero_is)
  | inr some ↦ leb-true _ _ (and_parts _ _ some).1
]

parts_short : (phdam : Bool) (key : ℕ) (parts : List PartDef) → key ≤ 100 → list_all (λ p. is_name p.name) parts ≡ true → list_all (part_is_kept phdam) parts ≡ true → list_all part_is_stored parts ≡ true
    → list_all (λ p. length p.high == key) parts ≡ true → AllParts parts
parts_short phdam key [] short named kept stored high = tt
parts_short phdam key (p ∷ more) short named kept stored high =
    let n = and_parts _ _ named in
    let k = and_parts _ _ kept in
    let own = and_parts _ _ k.0 in
    let factors = and_parts _ _ own.0 in
    let s = and_parts _ _ stored in
    let h = and_parts _ _ high in
    let size : length p.high ≡ key = eqb-true _ _ h.0 in
    let anchors : p.anchors < 4294967296 = ltb-true _ _ (and_parts _ _ s.0).0 in (
      record {
        name = n.0;
        number = leb-true _ _ (and_parts _ _ own.1).1;
        high = omega (arith, size, short);
        anchors = omega (arith, anchors);
        fbff = free_blocks_short p.fbff (and_parts _ _ factors.0).1;
        fspf = leb-true _ _ factors.1;
      },
      parts_short phdam key more short n.1 k.1 s.1 h.1,
    )

-- ---- the whole text

dbd_fits : (schema : Schema) → is_name schema.name ≡ true → option_map_or is_name schema.rm true ≡ true → schema.anch < 2 ^ 32 → schema.rbn < 2 ^ 32 → Long 73 (dbd_statement schema)
unfolding dbd_statement
dbd_fits schema name rm anch rbn =
    let front = join (join (join (own (codes "DBD NAME=")) (long (name_fits schema.name name))) (own (codes ",ACCESS=("))) (long (method_fits schema.phdam)) in
    let all = (join (join front (own (codes ")"))) (long (rm_fits schema.phdam schema.rm schema.anch schema.rbn rm anch rbn))).fits in
    record { fits = omega (arith, all) }

end_fits : Long 48 end_text
end_fits =
    let all = (join (join (on_lines_fit (own (codes "DBDGEN"))) (on_lines_fit (own (codes "FINISH")))) (on_lines_fit (own (codes "END")))).fits in
    record { fits = omega (arith, all) }

text_fits : (schema : Schema) → Long 73 (dbd_statement schema) → length (types_text schema.types schema.indexes 1 schema.types) ≤ 41536440 → Long 41536708 (dbd_text schema)
unfolding dbd_text
text_fits schema front types =
    let all = (join (join (on_lines_fit front) (long types)) end_fits).fits in
    record { fits = omega (arith, all) }

file_fits : (schema : Schema) → schema.blocks < 2 ^ 32 → AllParts schema.parts → length schema.parts ≤ 100 → Long 32220 (partitions_text schema)
unfolding partitions_text
file_fits schema blocks all few =
    let short = (join (number_line_fits schema.blocks (own (codes "blocks")) blocks) (long (parts_fit 100 schema.parts all few))).fits in
    record { fits = omega (arith, short) }

root_key_short : (schema : Schema) → IsKept schema → key_bytes schema.types 1 ≤ 100
root_key_short schema kept =
    let (t, k, at, is, unique) = kept.root_key in
    let short = ((kept.types 1 t at).key k is).short in
    subst (λ (o : Option SegType). option_map_or (λ (k : KeyField). k.bytes) (option_and_then (λ (t : SegType). t.key) o) 0 ≤ 100) (sym at)
    (subst (λ (o : Option KeyField). option_map_or (λ (k : KeyField). k.bytes) o 0 ≤ 100) (sym is) short)

pub definitions_are_short : SchemasAreKept → AreShort
unfolding canonical_text
definitions_are_short kept schema anch rbn =
    let k = kept schema in
    let names = and_parts _ _ schema.names in
    let over_indexes = and_parts _ _ names.0 in
    let over_types = and_parts _ _ over_indexes.0 in
    let own = and_parts _ _ over_types.0 in
    let counts = and_parts _ _ schema.counts in
    let with_parts = and_parts _ _ counts.0 in
    let with_indexes = and_parts _ _ with_parts.0 in
    let with_fields = and_parts _ _ with_indexes.0 in
    let blocks = k.few_blocks in
    let types = types_short schema.types over_types.1 schema.fields with_fields.1 in
    let indexes = indexes_short schema.types schema.indexes over_types.1 over_indexes.1 (and_parts _ _ schema.kept_indexes).0 in
    let parts = parts_short schema.phdam (key_bytes schema.types 1) schema.parts (root_key_short schema k) names.1 schema.kept_parts schema.stored_parts (and_parts _ _ schema.highs).0 in
    let text = text_fits schema (dbd_fits schema own.0 own.1 anch rbn) (types_fit schema.types schema.indexes 255 1 schema.types over_types.1 indexes k.few_indexes types k.few_types) in
    let file = file_fits schema (omega (arith, blocks)) parts k.few_parts in
    let all = (join text file).fits in
    omega (arith, all)
