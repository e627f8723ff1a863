-- What every schema keeps, from the tests that it keeps.
use Rattle.std.proofs.Common.{◌≡◌, ℕ, zero, suc, ◌+◌, ◌<◌, ◌≤◌, ◌==◌, Bool, true, false, ◌&&◌, ◌||◌, not, cond, nat_le, List, [], ◌∷◌, length, Option, Some, None, refl, sym, ap, subst, ◌∙◌, arith, ◌⊎◌, inl, inr}
use Rattle.std.specs.Prelude.{option_and_then}
use Rattle.std.specs.List.{list_all, list_any, enumerate_from}
use Rattle.std.specs.Option.{option_map_or}
use Rattle.std.proofs.lemmas.Bool.{and_parts, or_cases, eqb-true, leb-true, not-true, true≢false, cases_lt}
use Rattle.hal_schema.specs.declared.schema.Field.{Field}
use Rattle.hal_schema.specs.declared.schema.KeyField.{KeyField}
use Rattle.hal_schema.specs.declared.schema.SegType.{SegType}
use Rattle.hal_schema.specs.declared.schema.IndexDef.{IndexDef}
use Rattle.hal_schema.specs.declared.schema.PartDef.{PartDef}
use Rattle.hal_schema.specs.declared.schema.Schema.{Schema}
use Rattle.hal_schema.specs.SegType.{type_of, parent_code, level_of, key_bytes, path_key_bytes}
use Rattle.hal_schema.specs.Lawful.{is_key_portion, is_key_field, is_within, field_fits, parents_are_before, parent_is_before, index_is_kept, part_is_kept, same_field}
use Rattle.hal_schema.specs.Facts.{LiesIn, KeepsType, KeepsIndex, KeepsPart, SchemasAreKept}
use Rattle.hal_schema.proofs.Ancestry.{types_lower, ancestry-child, level-child, level-root, level-short, path-child, all_places}
use Rattle.hal_schema.proofs.Kept.{counts_from, level_within}
use Rattle.hal_schema.proofs.Indexes.{all_at, all_weaker, among_fits, index_parts, source_known}

lies : (all start bytes : ℕ) → is_within all start bytes ≡ true → LiesIn all start bytes
lies all start bytes h =
    let a = and_parts _ _ h in
    let b = and_parts _ _ a.0 in
    record { from = leb-true _ _ b.0; some = leb-true _ _ b.1; within = leb-true _ _ a.1 }

field_lies : (all : ℕ) (f : Field) → is_key_portion f.name ≡ false → field_fits all f ≡ true → LiesIn all f.start f.bytes
field_lies all f free fits = lies all f.start f.bytes (sym (ap (λ (b : Bool). cond b (nat_le f.start 65535 && nat_le f.bytes 65535) (is_within all f.start f.bytes)) free) ∙ fits)

-- a sequence field lies in the content, since a field stands at its place
key_lies : (all : ℕ) (k : KeyField) (fields : List Field) → list_any (is_key_field k) fields ≡ true → list_all (field_fits all) fields ≡ true → LiesIn all k.start k.bytes
key_lies all k [] any fit = cc
key_lies all k (f ∷ fields) any fit =
    elim (or_cases _ _ any) [
      | inl here ↦
          let a = and_parts (f.start == k.start && f.bytes == k.bytes) (not (is_key_portion f.name)) here in
          let b = and_parts (f.start == k.start) (f.bytes == k.bytes) a.0 in
          let start : f.start ≡ k.start = eqb-true _ _ b.0 in
          let bytes : f.bytes ≡ k.bytes = eqb-true _ _ b.1 in
          let l = field_lies all f (not-true _ a.1) (and_parts _ _ fit).0 in
          subst (λ (s : ℕ). LiesIn all s k.bytes) start (subst (λ (n : ℕ). LiesIn all f.start n) bytes l)
      | inr later ↦ key_lies all k fields later (and_parts _ _ fit).1
    ]

some_key : (o : Option KeyField) (p : KeyField → Bool) (k : KeyField) → option_map_or p o true ≡ true → o ≡ Some k → p k ≡ true
some_key o p k h e = ap (λ o. option_map_or p o true) (sym e) ∙ h

type_at : (p : SegType → Bool) (types : List SegType) (code : ℕ) (t : SegType) → list_all p types ≡ true → type_of types code ≡ Some t → p t ≡ true
type_at p types zero t h e = cc
type_at p types (suc k) t h e = all_at p types k t h e

keeps_type : (schema : Schema) (code : ℕ) (t : SegType) → list_all (λ t. nat_le (length t.fields) 255) schema.types ≡ true → type_of schema.types code ≡ Some t → KeepsType t
keeps_type schema code t few e =
    let fit = type_at (λ t. nat_le 1 t.bytes && nat_le t.bytes 2000 && list_all (field_fits t.bytes) t.fields) schema.types code t schema.fields e in
    let a = and_parts _ _ fit in
    let b = and_parts _ _ a.0 in
    let letter = and_parts _ _ (type_at (λ t. nat_le 65 t.letter && nat_le t.letter 74) schema.types code t schema.letters e) in
    let key = type_at (λ t. option_map_or (λ k. nat_le k.bytes 100 && list_any (is_key_field k) t.fields) t.key true) schema.types code t schema.keys e in
    record {
      some = leb-true _ _ b.0;
      short = leb-true _ _ b.1;
      few_fields = leb-true _ _ (type_at (λ t. nat_le (length t.fields) 255) schema.types code t few e);
      letter_from = leb-true _ _ letter.0;
      letter_to = leb-true _ _ letter.1;
      fields = λ place f at free. field_lies t.bytes f free (all_at (field_fits t.bytes) t.fields place f a.1 at);
      key = λ k is.
          let c = and_parts _ _ (some_key t.key (λ k. nat_le k.bytes 100 && list_any (is_key_field k) t.fields) k key is) in
          record { field = key_lies t.bytes k t.fields c.1 a.1; short = leb-true _ _ c.0 };
    }

keeps_index : (schema : Schema) (i : IndexDef) → index_is_kept schema.types i ≡ true → (t : SegType) × KeepsIndex schema.types i t
keeps_index schema i h =
    let a = and_parts _ _ h in
    let b = and_parts _ _ a.0 in
    let c = and_parts _ _ b.0 in
    let d = and_parts _ _ c.0 in
    let t = source_known schema.types i h in
    let parts = index_parts schema.types i t.0 h t.1 in
    let fit = and_parts _ _ (type_at (λ t. nat_le 1 t.bytes && nat_le t.bytes 2000 && list_all (field_fits t.bytes) t.fields) schema.types i.source t.0 schema.fields t.1) in
    let search : list_all (λ f. is_within t.0.bytes f.start f.bytes) i.search ≡ true =
    all_weaker (λ f. not (is_key_portion f.name) && list_any (same_field f) t.0.fields) (λ f. is_within t.0.bytes f.start f.bytes)
    (λ f h. among_fits t.0.bytes f t.0.fields (and_parts _ _ h).0 (and_parts _ _ h).1 fit.1) i.search parts.search in
    let subseq : list_all (λ f. is_within (path_key_bytes schema.types i.source) f.start f.bytes) i.subseq ≡ true =
    all_weaker (λ f. is_key_portion f.name && list_any (same_field f) t.0.fields && is_within (path_key_bytes schema.types i.source) f.start f.bytes) (λ f. is_within (path_key_bytes schema.types i.source) f.start f.bytes)
    (λ f h. (and_parts _ _ h).1) i.subseq parts.subseq in (
      t.0,
      record {
        source = t.1;
        target = d.0;
        some_search = leb-true _ _ d.1;
        few_search = leb-true _ _ c.1;
        search = λ place f at. lies t.0.bytes f.start f.bytes (all_at (λ f. is_within t.0.bytes f.start f.bytes) i.search place f search at);
        subseq = λ place f at. lies (path_key_bytes schema.types i.source) f.start f.bytes (all_at (λ f. is_within (path_key_bytes schema.types i.source) f.start f.bytes) i.subseq place f subseq at);
        short = leb-true _ _ a.1;
      },
    )

few_or_none : (n : ℕ) → (n == 0 || (nat_le 2 n && nat_le n 100)) ≡ true → n ≤ 100
few_or_none n h =
    elim (or_cases _ _ h) [
      | inl none ↦ let e = eqb-true n 0 none in omega arith
      | inr some ↦ leb-true _ _ (and_parts _ _ some).1
    ]

anchors_kept : (phdam : Bool) (n : ℕ) → (not phdam || (nat_le 1 n && nat_le n 1000000)) ≡ true → phdam ≡ true → (1 ≤ n) × (n ≤ 1000000)
anchors_kept true n h e = let a = and_parts _ _ h in (leb-true _ _ a.0, leb-true _ _ a.1)
anchors_kept false n h e = absurd (true≢false (sym e))

not_one : (n : ℕ) → n ≡ 1 → (n == 0 || (nat_le 2 n && nat_le n 100)) ≡ true → ⊥
not_one n one h = let P : ℕ → Type 0 = λ m. (m == 0 || (nat_le 2 m && nat_le m 100)) ≡ true in let no : false ≡ true = subst P one h in cc

keeps_part : (schema : Schema) (p : PartDef) → part_is_kept schema.phdam p ≡ true → (length p.high == key_bytes schema.types 1) ≡ true → KeepsPart schema p
keeps_part schema p h high =
    let a = and_parts _ _ h in
    let b = and_parts _ _ a.0 in
    let c = and_parts _ _ b.0 in
    let number = and_parts _ _ a.1 in
    record {
      high = eqb-true _ _ high;
      number_from = leb-true _ _ number.0;
      number_to = leb-true _ _ number.1;
      some_anchors = λ e. (anchors_kept schema.phdam p.anchors c.0 e).0;
      few_anchors = λ e. (anchors_kept schema.phdam p.anchors c.0 e).1;
      free_blocks = few_or_none p.fbff c.1;
      not_each_block = λ one. not_one p.fbff one c.1;
      free_space = leb-true _ _ b.1;
    }

only_one : (code : ℕ) (parent : Option ℕ) → parent_is_before code parent ≡ true → parent ≡ None → code ≡ 1
only_one code None h e = eqb-true _ _ h
only_one code (Some above) h e = cc

only_root : (types : List SegType) (code : ℕ) (t : SegType) → parents_are_before types ≡ true → type_of types code ≡ Some t → t.parent ≡ None → code ≡ 1
only_root types zero t h e none = cc
only_root types (suc k) t h e none =
    let m : 1 + k ≡ suc k = omega arith in
    sym m ∙ only_one (1 + k) t.parent (all_places (λ t. parent_is_before t.0 t.1.parent) types 1 k t h e) none

first_parent : (o : Option ℕ) → ((above : ℕ) → o ≡ Some above → (0 < above) × (above < 1)) → o ≡ None
first_parent None h = refl
first_parent (Some above) h = let both = h above refl in absurd (omega (arith, both.0, both.1))

has_level : (types : List SegType) (code : ℕ) → 0 < code → 1 ≤ level_of types code
has_level types zero z = absurd (omega arith)
has_level types (suc code) z = omega arith

key_found : (o : Option KeyField) → option_map_or (λ k. k.unique) o false ≡ true → (k : KeyField) × (o ≡ Some k) × (k.unique ≡ true)
key_found None h = cc
key_found (Some k) h = (k, refl, h)

root_found : (o : Option SegType) → option_map_or (λ k. k.unique) (option_and_then (λ t. t.key) o) false ≡ true → (t : SegType) × (k : KeyField) × (o ≡ Some t) × (t.key ≡ Some k) × (k.unique ≡ true)
root_found None h = cc
root_found (Some t) h = let k = key_found t.key h in (t, k.0, refl, k.1, k.2)

few_levels : (types : List SegType) (code : ℕ) → list_all (λ t. nat_le (level_of types t.0) 15) (enumerate_from 1 types) ≡ true → ((code : ℕ) → length types < code → level_of types code ≤ 15) → level_of types code ≤ 15
few_levels types zero h past = let s = level-short types zero in omega arith
few_levels types (suc k) h past = by (cases_lt (length types) (suc k))
  where
    by : (length types < suc k) ⊎ (suc k ≤ length types) → level_of types (suc k) ≤ 15
    by (inl far) = past (suc k) far
    by (inr known) = level_within types (suc k) h (omega arith) known

unknown_parent : (types : List SegType) (code : ℕ) → length types < code → parent_code types code ≡ None
unknown_parent types zero h = absurd (omega arith)
unknown_parent [] (suc k) h = refl
unknown_parent (t ∷ types) (suc zero) h = absurd (omega arith)
unknown_parent (t ∷ types) (suc (suc k)) h = unknown_parent types (suc k) (omega arith)

unknown_level : (types : List SegType) (code : ℕ) → length types < code → level_of types code ≤ 15
unknown_level types code h = let one = level-root types code (omega arith) (unknown_parent types code h) in omega arith

pub schema_is_kept : SchemasAreKept
schema_is_kept schema =
    let types = schema.types in
    let low = types_lower types schema.parents in
    let counts = counts_from types schema.indexes schema.parts schema.counts in
    let a = and_parts _ _ schema.counts in
    let b = and_parts _ _ a.0 in
    let c = and_parts _ _ b.0 in
    let d = and_parts _ _ c.0 in
    let root : parent_code types 1 ≡ None = first_parent (parent_code types 1) (λ above e. (low.above 1 above e, low.below 1 above e)) in
    let indexes = and_parts _ _ schema.kept_indexes in
    let highs = and_parts _ _ schema.highs in
    let blocks = and_parts _ _ schema.kept_blocks in
    record {
      some_types = counts.some;
      few_types = counts.few;
      root = root;
      root_level = level-root types 1 (omega arith) root;
      below = λ above code e.
          let up = low.above code above e in
          let down = low.below code above e in
          let some : 0 < code = omega arith in
          record {
            some = up;
            lower = down;
            level = level-child types schema.parents code above some e;
            path = ancestry-child (parent_code types) low code above some e;
            path_key = path-child types schema.parents code above some e;
          };
      has_level = has_level types;
      few_levels = λ code. few_levels types code counts.levels (unknown_level types);
      only_root = λ code t e none. only_root types code t schema.parents e none;
      types = λ code t e. keeps_type schema code t d.1 e;
      root_key = root_found (type_of types 1) schema.root_key;
      few_indexes = counts.few_indexes;
      indexes = λ place i at. keeps_index schema i (all_at (index_is_kept types) schema.indexes place i indexes.0 at);
      some_parts = counts.some_parts;
      few_parts = counts.few_parts;
      parts = λ place p at. keeps_part schema p (all_at (part_is_kept schema.phdam) schema.parts place p schema.kept_parts at) (all_at (λ p. length p.high == key_bytes types 1) schema.parts place p highs.0 at);
      some_blocks = leb-true _ _ blocks.0;
      few_blocks = leb-true _ _ blocks.1;
    }
