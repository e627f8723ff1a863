-- The names and counts of what the canonical text says break no rule.
use Rattle.std.proofs.Common.{◌≡◌, ℕ, zero, suc, ◌+◌, ◌≤◌, ◌==◌, Bool, true, false, nat_lt, nat_le, cond, List, [], ◌∷◌, ◌++◌, length, map, filter, Option, Some, slice_get, refl, sym, ap, arith, ◌∙◌}
use Rattle.std.specs.List.{list_all, flat_map, enumerate_from}
use Rattle.std.specs.Option.{option_map_or}
use Rattle.std.specs.Str.{bytes_eq}
use Rattle.std.proofs.lemmas.Bool.{and_parts, and_from, eqb-true, leb-true, le-ltb, eq-eqb}
use Rattle.std.proofs.lemmas.List.{map-append, length-map}
use Rattle.std.proofs.lemmas.List.Elements.{filter-append}
use Rattle.std.proofs.lemmas.List.Folds.{list_all-append}
use Rattle.std.proofs.lemmas.Option.{same_Some}
use Rattle.std.proofs.lemmas.Slice.Eq.{bytes_eq-Decides}
use Rattle.hal_schema.specs.declared.rules.names.Named.{Named}
use Rattle.hal_schema.specs.declared.raw.RawField.{RawField}
use Rattle.hal_schema.specs.declared.raw.RawIndex.{RawIndex}
use Rattle.hal_schema.specs.declared.raw.RawType.{RawType}
use Rattle.hal_schema.specs.declared.schema.Field.{Field}
use Rattle.hal_schema.specs.declared.schema.IndexDef.{IndexDef}
use Rattle.hal_schema.specs.declared.schema.SegType.{SegType}
use Rattle.hal_schema.specs.SegType.{level_of}
use Rattle.hal_schema.specs.Lawful.{all_differ, index_is_kept}
use Rattle.hal_schema.specs.Places.{statement, when, passing}
use Rattle.hal_schema.specs.Raw.{code_named, field_of, index_of, types_of}
use Rattle.hal_schema.specs.Rules.{names_twice, type_name, index_name, named_fields, field_names, indexes_broken}
use Rattle.definition_text.specs.RawDbd.{behind_segm, raw_fields, raw_type, raw_types, raw_index, raw_over, raw_indexes}
use Rattle.definition_text.proofs.FieldsBack.{fields_back}
use Rattle.definition_text.proofs.TypesBack.{NamesDiffer, line_behind, raws_length}
use Rattle.definition_text.proofs.IndexesBack.{AreKnown, names, index_back}
use Rattle.definition_text.proofs.IndexOrder.{over, groups, indexes_line, index_behind, HasCodes, codes_first, codes_rest, codes_of}
use Rattle.definition_text.proofs.NoPlaces.{both_none, never, none_fails, names_none, passing_none, map_map}
use Rattle.definition_text.proofs.TypeRules.{raws_same, each_raw, each_numbered}

-- ---- raw indexes, one by one

over_same : {X : Type 0} (F : RawIndex → X) (G : IndexDef → X) (types : List SegType) → ((target : List ℕ) (line : ℕ) (i : IndexDef) → F (raw_index types target line i) ≡ G i)
    → (code line : ℕ) (name : List ℕ) (indexes : List IndexDef) → map F (raw_over types code name line indexes) ≡ map G (over code indexes)
over_same F G types each code line name [] = refl
over_same {X = X} F G types each code line name (i ∷ more) = by (i.target == code) (over_same F G types each code (index_behind types line i) name more) (over_same F G types each code line name more)
  where
    by : (b : Bool) → map F (raw_over types code name (index_behind types line i) more) ≡ map G (over code more) → map F (raw_over types code name line more) ≡ map G (over code more)
        → map F (cond b (raw_index types name line i ∷ raw_over types code name (index_behind types line i) more) (raw_over types code name line more)) ≡ map G (cond b (i ∷ over code more) (over code more))
    by true next same = ap (λ (x : X). x ∷ map F (raw_over types code name (index_behind types line i) more)) (each name line i) ∙ ap (λ (xs : List X). G i ∷ xs) next
    by false next same = same

groups_map : {X : Type 0} (F : RawIndex → X) (G : IndexDef → X) (types : List SegType) (indexes : List IndexDef) → ((target : List ℕ) (line : ℕ) (i : IndexDef) → F (raw_index types target line i) ≡ G i)
    → (code line : ℕ) (ts : List SegType) → map F (raw_indexes types indexes code line ts) ≡ map G (groups code ts indexes)
groups_map F G types indexes each code line [] = refl
groups_map {X = X} F G types indexes each code line (t ∷ more) =
    let at = indexes_line types line t in
    let behind = line_behind types indexes code line t in
    map-append F (raw_over types code t.name at indexes) (raw_indexes types indexes (code + 1) behind more)
    ∙ ap (λ (xs : List X). xs ++ map F (raw_indexes types indexes (code + 1) behind more)) (over_same F G types each code at t.name indexes)
    ∙ ap (λ (xs : List X). map G (over code indexes) ++ xs) (groups_map F G types indexes each (code + 1) behind more)
    ∙ sym (map-append G (over code indexes) (groups (code + 1) more indexes))

indexes_length : (types : List SegType) (indexes : List IndexDef) (line : ℕ) → groups 1 types indexes ≡ indexes → length (raw_indexes types indexes 1 line types) ≡ length indexes
indexes_length types indexes line same =
    let raws = raw_indexes types indexes 1 line types in
    sym (length-map raws (λ (i : RawIndex). i.name)) ∙ ap length (groups_map (λ (i : RawIndex). i.name) (λ (i : IndexDef). i.name) types indexes (λ target at i. refl) 1 line types)
    ∙ length-map (groups 1 types indexes) (λ (i : IndexDef). i.name) ∙ ap length same

-- ---- 3: names

pub type_names_apart : (types : List SegType) (indexes : List IndexDef) (line : ℕ) → NamesDiffer types → names_twice (map type_name (raw_types types indexes 1 line types)) ≡ []
type_names_apart types indexes line d =
    let raws = raw_types types indexes 1 line types in
    names_none (map type_name raws) (map (λ (t : SegType). t.name) types) (map_map (λ (n : Named). n.name) type_name raws ∙ raws_same (λ (r : RawType). r.name) (λ (t : SegType). t.name) types indexes (λ at t. refl) 1 line types) d

pub index_names_apart : (types : List SegType) (indexes : List IndexDef) (line : ℕ) → groups 1 types indexes ≡ indexes → all_differ bytes_eq (map (λ (i : IndexDef). i.name) indexes) ≡ true
    → names_twice (map index_name (raw_indexes types indexes 1 line types)) ≡ []
index_names_apart types indexes line same d =
    let raws = raw_indexes types indexes 1 line types in
    names_none (map index_name raws) (map (λ (i : IndexDef). i.name) indexes)
    (map_map (λ (n : Named). n.name) index_name raws ∙ groups_map (λ (i : RawIndex). i.name) (λ (i : IndexDef). i.name) types indexes (λ target at i. refl) 1 line types ∙ ap (map (λ (i : IndexDef). i.name)) same) d

abbrev raw_xdfld : RawIndex → List ℕ
raw_xdfld i = i.xdfld

abbrev xdfld : IndexDef → List ℕ
xdfld i = i.xdfld

abbrev targets : List ℕ → List RawIndex → List RawIndex
targets name indexes = filter (λ (i : RawIndex). bytes_eq i.target name) indexes

map_cond : (b : Bool) (r : RawIndex) (rs : List RawIndex) (i : IndexDef) (is : List IndexDef) → r.xdfld ≡ i.xdfld → map raw_xdfld rs ≡ map xdfld is → map raw_xdfld (cond b (r ∷ rs) rs) ≡ map xdfld (cond b (i ∷ is) is)
map_cond true r rs i is e h = ap (λ (n : List ℕ). n ∷ map raw_xdfld rs) e ∙ ap (λ (ns : List (List ℕ)). i.xdfld ∷ ns) h
map_cond false r rs i is e h = h

-- the indexes over one type, found by its name in the text and by its code in the schema
over_picked : (types : List SegType) (code target line : ℕ) (name other : List ℕ) (indexes : List IndexDef) → bytes_eq name other ≡ (code == target)
    → map raw_xdfld (targets other (raw_over types code name line indexes)) ≡ map xdfld (over target (over code indexes))
over_picked types code target line name other [] e = refl
over_picked types code target line name other (i ∷ more) e =
    by (i.target == code) refl (over_picked types code target (index_behind types line i) name other more e) (over_picked types code target line name other more e)
  where
    by : (b : Bool) → (i.target == code) ≡ b → map raw_xdfld (targets other (raw_over types code name (index_behind types line i) more)) ≡ map xdfld (over target (over code more))
        → map raw_xdfld (targets other (raw_over types code name line more)) ≡ map xdfld (over target (over code more))
        → map raw_xdfld (targets other (cond b (raw_index types name line i ∷ raw_over types code name (index_behind types line i) more) (raw_over types code name line more))) ≡ map xdfld (over target (cond b (i ∷ over code more) (over code more)))
    by true f next same =
        let code_is : i.target ≡ code = eqb-true i.target code f in
        let picked : (i.target == target) ≡ bytes_eq name other = ap (λ (n : ℕ). n == target) code_is ∙ sym e in
        let rest = targets other (raw_over types code name (index_behind types line i) more) in
        map_cond (bytes_eq name other) (raw_index types name line i) rest i (over target (over code more)) refl next
        ∙ ap (λ (b : Bool). map xdfld (cond b (i ∷ over target (over code more)) (over target (over code more)))) (sym picked)
    by false f next same = same

-- each type from a code on has the name just where it has the code
abbrev NamedAt : List ℕ → ℕ → ℕ → List SegType → Type 0
NamedAt name target code ts = (k : ℕ) (t : SegType) → slice_get ts k ≡ Some t → bytes_eq t.name name ≡ (code + k == target)

groups_picked : (types : List SegType) (indexes : List IndexDef) (target : ℕ) (other : List ℕ) (code line : ℕ) (ts : List SegType) → NamedAt other target code ts
    → map raw_xdfld (targets other (raw_indexes types indexes code line ts)) ≡ map xdfld (over target (groups code ts indexes))
groups_picked types indexes target other code line [] at = refl
groups_picked types indexes target other code line (t ∷ more) at =
    let place = indexes_line types line t in
    let behind = line_behind types indexes code line t in
    let raws = raw_over types code t.name place indexes in
    let rest = raw_indexes types indexes (code + 1) behind more in
    let none : code + 0 ≡ code = omega arith in
    let here : bytes_eq t.name other ≡ (code == target) = at zero t refl ∙ ap (λ (n : ℕ). n == target) none in
    let later : NamedAt other target (code + 1) more = λ k u e. (let same : code + suc k ≡ code + 1 + k = omega arith in at (suc k) u e ∙ ap (λ (n : ℕ). n == target) same) in
    ap (map raw_xdfld) (filter-append (λ (i : RawIndex). bytes_eq i.target other) raws rest) ∙ map-append raw_xdfld (targets other raws) (targets other rest)
    ∙ ap (λ (ns : List (List ℕ)). ns ++ map raw_xdfld (targets other rest)) (over_picked types code target place t.name other indexes here)
    ∙ ap (λ (ns : List (List ℕ)). map xdfld (over target (over code indexes)) ++ ns) (groups_picked types indexes target other (code + 1) behind more later)
    ∙ sym (map-append xdfld (over target (over code indexes)) (over target (groups (code + 1) more indexes)))
    ∙ ap (map xdfld) (sym (filter-append (λ (i : IndexDef). i.target == target) (over code indexes) (groups (code + 1) more indexes)))

either_way : (s t : Bool) → (s ≡ true → t ≡ true) → (t ≡ true → s ≡ true) → s ≡ t
either_way true t f g = sym (f refl)
either_way false true f g = g refl
either_way false false f g = refl

named_at : (types : List SegType) (k : ℕ) (t : SegType) → AreKnown types → slice_get types k ≡ Some t → NamedAt t.name (1 + k) 1 types
named_at types k t known e j u f = either_way (bytes_eq u.name t.name) (1 + j == 1 + k) forth back
  where
    forth : bytes_eq u.name t.name ≡ true → (1 + j == 1 + k) ≡ true
    forth same =
        let one : u.name ≡ t.name = (bytes_eq-Decides u.name t.name).0 same in
        let code = same_Some (1 + j) (1 + k) (sym (codes_of types known j u f) ∙ ap (code_named types) one ∙ codes_of types known k t e) in
        eq-eqb (1 + j) (1 + k) code

    back : (1 + j == 1 + k) ≡ true → bytes_eq u.name t.name ≡ true
    back same =
        let one = eqb-true (1 + j) (1 + k) same in
        let place : j ≡ k = omega (arith, one) in
        let type : u ≡ t = same_Some u t (sym f ∙ ap (slice_get types) place ∙ e) in
        (bytes_eq-Decides u.name t.name).1 (ap (λ (v : SegType). v.name) type)

only_names : (fields : List RawField) (indexes : List RawIndex) → map (λ (n : Named). n.name) (named_fields fields ++ map (λ (i : RawIndex). record { name = i.xdfld; place = statement i.line }) indexes)
    ≡ map (λ (f : RawField). f.name) fields ++ map raw_xdfld indexes
only_names fields indexes =
    let of_field : RawField → Named = λ f. record { name = f.name; place = statement f.line } in
    let of_index : RawIndex → Named = λ i. record { name = i.xdfld; place = statement i.line } in
    map-append (λ (n : Named). n.name) (map of_field fields) (map of_index indexes)
    ∙ ap (λ (ns : List (List ℕ)). ns ++ map (λ (n : Named). n.name) (map of_index indexes)) (map_map (λ (n : Named). n.name) of_field fields)
    ∙ ap (λ (ns : List (List ℕ)). map (λ (f : RawField). f.name) fields ++ ns) (map_map (λ (n : Named). n.name) of_index indexes)

raw_field_names : (types : List SegType) (line : ℕ) (t : SegType) → map (λ (f : RawField). f.name) (raw_type types line t).fields ≡ names t.fields
raw_field_names types line t =
    let raws = raw_fields t.key (behind_segm types line t) t.fields in
    sym (map_map (λ (f : Field). f.name) field_of raws) ∙ ap names (fields_back t.key (behind_segm types line t) t.fields)

abbrev Xdflds : List SegType → List IndexDef → ℕ → Type 0
Xdflds types indexes line = (k : ℕ) (t : SegType) → slice_get types k ≡ Some t → map raw_xdfld (targets t.name (raw_indexes types indexes 1 line types)) ≡ map xdfld (over (1 + k) indexes)

-- the fields of a type, and the XDFLDs of the indexes over it
abbrev names_apart : List IndexDef → ℕ × SegType → Bool
names_apart indexes t = all_differ bytes_eq (names t.1.fields ++ map xdfld (over t.0 indexes))

type_apart : (types : List SegType) (indexes : List IndexDef) (raws : List RawIndex) (line : ℕ) (code : ℕ) (t : SegType) → map raw_xdfld (targets t.name raws) ≡ map xdfld (over code indexes) → names_apart indexes (code, t) ≡ true
    → names_twice (field_names raws (raw_type types line t)) ≡ []
type_apart types indexes raws line code t same apart =
    let fields = raw_fields t.key (behind_segm types line t) t.fields in
    names_none (field_names raws (raw_type types line t)) (names t.fields ++ map xdfld (over code indexes))
    (only_names fields (targets t.name raws) ∙ ap (λ (ns : List (List ℕ)). ns ++ map raw_xdfld (targets t.name raws)) (raw_field_names types line t) ∙ ap (λ (ns : List (List ℕ)). names t.fields ++ ns) same) apart

from_place : (types : List SegType) (indexes : List IndexDef) (raws : List RawIndex) (from code line : ℕ) (ts : List SegType)
    → ((k : ℕ) (t : SegType) → slice_get ts k ≡ Some t → map raw_xdfld (targets t.name raws) ≡ map xdfld (over (code + k) indexes)) → list_all (names_apart indexes) (enumerate_from code ts) ≡ true
    → flat_map (λ (r : RawType). names_twice (field_names raws r)) (raw_types types indexes code line ts) ≡ []
from_place types indexes raws from code line [] same apart = refl
from_place types indexes raws from code line (t ∷ more) same apart =
    let (here, later) = and_parts (names_apart indexes (code, t)) (list_all (names_apart indexes) (enumerate_from (code + 1) more)) apart in
    let behind = line_behind types indexes code line t in
    let none : code + 0 ≡ code = omega arith in
    both_none (names_twice (field_names raws (raw_type types line t))) (flat_map (λ (r : RawType). names_twice (field_names raws r)) (raw_types types indexes (code + 1) behind more))
    (type_apart types indexes raws line code t (same zero t refl ∙ ap (λ (n : ℕ). map xdfld (over n indexes)) none) here)
    (from_place types indexes raws from (code + 1) behind more (λ k u e. (let next : code + suc k ≡ code + 1 + k = omega arith in same (suc k) u e ∙ ap (λ (n : ℕ). map xdfld (over n indexes)) next)) later)

pub fields_apart : (types : List SegType) (indexes : List IndexDef) (line : ℕ) → AreKnown types → groups 1 types indexes ≡ indexes → list_all (names_apart indexes) (enumerate_from 1 types) ≡ true
    → flat_map (λ (r : RawType). names_twice (field_names (raw_indexes types indexes 1 line types) r)) (raw_types types indexes 1 line types) ≡ []
fields_apart types indexes line known same apart =
    from_place types indexes (raw_indexes types indexes 1 line types) 1 1 line types
    (λ k t e. groups_picked types indexes (1 + k) t.name 1 line types (named_at types k t known e) ∙ ap (λ (is : List IndexDef). map xdfld (over (1 + k) is)) same) apart

-- ---- 4: counts

abbrev few_fields : SegType → Bool
few_fields t = nat_le (length t.fields) 255

fields_few : (types : List SegType) (line : ℕ) (t : SegType) → few_fields t ≡ true → passing 255 (map (λ (f : RawField). statement f.line) (raw_type types line t).fields) ≡ []
fields_few types line t few =
    let raws = (raw_type types line t).fields in
    let le = leb-true (length t.fields) 255 few in
    let one : length raws ≡ length t.fields = sym (length-map raws (λ (f : RawField). f.name)) ∙ ap length (raw_field_names types line t) ∙ length-map t.fields (λ (f : Field). f.name) in
    let two = length-map raws (λ (f : RawField). statement f.line) in
    passing_none 255 (map (λ (f : RawField). statement f.line) raws) (omega (arith, le, one, two))

abbrev low_level : List SegType → ℕ × SegType → Bool
low_level types t = nat_le (level_of types t.0) 15

pub counts_kept : (types : List SegType) (indexes : List IndexDef) (line : ℕ) → types_of (raw_types types indexes 1 line types) ≡ types → groups 1 types indexes ≡ indexes
    → length types ≤ 255 → list_all (low_level types) (enumerate_from 1 types) ≡ true → list_all few_fields types ≡ true → length indexes ≤ 16
    → passing 255 (map (λ (t : RawType). statement t.line) (raw_types types indexes 1 line types))
    ++ flat_map (λ (t : ℕ × RawType). when (nat_lt 15 (level_of (types_of (raw_types types indexes 1 line types)) t.0)) (statement t.1.line)) (enumerate_from 1 (raw_types types indexes 1 line types))
    ++ flat_map (λ (t : RawType). passing 255 (map (λ (f : RawField). statement f.line) t.fields)) (raw_types types indexes 1 line types)
    ++ passing 16 (map (λ (i : RawIndex). statement i.line) (raw_indexes types indexes 1 line types)) ≡ []
counts_kept types indexes line back same few low fields some =
    let raws = raw_types types indexes 1 line types in
    let over_raws = raw_indexes types indexes 1 line types in
    let many = raws_length types indexes 1 line types in
    let placed = length-map raws (λ (t : RawType). statement t.line) in
    let many_indexes = indexes_length types indexes line same in
    let placed_indexes = length-map over_raws (λ (i : RawIndex). statement i.line) in
    let types_passed = passing 255 (map (λ (t : RawType). statement t.line) raws) in
    let deep = flat_map (λ (t : ℕ × RawType). when (nat_lt 15 (level_of (types_of raws) t.0)) (statement t.1.line)) (enumerate_from 1 raws) in
    let fields_passed = flat_map (λ (t : RawType). passing 255 (map (λ (f : RawField). statement f.line) t.fields)) raws in
    let indexes_passed = passing 16 (map (λ (i : RawIndex). statement i.line) over_raws) in
    let one : types_passed ≡ [] = passing_none 255 (map (λ (t : RawType). statement t.line) raws) (omega (arith, few, many, placed)) in
    let two : deep ≡ [] = each_numbered (λ (t : ℕ × RawType). when (nat_lt 15 (level_of (types_of raws) t.0)) (statement t.1.line)) (low_level types) types indexes
    (λ code at t within h. never (nat_lt 15 (level_of (types_of raws) code)) (statement at) (ap (λ (ts : List SegType). nat_lt 15 (level_of ts code)) back ∙ le-ltb 15 (level_of types code) (leb-true (level_of types code) 15 h)))
    1 line types (omega arith) low in
    let three : fields_passed ≡ [] = each_raw (λ (t : RawType). passing 255 (map (λ (f : RawField). statement f.line) t.fields)) few_fields types indexes (fields_few types) 1 line types fields in
    let four : indexes_passed ≡ [] = passing_none 16 (map (λ (i : RawIndex). statement i.line) over_raws) (omega (arith, some, many_indexes, placed_indexes)) in
    both_none (types_passed ++ deep ++ fields_passed) indexes_passed (both_none (types_passed ++ deep) fields_passed (both_none types_passed deep one two) three) four

-- ---- 9: indexes

abbrev is_index : List SegType → RawIndex → Bool
is_index types r = option_map_or (index_is_kept types) (index_of types r) false

over_are : (types : List SegType) (code line : ℕ) (name : List ℕ) (indexes : List IndexDef) → AreKnown types → code_named types name ≡ Some code → list_all (index_is_kept types) indexes ≡ true
    → list_all (is_index types) (raw_over types code name line indexes) ≡ true
over_are types code line name [] known is kept = refl
over_are types code line name (i ∷ more) known is kept =
    let (here, later) = and_parts (index_is_kept types i) (list_all (index_is_kept types) more) kept in
    by (i.target == code) refl here (over_are types code (index_behind types line i) name more known is later) (over_are types code line name more known is later)
  where
    by : (b : Bool) → (i.target == code) ≡ b → index_is_kept types i ≡ true → list_all (is_index types) (raw_over types code name (index_behind types line i) more) ≡ true → list_all (is_index types) (raw_over types code name line more) ≡ true
        → list_all (is_index types) (cond b (raw_index types name line i ∷ raw_over types code name (index_behind types line i) more) (raw_over types code name line more)) ≡ true
    by true e here next same =
        and_from (is_index types (raw_index types name line i)) (list_all (is_index types) (raw_over types code name (index_behind types line i) more))
        (ap (λ (o : Option IndexDef). option_map_or (index_is_kept types) o false) (index_back types code line name i known is (eqb-true i.target code e) here) ∙ here) next
    by false e here next same = same

groups_are : (types : List SegType) (indexes : List IndexDef) (code line : ℕ) (ts : List SegType) → AreKnown types → HasCodes types code ts → list_all (index_is_kept types) indexes ≡ true
    → list_all (is_index types) (raw_indexes types indexes code line ts) ≡ true
groups_are types indexes code line [] known codes kept = refl
groups_are types indexes code line (t ∷ more) known codes kept =
    let at = indexes_line types line t in
    let behind = line_behind types indexes code line t in
    let raws = raw_over types code t.name at indexes in
    let rest = raw_indexes types indexes (code + 1) behind more in
    list_all-append (is_index types) raws rest
    ∙ and_from (list_all (is_index types) raws) (list_all (is_index types) rest) (over_are types code at t.name indexes known (codes_first types code t more codes) kept)
    (groups_are types indexes (code + 1) behind more known (codes_rest types code t more codes) kept)

pub indexes_kept : (types : List SegType) (indexes : List IndexDef) (line : ℕ) → AreKnown types → list_all (index_is_kept types) indexes ≡ true → indexes_broken types (raw_indexes types indexes 1 line types) ≡ []
indexes_kept types indexes line known kept =
    none_fails (is_index types) (λ (i : RawIndex). statement i.line) (raw_indexes types indexes 1 line types) (groups_are types indexes 1 line types known (codes_of types known) kept)
