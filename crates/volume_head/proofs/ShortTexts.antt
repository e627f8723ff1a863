-- How long the parts of a canonical text are at most.
use Rattle.std.proofs.Common.{◌≡◌, ℕ, zero, suc, ◌+◌, ◌*◌, ◌^◌, ◌<◌, ◌≤◌, ◌==◌, ◌&&◌, Bool, true, false, cond, nat_le, List, [], ◌∷◌, ◌++◌, length, Option, Some, None, arith, codes}
use Rattle.std.specs.Prelude.{flat_map}
use Rattle.std.specs.List.{list_all}
use Rattle.std.specs.Option.{option_map_or}
use Rattle.std.proofs.lemmas.Bool.{and_parts, leb-true}
use Rattle.hal_base.specs.Name.{is_name, is_field_name}
use Rattle.hal_schema.specs.declared.schema.Field.{Field}
use Rattle.hal_schema.specs.declared.schema.KeyField.{KeyField}
use Rattle.hal_schema.specs.declared.schema.SegType.{SegType}
use Rattle.hal_schema.specs.declared.schema.IndexDef.{IndexDef}
use Rattle.hal_schema.specs.Lawful.{field_fits, is_key_portion, is_within, is_key_field, type_is_named}
use Rattle.definition_printer.specs.Wrapped.{wrapped}
use Rattle.definition_printer.specs.Dbd.{method, randomizer, parent_name, twin_place, segm_statement, field_statement, kind, sequence_name, plain_field, keyed_fields, fields_text, child_names, lchild_statement, behind_comma, name_list, subseq_operand, indexed_field, xdfld_statement, index_text, text_over, type_text, types_text}
use Rattle.volume_head.proofs.Shortness.{Long, own, long, join, on_lines_fit, name_fits, field_name_fits, type_name_fits, number_fits}

-- ---- the DBD statement

pub method_fits : (phdam : Bool) → length (method phdam) ≤ 6
method_fits true = omega arith
method_fits false = omega arith

pub rm_fits : (phdam : Bool) (rm : Option (List ℕ)) (anch rbn : ℕ) → option_map_or is_name rm true ≡ true → anch < 2 ^ 32 → rbn < 2 ^ 32 → length (randomizer phdam rm anch rbn) ≤ 40
rm_fits false None anch rbn h a b = omega arith
rm_fits false (Some name) anch rbn h a b = omega arith
rm_fits true None anch rbn h a b = omega arith
rm_fits true (Some name) anch rbn h a b =
    (join (join (join (join (join (join (own (codes ",RMNAME=(")) (long (name_fits name h))) (own (codes ","))) (long (number_fits anch a))) (own (codes ","))) (long (number_fits rbn b))) (own (codes ")"))).fits

-- ---- fields

-- a field whose name and numbers are short
pub record Fits (f : Field) : Type 0 where
  pub name : length f.name ≤ 8
  pub start : f.start < 2 ^ 32
  pub bytes : f.bytes < 2 ^ 32

fits_by : (v : Bool) (all : ℕ) (f : Field) → all ≤ 65535 → cond v (nat_le f.start 65535 && nat_le f.bytes 65535) (is_within all f.start f.bytes) ≡ true → (f.start ≤ 65536) × (f.bytes ≤ 65536)
fits_by true all f few h =
    let a = and_parts _ _ h in
    let s : f.start ≤ 65535 = leb-true _ _ a.0 in
    let b : f.bytes ≤ 65535 = leb-true _ _ a.1 in
    (omega (arith, s), omega (arith, b))
fits_by false all f few h =
    let a = and_parts _ _ h in
    let s : 1 ≤ f.start = leb-true _ _ (and_parts _ _ a.0).0 in
    let b : 1 ≤ f.bytes = leb-true _ _ (and_parts _ _ a.0).1 in
    let w : f.start + f.bytes ≤ all + 1 = leb-true _ _ a.1 in
    (omega (arith, w, b, few), omega (arith, w, s, few))

field_short : (all : ℕ) (f : Field) → all ≤ 65535 → is_field_name f.name ≡ true → field_fits all f ≡ true → Fits f
field_short all f few named h =
    let n = fits_by (is_key_portion f.name) all f few h in
    record { name = field_name_fits f.name named; start = omega (arith, n.0); bytes = omega (arith, n.1) }

statement_fits : {name : List ℕ} (f : Field) → Long 16 name → Fits f → Long 68 (field_statement name f)
unfolding field_statement
statement_fits f n h =
    let all = join (join (join (join (join (join (own (codes "FIELD NAME=")) n) (own (codes ",BYTES="))) (long (number_fits f.bytes h.bytes))) (own (codes ",START="))) (long (number_fits f.start h.start))) (own (codes ",TYPE=C")) in
    let short = all.fits in
    record { fits = omega (arith, short) }

kind_fits : (unique : Bool) → length (kind unique) ≤ 7
kind_fits true = omega arith
kind_fits false = omega arith

sequence_fits : (key : KeyField) (name : List ℕ) → length name ≤ 8 → Long 16 (sequence_name key name)
unfolding sequence_name
sequence_fits key name n = join (join (own (codes "(")) (long n)) (long (kind_fits key.unique))

pub plain_fit : (f : Field) → Fits f → Long 205 (plain_field f)
plain_fit f h = let n = h.name in on_lines_fit (statement_fits f (long (omega (arith, n))) h)

keyed_fit : (key : KeyField) (f : Field) → Fits f → Long 205 (wrapped (field_statement (sequence_name key f.name) f))
keyed_fit key f h = on_lines_fit (statement_fits f (sequence_fits key f.name h.name) h)

abbrev pub AllFit : List Field → Type 0
AllFit [] = Unit {0}
AllFit (f ∷ fs) = Fits f × AllFit fs

pub all_fit : (all : ℕ) (fs : List Field) → all ≤ 65535 → list_all (λ f. is_field_name f.name) fs ≡ true → list_all (field_fits all) fs ≡ true → AllFit fs
all_fit all [] few named fit = tt
all_fit all (f ∷ fs) few named fit =
    let n = and_parts _ _ named in
    let h = and_parts _ _ fit in
    (field_short all f few n.0 h.0, all_fit all fs few n.1 h.1)

plains_fit : (most : ℕ) (fs : List Field) → AllFit fs → length fs ≤ most → length (flat_map plain_field fs) ≤ most * 205
plains_fit most [] all few = omega arith
plains_fit zero (f ∷ fs) all few = absurd (omega (arith, few))
plains_fit (suc most) (f ∷ fs) all few = let a = (join (plain_fit f all.0) (long (plains_fit most fs all.1 (omega (arith, few))))).fits in omega (arith, a)

keyed_by : (v : Bool) {most : ℕ} {a b c d : List ℕ} → Long 205 a → Long most b → Long 205 c → Long most d → length (cond v (a ++ b) (c ++ d)) ≤ 205 + most
keyed_by true h k l m = (join h k).fits
keyed_by false h k l m = (join l m).fits

keyeds_fit : (key : KeyField) (most : ℕ) (fs : List Field) → AllFit fs → length fs ≤ most → length (keyed_fields key fs) ≤ most * 205
keyeds_fit key most [] all few = omega arith
keyeds_fit key zero (f ∷ fs) all few = absurd (omega (arith, few))
keyeds_fit key (suc most) (f ∷ fs) all few =
    let a = keyed_by (is_key_field key f) (keyed_fit key f all.0) (long (plains_fit most fs all.1 (omega (arith, few)))) (plain_fit f all.0) (long (keyeds_fit key most fs all.1 (omega (arith, few)))) in
    omega (arith, a)

fields_fit_in : (key : Option KeyField) (fs : List Field) → AllFit fs → length fs ≤ 255 → length (fields_text key fs) ≤ 52275
fields_fit_in None fs all few = plains_fit 255 fs all few
fields_fit_in (Some key) fs all few = keyeds_fit key 255 fs all few

-- ---- segments

place_fits : (first : Bool) → length (twin_place first) ≤ 5
place_fits true = omega arith
place_fits false = omega arith

parent_fits : (types : List SegType) (parent : Option ℕ) → list_all type_is_named types ≡ true → length (parent_name types parent) ≤ 8
parent_fits types None named = omega arith
parent_fits types (Some code) named = type_name_fits types code named

segm_fits : (types : List SegType) (t : SegType) → list_all type_is_named types ≡ true → is_name t.name ≡ true → t.bytes < 2 ^ 32 → Long 76 (segm_statement types t)
unfolding segm_statement
segm_fits types t named name bytes =
    let front = join (join (join (own (codes "SEGM NAME=")) (long (name_fits t.name name))) (own (codes ",PARENT="))) (long (parent_fits types t.parent named)) in
    let middle = join (join (join front (own (codes ",BYTES="))) (long (number_fits t.bytes bytes))) (own (codes ",RULES=(,")) in
    let all = join (join (join middle (long (place_fits t.first))) (own (codes "),DSGROUP="))) (own (t.letter ∷ [])) in
    let short = all.fits in
    record { fits = omega (arith, short) }

-- ---- indexes

-- the names of these fields are short
abbrev pub ShortNames : List Field → Type 0
ShortNames [] = Unit {0}
ShortNames (f ∷ fs) = (length f.name ≤ 8) × ShortNames fs

commas_fit : (most : ℕ) (fs : List Field) → ShortNames fs → length fs ≤ most → length (flat_map behind_comma fs) ≤ most * 9
commas_fit most [] all few = omega arith
commas_fit zero (f ∷ fs) all few = absurd (omega (arith, few))
commas_fit (suc most) (f ∷ fs) all few =
    let name = all.0 in
    let a = (join (long {most = 9} {text = behind_comma f} (omega (arith, name))) (long (commas_fit most fs all.1 (omega (arith, few))))).fits in
    omega (arith, a)

list_fits : (most : ℕ) (fs : List Field) → ShortNames fs → length fs ≤ most → length (name_list fs) ≤ most * 9
list_fits most [] all few = omega arith
list_fits zero (f ∷ fs) all few = absurd (omega (arith, few))
list_fits (suc most) (f ∷ fs) all few =
    let name = all.0 in
    let a = (join (long {most = 9} {text = f.name} (omega (arith, name))) (long (commas_fit most fs all.1 (omega (arith, few))))).fits in
    omega (arith, a)

subseq_fits : (fs : List Field) → ShortNames fs → length fs ≤ 240 → length (subseq_operand fs) ≤ 2170
subseq_fits [] all few = omega arith
subseq_fits (f ∷ fs) all few =
    let a = (join (join (own (codes ",SUBSEQ=(")) (long (list_fits 240 (f ∷ fs) all few))) (own (codes ")"))).fits in
    omega (arith, a)

-- an index whose names are short, and whose lists aren't long
pub record ShortIndex (i : IndexDef) : Type 0 where
  pub seg : length i.seg ≤ 8
  pub name : length i.name ≤ 8
  pub xdfld : length i.xdfld ≤ 8
  pub search : ShortNames i.search
  pub few_search : length i.search ≤ 5
  pub subseq : ShortNames i.subseq
  pub few_subseq : length i.subseq ≤ 240

child_fits : (i : IndexDef) → ShortIndex i → Long 40 (lchild_statement i)
unfolding child_names
child_fits i h =
    let all = join (own (codes "LCHILD NAME=(")) (join (join (join (long h.seg) (own (codes ","))) (long h.name)) (own (codes "),PTR=INDX"))) in
    let short = all.fits in
    record { fits = omega (arith, short) }

indexed_fits : (types : List SegType) (i : IndexDef) → list_all type_is_named types ≡ true → ShortIndex i → Long 2259 (xdfld_statement types i)
unfolding indexed_field
indexed_fits types i named h =
    let front = join (join (join (long h.xdfld) (own (codes ",SEGMENT="))) (long (type_name_fits types i.source named))) (own (codes ",SRCH=(")) in
    let behind = join (join (join front (long (list_fits 5 i.search h.search h.few_search))) (own (codes ")"))) (long (subseq_fits i.subseq h.subseq h.few_subseq)) in
    let all = join (own (codes "XDFLD NAME=")) behind in
    let short = all.fits in
    record { fits = omega (arith, short) }

index_fits : (types : List SegType) (i : IndexDef) → list_all type_is_named types ≡ true → ShortIndex i → length (index_text types i) ≤ 6899
index_fits types i named h = (join (on_lines_fit (child_fits i h)) (on_lines_fit (indexed_fits types i named h))).fits

abbrev pub AllShort : List IndexDef → Type 0
AllShort [] = Unit {0}
AllShort (i ∷ more) = ShortIndex i × AllShort more

over_by : (v : Bool) (text : List ℕ) → length text ≤ 6899 → length (cond v text []) ≤ 6899
over_by true text h = h
over_by false text h = omega arith

overs_fit : (types : List SegType) (code most : ℕ) (indexes : List IndexDef) → list_all type_is_named types ≡ true → AllShort indexes → length indexes ≤ most → length (flat_map (text_over types code) indexes) ≤ most * 6899
overs_fit types code most [] named all few = omega arith
overs_fit types code zero (i ∷ more) named all few = absurd (omega (arith, few))
overs_fit types code (suc most) (i ∷ more) named all few =
    let here = long {most = 6899} {text = text_over types code i} (over_by (i.target == code) (index_text types i) (index_fits types i named all.0)) in
    let a = (join here (long (overs_fit types code most more named all.1 (omega (arith, few))))).fits in
    omega (arith, a)

-- ---- types

-- a type whose name, numbers and fields are short
pub record ShortType (t : SegType) : Type 0 where
  pub name : is_name t.name ≡ true
  pub bytes : t.bytes ≤ 2000
  pub fields : AllFit t.fields
  pub few : length t.fields ≤ 255

abbrev pub AllTypes : List SegType → Type 0
AllTypes [] = Unit {0}
AllTypes (t ∷ more) = ShortType t × AllTypes more

type_fits : (types : List SegType) (indexes : List IndexDef) (code : ℕ) (t : SegType) → list_all type_is_named types ≡ true → AllShort indexes → length indexes ≤ 16 → ShortType t → Long 162888 (type_text types indexes code t)
unfolding type_text
type_fits types indexes code t named all few h =
    let bytes = h.bytes in
    let front = join (on_lines_fit (segm_fits types t named h.name (omega (arith, bytes)))) (long (fields_fit_in t.key t.fields h.fields h.few)) in
    let whole = join front (long (overs_fit types code 16 indexes named all few)) in
    let short = whole.fits in
    record { fits = omega (arith, short) }

pub types_fit : (types : List SegType) (indexes : List IndexDef) (most code : ℕ) (ts : List SegType) → list_all type_is_named types ≡ true → AllShort indexes → length indexes ≤ 16 → AllTypes ts → length ts ≤ most → length (types_text types indexes code ts) ≤ most * 162888
types_fit types indexes most code [] named all few each short = omega arith
types_fit types indexes zero code (t ∷ ts) named all few each short = absurd (omega (arith, short))
types_fit types indexes (suc most) code (t ∷ ts) named all few each short =
    let a = (join (type_fits types indexes code t named all few each.0) (long (types_fit types indexes most (code + 1) ts named all few each.1 (omega (arith, short))))).fits in
    omega (arith, a)
