-- The raw definitions of a schema's partitions say these partitions again, in their order.
use Rattle.std.proofs.Common.{◌≡◌, ℕ, true, false, List, [], ◌∷◌, map, Ordering, Less, Equal, Greater, refl, ap, ◌∙◌}
use Rattle.std.proofs.lemmas.Bool.{and_parts, false≢true}
use Rattle.std.proofs.lemmas.Cmp.{nat_list_cmp_total}
use Rattle.std.specs.Ordering.{is_lt, ordering_reverse}
use Rattle.hal_schema.specs.declared.schema.PartDef.{PartDef}
use Rattle.hal_schema.specs.declared.schema.SegType.{SegType}
use Rattle.hal_schema.specs.declared.schema.Schema.{Schema}
use Rattle.hal_schema.specs.declared.raw.RawDbd.{RawDbd}
use Rattle.hal_schema.specs.Keys.{key_cmp}
use Rattle.hal_schema.specs.Lawful.{all_rise, highs_rise}
use Rattle.hal_schema.specs.Raw.{put_in_order, in_order, high_below, part_of, parts_of}
use Rattle.partition_reader.specs.Tables.{next_place}
use Rattle.definition_text.specs.Raw.{raw_parts_from, raw_parts_of}

flipped : (o p : Ordering) → p ≡ ordering_reverse o → is_lt p ≡ true → is_lt o ≡ false
flipped Less p e h =
    let no : false ≡ true = rw e at h in
    absurd (false≢true no)
flipped Equal p e h = refl
flipped Greater p e h = refl

pub not_below : (a b : List ℕ) → is_lt (key_cmp a b) ≡ true → is_lt (key_cmp b a) ≡ false
not_below a b h = flipped (key_cmp b a) (key_cmp a b) (nat_list_cmp_total.antisymm a b) h

put_first : (x y : PartDef) (more : List PartDef) → high_below x y ≡ true → put_in_order high_below x (y ∷ more) ≡ x ∷ y ∷ more
put_first x y more h = rw (not_below x.high y.high h) refl

in_place : (parts : List PartDef) → all_rise high_below parts ≡ true → in_order high_below parts ≡ parts
in_place [] h = refl
in_place (x ∷ []) h = refl
in_place (x ∷ y ∷ more) h =
    let (first, later) = and_parts (high_below x y) (all_rise high_below (y ∷ more)) h in
    ap (put_in_order high_below x) (in_place (y ∷ more) later) ∙ put_first x y more first

raws_back : (dbd : RawDbd) (place : ℕ) (parts : List PartDef) → map (part_of dbd) (raw_parts_from place parts) ≡ parts
raws_back dbd place [] = refl
raws_back dbd place (p ∷ more) = ap (λ (xs : List PartDef). p ∷ xs) (raws_back dbd (next_place place) more)

pub parts_rebuilt : (dbd : RawDbd) (types : List SegType) (s : Schema) → highs_rise types s.parts ≡ true → parts_of dbd (raw_parts_of s).parts ≡ s.parts
parts_rebuilt dbd types s h = ap (in_order high_below) (raws_back dbd 1 s.parts) ∙ in_place s.parts (and_parts _ (all_rise high_below s.parts) h).1
