-- The names, RMNAME and partitions of a raw definition whose names are plain.
use Rattle.std.proofs.Common.{◌≡◌, ℕ, zero, suc, Bool, true, false, ◌&&◌, cond, List, [], ◌∷◌, map, Option, Some, None, is_some, refl, ap, ◌∙◌}
use Rattle.std.specs.Prelude.{filter_map, insert}
use Rattle.std.specs.List.{list_all, cons_option}
use Rattle.std.specs.Option.{option_map_or}
use Rattle.std.proofs.lemmas.Bool.{and_parts, and_from}
use Rattle.std.proofs.lemmas.List.Folds.{list_all-map}
use Rattle.hal_base.specs.Name.{is_name, is_field_name}
use Rattle.hal_schema.specs.declared.raw.RawDbd.{RawDbd}
use Rattle.hal_schema.specs.declared.raw.RawIndex.{RawIndex}
use Rattle.hal_schema.specs.declared.raw.RawSchema.{RawSchema}
use Rattle.hal_schema.specs.declared.raw.RawType.{RawType}
use Rattle.hal_schema.specs.declared.schema.Field.{Field}
use Rattle.hal_schema.specs.declared.schema.SegType.{SegType}
use Rattle.hal_schema.specs.declared.schema.IndexDef.{IndexDef}
use Rattle.hal_schema.specs.declared.schema.PartDef.{PartDef}
use Rattle.hal_schema.specs.Lawful.{type_is_named, index_is_named, names_are_kept, module_is_kept}
use Rattle.hal_schema.specs.Named.{raw_type_is_named, raw_index_is_named, dbd_is_named, parts_are_named}
use Rattle.hal_schema.specs.Raw.{types_of, seg_type, field_of, indexes_of, index_of, target_below, parts_of, part_of, high_below, rm_of, anch_of, rbn_of}
use Rattle.hal_schema.proofs.Indexes.{all_weaker}
use Rattle.hal_schema.proofs.KeptNames.{index_found}
use Rattle.hal_schema.proofs.Ordered.{all-order}

type_named : (types : List RawType) (t : RawType) → raw_type_is_named t ≡ true → type_is_named (seg_type types t) ≡ true
type_named types t h = ap (λ v. is_name t.name && v) (list_all-map (λ (f : Field). is_field_name f.name) field_of t.fields) ∙ h

found_by : (types : List SegType) (i : RawIndex) (rest : List IndexDef) (o : Option IndexDef) → index_of types i ≡ o → raw_index_is_named i ≡ true → list_all index_is_named rest ≡ true → list_all index_is_named (cons_option o rest) ≡ true
found_by types i rest None e h all = all
found_by types i rest (Some j) e h all =
    let f = index_found types i j e in
    and_from _ _ (ap (λ n. is_name n && is_name j.name && is_name j.xdfld) f.seg ∙ ap (λ n. is_name i.seg && is_name n && is_name j.xdfld) f.name ∙ ap (λ n. is_name i.seg && is_name i.name && is_name n) f.xdfld ∙ h) all

indexes_named : (types : List SegType) (indexes : List RawIndex) → list_all raw_index_is_named indexes ≡ true → list_all index_is_named (filter_map (index_of types) indexes) ≡ true
indexes_named types [] h = refl
indexes_named types (i ∷ indexes) h = found_by types i _ (index_of types i) refl (and_parts _ _ h).0 (indexes_named types indexes (and_parts _ _ h).1)

rm_named : (phdam : Bool) (rm : Option (List ℕ)) → option_map_or is_name rm true ≡ true → option_map_or is_name (cond phdam rm None) true ≡ true
rm_named true rm h = h
rm_named false rm h = refl

pub kept_names : (raw : RawSchema) → dbd_is_named raw.dbd ≡ true → parts_are_named raw.parts ≡ true
    → names_are_kept raw.dbd.name (rm_of raw.dbd) (types_of raw.dbd.types) (indexes_of (types_of raw.dbd.types) raw.dbd.indexes) (parts_of raw.dbd raw.parts.parts) ≡ true
kept_names raw h p =
    let types = raw.dbd.types in
    let a = and_parts _ _ h in
    let b = and_parts _ _ a.0 in
    let c = and_parts _ _ b.0 in
    let named_types : list_all type_is_named (types_of types) ≡ true =
    list_all-map type_is_named (seg_type types) types ∙ all_weaker raw_type_is_named (λ t. type_is_named (seg_type types t)) (type_named types) types b.1 in
    let named_indexes : list_all index_is_named (indexes_of (types_of types) raw.dbd.indexes) ≡ true =
    all-order index_is_named target_below (filter_map (index_of (types_of types)) raw.dbd.indexes) (indexes_named (types_of types) raw.dbd.indexes a.1) in
    let named_parts : list_all (λ (p : PartDef). is_name p.name) (parts_of raw.dbd raw.parts.parts) ≡ true =
    all-order (λ (p : PartDef). is_name p.name) high_below (map (part_of raw.dbd) raw.parts.parts) (list_all-map (λ (p : PartDef). is_name p.name) (part_of raw.dbd) raw.parts.parts ∙ p) in
    and_from _ _ (and_from _ _ (and_from _ _ (and_from _ _ c.0 (rm_named raw.dbd.phdam raw.dbd.rm c.1)) named_types) named_indexes) named_parts

pub kept_module : (dbd : RawDbd) → module_is_kept dbd.phdam (rm_of dbd) (anch_of dbd) (rbn_of dbd) ≡ true
kept_module dbd = by dbd.phdam dbd.rm
  where
    by : (phdam : Bool) (rm : Option (List ℕ)) → module_is_kept phdam (cond phdam rm None) (cond (is_some (cond phdam rm None)) dbd.anch 1) (cond (is_some (cond phdam rm None)) dbd.rbn 1) ≡ true
    by false rm = refl
    by true None = refl
    by true (Some name) = refl

-- what holds of an item and of a list holds of the list with the item in it
pub all-insert : {X : Type 0} (p : X → Bool) (xs : List X) (at : ℕ) (x : X) → p x ≡ true → list_all p xs ≡ true → list_all p (insert xs at x) ≡ true
all-insert p [] zero x h all = and_from _ _ h refl
all-insert p [] (suc at) x h all = and_from _ _ h refl
all-insert p (y ∷ xs) zero x h all = and_from _ _ h all
all-insert p (y ∷ xs) (suc at) x h all = and_from _ _ (and_parts _ _ all).0 (all-insert p xs at x h (and_parts _ _ all).1)
