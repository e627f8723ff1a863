-- The names of a raw definition that keeps the rules differ.
use Rattle.std.proofs.Common.{◌≡◌, ℕ, Bool, true, false, ◌&&◌, ◌||◌, not, IsTrue, List, [], ◌∷◌, map, Option, Some, None, ◌==◌, refl, sym, ap, ◌∙◌}
use Rattle.std.specs.Prelude.{flat_map, filter_map, option_and_then}
use Rattle.std.specs.List.{list_any}
use Rattle.std.specs.Str.{bytes_eq}
use Rattle.std.proofs.lemmas.Bool.{and_from, or_from, not_from_false}
use Rattle.std.proofs.lemmas.Bool.Decides.{Decides-eqb}
use Rattle.std.proofs.lemmas.Slice.Eq.{bytes_eq-Decides}
use Rattle.std.proofs.lemmas.Option.{same_Some}
use Rattle.hal_schema.specs.declared.fault.Place.{Place}
use Rattle.hal_schema.specs.declared.raw.RawSchema.{RawSchema}
use Rattle.hal_schema.specs.declared.raw.RawType.{RawType}
use Rattle.hal_schema.specs.declared.schema.SegType.{SegType}
use Rattle.hal_schema.specs.declared.rules.names.Named.{Named}
use Rattle.hal_schema.specs.declared.raw.RawPart.{RawPart}
use Rattle.hal_schema.specs.declared.raw.RawIndex.{RawIndex}
use Rattle.hal_schema.specs.declared.schema.Field.{Field}
use Rattle.hal_schema.specs.declared.schema.PartDef.{PartDef}
use Rattle.hal_schema.specs.declared.schema.IndexDef.{IndexDef}
use Rattle.hal_schema.specs.Lawful.{all_differ, type_names_differ, index_names_differ, part_names_differ, part_numbers_differ}
use Rattle.hal_schema.specs.Places.{partition, twice, when, later}
use Rattle.hal_schema.specs.Raw.{types_of, seg_type, parts_of, part_of, indexes_of, index_of, code_named, fields_named, high_below, target_below}
use Rattle.hal_schema.specs.SegType.{type_of}
use Rattle.hal_schema.specs.Rules.{same_name, names_twice, type_name, index_name, part_name, same_number, field_names, names_repeated}
use Rattle.hal_schema.proofs.KeptTypes.{nil_parts, not_broken}
use Rattle.hal_schema.proofs.Differ.{AgreesOn, differ-found, differ-order, turn}

none_same : {X : Type 0} (b : X → Bool) (at : X → Place) (xs : List X) → flat_map (λ x. when (b x) (at x)) xs ≡ [] → list_any b xs ≡ false
none_same b at [] e = refl
none_same b at (x ∷ xs) e =
    let p = nil_parts (when (b x) (at x)) (flat_map (λ x. when (b x) (at x)) xs) e in
    or_from _ _ (not_broken (b x) (at x) p.0) (none_same b at xs p.1)

pub differ_from_twice : {X : Type 0} (same : X → X → Bool) (at : X → Place) (xs : List X) → twice same at xs ≡ [] → all_differ same xs ≡ true
differ_from_twice same at [] e = refl
differ_from_twice same at (x ∷ xs) e =
    let p = nil_parts (flat_map (λ y. when (same x y) (later (at x) (at y))) xs) (twice same at xs) e in
    and_from _ _ (not_from_false _ (none_same (same x) (λ y. later (at x) (at y)) xs p.0)) (differ_from_twice same at xs p.1)

any-map : {X Y : Type 0} (p : Y → Bool) (f : X → Y) (xs : List X) → list_any p (map f xs) ≡ list_any (λ x. p (f x)) xs
any-map p f [] = refl
any-map p f (x ∷ xs) = ap (λ b. p (f x) || b) (any-map p f xs)

pub differ-map : {X Y : Type 0} (same : Y → Y → Bool) (f : X → Y) (xs : List X) → all_differ same (map f xs) ≡ all_differ (λ a b. same (f a) (f b)) xs
differ-map same f [] = refl
differ-map same f (x ∷ xs) = ap (λ b. not b && all_differ same (map f xs)) (any-map (same (f x)) f xs) ∙ ap (λ b. not (list_any (λ y. same (f x) (f y)) xs) && b) (differ-map same f xs)

pub kept_type_names : (raw : RawSchema) → names_repeated raw ≡ [] → IsTrue (type_names_differ (types_of raw.dbd.types))
kept_type_names raw e =
    let types = raw.dbd.types in
    let a = nil_parts _ (flat_map (λ t. names_twice (field_names raw.dbd.indexes t)) types) e in
    let b = nil_parts _ (twice same_number (λ p. partition p.place) raw.parts.parts) a.0 in
    let c = nil_parts _ (names_twice (map part_name raw.parts.parts)) b.0 in
    let d = nil_parts (names_twice (map type_name types)) (names_twice (map index_name raw.dbd.indexes)) c.0 in
    let here : all_differ (λ (s : RawType) (t : RawType). bytes_eq s.name t.name) types ≡ true =
    sym (differ-map same_name type_name types) ∙ differ_from_twice same_name (λ (n : Named). n.place) (map type_name types) d.0 in
    differ-map bytes_eq (λ (t : SegType). t.name) (types_of types) ∙ differ-map (λ (s : SegType) (t : SegType). bytes_eq s.name t.name) (seg_type types) types ∙ here

pub bytes_turn : (a b : List ℕ) → bytes_eq a b ≡ bytes_eq b a
bytes_turn = turn bytes_eq bytes_eq-Decides

-- the four lists of names and numbers
record Apart (raw : RawSchema) : Type 0 where
  indexes : names_twice (map index_name raw.dbd.indexes) ≡ []
  parts : names_twice (map part_name raw.parts.parts) ≡ []
  numbers : twice same_number (λ p. partition p.place) raw.parts.parts ≡ []

apart : (raw : RawSchema) → names_repeated raw ≡ [] → Apart raw
apart raw e =
    let a = nil_parts _ (flat_map (λ t. names_twice (field_names raw.dbd.indexes t)) raw.dbd.types) e in
    let b = nil_parts _ (twice same_number (λ p. partition p.place) raw.parts.parts) a.0 in
    let c = nil_parts _ (names_twice (map part_name raw.parts.parts)) b.0 in
    let d = nil_parts (names_twice (map type_name raw.dbd.types)) (names_twice (map index_name raw.dbd.indexes)) c.0 in
    record { indexes = d.1; parts = c.1; numbers = b.1 }

pub kept_part_names : (raw : RawSchema) → names_repeated raw ≡ [] → IsTrue (part_names_differ (parts_of raw.dbd raw.parts.parts))
kept_part_names raw e =
    let parts = raw.parts.parts in
    let same = λ (p q : PartDef). bytes_eq p.name q.name in
    let here : all_differ (λ (p q : RawPart). bytes_eq p.name q.name) parts ≡ true =
    sym (differ-map same_name part_name parts) ∙ differ_from_twice same_name (λ (n : Named). n.place) (map part_name parts) (apart raw e).parts in
    differ-map bytes_eq (λ (p : PartDef). p.name) (parts_of raw.dbd parts)
    ∙ differ-order same high_below (λ p q. bytes_turn p.name q.name) (map (part_of raw.dbd) parts)
    ∙ differ-map same (part_of raw.dbd) parts ∙ here

pub kept_part_numbers : (raw : RawSchema) → names_repeated raw ≡ [] → IsTrue (part_numbers_differ (parts_of raw.dbd raw.parts.parts))
kept_part_numbers raw e =
    let parts = raw.parts.parts in
    let same = λ (p q : PartDef). p.number == q.number in
    differ-map (λ (m n : ℕ). m == n) (λ (p : PartDef). p.number) (parts_of raw.dbd parts)
    ∙ differ-order same high_below (λ p q. turn (λ (m n : ℕ). m == n) Decides-eqb p.number q.number) (map (part_of raw.dbd) parts)
    ∙ differ-map same (part_of raw.dbd) parts ∙ differ_from_twice same_number (λ p. partition p.place) parts (apart raw e).numbers

found : {A B : Type 0} (o : Option A) (f : A → Option B) (b : B) → option_and_then f o ≡ Some b → (a : A) × (o ≡ Some a) × (f a ≡ Some b)
found None f b e = cc
found (Some a) f b e = (a, refl, e)

-- an index is found name by name
abbrev with_subseq : RawIndex → ℕ → ℕ → List Field → List Field → Option IndexDef
with_subseq i target source search subseq = Some (record { seg = i.seg; name = i.name; xdfld = i.xdfld; target = target; source = source; search = search; subseq = subseq })

abbrev with_search : RawIndex → ℕ → ℕ → SegType → List Field → Option IndexDef
with_search i target source t search = option_and_then (with_subseq i target source search) (fields_named t.fields i.subseq)

abbrev with_type : RawIndex → ℕ → ℕ → SegType → Option IndexDef
with_type i target source t = option_and_then (with_search i target source t) (fields_named t.fields i.search)

abbrev with_source : List SegType → RawIndex → ℕ → ℕ → Option IndexDef
with_source types i target source = option_and_then (with_type i target source) (type_of types source)

abbrev with_target : List SegType → RawIndex → ℕ → Option IndexDef
with_target types i target = option_and_then (with_source types i target) (code_named types i.source)

pub record IsFound (types : List SegType) (i : RawIndex) (j : IndexDef) : Type 0 where
  pub target : code_named types i.target ≡ Some j.target
  pub seg : j.seg ≡ i.seg
  pub name : j.name ≡ i.name
  pub xdfld : j.xdfld ≡ i.xdfld

pub index_found : (types : List SegType) (i : RawIndex) (j : IndexDef) → index_of types i ≡ Some j → IsFound types i j
index_found types i j e =
    let a = found {A = ℕ} (code_named types i.target) (with_target types i) j e in
    let b = found {A = ℕ} (code_named types i.source) (with_source types i a.0) j a.2 in
    let c = found {A = SegType} (type_of types b.0) (with_type i a.0 b.0) j b.2 in
    let d = found {A = List Field} (fields_named c.0.fields i.search) (with_search i a.0 b.0 c.0) j c.2 in
    let f = found {A = List Field} (fields_named c.0.fields i.subseq) (with_subseq i a.0 b.0 d.0) j d.2 in
    let same : record { seg = i.seg; name = i.name; xdfld = i.xdfld; target = a.0; source = b.0; search = d.0; subseq = f.0 } ≡ j = same_Some (record { seg = i.seg; name = i.name; xdfld = i.xdfld; target = a.0; source = b.0; search = d.0; subseq = f.0 }) j f.2 in
    record {
      target = a.1 ∙ ap (λ (k : IndexDef). Some k.target) same;
      seg = sym (ap (λ (k : IndexDef). k.seg) same);
      name = sym (ap (λ (k : IndexDef). k.name) same);
      xdfld = sym (ap (λ (k : IndexDef). k.xdfld) same);
    }

index_of-name : (types : List SegType) (i : RawIndex) (j : IndexDef) → index_of types i ≡ Some j → j.name ≡ i.name
index_of-name types i j e = (index_found types i j e).name

pub kept_index_names : (raw : RawSchema) (types : List SegType) → names_repeated raw ≡ [] → IsTrue (index_names_differ (indexes_of types raw.dbd.indexes))
kept_index_names raw types e =
    let indexes = raw.dbd.indexes in
    let like = λ (i j : RawIndex). bytes_eq i.name j.name in
    let same = λ (i j : IndexDef). bytes_eq i.name j.name in
    let on : AgreesOn like same (index_of types) =
    record { agrees = λ a b c d f g. ap (λ n. bytes_eq n d.name) (index_of-name types a c f) ∙ ap (bytes_eq a.name) (index_of-name types b d g) } in
    let here : all_differ like indexes ≡ true =
    sym (differ-map same_name index_name indexes) ∙ differ_from_twice same_name (λ (n : Named). n.place) (map index_name indexes) (apart raw e).indexes in
    differ-map bytes_eq (λ (i : IndexDef). i.name) (indexes_of types indexes)
    ∙ differ-order same target_below (λ i j. bytes_turn i.name j.name) (filter_map (index_of types) indexes)
    ∙ differ-found like same (index_of types) on indexes here
