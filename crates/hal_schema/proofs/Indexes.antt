-- The fields of an index lie in what they are taken from.
use Rattle.std.proofs.Common.{◌≡◌, ℕ, zero, suc, Bool, true, false, ◌&&◌, not, cond, nat_le, IsTrue, List, [], ◌∷◌, Option, Some, None, refl, ap, sym, subst, ◌∙◌, inl, inr}
use Rattle.std.specs.List.{list_all, list_any, slice_get}
use Rattle.std.specs.Option.{option_map_or, ForSome}
use Rattle.std.proofs.lemmas.Slice.Eq.{bytes_eq-Decides}
use Rattle.std.proofs.lemmas.Bool.{and_parts, and_from, or_cases, eqb-true, not-true}
use Rattle.hal_schema.specs.declared.schema.Field.{Field}
use Rattle.hal_schema.specs.declared.schema.SegType.{SegType}
use Rattle.hal_schema.specs.declared.schema.IndexDef.{IndexDef}
use Rattle.hal_schema.specs.SegType.{type_of, path_key_bytes}
use Rattle.hal_schema.specs.Lawful.{is_key_portion, is_within, field_fits, fields_fit, same_field, fields_are_kept, index_is_kept, indexes_are_kept}

-- what holds of each holds of the one at a place
pub all_at : {X : Type 0} (p : X → Bool) (xs : List X) (k : ℕ) (x : X) → list_all p xs ≡ true → slice_get xs k ≡ Some x → p x ≡ true
all_at p [] k x h e = cc
all_at p (y ∷ ys) zero x h e = let s : y ≡ x = cc in ap p (sym s) ∙ (and_parts _ _ h).0
all_at p (y ∷ ys) (suc k) x h e = all_at p ys k x (and_parts _ _ h).1 e

pub all_weaker : {X : Type 0} (p q : X → Bool) → ((x : X) → p x ≡ true → q x ≡ true) → (xs : List X) → list_all p xs ≡ true → list_all q xs ≡ true
all_weaker p q w [] h = refl
all_weaker p q w (x ∷ xs) h = and_from _ _ (w x (and_parts _ _ h).0) (all_weaker p q w xs (and_parts _ _ h).1)

-- a field that stands among fields that fit, and is no portion of the concatenated key
fits_like : (n : ℕ) (f g : Field) → not (is_key_portion f.name) ≡ true → same_field f g ≡ true → field_fits n g ≡ true → is_within n f.start f.bytes ≡ true
fits_like n f g free same fits =
    let a = and_parts _ _ same in
    let b = and_parts _ _ a.0 in
    let name : f.name ≡ g.name = (bytes_eq-Decides f.name g.name).0 b.0 in
    let start : f.start ≡ g.start = eqb-true _ _ b.1 in
    let bytes : f.bytes ≡ g.bytes = eqb-true _ _ a.1 in
    let other : is_key_portion g.name ≡ false = ap is_key_portion (sym name) ∙ not-true _ free in
    let within : is_within n g.start g.bytes ≡ true = sym (ap (λ (b : Bool). cond b (nat_le g.start 65535 && nat_le g.bytes 65535) (is_within n g.start g.bytes)) other) ∙ fits in
    ap (λ s. is_within n s f.bytes) start ∙ ap (λ b. is_within n g.start b) bytes ∙ within

pub among_fits : (n : ℕ) (f : Field) (fields : List Field) → not (is_key_portion f.name) ≡ true → list_any (same_field f) fields ≡ true → list_all (field_fits n) fields ≡ true → is_within n f.start f.bytes ≡ true
among_fits n f [] free any all = cc
among_fits n f (g ∷ fields) free any all =
    elim (or_cases _ _ any) [
      | inl same ↦ fits_like n f g free same (and_parts _ _ all).0
      | inr rest ↦ among_fits n f fields free rest (and_parts _ _ all).1
    ]

-- what an index is held to, with its source type
pub record IndexParts (types : List SegType) (i : IndexDef) (t : SegType) : Type 0 where
  pub search : list_all (λ f. not (is_key_portion f.name) && list_any (same_field f) t.fields) i.search ≡ true
  pub subseq : list_all (λ f. is_key_portion f.name && list_any (same_field f) t.fields && is_within (path_key_bytes types i.source) f.start f.bytes) i.subseq ≡ true

some_test : {X : Type 0} (p : X → Bool) (o : Option X) (x : X) → option_map_or p o false ≡ true → o ≡ Some x → p x ≡ true
some_test p o x h e = ap (λ o. option_map_or p o false) (sym e) ∙ h

pub index_parts : (types : List SegType) (i : IndexDef) (t : SegType) → index_is_kept types i ≡ true → type_of types i.source ≡ Some t → IndexParts types i t
index_parts types i t h e =
    let a = and_parts _ _ h in
    let b = and_parts _ _ a.0 in
    let tests = λ (t : SegType). list_all (λ f. not (is_key_portion f.name) && list_any (same_field f) t.fields) i.search
    && list_all (λ f. is_key_portion f.name && list_any (same_field f) t.fields && is_within (path_key_bytes types i.source) f.start f.bytes) i.subseq in
    let c = and_parts _ _ (some_test tests (type_of types i.source) t b.1 e) in
    record { search = c.0; subseq = c.1 }

source_from : {X : Type 0} (p : X → Bool) (o : Option X) → option_map_or p o false ≡ true → (x : X) × (o ≡ Some x)
source_from p None h = cc
source_from p (Some x) h = (x, refl)

pub source_known : (types : List SegType) (i : IndexDef) → index_is_kept types i ≡ true → (t : SegType) × (type_of types i.source ≡ Some t)
source_known types i h =
    let a = and_parts _ _ h in
    let b = and_parts _ _ a.0 in
    source_from _ (type_of types i.source) b.1

fields_at : (types : List SegType) (c : ℕ) (t : SegType) → fields_fit types ≡ true → type_of types c ≡ Some t → list_all (field_fits t.bytes) t.fields ≡ true
fields_at types zero t h e = cc
fields_at types (suc k) t h e = (and_parts _ _ (all_at (λ (t : SegType). nat_le 1 t.bytes && nat_le t.bytes 2000 && list_all (field_fits t.bytes) t.fields) types k t h e)).1

index_at : (types : List SegType) (indexes : List IndexDef) (k : ℕ) (i : IndexDef) → indexes_are_kept types indexes ≡ true → slice_get indexes k ≡ Some i → index_is_kept types i ≡ true
index_at types indexes k i h e = all_at (index_is_kept types) indexes k i (and_parts _ _ h).0 e

pub search_within : (types : List SegType) (indexes : List IndexDef) (k : ℕ) (i : IndexDef) (n : ℕ) → IsTrue (fields_fit types) → IsTrue (indexes_are_kept types indexes) → slice_get indexes k ≡ Some i → ForSome (type_of types i.source) (λ t. n ≡ t.bytes)
    → list_all (λ f. is_within n f.start f.bytes) i.search ≡ true
search_within types indexes k i n fits kept at long =
    let one = index_at types indexes k i kept at in
    let t = source_known types i one in
    let parts = index_parts types i t.0 one t.1 in
    let fields = fields_at types i.source t.0 fits t.1 in
    subst (λ m. list_all (λ f. is_within m f.start f.bytes) i.search ≡ true) (sym (long t.0 t.1))
    (all_weaker (λ f. not (is_key_portion f.name) && list_any (same_field f) t.0.fields) (λ f. is_within t.0.bytes f.start f.bytes)
    (λ f h. among_fits t.0.bytes f t.0.fields (and_parts _ _ h).0 (and_parts _ _ h).1 fields) i.search parts.search)

pub subseq_within : (types : List SegType) (indexes : List IndexDef) (k : ℕ) (i : IndexDef) (n : ℕ) → IsTrue (indexes_are_kept types indexes) → slice_get indexes k ≡ Some i → n ≡ path_key_bytes types i.source
    → list_all (λ f. is_within n f.start f.bytes) i.subseq ≡ true
subseq_within types indexes k i n kept at long =
    let one = index_at types indexes k i kept at in
    let t = source_known types i one in
    let parts = index_parts types i t.0 one t.1 in
    subst (λ m. list_all (λ f. is_within m f.start f.bytes) i.subseq ≡ true) (sym long)
    (all_weaker (λ f. is_key_portion f.name && list_any (same_field f) t.0.fields && is_within (path_key_bytes types i.source) f.start f.bytes) (λ f. is_within (path_key_bytes types i.source) f.start f.bytes)
    (λ f h. (and_parts _ _ h).1) i.subseq parts.subseq)

-- the fields of an index, against those that were read
pub kept_at : (types : List SegType) (i : IndexDef) (fields : List Field) (path : ℕ) (r : Bool) (t : SegType) → type_of types i.source ≡ Some t → fields ≡ t.fields → path ≡ path_key_bytes types i.source
    → r ≡ (list_all (λ f. not (is_key_portion f.name) && list_any (same_field f) fields) i.search && list_all (λ f. is_key_portion f.name && list_any (same_field f) fields && is_within path f.start f.bytes) i.subseq)
    → r ≡ option_map_or (fields_are_kept types i) (type_of types i.source) false
kept_at types i fields path r t e ef ep h =
    let tests = λ (fs : List Field) (p : ℕ). list_all (λ f. not (is_key_portion f.name) && list_any (same_field f) fs) i.search && list_all (λ f. is_key_portion f.name && list_any (same_field f) fs && is_within p f.start f.bytes) i.subseq in
    h ∙ ap (λ fs. tests fs path) ef ∙ ap (tests t.fields) ep ∙ sym (ap (λ o. option_map_or (fields_are_kept types i) o false) e)
