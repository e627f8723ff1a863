-- The indexes that the canonical text says are those of the schema, in its order.
use Rattle.std.proofs.Common.{◌≡◌, ℕ, zero, suc, ◌+◌, ◌==◌, Bool, true, false, ◌&&◌, ◌||◌, not, nat_le, cond, List, [], ◌∷◌, length, map, Option, None, Some, slice_get, ◌⊎◌, ⊎_elim, refl, sym, ap, arith, ◌∙◌, inl, inr, sum_by}
use Rattle.std.specs.Prelude.{option_and_then}
use Rattle.std.specs.List.{list_all, list_any, find, enumerate_from}
use Rattle.std.specs.Option.{option_map, option_map_or}
use Rattle.std.specs.Str.{bytes_eq}
use Rattle.std.proofs.lemmas.Bool.{and_parts, and_from, or_cases, or_right, not-true, true≢false, false≢true, eqb-true}
use Rattle.std.proofs.lemmas.Option.{none-some, same_Some}
use Rattle.std.proofs.lemmas.Slice.Eq.{bytes_eq-Decides}
use Rattle.hal_schema.specs.declared.schema.Field.{Field}
use Rattle.hal_schema.specs.declared.schema.IndexDef.{IndexDef}
use Rattle.hal_schema.specs.declared.schema.SegType.{SegType}
use Rattle.hal_schema.specs.SegType.{type_of, parent_code, ancestry, path_key_bytes}
use Rattle.hal_schema.specs.Lawful.{all_differ, same_field, fields_are_kept, index_is_kept, is_key_portion, is_within}
use Rattle.hal_schema.specs.Raw.{code_named, fields_named, index_of}
use Rattle.definition_printer.specs.Dbd.{name_of}
use Rattle.definition_text.specs.RawDbd.{raw_index}
use Rattle.definition_text.proofs.TypesBack.{NamesDiffer, before_next, named_back}

-- ---- lists

pub all_at : {X : Type 0} (p : X → Bool) (xs : List X) (k : ℕ) (x : X) → list_all p xs ≡ true → slice_get xs k ≡ Some x → p x ≡ true
all_at p [] k x h e = absurd (none-some x e)
all_at {X} p (y ∷ ys) zero x h e = ap p (sym (same_Some {A = X} y x e)) ∙ (and_parts (p y) (list_all p ys) h).0
all_at p (y ∷ ys) (suc k) x h e = all_at p ys k x (and_parts (p y) (list_all p ys) h).1 e

pub place_at : {X : Type 0} (p : ℕ × X → Bool) (n : ℕ) (xs : List X) (k : ℕ) (x : X) → list_all p (enumerate_from n xs) ≡ true → slice_get xs k ≡ Some x → p (n + k, x) ≡ true
place_at p n [] k x h e = absurd (none-some x e)
place_at {X} p n (y ∷ ys) zero x h e =
    let here : n + 0 ≡ n = omega arith in
    ap (λ (j : ℕ). p (j, x)) here ∙ ap (λ (z : X). p (n, z)) (sym (same_Some {A = X} y x e)) ∙ (and_parts (p (n, y)) (list_all p (enumerate_from (n + 1) ys)) h).0
place_at {X} p n (y ∷ ys) (suc k) x h e =
    let next : n + suc k ≡ n + 1 + k = omega arith in
    ap (λ (j : ℕ). p (j, x)) next ∙ place_at p (n + 1) ys k x (and_parts (p (n, y)) (list_all p (enumerate_from (n + 1) ys)) h).1 e

-- ---- fields by name

abbrev pub names : List Field → List (List ℕ)
names fields = map (λ (f : Field). f.name) fields

any_named : (f : Field) (fields : List Field) → list_any (same_field f) fields ≡ true → list_any (bytes_eq f.name) (names fields) ≡ true
any_named f [] h = h
any_named f (g ∷ gs) h = ⊎_elim here (λ e. later (any_named f gs e)) (or_cases (same_field f g) (list_any (same_field f) gs) h)
  where
    here : same_field f g ≡ true → list_any (bytes_eq f.name) (names (g ∷ gs)) ≡ true
    here e =
        let a = and_parts (bytes_eq f.name g.name && f.start == g.start) (f.bytes == g.bytes) e in
        let b = and_parts (bytes_eq f.name g.name) (f.start == g.start) a.0 in
        ap (λ (t : Bool). t || list_any (bytes_eq f.name) (names gs)) b.0

    later : list_any (bytes_eq f.name) (names gs) ≡ true → list_any (bytes_eq f.name) (names (g ∷ gs)) ≡ true
    later e = or_right (bytes_eq f.name g.name) (list_any (bytes_eq f.name) (names gs)) e

field_same : (f g : Field) → same_field f g ≡ true → g ≡ f
field_same f g e =
    let a = and_parts (bytes_eq f.name g.name && f.start == g.start) (f.bytes == g.bytes) e in
    let b = and_parts (bytes_eq f.name g.name) (f.start == g.start) a.0 in
    let name : f.name ≡ g.name = (bytes_eq-Decides f.name g.name).0 b.0 in
    let start = eqb-true f.start g.start b.1 in
    let bytes = eqb-true f.bytes g.bytes a.1 in
    sym (ap (λ (n : List ℕ). field n f.start f.bytes) name ∙ ap (λ (n : ℕ). field g.name n f.bytes) start ∙ ap (λ (n : ℕ). field g.name g.start n) bytes)
  where
    field : List ℕ → ℕ → ℕ → Field
    field name start bytes = record { name = name; start = start; bytes = bytes }

find_back : (fields : List Field) (f : Field) → all_differ bytes_eq (names fields) ≡ true → list_any (same_field f) fields ≡ true → find (λ (g : Field). bytes_eq g.name f.name) fields ≡ Some f
find_back [] f d h = absurd (false≢true h)
find_back (g ∷ gs) f d h =
    by (bytes_eq g.name f.name) refl (λ later. find_back gs f (and_parts (not (list_any (bytes_eq g.name) (names gs))) (all_differ bytes_eq (names gs)) d).1 later) (or_cases (same_field f g) (list_any (same_field f) gs) h)
  where
    apart : list_any (bytes_eq g.name) (names gs) ≡ false
    apart = not-true (list_any (bytes_eq g.name) (names gs)) (and_parts (not (list_any (bytes_eq g.name) (names gs))) (all_differ bytes_eq (names gs)) d).0

    twice : bytes_eq g.name f.name ≡ true → list_any (same_field f) gs ≡ true → ⊥
    twice e later =
        let same : f.name ≡ g.name = sym ((bytes_eq-Decides g.name f.name).0 e) in
        true≢false (sym (any_named f gs later) ∙ ap (λ (n : List ℕ). list_any (bytes_eq n) (names gs)) same ∙ apart)

    by : (b : Bool) → bytes_eq g.name f.name ≡ b → (list_any (same_field f) gs ≡ true → find (λ (g : Field). bytes_eq g.name f.name) gs ≡ Some f) → (same_field f g ≡ true) ⊎ (list_any (same_field f) gs ≡ true) → cond b (Some g) (find (λ (g : Field). bytes_eq g.name f.name) gs) ≡ Some f
    by true e rest (inl here) = ap (λ (x : Field). Some x) (field_same f g here)
    by true e rest (inr later) = absurd (twice e later)
    by false e rest (inl here) = absurd (true≢false (sym ((bytes_eq-Decides g.name f.name).1 (ap (λ (x : Field). x.name) (field_same f g here))) ∙ e))
    by false e rest (inr later) = rest later

fields_found : (fields : List Field) (fs : List Field) → all_differ bytes_eq (names fields) ≡ true → list_all (λ (f : Field). list_any (same_field f) fields) fs ≡ true → fields_named fields (names fs) ≡ Some fs
fields_found fields [] d h = refl
fields_found fields (f ∷ fs) d h =
    let (here, later) = and_parts (list_any (same_field f) fields) (list_all (λ (f : Field). list_any (same_field f) fields) fs) h in
    ap (option_and_then (λ (g : Field). option_map (λ (gs : List Field). g ∷ gs) (fields_named fields (names fs)))) (find_back fields f d here)
    ∙ ap (option_map (λ (gs : List Field). f ∷ gs)) (fields_found fields fs d later)

pub weaker : {X : Type 0} (p q : X → Bool) → ((x : X) → p x ≡ true → q x ≡ true) → (xs : List X) → list_all p xs ≡ true → list_all q xs ≡ true
weaker p q f [] h = refl
weaker p q f (x ∷ xs) h =
    let (here, later) = and_parts (p x) (list_all p xs) h in
    and_from (q x) (list_all q xs) (f x here) (weaker p q f xs later)

-- ---- one index

-- what a schema keeps of its types' names and parents
pub record AreKnown (types : List SegType) : Type 0 where
  pub differ : NamesDiffer types
  pub fields : list_all (λ (t : SegType). all_differ bytes_eq (names t.fields)) types ≡ true
  pub before : list_all before_next (enumerate_from 1 types) ≡ true

pub record HasSource (types : List SegType) (i : IndexDef) : Type 0 where
  pub place : ℕ
  pub source : i.source ≡ suc place
  pub type : SegType
  pub is : slice_get types place ≡ Some type
  pub fields : fields_are_kept types i type ≡ true
  pub target : list_any (λ (code : ℕ). code == i.target) (ancestry (parent_code types) i.source) ≡ true

pub source_of : (types : List SegType) (i : IndexDef) → index_is_kept types i ≡ true → HasSource types i
source_of types i h =
    let long = nat_le (sum_by (λ f. f.bytes) i.search + sum_by (λ f. f.bytes) i.subseq) 240 in
    let kept = option_map_or (fields_are_kept types i) (type_of types i.source) false in
    let above = list_any (λ (code : ℕ). code == i.target) (ancestry (parent_code types) i.source) in
    let a = and_parts (above && nat_le 1 (length i.search) && nat_le (length i.search) 5 && kept) long h in
    let b = and_parts (above && nat_le 1 (length i.search) && nat_le (length i.search) 5) kept a.0 in
    let c = and_parts (above && nat_le 1 (length i.search)) (nat_le (length i.search) 5) b.0 in
    let d = and_parts above (nat_le 1 (length i.search)) c.0 in
    by i.source refl b.1 d.0
  where
    at : (k : ℕ) → i.source ≡ suc k → (o : Option SegType) → slice_get types k ≡ o → option_map_or (fields_are_kept types i) o false ≡ true → list_any (λ (code : ℕ). code == i.target) (ancestry (parent_code types) i.source) ≡ true → HasSource types i
    at k e None f h above = absurd (false≢true h)
    at k e (Some t) f h above = record { place = k; source = e; type = t; is = f; fields = h; target = above }

    by : (code : ℕ) → i.source ≡ code → option_map_or (fields_are_kept types i) (type_of types code) false ≡ true → list_any (λ (code : ℕ). code == i.target) (ancestry (parent_code types) i.source) ≡ true → HasSource types i
    by zero e h above = absurd (false≢true h)
    by (suc k) e h above = at k e (slice_get types k) refl h above

abbrev with_subseq : IndexDef → List Field → List Field → IndexDef
with_subseq i search subseq = record { seg = i.seg; name = i.name; xdfld = i.xdfld; target = i.target; source = i.source; search = search; subseq = subseq }

pub index_back : (types : List SegType) (code line : ℕ) (name : List ℕ) (i : IndexDef) → AreKnown types → code_named types name ≡ Some code → i.target ≡ code → index_is_kept types i ≡ true
    → index_of types (raw_index types name line i) ≡ Some i
index_back types code line name i known is target kept =
    let s = source_of types i kept in
    let apart = all_at (λ (t : SegType). all_differ bytes_eq (names t.fields)) types s.place s.type known.fields s.is in
    let both = and_parts (list_all (λ (f : Field). not (is_key_portion f.name) && list_any (same_field f) s.type.fields) i.search)
    (list_all (λ (f : Field). is_key_portion f.name && list_any (same_field f) s.type.fields && is_within (path_key_bytes types i.source) f.start f.bytes) i.subseq) s.fields in
    let search = fields_found s.type.fields i.search apart (weaker (λ (f : Field). not (is_key_portion f.name) && list_any (same_field f) s.type.fields) (λ (f : Field). list_any (same_field f) s.type.fields)
    (λ f h. (and_parts (not (is_key_portion f.name)) (list_any (same_field f) s.type.fields) h).1) i.search both.0) in
    let subseq = fields_found s.type.fields i.subseq apart (weaker (λ (f : Field). is_key_portion f.name && list_any (same_field f) s.type.fields && is_within (path_key_bytes types i.source) f.start f.bytes) (λ (f : Field). list_any (same_field f) s.type.fields)
    (λ f h. (and_parts (is_key_portion f.name) (list_any (same_field f) s.type.fields) (and_parts (is_key_portion f.name && list_any (same_field f) s.type.fields) (is_within (path_key_bytes types i.source) f.start f.bytes) h).0).1) i.subseq both.1) in
    let known_type : type_of types i.source ≡ Some s.type = ap (type_of types) s.source ∙ s.is in
    let called : name_of types i.source ≡ s.type.name = ap (λ (o : Option SegType). option_map_or (λ (t : SegType). t.name) o []) known_type in
    let next : s.place + 1 ≡ i.source = omega (arith, s.source) in
    let coded : code_named types (name_of types i.source) ≡ Some i.source = ap (code_named types) called ∙ named_back types s.place s.type known.differ s.is ∙ ap (λ (n : ℕ). Some n) next in
    let here : code_named types name ≡ Some i.target = is ∙ ap (λ (n : ℕ). Some n) (sym target) in
    rw (here, coded, known_type, search, subseq) refl
