-- The names of a type's fields differ, also from those of the XDFLDs whose target it is.
use Rattle.std.proofs.Common.{◌≡◌, ℕ, zero, suc, ◌+◌, ◌==◌, Bool, true, false, nat_lt, cond, IsTrue, List, [], ◌∷◌, ◌++◌, get_or, map, Option, Some, None, refl, sym, ap, ◌∙◌, arith}
use Rattle.std.specs.Prelude.{filter, filter_map, flat_map, position}
use Rattle.std.specs.List.{list_all, enumerate_from, slice_get}
use Rattle.std.specs.Option.{option_map}
use Rattle.std.specs.Str.{bytes_eq}
use Rattle.std.proofs.lemmas.Bool.{and_from, both_ways, eqb-true}
use Rattle.std.proofs.lemmas.Bool.Decides.{nat_tests}
use Rattle.std.proofs.lemmas.List.Quantifiers.{position-Some}
use Rattle.std.proofs.lemmas.Option.{same_Some, slice_get-map, get_or_from_slice_get}
use Rattle.hal_schema.specs.declared.raw.RawField.{RawField}
use Rattle.hal_schema.specs.declared.raw.RawIndex.{RawIndex}
use Rattle.hal_schema.specs.declared.raw.RawSchema.{RawSchema}
use Rattle.hal_schema.specs.declared.raw.RawType.{RawType}
use Rattle.hal_schema.specs.declared.rules.names.Named.{Named}
use Rattle.hal_schema.specs.declared.schema.Field.{Field}
use Rattle.hal_schema.specs.declared.schema.SegType.{SegType}
use Rattle.hal_schema.specs.declared.schema.IndexDef.{IndexDef}
use Rattle.hal_schema.specs.Lawful.{all_differ, field_names, field_names_differ}
use Rattle.hal_schema.specs.Raw.{put_in_order, in_order, target_below, types_of, seg_type, field_of, indexes_of, index_of, code_named}
use Rattle.hal_schema.specs.Rules.{same_name, names_twice, named_fields, xdflds_of, field_names as raw_names, names_repeated}
use Rattle.hal_schema.proofs.Differ.{Picks, differ-behind}
use Rattle.hal_schema.proofs.KeptTypes.{nil_parts}
use Rattle.hal_schema.proofs.KeptNames.{index_found, differ_from_twice, differ-map, bytes_turn}
use Rattle.hal_schema.proofs.Numbered.{numbered-map}

-- an item that none of those that are picked goes before is picked first
filter-put : {X : Type 0} (picks : X → Bool) (goes : X → X → Bool) (x : X) → ((y : X) → picks x ≡ true → picks y ≡ true → goes y x ≡ false) → (ys : List X) → filter picks (put_in_order goes x ys) ≡ filter picks (x ∷ ys)
filter-put picks goes x still [] = refl
filter-put {X} picks goes x still (y ∷ ys) = by (goes y x) refl (filter-put picks goes x still ys)
  where
    swapped : (rest : List X) (s t : Bool) → goes y x ≡ true → picks x ≡ s → picks y ≡ t → cond t (y ∷ cond s (x ∷ rest) rest) (cond s (x ∷ rest) rest) ≡ cond s (x ∷ cond t (y ∷ rest) rest) (cond t (y ∷ rest) rest)
    swapped rest true true g a b = absurd (both_ways (goes y x) (still y a b) g)
    swapped rest true false g a b = refl
    swapped rest false t g a b = refl

    by : (b : Bool) → goes y x ≡ b → filter picks (put_in_order goes x ys) ≡ filter picks (x ∷ ys) → filter picks (cond b (y ∷ put_in_order goes x ys) (x ∷ y ∷ ys)) ≡ filter picks (x ∷ y ∷ ys)
    by false g e = refl
    by true g e = ap (λ l. cond (picks y) (y ∷ l) l) e ∙ swapped (filter picks ys) (picks x) (picks y) g refl refl

filter-order : {X : Type 0} (picks : X → Bool) (goes : X → X → Bool) → ((x y : X) → picks x ≡ true → picks y ≡ true → goes y x ≡ false) → (xs : List X) → filter picks (in_order goes xs) ≡ filter picks xs
filter-order picks goes still [] = refl
filter-order picks goes still (x ∷ xs) = filter-put picks goes x (still x) (in_order goes xs) ∙ ap (λ l. cond (picks x) (x ∷ l) l) (filter-order picks goes still xs)

below_not : (a b k : ℕ) → (a == k) ≡ true → (b == k) ≡ true → nat_lt b a ≡ false
below_not a b k s t = grind (arith, nat_tests)

-- the indexes of one target stand in raw order
of_target : (code : ℕ) (indexes : List IndexDef) → filter (λ (i : IndexDef). i.target == code) (in_order target_below indexes) ≡ filter (λ (i : IndexDef). i.target == code) indexes
of_target code indexes = filter-order (λ (i : IndexDef). i.target == code) target_below (λ x y a b. below_not x.target y.target code a b) indexes

-- what holds at each place holds of each item
each_place : {X : Type 0} (p : ℕ × X → Bool) (n : ℕ) (xs : List X) → ((k : ℕ) (x : X) → slice_get xs k ≡ Some x → p (n + k, x) ≡ true) → list_all p (enumerate_from n xs) ≡ true
each_place p n [] w = refl
each_place {X} p n (x ∷ xs) w =
    let m : n + 0 ≡ n = omega arith in
    and_from _ _ (sym (ap (λ k. p (k, x)) m) ∙ w zero x refl)
    (each_place p (n + 1) xs (λ k y e. let s : n + 1 + k ≡ n + suc k = omega arith in ap (λ j. p (j, y)) s ∙ w (suc k) y e))

none_at : {X Y : Type 0} (f : X → List Y) (xs : List X) (k : ℕ) (x : X) → flat_map f xs ≡ [] → slice_get xs k ≡ Some x → f x ≡ []
none_at f [] k x e g = cc
none_at f (y ∷ xs) zero x e g = let s : y ≡ x = cc in ap f (sym s) ∙ (nil_parts (f y) (flat_map f xs) e).0
none_at f (y ∷ xs) (suc k) x e g = none_at f xs k x (nil_parts (f y) (flat_map f xs) e).1 g

code_below : (o : Option ℕ) (c : ℕ) → option_map (λ place. place + 1) o ≡ Some c → (k : ℕ) × (o ≡ Some k) × (k + 1 ≡ c)
code_below None c e = cc
code_below (Some k) c e = (k, refl, same_Some (k + 1) c e)

-- the type of a name's code has that name
type_named : (types : List SegType) (name : List ℕ) (k : ℕ) (t : SegType) → code_named types name ≡ Some (1 + k) → slice_get types k ≡ Some t → bytes_eq t.name name ≡ true
type_named types name k t e g =
    let a = code_below (position (λ (t : SegType). bytes_eq t.name name) types) (1 + k) e in
    let s : a.0 ≡ k = let l = a.2 in omega (arith, l) in
    let b = position-Some (λ (t : SegType). bytes_eq t.name name) types a.0 t a.1 in
    sym (ap (λ (u : SegType). bytes_eq u.name name) (ap (λ j. get_or types j t) s ∙ get_or_from_slice_get types k t t g)) ∙ b.1

-- the XDFLDs of a type by its code, and by its name
picks : (types : List RawType) (k : ℕ) (t : RawType) → slice_get types k ≡ Some t
    → Picks (index_of (types_of types)) (λ (i : RawIndex). bytes_eq i.target t.name) (λ (j : IndexDef). j.target == 1 + k) (λ (i : RawIndex). i.xdfld) (λ (j : IndexDef). j.xdfld)
picks types k t g =
    let at : slice_get (types_of types) k ≡ Some (seg_type types t) = slice_get-map (seg_type types) types k ∙ ap (option_map (seg_type types)) g in
    record {
      picked = λ i j e h.
          let code : code_named (types_of types) i.target ≡ Some (1 + k) = (index_found (types_of types) i j e).target ∙ ap Some (eqb-true j.target (1 + k) h) in
          bytes_turn i.target t.name ∙ type_named (types_of types) i.target k (seg_type types t) code at;
      named = λ i j e. (index_found (types_of types) i j e).xdfld;
    }

map-map : {X Y Z : Type 0} (g : Y → Z) (f : X → Y) (xs : List X) → map g (map f xs) ≡ map (λ x. g (f x)) xs
map-map g f [] = refl
map-map g f (x ∷ xs) = ap (λ l. g (f x) ∷ l) (map-map g f xs)

map-behind : {X Y : Type 0} (f : X → Y) (xs ys : List X) → map f (xs ++ ys) ≡ map f xs ++ map f ys
map-behind f [] ys = refl
map-behind f (x ∷ xs) ys = ap (λ l. f x ∷ l) (map-behind f xs ys)

only_names : (indexes : List RawIndex) (t : RawType) → map (λ (n : Named). n.name) (raw_names indexes t) ≡ map (λ (f : RawField). f.name) t.fields ++ map (λ (i : RawIndex). i.xdfld) (filter (λ (i : RawIndex). bytes_eq i.target t.name) indexes)
only_names indexes t =
    map-behind (λ (n : Named). n.name) (named_fields t.fields) (xdflds_of indexes t.name)
    ∙ ap (λ l. l ++ map (λ (n : Named). n.name) (xdflds_of indexes t.name)) (map-map (λ (n : Named). n.name) _ t.fields)
    ∙ ap (λ l. map (λ (f : RawField). f.name) t.fields ++ l) (map-map (λ (n : Named). n.name) _ (filter (λ (i : RawIndex). bytes_eq i.target t.name) indexes))

type_fields : (types : List RawType) (indexes : List RawIndex) → flat_map (λ t. names_twice (raw_names indexes t)) types ≡ [] → (k : ℕ) (t : RawType) → slice_get types k ≡ Some t
    → all_differ bytes_eq (field_names (indexes_of (types_of types) indexes) (1 + k) (seg_type types t)) ≡ true
type_fields types indexes e k t g =
    let raw : all_differ bytes_eq (map (λ (f : RawField). f.name) t.fields ++ map (λ (i : RawIndex). i.xdfld) (filter (λ (i : RawIndex). bytes_eq i.target t.name) indexes)) ≡ true =
    sym (ap (all_differ bytes_eq) (only_names indexes t)) ∙ differ-map bytes_eq (λ (n : Named). n.name) (raw_names indexes t)
    ∙ differ_from_twice same_name (λ (n : Named). n.place) (raw_names indexes t) (none_at (λ t. names_twice (raw_names indexes t)) types k t e g) in
    let found = filter_map (index_of (types_of types)) indexes in
    ap (λ l. all_differ bytes_eq (l ++ map (λ (j : IndexDef). j.xdfld) (filter (λ (j : IndexDef). j.target == 1 + k) (indexes_of (types_of types) indexes)))) (map-map (λ (f : Field). f.name) field_of t.fields)
    ∙ ap (λ l. all_differ bytes_eq (map (λ (f : RawField). f.name) t.fields ++ map (λ (j : IndexDef). j.xdfld) l)) (of_target (1 + k) found)
    ∙ differ-behind bytes_eq (index_of (types_of types)) (λ (i : RawIndex). bytes_eq i.target t.name) (λ (j : IndexDef). j.target == 1 + k) (λ (i : RawIndex). i.xdfld) (λ (j : IndexDef). j.xdfld)
    (picks types k t g) (map (λ (f : RawField). f.name) t.fields) indexes raw

pub kept_field_names : (raw : RawSchema) → names_repeated raw ≡ [] → IsTrue (field_names_differ (types_of raw.dbd.types) (indexes_of (types_of raw.dbd.types) raw.dbd.indexes))
kept_field_names raw e =
    let types = raw.dbd.types in
    let indexes = raw.dbd.indexes in
    let is = indexes_of (types_of types) indexes in
    let a = nil_parts _ (flat_map (λ t. names_twice (raw_names indexes t)) types) e in
    numbered-map (λ (t : ℕ × SegType). all_differ bytes_eq (field_names is t.0 t.1)) (seg_type types) 1 types
    ∙ each_place (λ (t : ℕ × RawType). all_differ bytes_eq (field_names is t.0 (seg_type types t.1))) 1 types (λ k t g. type_fields types indexes a.1 k t g)
