-- What a definition says of the cells of a side.
use Rattle.std.proofs.Common.{◌≡◌, ℕ, zero, suc, ◌+◌, ◌<◌, ◌≤◌, true, ◌&&◌, nat_le, List, [], ◌∷◌, ◌++◌, map, length, get_or, take, Option, None, Some, refl, sym, ap, subst, ◌∙◌, arith}
use Rattle.std.specs.Prelude.{slice_get, count_by, option_and_then, IsSomeAnd}
use Rattle.std.specs.List.{enumerate_from}
use Rattle.std.specs.Option.{option_map, option_map_or}
use Rattle.std.proofs.lemmas.Bool.{and_from, le-leb}
use Rattle.std.proofs.lemmas.List.{length-map, take_more, take_all}
use Rattle.std.proofs.lemmas.Option.{slice_get-map, get_or_from_slice_get}
use Rattle.hal_base.specs.declared.place.Shape.{Shape}
use Rattle.hal_schema.specs.declared.schema.Schema.{Schema}
use Rattle.hal_schema.specs.declared.schema.SegType.{SegType}
use Rattle.hal_schema.specs.declared.schema.KeyField.{KeyField}
use Rattle.hal_schema.specs.Facts.{SchemasAreKept}
use Rattle.hal_schema.specs.SegType.{type_of, is_child, key_bytes}
use Rattle.free_space.specs.Side.{are_letters}
use Rattle.record_tree.specs.Sides.{letters_of, shape_of, shapes_of}

-- ---- shapes

pair_at : (n : ℕ) (types : List SegType) (k : ℕ) (t : SegType) → slice_get types k ≡ Some t → slice_get (enumerate_from n types) k ≡ Some (n + k, t)
pair_at n [] k t e = let none : None ≡ Some t = e in cc
pair_at n (u ∷ types) zero t e = let same : u ≡ t = cc in ap (λ (v : SegType). Some (n, v)) same ∙ ap (λ (m : ℕ). Some (m, t)) (plus_none n)
  where
    plus_none : (m : ℕ) → m ≡ m + 0
    plus_none m = omega arith
pair_at n (u ∷ types) (suc k) t e = pair_at (n + 1) types k t e ∙ ap (λ (m : ℕ). Some (m, t)) (further n k)
  where
    further : (m l : ℕ) → (m + 1) + l ≡ m + suc l
    further m l = omega arith

pub shape_at : (schema : Schema) (k : ℕ) (t : SegType) → slice_get schema.types k ≡ Some t → slice_get (shapes_of schema) k ≡ Some (record { children = count_by (is_child (1 + k)) schema.types; bytes = t.bytes })
shape_at schema k t e = slice_get-map (shape_of schema.types) (enumerate_from 1 schema.types) k ∙ ap (option_map (shape_of schema.types)) (pair_at 1 schema.types k t e)

enumerated : (n : ℕ) (types : List SegType) → length (enumerate_from n types) ≡ length types
enumerated n [] = refl
enumerated n (t ∷ types) = ap suc (enumerated (n + 1) types)

pub shapes_long : (schema : Schema) → length (shapes_of schema) ≡ length schema.types
shapes_long schema = length-map (enumerate_from 1 schema.types) (shape_of schema.types) ∙ enumerated 1 schema.types

pub letters_long : (schema : Schema) → length (letters_of schema) ≡ length schema.types
letters_long schema = length-map schema.types (λ (t : SegType). t.letter)

-- ---- letters

letters_in : (types : List SegType) → ((k : ℕ) (t : SegType) → slice_get types k ≡ Some t → (65 ≤ t.letter) × (t.letter ≤ 74)) → are_letters (map (λ (t : SegType). t.letter) types) ≡ true
letters_in [] each = refl
letters_in (t ∷ types) each =
    let own = each 0 t refl in
    and_from (nat_le 65 t.letter && nat_le t.letter 74) (are_letters (map (λ (u : SegType). u.letter) types)) (and_from (nat_le 65 t.letter) (nat_le t.letter 74) (le-leb 65 t.letter own.0) (le-leb t.letter 74 own.1))
    (letters_in types (λ k u e. each (suc k) u e))

pub letters_fit : SchemasAreKept → (schema : Schema) → are_letters (letters_of schema) ≡ true
letters_fit kept schema = letters_in schema.types (λ k t e. let keeps = (kept schema).types (suc k) t e in (keeps.letter_from, keeps.letter_to))

-- ---- the root's key

pub some_key : SchemasAreKept → (schema : Schema) → 0 < key_bytes schema.types 1
some_key kept schema =
    let root = (kept schema).root_key in
    let t : SegType = root.0 in
    let k : KeyField = root.1 in
    let is : key_bytes schema.types 1 ≡ k.bytes =
    ap (λ (o : Option SegType). option_map_or (λ (k : KeyField). k.bytes) (option_and_then (λ (t : SegType). t.key) o) 0) root.2 ∙ ap (λ (o : Option KeyField). option_map_or (λ (k : KeyField). k.bytes) o 0) root.3 in
    let some = (((kept schema).types 1 t root.2).key k root.3).field.some in
    omega (arith, is, some)

-- ---- shapes one after the other

some_at : {X : Type 0} (xs : List X) (k : ℕ) → k < length xs → (x : X) × (slice_get xs k ≡ Some x)
some_at [] k lt = absurd (omega (arith, lt))
some_at (x ∷ xs) zero lt = (x, refl)
some_at (x ∷ xs) (suc k) lt = some_at xs k (omega (arith, lt))

pub one_more : (schema : Schema) (k : ℕ) (shape : Shape) → k < length schema.types → shape.children ≡ count_by (is_child (k + 1)) schema.types → IsSomeAnd (type_of schema.types (k + 1)) (λ t. shape.bytes ≡ t.bytes)
    → take k (shapes_of schema) ++ shape ∷ [] ≡ take (k + 1) (shapes_of schema)
one_more schema k shape lt children bytes =
    let (t, at) = some_at schema.types k lt in
    let long = shapes_long schema in
    let here : get_or (shapes_of schema) k shape ≡ record { children = count_by (is_child (1 + k)) schema.types; bytes = t.bytes } = get_or_from_slice_get (shapes_of schema) k _ shape (shape_at schema k t at) in
    let own : shape.bytes ≡ t.bytes = bytes_of t at in
    ap (λ (s : Shape). take k (shapes_of schema) ++ s ∷ []) (whole (count_by (is_child (1 + k)) schema.types) t.bytes (children ∙ ap (λ (n : ℕ). count_by (is_child n) schema.types) (turned k)) own ∙ sym here)
    ∙ sym (take_more (shapes_of schema) k shape (omega (arith, long, lt)))
  where
    turned : (n : ℕ) → n + 1 ≡ 1 + n
    turned n = omega arith

    whole : (children bytes : ℕ) → shape.children ≡ children → shape.bytes ≡ bytes → ◌≡◌ {A = Shape} shape (record { children = children; bytes = bytes })
    whole children bytes e f = λ i. record { children = e i; bytes = f i }

    bytes_of : (t : SegType) → slice_get schema.types k ≡ Some t → shape.bytes ≡ t.bytes
    bytes_of t at = if_at (type_of schema.types (k + 1)) t (λ u. shape.bytes ≡ u.bytes) (ap (type_of schema.types) (one_on k) ∙ at) bytes
      where
        one_on : (n : ℕ) → n + 1 ≡ suc n
        one_on n = omega arith

        if_at : (o : Option SegType) (u : SegType) (P : SegType → Type 0) → o ≡ Some u → IsSomeAnd o P → P u
        if_at o u P is holds = subst (λ (p : Option SegType). IsSomeAnd p P) is holds

pub all_taken : (schema : Schema) (k : ℕ) → length schema.types ≤ k → take k (shapes_of schema) ≡ shapes_of schema
all_taken schema k le = let long = shapes_long schema in take_all k (shapes_of schema) (omega (arith, long, le))
