-- The types of a raw definition that keeps the rules on types.
use Rattle.std.proofs.Common.{◌≡◌, ℕ, zero, suc, ◌+◌, ◌<◌, length, get_or, nat_le, Bool, true, false, ◌&&◌, not, cond, nat_lt, ◌==◌, IsTrue, List, [], ◌∷◌, ◌++◌, Option, Some, None, is_some, is_none, refl, ap, ◌∙◌, arith}
use Rattle.std.specs.Prelude.{flat_map, option_and_then}
use Rattle.std.specs.List.{list_all, enumerate_from}
use Rattle.std.specs.Option.{option_map, option_map_or}
use Rattle.std.proofs.lemmas.Bool.{and_parts, and_from, not-false, lt-ltb}
use Rattle.hal_schema.specs.declared.fault.Place.{Place}
use Rattle.hal_schema.specs.declared.raw.RawType.{RawType}
use Rattle.hal_schema.specs.Places.{statement, when}
use Rattle.hal_schema.specs.Raw.{code_of, field_of, seg_type, types_of}
use Rattle.hal_schema.specs.Rules.{is_unknown_parent, unknown_parents, misplaced_roots, sizes_in}
use Rattle.hal_schema.specs.Lawful.{parent_is_before, parents_are_before, field_fits}
use Rattle.hal_schema.proofs.Numbered.{numbered-map}

-- nothing was appended
pub nil_parts : {X : Type 0} (xs ys : List X) → xs ++ ys ≡ [] → (xs ≡ []) × (ys ≡ [])
nil_parts [] ys e = (refl, e)
nil_parts (x ∷ xs) ys e = cc

pub not_broken : (b : Bool) (p : Place) → when b p ≡ [] → b ≡ false
not_broken true p e = cc
not_broken false p e = refl

-- nowhere broken
pub all_kept : {X : Type 0} (b : X → Bool) (at : X → Place) (xs : List X) → flat_map (λ x. when (b x) (at x)) xs ≡ [] → list_all (λ x. not (b x)) xs ≡ true
all_kept b at [] e = refl
all_kept b at (x ∷ xs) e =
    let p = nil_parts (when (b x) (at x)) (flat_map (λ x. when (b x) (at x)) xs) e in
    and_from _ _ (ap not (not_broken (b x) (at x) p.0)) (all_kept b at xs p.1)

pub all_both : {X : Type 0} (p q r : X → Bool) → ((x : X) → p x ≡ true → q x ≡ true → r x ≡ true) → (xs : List X) → list_all p xs ≡ true → list_all q xs ≡ true → list_all r xs ≡ true
all_both p q r w [] h g = refl
all_both p q r w (x ∷ xs) h g = and_from _ _ (w x (and_parts _ _ h).0 (and_parts _ _ g).0) (all_both p q r w xs (and_parts _ _ h).1 (and_parts _ _ g).1)

code_above : (o : Option ℕ) (c : ℕ) → option_map_or (λ known. nat_lt known c) (option_map (λ place. place + 1) o) false ≡ true → parent_is_before c (option_map (λ place. place + 1) o) ≡ true
code_above None c h = cc
code_above (Some k) c h = and_from _ _ (lt-ltb 0 (k + 1) (omega arith)) h

double-not : (b : Bool) → not (not b) ≡ true → b ≡ true
double-not true e = refl
double-not false e = e

root_code : (b : Bool) → not (cond b false true) ≡ true → b ≡ true
root_code true e = refl
root_code false e = e

parent_kept : (types : List RawType) (c : ℕ) (parent : Option (List ℕ)) → not (is_unknown_parent types c parent) ≡ true → not (cond (c == 1) (is_some parent) (is_none parent)) ≡ true → parent_is_before c (option_and_then (code_of types) parent) ≡ true
parent_kept types c None h g = root_code (c == 1) g
parent_kept types c (Some name) h g = code_above _ c (double-not _ h)

pub kept_parents : (types : List RawType) → unknown_parents types ≡ [] → misplaced_roots types ≡ [] → IsTrue (parents_are_before (types_of types))
kept_parents types a b =
    numbered-map (λ t. parent_is_before t.0 t.1.parent) (seg_type types) 1 types
    ∙ all_both _ _ (λ (t : ℕ × RawType). parent_is_before t.0 (option_and_then (code_of types) t.1.parent)) (λ t h g. parent_kept types t.0 t.1.parent h g) (enumerate_from 1 types)
    (all_kept (λ (t : ℕ × RawType). is_unknown_parent types t.0 t.1.parent) (λ t. statement t.1.line) (enumerate_from 1 types) a)
    (all_kept (λ (t : ℕ × RawType). cond (t.0 == 1) (is_some t.1.parent) (is_none t.1.parent)) (λ t. statement t.1.line) (enumerate_from 1 types) b)

pub nil_at : {X Y : Type 0} (f : X → List Y) (xs : List X) (i : ℕ) (x : X) → flat_map f xs ≡ [] → i < length xs → x ≡ get_or xs i x → f x ≡ []
nil_at f [] i x e l r = absurd (omega arith)
nil_at f (y ∷ xs) zero x e l r = ap f r ∙ (nil_parts (f y) (flat_map f xs) e).0
nil_at f (y ∷ xs) (suc i) x e l r = nil_at f xs i x (nil_parts (f y) (flat_map f xs) e).1 (omega arith) r

pub all_sound : {X : Type 0} (b : X → Bool) (at : X → Place) (xs : List X) → flat_map (λ x. when (not (b x)) (at x)) xs ≡ [] → list_all b xs ≡ true
all_sound b at [] e = refl
all_sound b at (x ∷ xs) e =
    let p = nil_parts (when (not (b x)) (at x)) (flat_map (λ x. when (not (b x)) (at x)) xs) e in
    and_from _ _ (not-false _ (not_broken (not (b x)) (at x) p.0)) (all_sound b at xs p.1)

pub sound : (b : Bool) (p : Place) → when (not b) p ≡ [] → b ≡ true
sound b p e = not-false _ (not_broken (not b) p e)

pub kept_sizes : (t : RawType) → sizes_in t ≡ [] → list_all (λ f. field_fits t.bytes (field_of f)) t.fields ≡ true
kept_sizes t e =
    let p = nil_parts (when (not (nat_le 1 t.bytes && nat_le t.bytes 2000)) (statement t.line)) (flat_map (λ f. when (not (field_fits t.bytes (field_of f))) (statement f.line)) t.fields) e in
    all_sound (λ f. field_fits t.bytes (field_of f)) (λ f. statement f.line) t.fields p.1

pub kept_bytes : (t : RawType) → sizes_in t ≡ [] → (nat_le 1 t.bytes && nat_le t.bytes 2000) ≡ true
kept_bytes t e =
    sound (nat_le 1 t.bytes && nat_le t.bytes 2000) (statement t.line) (nil_parts (when (not (nat_le 1 t.bytes && nat_le t.bytes 2000)) (statement t.line)) (flat_map (λ f. when (not (field_fits t.bytes (field_of f))) (statement f.line)) t.fields) e).0
