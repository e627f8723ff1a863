-- What is among a list after an element was put in, taken out or replaced.
use Rattle.std.proofs.Common.{Result, Ok, Err, cond, ◌≡◌, ◌⊎◌, ℕ, zero, suc, ◌+◌, ◌<◌, ◌≤◌, true, false, List, [], ◌∷◌, ◌++◌, length, get_or, take, drop, Option, Some, None, inl, inr, refl, sym, subst, ◌∙◌, arith}
use Rattle.std.specs.Prelude.{Contains, IsSomeAnd, insert, is_ok, is_err}
use Rattle.std.specs.List.{AllWithin, AllZip}
use Rattle.std.proofs.lemmas.List.{take-append-drop, get_or-drop, get_or-take, length-take-le, length-drop}
use Rattle.std.proofs.lemmas.List.Elements.{Contains-append_left, Contains-append_right, Contains-append_cases}
use Rattle.keyed_sets.specs.Layout.{is_below}
use Rattle.keyed_sets.specs.Map.{KeysRise}
use Rattle.keyed_sets.proofs.Members.{at_front, further, front_or, rise-append, rise-left, rise-right, rise-between}

pub in_parts : {X : Type 0} (xs : List X) (i : ℕ) (y : X) → Contains xs y → Contains (take i xs) y ⊎ Contains (drop i xs) y
in_parts {X} xs i y c = Contains-append_cases (take i xs) (drop i xs) y (subst (λ (l : List X). Contains l y) (sym (take-append-drop i xs)) c)

pub from_take : {X : Type 0} (xs : List X) (i : ℕ) (y : X) → Contains (take i xs) y → Contains xs y
from_take {X} xs i y c = subst (λ (l : List X). Contains l y) (take-append-drop i xs) (Contains-append_left (take i xs) (drop i xs) y c)

pub from_drop : {X : Type 0} (xs : List X) (i : ℕ) (y : X) → Contains (drop i xs) y → Contains xs y
from_drop {X} xs i y c = subst (λ (l : List X). Contains l y) (take-append-drop i xs) (Contains-append_right (take i xs) (drop i xs) y c)

pub put_or : {X : Type 0} (xs : List X) (i : ℕ) (x y : X) → Contains (insert xs i x) y → (y ≡ x) ⊎ Contains xs y
put_or xs i x y c = elim (Contains-append_cases (take i xs) (x ∷ drop i xs) y c) [
  | inl front ↦ inr (from_take xs i y front)
  | inr back ↦ elim (front_or x (drop i xs) y back) [ inl is ↦ inl is | inr d ↦ inr (from_drop xs i y d) ]
]

pub put_new : {X : Type 0} (xs : List X) (i : ℕ) (x : X) → Contains (insert xs i x) x
put_new xs i x = Contains-append_right (take i xs) (x ∷ drop i xs) x (at_front x (drop i xs))

pub put_old : {X : Type 0} (xs : List X) (i : ℕ) (x y : X) → Contains xs y → Contains (insert xs i x) y
put_old xs i x y c = elim (in_parts xs i y c) [
  | inl front ↦ Contains-append_left (take i xs) (x ∷ drop i xs) y front
  | inr back ↦ Contains-append_right (take i xs) (x ∷ drop i xs) y (further x (drop i xs) y back)
]

-- what stands before a place, and from it on
pub holds_before : {X : Type 0} (P : X → Type 0) (xs : List X) (i : ℕ) → i ≤ length xs → AllWithin P xs 0 i → (y : X) → Contains (take i xs) y → P y
holds_before P xs i le all y c =
    let lt : c.0 < i = omega (arith, c.1, length-take-le i xs le) in
    subst P (sym (get_or-take i xs c.0 y lt) ∙ c.2) (all c.0 y (omega arith) lt)

pub holds_behind : {X : Type 0} (P : X → Type 0) (xs : List X) (i : ℕ) → AllWithin P xs i (length xs) → (y : X) → Contains (drop i xs) y → P y
holds_behind P xs i all y c = subst P (sym (get_or-drop i xs c.0 y) ∙ c.2) (all (i + c.0) y (omega arith) (omega (arith, c.1, length-drop i xs)))

pub rise_parts : {X : Type 0} (key : X → List ℕ) (xs : List X) (i : ℕ) → KeysRise key xs → KeysRise key (take i xs ++ drop i xs)
rise_parts {X} key xs i rise = subst (KeysRise key) (sym (take-append-drop i xs)) rise

-- an element put between those below and those above it
pub put_rises : {X : Type 0} (key : X → List ℕ) (xs : List X) (i : ℕ) (x : X) → KeysRise key xs → ((y : X) → Contains (take i xs) y → is_below (key y) (key x) ≡ true)
    → ((y : X) → Contains (drop i xs) y → is_below (key x) (key y) ≡ true) → KeysRise key (insert xs i x)
put_rises {X} key xs i x rise before behind =
    let parts = rise_parts key xs i rise in
    rise-append key (take i xs) (x ∷ drop i xs) (rise-left key (take i xs) (drop i xs) parts) (behind, rise-right key (take i xs) (drop i xs) parts)
    (λ a b c d. elim (front_or x (drop i xs) b d) [
      | inl is ↦ subst (λ (y : X). is_below (key a) (key y) ≡ true) (sym is) (before a c)
      | inr e ↦ rise-between key (take i xs) (drop i xs) parts a b c e
    ])

pub zip_put : {X Y : Type 0} (R : X → Y → Type 0) (xs : List X) (ys : List Y) (i : ℕ) (x : X) (y : Y) → AllZip R xs ys → R x y → AllZip R (insert xs i x) (insert ys i y)
zip_put R xs ys zero x y zip this = (this, zip)
zip_put R [] [] (suc i) x y zip this = (this, tt)
zip_put R [] (b ∷ ys) (suc i) x y zip this = absurd zip
zip_put R (a ∷ xs) [] (suc i) x y zip this = absurd zip
zip_put R (a ∷ xs) (b ∷ ys) (suc i) x y zip this = (zip.0, zip_put R xs ys i x y zip.1 this)

pub zip_weaker : {X Y : Type 0} (R S : X → Y → Type 0) (xs : List X) (ys : List Y) → ((x : X) (y : Y) → R x y → S x y) → AllZip R xs ys → AllZip S xs ys
zip_weaker R S [] [] weaker zip = tt
zip_weaker R S [] (b ∷ ys) weaker zip = absurd zip
zip_weaker R S (a ∷ xs) [] weaker zip = absurd zip
zip_weaker R S (a ∷ xs) (b ∷ ys) weaker zip = (weaker a b zip.0, zip_weaker R S xs ys weaker zip.1)

pub some_and : {X : Type 0} (o : Option X) (P : X → Type 0) → IsSomeAnd o P → (x : X) × (o ≡ Some x) × P x
some_and None P is = absurd is
some_and (Some x) P is = (x, refl, is)

pub zip_at : {X Y : Type 0} (R : X → Y → Type 0) (xs : List X) (ys : List Y) (i : ℕ) (d : X) (e : Y) → AllZip R xs ys → i < length xs → (i < length ys) × R (get_or xs i d) (get_or ys i e)
zip_at R [] ys i d e zip lt = absurd (omega (arith, lt))
zip_at R (a ∷ xs) [] i d e zip lt = absurd zip
zip_at R (a ∷ xs) (b ∷ ys) zero d e zip lt = (omega arith, zip.0)
zip_at R (a ∷ xs) (b ∷ ys) (suc i) d e zip lt = let more = zip_at R xs ys i d e zip.1 (omega (arith, lt)) in (omega (arith, more.0), more.1)

pub zip_back : {X Y : Type 0} (R : X → Y → Type 0) (xs : List X) (ys : List Y) (i : ℕ) → AllZip R xs ys → i < length ys → i < length xs
zip_back R [] [] i zip lt = lt
zip_back R [] (b ∷ ys) i zip lt = absurd zip
zip_back R (a ∷ xs) [] i zip lt = absurd zip
zip_back R (a ∷ xs) (b ∷ ys) zero zip lt = omega arith
zip_back R (a ∷ xs) (b ∷ ys) (suc i) zip lt = let more = zip_back R xs ys i zip.1 (omega (arith, lt)) in omega (arith, more)

-- what is left where a call that may fail didn't
pub done_of : {T E X : Type 0} (r : Result T E) (xs done undone : X) → is_err r ≡ false → xs ≡ cond (is_ok r) done undone → xs ≡ done
done_of (Ok t) xs done undone fine is = is
done_of (Err e) xs done undone fine is = cc
