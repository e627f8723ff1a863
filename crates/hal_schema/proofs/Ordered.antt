-- Lists that are put in order item by item, from the last on.
use Rattle.std.proofs.Common.{◌≡◌, ℕ, ◌-◌, zero, suc, ◌+◌, ◌<◌, ◌≤◌, Bool, true, false, ◌||◌, ◌⊎◌, inl, inr, cond, List, [], ◌∷◌, length, get_or, drop, Some, refl, sym, ap, ◌∙◌, arith}
use Rattle.std.specs.Prelude.{insert, filter_map}
use Rattle.std.specs.List.{list_all, prefix_len, cons_option}
use Rattle.std.specs.Ordering.{is_lt}
use Rattle.std.proofs.lemmas.List.{drop_more}
use Rattle.std.proofs.lemmas.Bool.{and_parts, and_from, or_cases, both_ways}
use Rattle.hal_schema.specs.declared.fault.Place.{Place}
use Rattle.hal_schema.specs.declared.raw.RawDbd.{RawDbd}
use Rattle.hal_schema.specs.declared.raw.RawPart.{RawPart}
use Rattle.hal_schema.specs.declared.raw.RawIndex.{RawIndex}
use Rattle.hal_schema.specs.declared.schema.SegType.{SegType}
use Rattle.hal_schema.specs.declared.schema.IndexDef.{IndexDef}
use Rattle.hal_schema.specs.declared.schema.PartDef.{PartDef}
use Rattle.hal_schema.specs.Keys.{key_cmp}
use Rattle.hal_schema.specs.Places.{is_before, passing}
use Rattle.hal_schema.specs.Lawful.{all_rise, is_below_first}
use Rattle.hal_schema.specs.Raw.{put_in_order, in_order, parts_of, part_of, indexes_of, index_of, target_below, high_below}

-- it goes to the place behind those that go before it
pub put-insert : {X : Type 0} (goes : X → X → Bool) (x : X) (ys : List X) → put_in_order goes x ys ≡ insert ys (prefix_len (λ y. goes y x) ys) x
put-insert goes x [] = refl
put-insert goes x (y ∷ ys) = by (goes y x) (put-insert goes x ys)
  where
    by : (b : Bool) → put_in_order goes x ys ≡ insert ys (prefix_len (λ y. goes y x) ys) x → cond b (y ∷ put_in_order goes x ys) (x ∷ y ∷ ys) ≡ insert (y ∷ ys) (cond b (1 + prefix_len (λ y. goes y x) ys) 0) x
    by false e = refl
    by true e = ap (λ l. y ∷ l) e ∙ (let n = prefix_len (λ y. goes y x) ys in let m : suc n ≡ 1 + n = omega arith in ap (λ k. insert (y ∷ ys) k x) m)

drop_before : {X : Type 0} (xs : List X) (n : ℕ) (x : X) → 0 < n → n ≤ length xs → x ≡ get_or xs (n - 1) x → drop (n - 1) xs ≡ x ∷ drop n xs
drop_before xs n x z l e =
    let m : n - 1 + 1 ≡ n = omega arith in
    drop_more xs (n - 1) x (omega arith) ∙ ap (λ y. y ∷ drop (n - 1 + 1) xs) (sym e) ∙ ap (λ k. x ∷ drop k xs) m

pub places_step : (places : List Place) (left : ℕ) (p : Place) (list slice new : List Place) (at : ℕ) → 0 < left → left ≤ length places → p ≡ get_or places (left - 1) p
    → list ≡ in_order is_before (drop left places) → slice ≡ list → at ≡ prefix_len (λ q. is_before q p) slice → new ≡ insert list at p → new ≡ in_order is_before (drop (left - 1) places)
places_step places left p list slice new at z l r e s a n =
    n ∙ ap (λ k. insert list k p) (a ∙ ap (prefix_len (λ q. is_before q p)) s) ∙ sym (put-insert is_before p list) ∙ ap (put_in_order is_before p) e
    ∙ sym (ap (in_order is_before) (drop_before places left p z l r))

pub parts_step : (dbd : RawDbd) (parts : List RawPart) (left : ℕ) (p : RawPart) (list slice new : List PartDef) (part : PartDef) (high : List ℕ) (at : ℕ) → 0 < left → left ≤ length parts → p ≡ get_or parts (left - 1) p
    → list ≡ parts_of dbd (drop left parts) → part ≡ part_of dbd p → slice ≡ list → high ≡ part.high → at ≡ prefix_len (λ q. is_lt (key_cmp q.high high)) slice → new ≡ insert list at part → new ≡ parts_of dbd (drop (left - 1) parts)
parts_step dbd parts left p list slice new part high at z l r e is s h a n =
    let place : at ≡ prefix_len (λ q. high_below q part) list = a ∙ ap (λ k. prefix_len (λ (q : PartDef). is_lt (key_cmp q.high k)) slice) h ∙ ap (prefix_len (λ q. high_below q part)) s in
    n ∙ ap (λ k. insert list k part) place ∙ sym (put-insert high_below part list)
    ∙ ap (put_in_order high_below part) e ∙ ap (λ q. put_in_order high_below q (parts_of dbd (drop left parts))) is
    ∙ sym (ap (parts_of dbd) (drop_before parts left p z l r))

pub indexes_step : (types : List SegType) (indexes : List RawIndex) (left : ℕ) (i : RawIndex) (list slice new : List IndexDef) (index : IndexDef) (at : ℕ) → 0 < left → left ≤ length indexes → i ≡ get_or indexes (left - 1) i
    → list ≡ indexes_of types (drop left indexes) → index_of types i ≡ Some index → slice ≡ list → at ≡ prefix_len (λ j. target_below j index) slice → new ≡ insert list at index → new ≡ indexes_of types (drop (left - 1) indexes)
indexes_step types indexes left i list slice new index at z l r e is s a n =
    let place : at ≡ prefix_len (λ j. target_below j index) list = a ∙ ap (prefix_len (λ j. target_below j index)) s in
    n ∙ ap (λ k. insert list k index) place ∙ sym (put-insert target_below index list) ∙ ap (put_in_order target_below index) e
    ∙ sym (ap (indexes_of types) (drop_before indexes left i z l r) ∙ ap (λ o. in_order target_below (cons_option o (filter_map (index_of types) (drop left indexes)))) is)

-- what holds of each holds of each in order
pub all-put : {X : Type 0} (p : X → Bool) (goes : X → X → Bool) (x : X) (ys : List X) → p x ≡ true → list_all p ys ≡ true → list_all p (put_in_order goes x ys) ≡ true
all-put p goes x [] h all = and_from _ _ h all
all-put p goes x (y ∷ ys) h all = by (goes y x) (all-put p goes x ys h (and_parts _ _ all).1)
  where
    by : (b : Bool) → list_all p (put_in_order goes x ys) ≡ true → list_all p (cond b (y ∷ put_in_order goes x ys) (x ∷ y ∷ ys)) ≡ true
    by true rest = and_from _ _ (and_parts _ _ all).0 rest
    by false rest = and_from _ _ h all

pub all-order : {X : Type 0} (p : X → Bool) (goes : X → X → Bool) (xs : List X) → list_all p xs ≡ true → list_all p (in_order goes xs) ≡ true
all-order p goes [] all = refl
all-order p goes (x ∷ xs) all = all-put p goes x (in_order goes xs) (and_parts _ _ all).0 (all-order p goes xs (and_parts _ _ all).1)

length-put : {X : Type 0} (goes : X → X → Bool) (x : X) (ys : List X) → length (put_in_order goes x ys) ≡ length ys + 1
length-put goes x [] = omega arith
length-put goes x (y ∷ ys) = by (goes y x) (length-put goes x ys)
  where
    by : (b : Bool) → length (put_in_order goes x ys) ≡ length ys + 1 → length (cond b (y ∷ put_in_order goes x ys) (x ∷ y ∷ ys)) ≡ suc (length ys) + 1
    by true e = omega (arith, e)
    by false e = omega arith

pub length-order : {X : Type 0} (goes : X → X → Bool) (xs : List X) → length (in_order goes xs) ≡ length xs
length-order goes [] = refl
length-order goes (x ∷ xs) = let a = length-put goes x (in_order goes xs) in let b = length-order goes xs in omega (arith, a, b)

drop-few : {X : Type 0} (n : ℕ) (xs : List X) → length xs ≤ n → drop n xs ≡ []
drop-few zero [] l = refl
drop-few zero (x ∷ xs) l = absurd (omega arith)
drop-few (suc n) [] l = refl
drop-few (suc n) (x ∷ xs) l = drop-few n xs (omega arith)

-- no more than so many pass nothing
pub passing-none : (most : ℕ) (places : List Place) → length places ≤ most → passing most places ≡ []
unfolding passing
passing-none most places l = let n = length-order is_before places in drop-few most (in_order is_before places) (omega (arith, n, l))

-- an item that is above those that go before it, and below all others
first_put : {X : Type 0} (goes rises : X → X → Bool) (x y : X) (ys : List X) → rises y x ≡ true → is_below_first rises y ys ≡ true → is_below_first rises y (put_in_order goes x ys) ≡ true
first_put goes rises x y [] h f = h
first_put goes rises x y (z ∷ ys) h f = by (goes z x)
  where
    by : (b : Bool) → is_below_first rises y (cond b (z ∷ put_in_order goes x ys) (x ∷ z ∷ ys)) ≡ true
    by true = f
    by false = h

pub rise-put : {X : Type 0} (goes rises : X → X → Bool) (x : X) → ((y : X) → goes y x ≡ true → rises y x ≡ true) → (ys : List X) → list_all (λ y. goes y x || rises x y) ys ≡ true → all_rise rises ys ≡ true → all_rise rises (put_in_order goes x ys) ≡ true
rise-put goes rises x up [] all r = and_from _ _ refl refl
rise-put goes rises x up (y ∷ ys) all r = by (goes y x) refl (or_cases (goes y x) (rises x y) (and_parts _ _ all).0) (rise-put goes rises x up ys (and_parts _ _ all).1 (and_parts _ _ r).1)
  where
    by : (b : Bool) → goes y x ≡ b → (goes y x ≡ true) ⊎ (rises x y ≡ true) → all_rise rises (put_in_order goes x ys) ≡ true → all_rise rises (cond b (y ∷ put_in_order goes x ys) (x ∷ y ∷ ys)) ≡ true
    by true e c rest = and_from _ _ (first_put goes rises x y ys (up y e) (and_parts _ _ r).0) rest
    by false e (inl g) rest = absurd (both_ways (goes y x) e g)
    by false e (inr g) rest = and_from _ _ g r
