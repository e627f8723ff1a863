-- Lists into which one item is inserted, and where the last item that passes a test stands.
use Rattle.std.proofs.Common.{◌≡◌, ◌⊎◌, inl, inr, ℕ, suc, ◌+◌, ◌-◌, Bool, true, false, not, cond, ◌==◌, List, [], ◌∷◌, ◌++◌, length, take, drop, reverse, insert, Option, Some, None, refl, sym, ap, subst, ◌∙◌, arith}
use Rattle.std.specs.Prelude.{filter, find, is_none}
use Rattle.std.specs.List.{list_all, prefix_len, suffix_len, last_or}
use Rattle.std.proofs.lemmas.Bool.{and_parts, and_from, eq-eqb, ne_eqb, not-true, cases_eq}
use Rattle.std.proofs.lemmas.List.{length-reverse, take-append-drop}
use Rattle.std.proofs.lemmas.Grind.{reverse_onto}
use Rattle.std.proofs.lemmas.List.Folds.{list_all-append, prefix_len-append}
use Rattle.std.proofs.lemmas.List.Sums.{suffix_len-le-length}
use Rattle.hal_schema.specs.declared.row.Row.{Row}
use Rattle.hal_schema.specs.Insertion.{through_last}

-- ---- tests of each item

pub all_parts : {X : Type 0} (p : X → Bool) (xs ys : List X) → list_all p (xs ++ ys) ≡ true → (list_all p xs ≡ true) × (list_all p ys ≡ true)
all_parts p xs ys h = and_parts (list_all p xs) (list_all p ys) (sym (list_all-append p xs ys) ∙ h)

all_with : {X : Type 0} (p : X → Bool) (xs ys : List X) (x : X) → list_all p (xs ++ ys) ≡ true → p x ≡ true → list_all p (xs ++ x ∷ ys) ≡ true
all_with p xs ys x h one =
    let a = all_parts p xs ys h in
    list_all-append p xs (x ∷ ys) ∙ and_from (list_all p xs) (list_all p (x ∷ ys)) a.0 (and_from (p x) (list_all p ys) one a.1)

pub all_inserted : {X : Type 0} (p : X → Bool) (xs : List X) (k : ℕ) (x : X) → list_all p xs ≡ true → p x ≡ true → list_all p (insert xs k x) ≡ true
all_inserted p xs k x h one = all_with p (take k xs) (drop k xs) x (ap (list_all p) (take-append-drop k xs) ∙ h) one

pub all_weaker : {X : Type 0} (p q : X → Bool) → ((x : X) → p x ≡ true → q x ≡ true) → (xs : List X) → list_all p xs ≡ true → list_all q xs ≡ true
all_weaker p q w [] h = refl
all_weaker p q w (x ∷ xs) h =
    let a = and_parts (p x) (list_all p xs) h in
    and_from (q x) (list_all q xs) (w x a.0) (all_weaker p q w xs a.1)

pub all_both : {X : Type 0} (p q r : X → Bool) → ((x : X) → p x ≡ true → q x ≡ true → r x ≡ true) → (xs : List X)
    → list_all p xs ≡ true → list_all q xs ≡ true → list_all r xs ≡ true
all_both p q r w [] a b = refl
all_both p q r w (x ∷ xs) a b =
    let c = and_parts (p x) (list_all p xs) a in
    let d = and_parts (q x) (list_all q xs) b in
    and_from (r x) (list_all r xs) (w x c.0 d.0) (all_both p q r w xs c.1 d.1)

pub all_dropped : {X : Type 0} (p : X → Bool) (n : ℕ) (xs : List X) → list_all p xs ≡ true → list_all p (drop n xs) ≡ true
all_dropped p n xs h = (all_parts p (take n xs) (drop n xs) (ap (list_all p) (take-append-drop n xs) ∙ h)).1

-- ---- finding

find_skips : {X : Type 0} (p : X → Bool) (front : List X) (x : X) (back : List X) → p x ≡ false → find p (front ++ x ∷ back) ≡ find p (front ++ back)
find_skips p [] x back fails = ap (λ b. cond b (Some x) (find p back)) fails
find_skips p (y ∷ front) x back fails = ap (λ o. cond (p y) (Some y) o) (find_skips p front x back fails)

pub find_inserted : {X : Type 0} (p : X → Bool) (xs : List X) (k : ℕ) (x : X) → p x ≡ false → find p (insert xs k x) ≡ find p xs
find_inserted p xs k x fails = find_skips p (take k xs) x (drop k xs) fails ∙ ap (find p) (take-append-drop k xs)

find_new : {X : Type 0} (p : X → Bool) (front : List X) (x : X) (back : List X) → is_none (find p (front ++ back)) ≡ true → p x ≡ true
    → find p (front ++ x ∷ back) ≡ Some x
find_new p [] x back none passes = ap (λ b. cond b (Some x) (find p back)) passes
find_new {X} p (y ∷ front) x back none passes = by (p y) refl none (λ rest. find_new p front x back rest passes)
  where
    by : (b : Bool) → p y ≡ b → is_none (cond (p y) (Some y) (find p (front ++ back))) ≡ true → (is_none (find p (front ++ back)) ≡ true → find p (front ++ x ∷ back) ≡ Some x)
        → cond (p y) (Some y) (find p (front ++ x ∷ back)) ≡ Some x
    by true e h go = let found : is_none (cond true (Some y) (find p (front ++ back))) ≡ true = ap (λ b. is_none (cond b (Some y) (find p (front ++ back)))) (sym e) ∙ h in cc found
    by false e h go =
        let rest : is_none (find p (front ++ back)) ≡ true = ap (λ b. is_none (cond b (Some y) (find p (front ++ back)))) (sym e) ∙ h in
        ap (λ b. cond b (Some y) (find p (front ++ x ∷ back))) e ∙ go rest

pub find_inserted_new : {X : Type 0} (p : X → Bool) (xs : List X) (k : ℕ) (x : X) → is_none (find p xs) ≡ true → p x ≡ true → find p (insert xs k x) ≡ Some x
find_inserted_new p xs k x none passes = find_new p (take k xs) x (drop k xs) (ap (λ l. is_none (find p l)) (take-append-drop k xs) ∙ none) passes

-- what is found passes
pub found_passes : {X : Type 0} (p : X → Bool) (xs : List X) (x : X) → find p xs ≡ Some x → p x ≡ true
found_passes p [] x e = cc e
found_passes {X} p (y ∷ xs) x e = by (p y) refl e (found_passes p xs x)
  where
    by : (b : Bool) → p y ≡ b → cond (p y) (Some y) (find p xs) ≡ Some x → (find p xs ≡ Some x → p x ≡ true) → p x ≡ true
    by true t h go =
        let some : Some y ≡ Some x = ap (λ b. cond b (Some y) (find p xs)) (sym t) ∙ h in
        let same : y ≡ x = cc some in
        ap p (sym same) ∙ t
    by false t h go = go (ap (λ b. cond b (Some y) (find p xs)) (sym t) ∙ h)

-- and of what every item passes, so does it
pub found_all : {X : Type 0} (p q : X → Bool) (xs : List X) (x : X) → find p xs ≡ Some x → list_all q xs ≡ true → q x ≡ true
found_all p q [] x e all = cc e
found_all {X} p q (y ∷ xs) x e all = let a = and_parts (q y) (list_all q xs) all in by (p y) refl e a.0 (λ h. found_all p q xs x h a.1)
  where
    by : (b : Bool) → p y ≡ b → cond (p y) (Some y) (find p xs) ≡ Some x → q y ≡ true → (find p xs ≡ Some x → q x ≡ true) → q x ≡ true
    by true t h one go =
        let some : Some y ≡ Some x = ap (λ b. cond b (Some y) (find p xs)) (sym t) ∙ h in
        let same : y ≡ x = cc some in
        ap q (sym same) ∙ one
    by false t h one go = go (ap (λ b. cond b (Some y) (find p xs)) (sym t) ∙ h)

-- ---- those that pass

filter_skips : {X : Type 0} (p : X → Bool) (front : List X) (x : X) (back : List X) → p x ≡ false → filter p (front ++ x ∷ back) ≡ filter p (front ++ back)
filter_skips p [] x back fails = ap (λ b. cond b (x ∷ filter p back) (filter p back)) fails
filter_skips p (y ∷ front) x back fails = ap (λ l. cond (p y) (y ∷ l) l) (filter_skips p front x back fails)

pub filter_inserted : {X : Type 0} (p : X → Bool) (xs : List X) (k : ℕ) (x : X) → p x ≡ false → filter p (insert xs k x) ≡ filter p xs
filter_inserted p xs k x fails = filter_skips p (take k xs) x (drop k xs) fails ∙ ap (filter p) (take-append-drop k xs)

pub filter_none : {X : Type 0} (p : X → Bool) (xs : List X) → list_all (λ x. not (p x)) xs ≡ true → filter p xs ≡ []
filter_none p [] h = refl
filter_none p (x ∷ xs) h =
    let a = and_parts (not (p x)) (list_all (λ x. not (p x)) xs) h in
    ap (λ b. cond b (x ∷ filter p xs) (filter p xs)) (not-true (p x) a.0) ∙ filter_none p xs a.1

last_new : {X : Type 0} (p : X → Bool) (o : Option X) (front : List X) (x : X) (back : List X) → p x ≡ true → list_all (λ y. not (p y)) back ≡ true
    → last_or o (filter p (front ++ x ∷ back)) ≡ Some x
last_new p o [] x back passes none = ap (λ b. last_or o (cond b (x ∷ filter p back) (filter p back))) passes ∙ ap (λ l. last_or o (x ∷ l)) (filter_none p back none)
last_new {X} p o (y ∷ front) x back passes none = by (p y) refl (last_new p (Some y) front x back passes none) (last_new p o front x back passes none)
  where
    by : (b : Bool) → p y ≡ b → last_or (Some y) (filter p (front ++ x ∷ back)) ≡ Some x → last_or o (filter p (front ++ x ∷ back)) ≡ Some x
        → last_or o (cond (p y) (y ∷ filter p (front ++ x ∷ back)) (filter p (front ++ x ∷ back))) ≡ Some x
    by true e kept skipped = ap (λ b. last_or o (cond b (y ∷ filter p (front ++ x ∷ back)) (filter p (front ++ x ∷ back)))) e ∙ kept
    by false e kept skipped = ap (λ b. last_or o (cond b (y ∷ filter p (front ++ x ∷ back)) (filter p (front ++ x ∷ back)))) e ∙ skipped

-- the last that passes is the one inserted, where none behind it passes
pub last_inserted : {X : Type 0} (p : X → Bool) (xs : List X) (k : ℕ) (x : X) → p x ≡ true → list_all (λ y. not (p y)) (drop k xs) ≡ true
    → last_or None (filter p (insert xs k x)) ≡ Some x
last_inserted p xs k x passes none = last_new p None (take k xs) x (drop k xs) passes none

-- ---- behind the last that passes

pub suffix_cons : (q : Row → Bool) (x : Row) (xs : List Row) → suffix_len q (x ∷ xs) ≡ cond (suffix_len q xs == length xs) (length xs + cond (q x) 1 0) (suffix_len q xs)
suffix_cons q x xs =
    ap (prefix_len q) (reverse_onto xs x []) ∙ prefix_len-append q (reverse xs) (x ∷ [])
    ∙ ap (λ n. cond (prefix_len q (reverse xs) == n) (n + cond (q x) 1 0) (prefix_len q (reverse xs))) (length-reverse xs)

pub none_behind : (test : Row → Bool) (xs : List Row) → list_all (λ x. not (test x)) (drop (through_last test xs) xs) ≡ true
none_behind test [] = refl
none_behind test (x ∷ xs) = by (cases_eq (suffix_len q xs) (length xs)) (none_behind test xs)
  where
    q : Row → Bool
    q y = not (test y)

    at : (n m : ℕ) → n ≡ m → list_all q (drop m (x ∷ xs)) ≡ true → list_all q (drop n (x ∷ xs)) ≡ true
    at n m e h = subst (λ (k : ℕ). list_all q (drop k (x ∷ xs)) ≡ true) (sym e) h

    one : (b : Bool) → q x ≡ b → suffix_len q xs ≡ length xs → list_all q xs ≡ true → list_all q (drop (suc (length xs) - suffix_len q (x ∷ xs)) (x ∷ xs)) ≡ true
    one b e all rest = pass b e
      where
        long : suffix_len q (x ∷ xs) ≡ length xs + cond (q x) 1 0
        long = suffix_cons q x xs ∙ ap (λ c. cond c (length xs + cond (q x) 1 0) (suffix_len q xs)) (eq-eqb (suffix_len q xs) (length xs) all)

        pass : (b : Bool) → q x ≡ b → list_all q (drop (suc (length xs) - suffix_len q (x ∷ xs)) (x ∷ xs)) ≡ true
        pass true f =
            let n : suffix_len q (x ∷ xs) ≡ length xs + 1 = long ∙ ap (λ c. length xs + cond c 1 0) f in
            at (suc (length xs) - suffix_len q (x ∷ xs)) 0 (omega (arith, n)) (and_from (q x) (list_all q xs) f rest)
        pass false f =
            let n : suffix_len q (x ∷ xs) ≡ length xs + 0 = long ∙ ap (λ c. length xs + cond c 1 0) f in
            at (suc (length xs) - suffix_len q (x ∷ xs)) 1 (omega (arith, n)) rest

    by : (suffix_len q xs ≡ length xs) ⊎ (suffix_len q xs ≡ length xs → ⊥) → list_all q (drop (length xs - suffix_len q xs) xs) ≡ true
        → list_all q (drop (suc (length xs) - suffix_len q (x ∷ xs)) (x ∷ xs)) ≡ true
    by (inl all) h = one (q x) refl all (subst (λ (k : ℕ). list_all q (drop k xs) ≡ true) (let e : length xs - suffix_len q xs ≡ 0 = omega (arith, all) in e) h)
    by (inr apart) h =
        let s = suffix_len-le-length q xs in
        let same : suffix_len q (x ∷ xs) ≡ suffix_len q xs = suffix_cons q x xs ∙ ap (λ c. cond c (length xs + cond (q x) 1 0) (suffix_len q xs)) (ne_eqb (suffix_len q xs) (length xs) apart) in
        at (suc (length xs) - suffix_len q (x ∷ xs)) (suc (length xs - suffix_len q xs)) (omega (arith, same, s)) h
