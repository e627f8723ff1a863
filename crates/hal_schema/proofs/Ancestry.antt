-- The codes from a type's up to the root type's.
use Rattle.std.proofs.Common.{◌||◌, ◌==◌, false, ◌≡◌, ℕ, zero, suc, ◌+◌, ◌<◌, ◌≤◌, Bool, true, nat_lt, IsTrue, List, [], ◌∷◌, length, Option, Some, None, refl, sym, ap, ◌∙◌, arith, get_or, ◌-◌}
use Rattle.std.proofs.lemmas.Option.{slice_get_read, slice_get-get_or}
use Rattle.std.proofs.lemmas.List.Sums.{sum_by-append}
use Rattle.std.specs.List.{slice_get, list_all, list_any, enumerate_from}
use Rattle.std.specs.Option.{option_map_or}
use Rattle.std.proofs.lemmas.Bool.{and_parts}
use Rattle.std.proofs.lemmas.Bool.Decides.{nat_tests}
use Rattle.std.specs.Prelude.{option_and_then}
use Rattle.std.specs.Prelude.{sum_by}
use Rattle.hal_schema.specs.declared.schema.SegType.{SegType}
use Rattle.hal_schema.specs.SegType.{type_of, key_bytes, path_key_bytes, parent_code, ancestry_within, ancestry, level_of}
use Rattle.hal_schema.specs.Lawful.{parent_is_before, parents_are_before}

-- a test of each place and item holds at each place
pub all_places : {X : Type 0} (p : ℕ × X → Bool) (xs : List X) (n k : ℕ) (x : X) → list_all p (enumerate_from n xs) ≡ true → slice_get xs k ≡ Some x → p (n + k, x) ≡ true
all_places p [] n k x h e = cc
all_places {X} p (y ∷ ys) n zero x h e =
    let s : y ≡ x = cc in
    let m : n ≡ n + 0 = omega arith in
    ap p (λ i. (sym m i, sym s i)) ∙ (and_parts _ _ h).0
all_places p (y ∷ ys) n (suc k) x h e =
    let m : n + suc k ≡ (n + 1) + k = omega arith in
    ap (λ j. p (j, x)) m ∙ all_places p ys (n + 1) k x (and_parts _ _ h).1 e

-- parents have lower codes
pub record IsLower (parent : ℕ → Option ℕ) : Type 0 where
  pub above : (c p : ℕ) → parent c ≡ Some p → 0 < p
  pub below : (c p : ℕ) → parent c ≡ Some p → p < c

pub before_is_lower : (c : ℕ) (o : Option ℕ) (p : ℕ) → parent_is_before c o ≡ true → o ≡ Some p → (0 < p) × (p < c)
before_is_lower c None p h e = cc
before_is_lower c (Some q) p h e =
    let s : q ≡ p = cc in
    let a = (and_parts (nat_lt 0 q) (nat_lt q c) h).0 in
    let b = (and_parts (nat_lt 0 q) (nat_lt q c) h).1 in
    (grind (arith, nat_tests), grind (arith, nat_tests))

lower_at : (types : List SegType) → IsTrue (parents_are_before types) → (c p : ℕ) → parent_code types c ≡ Some p → (0 < p) × (p < c)
lower_at types h zero p e = cc
lower_at types h (suc k) p e = by (slice_get types k) refl e
  where
    by : (o : Option SegType) → slice_get types k ≡ o → option_and_then (λ t. t.parent) o ≡ Some p → (0 < p) × (p < suc k)
    by None g f = cc
    by (Some t) g f =
        let m : 1 + k ≡ suc k = omega arith in
        before_is_lower (suc k) t.parent p (ap (λ j. parent_is_before j t.parent) (sym m) ∙ all_places (λ t. parent_is_before t.0 t.1.parent) types 1 k t h g) f

pub types_lower : (types : List SegType) → IsTrue (parents_are_before types) → IsLower (parent_code types)
types_lower types h = record { above = λ c p e. (lower_at types h c p e).0; below = λ c p e. (lower_at types h c p e).1 }

-- more steps than the code give the same
enough_above : (parent : ℕ → Option ℕ) (n m : ℕ) (o : Option ℕ) → ((p : ℕ) → o ≡ Some p → ancestry_within n parent p ≡ ancestry_within m parent p) → option_map_or (ancestry_within n parent) o [] ≡ option_map_or (ancestry_within m parent) o []
enough_above parent n m None h = refl
enough_above parent n m (Some p) h = h p refl

pub ancestry-enough : (parent : ℕ → Option ℕ) → IsLower parent → (n m c : ℕ) → c ≤ n → c ≤ m → 0 < c → ancestry_within n parent c ≡ ancestry_within m parent c
ancestry-enough parent low zero m c a b z = absurd (omega arith)
ancestry-enough parent low (suc n) zero c a b z = absurd (omega arith)
ancestry-enough parent low (suc n) (suc m) c a b z =
    ap (λ cs. c ∷ cs) (enough_above parent n m (parent c) (λ p e.
    let s = low.above c p e in
    let t = low.below c p e in
    ancestry-enough parent low n m p (omega arith) (omega arith) s))

-- a code, and then the codes above its parent
pub ancestry-child : (parent : ℕ → Option ℕ) → IsLower parent → (c p : ℕ) → 0 < c → parent c ≡ Some p → ancestry parent c ≡ c ∷ ancestry parent p
ancestry-child parent low zero p z e = absurd (omega arith)
ancestry-child parent low (suc c) p z e =
    let s = low.above (suc c) p e in
    let t = low.below (suc c) p e in
    let same = ancestry-enough parent low c p p (omega arith) (omega arith) s in
    ap (λ o. suc c ∷ option_map_or (ancestry_within c parent) o []) e ∙ ap (λ cs. suc c ∷ cs) same

pub ancestry-root : (parent : ℕ → Option ℕ) → (c : ℕ) → 0 < c → parent c ≡ None → ancestry parent c ≡ c ∷ []
ancestry-root parent zero z e = absurd (omega arith)
ancestry-root parent (suc c) z e = ap (λ o. suc c ∷ option_map_or (ancestry_within c parent) o []) e

-- the rest of the way up from a type whose parent is known
pub level-child : (types : List SegType) → IsTrue (parents_are_before types) → (c p : ℕ) → 0 < c → parent_code types c ≡ Some p → level_of types c ≡ level_of types p + 1
level-child types h c p z e = ap length (ancestry-child (parent_code types) (types_lower types h) c p z e) ∙ (let r : suc (level_of types p) ≡ level_of types p + 1 = omega arith in r)

pub level-root : (types : List SegType) → (c : ℕ) → 0 < c → parent_code types c ≡ None → level_of types c ≡ 1
level-root types c z e = ap length (ancestry-root (parent_code types) c z e)

-- the parent of the type that was read at a code
pub parent_code-read : (types : List SegType) (c : ℕ) (t : SegType) → 0 < c → c ≤ length types → t ≡ get_or types (c - 1) t → parent_code types c ≡ t.parent
parent_code-read types zero t z l e = absurd (omega arith)
parent_code-read types (suc k) t z l e =
    let m : suc k - 1 ≡ k = omega arith in
    let e' : t ≡ get_or types k t = e ∙ ap (λ j. get_or types j t) m in
    let g : slice_get types k ≡ Some t = slice_get_read types (length types) k t refl (omega arith) e' in
    ap (option_and_then (λ u. u.parent)) g

-- no more codes than the first says
short : (n : ℕ) (parent : ℕ → Option ℕ) (c : ℕ) → length (ancestry_within n parent c) ≤ n
short zero parent c = omega arith
short (suc n) parent c = above n parent (parent c) (short n parent)
  where
    above : (n : ℕ) (parent : ℕ → Option ℕ) (o : Option ℕ) → ((p : ℕ) → length (ancestry_within n parent p) ≤ n) → suc (length (option_map_or (ancestry_within n parent) o [])) ≤ suc n
    above n parent None h = omega arith
    above n parent (Some p) h = let s = h p in omega arith

pub level-short : (types : List SegType) (c : ℕ) → level_of types c ≤ c
level-short types c = short c (parent_code types) c

-- the keys above a type's own
abbrev pub path_above : List SegType → ℕ → ℕ
path_above types code = option_map_or (path_key_bytes types) (parent_code types code) 0

sum_first : {X : Type 0} (f : X → ℕ) (x : X) (xs : List X) → sum_by f (x ∷ xs) ≡ f x + sum_by f xs
sum_first f x xs = sum_by-append f (x ∷ []) xs ∙ (let e : sum_by f (x ∷ []) + sum_by f xs ≡ f x + sum_by f xs = omega arith in e)

pub path-child : (types : List SegType) → IsTrue (parents_are_before types) → (c p : ℕ) → 0 < c → parent_code types c ≡ Some p → path_key_bytes types c ≡ key_bytes types c + path_key_bytes types p
path-child types h c p z e = ap (sum_by (key_bytes types)) (ancestry-child (parent_code types) (types_lower types h) c p z e) ∙ sum_first (key_bytes types) c (ancestry (parent_code types) p)

pub path-root : (types : List SegType) → (c : ℕ) → 0 < c → parent_code types c ≡ None → path_key_bytes types c ≡ key_bytes types c + 0
path-root types c z e = ap (sum_by (key_bytes types)) (ancestry-root (parent_code types) c z e) ∙ sum_first (key_bytes types) c []

pub above-child : (types : List SegType) (c p : ℕ) → parent_code types c ≡ Some p → path_above types c ≡ path_key_bytes types p
above-child types c p e = ap (λ o. option_map_or (path_key_bytes types) o 0) e

pub path-above : (types : List SegType) → IsTrue (parents_are_before types) → (c : ℕ) → 0 < c → key_bytes types c + path_above types c ≡ path_key_bytes types c
path-above types h c z = by (parent_code types c) (λ e. sym (path-root types c z e)) (λ p e. sym (path-child types h c p z e))
  where
    by : (o : Option ℕ) → (o ≡ None → key_bytes types c + 0 ≡ path_key_bytes types c) → ((p : ℕ) → o ≡ Some p → key_bytes types c + path_key_bytes types p ≡ path_key_bytes types c) → key_bytes types c + option_map_or (path_key_bytes types) o 0 ≡ path_key_bytes types c
    by None root child = root refl
    by (Some p) root child = child p refl

-- the type at a code
pub type_of-at : (types : List SegType) (c : ℕ) (d : SegType) → 0 < c → c ≤ length types → type_of types c ≡ Some (get_or types (c - 1) d)
type_of-at types zero d z l = absurd (omega arith)
type_of-at types (suc k) d z l = let m : k ≡ suc k - 1 = omega arith in slice_get-get_or types k d (omega arith) ∙ ap (λ j. Some (get_or types j d)) m

pub key_bytes-at : (types : List SegType) (c : ℕ) (d : SegType) → 0 < c → c ≤ length types → key_bytes types c ≡ option_map_or (λ k. k.bytes) (get_or types (c - 1) d).key 0
key_bytes-at types c d z l = ap (λ o. option_map_or (λ k. k.bytes) (option_and_then (λ t. t.key) o) 0) (type_of-at types c d z l)

-- one step up, where the code isn't the one that is looked for
pub above_like : (types : List SegType) → IsTrue (parents_are_before types) → (c p target : ℕ) → 0 < c → parent_code types c ≡ Some p → (c == target) ≡ false
    → list_any (λ code. code == target) (ancestry (parent_code types) p) ≡ list_any (λ code. code == target) (ancestry (parent_code types) c)
above_like types h c p target z e other =
    sym (ap (list_any (λ code. code == target)) (ancestry-child (parent_code types) (types_lower types h) c p z e) ∙ ap (λ b. b || list_any (λ code. code == target) (ancestry (parent_code types) p)) other)

pub root_unlike : (types : List SegType) → (c target : ℕ) → 0 < c → parent_code types c ≡ None → (c == target) ≡ false → list_any (λ code. code == target) (ancestry (parent_code types) c) ≡ false
root_unlike types c target z e other =
    ap (list_any (λ code. code == target)) (ancestry-root (parent_code types) c z e) ∙ ap (λ b. b || false) other
