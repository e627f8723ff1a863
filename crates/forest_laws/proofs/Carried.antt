-- Paths that are carried along a list: what leaves no trace in them, and where what they keep stands.
use Rattle.std.proofs.Common.{◌≡◌, ℕ, ◌<◌, ◌≤◌, nat_lt, Bool, true, false, not, cond, List, [], ◌∷◌, ◌++◌, ◌⊎◌, inl, inr, refl, ap, ◌∙◌, arith}
use Rattle.std.specs.Prelude.{filter}
use Rattle.std.specs.List.{list_all}
use Rattle.std.proofs.lemmas.Bool.{and_parts, and_from, ltb-true, ltb-false, lt-ltb, not-true}
use Rattle.std.proofs.lemmas.List.{append-nil}
use Rattle.std.proofs.lemmas.List.Elements.{filter-append}
use Rattle.hal_schema.specs.Paths.{path_with, path_after, with_paths}
use Rattle.forest_laws.proofs.Lists.{all_append, all_weaker, all_filtered, filter_within, filter_all, Among, among_append, among_filter}

-- no item is of a higher level than x
abbrev pub not_above : {X : Type 0} → (X → ℕ) → X → X → Bool
not_above level x y = not (nat_lt (level y) (level x))

-- what of a path is of a higher level
abbrev pub above_in : {X : Type 0} → (X → ℕ) → List X → X → List X
above_in level path x = filter (λ above. nat_lt (level above) (level x)) path

pub after_append : {X : Type 0} (level : X → ℕ) (path xs ys : List X) → path_after level path (xs ++ ys) ≡ path_after level (path_after level path xs) ys
after_append level path [] ys = refl
after_append level path (x ∷ xs) ys = after_append level (path_with level path x) xs ys

pub with_append : {X : Type 0} (level : X → ℕ) (path xs ys : List X) → with_paths level path (xs ++ ys) ≡ with_paths level path xs ++ with_paths level (path_after level path xs) ys
with_append level path [] ys = refl
with_append level path (x ∷ xs) ys = ap (λ l. (path_with level path x, x) ∷ l) (with_append level (path_with level path x) xs ys)

-- of a list of which no item is above x nothing stands above x
pub no_trace : {X : Type 0} (level : X → ℕ) (x : X) (path xs : List X) → list_all (not_above level x) xs ≡ true
    → filter (λ above. nat_lt (level above) (level x)) (path_after level path xs) ≡ filter (λ above. nat_lt (level above) (level x)) path
no_trace level x path [] none = refl
no_trace {X} level x path (y ∷ xs) none =
    let a = and_parts (not_above level x y) (list_all (not_above level x) xs) none in
    let p : X → Bool = λ above. nat_lt (level above) (level x) in
    let q : X → Bool = λ above. nat_lt (level above) (level y) in
    let far : nat_lt (level y) (level x) ≡ false = not-true (nat_lt (level y) (level x)) a.0 in
    let high : level x ≤ level y = ltb-false (level y) (level x) far in
    let last : filter p (y ∷ []) ≡ [] = ap (λ b. cond b (y ∷ []) []) far in
    no_trace level x (path_with level path y) xs a.1
    ∙ filter-append p (filter q path) (y ∷ [])
    ∙ ap (λ l. filter p (filter q path) ++ l) last ∙ append-nil (filter p (filter q path))
    ∙ filter_within p q (λ z h. let l = ltb-true (level z) (level x) h in lt-ltb (level z) (level y) (omega (arith, l, high))) path

-- the first item, if there is one, is no deeper than any of the list before
abbrev pub starts_above : {X : Type 0} → (X → ℕ) → List X → List X → Bool
starts_above level xs [] = true
starts_above level xs (y ∷ ys) = list_all (not_above level y) xs

-- what such a list is followed by has the paths that it has without it
pub passed_over : {X : Type 0} (level : X → ℕ) (path xs ys : List X) → starts_above level xs ys ≡ true → with_paths level (path_after level path xs) ys ≡ with_paths level path ys
passed_over level path xs [] h = refl
passed_over level path xs (y ∷ ys) h =
    ap (λ above. (above ++ y ∷ [], y) ∷ with_paths level (above ++ y ∷ []) ys) (no_trace level y path xs h)

-- all of a path is of a higher level than x, where its last item is
pub path_above : {X : Type 0} (level : X → ℕ) (path : List X) (p x : X) → level p < level x → filter (λ above. nat_lt (level above) (level x)) (path_with level path p) ≡ path_with level path p
path_above {X} level path p x less =
    let q : X → Bool = λ above. nat_lt (level above) (level p) in
    let high : X → Bool = λ above. nat_lt (level above) (level x) in
    filter_all high (path_with level path p)
    (all_append high (filter q path) (p ∷ [])
    (all_weaker q high (λ z h. let l = ltb-true (level z) (level p) h in lt-ltb (level z) (level x) (omega (arith, l, less))) (filter q path) (all_filtered q path))
    (and_from (high p) true (lt-ltb (level p) (level x) less) refl))

-- ---- what a path keeps stands in the list, and all that follows it is deeper

abbrev pub is_above : {X : Type 0} → (X → ℕ) → X → X → Bool
is_above level x y = nat_lt (level x) (level y)

pub record Kept {X : Type 0} (level : X → ℕ) (x : X) (xs : List X) : Type 0 where
  pub front : List X
  pub behind : List X
  pub split : xs ≡ front ++ x ∷ behind
  pub deeper : list_all (is_above level x) behind ≡ true

abbrev IsCarried : {X : Type 0} → (X → ℕ) → X → List X → List X → Type 0
IsCarried level x path xs = Kept level x xs ⊎ (Among x path × (list_all (is_above level x) xs ≡ true))

carried_by : {X : Type 0} (level : X → ℕ) (x y : X) (path xs : List X) → Among x (filter (λ above. nat_lt (level above) (level y)) path) ⊎ Among x (y ∷ []) → list_all (is_above level x) xs ≡ true → IsCarried level x path (y ∷ xs)
carried_by {X} level x y path xs (inl h) all =
    let p : X → Bool = λ above. nat_lt (level above) (level y) in
    let a = among_filter p x path h in
    inr (a.0, and_from (is_above level x y) (list_all (is_above level x) xs) a.1 all)
carried_by level x y path xs (inr (inl e)) all = inl (record { front = []; behind = xs; split = ap (λ z. z ∷ xs) e; deeper = all })
carried_by level x y path xs (inr (inr h)) all = absurd h

pub carried : {X : Type 0} (level : X → ℕ) (x : X) (path xs : List X) → Among x (path_after level path xs) → IsCarried level x path xs
carried level x path [] h = inr (h, refl)
carried {X} level x path (y ∷ xs) h = by (carried level x (path_with level path y) xs h)
  where
    by : IsCarried level x (path_with level path y) xs → IsCarried level x path (y ∷ xs)
    by (inl k) = inl (record { front = y ∷ k.front; behind = k.behind; split = ap (λ l. y ∷ l) k.split; deeper = k.deeper })
    by (inr k) =
        let p : X → Bool = λ above. nat_lt (level above) (level y) in
        carried_by level x y path xs (among_append x (filter p path) (y ∷ []) k.0) k.1
