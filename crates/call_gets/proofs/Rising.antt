-- Records of a view rise: what is before a place is of its record or an earlier one, and what is behind of its record or a
-- later one.
use Rattle.std.proofs.Common.{◌≡◌, ℕ, Bool, true, false, not, cond, ◌&&◌, ◌||◌, List, [], ◌∷◌, ◌++◌, refl, sym, ap, ◌∙◌, arith}
use Rattle.std.specs.Prelude.{nat_lt}
use Rattle.std.specs.List.{list_all}
use Rattle.std.specs.Cmp.{IsTotalOrder}
use Rattle.std.specs.declared.cmp.Ordering.{Ordering}
use Rattle.std.specs.declared.cmp.Ordering.TheVariants.{Less, Equal, Greater}
use Rattle.std.specs.Ordering.{is_gt, is_lt, ordering_reverse}
use Rattle.std.specs.Str.{bytes_eq}
use Rattle.std.proofs.lemmas.Bool.{and_parts, and_from, le-ltb, lt-ltb}
use Rattle.std.proofs.lemmas.Cmp.{tied_itself, upto}
use Rattle.std.proofs.lemmas.List.Folds.{list_all-append}
use Rattle.std.proofs.lemmas.Slice.Eq.{bytes_eq-Decides}
use Rattle.hal_schema.specs.declared.schema.Schema.{Schema}
use Rattle.hal_schema.specs.declared.schema.SegType.{SegType}
use Rattle.hal_schema.specs.Forest.{all_pairs}
use Rattle.hal_schema.specs.Paths.{path_with, path_after}
use Rattle.hal_schema.specs.Roots.{root_cmp}
use Rattle.position_state.specs.declared.spot.Spot.{Spot}
use Rattle.position_state.specs.View.{root_named}
use Rattle.view_laws.specs.Views.{in_root_order, is_keyed, stand_together}
use Rattle.call_gets.specs.Below.{in_record}
use Rattle.call_gets.proofs.Rooted.{deep_of, is_root, root_alone, root_of, keyed_next}
use Rattle.call_gets.proofs.Skipping.{level, kept}
use Rattle.call_gets.proofs.Within.{all_kept}

-- the record of an element isn't before that of a root key, and is behind it
abbrev pub not_before : Schema → List ℕ → Spot → Bool
not_before schema root y = not (is_gt (root_cmp schema root (root_named y.at)))

abbrev pub not_behind : Schema → List ℕ → Spot → Bool
not_behind schema root y = not (is_gt (root_cmp schema (root_named y.at) root))

abbrev pub is_later : Schema → List ℕ → Spot → Bool
is_later schema root y = is_lt (root_cmp schema root (root_named y.at))

abbrev pub is_own : List ℕ → Spot → Bool
is_own root y = bytes_eq (root_named y.at) root

-- a root is of a later key than this one
abbrev rises : Schema → List ℕ → Spot → Bool
rises schema root y = not (is_root y) || is_lt (root_cmp schema root y.key)

-- a list that goes on in a record, or with a later one
pub record Stacked (schema : Schema) (root : List ℕ) (ys : List Spot) : Type 0 where
  pub keyed : list_all (is_keyed schema.types) ys ≡ true
  pub together : stand_together root ys ≡ true
  pub order : all_pairs (in_root_order schema) ys ≡ true
  pub above : list_all (rises schema root) ys ≡ true

not_gt : (o : Ordering) → is_lt o ≡ true → is_gt o ≡ false
not_gt Less h = refl
not_gt Equal h = absurd (let no : ⊥ = cc in no)
not_gt Greater h = absurd (let no : ⊥ = cc in no)

above_of : (schema : Schema) (x : Spot) (xs : List Spot) → is_root x ≡ true → list_all (in_root_order schema x) xs ≡ true → list_all (rises schema x.key) xs ≡ true
above_of schema x [] e h = refl
above_of schema x (y ∷ ys) e h =
    let a = and_parts (in_root_order schema x y) (list_all (in_root_order schema x) ys) h in
    let one : in_root_order schema x y ≡ rises schema x.key y = ap (λ b. not (b && is_root y) || is_lt (root_cmp schema x.key y.key)) e in
    and_from (rises schema x.key y) (list_all (rises schema x.key) ys) (sym one ∙ a.0) (above_of schema x ys e a.1)

-- one element of it: it is a root of a later key, or of the same record
record Stack (schema : Schema) (root : List ℕ) (x : Spot) (xs : List Spot) : Type 0 where
  rest : Stacked schema (root_named x.at) xs
  first : (is_root x ≡ true → is_later schema root x ≡ true) × (is_root x ≡ false → root_named x.at ≡ root)
  keyed : is_keyed schema.types x ≡ true

stack : (schema : Schema) (root : List ℕ) (x : Spot) (xs : List Spot) → Stacked schema root (x ∷ xs) → Stack schema root x xs
stack schema root x xs s =
    let k = and_parts (is_keyed schema.types x) (list_all (is_keyed schema.types) xs) s.keyed in
    let t = and_parts (is_root x || bytes_eq (root_named x.at) root) (stand_together (root_named x.at) xs) s.together in
    let o = and_parts (list_all (in_root_order schema x) xs) (all_pairs (in_root_order schema) xs) s.order in
    let a = and_parts (rises schema root x) (list_all (rises schema root) xs) s.above in
    by (is_root x) refl k.0 k.1 t.0 t.1 o.0 o.1 a.0 a.1
  where
    by : (b : Bool) → is_root x ≡ b → is_keyed schema.types x ≡ true → list_all (is_keyed schema.types) xs ≡ true → (is_root x || bytes_eq (root_named x.at) root) ≡ true → stand_together (root_named x.at) xs ≡ true
        → list_all (in_root_order schema x) xs ≡ true → all_pairs (in_root_order schema) xs ≡ true → rises schema root x ≡ true → list_all (rises schema root) xs ≡ true → Stack schema root x xs
    by true e kx ks u t r o ax ay =
        let named : root_named x.at ≡ x.key = (root_of schema.types x kx e).named in
        let later : is_lt (root_cmp schema root x.key) ≡ true = ap (λ b. not b || is_lt (root_cmp schema root x.key)) (sym e) ∙ ax in
        record {
          rest = record { keyed = ks; together = t; order = o; above = ap (λ key. list_all (rises schema key) xs) named ∙ above_of schema x xs e r };
          first = (λ is. ap (λ key. is_lt (root_cmp schema root key)) named ∙ later, λ no. absurd (let bad : true ≡ false = sym e ∙ no in let none : ⊥ = cc in none));
          keyed = kx;
        }
    by false e kx ks u t r o ax ay =
        let same : root_named x.at ≡ root = (bytes_eq-Decides (root_named x.at) root).0 (ap (λ b. b || bytes_eq (root_named x.at) root) (sym e) ∙ u) in
        record {
          rest = record { keyed = ks; together = t; order = o; above = ap (λ key. list_all (rises schema key) xs) same ∙ ay };
          first = (λ is. absurd (let bad : true ≡ false = sym is ∙ e in let none : ⊥ = cc in none), λ no. same);
          keyed = kx;
        }

first_not_before : (schema : Schema) → IsTotalOrder (root_cmp schema) → (root : List ℕ) (x : Spot) (xs : List Spot) → Stack schema root x xs → not_before schema root x ≡ true
first_not_before schema o root x xs s = by (is_root x) refl
  where
    by : (b : Bool) → is_root x ≡ b → not_before schema root x ≡ true
    by true e = ap (λ b. not b) (not_gt (root_cmp schema root (root_named x.at)) (s.first.0 e))
    by false e = ap (λ key. not (is_gt (root_cmp schema root key))) (s.first.1 e) ∙ ap (λ r. not (is_gt r)) (tied_itself o root)

not_true : (b : Bool) → not b ≡ true → b ≡ false
not_true true h = absurd (let no : ⊥ = cc in no)
not_true false h = refl

raised : (schema : Schema) → IsTotalOrder (root_cmp schema) → (low high : List ℕ) (ys : List Spot) → is_gt (root_cmp schema low high) ≡ false → list_all (not_before schema high) ys ≡ true → list_all (not_before schema low) ys ≡ true
raised schema o low high [] le h = refl
raised schema o low high (y ∷ ys) le h =
    let a = and_parts (not_before schema high y) (list_all (not_before schema high) ys) h in
    and_from (not_before schema low y) (list_all (not_before schema low) ys)
    (ap (λ b. not b) (upto o low high (root_named y.at) le (not_true (is_gt (root_cmp schema high (root_named y.at))) a.0))) (raised schema o low high ys le a.1)

pub all_behind : (schema : Schema) → IsTotalOrder (root_cmp schema) → (root : List ℕ) (ys : List Spot) → Stacked schema root ys → list_all (not_before schema root) ys ≡ true
all_behind schema o root [] s = refl
all_behind schema o root (x ∷ xs) s =
    let t = stack schema root x xs s in
    let first = first_not_before schema o root x xs t in
    and_from (not_before schema root x) (list_all (not_before schema root) xs) first
    (raised schema o root (root_named x.at) xs (not_true (is_gt (root_cmp schema root (root_named x.at))) first) (all_behind schema o (root_named x.at) xs t.rest))

-- ---- up to a place

own_itself : (k : List ℕ) → bytes_eq k k ≡ true
own_itself k = (bytes_eq-Decides k k).1 refl

own_next : (types : List SegType) (root : List ℕ) (path : List Spot) (x : Spot) → list_all (is_keyed types) path ≡ true → list_all (is_own root) path ≡ true → is_keyed types x ≡ true → (is_root x ≡ false → root_named x.at ≡ root)
    → list_all (is_own (root_named x.at)) (path_with level path x) ≡ true
own_next types root path x h own k same = by (is_root x) refl
  where
    by : (b : Bool) → is_root x ≡ b → list_all (is_own (root_named x.at)) (path_with level path x) ≡ true
    by true e =
        ap (list_all (is_own (root_named x.at))) (root_alone types path x h (root_of types x k e).level) ∙ and_from (is_own (root_named x.at) x) true (own_itself (root_named x.at)) refl
    by false e =
        list_all-append (is_own (root_named x.at)) (kept x.level path) (x ∷ [])
        ∙ and_from (list_all (is_own (root_named x.at)) (kept x.level path)) (is_own (root_named x.at) x && true)
        (ap (λ key. list_all (is_own key) (kept x.level path)) (same e) ∙ all_kept (is_own root) x.level path own)
        (and_from (is_own (root_named x.at) x) true (own_itself (root_named x.at)) refl)

pub record Placed (schema : Schema) (root : List ℕ) (path front rest : List Spot) : Type 0 where
  pub low : list_all (not_behind schema root) front ≡ true
  pub own : list_all (is_own root) (path_after level path front) ≡ true
  pub goes : Stacked schema root rest

at_later : (schema : Schema) → IsTotalOrder (root_cmp schema) → (root : List ℕ) (front rest : List Spot) (e : Spot) → Stacked schema root (front ++ e ∷ rest) → not_before schema root e ≡ true
at_later schema o root front rest e s =
    let a = and_parts (list_all (not_before schema root) front) (not_before schema root e && list_all (not_before schema root) rest)
    (sym (list_all-append (not_before schema root) front (e ∷ rest)) ∙ all_behind schema o root (front ++ e ∷ rest) s) in
    (and_parts (not_before schema root e) (list_all (not_before schema root) rest) a.1).0

placed : (schema : Schema) → IsTotalOrder (root_cmp schema) → (root : List ℕ) (path front rest : List Spot) (e : Spot) → Stacked schema root (front ++ e ∷ rest) → list_all (is_keyed schema.types) path ≡ true → list_all (is_own root) path ≡ true
    → Placed schema (root_named e.at) path (front ++ e ∷ []) rest
placed schema o root path [] rest e s h own =
    let t = stack schema root e rest s in
    record {
      low = and_from (not_behind schema (root_named e.at) e) true (ap (λ r. not (is_gt r)) (tied_itself o (root_named e.at))) refl;
      own = own_next schema.types root path e h own t.keyed t.first.1;
      goes = t.rest;
    }
placed schema o root path (x ∷ front) rest e s h own =
    let t = stack schema root x (front ++ e ∷ rest) s in
    let p = placed schema o (root_named x.at) (path_with level path x) front rest e t.rest (keyed_next schema.types path x h t.keyed) (own_next schema.types root path x h own t.keyed t.first.1) in
    record {
      low = and_from (not_behind schema (root_named e.at) x) (list_all (not_behind schema (root_named e.at)) (front ++ e ∷ [])) (at_later schema o (root_named x.at) front rest e t.rest) p.low;
      own = p.own;
      goes = p.goes;
    }

-- the first of all is a root
first_stack : (schema : Schema) (x : Spot) (xs : List Spot) → is_root x ≡ true → list_all (is_keyed schema.types) (x ∷ xs) ≡ true → stand_together [] (x ∷ xs) ≡ true → all_pairs (in_root_order schema) (x ∷ xs) ≡ true
    → Stacked schema (root_named x.at) xs
first_stack schema x xs e h t o =
    let k = and_parts (is_keyed schema.types x) (list_all (is_keyed schema.types) xs) h in
    let u = and_parts (is_root x || bytes_eq (root_named x.at) []) (stand_together (root_named x.at) xs) t in
    let p = and_parts (list_all (in_root_order schema x) xs) (all_pairs (in_root_order schema) xs) o in
    record {
      keyed = k.1;
      together = u.1;
      order = p.1;
      above = ap (λ key. list_all (rises schema key) xs) (root_of schema.types x k.0 e).named ∙ above_of schema x xs e p.0;
    }

first_own : (x : Spot) → list_all (is_own (root_named x.at)) (x ∷ []) ≡ true
first_own x = and_from (is_own (root_named x.at) x) true (own_itself (root_named x.at)) refl

pub placed_in : (schema : Schema) → IsTotalOrder (root_cmp schema) → (front rest : List Spot) (e : Spot) → list_all (is_keyed schema.types) (front ++ e ∷ rest) ≡ true → stand_together [] (front ++ e ∷ rest) ≡ true
    → all_pairs (in_root_order schema) (front ++ e ∷ rest) ≡ true → ((x : Spot) (xs : List Spot) → front ++ e ∷ rest ≡ x ∷ xs → is_root x ≡ true) → Placed schema (root_named e.at) [] (front ++ e ∷ []) rest
placed_in schema o [] rest e h t p first = record {
  low = and_from (not_behind schema (root_named e.at) e) true (ap (λ r. not (is_gt r)) (tied_itself o (root_named e.at))) refl;
  own = first_own e;
  goes = first_stack schema e rest (first e rest refl) h t p;
}
placed_in schema o (x ∷ front) rest e h t p first =
    let s = first_stack schema x (front ++ e ∷ rest) (first x (front ++ e ∷ rest) refl) h t p in
    let k = and_parts (is_keyed schema.types x) (list_all (is_keyed schema.types) (front ++ e ∷ rest)) h in
    let q = placed schema o (root_named x.at) (x ∷ []) front rest e s (and_from (is_keyed schema.types x) true k.0 refl) (first_own x) in
    record {
      low = and_from (not_behind schema (root_named e.at) x) (list_all (not_behind schema (root_named e.at)) (front ++ e ∷ [])) (at_later schema o (root_named x.at) front rest e s) q.low;
      own = q.own;
      goes = q.goes;
    }

-- ---- behind a record

abbrev pub past_record : List Spot → List Spot
past_record [] = []
past_record (x ∷ xs) = cond (nat_lt 1 x.level) (past_record xs) (x ∷ xs)

lt_upto : (schema : Schema) → IsTotalOrder (root_cmp schema) → (a b c : List ℕ) → root_cmp schema a b ≡ Less → is_gt (root_cmp schema b c) ≡ false → is_lt (root_cmp schema a c) ≡ true
lt_upto schema o a b c l h = by (root_cmp schema b c) refl h
  where
    by : (r : Ordering) → root_cmp schema b c ≡ r → is_gt r ≡ false → is_lt (root_cmp schema a c) ≡ true
    by Less e k = ap is_lt (o.trans a b c l e)
    by Equal e k = ap is_lt (o.antisymm a c ∙ ap ordering_reverse (sym (o.congr b c a e)) ∙ sym (o.antisymm a b) ∙ l)
    by Greater e k = absurd (let no : ⊥ = cc in no)

is_less : (r : Ordering) → is_lt r ≡ true → r ≡ Less
is_less Less h = refl
is_less Equal h = absurd (let no : ⊥ = cc in no)
is_less Greater h = absurd (let no : ⊥ = cc in no)

all_later : (schema : Schema) → IsTotalOrder (root_cmp schema) → (low high : List ℕ) (ys : List Spot) → root_cmp schema low high ≡ Less → list_all (not_before schema high) ys ≡ true → list_all (is_later schema low) ys ≡ true
all_later schema o low high [] l h = refl
all_later schema o low high (y ∷ ys) l h =
    let a = and_parts (not_before schema high y) (list_all (not_before schema high) ys) h in
    and_from (is_later schema low y) (list_all (is_later schema low) ys) (lt_upto schema o low high (root_named y.at) l (not_true (is_gt (root_cmp schema high (root_named y.at))) a.0)) (all_later schema o low high ys l a.1)

-- from its next root on all is of later records
pub later_past : (schema : Schema) → IsTotalOrder (root_cmp schema) → (root : List ℕ) (ys : List Spot) → Stacked schema root ys → list_all (is_later schema root) (past_record ys) ≡ true
later_past schema o root [] s = refl
later_past schema o root (x ∷ xs) s =
    let t = stack schema root x xs s in
    by (is_root x) refl t (λ e. ap (λ key. list_all (is_later schema key) (past_record xs)) (sym e) ∙ later_past schema o (root_named x.at) xs t.rest)
  where
    by : (b : Bool) → is_root x ≡ b → Stack schema root x xs → (root_named x.at ≡ root → list_all (is_later schema root) (past_record xs) ≡ true) → list_all (is_later schema root) (past_record (x ∷ xs)) ≡ true
    by true e t rest =
        let off : nat_lt 1 x.level ≡ false = le-ltb 1 x.level (omega (arith, (root_of schema.types x t.keyed e).level)) in
        ap (λ b. list_all (is_later schema root) (cond b (past_record xs) (x ∷ xs))) off
        ∙ and_from (is_later schema root x) (list_all (is_later schema root) xs) (t.first.0 e)
        (all_later schema o root (root_named x.at) xs (is_less (root_cmp schema root (root_named x.at)) (t.first.0 e)) (all_behind schema o (root_named x.at) xs t.rest))
    by false e t rest = ap (λ b. list_all (is_later schema root) (cond b (past_record xs) (x ∷ xs))) (lt-ltb 1 x.level (deep_of schema.types x t.keyed e)) ∙ rest (t.first.1 e)

pub record_parts : (ys : List Spot) → ys ≡ in_record ys ++ past_record ys
record_parts [] = refl
record_parts (x ∷ xs) = by (nat_lt 1 x.level) refl (record_parts xs)
  where
    by : (b : Bool) → nat_lt 1 x.level ≡ b → xs ≡ in_record xs ++ past_record xs → x ∷ xs ≡ in_record (x ∷ xs) ++ past_record (x ∷ xs)
    by true e rest =
        ap (λ (ys : List Spot). x ∷ ys) rest ∙ ap (λ b. cond b (x ∷ in_record xs) [] ++ cond b (past_record xs) (x ∷ xs)) (sym e)
    by false e rest = ap (λ b. cond b (x ∷ in_record xs) [] ++ cond b (past_record xs) (x ∷ xs)) (sym e)
