-- What the roots of a view are, element by element, and which root stands on a path.
use Rattle.std.proofs.Common.{◌≡◌, ℕ, ◌==◌, ◌<◌, Bool, true, false, cond, ◌&&◌, List, [], ◌∷◌, ◌++◌, Option, None, Some, refl, sym, ap, ◌∙◌, arith}
use Rattle.std.specs.Prelude.{find, nat_lt}
use Rattle.std.specs.List.{list_all}
use Rattle.std.specs.Option.{option_map_or, option_or}
use Rattle.std.specs.Str.{bytes_eq}
use Rattle.std.proofs.lemmas.Bool.{false_from_ne_true, and_parts, and_from, eqb-true, ltb-true, lt-ltb, le-ltb}
use Rattle.std.proofs.lemmas.List.Folds.{list_all-append, find-append}
use Rattle.std.proofs.lemmas.Slice.Eq.{bytes_eq-Decides}
use Rattle.hal_schema.specs.declared.schema.SegType.{SegType}
use Rattle.hal_schema.specs.Paths.{path_with}
use Rattle.position_state.specs.declared.spot.Spot.{Spot}
use Rattle.position_state.specs.View.{root_named}
use Rattle.view_laws.specs.Views.{is_keyed, root_field}
use Rattle.call_gets.proofs.Skipping.{level, kept}
use Rattle.call_gets.proofs.Within.{all_kept}

pub record IsRoot (types : List SegType) (x : Spot) : Type 0 where
  pub level : x.level ≡ 1
  pub own : bytes_eq x.key (root_field types x.content) ≡ true
  pub named : root_named x.at ≡ x.key

pub root_of : (types : List SegType) (x : Spot) → is_keyed types x ≡ true → (x.code == 1) ≡ true → IsRoot types x
root_of types x h e =
    let f : (x.level == 1 && bytes_eq x.key (root_field types x.content) && bytes_eq (root_named x.at) x.key) ≡ true =
    ap (λ b. cond b (x.level == 1 && bytes_eq x.key (root_field types x.content) && bytes_eq (root_named x.at) x.key) (nat_lt 1 x.level)) (sym e) ∙ h in
    let a = and_parts (x.level == 1 && bytes_eq x.key (root_field types x.content)) (bytes_eq (root_named x.at) x.key) f in
    let b = and_parts (x.level == 1) (bytes_eq x.key (root_field types x.content)) a.0 in
    record { level = eqb-true x.level 1 b.0; own = b.1; named = (bytes_eq-Decides (root_named x.at) x.key).0 a.1 }

pub deep_of : (types : List SegType) (x : Spot) → is_keyed types x ≡ true → (x.code == 1) ≡ false → 1 < x.level
deep_of types x h e =
    ltb-true 1 x.level (ap (λ b. cond b (x.level == 1 && bytes_eq x.key (root_field types x.content) && bytes_eq (root_named x.at) x.key) (nat_lt 1 x.level)) (sym e) ∙ h)

abbrev pub is_deep : Spot → Bool
is_deep spot = nat_lt 0 spot.level

pub one_deep : (types : List SegType) (x : Spot) → is_keyed types x ≡ true → is_deep x ≡ true
one_deep types x h = by (x.code == 1) refl
  where
    by : (b : Bool) → (x.code == 1) ≡ b → is_deep x ≡ true
    by true e = lt-ltb 0 x.level (omega (arith, (root_of types x h e).level))
    by false e = lt-ltb 0 x.level (omega (arith, deep_of types x h e))

-- what is on a path above a root is nothing
pub kept_first : (types : List SegType) (l : ℕ) (path : List Spot) → list_all (is_keyed types) path ≡ true → l ≡ 1 → kept l path ≡ []
kept_first types l [] h e = refl
kept_first types l (x ∷ xs) h e =
    let a = and_parts (is_keyed types x) (list_all (is_keyed types) xs) h in
    let off : nat_lt x.level l ≡ false = le-ltb x.level l (omega (arith, e, ltb-true 0 x.level (one_deep types x a.0))) in
    ap (λ b. cond b (x ∷ kept l xs) (kept l xs)) off ∙ kept_first types l xs a.1 e

pub root_alone : (types : List SegType) (path : List Spot) (x : Spot) → list_all (is_keyed types) path ≡ true → x.level ≡ 1 → path_with level path x ≡ x ∷ []
root_alone types path x h one = ap (λ (ys : List Spot). ys ++ x ∷ []) (kept_first types x.level path h one)

pub keyed_next : (types : List SegType) (path : List Spot) (x : Spot) → list_all (is_keyed types) path ≡ true → is_keyed types x ≡ true → list_all (is_keyed types) (path_with level path x) ≡ true
keyed_next types path x h k =
    list_all-append (is_keyed types) (kept x.level path) (x ∷ [])
    ∙ and_from (list_all (is_keyed types) (kept x.level path)) (is_keyed types x && true) (all_kept (is_keyed types) x.level path h) (and_from (is_keyed types x) true k refl)

-- ---- the root on a path

abbrev pub is_root : Spot → Bool
is_root spot = spot.code == 1

-- whether the root on a path has a key
abbrev pub key_on : List ℕ → List Spot → Bool
key_on key path = option_map_or (λ (r : Spot). bytes_eq r.key key) (find is_root path) false

root_stays : (types : List SegType) (l : ℕ) (path : List Spot) → list_all (is_keyed types) path ≡ true → 1 < l → find is_root (kept l path) ≡ find is_root path
root_stays types l [] h lt = refl
root_stays types l (x ∷ xs) h lt =
    let a = and_parts (is_keyed types x) (list_all (is_keyed types) xs) h in
    by (is_root x) refl a.0 (root_stays types l xs a.1 lt)
  where
    by : (b : Bool) → is_root x ≡ b → is_keyed types x ≡ true → find is_root (kept l xs) ≡ find is_root xs → find is_root (kept l (x ∷ xs)) ≡ find is_root (x ∷ xs)
    by true e k rest =
        let on : nat_lt x.level l ≡ true = lt-ltb x.level l (omega (arith, (root_of types x k e).level, lt)) in
        ap (λ b. find is_root (cond b (x ∷ kept l xs) (kept l xs))) on ∙ ap (λ (o : Option Spot). cond (is_root x) (Some x) o) rest
    by false e k rest = split (nat_lt x.level l)
      where
        split : (c : Bool) → find is_root (cond c (x ∷ kept l xs) (kept l xs)) ≡ cond (is_root x) (Some x) (find is_root xs)
        split true = ap (λ (o : Option Spot). cond (is_root x) (Some x) o) rest
        split false = rest ∙ ap (λ b. cond b (Some x) (find is_root xs)) (sym e)

or_none : (o : Option Spot) → option_or o None ≡ o
or_none None = refl
or_none (Some s) = refl

-- it is that of the path before, where the path goes on to what is no root
pub key_stays : (types : List SegType) (key : List ℕ) (path : List Spot) (x : Spot) → list_all (is_keyed types) path ≡ true → is_root x ≡ false → 1 < x.level → key_on key (path_with level path x) ≡ key_on key path
key_stays types key path x h e lt =
    ap (λ (o : Option Spot). option_map_or (λ (r : Spot). bytes_eq r.key key) o false)
    (find-append is_root (kept x.level path) (x ∷ []) ∙ ap (λ b. option_or (find is_root (kept x.level path)) (cond b (Some x) None)) e ∙ or_none (find is_root (kept x.level path)) ∙ root_stays types x.level path h lt)

pub key_alone : (key : List ℕ) (x : Spot) → is_root x ≡ true → key_on key (x ∷ []) ≡ bytes_eq x.key key
key_alone key x e = ap (λ b. option_map_or (λ (r : Spot). bytes_eq r.key key) (cond b (Some x) None) false) e

-- ---- the root of a key

pub level_off : (x : Spot) → 1 < x.level → (x.level == 1) ≡ false
level_off x lt = false_from_ne_true (x.level == 1) (λ t. omega (arith, eqb-true x.level 1 t, lt))
