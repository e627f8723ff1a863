-- The newest child tells of all its siblings: so what is found by what is kept is what the rows say.
use Rattle.std.proofs.Common.{◌≡◌, ℕ, ◌==◌, nat_lt, nat_le, Bool, true, false, not, cond, ◌&&◌, ◌||◌, List, [], ◌∷◌, Option, Some, None, refl, sym, ap, subst, ◌∙◌, arith}
use Rattle.std.specs.Prelude.{filter}
use Rattle.std.specs.Cmp.{nat_cmp_total, tied_itself}
use Rattle.std.specs.List.{list_all, list_any, last_or}
use Rattle.std.specs.Option.{option_map, option_map_or}
use Rattle.std.specs.Ordering.{ordering_then, nat_cmp, is_lt, is_le, is_eq}
use Rattle.std.specs.declared.cmp.Ordering.{Ordering}
use Rattle.std.specs.declared.cmp.Ordering.TheVariants.{Less, Equal, Greater}
use Rattle.std.specs.Str.{bytes_eq}
use Rattle.std.proofs.lemmas.Bool.{and_parts, and_from, and_left, and_right, not-true, not_from_false, both_ways, eqb-true, eq-eqb, ltb-true, ltb-false, leb-true, true≢false}
use Rattle.std.proofs.lemmas.Map.Text.{is_eq-slice_cmp}
use Rattle.hal_base.specs.declared.place.Ilk.{Ilk}
use Rattle.hal_schema.specs.declared.row.Row.{Row}
use Rattle.hal_schema.specs.declared.schema.Schema.{Schema}
use Rattle.hal_schema.specs.declared.schema.SegType.{SegType}
use Rattle.hal_schema.specs.Forest.{has_unique_key, twin_cmp}
use Rattle.hal_schema.specs.Insertion.{has_free_key}
use Rattle.hal_schema.specs.Keys.{key_cmp}
use Rattle.hal_schema.specs.Roots.{partition_place, anchor_place, root_cmp}
use Rattle.hal_schema.specs.Row.{same_name, same_parent, are_twins, row_key}
use Rattle.hal_schema.proofs.RowNames.{name_is, name_itself}
use Rattle.hal_loader.specs.Carrying.{level_kept, IsNewest, is_of_later_type, is_above_key, has_same_key}
use Rattle.hal_loader.specs.Placing.{first_name, goes_by_key}
use Rattle.hal_loader.specs.Refusals.{is_later_sibling, twins_of, is_below_last}
use Rattle.hal_loader.specs.Taker.{has_root}
use Rattle.hal_loader.proofs.Climbs.{Siblings}
use Rattle.hal_loader.proofs.KeyOrder.{same_as_last, same_key, key_itself}
use Rattle.hal_loader.proofs.Lists.{all_weaker, all_both, found_all, filter_none}

-- ---- tests of lists

pub any_none : {X : Type 0} (t : X → Bool) (xs : List X) → list_all (λ x. not (t x)) xs ≡ true → list_any t xs ≡ false
any_none t [] h = refl
any_none t (x ∷ xs) h =
    let a = and_parts (not (t x)) (list_all (λ x. not (t x)) xs) h in
    ap (λ b. b || list_any t xs) (not-true (t x) a.0) ∙ any_none t xs a.1

none_any : {X : Type 0} (t : X → Bool) (xs : List X) → list_any t xs ≡ false → list_all (λ x. not (t x)) xs ≡ true
none_any t [] h = refl
none_any t (x ∷ xs) h = by (t x) h (none_any t xs)
  where
    by : (b : Bool) → (b || list_any t xs) ≡ false → (list_any t xs ≡ false → list_all (λ x. not (t x)) xs ≡ true) → (not b && list_all (λ x. not (t x)) xs) ≡ true
    by true e go = cc e
    by false e go = go e

pub not_all : {X : Type 0} (a e b : X → Bool) → ((x : X) → e x ≡ b x) → (xs : List X)
    → not (list_all (λ x. not (a x && e x)) xs) ≡ list_any (λ x. a x && b x) xs
not_all a e b w [] = refl
not_all a e b w (x ∷ xs) = ap (λ c. not (not (a x && c) && list_all (λ x. not (a x && e x)) xs)) (w x) ∙ by (a x && b x) (not_all a e b w xs)
  where
    by : (c : Bool) → not (list_all (λ x. not (a x && e x)) xs) ≡ list_any (λ x. a x && b x) xs
        → not (not c && list_all (λ x. not (a x && e x)) xs) ≡ (c || list_any (λ x. a x && b x) xs)
    by true r = refl
    by false r = r

-- of two tests, if one is not, the other
pub either : (a b : Bool) → (not a || b) ≡ true → a ≡ true → b ≡ true
either true b h e = h
either false b h e = cc e

pub from_if : (a b : Bool) → (a ≡ true → b ≡ true) → (not a || b) ≡ true
from_if true b h = h refl
from_if false b h = refl

pub unless : (a : Bool) → (a ≡ true → ⊥) → not a ≡ true
unless true h = absurd (h refl)
unless false h = refl

-- ---- parents and twins

pub same_parent_is : (a b : Option Ilk) → same_parent a b ≡ true → a ≡ b
same_parent_is None None h = refl
same_parent_is None (Some b) h = cc h
same_parent_is (Some a) None h = cc h
same_parent_is (Some a) (Some b) h = ap (λ (n : Ilk). Some n) (name_is a b h)

pub same_parent_itself : (a : Option Ilk) → same_parent a a ≡ true
same_parent_itself None = refl
same_parent_itself (Some a) = name_itself a

pub same_parent_from : (a b : Option Ilk) → a ≡ b → same_parent a b ≡ true
same_parent_from a b e = subst (λ (o : Option Ilk). same_parent a o ≡ true) e (same_parent_itself a)

abbrev twins_at : List Row → ℕ → Option Ilk → List Row
twins_at rows code parent = filter (λ row. row.code == code && same_parent row.parent parent) rows

-- ---- the order of roots tells no two keys the same

root_eq : (schema : Schema) (a b : List ℕ) → is_eq (root_cmp schema a b) ≡ bytes_eq a b
root_eq schema a b = by (bytes_eq a b) refl
  where
    last : (x y z : Ordering) → is_eq (ordering_then x (ordering_then y z)) ≡ true → is_eq z ≡ true
    last Less y z h = cc h
    last Greater y z h = cc h
    last Equal Less z h = cc h
    last Equal Greater z h = cc h
    last Equal Equal z h = h

    itself : is_eq (root_cmp schema a a) ≡ true
    itself =
        let x : nat_cmp (partition_place schema a) (partition_place schema a) ≡ Equal = tied_itself nat_cmp_total (partition_place schema a) in
        let y : nat_cmp (anchor_place schema a) (anchor_place schema a) ≡ Equal = tied_itself nat_cmp_total (anchor_place schema a) in
        ap (λ (o : Ordering). is_eq (ordering_then o (ordering_then (nat_cmp (anchor_place schema a) (anchor_place schema a)) (key_cmp a a)))) x
        ∙ ap (λ (o : Ordering). is_eq (ordering_then o (key_cmp a a))) y ∙ is_eq-slice_cmp a a ∙ key_itself a

    no : (c : Bool) → is_eq (root_cmp schema a b) ≡ c → bytes_eq a b ≡ false → c ≡ false
    no true e f = absurd (true≢false (sym (last (nat_cmp (partition_place schema a) (partition_place schema b)) (nat_cmp (anchor_place schema a) (anchor_place schema b)) (key_cmp a b) e) ∙ is_eq-slice_cmp a b ∙ f))
    no false e f = refl

    by : (c : Bool) → bytes_eq a b ≡ c → is_eq (root_cmp schema a b) ≡ c
    by true e = subst (λ (k : List ℕ). is_eq (root_cmp schema a k) ≡ true) (same_key a b e) itself
    by false e = no (is_eq (root_cmp schema a b)) refl e

pub twin_eq : (schema : Schema) (a b : Row) → is_eq (twin_cmp schema a b) ≡ bytes_eq (row_key schema.types a) (row_key schema.types b)
twin_eq schema a b = by (a.code == 1)
  where
    by : (c : Bool) → is_eq (cond c (root_cmp schema (row_key schema.types a) (row_key schema.types b)) (key_cmp (row_key schema.types a) (row_key schema.types b)))
        ≡ bytes_eq (row_key schema.types a) (row_key schema.types b)
    by true = root_eq schema (row_key schema.types a) (row_key schema.types b)
    by false = is_eq-slice_cmp (row_key schema.types a) (row_key schema.types b)

-- ---- what the newest child tells

-- a sibling's type is no later than the newest child's
sibling_code : (schema : Schema) (rows : List Row) (p : Row) → IsNewest schema rows p
    → list_all (λ (x : Row). not (same_parent x.parent p.parent) || nat_le x.code p.code) rows ≡ true
sibling_code schema rows p n = n.latest

-- is a sibling of a later type than this there?
pub later_is : (schema : Schema) (rows : List Row) (below : Option Row) (above : List Row) (new : Row) → Siblings schema rows below above → new.parent ≡ first_name above
    → list_any (is_later_sibling new) rows ≡ is_of_later_type (option_map (level_kept schema.types) below) new.code
later_is schema rows None above new s e =
    any_none (is_later_sibling new) rows (all_weaker (λ x. not (same_parent x.parent (first_name above))) (λ x. not (is_later_sibling new x)) each rows s)
  where
    each : (x : Row) → not (same_parent x.parent (first_name above)) ≡ true → not (same_parent x.parent new.parent && nat_lt new.code x.code) ≡ true
    each x h = ap (λ o. not (same_parent x.parent o && nat_lt new.code x.code)) e ∙ not_from_false (same_parent x.parent (first_name above) && nat_lt new.code x.code) (and_left (same_parent x.parent (first_name above)) (nat_lt new.code x.code) (not-true (same_parent x.parent (first_name above)) h))
later_is schema rows (Some p) above new s e = by (nat_lt new.code p.code) refl
  where
    same : new.parent ≡ p.parent
    same = e ∙ sym s.parent

    yes : nat_lt new.code p.code ≡ true → (b : Bool) → list_any (is_later_sibling new) rows ≡ b → b ≡ true
    yes lt true h = refl
    yes lt false h =
        let none = found_all (λ r. same_name r.name p.name) (λ x. not (is_later_sibling new x)) rows p s.newest.found (none_any (is_later_sibling new) rows h) in
        let is : is_later_sibling new p ≡ true = and_from (same_parent p.parent new.parent) (nat_lt new.code p.code) (same_parent_from p.parent new.parent (sym same)) lt in
        absurd (both_ways (is_later_sibling new p) (not-true (is_later_sibling new p) none) is)

    each : nat_lt new.code p.code ≡ false → (x : Row) → (not (same_parent x.parent p.parent) || nat_le x.code p.code) ≡ true → not (is_later_sibling new x) ≡ true
    each not_lt x h = unless (is_later_sibling new x) (λ is.
        let a = and_parts (same_parent x.parent new.parent) (nat_lt new.code x.code) is in
        let le = leb-true x.code p.code (either (same_parent x.parent p.parent) (nat_le x.code p.code) h (ap (same_parent x.parent) (sym same) ∙ a.0)) in
        let lt = ltb-true new.code x.code a.1 in
        let ge = ltb-false new.code p.code not_lt in
        absurd (omega (arith, le, lt, ge)))

    by : (b : Bool) → nat_lt new.code p.code ≡ b → list_any (is_later_sibling new) rows ≡ b
    by true lt = yes lt (list_any (is_later_sibling new) rows) refl
    by false not_lt = any_none (is_later_sibling new) rows (all_weaker (λ x. not (same_parent x.parent p.parent) || nat_le x.code p.code) (λ x. not (is_later_sibling new x)) (each not_lt) rows s.newest.latest)

-- where the newest child is of no later type, a twin of a row is of the newest child's type
pub twin_is : (p new x : Row) → new.parent ≡ p.parent → nat_lt new.code p.code ≡ false → (not (same_parent x.parent p.parent) || nat_le x.code p.code) ≡ true
    → are_twins x new ≡ true → (p.code ≡ new.code) × (are_twins x p ≡ true)
twin_is p new x same not_later latest twins =
    let a = and_parts (x.code == new.code) (same_parent x.parent new.parent) twins in
    let code : x.code ≡ new.code = eqb-true x.code new.code a.0 in
    let parent : same_parent x.parent p.parent ≡ true = ap (same_parent x.parent) (sym same) ∙ a.1 in
    let le = leb-true x.code p.code (either (same_parent x.parent p.parent) (nat_le x.code p.code) latest parent) in
    let ge = ltb-false new.code p.code not_later in
    let is : p.code ≡ new.code = omega (arith, le, ge, code) in
    (is, and_from (x.code == p.code) (same_parent x.parent p.parent) (eq-eqb x.code p.code (code ∙ sym is)) parent)

no_twin : (rows : List Row) (above : List Row) (new : Row) → new.parent ≡ first_name above → list_all (λ (x : Row). not (same_parent x.parent (first_name above))) rows ≡ true
    → list_all (λ (x : Row). not (are_twins x new)) rows ≡ true
no_twin rows above new e s = all_weaker (λ x. not (same_parent x.parent (first_name above))) (λ x. not (are_twins x new)) each rows s
  where
    each : (x : Row) → not (same_parent x.parent (first_name above)) ≡ true → not (are_twins x new) ≡ true
    each x h = not_from_false (are_twins x new) (and_right (x.code == new.code) (same_parent x.parent new.parent) (ap (same_parent x.parent) e ∙ not-true (same_parent x.parent (first_name above)) h))

none_below : (types : List SegType) (rows : List Row) (new : Row) → list_all (λ (x : Row). not (are_twins x new)) rows ≡ true → is_below_last types rows new ≡ false
none_below types rows new h =
    ap (λ (l : List Row). option_map_or (λ (twin : Row). is_lt (key_cmp (row_key types new) (row_key types twin))) (last_or None l) false) (filter_none (λ (x : Row). are_twins x new) rows h)

-- is the key below that of the last twin?
pub under_is : (schema : Schema) (rows : List Row) (below : Option Row) (above : List Row) (new : Row) → Siblings schema rows below above → new.parent ≡ first_name above
    → goes_by_key schema new ≡ false → is_of_later_type (option_map (level_kept schema.types) below) new.code ≡ false
    → is_below_last schema.types rows new ≡ is_above_key (option_map (level_kept schema.types) below) new.code (row_key schema.types new)
under_is schema rows None above new s e plain not_later = none_below schema.types rows new (no_twin rows above new e s)
under_is schema rows (Some p) above new s e plain not_later = by (p.code == new.code) refl
  where
    same : new.parent ≡ p.parent
    same = e ∙ sym s.parent

    kn : List ℕ
    kn = row_key schema.types new

    by : (b : Bool) → (p.code == new.code) ≡ b → is_below_last schema.types rows new ≡ (b && is_lt (key_cmp (row_key schema.types new) (row_key schema.types p)))
    by true f =
        let code : p.code ≡ new.code = eqb-true p.code new.code f in
        let plain_p : goes_by_key schema p ≡ false = ap (λ (c : ℕ). schema.phdam && c == 1) code ∙ plain in
        let twins : twins_of rows new ≡ twins_of rows p = ap (λ (c : ℕ). twins_at rows c new.parent) (sym code) ∙ ap (λ (o : Option Ilk). twins_at rows p.code o) same in
        let last : last_or None (twins_of rows new) ≡ Some p = ap (last_or None) twins ∙ s.newest.last plain_p in
        ap (λ (o : Option Row). option_map_or (λ (twin : Row). is_lt (key_cmp (row_key schema.types new) (row_key schema.types twin))) o false) last
    by false f = none_below schema.types rows new (all_weaker (λ (x : Row). not (same_parent x.parent p.parent) || nat_le x.code p.code) (λ (x : Row). not (are_twins x new)) each rows s.newest.latest)
      where
        each : (x : Row) → (not (same_parent x.parent p.parent) || nat_le x.code p.code) ≡ true → not (are_twins x new) ≡ true
        each x h = unless (are_twins x new) (λ is. absurd (true≢false (sym (eq-eqb p.code new.code (twin_is p new x same not_later h is).0) ∙ f)))

abbrev has_key : List SegType → Row → Row → Bool
has_key types new x = are_twins x new && bytes_eq (row_key types x) (row_key types new)

free_key_is : (schema : Schema) (rows : List Row) (new : Row) → not (has_free_key schema rows new) ≡ (has_unique_key schema.types new.code && list_any (has_key schema.types new) rows)
free_key_is schema rows new = by (has_unique_key schema.types new.code)
  where
    by : (u : Bool) → not (not u || list_all (λ (row : Row). not (are_twins row new && is_eq (twin_cmp schema row new))) rows) ≡ (u && list_any (has_key schema.types new) rows)
    by false = refl
    by true = not_all (λ (x : Row). are_twins x new) (λ (x : Row). is_eq (twin_cmp schema x new)) (λ (x : Row). bytes_eq (row_key schema.types x) (row_key schema.types new)) (λ x. twin_eq schema x new) rows

any_key : (schema : Schema) (rows : List Row) (below : Option Row) (above : List Row) (new : Row) → Siblings schema rows below above → new.parent ≡ first_name above
    → goes_by_key schema new ≡ false → is_of_later_type (option_map (level_kept schema.types) below) new.code ≡ false
    → is_above_key (option_map (level_kept schema.types) below) new.code (row_key schema.types new) ≡ false
    → list_any (has_key schema.types new) rows ≡ has_same_key (option_map (level_kept schema.types) below) new.code (row_key schema.types new)
any_key schema rows None above new s e plain not_later not_above =
    any_none (has_key schema.types new) rows (all_weaker (λ (x : Row). not (are_twins x new)) (λ (x : Row). not (has_key schema.types new x)) each rows (no_twin rows above new e s))
  where
    each : (x : Row) → not (are_twins x new) ≡ true → not (has_key schema.types new x) ≡ true
    each x h = not_from_false (has_key schema.types new x) (and_left (are_twins x new) (bytes_eq (row_key schema.types x) (row_key schema.types new)) (not-true (are_twins x new) h))
any_key schema rows (Some p) above new s e plain not_later not_above = by (p.code == new.code && bytes_eq (row_key schema.types new) (row_key schema.types p)) refl
  where
    same : new.parent ≡ p.parent
    same = e ∙ sym s.parent

    yes : (c : Bool) → list_any (has_key schema.types new) rows ≡ c → has_key schema.types new p ≡ true → c ≡ true
    yes true h is = refl
    yes false h is = absurd (both_ways (has_key schema.types new p)
        (not-true (has_key schema.types new p) (found_all (λ (r : Row). same_name r.name p.name) (λ (x : Row). not (has_key schema.types new x)) rows p s.newest.found (none_any (has_key schema.types new) rows h))) is)

    by : (b : Bool) → (p.code == new.code && bytes_eq (row_key schema.types new) (row_key schema.types p)) ≡ b → list_any (has_key schema.types new) rows ≡ b
    by true f =
        let a = and_parts (p.code == new.code) (bytes_eq (row_key schema.types new) (row_key schema.types p)) f in
        let key : row_key schema.types new ≡ row_key schema.types p = same_key (row_key schema.types new) (row_key schema.types p) a.1 in
        let twins : are_twins p new ≡ true = and_from (p.code == new.code) (same_parent p.parent new.parent) a.0 (same_parent_from p.parent new.parent (sym same)) in
        let again : bytes_eq (row_key schema.types p) (row_key schema.types new) ≡ true = ap (bytes_eq (row_key schema.types p)) key ∙ key_itself (row_key schema.types p) in
        yes (list_any (has_key schema.types new) rows) refl (and_from (are_twins p new) (bytes_eq (row_key schema.types p) (row_key schema.types new)) twins again)
    by false f = split (goes_by_key schema p) refl
      where
        each : (x : Row) → (not (same_parent x.parent p.parent) || nat_le x.code p.code) ≡ true → (not (are_twins x p) || is_le (key_cmp (row_key schema.types x) (row_key schema.types p))) ≡ true
            → not (has_key schema.types new x) ≡ true
        each x h k = unless (has_key schema.types new x) (λ is.
            let a = and_parts (are_twins x new) (bytes_eq (row_key schema.types x) (row_key schema.types new)) is in
            let t = twin_is p new x same not_later h a.0 in
            let le : is_le (key_cmp (row_key schema.types x) (row_key schema.types p)) ≡ true = either (are_twins x p) (is_le (key_cmp (row_key schema.types x) (row_key schema.types p))) k t.1 in
            let key : row_key schema.types x ≡ row_key schema.types new = same_key (row_key schema.types x) (row_key schema.types new) a.1 in
            let up : is_le (key_cmp (row_key schema.types new) (row_key schema.types p)) ≡ true = ap (λ (l : List ℕ). is_le (key_cmp l (row_key schema.types p))) (sym key) ∙ le in
            let code : (p.code == new.code) ≡ true = eq-eqb p.code new.code t.0 in
            let not_lt : is_lt (key_cmp (row_key schema.types new) (row_key schema.types p)) ≡ false = ap (λ (c : Bool). c && is_lt (key_cmp (row_key schema.types new) (row_key schema.types p))) (sym code) ∙ not_above in
            let again = same_as_last (row_key schema.types new) (row_key schema.types p) up not_lt in
            absurd (true≢false (sym (and_from (p.code == new.code) (bytes_eq (row_key schema.types new) (row_key schema.types p)) code again) ∙ f)))

        by_key : goes_by_key schema p ≡ true → (x : Row) → (not (same_parent x.parent p.parent) || nat_le x.code p.code) ≡ true → not (has_key schema.types new x) ≡ true
        by_key g x h = unless (has_key schema.types new x) (λ is.
            let a = and_parts (are_twins x new) (bytes_eq (row_key schema.types x) (row_key schema.types new)) is in
            let t = twin_is p new x same not_later h a.0 in
            absurd (true≢false (sym g ∙ ap (λ (c : ℕ). schema.phdam && c == 1) t.0 ∙ plain)))

        split : (c : Bool) → goes_by_key schema p ≡ c → list_any (has_key schema.types new) rows ≡ false
        split true g = any_none (has_key schema.types new) rows (all_weaker (λ (x : Row). not (same_parent x.parent p.parent) || nat_le x.code p.code) (λ (x : Row). not (has_key schema.types new x)) (by_key g) rows s.newest.latest)
        split false g = any_none (has_key schema.types new) rows
            (all_both (λ (x : Row). not (same_parent x.parent p.parent) || nat_le x.code p.code) (λ (x : Row). not (are_twins x p) || is_le (key_cmp (row_key schema.types x) (row_key schema.types p)))
            (λ (x : Row). not (has_key schema.types new x)) each rows s.newest.latest (s.newest.highest g))

-- is the unique key there among the twins?
pub again_is : (schema : Schema) (rows : List Row) (below : Option Row) (above : List Row) (new : Row) → Siblings schema rows below above → new.parent ≡ first_name above
    → goes_by_key schema new ≡ false → is_of_later_type (option_map (level_kept schema.types) below) new.code ≡ false
    → is_above_key (option_map (level_kept schema.types) below) new.code (row_key schema.types new) ≡ false
    → not (has_free_key schema rows new) ≡ (has_unique_key schema.types new.code && has_same_key (option_map (level_kept schema.types) below) new.code (row_key schema.types new))
again_is schema rows below above new s e plain not_later not_above =
    free_key_is schema rows new ∙ ap (λ (b : Bool). has_unique_key schema.types new.code && b) (any_key schema rows below above new s e plain not_later not_above)

-- of a root: is its key that of another root?
pub root_is : (schema : Schema) (rows : List Row) (new : Row) → has_unique_key schema.types new.code ≡ true → new.code ≡ 1 → new.parent ≡ None
    → not (has_free_key schema rows new) ≡ has_root schema.types rows (row_key schema.types new)
root_is schema rows new unique code parent =
    free_key_is schema rows new ∙ ap (λ (b : Bool). b && list_any (has_key schema.types new) rows) unique
    ∙ ap (λ (c : ℕ). list_any (λ (x : Row). (x.code == c && same_parent x.parent new.parent) && bytes_eq (row_key schema.types x) (row_key schema.types new)) rows) code
    ∙ ap (λ (o : Option Ilk). list_any (λ (x : Row). (x.code == 1 && same_parent x.parent o) && bytes_eq (row_key schema.types x) (row_key schema.types new)) rows) parent
