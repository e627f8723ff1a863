-- Child types by their codes, and roots of a PHIDAM partition by their keys.
use Rattle.std.proofs.Common.{arith, refl, sym, ap, ◌≡◌, ◌∙◌, ℕ, zero, suc, ◌+◌, ◌-◌, ◌<◌, ◌==◌, ◌&&◌, nat_lt, Bool, true, false, cond, List, [], ◌∷◌, map, filter, take, Option, None, Some, Ordering, Equal}
use Rattle.std.proofs.lemmas.Bool.{eq-eqb}
use Rattle.std.proofs.lemmas.List.Sums.{length-filter}
use Rattle.std.specs.List.{list_all, enumerate_from}
use Rattle.std.specs.Option.{option_map_or}
use Rattle.std.specs.List.{slice_get}
use Rattle.std.specs.Prelude.{length, unwrap_or, count_by, option_and_then}
use Rattle.std.specs.Ordering.{nat_cmp, ordering_then}
use Rattle.std.specs.Cmp.{nat_cmp_is}
use Rattle.hal_schema.specs.declared.schema.SegType.{SegType}
use Rattle.hal_schema.specs.declared.schema.Schema.{Schema}
use Rattle.hal_schema.specs.Forest.{all_pairs}
use Rattle.hal_schema.specs.Keys.{key_cmp}
use Rattle.hal_schema.specs.Roots.{partition_of, partition_place, anchor_of, anchor_place, root_cmp}
use Rattle.hal_schema.specs.SegType.{is_child, parent_code}
use Rattle.record_walk.specs.Tree.{child_codes}
use Rattle.record_walk.specs.Orders.{child_place, ChildPlaces}

-- the codes of those types, counted from n on, that are children of a code
abbrev codes_from : ℕ → ℕ → List SegType → List ℕ
codes_from n code types = map (λ p. p.0) (filter (λ p. is_child code p.1) (enumerate_from n types))

both : (a b : Bool) → a ≡ true → b ≡ true → (a && b) ≡ true
both true b e f = f
both false b e f = e

above : (m n : ℕ) → m < n → nat_lt m n ≡ true
above m n low = grind arith

one_more : (m n : ℕ) (t : SegType) (taken : Bool) (rest : List (ℕ × SegType)) → m < n → list_all (nat_lt m) (map (λ p. p.0) rest) ≡ true
    → list_all (nat_lt m) (map (λ p. p.0) (cond taken ((n, t) ∷ rest) rest)) ≡ true
one_more m n t true rest low all = both (nat_lt m n) _ (above m n low) all
one_more m n t false rest low all = all

all_above : (m n code : ℕ) (types : List SegType) → m < n → list_all (nat_lt m) (codes_from n code types) ≡ true
all_above m n code [] low = refl
all_above m n code (t ∷ types) low =
    one_more m n t (is_child code t) (filter (λ p. is_child code p.1) (enumerate_from (n + 1) types)) low (all_above m (n + 1) code types (omega (arith, low)))

first_lowest : (n : ℕ) (t : SegType) (taken : Bool) (rest : List (ℕ × SegType)) → list_all (nat_lt n) (map (λ p. p.0) rest) ≡ true → all_pairs nat_lt (map (λ p. p.0) rest) ≡ true
    → all_pairs nat_lt (map (λ p. p.0) (cond taken ((n, t) ∷ rest) rest)) ≡ true
first_lowest n t true rest low rises = both (list_all (nat_lt n) (map (λ p. p.0) rest)) _ low rises
first_lowest n t false rest low rises = rises

pub codes_rise : (n code : ℕ) (types : List SegType) → all_pairs nat_lt (codes_from n code types) ≡ true
codes_rise n code [] = refl
codes_rise n code (t ∷ types) =
    first_lowest n t (is_child code t) (filter (λ p. is_child code p.1) (enumerate_from (n + 1) types)) (all_above n (n + 1) code types (omega arith)) (codes_rise (n + 1) code types)

-- two equal numbers leave it to the next comparison
equal : (m n : ℕ) (next : Ordering) → m ≡ n → ordering_then (nat_cmp m n) next ≡ next
equal m n next is = ap (λ (r : Ordering). ordering_then r next) (sym (nat_cmp_is m n Equal is))

no_anchor : (schema : Schema) (key : List ℕ) → schema.phdam ≡ false → anchor_place schema key ≡ 0
no_anchor schema key is = ap (λ (b : Bool). cond b (option_map_or (λ part. anchor_of part.anchors key) (slice_get schema.parts (partition_place schema key)) 0) 0) is

pub by_key : (schema : Schema) (a b : List ℕ) → schema.phdam ≡ false → partition_of schema a ≡ partition_of schema b → root_cmp schema a b ≡ key_cmp a b
by_key schema a b phidam same =
    equal (partition_place schema a) (partition_place schema b) _ (ap (λ place. unwrap_or place (length schema.parts)) same)
    ∙ equal (anchor_place schema a) (anchor_place schema b) (key_cmp a b) (no_anchor schema a phidam ∙ sym (no_anchor schema b phidam))

-- ---- places of child types

many_from : (n code : ℕ) (types : List SegType) → length (codes_from n code types) ≡ length (filter (is_child code) types)
many_from n code [] = refl
many_from n code (t ∷ types) = by (is_child code t) (many_from (n + 1) code types)
  where
    by : (taken : Bool) → length (codes_from (n + 1) code types) ≡ length (filter (is_child code) types)
        → length (map (λ (p : ℕ × SegType). p.0) (cond taken ((n, t) ∷ filter (λ p. is_child code p.1) (enumerate_from (n + 1) types)) (filter (λ p. is_child code p.1) (enumerate_from (n + 1) types))))
        ≡ length (cond taken (t ∷ filter (is_child code) types) (filter (is_child code) types))
    by true e = ap suc e
    by false e = e

some_is : (a b : SegType) → Some a ≡ Some b → a ≡ b
some_is a b is = cc

plus_none : (m : ℕ) → m ≡ m + 0
plus_none m = omega arith

further : (m l : ℕ) → (m + 1) + l ≡ m + suc l
further m l = omega arith

place_from : (n up : ℕ) (types : List SegType) (k : ℕ) (t : SegType) → slice_get types k ≡ Some t → is_child up t ≡ true → slice_get (codes_from n up types) (length (filter (is_child up) (take k types))) ≡ Some (n + k)
place_from n up [] k t e c = let none : None ≡ Some t = e in cc
place_from n up (u ∷ types) zero t e c =
    let taken : is_child up u ≡ true = ap (is_child up) (some_is u t e) ∙ c in
    ap (λ (b : Bool). slice_get (map (λ (p : ℕ × SegType). p.0) (cond b ((n, u) ∷ filter (λ p. is_child up p.1) (enumerate_from (n + 1) types)) (filter (λ p. is_child up p.1) (enumerate_from (n + 1) types)))) 0) taken
    ∙ ap (λ (m : ℕ). Some m) (plus_none n)
place_from n up (u ∷ types) (suc k) t e c = by (is_child up u) (place_from (n + 1) up types k t e c)
  where
    rest : List (ℕ × SegType)
    rest = filter (λ p. is_child up p.1) (enumerate_from (n + 1) types)

    by : (taken : Bool) → slice_get (codes_from (n + 1) up types) (length (filter (is_child up) (take k types))) ≡ Some ((n + 1) + k)
        → slice_get (map (λ (p : ℕ × SegType). p.0) (cond taken ((n, u) ∷ rest) rest)) (length (cond taken (u ∷ filter (is_child up) (take k types)) (filter (is_child up) (take k types)))) ≡ Some (n + suc k)
    by true h = h ∙ ap (λ (m : ℕ). Some m) (further n k)
    by false h = h ∙ ap (λ (m : ℕ). Some m) (further n k)

pub child_place_is : (types : List SegType) (up code : ℕ) → parent_code types code ≡ Some up → slice_get (child_codes types up) (child_place types code) ≡ Some code
child_place_is types up zero e = let none : None ≡ Some up = e in cc
child_place_is types up (suc k) e = by (slice_get types k) refl e
  where
    one_less : (n : ℕ) → suc n - 1 ≡ n
    one_less n = omega arith

    one_on : (n : ℕ) → 1 + n ≡ suc n
    one_on n = omega arith

    by : (o : Option SegType) → slice_get types k ≡ o → option_and_then (λ (t : SegType). t.parent) o ≡ Some up → slice_get (child_codes types up) (child_place types (suc k)) ≡ Some (suc k)
    by None at h = let none : None ≡ Some up = h in cc
    by (Some t) at h =
        let mine : is_child up t ≡ true = ap (λ (o : Option ℕ). option_map_or (λ parent. parent == up) o false) h ∙ eq-eqb up up refl in
        let where_it : child_place types (suc k) ≡ length (filter (is_child up) (take k types)) =
        ap (λ (o : Option ℕ). option_map_or (λ parent. count_by (is_child parent) (take (suc k - 1) types)) o 0) e ∙ ap (λ (m : ℕ). count_by (is_child up) (take m types)) (one_less k) ∙ sym (length-filter (is_child up) (take k types)) in
        ap (slice_get (child_codes types up)) where_it ∙ place_from 1 up types k t at mine ∙ ap (λ (m : ℕ). Some m) (one_on k)

pub child_places : ChildPlaces
child_places = record { place = child_place_is; many = λ types code. many_from 1 code types ∙ length-filter (is_child code) types }
