-- In the list of records siblings rise: tests of two rows that say something of children of one parent alone are tests of chains.
use Rattle.std.proofs.Common.{◌≡◌, ℕ, suc, ◌+◌, ◌≤◌, Bool, true, false, not, cond, ◌&&◌, ◌||◌, List, [], ◌∷◌, ◌++◌, map, Option, None, Some, ◌⊎◌, inl, inr, refl, sym, ap, ◌∙◌, arith}
use Rattle.std.specs.Prelude.{filter, ⊤}
use Rattle.std.specs.Ordering.{is_lt, is_le}
use Rattle.std.specs.List.{list_all, enumerate_from, AllByRecursion}
use Rattle.std.specs.Option.{option_and_then, option_map_or}
use Rattle.std.proofs.lemmas.Bool.{and_parts, and_from, eq-eqb, false≢true}
use Rattle.std.proofs.lemmas.List.Folds.{list_all-append}
use Rattle.hal_base.specs.declared.place.Ilk.{Ilk}
use Rattle.hal_schema.specs.declared.row.Row.{Row}
use Rattle.hal_schema.specs.declared.schema.SegType.{SegType}
use Rattle.hal_schema.specs.declared.schema.KeyField.{KeyField}
use Rattle.hal_schema.specs.declared.schema.Schema.{Schema}
use Rattle.hal_schema.specs.Keys.{key_cmp}
use Rattle.hal_schema.specs.Facts.{SchemasAreKept, IsKept}
use Rattle.hal_schema.specs.SegType.{is_child}
use Rattle.hal_schema.specs.Roots.{root_cmp}
use Rattle.hal_schema.specs.Forest.{all_pairs, names_apart, in_type_order, in_twin_order, may_follow, has_unique_key, twin_cmp}
use Rattle.forest_laws.proofs.Lists.{Among, among_passes, among_append, among_left, among_right, all_among, pairs_parts, pairs_join}
use Rattle.forest_laws.proofs.Names.{same_some, apart_names, twins_from}
use Rattle.forest_laws.proofs.Order.{type_order_from, twin_order_from}
use Rattle.record_walk.specs.Tree.{Occurrence, Twins, no_segment, segment, Chains, no_chain, chain, child_codes, are_of, are_chains_of, are_roots}
use Rattle.record_walk.specs.Listing.{Placed, placed, list_of, list_in, rows_of}
use Rattle.record_walk.specs.Side.{heads_of, heads_in, key_of, roots_rise}
use Rattle.record_walk.specs.Siblings.{row_of, twins_follow, twins_follow_in, SiblingsRise}
use Rattle.record_walk.proofs.Levels.{typed, ones, roots_typed}

-- ---- tests

pub same_truth : (a b : Bool) → (a ≡ true → b ≡ true) → (b ≡ true → a ≡ true) → a ≡ b
same_truth true b f g = sym (f refl)
same_truth false true f g = g refl
same_truth false false f g = refl

same_test : {X : Type 0} (p q : X → Bool) → ((x : X) → p x ≡ q x) → (xs : List X) → list_all p xs ≡ list_all q xs
same_test p q h [] = refl
same_test p q h (x ∷ xs) = ap (λ (b : Bool). b && list_all p xs) (h x) ∙ ap (λ (b : Bool). q x && b) (same_test p q h xs)

pairs_append : {X : Type 0} (t : X → X → Bool) (xs ys : List X) → all_pairs t (xs ++ ys) ≡ (list_all (λ x. list_all (t x) ys) xs && (all_pairs t xs && all_pairs t ys))
pairs_append t xs ys =
    same_truth (all_pairs t (xs ++ ys)) (list_all (λ x. list_all (t x) ys) xs && (all_pairs t xs && all_pairs t ys))
    (λ h. let p = pairs_parts t xs ys h in and_from (list_all (λ x. list_all (t x) ys) xs) (all_pairs t xs && all_pairs t ys) p.across (and_from (all_pairs t xs) (all_pairs t ys) p.front p.back))
    (λ h.
    let a = and_parts (list_all (λ x. list_all (t x) ys) xs) (all_pairs t xs && all_pairs t ys) h in
    let b = and_parts (all_pairs t xs) (all_pairs t ys) a.1 in
    pairs_join t xs ys (record { front = b.0; back = b.1; across = a.0 }))

pub pairs_rows : (t : Row → Row → Bool) (list : List Placed) → all_pairs t (rows_of list) ≡ all_pairs (λ (p q : Placed). t p.row q.row) list
pairs_rows t [] = refl
pairs_rows t (p ∷ list) = ap (λ (b : Bool). b && all_pairs t (rows_of list)) (each list) ∙ ap (λ (b : Bool). list_all (λ (q : Placed). t p.row q.row) list && b) (pairs_rows t list)
  where
    each : (l : List Placed) → list_all (t p.row) (rows_of l) ≡ list_all (λ (q : Placed). t p.row q.row) l
    each [] = refl
    each (q ∷ l) = ap (λ (b : Bool). t p.row q.row && b) (each l)

-- ---- whose names the parents are

-- the names of a list differ, and none is that of the parent above it
abbrev pub apart : Placed → Placed → Bool
apart p q = names_apart p.row q.row

pub record Named (parent : Option Ilk) (list : List Placed) : Type 0 where
  pub differ : all_pairs apart list ≡ true
  pub fresh : (p : Placed) → Among p list → parent ≡ Some p.row.name → ⊥

-- the parent of a row is the one above the list, or a row of the list
pub data Under (parent : Option Ilk) (list : List Placed) (p : Placed) : Type 0 where
  Top : p.row.parent ≡ parent → Under parent list p
  Inner : (q : Placed) → Among q list → p.row.parent ≡ Some q.row.name → Under parent list p

under_wider : (parent : Option Ilk) (few many : List Placed) (p : Placed) → ((q : Placed) → Among q few → Among q many) → Under parent few p → Under parent many p
under_wider parent few many p w (Top e) = Top e
under_wider parent few many p w (Inner q a e) = Inner q (w q a) e

pub either : {P Q R : Type 0} → (P → R) → (Q → R) → P ⊎ Q → R
either f g (inl p) = f p
either f g (inr q) = g q

below_it : (parent : Option Ilk) (s : Occurrence) (below : Chains) (next : Twins) (p : Placed) → Under (Some s.name) (list_in (Some s.name) below) p → Under parent (list_of parent (segment s below next)) p
below_it parent s below next p (Top e) = Inner (placed parent s) (inl refl) e
below_it parent s below next p (Inner q a e) = Inner q (inr (among_left q (list_in (Some s.name) below) (list_of parent next) a)) e

mutual
  pub under : (parent : Option Ilk) (twins : Twins) (p : Placed) → Among p (list_of parent twins) → Under parent (list_of parent twins) p
  under parent no_segment p h = absurd h
  under parent (segment s below next) p (inl e) = Top (ap (λ (q : Placed). q.row.parent) (sym e))
  under parent (segment s below next) p (inr h) =
      let low : List Placed = list_in (Some s.name) below in
      let high : List Placed = list_of parent next in
      either {P = Among p low} {Q = Among p high} {R = Under parent (list_of parent (segment s below next)) p} (λ a. below_it parent s below next p (under_in (Some s.name) below p a))
      (λ a. under_wider parent high (list_of parent (segment s below next)) p (λ q m. inr (among_right q low high m)) (under parent next p a)) (among_append p low high h)

  pub under_in : (parent : Option Ilk) (chains : Chains) (p : Placed) → Among p (list_in parent chains) → Under parent (list_in parent chains) p
  under_in parent no_chain p h = absurd h
  under_in parent (chain twins more) p h =
      let xs : List Placed = list_of parent twins in
      let ys : List Placed = list_in parent more in
      either {P = Among p xs} {Q = Among p ys} {R = Under parent (xs ++ ys) p} (λ a. under_wider parent xs (xs ++ ys) p (λ q m. among_left q xs ys m) (under parent twins p a))
      (λ a. under_wider parent ys (xs ++ ys) p (λ q m. among_right q xs ys m) (under_in parent more p a)) (among_append p xs ys h)

-- ---- names of the parts

pub record Parted (parent : Option Ilk) (xs ys : List Placed) : Type 0 where
  pub front : Named parent xs
  pub back : Named parent ys
  pub across : (p q : Placed) → Among p xs → Among q ys → p.row.name ≡ q.row.name → ⊥

pub parted : (parent : Option Ilk) (xs ys : List Placed) → Named parent (xs ++ ys) → Parted parent xs ys
parted parent xs ys n =
    let parts = pairs_parts apart xs ys n.differ in
    record {
      front = record { differ = parts.front; fresh = λ p a. n.fresh p (among_left p xs ys a) };
      back = record { differ = parts.back; fresh = λ p a. n.fresh p (among_right p xs ys a) };
      across = λ p q a b e. apart_names p.row q.row (among_passes (apart p) q ys b (among_passes (λ (x : Placed). list_all (apart x) ys) p xs a parts.across)) e;
    }

pub record Topped (parent : Option Ilk) (s : Occurrence) (below : Chains) (next : Twins) : Type 0 where
  pub low : Named (Some s.name) (list_in (Some s.name) below)
  pub high : Named parent (list_of parent next)
  pub across : (p q : Placed) → Among p (list_in (Some s.name) below) → Among q (list_of parent next) → p.row.name ≡ q.row.name → ⊥
  pub off_low : (p : Placed) → Among p (list_in (Some s.name) below) → s.name ≡ p.row.name → ⊥
  pub off_high : (p : Placed) → Among p (list_of parent next) → s.name ≡ p.row.name → ⊥

pub topped : (parent : Option Ilk) (s : Occurrence) (below : Chains) (next : Twins) → Named parent (list_of parent (segment s below next)) → Topped parent s below next
topped parent s below next n =
    let low : List Placed = list_in (Some s.name) below in
    let high : List Placed = list_of parent next in
    let p = and_parts (list_all (apart (placed parent s)) (low ++ high)) (all_pairs apart (low ++ high)) n.differ in
    let rest = parted parent low high (record { differ = p.1; fresh = λ q a. n.fresh q (inr a) }) in
    let off : (q : Placed) → Among q (low ++ high) → s.name ≡ q.row.name → ⊥ = λ q a e. apart_names (placed parent s).row q.row (among_passes (apart (placed parent s)) q (low ++ high) a p.0) e in
    record {
      low = record { differ = rest.front.differ; fresh = λ q a e. off q (among_left q low high a) (same_some s.name q.row.name e) };
      high = rest.back;
      across = rest.across;
      off_low = λ q a. off q (among_left q low high a);
      off_high = λ q a. off q (among_right q low high a);
    }

-- rows below a segment have another parent than its twins and what is below these
pub strangers : (parent : Option Ilk) (s : Occurrence) (below : Chains) (next : Twins) → Named parent (list_of parent (segment s below next)) → (p q : Placed) → Among p (list_in (Some s.name) below) → Among q (list_of parent next)
    → p.row.parent ≡ q.row.parent → ⊥
strangers parent s below next n p q a b e = by (under_in (Some s.name) below p a) (under parent next q b)
  where
    t : Topped parent s below next
    t = topped parent s below next n

    by : Under (Some s.name) (list_in (Some s.name) below) p → Under parent (list_of parent next) q → ⊥
    by (Top f) (Top g) = n.fresh (placed parent s) (inl refl) (sym g ∙ sym e ∙ f)
    by (Top f) (Inner y m g) = t.off_high y m (same_some s.name y.row.name (sym f ∙ e ∙ g))
    by (Inner x l f) (Top g) = n.fresh x (inr (among_left x (list_in (Some s.name) below) (list_of parent next) l)) (sym g ∙ sym e ∙ f)
    by (Inner x l f) (Inner y m g) = t.across x y l m (same_some x.row.name y.row.name (sym f ∙ e ∙ g))

-- rows below a segment have another parent than it
pub not_above : (parent : Option Ilk) (s : Occurrence) (below : Chains) (next : Twins) → Named parent (list_of parent (segment s below next)) → (p : Placed) → Among p (list_in (Some s.name) below) → p.row.parent ≡ parent → ⊥
not_above parent s below next n p a e = by (under_in (Some s.name) below p a)
  where
    by : Under (Some s.name) (list_in (Some s.name) below) p → ⊥
    by (Top f) = n.fresh (placed parent s) (inl refl) (sym e ∙ f)
    by (Inner x l f) = n.fresh x (inr (among_left x (list_in (Some s.name) below) (list_of parent next) l)) (sym e ∙ f)

-- ---- tests of the rows of one parent

-- a test that each row of another parent passes looks at the segments of the chains alone
mutual
  pub heads_tell : (q : Placed → Bool) (parent : Option Ilk) (twins : Twins) → Named parent (list_of parent twins) → ((p : Placed) → Among p (list_of parent twins) → (p.row.parent ≡ parent → ⊥) → q p ≡ true)
      → list_all q (list_of parent twins) ≡ list_all (λ u. q (placed parent u)) (heads_of twins)
  heads_tell q parent no_segment n h = refl
  heads_tell q parent (segment s below next) n h =
      let low : List Placed = list_in (Some s.name) below in
      let high : List Placed = list_of parent next in
      let t = topped parent s below next n in
      let inner : list_all q low ≡ true = all_among q low (λ p a. h p (inr (among_left p low high a)) (not_above parent s below next n p a)) in
      ap (λ (b : Bool). q (placed parent s) && b)
      (list_all-append q low high ∙ ap (λ (b : Bool). b && list_all q high) inner ∙ heads_tell q parent next t.high (λ p a. h p (inr (among_right p low high a))))

  pub heads_tell_in : (q : Placed → Bool) (parent : Option Ilk) (chains : Chains) → Named parent (list_in parent chains) → ((p : Placed) → Among p (list_in parent chains) → (p.row.parent ≡ parent → ⊥) → q p ≡ true)
      → list_all q (list_in parent chains) ≡ list_all (λ u. q (placed parent u)) (heads_in chains)
  heads_tell_in q parent no_chain n h = refl
  heads_tell_in q parent (chain twins more) n h =
      let xs : List Placed = list_of parent twins in
      let ys : List Placed = list_in parent more in
      let d = parted parent xs ys n in
      list_all-append q xs ys ∙ ap (λ (b : Bool). b && list_all q ys) (heads_tell q parent twins d.front (λ p a. h p (among_left p xs ys a)))
      ∙ ap (λ (b : Bool). list_all (λ u. q (placed parent u)) (heads_of twins) && b) (heads_tell_in q parent more d.back (λ p a. h p (among_right p xs ys a)))
      ∙ sym (list_all-append (λ u. q (placed parent u)) (heads_of twins) (heads_in more))

-- a test of two rows that each two rows of two parents pass
abbrev pub IsOfSiblings : (Placed → Placed → Bool) → Type 0
IsOfSiblings t = (p q : Placed) → (p.row.parent ≡ q.row.parent → ⊥) → t p q ≡ true

abbrev mutual
  pub fits : (Placed → Placed → Bool) → Option Ilk → Twins → Bool
  fits t parent no_segment = true
  fits t parent (segment s below next) = list_all (λ u. t (placed parent s) (placed parent u)) (heads_of next) && (fits_in t (Some s.name) below && fits t parent next)

  pub fits_in : (Placed → Placed → Bool) → Option Ilk → Chains → Bool
  fits_in t parent no_chain = true
  fits_in t parent (chain twins more) = list_all (λ u. list_all (λ v. t (placed parent u) (placed parent v)) (heads_in more)) (heads_of twins) && (fits t parent twins && fits_in t parent more)

mutual
  pub pairs_of : (t : Placed → Placed → Bool) → IsOfSiblings t → (parent : Option Ilk) (twins : Twins) → Named parent (list_of parent twins) → all_pairs t (list_of parent twins) ≡ fits t parent twins
  pairs_of t of parent no_segment n = refl
  pairs_of t of parent (segment s below next) n =
      let low : List Placed = list_in (Some s.name) below in
      let high : List Placed = list_of parent next in
      let p : Placed = placed parent s in
      let d = topped parent s below next n in
      let inner : list_all (t p) low ≡ true = all_among (t p) low (λ q a. of p q (λ e. not_above parent s below next n q a (sym e))) in
      let first : list_all (t p) (low ++ high) ≡ list_all (λ u. t p (placed parent u)) (heads_of next) =
      list_all-append (t p) low high ∙ ap (λ (b : Bool). b && list_all (t p) high) inner ∙ heads_tell (t p) parent next d.high (λ q a apart. of p q (λ e. apart (sym e))) in
      let cross : list_all (λ x. list_all (t x) high) low ≡ true = all_among (λ x. list_all (t x) high) low (λ x a. all_among (t x) high (λ y b. of x y (strangers parent s below next n x y a b))) in
      ap (λ (b : Bool). b && all_pairs t (low ++ high)) first
      ∙ ap (λ (b : Bool). list_all (λ u. t p (placed parent u)) (heads_of next) && b)
      (pairs_append t low high ∙ ap (λ (b : Bool). b && (all_pairs t low && all_pairs t high)) cross ∙ ap (λ (b : Bool). b && all_pairs t high) (pairs_in t of (Some s.name) below d.low)
      ∙ ap (λ (b : Bool). fits_in t (Some s.name) below && b) (pairs_of t of parent next d.high))

  pairs_in : (t : Placed → Placed → Bool) → IsOfSiblings t → (parent : Option Ilk) (chains : Chains) → Named parent (list_in parent chains) → all_pairs t (list_in parent chains) ≡ fits_in t parent chains
  pairs_in t of parent no_chain n = refl
  pairs_in t of parent (chain twins more) n =
      let xs : List Placed = list_of parent twins in
      let ys : List Placed = list_in parent more in
      let d = parted parent xs ys n in
      let cross : list_all (λ x. list_all (t x) ys) xs ≡ list_all (λ u. list_all (λ v. t (placed parent u) (placed parent v)) (heads_in more)) (heads_of twins) =
      heads_tell (λ x. list_all (t x) ys) parent twins d.front (λ x a apart. all_among (t x) ys (λ y b. of x y (across d x y a b apart)))
      ∙ same_test (λ u. list_all (t (placed parent u)) ys) (λ u. list_all (λ v. t (placed parent u) (placed parent v)) (heads_in more))
      (λ u. heads_tell_in (t (placed parent u)) parent more d.back (λ y b apart. of (placed parent u) y (λ e. apart (sym e)))) (heads_of twins) in
      pairs_append t xs ys ∙ ap (λ (b : Bool). b && (all_pairs t xs && all_pairs t ys)) cross
      ∙ ap (λ (b : Bool). list_all (λ u. list_all (λ v. t (placed parent u) (placed parent v)) (heads_in more)) (heads_of twins) && (b && all_pairs t ys)) (pairs_of t of parent twins d.front)
      ∙ ap (λ (b : Bool). list_all (λ u. list_all (λ v. t (placed parent u) (placed parent v)) (heads_in more)) (heads_of twins) && (fits t parent twins && b)) (pairs_in t of parent more d.back)
    where
      -- a row that isn't of the parent has its parent in its own chain
      across : Parted parent (list_of parent twins) (list_in parent more) → (x y : Placed) → Among x (list_of parent twins) → Among y (list_in parent more) → (x.row.parent ≡ parent → ⊥) → x.row.parent ≡ y.row.parent → ⊥
      across d x y a b off e = by (under parent twins x a) (under_in parent more y b)
        where
          by : Under parent (list_of parent twins) x → Under parent (list_in parent more) y → ⊥
          by (Top f) u = off f
          by (Inner i l f) (Top g) = d.front.fresh i l (sym g ∙ sym e ∙ f)
          by (Inner i l f) (Inner j m g) = d.across i j l m (same_some i.row.name j.row.name (sym f ∙ e ∙ g))

-- ---- codes of the chains

-- each of these codes is followed by codes at least so high
abbrev pub Rising : List ℕ → Type 0
Rising [] = ⊤
Rising (code ∷ codes) = AllByRecursion (λ c. code ≤ c) codes × Rising codes

-- and by higher ones
abbrev pub Climbing : List ℕ → Type 0
Climbing [] = ⊤
Climbing (code ∷ codes) = AllByRecursion (λ c. suc code ≤ c) codes × Climbing codes

least : (n : ℕ) (codes : List ℕ) → AllByRecursion (λ c. suc n ≤ c) codes → AllByRecursion (λ c. n ≤ c) codes
least n [] h = tt
least n (c ∷ codes) h = let l = h.0 in (omega (arith, l), least n codes (h.1))

pub climbing_rises : (codes : List ℕ) → Climbing codes → Rising codes
climbing_rises [] h = tt
climbing_rises (code ∷ codes) h = (least code codes (h.0), climbing_rises codes (h.1))

abbrev codes_from : ℕ → ℕ → List SegType → List ℕ
codes_from code n ts = map (λ (p : ℕ × SegType). p.0) (filter (λ (p : ℕ × SegType). is_child code p.1) (enumerate_from n ts))

codes_climb : (code n : ℕ) (ts : List SegType) → AllByRecursion (λ c. n ≤ c) (codes_from code n ts) × Climbing (codes_from code n ts)
codes_climb code n [] = (tt, tt)
codes_climb code n (t ∷ ts) = by (is_child code t) (codes_climb code (n + 1) ts)
  where
    rest : List ℕ
    rest = codes_from code (n + 1) ts

    some : (codes : List ℕ) → AllByRecursion (λ c. n + 1 ≤ c) codes → AllByRecursion (λ c. suc n ≤ c) codes
    some [] h = tt
    some (c ∷ codes) h = let l = h.0 in (omega (arith, l), some codes (h.1))

    by : (b : Bool) → AllByRecursion (λ c. n + 1 ≤ c) (codes_from code (n + 1) ts) × Climbing (codes_from code (n + 1) ts)
        → AllByRecursion (λ c. n ≤ c) (map (λ (p : ℕ × SegType). p.0) (cond b ((n, t) ∷ filter (λ (p : ℕ × SegType). is_child code p.1) (enumerate_from (n + 1) ts)) (filter (λ (p : ℕ × SegType). is_child code p.1) (enumerate_from (n + 1) ts))))
        × Climbing (map (λ (p : ℕ × SegType). p.0) (cond b ((n, t) ∷ filter (λ (p : ℕ × SegType). is_child code p.1) (enumerate_from (n + 1) ts)) (filter (λ (p : ℕ × SegType). is_child code p.1) (enumerate_from (n + 1) ts))))
    by false h = (least n rest (some rest (h.0)), h.1)
    by true h = let s = some rest (h.0) in ((omega arith, least n rest s), (s, h.1))

pub children_climb : (types : List SegType) (code : ℕ) → Climbing (child_codes types code)
children_climb types code = (codes_climb code 1 types).1

pub ones_rise : (chains : Chains) → Rising (ones chains)
unfolding ones
ones_rise no_chain = tt
ones_rise (chain twins more) = (all more, ones_rise more)
  where
    all : (c : Chains) → AllByRecursion (λ n. 1 ≤ n) (ones c)
    all no_chain = tt
    all (chain u m) = (omega arith, all m)

-- the segments of a chain of a type have its code, those of chains of types codes of these
pub head_codes : (types : List SegType) (code : ℕ) (twins : Twins) → are_of types code twins ≡ true → (u : Occurrence) → Among u (heads_of twins) → u.code ≡ code
head_codes types code no_segment h u a = absurd a
head_codes types code (segment s below next) h u (inl e) = sym (ap (λ (o : Occurrence). o.code) e) ∙ (typed types code s below next h).code_is
head_codes types code (segment s below next) h u (inr a) = head_codes types code next (typed types code s below next h).later u a

pub heads_high : (types : List SegType) (n : ℕ) (codes : List ℕ) (chains : Chains) → are_chains_of types codes chains ≡ true → AllByRecursion (λ c. n ≤ c) codes → (u : Occurrence) → Among u (heads_in chains) → n ≤ u.code
heads_high types n [] no_chain h all u a = absurd a
heads_high types n [] (chain twins more) h all u a = absurd (false≢true h)
heads_high types n (code ∷ codes) no_chain h all u a = absurd a
heads_high types n (code ∷ codes) (chain twins more) h all u a =
    let p = and_parts (are_of types code twins) (are_chains_of types codes more) h in
    elim (among_append u (heads_of twins) (heads_in more) a) [ inl l ↦ (let low = all.0 in let e = head_codes types code twins p.0 u l in omega (arith, low, e)) | inr r ↦ heads_high types n codes more p.1 (all.1) u r ]

-- ---- children stand by their types

abbrev by_type : Placed → Placed → Bool
by_type p q = in_type_order p.row q.row

by_type_of : IsOfSiblings by_type
by_type_of p q off = type_order_from p.row q.row (λ e. absurd (off e))

mutual
  types_of : (types : List SegType) (parent : Option Ilk) (code : ℕ) (twins : Twins) → are_of types code twins ≡ true → fits by_type parent twins ≡ true
  types_of types parent code no_segment h = refl
  types_of types parent code (segment s below next) h =
      let t = typed types code s below next h in
      and_from (list_all (λ u. by_type (placed parent s) (placed parent u)) (heads_of next)) (fits_in by_type (Some s.name) below && fits by_type parent next)
      (all_among (λ u. by_type (placed parent s) (placed parent u)) (heads_of next)
      (λ u a. type_order_from (placed parent s).row (placed parent u).row (λ _. let e = head_codes types code next t.later u a in let f = t.code_is in omega (arith, e, f))))
      (and_from (fits_in by_type (Some s.name) below) (fits by_type parent next) (types_in types (Some s.name) (child_codes types code) below (climbing_rises (child_codes types code) (children_climb types code)) t.under) (types_of types parent code next t.later))

  types_in : (types : List SegType) (parent : Option Ilk) (codes : List ℕ) (chains : Chains) → Rising codes → are_chains_of types codes chains ≡ true → fits_in by_type parent chains ≡ true
  types_in types parent [] no_chain rise h = refl
  types_in types parent [] (chain twins more) rise h = absurd (false≢true h)
  types_in types parent (code ∷ codes) no_chain rise h = refl
  types_in types parent (code ∷ codes) (chain twins more) rise h =
      let p = and_parts (are_of types code twins) (are_chains_of types codes more) h in
      and_from (list_all (λ u. list_all (λ v. by_type (placed parent u) (placed parent v)) (heads_in more)) (heads_of twins)) (fits by_type parent twins && fits_in by_type parent more)
      (all_among (λ u. list_all (λ v. by_type (placed parent u) (placed parent v)) (heads_in more)) (heads_of twins)
      (λ u a. all_among (λ v. by_type (placed parent u) (placed parent v)) (heads_in more)
      (λ v b. type_order_from (placed parent u).row (placed parent v).row (λ _. let e = head_codes types code twins p.0 u a in let l = heads_high types code codes more p.1 (rise.0) v b in omega (arith, e, l)))))
      (and_from (fits by_type parent twins) (fits_in by_type parent more) (types_of types parent code twins p.0) (types_in types parent codes more (rise.1) p.1))

-- ---- twins stand by their keys

abbrev pub by_key : Schema → Placed → Placed → Bool
by_key schema p q = in_twin_order schema p.row q.row

pub by_key_of : (schema : Schema) → IsOfSiblings (by_key schema)
by_key_of schema p q off = twin_order_from schema p.row q.row (λ c e. absurd (off e))

-- of two segments of one chain the test is that of their keys
key_is : (schema : Schema) (parent : Option Ilk) (s u : Occurrence) → s.code ≡ u.code → by_key schema (placed parent s) (placed parent u) ≡ may_follow schema (row_of s) (row_of u)
key_is schema parent s u e = ap (λ (b : Bool). not b || may_follow schema (row_of s) (row_of u)) (twins_from (placed parent s).row (placed parent u).row e refl)

same_among : {X : Type 0} (p q : X → Bool) (xs : List X) → ((x : X) → Among x xs → p x ≡ q x) → list_all p xs ≡ list_all q xs
same_among p q [] h = refl
same_among p q (x ∷ xs) h = ap (λ (b : Bool). b && list_all p xs) (h x (inl refl)) ∙ ap (λ (b : Bool). q x && b) (same_among p q xs (λ y a. h y (inr a)))

and_regroup : (a b c : Bool) → (a && (b && c)) ≡ (a && b && c)
and_regroup true b c = refl
and_regroup false b c = refl

mutual
  pub keys_of : (schema : Schema) (parent : Option Ilk) (code : ℕ) (twins : Twins) → are_of schema.types code twins ≡ true → fits (by_key schema) parent twins ≡ twins_follow schema twins
  keys_of schema parent code no_segment h = refl
  keys_of schema parent code (segment s below next) h =
      let t = typed schema.types code s below next h in
      let own : list_all (λ u. by_key schema (placed parent s) (placed parent u)) (heads_of next) ≡ list_all (λ u. may_follow schema (row_of s) (row_of u)) (heads_of next) =
      same_among (λ u. by_key schema (placed parent s) (placed parent u)) (λ u. may_follow schema (row_of s) (row_of u)) (heads_of next) (λ u a. key_is schema parent s u (t.code_is ∙ sym (head_codes schema.types code next t.later u a))) in
      ap (λ (b : Bool). b && (fits_in (by_key schema) (Some s.name) below && fits (by_key schema) parent next)) own
      ∙ ap (λ (b : Bool). list_all (λ u. may_follow schema (row_of s) (row_of u)) (heads_of next) && (b && fits (by_key schema) parent next)) (keys_in schema (Some s.name) (child_codes schema.types code) below (children_climb schema.types code) t.under)
      ∙ ap (λ (b : Bool). list_all (λ u. may_follow schema (row_of s) (row_of u)) (heads_of next) && (twins_follow_in schema below && b)) (keys_of schema parent code next t.later)
      ∙ and_regroup (list_all (λ u. may_follow schema (row_of s) (row_of u)) (heads_of next)) (twins_follow_in schema below) (twins_follow schema next)

  keys_in : (schema : Schema) (parent : Option Ilk) (codes : List ℕ) (chains : Chains) → Climbing codes → are_chains_of schema.types codes chains ≡ true → fits_in (by_key schema) parent chains ≡ twins_follow_in schema chains
  keys_in schema parent [] no_chain climb h = refl
  keys_in schema parent [] (chain twins more) climb h = absurd (false≢true h)
  keys_in schema parent (code ∷ codes) no_chain climb h = refl
  keys_in schema parent (code ∷ codes) (chain twins more) climb h =
      let p = and_parts (are_of schema.types code twins) (are_chains_of schema.types codes more) h in
      let cross : list_all (λ u. list_all (λ v. by_key schema (placed parent u) (placed parent v)) (heads_in more)) (heads_of twins) ≡ true =
      all_among (λ u. list_all (λ v. by_key schema (placed parent u) (placed parent v)) (heads_in more)) (heads_of twins)
      (λ u a. all_among (λ v. by_key schema (placed parent u) (placed parent v)) (heads_in more)
      (λ v b. twin_order_from schema (placed parent u).row (placed parent v).row
      (λ same _. let e = head_codes schema.types code twins p.0 u a in let l = heads_high schema.types (suc code) codes more p.1 (climb.0) v b in absurd (omega (arith, e, l, same))))) in
      ap (λ (b : Bool). b && (fits (by_key schema) parent twins && fits_in (by_key schema) parent more)) cross ∙ ap (λ (b : Bool). b && fits_in (by_key schema) parent more) (keys_of schema parent code twins p.0)
      ∙ ap (λ (b : Bool). twins_follow schema twins && b) (keys_in schema parent codes more (climb.1) p.1)

-- ---- roots

abbrev rises : Schema → Occurrence → Occurrence → Bool
rises schema a b = is_lt (root_cmp schema (key_of schema a) (key_of schema b))

unique_roots : (schema : Schema) → IsKept schema → has_unique_key schema.types 1 ≡ true
unique_roots schema kept =
    let k = kept.root_key in
    ap (λ (o : Option SegType). option_map_or (λ (key : KeyField). key.unique) (option_and_then (λ (t : SegType). t.key) o) false) k.2 ∙ ap (λ (o : Option KeyField). option_map_or (λ (key : KeyField). key.unique) o false) k.3 ∙ k.4

pub root_follows : (schema : Schema) → IsKept schema → (a b : Occurrence) → a.code ≡ 1 → may_follow schema (row_of a) (row_of b) ≡ rises schema a b
root_follows schema kept a b e =
    let unique : has_unique_key schema.types a.code ≡ true = ap (has_unique_key schema.types) e ∙ unique_roots schema kept in
    ap (λ (c : Bool). cond c (is_lt (twin_cmp schema (row_of a) (row_of b))) (is_le (twin_cmp schema (row_of a) (row_of b)))) unique
    ∙ ap (λ (c : Bool). is_lt (cond c (root_cmp schema (key_of schema a) (key_of schema b)) (key_cmp (key_of schema a) (key_of schema b)))) (eq-eqb a.code 1 e)

chain_rises : (schema : Schema) → IsKept schema → (twins : Twins) → are_of schema.types 1 twins ≡ true → twins_follow schema twins ≡ true → all_pairs (rises schema) (heads_of twins) ≡ true
chain_rises schema kept no_segment h f = refl
chain_rises schema kept (segment s below next) h f =
    let t = typed schema.types 1 s below next h in
    let a = and_parts (list_all (λ u. may_follow schema (row_of s) (row_of u)) (heads_of next) && twins_follow_in schema below) (twins_follow schema next) f in
    let b = and_parts (list_all (λ u. may_follow schema (row_of s) (row_of u)) (heads_of next)) (twins_follow_in schema below) a.0 in
    and_from (list_all (rises schema s) (heads_of next)) (all_pairs (rises schema) (heads_of next))
    (sym (same_test (λ u. may_follow schema (row_of s) (row_of u)) (rises schema s) (λ u. root_follows schema kept s u t.code_is) (heads_of next)) ∙ b.0) (chain_rises schema kept next t.later a.1)

regroup : (x f r t h : Bool) → (f ≡ true → h ≡ true) → (x && (f && (r && t))) ≡ ((x && (h && r)) && (f && t))
regroup false f r t h i = refl
regroup true true r t h i = sym (ap (λ (b : Bool). (b && r) && t) (i refl))
regroup true false r t h i = by (h && r)
  where
    by : (b : Bool) → false ≡ (b && false)
    by true = refl
    by false = refl

pub root_codes : (types : List SegType) (chains : Chains) → are_roots types chains ≡ true → (u : Occurrence) → Among u (heads_in chains) → 1 ≡ u.code
root_codes types no_chain h u a = absurd a
root_codes types (chain twins more) h u a =
    let p = and_parts (are_of types 1 twins) (are_roots types more) h in
    elim (among_append u (heads_of twins) (heads_in more) a) [ inl l ↦ sym (head_codes types 1 twins p.0 u l) | inr r ↦ root_codes types more p.1 u r ]

roots_in : (schema : Schema) → IsKept schema → (chains : Chains) → are_roots schema.types chains ≡ true → fits_in (by_key schema) None chains ≡ (roots_rise schema (heads_in chains) && twins_follow_in schema chains)
roots_in schema kept no_chain h = refl
roots_in schema kept (chain twins more) h =
    let p = and_parts (are_of schema.types 1 twins) (are_roots schema.types more) h in
    let all : (u : Occurrence) → Among u (heads_in more) → 1 ≡ u.code = root_codes schema.types more p.1 in
    let cross : list_all (λ u. list_all (λ v. by_key schema (placed None u) (placed None v)) (heads_in more)) (heads_of twins) ≡ list_all (λ u. list_all (rises schema u) (heads_in more)) (heads_of twins) =
    same_among (λ u. list_all (λ v. by_key schema (placed None u) (placed None v)) (heads_in more)) (λ u. list_all (rises schema u) (heads_in more)) (heads_of twins)
    (λ u a. same_among (λ v. by_key schema (placed None u) (placed None v)) (rises schema u) (heads_in more)
    (λ v b. let e = head_codes schema.types 1 twins p.0 u a in key_is schema None u v (e ∙ all v b) ∙ root_follows schema kept u v e)) in
    ap (λ (b : Bool). b && (fits (by_key schema) None twins && fits_in (by_key schema) None more)) cross
    ∙ ap (λ (b : Bool). list_all (λ u. list_all (rises schema u) (heads_in more)) (heads_of twins) && (b && fits_in (by_key schema) None more)) (keys_of schema None 1 twins p.0)
    ∙ ap (λ (b : Bool). list_all (λ u. list_all (rises schema u) (heads_in more)) (heads_of twins) && (twins_follow schema twins && b)) (roots_in schema kept more p.1)
    ∙ regroup (list_all (λ u. list_all (rises schema u) (heads_in more)) (heads_of twins)) (twins_follow schema twins) (roots_rise schema (heads_in more)) (twins_follow_in schema more) (all_pairs (rises schema) (heads_of twins)) (chain_rises schema kept twins p.0)
    ∙ ap (λ (b : Bool). b && (twins_follow schema twins && twins_follow_in schema more)) (sym (pairs_append (rises schema) (heads_of twins) (heads_in more)))

pub named_roots : (trees : Chains) → all_pairs names_apart (rows_of (list_in None trees)) ≡ true → Named None (list_in None trees)
named_roots trees h = record { differ = sym (pairs_rows names_apart (list_in None trees)) ∙ h; fresh = λ p a e. absurd (none p e) }
  where
    none : (p : Placed) → None ≡ Some p.row.name → ⊥
    none p e = cc

pub siblings_rise : SchemasAreKept → SiblingsRise
siblings_rise kept schema trees typed names =
    let n = named_roots trees names in
    record {
      types = pairs_rows in_type_order (list_in None trees) ∙ pairs_in by_type by_type_of None trees n ∙ types_in schema.types None (ones trees) trees (ones_rise trees) (roots_typed schema.types trees typed);
      twins = pairs_rows (in_twin_order schema) (list_in None trees) ∙ pairs_in (by_key schema) (by_key_of schema) None trees n ∙ roots_in schema (kept schema) trees typed;
    }
