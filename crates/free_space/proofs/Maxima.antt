-- A tree of maxima: a leaf that is put, twice as many leaves, and the way down to the first leaf that is large enough.
use Rattle.std.proofs.Common.{◌≡◌, ◌≢◌, ℕ, zero, suc, ◌+◌, ◌-◌, ◌*◌, ◌/◌, ◌^◌, ◌<◌, ◌≤◌, inl, inr, max, List, [], ◌∷◌, ◌++◌, length, get_or, map, take, drop, replicate, Some, refl, sym, ap, subst, ◌∙◌, arith}
use Rattle.std.specs.Prelude.{slice_get, slice_set}
use Rattle.std.specs.Option.{option_map}
use Rattle.std.proofs.Math.Nat.{pow-suc}
use Rattle.std.proofs.lemmas.Nat.{pow_pos, mul-le}
use Rattle.std.proofs.lemmas.Bool.{cases_lt, cases_eq}
use Rattle.std.proofs.lemmas.List.{get_or-set_same, get_or-set_other, get_or_past, length-set, length-map, map-set, map-append, length-append, drop_all, take_all, append-nil}
use Rattle.std.proofs.lemmas.Option.{slice_get-map, slice_get_within, get_or_from_slice_get}
use Rattle.segment_blocks.specs.declared.space.Space.{Space}
use Rattle.free_space.specs.Maxima.{AreMaxima, leaf_at, largest_at, IsTreeOf}
use Rattle.free_space.specs.Placing.{IsFirstWith}

abbrev largest : Space → ℕ
largest = λ space. space.largest

-- ---- the way down

twice : (node k : ℕ) → node * 2 ^ suc k ≡ 2 * node * 2 ^ k
twice node k = ap (λ (n : ℕ). node * n) (pow-suc 2 k) ∙ omega arith

at_least : (node k : ℕ) → node ≤ node * 2 ^ k
at_least node k = omega (arith, mul-le node 1 node (2 ^ k) (omega arith) (pow_pos k))

-- where a node is too small, so are the leaves below it
below : (k half : ℕ) (nodes : List ℕ) (node m len : ℕ) → AreMaxima half nodes → get_or nodes node 0 < len → 0 < node → node * 2 ^ k ≤ m → m < (node + 1) * 2 ^ k → m < half + half → get_or nodes m 0 < len
below zero half nodes node m len maxima small some low high within =
    let same : node ≡ m = omega (arith, low, high) in
    subst (λ (i : ℕ). get_or nodes i 0 < len) same small
below (suc k) half nodes node m len maxima small some low high within =
    let begins : node * 2 ^ suc k ≡ 2 * node * 2 ^ k = twice node k in
    let ends : (node + 1) * 2 ^ suc k ≡ 2 * (node + 1) * 2 ^ k = twice (node + 1) k in
    let inner : node < half = omega (arith, at_least (2 * node) k, begins, low, within) in
    let is = maxima node some inner in
    elim (cases_lt m ((2 * node + 1) * 2 ^ k)) [
      | inl left ↦ below k half nodes (2 * node) m len maxima (omega (arith, is, small)) (omega (arith, some)) (omega (arith, begins, low)) left within
      | inr right ↦ below k half nodes (2 * node + 1) m len maxima (omega (arith, is, small)) (omega (arith, some)) right (omega (arith, ends, high)) within
    ]

pub none_below : (height : ℕ) (nodes : List ℕ) (len : ℕ) → AreMaxima (2 ^ height) nodes → get_or nodes 1 0 < len → (k : ℕ) → k < 2 ^ height → leaf_at (2 ^ height) nodes k < len
none_below height nodes len maxima small k within =
    below height (2 ^ height) nodes 1 (2 ^ height + k) len maxima small (omega arith) (omega arith) (omega (arith, within)) (omega (arith, within))

-- all leaves before those of a node are too small, and one of its own isn't
pub record Descent (height : ℕ) (nodes : List ℕ) (len node : ℕ) : Type 0 where
  pub k : ℕ
  pub some : 0 < node
  pub reach : 2 ^ height ≤ node * 2 ^ k
  pub within : (node + 1) * 2 ^ k ≤ 2 ^ height + 2 ^ height
  pub here : len ≤ get_or nodes node 0
  pub left : (m : ℕ) → 2 ^ height ≤ m → m < node * 2 ^ k → get_or nodes m 0 < len

pub descent_begins : (height : ℕ) (nodes : List ℕ) (len : ℕ) → len ≤ get_or nodes 1 0 → Descent height nodes len 1
descent_begins height nodes len enough = record {
  k = height;
  some = omega arith;
  reach = omega arith;
  within = omega arith;
  here = enough;
  left = λ m low high. absurd (omega (arith, low, high));
}

go_left : (height : ℕ) (nodes : List ℕ) (len node k : ℕ) → 0 < node → 2 ^ height ≤ node * 2 ^ k → (node + 1) * 2 ^ k ≤ 2 ^ height + 2 ^ height
    → ((m : ℕ) → 2 ^ height ≤ m → m < node * 2 ^ k → get_or nodes m 0 < len) → node < 2 ^ height → len ≤ get_or nodes (2 * node) 0 → Descent height nodes len (2 * node)
go_left height nodes len node zero some reach within left inner enough = absurd (omega (arith, reach, inner))
go_left height nodes len node (suc k) some reach within left inner enough = record {
  k = k;
  some = omega (arith, some);
  reach = omega (arith, reach, twice node k);
  within = omega (arith, within, twice (node + 1) k);
  here = enough;
  left = λ m low high. left m low (omega (arith, high, twice node k));
}

go_right : (height : ℕ) (nodes : List ℕ) (len node k : ℕ) → AreMaxima (2 ^ height) nodes → 0 < node → 2 ^ height ≤ node * 2 ^ k → (node + 1) * 2 ^ k ≤ 2 ^ height + 2 ^ height
    → ((m : ℕ) → 2 ^ height ≤ m → m < node * 2 ^ k → get_or nodes m 0 < len) → node < 2 ^ height → len ≤ get_or nodes node 0 → get_or nodes (2 * node) 0 < len → Descent height nodes len (2 * node + 1)
go_right height nodes len node zero maxima some reach within left inner here small = absurd (omega (arith, reach, inner))
go_right height nodes len node (suc k) maxima some reach within left inner here small = record {
  k = k;
  some = omega arith;
  reach = omega (arith, reach, twice node k);
  within = omega (arith, within, twice (node + 1) k);
  here = omega (arith, maxima node some inner, here, small);
  left = λ m low high. elim (cases_lt m (node * 2 ^ suc k)) [
    | inl before ↦ left m low before
    | inr behind ↦ below k (2 ^ height) nodes (2 * node) m len maxima small (omega (arith, some)) (omega (arith, behind, twice node k)) high
        (omega (arith, high, within, twice (node + 1) k))
  ];
}

pub left_on : (height : ℕ) (nodes : List ℕ) (len node : ℕ) → Descent height nodes len node → node < 2 ^ height → len ≤ get_or nodes (2 * node) 0 → Descent height nodes len (2 * node)
left_on height nodes len node d inner enough = go_left height nodes len node d.k d.some d.reach d.within d.left inner enough

pub right_on : (height : ℕ) (nodes : List ℕ) (len node : ℕ) → AreMaxima (2 ^ height) nodes → Descent height nodes len node → node < 2 ^ height → get_or nodes (2 * node) 0 < len → Descent height nodes len (2 * node + 1)
right_on height nodes len node maxima d inner small = go_right height nodes len node d.k maxima d.some d.reach d.within d.left inner d.here small

pub left_step : (height half : ℕ) (nodes : List ℕ) (len node : ℕ) → half ≡ 2 ^ height → Descent height nodes len node → node < half → len ≤ get_or nodes (node * 2) 0 → Descent height nodes len (node * 2)
left_step height half nodes len node is d inner enough =
    let same : 2 * node ≡ node * 2 = omega arith in
    subst (Descent height nodes len) same (left_on height nodes len node d (omega (arith, inner, is)) (subst (λ (i : ℕ). len ≤ get_or nodes i 0) (sym same) enough))

pub right_step : (height half : ℕ) (nodes : List ℕ) (len node : ℕ) → half ≡ 2 ^ height → AreMaxima (2 ^ height) nodes → Descent height nodes len node → node < half → get_or nodes (node * 2) 0 < len
    → Descent height nodes len (node * 2 + 1)
right_step height half nodes len node is maxima d inner small =
    let same : 2 * node ≡ node * 2 = omega arith in
    subst (λ (i : ℕ). Descent height nodes len (i + 1)) same (right_on height nodes len node maxima d (omega (arith, inner, is)) (subst (λ (i : ℕ). get_or nodes i 0 < len) (sym same) small))

record IsFirstLeaf (half : ℕ) (nodes : List ℕ) (len n : ℕ) : Type 0 where
  pub within : n < half
  pub here : len ≤ leaf_at half nodes n
  pub before : (k : ℕ) → k < n → leaf_at half nodes k < len

leaf_from : (height : ℕ) (nodes : List ℕ) (len node k : ℕ) → (node + 1) * 2 ^ k ≤ 2 ^ height + 2 ^ height → len ≤ get_or nodes node 0
    → ((m : ℕ) → 2 ^ height ≤ m → m < node * 2 ^ k → get_or nodes m 0 < len) → 2 ^ height ≤ node → IsFirstLeaf (2 ^ height) nodes len (node - 2 ^ height)
leaf_from height nodes len node zero within here left outer =
    let same : node ≡ 2 ^ height + (node - 2 ^ height) = omega (arith, outer) in
    record {
      within = omega (arith, within, outer);
      here = subst (λ (i : ℕ). len ≤ get_or nodes i 0) same here;
      before = λ m low. left (2 ^ height + m) (omega arith) (omega (arith, low));
    }
leaf_from height nodes len node (suc k) within here left outer =
    absurd (omega (arith, within, outer, twice (node + 1) k, at_least (2 * (node + 1)) k))

-- ---- the pages that the leaves are those of

largest_is : (pages : List Space) (k : ℕ) (space : Space) → slice_get pages k ≡ Some space → largest_at pages k ≡ space.largest
largest_is pages k space is =
    get_or_from_slice_get (map largest pages) k (space.largest) 0 (slice_get-map largest pages k ∙ ap (option_map largest) is)

pub first_is : (height : ℕ) (nodes : List ℕ) (pages : List Space) (len node : ℕ) → IsTreeOf height nodes pages → 0 < len → Descent height nodes len node → 2 ^ height ≤ node → IsFirstWith pages len (node - 2 ^ height)
first_is height nodes pages len node tree some d outer =
    let first = leaf_from height nodes len node d.k d.within d.here d.left outer in
    let n : ℕ = node - 2 ^ height in
    let here : len ≤ largest_at pages n = omega (arith, first.here, tree.leaves n first.within) in
    let within : n < length pages =
    elim (cases_lt n (length pages)) [
      | inl fine ↦ fine
      | inr past ↦ absurd (omega (arith, here, some, get_or_past (map largest pages) n 0 (omega (arith, past, length-map pages largest))))
    ] in
    record {
      below = within;
      before = λ k space low is. omega (arith, first.before k low, tree.leaves k (omega (arith, low, first.within)), largest_is pages k space is);
      here = λ space is. omega (arith, here, largest_is pages n space is);
    }

pub none_first : (height : ℕ) (nodes : List ℕ) (pages : List Space) (len : ℕ) → IsTreeOf height nodes pages → get_or nodes 1 0 < len → (k : ℕ) (space : Space) → slice_get pages k ≡ Some space → space.largest < len
none_first height nodes pages len tree small k space is =
    let within : k < 2 ^ height = omega (arith, slice_get_within pages k space is, tree.fits) in
    omega (arith, none_below height nodes len tree.maxima small k within, tree.leaves k within, largest_is pages k space is)

-- ---- a leaf that is put

-- the nodes above `node` may be wrong still, all others are right
pub record Raised (half n room node : ℕ) (old nodes : List ℕ) : Type 0 where
  pub some : 0 < node
  pub within : node < half + half
  pub long : length nodes ≡ half + half
  pub maxima : (i : ℕ) → 0 < i → i < half → i ≢ node / 2 → get_or nodes i 0 ≡ max (get_or nodes (2 * i) 0) (get_or nodes (2 * i + 1) 0)
  pub here : leaf_at half nodes n ≡ room
  pub others : (k : ℕ) → k < half → k ≢ n → leaf_at half nodes k ≡ leaf_at half old k

same_max : (a b c x y z : ℕ) → a ≡ x → b ≡ y → c ≡ z → x ≡ max y z → a ≡ max b c
same_max a b c x y z e0 e1 e2 is = e0 ∙ is ∙ ap (λ (v : ℕ). max v z) (sym e1) ∙ ap (λ (v : ℕ). max b v) (sym e2)

pub raise_begins : (half n room : ℕ) (old : List ℕ) → length old ≡ half + half → n < half → AreMaxima half old → Raised half n room (half + n) old (slice_set old (half + n) room)
raise_begins half n room old long leaf maxima =
    let kept : (j : ℕ) → j ≢ half + n → get_or (slice_set old (half + n) room) j 0 ≡ get_or old j 0 = λ j apart. get_or-set_other old (half + n) j room 0 apart in
    record {
      some = omega (arith, leaf);
      within = omega (arith, leaf);
      long = length-set old (half + n) room ∙ long;
      maxima = λ i some inner apart. same_max _ _ _ _ _ _ (kept i (λ is. omega (arith, is, inner))) (kept (2 * i) (λ is. apart (omega (arith, is)))) (kept (2 * i + 1) (λ is. apart (omega (arith, is))))
          (maxima i some inner);
      here = get_or-set_same old (half + n) room 0 (omega (arith, long, leaf));
      others = λ k within apart. kept (half + k) (λ is. apart (omega (arith, is)));
    }

pub raise_on : (half n room node next top : ℕ) (old nodes : List ℕ) → n < half → Raised half n room node old nodes → 1 < node → next ≡ node / 2 → top ≡ max (get_or nodes (2 * next) 0) (get_or nodes (2 * next + 1) 0)
    → Raised half n room next old (slice_set nodes next top)
raise_on half n room node next top old nodes leaf r big is read =
    let inner : next < half = omega (arith, is, r.within) in
    let kept : (j : ℕ) → j ≢ next → get_or (slice_set nodes next top) j 0 ≡ get_or nodes j 0 = λ j apart. get_or-set_other nodes next j top 0 apart in
    record {
      some = omega (arith, is, big);
      within = omega (arith, inner);
      long = length-set nodes next top ∙ r.long;
      maxima = λ i some below_half apart. elim (cases_eq i next) [
        | inl same ↦ same_max _ _ _ _ _ _ (ap (λ (j : ℕ). get_or (slice_set nodes next top) j 0) same ∙ get_or-set_same nodes next top 0 (omega (arith, inner, r.long)))
            (kept (2 * i) (λ e. omega (arith, e, same, some)) ∙ ap (λ (j : ℕ). get_or nodes (2 * j) 0) same)
            (kept (2 * i + 1) (λ e. omega (arith, e, same, some)) ∙ ap (λ (j : ℕ). get_or nodes (2 * j + 1) 0) same) read
        | inr other ↦ same_max _ _ _ _ _ _ (kept i other) (kept (2 * i) (λ e. apart (omega (arith, e)))) (kept (2 * i + 1) (λ e. apart (omega (arith, e))))
            (r.maxima i some below_half (λ e. other (omega (arith, e, is))))
      ];
      here = kept (half + n) (λ e. omega (arith, e, inner)) ∙ r.here;
      others = λ k within apart. kept (half + k) (λ e. omega (arith, e, inner)) ∙ r.others k within apart;
    }

pub raise_ends : (half n room node : ℕ) (old nodes : List ℕ) → Raised half n room node old nodes → node ≤ 1 → AreMaxima half nodes
raise_ends half n room node old nodes r low i some inner = r.maxima i some inner (λ e. omega (arith, e, low, some))

-- ---- twice as many leaves

pub record Doubled (half n : ℕ) (old nodes : List ℕ) : Type 0 where
  pub long : length nodes ≡ half + half + (half + half)
  pub maxima : AreMaxima (half + half) nodes
  pub same : (k : ℕ) → k < n → leaf_at (half + half) nodes k ≡ leaf_at half old k
  pub empty : (k : ℕ) → n ≤ k → k < half + half → leaf_at (half + half) nodes k ≡ 0

abbrev zeros : ℕ → List ℕ
zeros count = replicate count 0

zeros_at : (count i : ℕ) → get_or (zeros count) i 0 ≡ 0
zeros_at zero i = refl
zeros_at (suc count) zero = refl
zeros_at (suc count) (suc i) = zeros_at count i

pub zeros_are : (half count : ℕ) (nodes : List ℕ) → nodes ≡ replicate count 0 → AreMaxima half nodes
zeros_are half count nodes is i some inner =
    same_max _ _ _ 0 0 0 (ap (λ (l : List ℕ). get_or l i 0) is ∙ zeros_at count i) (ap (λ (l : List ℕ). get_or l (2 * i) 0) is ∙ zeros_at count (2 * i))
    (ap (λ (l : List ℕ). get_or l (2 * i + 1) 0) is ∙ zeros_at count (2 * i + 1)) refl

pub doubled_begins : (half count : ℕ) (old nodes : List ℕ) → length nodes ≡ half + half + (half + half) → nodes ≡ replicate count 0 → Doubled half 0 old nodes
doubled_begins half count old nodes long is = record {
  long = long;
  maxima = zeros_are (half + half) count nodes is;
  same = λ k none. absurd (omega (arith, none));
  empty = λ k low within. ap (λ (l : List ℕ). get_or l (half + half + k) 0) is ∙ zeros_at count (half + half + k);
}

pub doubled_on : (half twice n room : ℕ) (old nodes new : List ℕ) → twice ≡ half + half → n < half → room ≡ get_or old (half + n) 0 → Doubled half n old nodes → length new ≡ length nodes → AreMaxima twice new
    → leaf_at twice new n ≡ room → ((k : ℕ) → k < twice → k ≢ n → leaf_at twice new k ≡ leaf_at twice nodes k) → Doubled half (n + 1) old new
doubled_on half two n room old nodes new is below_half read d long maxima here others = record {
  long = long ∙ d.long;
  maxima = subst (λ (h : ℕ). AreMaxima h new) is maxima;
  same = λ k low. elim (cases_eq k n) [
    | inl same ↦ ap (λ (h : ℕ). leaf_at h new k) (sym is) ∙ ap (leaf_at two new) same ∙ here ∙ read ∙ ap (leaf_at half old) (sym same)
    | inr apart ↦ ap (λ (h : ℕ). leaf_at h new k) (sym is) ∙ others k (omega (arith, low, below_half, is)) apart ∙ ap (λ (h : ℕ). leaf_at h nodes k) is
        ∙ d.same k (omega (arith, low, apart))
  ];
  empty = λ k low within. ap (λ (h : ℕ). leaf_at h new k) (sym is) ∙ others k (omega (arith, within, is)) (λ e. omega (arith, e, low)) ∙ ap (λ (h : ℕ). leaf_at h nodes k) is
      ∙ d.empty k (omega (arith, low)) within;
}

pub doubled_all : (half whole : ℕ) (nodes slice new : List ℕ) → half ≡ whole → slice ≡ nodes → length new ≡ half + half + (half + half) → AreMaxima (half + half) new
    → ((k : ℕ) → k < half → leaf_at (half + half) new k ≡ leaf_at half slice k) → ((k : ℕ) → half ≤ k → k < half + half → leaf_at (half + half) new k ≡ 0) → Doubled whole whole nodes new
doubled_all half whole nodes slice new is same long maxima leaves empty =
    let all : Doubled half half slice new = record { long = long; maxima = maxima; same = leaves; empty = empty } in
    subst (λ (l : List ℕ). Doubled whole whole l new) same (subst (λ (h : ℕ). Doubled h h slice new) is all)

-- a list that was passed as a slice, and written there
pub written : (len : ℕ) (slice new old : List ℕ) → slice ≡ old → length slice ≡ len → length new ≡ length slice → take len (new ++ drop (length new) old) ≡ new
written len slice new old same size long =
    ap (λ (l : List ℕ). take len (new ++ l)) (drop_all (length new) old (omega (arith, long, ap length same))) ∙ ap (take len) (append-nil new) ∙ take_all len new (omega (arith, long, size))

-- ---- the tree of the pages

pub tree_of_none : (pages : List Space) (nodes : List ℕ) → pages ≡ [] → nodes ≡ replicate 2 0 → IsTreeOf 0 nodes pages
tree_of_none pages nodes none is = record {
  long = ap length is;
  maxima = zeros_are 1 2 nodes is;
  fits = omega (arith, ap length none);
  leaves = λ k within. ap (λ (l : List ℕ). get_or l (1 + k) 0) is ∙ zeros_at 2 (1 + k) ∙ sym (ap (λ (l : List Space). largest_at l k) none ∙ get_or_past [] k 0 (omega arith));
}

pub tree_doubled : (height : ℕ) (pages now : List Space) (nodes new : List ℕ) → IsTreeOf height nodes pages → now ≡ pages → Doubled (2 ^ height) (2 ^ height) nodes new → IsTreeOf (height + 1) new now
tree_doubled height pages now nodes new tree same d =
    let two : 2 ^ height + 2 ^ height ≡ 2 ^ (height + 1) = omega (arith, pow-suc 2 height, ap (λ (n : ℕ). 2 ^ n) (let e : height + 1 ≡ suc height = omega arith in e)) in
    let half : ℕ = 2 ^ height + 2 ^ height in
    let leaves : (k : ℕ) → k < half → leaf_at half new k ≡ largest_at now k = λ k within.
    elim (cases_lt k (2 ^ height)) [
      | inl low ↦ d.same k low ∙ tree.leaves k low ∙ ap (λ (l : List Space). largest_at l k) (sym same)
      | inr high ↦ d.empty k high within ∙ sym (get_or_past (map largest now) k 0 (omega (arith, length-map now largest, ap length same, tree.fits, high)))
    ] in
    record {
      long = d.long ∙ ap (λ (n : ℕ). n + n) two;
      maxima = subst (λ (h : ℕ). AreMaxima h new) two d.maxima;
      fits = omega (arith, ap length same, tree.fits, two);
      leaves = subst (λ (h : ℕ). (k : ℕ) → k < h → leaf_at h new k ≡ largest_at now k) two leaves;
    }

-- one page has another number, the last one where it is new
tree_put : (height n : ℕ) (pages now : List Space) (space : Space) (nodes new : List ℕ) → IsTreeOf height nodes pages → n < 2 ^ height → length now ≤ 2 ^ height → length new ≡ length nodes → AreMaxima (2 ^ height) new
    → leaf_at (2 ^ height) new n ≡ space.largest → ((k : ℕ) → k < 2 ^ height → k ≢ n → leaf_at (2 ^ height) new k ≡ leaf_at (2 ^ height) nodes k)
    → largest_at now n ≡ space.largest → ((k : ℕ) → k ≢ n → largest_at now k ≡ largest_at pages k) → IsTreeOf height new now
tree_put height n pages now space nodes new tree leaf fits long maxima here others is apart = record {
  long = long ∙ tree.long;
  maxima = maxima;
  fits = fits;
  leaves = λ k within. elim (cases_eq k n) [
    | inl same ↦ ap (leaf_at (2 ^ height) new) same ∙ here ∙ sym is ∙ ap (largest_at now) (sym same)
    | inr other ↦ others k within other ∙ tree.leaves k within ∙ sym (apart k other)
  ];
}

pub tree_set : (height half n : ℕ) (pages now : List Space) (space : Space) (nodes new : List ℕ) → IsTreeOf height nodes pages → half ≡ 2 ^ height → n < length pages → now ≡ slice_set pages n space → length new ≡ length nodes → AreMaxima half new
    → leaf_at half new n ≡ space.largest → ((k : ℕ) → k < half → k ≢ n → leaf_at half new k ≡ leaf_at half nodes k) → IsTreeOf height new now
tree_set height half n pages now space nodes new tree is within set long maxima here others =
    let all : map largest now ≡ slice_set (map largest pages) n (space.largest) = ap (map largest) set ∙ map-set largest pages n space in
    let size : length (map largest pages) ≡ length pages = length-map pages largest in
    tree_put height n pages now space nodes new tree (omega (arith, within, tree.fits)) (omega (arith, ap length set, length-set pages n space, tree.fits)) long
    (subst (λ (h : ℕ). AreMaxima h new) is maxima) (ap (λ (h : ℕ). leaf_at h new n) (sym is) ∙ here)
    (λ k low apart. ap (λ (h : ℕ). leaf_at h new k) (sym is) ∙ others k (omega (arith, low, is)) apart ∙ ap (λ (h : ℕ). leaf_at h nodes k) is)
    (ap (λ (l : List ℕ). get_or l n 0) all ∙ get_or-set_same (map largest pages) n (space.largest) 0 (omega (arith, size, within)))
    (λ k apart. ap (λ (l : List ℕ). get_or l k 0) all ∙ get_or-set_other (map largest pages) n k (space.largest) 0 apart)

push_at : (xs : List ℕ) (x k : ℕ) → k ≢ length xs → get_or (xs ++ x ∷ []) k 0 ≡ get_or xs k 0
push_at [] x zero apart = absurd (apart refl)
push_at [] x (suc k) apart = refl
push_at (y ∷ xs) x zero apart = refl
push_at (y ∷ xs) x (suc k) apart = push_at xs x k (λ e. apart (ap suc e))

push_here : (xs : List ℕ) (x : ℕ) → get_or (xs ++ x ∷ []) (length xs) 0 ≡ x
push_here [] x = refl
push_here (y ∷ xs) x = push_here xs x

pub tree_push : (height half n : ℕ) (pages now : List Space) (space : Space) (nodes new : List ℕ) → IsTreeOf height nodes pages → half ≡ 2 ^ height → n ≡ length pages → n < 2 ^ height → now ≡ pages ++ space ∷ [] → length new ≡ length nodes
    → AreMaxima half new → leaf_at half new n ≡ space.largest → ((k : ℕ) → k < half → k ≢ n → leaf_at half new k ≡ leaf_at half nodes k) → IsTreeOf height new now
tree_push height half n pages now space nodes new tree is last within push long maxima here others =
    let all : map largest now ≡ map largest pages ++ space.largest ∷ [] = ap (map largest) push ∙ map-append largest pages (space ∷ []) in
    let size : n ≡ length (map largest pages) = last ∙ sym (length-map pages largest) in
    tree_put height n pages now space nodes new tree within (omega (arith, ap length push, length-append pages (space ∷ []), last, within)) long
    (subst (λ (h : ℕ). AreMaxima h new) is maxima) (ap (λ (h : ℕ). leaf_at h new n) (sym is) ∙ here)
    (λ k low apart. ap (λ (h : ℕ). leaf_at h new k) (sym is) ∙ others k (omega (arith, low, is)) apart ∙ ap (λ (h : ℕ). leaf_at h nodes k) is)
    (ap (λ (l : List ℕ). get_or l n 0) all ∙ ap (λ (i : ℕ). get_or (map largest pages ++ space.largest ∷ []) i 0) size ∙ push_here (map largest pages) (space.largest))
    (λ k apart. ap (λ (l : List ℕ). get_or l k 0) all ∙ push_at (map largest pages) (space.largest) k (λ e. apart (e ∙ sym size)))

-- a number is below its power, so few leaves make a low tree
pub below_power : (height : ℕ) → height < 2 ^ height
below_power zero = omega arith
below_power (suc height) = omega (arith, below_power height, pow-suc 2 height)
