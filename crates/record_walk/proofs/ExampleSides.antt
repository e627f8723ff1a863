-- The sides of the example, and those that break a part.
use Rattle.std.proofs.Common.{◌≡◌, ℕ, ◌+◌, ◌<◌, ◌≤◌, ◌==◌, nat_lt, Bool, true, false, not, cond, ◌||◌, List, [], ◌∷◌, ◌++◌, map, get_or, Option, None, Some, refl, sym, ap, subst, ◌∙◌, arith, codes}
use Rattle.std.specs.Prelude.{find}
use Rattle.std.specs.List.{list_all, list_any}
use Rattle.std.specs.Option.{option_map, option_map_or}
use Rattle.std.proofs.lemmas.Bool.{eqb-true, eqb-false, ltb-true, and_parts, not-true, true≢false, false≢true}
use Rattle.segment_blocks.specs.declared.tile.Cell.{Cell}
use Rattle.hal_schema.specs.declared.schema.Schema.{Schema}
use Rattle.hal_schema.specs.Lawful.{all_differ}
use Rattle.record_walk.specs.Tree.{Occurrence, Twins, no_segment, segment, Chains, no_chain, chain, firsts_of, cell_of, HangIn, here, times, times_in, homes_of, homes_in}
use Rattle.record_walk.specs.Side.{RootRow, seen, IsSideOf}
use Rattle.record_walk.specs.Examples.{phidam, phdam, cells_in, example_cells, cell_at_home, at, r7, row, two_trees, one_tree, single, misplaced, shared, lost, two_roots, two_anchors, name_at, AreSides, IsNoSide, BreakAPart}
use Rattle.record_walk.proofs.Homes.{Stands}
use Rattle.record_walk.specs.OneProof.{unique_in}

-- ---- homes that differ are met once

unfoldable pub met : ℕ → List ℕ → ℕ
met home [] = 0
met home (x ∷ xs) = cond (x == home) 1 0 + met home xs

met_append : (home : ℕ) (xs ys : List ℕ) → met home (xs ++ ys) ≡ met home xs + met home ys
unfolding met
met_append home [] ys = omega arith
met_append home (x ∷ xs) ys = let e = met_append home xs ys in omega (arith, e)

here_is : (home : ℕ) (s : Occurrence) → here home s ≡ cond (s.home == home) 1 0
unfolding here
here_is home s = refl

mutual
  unfolding met

  times_met : (home : ℕ) (twins : Twins) → times home twins ≡ met home (homes_of twins)
  times_met home no_segment = refl
  times_met home (segment s below next) =
      let a = here_is home s in
      let b = times_met_in home below in
      let c = times_met home next in
      let d = met_append home (homes_in below) (homes_of next) in
      omega (arith, a, b, c, d)

  pub times_met_in : (home : ℕ) (chains : Chains) → times_in home chains ≡ met home (homes_in chains)
  times_met_in home no_chain = refl
  times_met_in home (chain twins more) =
      let a = times_met home twins in
      let b = times_met_in home more in
      let c = met_append home (homes_of twins) (homes_in more) in
      omega (arith, a, b, c)

none_met : (home : ℕ) (xs : List ℕ) → list_any (λ y. home == y) xs ≡ false → met home xs ≡ 0
unfolding met
none_met home [] h = refl
none_met home (x ∷ xs) h = by (home == x) refl h (λ q. none_met home xs q)
  where
    by : (b : Bool) → (home == x) ≡ b → (b || list_any (λ y. home == y) xs) ≡ false → (list_any (λ y. home == y) xs ≡ false → met home xs ≡ 0) → cond (x == home) 1 0 + met home xs ≡ 0
    by true e h rest = absurd (true≢false h)
    by false e h rest =
        let off : ◌≡◌ {A = ℕ} (cond (x == home) 1 0) 0 = ap (λ (c : Bool). cond {A = ℕ} c 1 0) (off_is (x == home) refl) in
        let z = rest h in
        omega (arith, off, z)
      where
        off_is : (c : Bool) → (x == home) ≡ c → (x == home) ≡ false
        off_is true q = absurd (eqb-false home x e (sym (eqb-true x home q)))
        off_is false q = q

few_met : (home : ℕ) (xs : List ℕ) → all_differ (λ a b. a == b) xs ≡ true → met home xs ≤ 1
unfolding met
few_met home [] h = omega arith
few_met home (x ∷ xs) h =
    let p = and_parts (not (list_any (λ b. x == b) xs)) (all_differ (λ a b. a == b) xs) h in
    by (x == home) refl (none_met x xs (not-true (list_any (λ b. x == b) xs) p.0)) (few_met home xs p.1)
  where
    by : (b : Bool) → (x == home) ≡ b → met x xs ≡ 0 → met home xs ≤ 1 → cond b 1 0 + met home xs ≤ 1
    by true e z few = let same = ap (λ (n : ℕ). met n xs) (eqb-true x home e) in omega (arith, same, z)
    by false e z few = omega (arith, few)

pub once_met : (home : ℕ) (chains : Chains) → all_differ (λ a b. a == b) (homes_in chains) ≡ true → times_in home chains ≤ 1
once_met home chains h =
    let a = times_met_in home chains in
    let b = few_met home (homes_in chains) h in
    omega (arith, a, b)

-- ---- each cell of a list that isn't copied is met

abbrev is_met : Chains → ℕ × Cell → Bool
is_met trees p = p.1.copied || nat_lt 0 (times_in p.0 trees)

all_met : (trees : Chains) (list : List (ℕ × Cell)) (home : ℕ) (cell : Cell) → list_all (is_met trees) list ≡ true → cells_in list home ≡ Some cell → cell.copied ≡ false → 0 < times_in home trees
all_met trees [] home cell h is kept = absurd (none is)
  where
    none : None ≡ Some cell → ⊥
    none e = cc
all_met trees (p ∷ list) home cell h is kept =
    let parts = and_parts (is_met trees p) (list_all (is_met trees) list) h in
    by (p.0 == home) refl is parts.0 (λ q. all_met trees list home cell parts.1 q kept)
  where
    by : (b : Bool) → (p.0 == home) ≡ b → option_map {T = ℕ × Cell} {U = Cell} (λ q. q.1) (cond b (Some p) (find (λ (q : ℕ × Cell). q.0 == home) list)) ≡ Some cell → is_met trees p ≡ true → (cells_in list home ≡ Some cell → 0 < times_in home trees) → 0 < times_in home trees
    by true e is one rest =
        let same : p.1 ≡ cell = ap (λ (o : Option Cell). option_map_or (λ c. c) o cell) is in
        let off : p.1.copied ≡ false = ap (λ (c : Cell). c.copied) same ∙ kept in
        let lt : nat_lt 0 (times_in p.0 trees) ≡ true = sym (ap (λ (b : Bool). b || nat_lt 0 (times_in p.0 trees)) off) ∙ one in
        subst (λ (n : ℕ). 0 < times_in n trees) (eqb-true p.0 home e) (ltb-true 0 (times_in p.0 trees) lt)
    by false e is one rest = rest is

pub some : (n : ℕ) → nat_lt 0 n ≡ true → 0 < n
some n h = ltb-true 0 n h

phidam_hangs : HangIn (seen false (cells_in (example_cells 144))) two_trees
phidam_hangs = (
  (
    some 16 refl,
    refl,
    (
      (some 32 refl, refl, ((some 64 refl, refl, tt, (some 48 refl, refl, tt, tt)), tt), (some 80 refl, refl, (tt, tt), tt)),
      ((some 112 refl, refl, tt, tt), tt),
    ),
    tt,
  ),
  ((some 96 refl, refl, (tt, (tt, tt)), tt), tt),
)

phdam_hangs : HangIn (seen true (cells_in (example_cells 96))) one_tree
phdam_hangs = (
  (
    some 16 refl,
    refl,
    (
      (some 32 refl, refl, ((some 64 refl, refl, tt, (some 48 refl, refl, tt, tt)), tt), (some 80 refl, refl, (tt, tt), tt)),
      ((some 112 refl, refl, tt, tt), tt),
    ),
    (some 96 refl, refl, (tt, (tt, tt)), tt),
  ),
  tt,
)

pub sides : AreSides
unfolding here
sides = record {
  phidam_side = record {
    walked = record {
      rows_lead = refl;
      rows_are_keyed = refl;
      hangs = phidam_hangs;
      typed = refl;
      once = λ home. once_met home two_trees refl;
      all_met = λ home cell is kept. all_met two_trees (example_cells 144) home cell refl is kept;
      roots_belong = refl;
      roots_are_rising = refl;
    };
    rows_are_used = refl;
  };
  phdam_side = record {
    walked = record {
      rows_lead = refl;
      rows_are_keyed = refl;
      hangs = phdam_hangs;
      typed = refl;
      once = λ home. once_met home one_tree refl;
      all_met = λ home cell is kept. all_met one_tree (example_cells 96) home cell refl is kept;
      roots_belong = refl;
      roots_are_rising = refl;
    };
    rows_are_used = refl;
  };
  walked = refl;
  names = refl;
  parents = refl;
  same_list = refl;
}

-- ---- what breaks a part

-- only these trees could make a side, and they don't
no_side : (schema : Schema) (cells : List (ℕ × Cell)) (rows : List RootRow) (trees : Chains) → HangIn (seen schema.phdam (cells_in cells)) trees → firsts_of trees ≡ map (λ row. row.home) rows
    → (IsSideOf schema 0 (cells_in cells) rows trees → ⊥) → IsNoSide schema cells rows
no_side schema cells rows trees hang first bad s =
    bad (subst (λ (c : Chains). IsSideOf schema 0 (cells_in cells) rows c) (unique_in (seen schema.phdam (cells_in cells)) (s.0) trees (s.1.walked.hangs) hang (s.1.walked.rows_lead ∙ sym first)) (s.1))

-- a cell that isn't copied stands where the first row leads
led : (cells : ℕ → Option Cell) (home : ℕ) (rest : List ℕ) (trees : Chains) → HangIn cells trees → firsts_of trees ≡ home ∷ rest → 0 < home → Stands cells home
led cells home rest no_chain h e lt = absurd (none e)
  where
    none : [] ≡ home ∷ rest → ⊥
    none q = cc
led cells home rest (chain no_segment more) h e lt = let z : 0 ≡ home = ap (λ (l : List ℕ). get_or l 0 0) e in absurd (omega (arith, z, lt))
led cells home rest (chain (segment s below next) more) h e lt =
    let z : s.home ≡ home = ap (λ (l : List ℕ). get_or l 0 0) e in
    record { cell = cell_of s below next; is = ap cells (sym z) ∙ h.0.1; kept = refl }

nothing_stands : (cell : Cell) → None ≡ Some cell → ⊥
nothing_stands cell e = cc

copied_stands : (one cell : Cell) → one.copied ≡ true → Some one ≡ Some cell → cell.copied ≡ false → ⊥
copied_stands one cell copied e kept = true≢false (sym copied ∙ ap (λ (o : Option Cell). option_map_or (λ c. c.copied) o false) e ∙ kept)

abbrev g1 : Twins
g1 = segment (at 48 3 (codes "g1")) no_chain no_segment

abbrev root : List ℕ → Chains
root content = chain (segment (at 16 1 content) (chain no_segment (chain no_segment no_chain)) no_segment) no_chain

pub break_a_part : BreakAPart
unfolding here
break_a_part = record {
  leads_astray = λ s. let there = led (seen false (cells_in (example_cells 0))) 20 (96 ∷ []) (s.0) (s.1.walked.hangs) (s.1.walked.rows_lead) (some 20 refl) in nothing_stands there.cell there.is;
  unused_row = no_side phidam (single 16 (codes "001aa")) (row (codes "000") 0 ∷ row (codes "001") 16 ∷ []) (chain no_segment (root (codes "001aa"))) (tt, ((some 16 refl, refl, (tt, (tt, tt)), tt), tt)) refl (λ s. false≢true s.rows_are_used);
  other_key = no_side phidam (single 16 (codes "001aa")) (row (codes "002") 16 ∷ []) (root (codes "001aa")) ((some 16 refl, refl, (tt, (tt, tt)), tt), tt) refl (λ s. false≢true s.walked.rows_are_keyed);
  other_anchor = no_side phdam (single 16 (codes "001aa")) (row (0 ∷ 0 ∷ 0 ∷ 0 ∷ []) 16 ∷ []) (root (codes "001aa")) ((some 16 refl, refl, (tt, (tt, tt)), tt), tt) refl (λ s. false≢true s.walked.rows_are_keyed);
  other_chain = no_side phdam two_anchors (row (0 ∷ 0 ∷ 0 ∷ 0 ∷ []) 96 ∷ [])
      (chain (segment (at 96 1 (codes "000bb")) (chain no_segment (chain no_segment no_chain)) (segment (at 16 1 (codes "001aa")) (chain no_segment (chain no_segment no_chain)) no_segment)) no_chain)
      ((some 96 refl, refl, (tt, (tt, tt)), (some 16 refl, refl, (tt, (tt, tt)), tt)), tt) refl (λ s. false≢true s.walked.rows_are_keyed);
  copied_is_met = λ s. let there = led (seen false (cells_in (example_cells 0))) 144 [] (s.0) (s.1.walked.hangs) (s.1.walked.rows_lead) (some 144 refl) in copied_stands (record { copied = true; code = 1; name = name_at 144; twin = 0; children = 32 ∷ 112 ∷ []; content = codes "000cc" }) there.cell refl there.is there.kept;
  wrong_type = no_side phidam misplaced (row (codes "001") 16 ∷ []) (chain (segment (at 16 1 (codes "001aa")) (chain no_segment (chain (segment (at 32 3 (codes "g1")) no_chain no_segment) no_chain)) no_segment) no_chain)
      ((some 16 refl, refl, (tt, ((some 32 refl, refl, tt, tt), tt)), tt), tt) refl (λ s. false≢true s.walked.typed);
  met_twice = no_side phidam shared (row (codes "001") 16 ∷ [])
      (chain (segment (at 16 1 (codes "001aa")) (chain (segment (at 32 2 (codes "01xx")) (chain g1 no_chain) (segment (at 80 2 (codes "01yy")) (chain g1 no_chain) no_segment)) (chain no_segment no_chain)) no_segment) no_chain)
      ((some 16 refl, refl, ((some 32 refl, refl, ((some 48 refl, refl, tt, tt), tt), (some 80 refl, refl, ((some 48 refl, refl, tt, tt), tt), tt)), (tt, tt)), tt), tt) refl
      (λ s. let two : 2 ≤ 1 = s.walked.once 48 in omega (arith, two));
  not_met = no_side phidam lost (row (codes "001") 16 ∷ []) (root (codes "001aa")) ((some 16 refl, refl, (tt, (tt, tt)), tt), tt) refl (λ s. let none : 0 < 0 = s.walked.all_met 112 ((cell_at_home 112 4 0 [] (codes "u")).1) refl refl in omega (arith, none));
  other_partition = no_side phidam (single 16 (codes "~~~aa")) (row (codes "~~~") 16 ∷ []) (root (codes "~~~aa")) ((some 16 refl, refl, (tt, (tt, tt)), tt), tt) refl (λ s. false≢true s.walked.roots_belong);
  falling = no_side phidam two_roots (row (codes "700") 96 ∷ row (codes "001") 16 ∷ []) (chain r7 (root (codes "001aa"))) ((some 96 refl, refl, (tt, (tt, tt)), tt), ((some 16 refl, refl, (tt, (tt, tt)), tt), tt)) refl (λ s. false≢true s.walked.roots_are_rising);
}
