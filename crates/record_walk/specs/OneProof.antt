-- That cells and rows are a side has one proof, so that a type may keep it.
use Rattle.std.specs.Prelude.{◌≡◌, ℕ, ◌<◌, List, [], ◌∷◌, drop, get_or, Option, Some, refl, ⊤}
use Rattle.std.proofs.Common.{sym, ap, subst, ◌∙◌}
use Rattle.std.proofs.Math.Nat.{lt_irrefl}
use Rattle.std.specs.Coded.{le_prop, Coded-set, codes}
use Rattle.std.specs.Option.{option_map_or}
use Rattle.hal_schema.specs.declared.schema.Schema.{Schema}
use Rattle.segment_blocks.specs.declared.tile.Cell.{Cell}
use Rattle.record_walk.specs.Tree.{Occurrence, Twins, no_segment, segment, Chains, no_chain, chain, first_of, firsts_of, cell_of, Hangs, HangIn}
use Rattle.record_walk.specs.Side.{RootRow, seen, IsWalked, IsSideOf, IsSide}

mutual
  hangs : (cells : ℕ → Option Cell) (twins : Twins) → IsProp (Hangs cells twins)
  hangs cells no_segment = hlevel
  hangs cells (segment s below next) = hlevel (le_prop, Coded-set, codes, hang_in cells below, hangs cells next)

  hang_in : (cells : ℕ → Option Cell) (chains : Chains) → IsProp (HangIn cells chains)
  hang_in cells no_chain = hlevel
  hang_in cells (chain twins more) = hlevel (hangs cells twins, hang_in cells more)

walked : (schema : Schema) (place : ℕ) (cells : ℕ → Option Cell) (rows : List RootRow) (trees : Chains) → IsProp (IsWalked schema place cells rows trees)
walked schema place cells rows trees = hlevel (le_prop, Coded-set, codes, hang_in (seen schema.phdam cells) trees)

side_of : (schema : Schema) (place : ℕ) (cells : ℕ → Option Cell) (rows : List RootRow) (trees : Chains) → IsProp (IsSideOf schema place cells rows trees)
side_of schema place cells rows trees = hlevel (le_prop, Coded-set, codes, walked schema place cells rows trees)

-- ---- a pointer has one tree

-- two cells at one home are one, part by part
record SameCell (a b : Cell) : Type 0 where
  pub code : a.code ≡ b.code
  pub name : a.name ≡ b.name
  pub twin : a.twin ≡ b.twin
  pub children : a.children ≡ b.children
  pub content : a.content ≡ b.content

same_cell : (cells : ℕ → Option Cell) (at to : ℕ) (a b : Cell) → at ≡ to → cells at ≡ Some a → cells to ≡ Some b → SameCell a b
same_cell cells at to a b e f g =
    let one : Some a ≡ Some b = sym f ∙ ap cells e ∙ g in
    record {
      code = ap (λ (o : Option Cell). option_map_or (λ c. c.code) o 0) one;
      name = ap (λ (o : Option Cell). option_map_or (λ c. c.name) o a.name) one;
      twin = ap (λ (o : Option Cell). option_map_or (λ c. c.twin) o 0) one;
      children = ap (λ (o : Option Cell). option_map_or (λ c. c.children) o []) one;
      content = ap (λ (o : Option Cell). option_map_or (λ c. c.content) o []) one;
    }

same_segment : (s t : Occurrence) → s.home ≡ t.home → s.code ≡ t.code → s.name ≡ t.name → s.content ≡ t.content → s ≡ t
same_segment s t e f g h = λ i. record { home = e i; code = f i; name = g i; content = h i }

-- a list with a first home is not the empty one
abbrev IsSome : List ℕ → Type 0
IsSome [] = ⊥
IsSome (x ∷ xs) = ⊤

first_is : (a b : ℕ) (xs ys : List ℕ) → a ∷ xs ≡ b ∷ ys → a ≡ b
first_is a b xs ys e = ap (λ (l : List ℕ). get_or l 0 a) e

rest_is : (a b : ℕ) (xs ys : List ℕ) → a ∷ xs ≡ b ∷ ys → xs ≡ ys
rest_is a b xs ys e = ap (λ (l : List ℕ). drop 1 l) e

mutual
  pub unique : (cells : ℕ → Option Cell) (one other : Twins) → Hangs cells one → Hangs cells other → first_of one ≡ first_of other → one ≡ other
  unique cells no_segment no_segment h k e = refl
  unique cells no_segment (segment t below next) h k e = absurd (lt_irrefl 0 (subst (λ (n : ℕ). 0 < n) (sym e) (k.0)))
  unique cells (segment s below next) no_segment h k e = absurd (lt_irrefl 0 (subst (λ (n : ℕ). 0 < n) e (h.0)))
  unique cells (segment s below next) (segment t under later) h k e =
      let same = same_cell cells s.home t.home (cell_of s below next) (cell_of t under later) e (h.1) (k.1) in
      let segments : s ≡ t = same_segment s t e same.code same.name same.content in
      let belows : below ≡ under = unique_in cells below under (h.2) (k.2) same.children in
      let nexts : next ≡ later = unique cells next later (h.3) (k.3) same.twin in
      λ i. segment (segments i) (belows i) (nexts i)

  pub unique_in : (cells : ℕ → Option Cell) (one other : Chains) → HangIn cells one → HangIn cells other → firsts_of one ≡ firsts_of other → one ≡ other
  unique_in cells no_chain no_chain h k e = refl
  unique_in cells no_chain (chain twins more) h k e = absurd (subst IsSome (sym e) tt)
  unique_in cells (chain twins more) no_chain h k e = absurd (subst IsSome e tt)
  unique_in cells (chain twins more) (chain others rest) h k e =
      let chains : twins ≡ others = unique cells twins others (h.0) (k.0) (first_is (first_of twins) (first_of others) (firsts_of more) (firsts_of rest) e) in
      let mores : more ≡ rest = unique_in cells more rest (h.1) (k.1) (rest_is (first_of twins) (first_of others) (firsts_of more) (firsts_of rest) e) in
      λ i. chain (chains i) (mores i)

-- ---- a side has one proof

pub IsSide-prop : (schema : Schema) (place : ℕ) (cells : ℕ → Option Cell) (rows : List RootRow) → IsProp (IsSide schema place cells rows)
IsSide-prop schema place cells rows a b =
    let v = a.1.walked in
    let w = b.1.walked in
    let trees : a.0 ≡ b.0 = unique_in (seen schema.phdam cells) (a.0) (b.0) v.hangs w.hangs (v.rows_lead ∙ sym w.rows_lead) in
    subst (λ (u : Chains). (y : IsSideOf schema place cells rows u) → ◌≡◌ {A = IsSide schema place cells rows} (a.0, a.1) (u, y)) trees
    (λ y. ap (λ (z : IsSideOf schema place cells rows (a.0)). (a.0, z)) (side_of schema place cells rows (a.0) (a.1) y)) (b.1)

-- any two proofs that cells and rows are a side are equal
abbrev pub SidesHaveOneProof : Type 0
SidesHaveOneProof = (schema : Schema) (place : ℕ) (cells : ℕ → Option Cell) (rows : List RootRow) (a b : IsSide schema place cells rows) → a ≡ b
