-- The way down a span, on the shelf.
use Rattle.std.proofs.Common.{◌≡◌, ◌≢◌, ℕ, zero, suc, ◌+◌, ◌*◌, ◌-◌, ◌<◌, ◌≤◌, true, false, List, [], ◌∷◌, ◌++◌, Option, None, Some, refl, sym, ap, subst, ◌∙◌, arith}
use Rattle.std.specs.Prelude.{IsSome, take}
use Rattle.std.specs.Option.{option_to_list}
use Rattle.std.proofs.lemmas.Bool.{false≢true}
use Rattle.hal_base.specs.declared.pages.SetId.{SetId}
use Rattle.hal_base.specs.ShelfCalls.{ShelfView, SameShelf}
use Rattle.segment_blocks.specs.declared.tile.Cell.{Cell}
use Rattle.free_space.specs.declared.side.SideCells.{SideCells}
use Rattle.free_space.specs.SideCalls.{StandsForSide, StaysOpenOn, Holds, IsTold, Turns, Finds, cells_of}
use Rattle.record_walk.specs.Tree.{Chains}
use Rattle.record_walk.specs.Side.{alone}
use Rattle.record_tree.specs.declared.descent.Fate.{Fate}
use Rattle.record_tree.specs.Descending.{CanHangAt, CanPend, ChangesCells, EndsAll, EndsCell, EndsSpanAt, HangsAt, Meets, Pend, ReadsSpanTwice, ReadsTwice, fate_of}
use Rattle.record_tree.proofs.CellFrames.{told_same, told_before, told_first, cells_as, cells_then, cells_fail}
use Rattle.record_tree.proofs.Descending.{Goes, Progress, begun, passed_none, passed_cell, next_of, stands_uncopied, finished, hangs_on, whole_span}
use Rattle.record_tree.proofs.Seen.{some_is}

-- ---- how far a descent has come

pub record Way (fate : Fate) (first pending : List ℕ) (cells now : SideCells) (steady : Type 0) (old new : ShelfView) : Type 0 where
  pub live : new.live ≡ true
  pub stays : StaysOpenOn cells now new
  pub leaves : ChangesCells cells steady ⊥ old new
  pub steps : ℕ
  pub cost : new.fetches ≤ old.fetches + 2 * steps
  pub goes : Turns cells now old new (Goes (fate_of fate) first pending steps)

pub way_begun : (fate : Fate) (first : List ℕ) (cells : SideCells) (steady : Type 0) (old : ShelfView) → old.live ≡ true → StandsForSide cells old → steady → Way fate first first cells cells steady old old
way_begun fate first cells steady old live stands is = record {
  live = live;
  stays = record { first = refl; letters = refl; shapes = refl; stands = stands };
  leaves = record {
    keeps = record { is_steady = is; takes = λ set kind. refl; faults = record { later = omega arith; cause = λ no. absurd no; alive = λ yes. live; dead = λ no. absurd no }; fetches = omega arith };
    pages = λ set apart. refl;
    places = λ set. refl;
    untold = λ set none. none;
    free = refl;
  };
  steps = 0;
  cost = omega arith;
  goes = λ told. (told, begun (fate_of fate) first (cells_of cells old));
}

pub way_none : (fate : Fate) (first front pending : List ℕ) (cells now : SideCells) (steady : Type 0) (old new : ShelfView) → pending ≡ front ++ 0 ∷ [] → Way fate first pending cells now steady old new → Way fate first front cells now steady old new
way_none fate first front pending cells now steady old new is way = record {
  live = way.live;
  stays = way.stays;
  leaves = way.leaves;
  steps = way.steps;
  cost = way.cost;
  goes = λ told.
      let g = way.goes told in
      (g.0, λ whole p. passed_none (fate_of fate) whole front way.steps (cells_of cells old) (cells_of now new) (subst (λ (l : List ℕ). Progress (fate_of fate) whole l way.steps (cells_of cells old) (cells_of now new)) is (g.1 whole p)));
}

-- what was told when the descent began
told_then : (fate : Fate) (first pending : List ℕ) (cells now : SideCells) (steady : Type 0) (old new : ShelfView) → Way fate first pending cells now steady old new → IsTold now new → IsTold cells old
told_then fate first pending cells now steady old new way told = told_first cells old new way.leaves cells.first (subst (λ (s : SetId). IsSome (new.pages s)) way.stays.first told)

pub way_holds : (fate : Fate) (first front pending : List ℕ) (at : ℕ) (cells now : SideCells) (steady : Type 0) (old new : ShelfView) → (IsTold cells old → CanPend (cells_of cells old) first) → pending ≡ front ++ at ∷ [] → at ≢ 0
    → Way fate first pending cells now steady old new → Holds now new at (λ cell. cell.copied ≡ false)
way_holds fate first front pending at cells now steady old new can is some way told =
    let was = told_then fate first pending cells now steady old new way told in
    let c = can was in
    let p = ((way.goes was).1) (c.0) (c.1) in
    let x = next_of (cells_of now new) front at p.rest some (subst (λ (l : List ℕ). Pend (cells_of now new) l p.rest) is p.pend) in
    (x.cell, x.is, stands_uncopied (cells_of now new) front at p.rest x)

pub way_met : {s t f : Type 0} (fate : Fate) (first front pending later : List ℕ) (at : ℕ) (cells now then : SideCells) (steady : Type 0) (old new newer : ShelfView) (own : Fate) → own ≡ fate → pending ≡ front ++ at ∷ [] → at ≢ 0 → Way fate first pending cells now s old new
    → StaysOpenOn now then newer → ChangesCells now t f new newer → (f → ⊥) → (s → t → steady) → newer.fetches ≤ new.fetches + 2 → Turns now then new newer (Meets (fate_of own) at front later) → Way fate first later cells then steady old newer
way_met fate first front pending later at cells now then steady old new newer own same is some way stays leaves fine both few meets = record {
  live = leaves.keeps.faults.alive fine;
  stays = record { first = stays.first ∙ way.stays.first; letters = stays.letters ∙ way.stays.letters; shapes = stays.shapes ∙ way.stays.shapes; stands = stays.stands };
  leaves = cells_fail cells (cells_then cells now way.stays.first way.leaves leaves both) fine (λ no. absurd no);
  steps = way.steps + 1;
  cost = let c = way.cost in omega (arith, c, few);
  goes = λ told.
      let g = way.goes told in
      let m = subst (λ (f : Fate). Turns now then new newer (Meets (fate_of f) at front later)) same meets g.0 in
      (m.0, λ whole p. passed_cell (fate_of fate) whole front later at way.steps (cells_of cells old) (cells_of now new) (cells_of then newer) some (subst (λ (l : List ℕ). Progress (fate_of fate) whole l way.steps (cells_of cells old) (cells_of now new)) is (g.1 whole p)) m.1);
}

pub way_done : (fate : Fate) (first pending : List ℕ) (cells now : SideCells) (steady : Type 0) (old new : ShelfView) → pending ≡ [] → Way fate first pending cells now steady old new → Turns cells now old new (EndsAll (fate_of fate) first)
way_done fate first pending cells now steady old new is way told =
    let g = way.goes told in
    (g.0, λ trees p. finished (fate_of fate) trees way.steps (cells_of cells old) (cells_of now new) (subst (λ (l : List ℕ). Progress (fate_of fate) trees l way.steps (cells_of cells old) (cells_of now new)) is (g.1 trees p)))

-- a page was read at most twice for each cell
pub way_few : (fate : Fate) (first pending : List ℕ) (cells now : SideCells) (steady : Type 0) (old new : ShelfView) → Way fate first pending cells now steady old new → ReadsTwice cells first old new
way_few fate first pending cells now steady old new way told trees p =
    let g = (way.goes told).1 trees p in
    let c = way.cost in
    let m = g.many in
    omega (arith, c, m)

-- and where the next one met a fault
pub way_few_more : (fate : Fate) (first front pending : List ℕ) (at : ℕ) (cells now : SideCells) (steady : Type 0) (old new newer : ShelfView) → pending ≡ front ++ at ∷ [] → at ≢ 0 → newer.fetches ≤ new.fetches + 2 → Way fate first pending cells now steady old new
    → ReadsTwice cells first old newer
way_few_more fate first front pending at cells now steady old new newer is some few way told trees p =
    let g = (way.goes told).1 trees p in
    let x = next_of (cells_of now new) front at g.rest some (subst (λ (l : List ℕ). Pend (cells_of now new) l g.rest) is g.pend) in
    let c = way.cost in
    let m = g.many in
    let n = x.many in
    omega (arith, c, few, m, n)

pub stays_then : (cells now then : SideCells) (new newer : ShelfView) → StaysOpenOn cells now new → StaysOpenOn now then newer → StaysOpenOn cells then newer
stays_then cells now then new newer first second = record { first = second.first ∙ first.first; letters = second.letters ∙ first.letters; shapes = second.shapes ∙ first.shapes; stands = second.stands }

-- nothing came from what is pending
pub none_pending : (list rest : List ℕ) (n : ℕ) (last : Option ℕ) → last ≡ None → list ≡ rest ++ option_to_list last → rest ≡ take (n - 1) list → (0 < n → IsSome last) → list ≡ []
none_pending list rest zero last none whole front some = whole ∙ ap (λ (l : List ℕ). l ++ option_to_list last) front ∙ ap (λ (o : Option ℕ). option_to_list o) none
none_pending list rest (suc n) last none whole front some = absurd (false≢true (subst (λ (o : Option ℕ). IsSome o) none (some (omega arith))))

-- ---- from the first cell on

pub first_holds : (cells : SideCells) (old mid : ShelfView) (at : ℕ) → SameShelf old mid → (IsTold cells old → CanHangAt (cells_of cells old) at) → Holds cells mid at (λ cell. cell.copied ≡ false)
first_holds cells old mid at same hangs told =
    let h = (hangs (told_before cells old mid same told)).1 in
    (h.cell, ap (λ (f : ℕ → Option Cell). f at) (cells_as cells old mid same) ∙ h.stands, h.uncopied)

-- the fate of the first cell, told of the cells before it was read
ends_first : (fate : Fate) (cells now : SideCells) (old mid new : ShelfView) (at : ℕ) → SameShelf old mid → EndsCell (fate_of fate) at (cells_of cells mid) (cells_of now new) → EndsCell (fate_of fate) at (cells_of cells old) (cells_of now new)
ends_first fate cells now old mid new at same e = subst (λ (f : ℕ → Option Cell). EndsCell (fate_of fate) at f (cells_of now new)) (cells_as cells old mid same) e

-- what is pending then
pend_as : (cells : SideCells) (old : ShelfView) (later : ℕ → Option Cell) (at : ℕ) (below : Chains) (cell : Cell) (pending : List ℕ) (h : HangsAt (cells_of cells old) at below) → cells_of cells old at ≡ Some cell → pending ≡ cell.children → Pend later h.cell.children below → Pend later pending below
pend_as cells old later at below cell pending h is same p = subst (λ (l : List ℕ). Pend later l below) (ap (λ (c : Cell). c.children) (some_is h.cell cell (sym h.stands ∙ is)) ∙ sym same) p

pub first_pends : (fate : Fate) (cells now : SideCells) (old mid new : ShelfView) (at : ℕ) (cell : Cell) (pending : List ℕ) → SameShelf old mid → (IsTold cells old → CanHangAt (cells_of cells old) at) → Finds cells old at (Some cell) → pending ≡ cell.children
    → Turns cells now mid new (EndsCell (fate_of fate) at) → (IsTold now new → IsTold cells old) → IsTold now new → CanPend (cells_of now new) pending
first_pends fate cells now old mid new at cell pending same hangs found is turns back told =
    let was = back told in
    let (below, h) = hangs was in
    let t = turns (told_same cells old mid same was) in
    (below, pend_as cells old (cells_of now new) at below cell pending h (found was) is (hangs_on (fate_of fate) at below (cells_of cells old) (cells_of now new) h (ends_first fate cells now old mid new at same t.1)))

pub span_ends : (fate : Fate) (cells now then : SideCells) (old mid new newer : ShelfView) (at : ℕ) (cell : Cell) (pending : List ℕ) → SameShelf old mid → Finds cells old at (Some cell) → pending ≡ cell.children → Turns cells now mid new (EndsCell (fate_of fate) at)
    → Turns now then new newer (EndsAll (fate_of fate) pending) → Turns cells then old newer (EndsSpanAt (fate_of fate) at)
span_ends fate cells now then old mid new newer at cell pending same found is first rest told =
    let t = first (told_same cells old mid same told) in
    let r = rest t.0 in
    let e = ends_first fate cells now old mid new at same t.1 in (
      r.0,
      λ below h. whole_span (fate_of fate) at below (cells_of cells old) (cells_of now new) (cells_of then newer) h e
          (r.1 below (pend_as cells old (cells_of now new) at below cell pending h (found told) is (hangs_on (fate_of fate) at below (cells_of cells old) (cells_of now new) h e))),
    )

-- ---- one cell

pub holds_same : (cells : SideCells) (old mid : ShelfView) (at : ℕ) (P : Cell → Type 0) → SameShelf old mid → Holds cells old at P → Holds cells mid at P
holds_same cells old mid at P same holds told =
    let (cell, there, own) = holds (told_before cells old mid same told) in
    (cell, ap (λ (f : ℕ → Option Cell). f at) (cells_as cells old mid same) ∙ there, own)

pub meets_of : (fate : Fate) (cells now : SideCells) (old mid new : ShelfView) (at : ℕ) (cell : Cell) (pending later : List ℕ) → SameShelf old mid → Finds cells old at (Some cell) → later ≡ (pending ++ (alone cell).twin ∷ []) ++ cell.children
    → Turns cells now mid new (EndsCell (fate_of fate) at) → Turns cells now old new (Meets (fate_of fate) at pending later)
meets_of fate cells now old mid new at cell pending later same found is turns told =
    let t = turns (told_same cells old mid same told) in (
      t.0,
      record {
        ends = ends_first fate cells now old mid new at same t.1;
        put_off = λ other there. is ∙ ap (λ (c : Cell). (pending ++ (alone c).twin ∷ []) ++ c.children) (some_is cell other (sym (found told) ∙ there));
      },
    )

-- what is told now was told before
pub told_from : {s f : Type 0} (cells now : SideCells) (old mid new : ShelfView) → SameShelf old mid → ChangesCells cells s f mid new → now.first ≡ cells.first → IsTold now new → IsTold cells old
told_from cells now old mid new same changes first told = told_before cells old mid same (told_first cells mid new changes cells.first (subst (λ (s : SetId). IsSome (new.pages s)) first told))

-- ---- what it costs

-- the first cell, and then all below it
pub span_few : (fate : Fate) (cells now : SideCells) (old mid new newer : ShelfView) (at : ℕ) (cell : Cell) (pending : List ℕ) → SameShelf old mid → Finds cells old at (Some cell) → pending ≡ cell.children → Turns cells now mid new (EndsCell (fate_of fate) at)
    → mid.fetches ≤ old.fetches + 1 → new.fetches ≤ mid.fetches + 1 → ReadsTwice now pending new newer → ReadsSpanTwice cells at old newer
span_few fate cells now old mid new newer at cell pending same found is first one two rest told below h =
    let t = first (told_same cells old mid same told) in
    let e = ends_first fate cells now old mid new at same t.1 in
    let all = rest t.0 below (pend_as cells old (cells_of now new) at below cell pending h (found told) is (hangs_on (fate_of fate) at below (cells_of cells old) (cells_of now new) h e)) in
    omega (arith, one, two, all)

-- it met a fault before
pub span_begun : (cells : SideCells) (at : ℕ) (old new : ShelfView) → new.fetches ≤ old.fetches + 2 → ReadsSpanTwice cells at old new
span_begun cells at old new few told below h = omega (arith, few)
