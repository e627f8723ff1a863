-- Homes that are met in trees.
use Rattle.std.proofs.Common.{◌≡◌, ℕ, zero, suc, ◌+◌, ◌<◌, ◌==◌, Bool, true, false, cond, Option, Some, ◌⊎◌, inl, inr, refl, sym, ap, ◌∙◌, arith}
use Rattle.std.proofs.lemmas.Bool.{eqb-true, eq-eqb}
use Rattle.segment_blocks.specs.declared.tile.Cell.{Cell}
use Rattle.record_walk.specs.Tree.{Occurrence, Twins, no_segment, segment, Chains, no_chain, chain, cell_of, Hangs, HangIn, here, times, times_in}
use Rattle.record_walk.specs.Changes.{MetCellsStand}

pub here_at : (home : ℕ) (s : Occurrence) → (s.home == home) ≡ true → here home s ≡ 1
unfolding here
here_at home s e = ap (λ b. cond b 1 0) e

pub here_off : (home : ℕ) (s : Occurrence) → (s.home == home) ≡ false → here home s ≡ 0
unfolding here
here_off home s e = ap (λ b. cond b 1 0) e

pub here_itself : (s : Occurrence) → here s.home s ≡ 1
here_itself s = here_at s.home s (eq-eqb s.home s.home refl)

-- a segment is at the home, or isn't
pub at_or_off : (home : ℕ) (s : Occurrence) → ((s.home ≡ home) × (here home s ≡ 1)) ⊎ (here home s ≡ 0)
at_or_off home s = by (s.home == home) refl
  where
    by : (b : Bool) → (s.home == home) ≡ b → ((s.home ≡ home) × (here home s ≡ 1)) ⊎ (here home s ≡ 0)
    by true e = inl (eqb-true s.home home e, here_at home s e)
    by false e = inr (here_off home s e)

-- ---- a cell stands at each home that is met

pub record Stands (cells : ℕ → Option Cell) (home : ℕ) : Type 0 where
  pub cell : Cell
  pub is : cells home ≡ Some cell
  pub kept : cell.copied ≡ false

stands_at : (cells : ℕ → Option Cell) (home : ℕ) (s : Occurrence) (cell : Cell) → s.home ≡ home → cells s.home ≡ Some cell → cell.copied ≡ false → Stands cells home
stands_at cells home s cell e is kept = record { cell = cell; is = ap cells (sym e) ∙ is; kept = kept }

some_part : (a b c : ℕ) → 0 < a + (b + c) → a ≡ 0 → (0 < b) ⊎ (0 < c)
some_part a b c h e = by b refl
  where
    by : (n : ℕ) → b ≡ n → (0 < b) ⊎ (0 < c)
    by zero q = inr (omega arith)
    by (suc n) q = inl (omega arith)

some_of_two : (b c : ℕ) → 0 < b + c → (0 < b) ⊎ (0 < c)
some_of_two b c h = some_part 0 b c (omega arith) refl

mutual
  pub met_stands : (cells : ℕ → Option Cell) (home : ℕ) (twins : Twins) → Hangs cells twins → 0 < times home twins → Stands cells home
  met_stands cells home no_segment h m = absurd (omega arith)
  met_stands cells home (segment s below next) h m = at_part (at_or_off home s) (λ n. met_stands_in cells home below (h.2) n) (λ n. met_stands cells home next (h.3) n)
    where
      deeper : (0 < times_in home below → Stands cells home) → (0 < times home next → Stands cells home) → (0 < times_in home below) ⊎ (0 < times home next) → Stands cells home
      deeper f g (inl n) = f n
      deeper f g (inr n) = g n

      at_part : ((s.home ≡ home) × (here home s ≡ 1)) ⊎ (here home s ≡ 0) → (0 < times_in home below → Stands cells home) → (0 < times home next → Stands cells home) → Stands cells home
      at_part (inl p) f g = stands_at cells home s (cell_of s below next) (p.0) (h.1) refl
      at_part (inr e) f g = deeper f g (some_part (here home s) (times_in home below) (times home next) m e)

  pub met_stands_in : (cells : ℕ → Option Cell) (home : ℕ) (chains : Chains) → HangIn cells chains → 0 < times_in home chains → Stands cells home
  met_stands_in cells home no_chain h m = absurd (omega arith)
  met_stands_in cells home (chain twins more) h m = parts (λ n. met_stands cells home twins (h.0) n) (λ n. met_stands_in cells home more (h.1) n) (some_of_two (times home twins) (times_in home more) m)
    where
      parts : (0 < times home twins → Stands cells home) → (0 < times_in home more → Stands cells home) → (0 < times home twins) ⊎ (0 < times_in home more) → Stands cells home
      parts f g (inl n) = f n
      parts f g (inr n) = g n

pub met_cells_stand : MetCellsStand
met_cells_stand cells trees home h m = let s = met_stands_in cells home trees h m in (s.cell, s.is, s.kept)
