-- Trees hang where their cells stay.
use Rattle.std.proofs.Common.{◌≡◌, ℕ, ◌<◌, ◌≤◌, Option, Some, ◌∙◌, arith}
use Rattle.segment_blocks.specs.declared.tile.Cell.{Cell}
use Rattle.record_walk.specs.Tree.{Twins, no_segment, segment, Chains, no_chain, chain, cell_of, Hangs, HangIn, times, times_in}
use Rattle.record_walk.specs.Changes.{ChangesOutsideLeave}
use Rattle.record_walk.proofs.Homes.{here_itself}

-- each cell that is met within a bound stays
abbrev pub Stay : (ℕ → Option Cell) → (ℕ → Option Cell) → (ℕ → ℕ) → Type 0
Stay cells now bound = (home : ℕ) (cell : Cell) → cells home ≡ Some cell → 0 < bound home → now home ≡ cells home

mutual
  pub stays : (cells now : ℕ → Option Cell) (bound : ℕ → ℕ) → Stay cells now bound → (twins : Twins) → ((home : ℕ) → times home twins ≤ bound home) → Hangs cells twins → Hangs now twins
  stays cells now bound stay no_segment few h = tt
  stays cells now bound stay (segment s below next) few h =
      let own = here_itself s in
      let all = few s.home in (
        h.0,
        stay s.home (cell_of s below next) (h.1) (omega (arith, own, all)) ∙ h.1,
        stays_in cells now bound stay below (λ home. let f = few home in omega (arith, f)) (h.2),
        stays cells now bound stay next (λ home. let f = few home in omega (arith, f)) (h.3),
      )

  pub stays_in : (cells now : ℕ → Option Cell) (bound : ℕ → ℕ) → Stay cells now bound → (chains : Chains) → ((home : ℕ) → times_in home chains ≤ bound home) → HangIn cells chains → HangIn now chains
  stays_in cells now bound stay no_chain few h = tt
  stays_in cells now bound stay (chain twins more) few h =
      (stays cells now bound stay twins (λ home. let f = few home in omega (arith, f)) (h.0), stays_in cells now bound stay more (λ home. let f = few home in omega (arith, f)) (h.1))

pub changes_outside_leave : ChangesOutsideLeave
changes_outside_leave cells now trees h stay = stays_in cells now (λ home. times_in home trees) (λ home cell is m. stay home m) trees (λ home. omega arith) h
