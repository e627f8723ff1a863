-- What a changed pointer makes of a tree, as functions on trees.
use Rattle.std.specs.Prelude.{ℕ, zero, suc, ◌==◌, if◌then◌else◌, List}
use Rattle.record_walk.specs.Tree.{Occurrence, Twins, no_segment, segment, Chains, no_chain, chain}

-- where a pointer stands: the twin pointer of a segment, its pointer to the first child of a child type (types counted from 0), or a row of the root set
pub data Pointer : Type 0 where
  Behind : (prior : ℕ) → Pointer
  Below : (above place : ℕ) → Pointer
  Root : (place : ℕ) → Pointer

-- the chain at a place is another
abbrev pub with_chain : ℕ → (Twins → Twins) → Chains → Chains
with_chain place change no_chain = no_chain
with_chain zero change (chain twins more) = chain (change twins) more
with_chain (suc place) change (chain twins more) = chain twins (with_chain place change more)

-- the segment at a home gives way, with what is below it and its next twins
abbrev mutual
  pub at_home : ℕ → (Occurrence → Chains → Twins → Twins) → Twins → Twins
  at_home home change no_segment = no_segment
  at_home home change (segment s below next) = if s.home == home then change s below next else segment s (in_home home change below) (at_home home change next)

  pub in_home : ℕ → (Occurrence → Chains → Twins → Twins) → Chains → Chains
  in_home home change no_chain = no_chain
  in_home home change (chain twins more) = chain (at_home home change twins) (in_home home change more)

-- the twins behind a pointer are others
abbrev pub with_pointer : Pointer → (Twins → Twins) → Chains → Chains
with_pointer (Behind prior) change side = in_home prior (λ s below next. segment s below (change next)) side
with_pointer (Below above place) change side = in_home above (λ s below next. segment s (with_chain place change below) next) side
with_pointer (Root place) change side = with_chain place change side

-- so many pointers that lead nowhere
abbrev pub bare : ℕ → Chains
bare zero = no_chain
bare (suc count) = chain no_segment (bare count)

-- a new segment before the twins, with nothing below it
abbrev pub before_twins : Occurrence → ℕ → Twins → Twins
before_twins new kinds twins = segment new (bare kinds) twins

-- inserted where the pointer stands
abbrev pub with_segment : Pointer → Occurrence → ℕ → Chains → Chains
with_segment pointer new kinds side = with_pointer pointer (before_twins new kinds) side

-- the twins behind the first, which goes with all that is below it
abbrev pub behind_first : Twins → Twins
behind_first no_segment = no_segment
behind_first (segment s below next) = next

-- cut where the pointer stands
abbrev pub without_segment : Pointer → Chains → Chains
without_segment pointer side = with_pointer pointer behind_first side

-- the content of the segment at a home is another
abbrev pub with_content_at : ℕ → List ℕ → Chains → Chains
with_content_at home content side = in_home home (λ s below next. segment (record s { content = content }) below next) side
