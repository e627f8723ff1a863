-- What a stop may leave of a run: the blocks that something is kept in, and what was said.
use Rattle.std.specs.Prelude.{◌≡◌, ◌⊎◌, ℕ, ◌≤◌, List, [], ◌∷◌, ◌++◌, Option, Some, ⊤}
use Rattle.script_runs.specs.Language.{Step}

-- which blocks hold a state, and how many of them are free
pub record Keeping (S : Type 0) : Type 1 where
  pub holds : List (List ℕ) → S → Type 0
  pub free : List (List ℕ) → ℕ

-- within one event: before it is kept nothing of its text is said; from then on a prefix of it is
abbrev pub StopsIn : {S : Type 0} → Keeping S → S → List ℕ → Step S → List (List ℕ) → List ℕ → Type 0
StopsIn keeping start before step blocks words =
    (keeping.holds blocks start × (words ≡ before))
    ⊎ (keeping.holds blocks step.event.after × ((part rest : List ℕ) × (step.text ≡ part ++ rest) × (words ≡ before ++ part)))

-- at an end of these events or within one of them; what was said before them stands in front
abbrev pub IsStop : {S : Type 0} → Keeping S → S → List ℕ → List (Step S) → List (List ℕ) → List ℕ → Type 0
IsStop keeping start before [] blocks words = keeping.holds blocks start × (words ≡ before)
IsStop keeping start before (step ∷ steps) blocks words =
    StopsIn keeping start before step blocks words ⊎ IsStop keeping step.event.after (before ++ step.text) steps blocks words

-- where the state and what was said are told
abbrev pub StopsAmong : {S : Type 0} → Keeping S → Option S → Option (List ℕ) → List (Step S) → List (List ℕ) → List ℕ → Type 0
StopsAmong {S} keeping told said steps blocks words =
    (start : S) (before : List ℕ) → told ≡ Some start → said ≡ Some before → IsStop keeping start before steps blocks words

-- Each event has a moment, never falling, at which a stop leaves nothing but the state before it, with as many free
-- blocks as it is asked with.
abbrev pub IsOnSite : {S : Type 0} → Keeping S → (ℕ → List (List ℕ) → List ℕ → Type 0) → ℕ → ℕ → S → List (Step S) → Type 0
IsOnSite keeping at low high start [] = ⊤
IsOnSite keeping at low high start (step ∷ steps) =
    (m : ℕ) × (low ≤ m) × (m ≤ high)
    × ((blocks : List (List ℕ)) (words : List ℕ) → at m blocks words → keeping.holds blocks start × (keeping.free blocks ≡ step.event.asked.free))
    × IsOnSite keeping at m high step.event.after steps
