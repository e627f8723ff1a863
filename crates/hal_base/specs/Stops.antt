-- What a stop may leave. A history says, for each moment of a clock, which pairs of something kept and of said
-- bytes a stop at that moment might have left. It only grows: calls add moments, and change no earlier one.
use Rattle.std.specs.Prelude.{◌≡◌, ◌⊎◌, ℕ, ◌<◌, ◌≤◌, List, ◌++◌, Option, None, Some, ⊤}
use Rattle.std.specs.Io.KnownBytes.{append_known}
use Rattle.hal_base.specs.Disk.{Torn}

-- it is the one that is told; where none is told, it may be any
abbrev pub IsTold : {X : Type 0} → Option X → X → Type 0
IsTold None x = ⊤
IsTold (Some y) x = x ≡ y

-- A stop at a moment after `before`, up to `now`, leaves what has P; one at an earlier moment leaves what it
-- might have left in the past.
pub record LeavesOnly {X : Type 0} (before now : ℕ) (past at : ℕ → X → List ℕ → Type 0) (P : X → List ℕ → Type 0) : Type 0 where
  pub later : before ≤ now
  pub same : (m : ℕ) (kept : X) (said : List ℕ) → m ≤ before → at m kept said → past m kept said
  pub each : (m : ℕ) (kept : X) (said : List ℕ) → before < m → m ≤ now → at m kept said → P kept said

-- what is told is all that a stop at this moment leaves
pub record LeavesExactly {X : Type 0} (now : ℕ) (at : ℕ → X → List ℕ → Type 0) (kept : Option X) (said : Option (List ℕ)) : Type 0 where
  pub kept_is : (x : X) (s : List ℕ) → at now x s → IsTold kept x
  pub said_is : (x : X) (s : List ℕ) → at now x s → IsTold said s

-- one of these images, after a write of n bytes that was done in part, and the said bytes with it
abbrev pub TornFrom : (List ℕ → List ℕ → Type 0) → ℕ → ℕ → List ℕ → List ℕ → Type 0
TornFrom outcomes at n image said = (old : List ℕ) × outcomes old said × Torn at n old image

-- what was kept, with the said bytes and a front of the text
abbrev pub SaidFrom : {X : Type 0} → (X → List ℕ → Type 0) → List ℕ → X → List ℕ → Type 0
SaidFrom outcomes text kept said = (old part rest : List ℕ) × outcomes kept old × (text ≡ part ++ rest) × (said ≡ old ++ part)

-- what may be left of a commit: what was committed before, or the new one
abbrev pub CommitLeaves : {X : Type 0} → Option X → Option X → Option (List ℕ) → X → List ℕ → Type 0
CommitLeaves before after said kept text = (IsTold before kept ⊎ IsTold after kept) × IsTold said text

-- what may be left of a say: what was kept, and a front of the text as said
abbrev pub SayLeaves : {X : Type 0} → Option X → Option (List ℕ) → List ℕ → X → List ℕ → Type 0
SayLeaves kept said text x so_far = IsTold kept x × ((part rest : List ℕ) × (text ≡ part ++ rest) × IsTold (append_known said part) so_far)

-- the history of what is read off something kept
abbrev pub Read : {X Y : Type 0} → (X → Y) → (ℕ → X → List ℕ → Type 0) → ℕ → Y → List ℕ → Type 0
Read {X} {Y} f at m y s = (x : X) × at m x s × (y ≡ f x)
