-- What an opening makes of an image, and what a stop within it may leave.
use Rattle.std.specs.Prelude.{◌≡◌, ℕ, ◌<◌, ◌≤◌, true, List, length, slice_index, take, Option, Some}
use Rattle.block_journal.specs.Change.{Change}
use Rattle.block_journal.specs.Body.{HasBody}
use Rattle.block_journal.specs.Commit.{IsSettled}
use Rattle.block_journal.specs.Device.{MadeFrom}
use Rattle.block_journal.specs.Front.{KeepsFront}
use Rattle.block_journal.specs.Redo.{blocks_at, is_open, journal_of, journal_start, redone}

-- where the image ended before its last block did: the same bytes, and zeros behind them
abbrev pub IsFilled : ℕ → ℕ → List ℕ → List ℕ → Type 0
IsFilled first count old new = length old < journal_start first count → (i : ℕ) → slice_index new i ≡ slice_index old i

-- an image with an open journal of these changes
pub record IsToRedo (first count : ℕ) (changes : List Change) (image : List ℕ) : Type 0 where
  pub long : journal_start first count ≤ length image
  pub opened : is_open image ≡ true
  pub body : HasBody first count image
  pub journal : changes ≡ journal_of first count image

-- the image that is told now has as its blocks what the one before stood for, and one that was shorter is filled up with
-- zeros
pub record IsRedone (first count : ℕ) (before after : Option (List ℕ)) : Type 0 where
  pub has : (old : List ℕ) → before ≡ Some old →
      (new : List ℕ) × (after ≡ Some new) × IsSettled first count new × (blocks_at first count new ≡ redone first count old) × IsFilled first count old new

-- the image that is told now stands for the same blocks
pub record SameRedo (first count : ℕ) (before after : Option (List ℕ)) : Type 0 where
  pub has : (old : List ℕ) → before ≡ Some old → (new : List ℕ) × (after ≡ Some new) × (redone first count new ≡ redone first count old)

-- In every step of an opening: an image that had all its blocks stands for the same blocks, and its front is kept. A
-- shorter one is being filled up: its bytes are kept, and a stop may leave any behind them.
pub record RedoMakes (first count : ℕ) (old image : List ℕ) : Type 0 where
  pub whole : journal_start first count ≤ length old → (redone first count image ≡ redone first count old) × KeepsFront first count old image
  pub short : length old < journal_start first count → take (length old) image ≡ old

-- The first sync of an opening returned at this moment, or never where the moment lies behind the opening's end. Until
-- then a stop leaves what one at the start might have left, and from then on what an opening makes of the image that
-- was told.
pub record OpensAt (first count : ℕ) (told : Option (List ℕ)) (before now : ℕ)
    (past at : ℕ → List ℕ → List ℕ → Type 0) (synced : ℕ) : Type 0 where
  pub later : before ≤ now
  pub begun : before ≤ synced
  pub same : (m : ℕ) (image said : List ℕ) → m ≤ before → at m image said → past m image said
  pub until : (m : ℕ) (image said : List ℕ) → before < m → m ≤ now → m < synced → at m image said → past before image said
  pub since : (m : ℕ) (image said : List ℕ) → synced ≤ m → m ≤ now → at m image said →
      MadeFrom (RedoMakes first count) (past before) told image said

-- so it is of an opening on a site
abbrev pub OpensOver : {S : Type 0} → (S → Option (List ℕ)) → (S → ℕ) → (S → ℕ → List ℕ → List ℕ → Type 0) → ℕ → ℕ → S → S → ℕ → Type 0
OpensOver image moment left_at first count old new = OpensAt first count (image old) (moment old) (moment new) (left_at old) (left_at new)

-- the image that is told has an open gate, and no body behind its blocks
abbrev pub IsDamaged : ℕ → ℕ → Option (List ℕ) → Type 0
IsDamaged first count told = (image : List ℕ) → told ≡ Some image → (is_open image ≡ true) × (HasBody first count image → ⊥)

-- where its gate is open, it has a body
abbrev pub IsSound : ℕ → ℕ → Option (List ℕ) → Type 0
IsSound first count told = (image : List ℕ) → told ≡ Some image → is_open image ≡ true → HasBody first count image
