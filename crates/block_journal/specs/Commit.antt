-- What a commit begins and ends with, and what a stop within it may leave.
use Rattle.std.specs.Prelude.{◌≡◌, ◌⊎◌, ℕ, ◌+◌, ◌*◌, ◌≤◌, max, false, List, length, Option, Some}
use Rattle.block_journal.specs.Change.{Change}
use Rattle.block_journal.specs.Front.{KeepsFront}
use Rattle.block_journal.specs.Redo.{blocks_at, journal_start, is_open, put_all, redone}

-- the image has all its blocks, and its gate is closed
pub record IsSettled (first count : ℕ) (image : List ℕ) : Type 0 where
  pub long : journal_start first count ≤ length image
  pub closed : is_open image ≡ false

-- in every step of a commit: the redo is the blocks that were there, or these with the changes
pub record CommitMakes (first count : ℕ) (changes : List Change) (before image : List ℕ) : Type 0 where
  pub either :
      (redone first count image ≡ blocks_at first count before)
      ⊎ (redone first count image ≡ put_all changes (blocks_at first count before))
  pub front : KeepsFront first count before image

-- the blocks are those that were there, with the changes
pub record HasChanges (first count : ℕ) (changes : List Change) (before after : Option (List ℕ)) : Type 0 where
  pub has : (old : List ℕ) → before ≡ Some old →
      (new : List ℕ) × (after ≡ Some new) × IsSettled first count new × (blocks_at first count new ≡ put_all changes (blocks_at first count old))

-- the byte that nothing is written past
abbrev pub last_byte : ℕ → ℕ → ℕ
last_byte first count = journal_start first count + 512 + 4100 * max count 4096
