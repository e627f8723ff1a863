-- The body of an open journal.
use Rattle.std.specs.Prelude.{◌≡◌, ℕ, ◌+◌, ◌*◌, ◌≤◌, true, List, length}
use Rattle.block_journal.specs.Redo.{number_at, changes_at, journal_start, are_changes}

-- so many changes stand there in full; their numbers rise and are in range
pub record AreThere (at n count : ℕ) (image : List ℕ) : Type 0 where
  pub long : at + 4100 * n ≤ length image
  pub rise : are_changes 0 count (changes_at at n image) ≡ true

-- the body has at least one change, the number 1 behind their count, and all of its changes
pub record HasBody (first count : ℕ) (image : List ℕ) : Type 0 where
  pub some : 1 ≤ number_at (journal_start first count) image
  pub one : number_at (journal_start first count + 4) image ≡ 1
  pub there : AreThere (journal_start first count + 8) (number_at (journal_start first count) image) count image
