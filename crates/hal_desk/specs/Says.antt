-- A command that says one line.
use Rattle.std.specs.Prelude.{ℕ, ◌≡◌, ◌⊎◌, ◌+◌, ◌≤◌, List, length, IsSomeAnd}
use Rattle.std.specs.Io.KnownBytes.{Appends}
use Rattle.hal_base.specs.Fault.{Rose}
use Rattle.hal_base.specs.Room.{HasRoom}
use Rattle.hal_base.specs.Said.{AppendsPart}
use Rattle.hal_base.specs.Stops.{LeavesOnly, SaidFrom}
use Rattle.hal_desk.specs.Outside.{SiteView, Untouched}

-- The line was said, with its status; or that say failed, with status 6; or memory ran out before it, with status 8.
abbrev pub LineEnds : List ℕ → ℕ → SiteView → SiteView → ℕ → Type 0
LineEnds line wanted old new status =
    ((status ≡ wanted) × Appends old.said new.said line)
    ⊎ ((status ≡ 6) × AppendsPart old.said new.said line × Rose old.say_faults new.say_faults)
    ⊎ ((status ≡ 8) × Untouched old new)

-- Whenever a stop comes, a prefix of the line was said; where the line fits the room, no say fails.
pub record SaysLine (line : List ℕ) (wanted : ℕ) (old new : SiteView) (status : ℕ) : Type 0 where
  pub ends : LineEnds line wanted old new status
  pub stops : LeavesOnly old.moment new.moment old.left_at new.left_at (SaidFrom (old.left_at old.moment) line)
  pub room : HasRoom old.room new.room old.say_faults new.say_faults (λ room. IsSomeAnd old.said (λ before. length before + length line ≤ room.1))
