-- What calls of a site leave.
use Rattle.std.specs.Prelude.{◌≡◌, ℕ, ◌≤◌, List, Option}
use Rattle.hal_base.specs.Room.{HasRoom}
use Rattle.hal_base.specs.Stops.{LeavesOnly}

-- calls that only read: all but the clock is as it was, and where the site tells a room no fault was counted
pub record OnlyReads {S : Type 0} (image said : S → Option (List ℕ)) (moment : S → ℕ) (left_at : S → ℕ → List ℕ → List ℕ → Type 0)
    (disk_faults say_faults : S → ℕ) (room : S → Option (ℕ × ℕ)) (old new : S) : Type 0 where
  pub image_stays : image new ≡ image old
  pub said_stays : said new ≡ said old
  pub stops : LeavesOnly (moment old) (moment new) (left_at old) (left_at new) (left_at old (moment old))
  pub later : disk_faults old ≤ disk_faults new
  pub says : say_faults new ≡ say_faults old
  pub fits : HasRoom (room old) (room new) (disk_faults old) (disk_faults new) (λ room. 0 ≤ room.0)
