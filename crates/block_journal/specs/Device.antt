-- What a run of device calls makes of an image, where R is what it makes of each image that it finds.
use Rattle.std.specs.Prelude.{◌≡◌, ℕ, ◌≤◌, List, Option, None, Some}
use Rattle.hal_base.specs.Room.{HasRoom}
use Rattle.hal_base.specs.Stops.{LeavesOnly}

-- what was told stays told and is now what R makes of it; what wasn't told stays untold
pub record Became (R : List ℕ → List ℕ → Type 0) (old new : Option (List ℕ)) : Type 0 where
  pub told : (image : List ℕ) → old ≡ Some image → (after : List ℕ) × (new ≡ Some after) × R image after
  pub untold : old ≡ None → new ≡ None

-- what may be left: what R makes of the image that was told; and what was said before
abbrev pub MadeFrom : (List ℕ → List ℕ → Type 0) → (List ℕ → List ℕ → Type 0) → Option (List ℕ) → List ℕ → List ℕ → Type 0
MadeFrom R outcomes told image said = ((old : List ℕ) → told ≡ Some old → R old image) × ((was : List ℕ) × outcomes was said)

-- a stop within a run of calls leaves what P makes of what one at its start might have left
abbrev pub StopsLeave : {S : Type 0} → (S → ℕ) → (S → ℕ → List ℕ → List ℕ → Type 0) →
    ((List ℕ → List ℕ → Type 0) → List ℕ → List ℕ → Type 0) → S → S → Type 0
StopsLeave moment left_at P old new = LeavesOnly (moment old) (moment new) (left_at old) (left_at new) (P (left_at old (moment old)))

-- nothing is written from this byte on: where the site tells so much room, no fault is counted
abbrev pub FitsBelow : {S : Type 0} → (S → Option (ℕ × ℕ)) → (S → ℕ) → ℕ → S → S → Type 0
FitsBelow room disk_faults end old new = HasRoom (room old) (room new) (disk_faults old) (disk_faults new) (λ room. end ≤ room.0)

-- what a stop now leaves is the image that is told
pub record IsExact (image : Option (List ℕ)) (outcomes : List ℕ → List ℕ → Type 0) : Type 0 where
  pub only : (told : List ℕ) → image ≡ Some told → (bytes text : List ℕ) → outcomes bytes text → bytes ≡ told

-- calls that only read: all but the clock is as it was, and where the site tells a room no fault was counted
pub record Looks {S : Type 0} (image said : S → Option (List ℕ)) (moment : S → ℕ) (left_at : S → ℕ → List ℕ → List ℕ → Type 0)
    (disk_faults say_faults : S → ℕ) (room : S → Option (ℕ × ℕ)) (old new : S) : Type 0 where
  pub same : image new ≡ image old
  pub words : said new ≡ said old
  pub stops : LeavesOnly (moment old) (moment new) (left_at old) (left_at new) (left_at old (moment old))
  pub later : disk_faults old ≤ disk_faults new
  pub says : say_faults new ≡ say_faults old
  pub fits : HasRoom (room old) (room new) (disk_faults old) (disk_faults new) (λ room. 0 ≤ room.0)
