-- A control block with one of its rows written.
use Rattle.std.specs.Prelude.{◌≡◌, ℕ, ◌+◌, ◌*◌, ◌<◌, List, ◌++◌, take, drop, Some}
use Rattle.volume_image.specs.Header.{other_side}
use Rattle.std.specs.List.{slice_get}
use Rattle.hal_base.specs.declared.place.PartState.{PartState}

abbrev pub with_row : ℕ → List ℕ → List ℕ → List ℕ
with_row n row block = take (128 * n) block ++ row ++ drop (128 * n + 128) block

-- the state at this place is of the same partition and reorganization number
pub record KeepsNumber (states : List PartState) (place : ℕ) (s : PartState) : Type 0 where
  pub old : PartState
  pub is : slice_get states place ≡ Some old
  pub part : s.part ≡ old.part
  pub number : s.number ≡ old.number

-- the state at this place is of the same partition, and of a higher reorganization number
pub record RaisesNumber (states : List PartState) (place : ℕ) (s : PartState) : Type 0 where
  pub old : PartState
  pub is : slice_get states place ≡ Some old
  pub part : s.part ≡ old.part
  pub above : old.number < s.number

-- a reorganization is begun, goes on, pauses or is resumed: the number and the active side stay, and only an idle partition
-- is idle
pub record GoesOn (states : List PartState) (place : ℕ) (s : PartState) : Type 0 where
  pub old : PartState
  pub is : slice_get states place ≡ Some old
  pub part : s.part ≡ old.part
  pub number : s.number ≡ old.number
  pub side : s.side ≡ old.side
  pub idle : s.state ≡ 73 → old.state ≡ 73

-- a reorganization ends: the next number, and the other side is the active one
pub record Switches (states : List PartState) (place : ℕ) (s : PartState) : Type 0 where
  pub old : PartState
  pub is : slice_get states place ≡ Some old
  pub part : s.part ≡ old.part
  pub number : s.number ≡ old.number + 1
  pub side : s.side ≡ other_side old.side
