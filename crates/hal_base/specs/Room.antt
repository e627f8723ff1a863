-- The room that a site may tell: the bytes that its image may have, and the bytes that it may say, without a fault.
use Rattle.std.specs.Prelude.{◌≡◌, ℕ, ◌≤◌, Option, Some}

-- a room that is told stays told, and is not made smaller; a call that fits it raises no fault
pub record HasRoom (old new : Option (ℕ × ℕ)) (before now : ℕ) (fits : ℕ × ℕ → Type 0) : Type 0 where
  pub stays : (room : ℕ × ℕ) → old ≡ Some room → (later : ℕ × ℕ) × (new ≡ Some later) × (room.0 ≤ later.0) × (room.1 ≤ later.1)
  pub quiet : (room : ℕ × ℕ) → old ≡ Some room → fits room → now ≡ before

-- the same of a store whose site has room for all that it writes: the number is that of the bytes to be said
pub record HasSayRoom (old new : Option ℕ) (before now : ℕ) (fits : ℕ → Type 0) : Type 0 where
  pub stays : (room : ℕ) → old ≡ Some room → (later : ℕ) × (new ≡ Some later) × (room ≤ later)
  pub quiet : (room : ℕ) → old ≡ Some room → fits room → now ≡ before
