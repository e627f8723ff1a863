-- Counts of faults: they have 64 bits and never fall, and an answer that names a fault comes only where one rose.
use Rattle.std.specs.Prelude.{◌≡◌, ℕ, ◌+◌, ◌-◌, ◌^◌, ◌≤◌, min, Bool, true, false, Result, OnErr, IsErrOf}

-- the count rose; one that stands at its last value stays there
abbrev pub Rose : ℕ → ℕ → Type 0
Rose before now = min (before + 1) (2 ^ 64 - 1) ≤ now

-- the count doesn't fall in a call, and an error comes only where it rose
pub record HasCause {T E : Type 0} (before now : ℕ) (result : Result T E) : Type 0 where
  pub later : before ≤ now
  pub failed : OnErr result (Rose before now)

-- the count doesn't fall in a call, and this error comes only where it rose
pub record HasCauseFor {T E : Type 0} (before now : ℕ) (result : Result T E) (fault : E) : Type 0 where
  pub later : before ≤ now
  pub failed : IsErrOf result fault → Rose before now

-- A call of what may be used no more after a fault of its disk; `failed` says that this call answers the fault. The
-- count of faults doesn't fall, and the fault comes only where it rose; the object is live after every other answer,
-- and after the fault it isn't.
pub record Fails (failed : Type 0) (before now : ℕ) (live : Bool) : Type 0 where
  pub later : before ≤ now
  pub cause : failed → Rose before now
  pub alive : (failed → ⊥) → live ≡ true
  pub dead : failed → live ≡ false
