-- When a call of a site in memory fails, and what that counts.
use Rattle.std.specs.Prelude.{◌≡◌, ◌↔◌, ℕ, ◌+◌, ◌-◌, ◌^◌, ◌<◌, min, Result, OnOk, OnErr, IsErr}

-- exactly where it would end past its room; its count of faults rises by one there, and nowhere else
pub record FailsPast {T E : Type 0} (room end before now : ℕ) (result : Result T E) : Type 0 where
  pub past : IsErr result ↔ (room < end)
  pub counted : OnErr result (now ≡ min (before + 1) (2 ^ 64 - 1))
  pub quiet : OnOk result (now ≡ before)

-- an error raises the count of faults by one, and nothing else does
pub record CountsFault {T E : Type 0} (before now : ℕ) (result : Result T E) : Type 0 where
  pub counted : OnErr result (now ≡ min (before + 1) (2 ^ 64 - 1))
  pub quiet : OnOk result (now ≡ before)
