-- What the calls of a site do to its image, and what a stop may make of it between two syncs.
use Rattle.std.specs.Prelude.{◌≡◌, ℕ, ◌+◌, ◌-◌, ◌≤◌, min, max, List, ◌++◌, length, take, drop, replicate, Option, None, Some}

-- these bytes from `at` on; an image that ended before `at` gets zeros in between
abbrev pub written : ℕ → List ℕ → List ℕ → List ℕ
written at bytes image = take at image ++ replicate (at - length image) 0 ++ bytes ++ drop (at + length bytes) image

-- after a write of n bytes that was done in part: any bytes in its range and past the old end, the same elsewhere
pub record Torn (at n : ℕ) (old new : List ℕ) : Type 0 where
  pub before : take (min at (length old)) new ≡ take at old
  pub after : drop (at + n) new ≡ drop (at + n) old
  pub no_shorter : length old ≤ length new
  pub no_longer : length new ≤ max (length old) (at + n)

-- a write that failed left what it may leave done in part; what isn't told stays untold
pub record TearsTold (at n : ℕ) (old new : Option (List ℕ)) : Type 0 where
  pub torn : (image : List ℕ) → old ≡ Some image → (after : List ℕ) × (new ≡ Some after) × Torn at n image after
  pub untold : old ≡ None → new ≡ None
