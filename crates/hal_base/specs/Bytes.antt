-- Bytes of texts and of blocks.
use Rattle.std.specs.Prelude.{◌≡◌, ℕ, ◌+◌, ◌&&◌, Bool, nat_le, List, ◌++◌, length, take, drop}

-- these bytes stand from `at` on, and every other byte is as it was
abbrev pub Writes : List ℕ → List ℕ → ℕ → List ℕ → Type 0
Writes old new at bytes = new ≡ take at old ++ bytes ++ drop (at + length bytes) old

-- a blank to a tilde, as ASCII has them
abbrev pub is_printable : ℕ → Bool
is_printable b = nat_le 32 b && nat_le b 126
