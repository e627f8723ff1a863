-- A block that was staged: its number, and its new bytes.
use Rattle.std.specs.Prelude.{ℕ, List}

abbrev pub Change : Type 0
Change = ℕ × List ℕ
