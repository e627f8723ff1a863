-- How a statement stands on lines of at most 71 bytes.
use Rattle.std.specs.Prelude.{ℕ, ◌-◌, ◌==◌, nat_le, if◌then◌else◌, List, [], ◌∷◌, ◌++◌, length}
use Rattle.std.specs.List.{onto_first}

-- a text in pieces, each up to and with its comma
unfoldable pub pieces : List ℕ → List (List ℕ)
pieces [] = []
pieces (b ∷ rest) = if b == 44 then (b ∷ []) ∷ pieces rest else onto_first b (pieces rest)

-- A piece goes on its line where that has room, which is the bytes left on it; else the line ends before the piece,
-- which stands on the next one behind a blank.
abbrev pub line_end : ℕ → ℕ → List ℕ
line_end room len = if nat_le len room then [] else 10 ∷ 32 ∷ []

abbrev pub room_behind : ℕ → ℕ → ℕ
room_behind room len = if nat_le len room then room - len else 70 - len

unfoldable pub on_lines : ℕ → List (List ℕ) → List ℕ
on_lines room [] = 10 ∷ []
on_lines room (piece ∷ more) = line_end room (length piece) ++ piece ++ on_lines (room_behind room (length piece)) more

unfoldable pub wrapped : List ℕ → List ℕ
wrapped statement = on_lines 71 (pieces statement)
