-- The lines of a script, as functions of its whole text.
use Rattle.std.specs.Prelude.{ℕ, ◌==◌, List, [], ◌∷◌}
use Rattle.std.specs.List.{slice_split}
use Rattle.std.specs.Str.Lines.{strip_carriage_return}

-- what stands between the line ends, the part behind the last one too
abbrev pub parts_of : List ℕ → List (List ℕ)
parts_of text = slice_split (λ b. b == 10) text

abbrev pub ended_parts : List (List ℕ) → List (List ℕ)
ended_parts [] = []
ended_parts (part ∷ []) = []
ended_parts (part ∷ next ∷ more) = strip_carriage_return part ∷ ended_parts (next ∷ more)

abbrev pub last_part : List (List ℕ) → List ℕ
last_part [] = []
last_part (part ∷ []) = part
last_part (part ∷ next ∷ more) = last_part (next ∷ more)

-- the lines whose end is in the text, less the carriage return before it
abbrev pub ended_lines : List ℕ → List (List ℕ)
ended_lines text = ended_parts (parts_of text)

-- what stands behind the last line end
abbrev pub rest_of : List ℕ → List ℕ
rest_of text = last_part (parts_of text)
