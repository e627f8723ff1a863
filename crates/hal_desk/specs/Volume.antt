-- Which file the words of a command name, and whether the command makes it.
use Rattle.std.specs.Prelude.{ℕ, ◌||◌, Bool, false, List, [], ◌∷◌, codes}
use Rattle.std.specs.Str.{bytes_eq}

-- the second word; the empty path where there is none
abbrev pub path_of : List (List ℕ) → List ℕ
path_of [] = []
path_of (name ∷ []) = []
path_of (name ∷ volume ∷ more) = volume

-- a command that makes a volume makes an absent file
abbrev pub makes_file : List (List ℕ) → Bool
makes_file [] = false
makes_file (name ∷ more) = bytes_eq name (codes "define") || bytes_eq name (codes "make") || bytes_eq name (codes "exercise")
