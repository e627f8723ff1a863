-- Which blocks a data set has, where each block that was taken has the data set that it was taken for.
use Rattle.std.specs.Prelude.{ℕ, ◌+◌, ◌&&◌, Bool, ◌==◌, if◌then◌else◌, List, [], ◌∷◌}
use Rattle.hal_base.specs.declared.pages.SetId.{SetId}

unfoldable pub is_set : SetId → SetId → Bool
is_set a b = a.part == b.part && a.number == b.number && a.letter == b.letter

-- the numbers of its blocks, the first owner's being `at`
unfoldable pub places_of : SetId → ℕ → List SetId → List ℕ
places_of set at [] = []
places_of set at (owner ∷ owners) = if is_set owner set then at ∷ places_of set (at + 1) owners else places_of set (at + 1) owners

-- their contents
unfoldable pub pages_of : SetId → List SetId → List (List ℕ) → List (List ℕ)
pages_of set [] pages = []
pages_of set (owner ∷ owners) [] = []
pages_of set (owner ∷ owners) (page ∷ pages) = if is_set owner set then page ∷ pages_of set owners pages else pages_of set owners pages
