-- Paths by levels, carried along a list: what of the path so far is of a higher level than an item, and then the item itself.
use Rattle.std.specs.Prelude.{ℕ, nat_lt, List, [], ◌∷◌, ◌++◌, filter, flat_map}
use Rattle.hal_schema.specs.declared.row.Row.{Row}
use Rattle.hal_schema.specs.declared.schema.SegType.{SegType}
use Rattle.hal_schema.specs.Row.{row_level, row_key}

abbrev pub path_with : {X : Type 0} → (X → ℕ) → List X → X → List X
path_with level path x = filter (λ above. nat_lt (level above) (level x)) path ++ x ∷ []

-- the path that a list leaves, behind a path: that of its last item
abbrev pub path_after : {X : Type 0} → (X → ℕ) → List X → List X → List X
path_after level path [] = path
path_after level path (x ∷ xs) = path_after level (path_with level path x) xs

-- each item of a list with its path, behind a path
abbrev pub with_paths : {X : Type 0} → (X → ℕ) → List X → List X → List (List X × X)
with_paths level path [] = []
with_paths level path (x ∷ xs) = (path_with level path x, x) ∷ with_paths level (path_with level path x) xs

-- each row of a forest with its path: its root, the rows between, and the row itself
abbrev pub paths_of : List SegType → List Row → List (List Row × Row)
paths_of types rows = with_paths (row_level types) [] rows

-- the sequence fields along a path
abbrev pub concatenated_key : List SegType → List Row → List ℕ
concatenated_key types path = flat_map (row_key types) path
