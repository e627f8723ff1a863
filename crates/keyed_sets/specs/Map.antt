-- A set's rows as a map from key to body: a list whose keys rise, as the records of a VSAM key-sequenced data set stand.
use Rattle.std.specs.Prelude.{ℕ, ◌+◌, if◌then◌else◌, List, [], ◌∷◌, ◌++◌, length, take, drop, Option, None, Some, IsTrue, Contains, ⊤}
use Rattle.std.specs.List.{flat_map}
use Rattle.std.specs.Option.{option_or}
use Rattle.std.specs.Str.{bytes_eq}
use Rattle.keyed_sets.specs.declared.row.RowShape.{RowShape}
use Rattle.keyed_sets.specs.Layout.{Row, rows_in, is_below}

-- each key is below all those behind it
abbrev pub KeysRise : {X : Type 0} → (X → List ℕ) → List X → Type 0
KeysRise key [] = ⊤
KeysRise {X} key (x ∷ xs) = ((y : X) → Contains xs y → IsTrue (is_below (key x) (key y))) × KeysRise key xs

abbrev pub RowsRise : List Row → Type 0
RowsRise rows = KeysRise (λ (row : Row). row.0) rows

-- the body of the row of this key
abbrev pub lookup : List ℕ → List Row → Option (List ℕ)
lookup key [] = None
lookup key (row ∷ rows) = if bytes_eq (row.0) key then Some (row.1) else lookup key rows

-- the first row above this key; the first of all, where there is no key
abbrev pub first_above : List ℕ → List Row → Option Row
first_above key [] = None
first_above key (row ∷ rows) = if is_below key (row.0) then Some row else first_above key rows

abbrev pub next_after : Option (List ℕ) → List Row → Option Row
next_after None [] = None
next_after None (row ∷ rows) = Some row
next_after (Some key) rows = first_above key rows

-- the last row below this key
abbrev pub last_below : List ℕ → List Row → Option Row
last_below key [] = None
last_below key (row ∷ rows) = if is_below (row.0) key then option_or (last_below key rows) (Some row) else None

-- with this row in its place, and without any other of its key
abbrev pub with_row : Row → List Row → List Row
with_row row [] = row ∷ []
with_row row (next ∷ rows) = if is_below (next.0) (row.0) then next ∷ with_row row rows else (if is_below (row.0) (next.0) then row ∷ next ∷ rows else row ∷ rows)

-- without the row of this key
abbrev pub without_row : List ℕ → List Row → List Row
without_row key [] = []
without_row key (row ∷ rows) = if bytes_eq (row.0) key then rows else row ∷ without_row key rows

-- a body with these bytes over its own, from an offset on
abbrev pub written_over : ℕ → List ℕ → List ℕ → List ℕ
written_over offset part body = take offset body ++ part ++ drop (offset + length part) body

-- rows in the order of their keys
abbrev pub in_order : List Row → List Row
in_order [] = []
in_order (row ∷ rows) = with_row row (in_order rows)

-- the rows of a set whose pages these are
abbrev pub rows_of : RowShape → List (List ℕ) → List Row
rows_of shape pages = in_order (flat_map (rows_in shape) pages)
