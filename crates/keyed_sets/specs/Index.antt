-- What a set keeps in memory of its pages: the first key of each page that has rows, in the order of these keys, and the
-- numbers of the pages that have none.
use Rattle.std.specs.Prelude.{ℕ, ◌+◌, List, [], ◌∷◌, if◌then◌else◌}
use Rattle.keyed_sets.specs.declared.index.First.{First}
use Rattle.keyed_sets.specs.Layout.{Row, is_below}

-- in the order of the pages; the first page's number is `at`
abbrev pub numbered : ℕ → List (List Row) → List First
numbered at [] = []
numbered at ([] ∷ table) = numbered (at + 1) table
numbered at ((row ∷ rows) ∷ table) = record { key = row.0; page = at } ∷ numbered (at + 1) table

-- with this one in its place
abbrev pub with_first : First → List First → List First
with_first new [] = new ∷ []
with_first new (first ∷ firsts) = if is_below first.key new.key then first ∷ with_first new firsts else new ∷ first ∷ firsts

abbrev pub by_key : List First → List First
by_key [] = []
by_key (first ∷ firsts) = with_first first (by_key firsts)

abbrev pub firsts_of : List (List Row) → List First
firsts_of table = by_key (numbered 0 table)

-- the numbers of the pages that have no rows, the first page's being `at`
abbrev pub empty_numbers : ℕ → List (List Row) → List ℕ
empty_numbers at [] = []
empty_numbers at ([] ∷ table) = at ∷ empty_numbers (at + 1) table
empty_numbers at ((row ∷ rows) ∷ table) = empty_numbers (at + 1) table
