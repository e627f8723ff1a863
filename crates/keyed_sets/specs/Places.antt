-- Where a row goes among the pages of a set, and how a full page splits.
use Rattle.std.specs.Prelude.{◌≡◌, ◌⊎◌, ℕ, ◌-◌, ◌/◌, ◌<◌, ◌||◌, not, Bool, true, false, if◌then◌else◌, List, [], ◌∷◌, length, take, drop, IsTrue, Contains, is_some, Option, IfSome, IsSomeAnd}
use Rattle.keyed_sets.specs.declared.row.RowShape.{RowShape}
use Rattle.keyed_sets.specs.Layout.{Row, is_below}
use Rattle.keyed_sets.specs.Map.{lookup, rows_of, with_row}
use Rattle.keyed_sets.specs.Rule.{capacity, tables, page_rows}
use Rattle.keyed_sets.specs.Changes.{placed, HasSpare}
use Rattle.keyed_sets.specs.Index.{empty_numbers}

-- A key goes to the first of two pages rather than to the second: to the one that begins higher of those that don't begin
-- above it, or to the one that begins lower where both begin above it.
abbrev pub nearer : List ℕ → List Row → List Row → Bool
nearer key [] other = false
nearer key (a ∷ rows) [] = true
nearer key (a ∷ rows) (b ∷ others) = if is_below key (a.0) then is_below (a.0) (b.0) else (is_below key (b.0) || is_below (b.0) (a.0))

abbrev pub HasNoRows : List (List Row) → Type 0
HasNoRows table = (m : ℕ) → page_rows table m ≡ []

-- the page where a key goes: the nearest; page 0 in a set without rows
abbrev pub IsHome : List ℕ → List (List Row) → ℕ → Type 0
IsHome key table n = ((n ≡ 0) × HasNoRows table) ⊎ ((m : ℕ) → (m ≡ n → ⊥) → IsTrue (nearer key (page_rows table n) (page_rows table m)))

-- of pages that have at most so many rows, one takes a row without a second page: it has a row of the key, or room
abbrev pub Takes : ℕ → List ℕ → List Row → Type 0
Takes most key rows = IsTrue (is_some (lookup key rows)) ⊎ (length rows < most)

-- the second page: the empty page of the lowest number, or a new one where no page is empty
abbrev pub first_or : ℕ → List ℕ → ℕ
first_or n [] = n
first_or n (m ∷ numbers) = m

abbrev pub second_page : List (List Row) → ℕ
second_page table = first_or (length table) (empty_numbers 0 table)

abbrev pub IsAboveAll : List ℕ → List (List Row) → Type 0
IsAboveAll key table = (m : ℕ) (row : Row) → Contains (page_rows table m) row → IsTrue (is_below (row.0) key)

-- of a full page the upper half, rounded down, moves
abbrev pub lower_half : List Row → List Row
lower_half rows = take (length rows - length rows / 2) rows

abbrev pub upper_half : List Row → List Row
upper_half rows = drop (length rows - length rows / 2) rows

-- the row then goes where its key goes: to the second page, if that doesn't begin above it
abbrev pub begins_upto : List ℕ → List Row → Bool
begins_upto key [] = false
begins_upto key (row ∷ rows) = not (is_below key (row.0))

abbrev pub kept_rows : Row → List Row → List Row
kept_rows row rows = if begins_upto (row.0) (upper_half rows) then lower_half rows else with_row row (lower_half rows)

abbrev pub moved_rows : Row → List Row → List Row
moved_rows row rows = if begins_upto (row.0) (upper_half rows) then with_row row (upper_half rows) else upper_half rows

-- the page of this number is halved, with the row in its half, and the upper half stands in a second page
abbrev pub halved : ℕ → Row → List (List Row) → List (List Row)
halved n row table = placed (second_page table) (moved_rows row (page_rows table n)) (placed n (kept_rows row (page_rows table n)) table)

-- what the pages are after a row was put among them
pub data IsPut (most : ℕ) (row : Row) (before after : List (List Row)) : Type 0 where
  Fits : (n : ℕ) → IsHome (row.0) before n → Takes most (row.0) (page_rows before n) → after ≡ placed n (with_row row (page_rows before n)) before → IsPut most row before after
  Begins : (n : ℕ) → IsHome (row.0) before n → (Takes most (row.0) (page_rows before n) → ⊥) → IsAboveAll (row.0) before
      → after ≡ placed (second_page before) (row ∷ []) before → IsPut most row before after
  Splits : (n : ℕ) → IsHome (row.0) before n → (Takes most (row.0) (page_rows before n) → ⊥) → (IsAboveAll (row.0) before → ⊥) → after ≡ halved n row before → IsPut most row before after

-- a second page is needed, and no page is empty
pub data NeedsPage (most : ℕ) (key : List ℕ) (table : List (List Row)) : Type 0 where
  NoPage : table ≡ [] → NeedsPage most key table
  NoneEmpty : (n : ℕ) → IsHome key table n → (Takes most key (page_rows table n) → ⊥) → empty_numbers 0 table ≡ [] → NeedsPage most key table

-- What a put that ended with a fault leaves: the pages as they were, with one more at most that has no rows; or with it
-- a full page without the upper half of its rows, which stand nowhere then.
pub data PutLeaves (most : ℕ) (row : Row) (before after : List (List Row)) : Type 0 where
  AsBefore : HasSpare before after → PutLeaves most row before after
  Halved : (n : ℕ) → IsHome (row.0) before n → (Takes most (row.0) (page_rows before n) → ⊥) → (IsAboveAll (row.0) before → ⊥) → (spared : List (List Row)) → HasSpare before spared
      → after ≡ placed n (kept_rows row (page_rows before n)) spared → PutLeaves most row before after

-- the same where the pages are told, and the list of all rows with it
pub record Puts (shape : RowShape) (row : Row) (old new : Option (List (List ℕ))) : Type 0 where
  pub pages : IfSome old (λ before. IsSomeAnd new (λ after. IsPut (capacity shape) row (tables shape before) (tables shape after)))
  pub rows : IfSome old (λ before. IsSomeAnd new (λ after. rows_of shape after ≡ with_row row (rows_of shape before)))
