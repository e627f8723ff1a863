-- When a page by itself is a page of rows, when pages are those of a set, as soundness rule 3 asks, and where they first aren't.
use Rattle.std.specs.Prelude.{◌≡◌, ℕ, suc, ◌+◌, ◌/◌, ◌<◌, ◌==◌, ◌&&◌, ◌||◌, Bool, nat_lt, min, IsTrue, if◌then◌else◌, List, [], ◌∷◌, length, map, take, drop, slice_index, slice_index_or, All}
use Rattle.std.specs.List.{list_all}
use Rattle.keyed_sets.specs.declared.row.RowShape.{RowShape}
use Rattle.keyed_sets.specs.Layout.{Row, row_length, rows_from, rows_in, count_of, end_of, HasPlace, HasZeros, is_below}

-- how many rows have place in a page
abbrev pub capacity : RowShape → ℕ
capacity shape = 4080 / row_length shape

-- how many rows at the front rise: each key is above the one before it
abbrev pub rising_count : List Row → ℕ
rising_count [] = 0
rising_count (row ∷ []) = 1
rising_count (row ∷ next ∷ rows) = if is_below (row.0) (next.0) then suc (rising_count (next ∷ rows)) else 1

-- all of them rise
abbrev pub Rise : List Row → Type 0
Rise rows = rising_count rows ≡ length rows

-- kind 2, at most as many rows as have place, rising by key, and zeros behind them
pub record IsRowPage (shape : RowShape) (page : List ℕ) : Type 0 where
  pub kind : slice_index page 0 ≡ 2
  pub place : HasPlace shape page
  pub rising : Rise (rows_in shape page)
  pub zeros : HasZeros shape page

-- of the rows that the head counts, those that have place
abbrev pub placed_rows : RowShape → List ℕ → List Row
placed_rows shape page = rows_from shape (min (count_of page) (capacity shape)) (drop 16 page)

-- the first of these that isn't above the one before it, or 16 where there is no such row or the kind isn't 2
abbrev pub break_place : RowShape → List ℕ → ℕ
break_place shape page =
    if slice_index page 0 == 2 && nat_lt (rising_count (placed_rows shape page)) (length (placed_rows shape page)) then end_of shape (rising_count (placed_rows shape page)) else 16

-- the rows of each page of a set, and those of the page of one number; none past the last
abbrev pub tables : RowShape → List (List ℕ) → List (List Row)
tables shape pages = map (rows_in shape) pages

abbrev pub page_rows : List (List Row) → ℕ → List Row
page_rows table n = slice_index_or table n []

-- all keys of one page are below all keys of the other
abbrev pub all_below : List Row → List Row → Bool
all_below a b = list_all (λ x. list_all (λ y. is_below (x.0) (y.0)) b) a

-- the ranges of their keys don't overlap
abbrev pub are_apart : List Row → List Row → Bool
are_apart a b = all_below a b || all_below b a

-- each page is one of rows, and no two ranges of keys overlap
pub record KeepsRule (shape : RowShape) (pages : List (List ℕ)) : Type 0 where
  pub each : All (IsRowPage shape) pages
  pub apart : (m n : ℕ) → m < n → n < length pages → IsTrue (are_apart (page_rows (tables shape pages) m) (page_rows (tables shape pages) n))

-- the first page that breaks the rule, by itself or with the pages before it, and the place in it
pub record BreaksAt (shape : RowShape) (pages : List (List ℕ)) (page offset : ℕ) : Type 0 where
  pub there : page < length pages
  pub before : KeepsRule shape (take page pages)
  pub breaks : KeepsRule shape (take (page + 1) pages) → ⊥
  pub place : offset ≡ break_place shape (slice_index_or pages page [])

-- the same of a set whose rows have these lengths
abbrev pub Breaks : ℕ → ℕ → ℕ → ℕ → List (List ℕ) → Type 0
Breaks key body page offset pages = BreaksAt (record { key = key; body = body }) pages page offset
