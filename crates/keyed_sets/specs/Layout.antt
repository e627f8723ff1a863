-- A page of rows (kind 2): a head of 16 bytes, whose bytes 8 and 9 count the rows; the rows, one behind the other; and
-- zeros up to 4,096. A row is a key and a body of lengths that are the set's. Keys are compared byte by byte, as those
-- of a VSAM key-sequenced data set.
use Rattle.std.specs.Prelude.{◌≡◌, ℕ, zero, suc, ◌+◌, ◌-◌, ◌*◌, ◌≤◌, Bool, List, [], ◌∷◌, ◌++◌, length, take, drop, replicate}
use Rattle.std.specs.List.{flat_map, prefix_len}
use Rattle.std.specs.Int.{w16, from_be_bytes}
use Rattle.std.specs.Ordering.{nat_cmp, is_lt}
use Rattle.std.specs.Cmp.Lexicographic.{slice_cmp}
use Rattle.hal_base.specs.Pages.{SameHead}
use Rattle.keyed_sets.specs.declared.row.RowShape.{RowShape}

-- a key and a body
abbrev pub Row : Type 0
Row = List ℕ × List ℕ

abbrev pub row_length : RowShape → ℕ
row_length shape = shape.key + shape.body

-- the lengths are the set's
pub record HasShape (shape : RowShape) (row : Row) : Type 0 where
  pub key : length (row.0) ≡ shape.key
  pub body : length (row.1) ≡ shape.body

-- the bytes of a row, and of rows
abbrev pub spelled_row : Row → List ℕ
spelled_row row = row.0 ++ row.1

abbrev pub spelled : List Row → List ℕ
spelled rows = flat_map spelled_row rows

-- the row at the front of bytes
abbrev pub row_of : RowShape → List ℕ → Row
row_of shape bytes = (take shape.key bytes, take shape.body (drop shape.key bytes))

-- so many rows, one behind the other
abbrev pub rows_from : RowShape → ℕ → List ℕ → List Row
rows_from shape zero bytes = []
rows_from shape (suc count) bytes = row_of shape bytes ∷ rows_from shape count (drop (row_length shape) bytes)

-- the count in the head of a page
abbrev pub count_of : List ℕ → ℕ
count_of page = from_be_bytes w16 (take 2 (drop 8 page))

-- the rows of a page
abbrev pub rows_in : RowShape → List ℕ → List Row
rows_in shape page = rows_from shape (count_of page) (drop 16 page)

-- where so many rows end
abbrev pub end_of : RowShape → ℕ → ℕ
end_of shape count = 16 + row_length shape * count

-- the rows that the head counts have place in the page
abbrev pub HasPlace : RowShape → List ℕ → Type 0
HasPlace shape page = end_of shape (count_of page) ≤ 4096

-- behind the rows are zeros
abbrev pub HasZeros : RowShape → List ℕ → Type 0
HasZeros shape page = drop (end_of shape (count_of page)) page ≡ replicate (4096 - end_of shape (count_of page)) 0

-- one key is below another
abbrev pub is_below : List ℕ → List ℕ → Bool
is_below a b = is_lt (slice_cmp nat_cmp a b)

-- how many rows at the front have keys below this one
abbrev pub place_of : List ℕ → List Row → ℕ
place_of key rows = prefix_len (λ row. is_below (row.0) key) rows

-- a page has these rows now; its head is as it was but for their count, and zeros stand behind them where they stood there
pub record PutsRows (shape : RowShape) (old new : List ℕ) (list : List Row) : Type 0 where
  pub head : SameHead old new
  pub place : HasPlace shape new
  pub count : count_of new ≡ length list
  pub rows : rows_in shape new ≡ list
  pub zeros : HasZeros shape old → HasZeros shape new
