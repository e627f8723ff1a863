-- Where a key goes among the pages that are kept by their first keys.
use Rattle.std.specs.Prelude.{◌≡◌, ◌⊎◌, ℕ, ◌+◌, ◌<◌, List, length, Contains, IsTrue, Option, IfSome, IsSomeAnd}
use Rattle.keyed_sets.specs.declared.row.RowShape.{RowShape}
use Rattle.keyed_sets.specs.declared.index.First.{First}
use Rattle.keyed_sets.specs.Layout.{Row, is_below}
use Rattle.keyed_sets.specs.Map.{rows_of, with_row}
use Rattle.keyed_sets.specs.Places.{IsHome, IsAboveAll, HasNoRows, Takes, halved}
use Rattle.keyed_sets.specs.Rule.{tables, page_rows}

-- the page at this place is the key's; only at the last place can the key be above all others
pub record GoesTo (key : List ℕ) (table : List (List Row)) (firsts : List First) (home : ℕ) (p : First) : Type 0 where
  pub goes : IsHome key table p.page
  pub amid : home + 1 < length firsts → IsAboveAll key table → ⊥
  pub above : home + 1 ≡ length firsts → ((row : Row) → Contains (page_rows table p.page) row → IsTrue (is_below (row.0) key)) → IsAboveAll key table

-- the page of this number was split
pub record IsSplitAt (shape : RowShape) (row : Row) (n : ℕ) (old new : Option (List (List ℕ))) : Type 0 where
  pub pages : IfSome old (λ before. IsSomeAnd new (λ after. tables shape after ≡ halved n row (tables shape before)))
  pub rows : IfSome old (λ before. IsSomeAnd new (λ after. rows_of shape after ≡ with_row row (rows_of shape before)))

-- a second page is begun by the row of this key alone
pub record IsBegun (most : ℕ) (key : List ℕ) (table : List (List Row)) : Type 0 where
  pub above : IsAboveAll key table
  pub full : HasNoRows table ⊎ ((n : ℕ) × IsHome key table n × (Takes most key (page_rows table n) → ⊥))

-- a page that is full and has a place for this key below other rows of the set
pub record IsFull (most : ℕ) (key : List ℕ) (table : List (List Row)) (n : ℕ) : Type 0 where
  pub home : IsHome key table n
  pub full : Takes most key (page_rows table n) → ⊥
  pub amid : IsAboveAll key table → ⊥
