-- What a call that changes rows makes of the pages of a set, and leaves of the shelf.
use Rattle.std.specs.Prelude.{◌≡◌, ◌⊎◌, ℕ, ◌+◌, List, [], ◌∷◌, ◌++◌, Option, take, drop, IfSome, IsSomeAnd}
use Rattle.keyed_sets.specs.declared.row.RowShape.{RowShape}
use Rattle.keyed_sets.specs.Layout.{Row}
use Rattle.keyed_sets.specs.Map.{rows_of}
use Rattle.keyed_sets.specs.Rule.{tables}
use Rattle.keyed_sets.specs.Index.{empty_numbers}

-- the page of this number has these rows now; it may be a new one, behind the last
abbrev pub placed : ℕ → List Row → List (List Row) → List (List Row)
placed n rows table = take n table ++ rows ∷ drop (n + 1) table

-- where the pages were told they still are. What each page has follows from what the pages had, and so does the list of all rows
pub record Changes (shape : RowShape) (old new : Option (List (List ℕ))) (on_pages : List (List Row) → List (List Row)) (on_rows : List Row → List Row) : Type 0 where
  pub pages : IfSome old (λ before. IsSomeAnd new (λ after. tables shape after ≡ on_pages (tables shape before)))
  pub rows : IfSome old (λ before. IsSomeAnd new (λ after. rows_of shape after ≡ on_rows (rows_of shape before)))

-- the pages are as they were, or have one more that has no rows, where no page had none
abbrev pub HasSpare : (before after : List (List Row)) → Type 0
HasSpare before after = (after ≡ before) ⊎ ((after ≡ before ++ [] ∷ []) × (empty_numbers 0 before ≡ []))
