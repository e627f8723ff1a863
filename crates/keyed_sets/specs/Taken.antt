-- What is known of the pages that were taken in while a set is opened.
use Rattle.std.specs.Prelude.{◌≡◌, ℕ, ◌+◌, ◌<◌, ◌++◌, List, [], ◌∷◌, length, take, All}
use Rattle.std.specs.List.{AllZip}
use Rattle.keyed_sets.specs.declared.row.RowShape.{RowShape}
use Rattle.keyed_sets.specs.declared.index.First.{First}
use Rattle.keyed_sets.specs.declared.opening.Opening.{Opening}
use Rattle.keyed_sets.specs.Layout.{Row}
use Rattle.keyed_sets.specs.Map.{KeysRise, RowsRise}
use Rattle.keyed_sets.specs.Rule.{KeepsRule, BreaksAt, tables, page_rows}
use Rattle.keyed_sets.specs.Standing.{Apart, StartsWith, IsIndex}
use Rattle.keyed_sets.specs.Index.{empty_numbers}

-- the last of these rows has this key
abbrev pub EndsWith : List ℕ → List Row → Type 0
EndsWith key [] = ⊥
EndsWith key (row ∷ []) = row.0 ≡ key
EndsWith key (row ∷ next ∷ rows) = EndsWith key (next ∷ rows)

-- the rows of each page rise, and no two ranges of keys overlap
pub record AreApart (table : List (List Row)) : Type 0 where
  pub rise : (n : ℕ) → KeysRise (λ (row : Row). row.0) (page_rows table n)
  pub apart : (m n : ℕ) → (m ≡ n → ⊥) → Apart (page_rows table m) (page_rows table n)

-- the pages that have rows, by their first keys in order, with the last key of each; and the numbers of the others
pub record AreTaken (table : List (List Row)) (firsts : List First) (lasts : List (List ℕ)) (empty : List ℕ) : Type 0 where
  pub lawful : AreApart table
  pub index : IsIndex table firsts
  pub ends : AllZip (λ (first : First) last. EndsWith last (page_rows table first.page)) firsts lasts
  pub none : empty ≡ empty_numbers 0 table

pub record TakesIn (shape : RowShape) (pages : List (List ℕ)) (firsts : List First) (lasts : List (List ℕ)) (empty : List ℕ) : Type 0 where
  pub rule : KeepsRule shape pages
  pub taken : AreTaken (tables shape pages) firsts lasts empty

-- the pages that were taken in
abbrev pub TookIn : List (List Row) → Opening → Type 0
TookIn table opening = AreTaken table opening.firsts.items opening.lasts.items opening.empty.items

abbrev pub TookPages : RowShape → List (List ℕ) → Opening → Type 0
TookPages shape pages opening = TakesIn shape pages opening.firsts.items opening.lasts.items opening.empty.items

-- the rows of the page of this number are taken in, or cross the range of a page before it
abbrev pub TakesRows : ℕ → List Row → Opening → Opening → Type 0
TakesRows n rows old new = (table : List (List Row)) → TookIn table old → n ≡ length table → TookIn (table ++ rows ∷ []) new

abbrev pub CrossesRows : ℕ → List Row → Opening → Type 0
CrossesRows n rows old = (table : List (List Row)) → TookIn table old → n ≡ length table → (m : ℕ) × (m < n) × (Apart (page_rows table m) rows → ⊥)

-- the same of any rows that rise from one key to another
abbrev pub TakesRange : ℕ → List ℕ → List ℕ → Opening → Opening → Type 0
TakesRange n first last old new =
    (table : List (List Row)) (rows : List Row) → TookIn table old → n ≡ length table → RowsRise rows → StartsWith first rows → EndsWith last rows → TookIn (table ++ rows ∷ []) new

abbrev pub CrossesRange : ℕ → List ℕ → List ℕ → Opening → Type 0
CrossesRange n first last old =
    (table : List (List Row)) (rows : List Row) → TookIn table old → n ≡ length table → RowsRise rows → StartsWith first rows → EndsWith last rows
    → (m : ℕ) × (m < n) × (Apart (page_rows table m) rows → ⊥)

-- the page of this number is taken in behind those before it, or is the first that breaks the rule
abbrev pub TakesPage : RowShape → ℕ → Opening → Opening → List (List ℕ) → Type 0
TakesPage shape n old new pages = TookPages shape (take n pages) old → TookPages shape (take (n + 1) pages) new

abbrev pub BreaksPage : RowShape → ℕ → Opening → ℕ → ℕ → List (List ℕ) → Type 0
BreaksPage shape n old page offset pages = TookPages shape (take n pages) old → BreaksAt shape pages page offset

-- no number but this one is new among those that are kept
abbrev pub FirstsWithin : ℕ → Opening → Opening → Type 0
FirstsWithin n old new = (count : ℕ) → n < count → All (λ (first : First). first.page < count) old.firsts.items → All (λ (first : First). first.page < count) new.firsts.items

abbrev pub EmptyWithin : ℕ → Opening → Opening → Type 0
EmptyWithin n old new = (count : ℕ) → n < count → All (λ k. k < count) old.empty.items → All (λ k. k < count) new.empty.items
