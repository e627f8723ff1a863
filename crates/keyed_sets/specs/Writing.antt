-- What the private functions that put pages back do to the index and to the pages of a set.
use Rattle.std.specs.Prelude.{◌≡◌, ℕ, ◌+◌, ◌<◌, List, [], ◌∷◌, ◌++◌, length, insert, slice_get, slice_set, slice_index_or, IfSome}
use Rattle.std.specs.List.{remove}
use Rattle.std.specs.Option.{option_map}
use Rattle.hal_base.specs.Pages.{SameHead, empty_page}
use Rattle.hal_base.specs.ShelfCalls.{ShelfView, SameShelf, GrownBy}
use Rattle.hal_base.specs.declared.pages.SetId.{SetId}
use Rattle.keyed_sets.specs.declared.index.First.{First}
use Rattle.keyed_sets.specs.declared.index.Index.{Index}
use Rattle.keyed_sets.specs.declared.row.RowShape.{RowShape}
use Rattle.keyed_sets.specs.Layout.{HasPlace, rows_in, count_of}
use Rattle.keyed_sets.specs.Standing.{StartsWith, with_number, no_first}

-- what is kept of the page at a place, and the number of the first of the empty pages
abbrev pub first_at : ℕ → List First → First
first_at home firsts = slice_index_or firsts home no_first

abbrev pub number_at : List ℕ → ℕ
number_at numbers = slice_index_or numbers 0 0

-- what is kept of the page at a place, and of the first of the empty pages, where their rows begin with this key
abbrev pub begun_at : Index → ℕ → List ℕ → First
begun_at old home key = record { key = key; page = (first_at home old.firsts.items).page }

abbrev pub begun_empty : Index → List ℕ → First
begun_empty old key = record { key = key; page = number_at old.empty.items }

-- the page at a place was put back with other rows
pub record WritesPage (set : SetId) (shape : RowShape) (old new : Index) (home : ℕ) (page : List ℕ) (before after : ShelfView) : Type 0 where
  pub pages : after.pages set ≡ option_map (λ pages. slice_set pages (first_at home old.firsts.items).page page) (before.pages set)
  pub some : 0 < count_of page
      → (key : List ℕ) × StartsWith key (rows_in shape page) × (new.firsts.items ≡ slice_set old.firsts.items home (begun_at old home key)) × (new.empty.items ≡ old.empty.items)
  pub none : count_of page ≡ 0 → (new.firsts.items ≡ remove old.firsts.items home) × (new.empty.items ≡ with_number (first_at home old.firsts.items).page old.empty.items)

-- the first of the empty pages has rows now, which come last
pub record AddsPage (set : SetId) (shape : RowShape) (old new : Index) (page : List ℕ) (before after : ShelfView) : Type 0 where
  pub pages : after.pages set ≡ option_map (λ pages. slice_set pages (number_at old.empty.items) page) (before.pages set)
  pub key : List ℕ
  pub starts : StartsWith key (rows_in shape page)
  pub firsts : new.firsts.items ≡ old.firsts.items ++ begun_empty old key ∷ []
  pub empty : new.empty.items ≡ remove old.empty.items 0

-- a page and the first of the empty pages may be put back with these rows
pub record CanHalve (set : SetId) (shape : RowShape) (index : Index) (home : ℕ) (page second : List ℕ) (seen : ShelfView) : Type 0 where
  pub within : home < length index.firsts.items
  pub some : 0 < length index.empty.items
  pub below : (first_at home index.firsts.items).page < length (seen.places set)
  pub second_below : number_at index.empty.items < length (seen.places set)
  pub head : IfSome (seen.pages set) (λ pages. IfSome (slice_get pages (first_at home index.firsts.items).page) (λ old. SameHead old page))
  pub second_head : IfSome (seen.pages set) (λ pages. IfSome (slice_get pages (number_at index.empty.items)) (λ old. SameHead old second))
  pub apart : IfSome (seen.pages set) (λ pages. number_at index.empty.items ≡ (first_at home index.firsts.items).page → ⊥)
  pub place : HasPlace shape page × (0 < count_of page)
  pub second_place : HasPlace shape second × (0 < count_of second)

-- what will be kept of the two
pub record AreHalves (shape : RowShape) (index : Index) (home : ℕ) (page second : List ℕ) (low high : First) : Type 0 where
  pub low_starts : StartsWith low.key (rows_in shape page)
  pub low_page : low.page ≡ (first_at home index.firsts.items).page
  pub high_starts : StartsWith high.key (rows_in shape second)
  pub high_page : high.page ≡ number_at index.empty.items

-- the page at a place was put back with its lower rows, and the first of the empty pages with the upper ones
pub record WritesHalves (set : SetId) (shape : RowShape) (old new : Index) (home : ℕ) (page second : List ℕ) (before after : ShelfView) : Type 0 where
  pub pages : after.pages set ≡ option_map (λ pages. slice_set (slice_set pages (first_at home old.firsts.items).page page) (number_at old.empty.items) second) (before.pages set)
  pub low : List ℕ
  pub low_starts : StartsWith low (rows_in shape page)
  pub high : List ℕ
  pub high_starts : StartsWith high (rows_in shape second)
  pub firsts : new.firsts.items ≡ slice_set (insert old.firsts.items (home + 1) (begun_empty old high)) home (begun_at old home low)
  pub empty : new.empty.items ≡ remove old.empty.items 0

-- nothing was put back, or the page at a place alone
pub data LeavesHalf (set : SetId) (shape : RowShape) (old new : Index) (home : ℕ) (page : List ℕ) (before after : ShelfView) : Type 0 where
  Nothing : new.firsts.items ≡ old.firsts.items → new.empty.items ≡ old.empty.items → SameShelf before after → LeavesHalf set shape old new home page before after
  Half : (low : List ℕ) → StartsWith low (rows_in shape page) → new.firsts.items ≡ slice_set old.firsts.items home (begun_at old home low) → new.empty.items ≡ old.empty.items
      → after.pages set ≡ option_map (λ pages. slice_set pages (first_at home old.firsts.items).page page) (before.pages set) → LeavesHalf set shape old new home page before after

-- a page is empty, or one was added
pub data MakesPage (set : SetId) (old new : Index) (before after : ShelfView) : Type 0 where
  Had : 0 < length old.empty.items → new.empty.items ≡ old.empty.items → SameShelf before after → MakesPage set old new before after
  Made : old.empty.items ≡ [] → new.empty.items ≡ length (before.places set) ∷ []
      → after.pages set ≡ option_map (λ pages. pages ++ empty_page 2 set (length (before.places set)) ∷ []) (before.pages set)
      → GrownBy 1 set before after → MakesPage set old new before after
