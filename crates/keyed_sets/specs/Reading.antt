-- What the private functions that read say of a page and of a row.
use Rattle.std.specs.Prelude.{◌≡◌, ℕ, ◌+◌, ◌<◌, ◌≤◌, true, false, List, length, Option, Some, IfSome, slice_get}
use Rattle.std.specs.Option.{option_and_then}
use Rattle.hal_base.specs.ShelfCalls.{ShelfView}
use Rattle.keyed_sets.specs.declared.index.First.{First}
use Rattle.keyed_sets.specs.declared.seek.Spot.{Spot}
use Rattle.keyed_sets.specs.declared.set.KeyedSet.{KeyedSet}
use Rattle.keyed_sets.specs.Layout.{Row, HasShape, HasPlace, rows_in, count_of, place_of}
use Rattle.keyed_sets.specs.Map.{next_after}
use Rattle.keyed_sets.specs.Rule.{Rise, tables, page_rows}
use Rattle.keyed_sets.specs.Goes.{GoesTo}
use Rattle.keyed_sets.specs.PageFacts.{HasKeyAt}
use Rattle.keyed_sets.specs.Writing.{first_at}

-- the page at a place in the order of first keys was read, and has a row
pub record HasRead (set : KeyedSet) (home : ℕ) (page : List ℕ) (seen : ShelfView) : Type 0 where
  pub place : HasPlace set.shape page
  pub some : 0 < count_of page
  pub is : IfSome (seen.pages set.set) (λ pages. slice_get pages (first_at home set.index.firsts.items).page ≡ Some page)

abbrev pub home_page : KeyedSet → Spot → ℕ
home_page set spot = (first_at spot.home set.index.firsts.items).page

-- the page where a key goes was read, and the key's place found in it
pub record IsSought (set : KeyedSet) (key : List ℕ) (spot : Spot) (page : List ℕ) (seen : ShelfView) : Type 0 where
  pub within : spot.home < length set.index.firsts.items
  pub read : HasRead set spot.home page seen
  pub goes : IfSome (seen.pages set.set) (λ pages. GoesTo key (tables set.shape pages) set.index.firsts.items spot.home (first_at spot.home set.index.firsts.items))
  pub upto : spot.at ≤ count_of page
  pub place : Rise (rows_in set.shape page) → spot.at ≡ place_of key (rows_in set.shape page)
  pub found : spot.found ≡ true → HasKeyAt set.shape page spot.at key
  pub missing : spot.found ≡ false → HasKeyAt set.shape page spot.at key → ⊥

-- the first row of the page at a place, if there is one
pub record GivesFirst (set : KeyedSet) (home : ℕ) (seen : ShelfView) (row : Option Row) : Type 0 where
  pub is : IfSome (seen.pages set.set) (λ pages. row ≡ option_and_then (λ (first : First). slice_get (page_rows (tables set.shape pages) first.page) 0) (slice_get set.index.firsts.items home))
  pub shaped : IfSome row (HasShape set.shape)

-- the first row above a key in the page at a place, if there is one
pub record GivesAbove (set : KeyedSet) (home : ℕ) (key : List ℕ) (seen : ShelfView) (row : Option Row) : Type 0 where
  pub is : IfSome (seen.pages set.set) (λ pages. row ≡ next_after (Some key) (page_rows (tables set.shape pages) (first_at home set.index.firsts.items).page))
  pub shaped : IfSome row (HasShape set.shape)

-- the last row below a key in the page at a place
pub record GivesBelow (set : KeyedSet) (home : ℕ) (key : List ℕ) (seen : ShelfView) (row : Row) : Type 0 where
  pub is : IfSome (seen.pages set.set) (λ pages. (at : ℕ) × (at + 1 ≡ place_of key (page_rows (tables set.shape pages) (first_at home set.index.firsts.items).page))
      × (slice_get (page_rows (tables set.shape pages) (first_at home set.index.firsts.items).page) at ≡ Some row))
  pub shaped : HasShape set.shape row
