-- What is seen of a shelf, and what the calls over one leave of it. Every call over a shelf, of whatever object, is
-- said by one of three records: it only reads, it changes pages of one data set, or it may add pages to one too.
use Rattle.std.specs.Prelude.{◌≡◌, ℕ, ◌+◌, ◌≤◌, Bool, List, ◌++◌, length, take, drop, slice_get, Option, None, Some, IfSome}
use Rattle.hal_base.specs.Fault.{Fails}
use Rattle.hal_base.specs.Pages.{SameSets, SameOthers, empty_page}
use Rattle.hal_base.specs.declared.pages.SetId.{SetId}

-- The pages of each data set, where content is told, and the numbers of their blocks; the numbers of the free blocks,
-- rising; whether a block of a data set and kind would be live, with a kind that fits its letter; how often the disk
-- failed, how many blocks were fetched; whether the shelf may still be used.
pub record ShelfView : Type 0 where
  pub pages : SetId → Option (List (List ℕ))
  pub places : SetId → List ℕ
  pub free : List ℕ
  pub takes : SetId → ℕ → Bool
  pub disk_faults : ℕ
  pub fetches : ℕ
  pub live : Bool

-- What every call keeps. `steady` is what the shelf itself says that no call of it changes, and `failed` that the call
-- answers its fault of the disk.
pub record Keeps (steady failed : Type 0) (old new : ShelfView) : Type 0 where
  pub is_steady : steady
  pub takes : (set : SetId) (kind : ℕ) → new.takes set kind ≡ old.takes set kind
  pub faults : Fails failed old.disk_faults new.disk_faults new.live
  pub fetches : old.fetches ≤ new.fetches

-- no page was changed or added
pub record SameShelf (old new : ShelfView) : Type 0 where
  pub pages : SameSets old.pages new.pages
  pub places : SameSets old.places new.places
  pub free : new.free ≡ old.free

-- pages of one data set were changed, and none was added
pub record ChangedIn (set : SetId) (old new : ShelfView) : Type 0 where
  pub others : SameOthers set old.pages new.pages
  pub untold : old.pages set ≡ None → new.pages set ≡ None
  pub places : SameSets old.places new.places
  pub free : new.free ≡ old.free

-- pages of one data set were changed, and so many were added behind them, in the first of the free blocks
pub record GrownBy (count : ℕ) (set : SetId) (old new : ShelfView) : Type 0 where
  pub others : SameOthers set old.pages new.pages
  pub untold : old.pages set ≡ None → new.pages set ≡ None
  pub other_places : SameOthers set old.places new.places
  pub placed : new.places set ≡ old.places set ++ take count old.free
  pub free : new.free ≡ drop count old.free
  pub enough : count ≤ length old.free

-- a call that reads at most so many pages
pub record OnlyReads (most : ℕ) (steady failed : Type 0) (old new : ShelfView) : Type 0 where
  pub keeps : Keeps steady failed old new
  pub same : SameShelf old new
  pub few : new.fetches ≤ old.fetches + most

-- a call that changes pages of one data set
pub record OnlyChanges (set : SetId) (steady failed : Type 0) (old new : ShelfView) : Type 0 where
  pub keeps : Keeps steady failed old new
  pub changed : ChangedIn set old new

-- a call that changes pages of one data set, and adds so many
pub record OnlyGrows (count : ℕ) (set : SetId) (steady failed : Type 0) (old new : ShelfView) : Type 0 where
  pub keeps : Keeps steady failed old new
  pub grown : GrownBy count set old new

-- Each page has the head that it had, by a relation of two pages, and each page behind those that were there the head of
-- an empty page of this kind.
pub record SameHeads (Same : List ℕ → List ℕ → Type 0) (kind : ℕ) (set : SetId) (old new : List (List ℕ)) : Type 0 where
  pub kept : (n : ℕ) (page now : List ℕ) → slice_get old n ≡ Some page → slice_get new n ≡ Some now → Same page now
  pub begun : (n : ℕ) (now : List ℕ) → length old ≤ n → slice_get new n ≡ Some now → Same (empty_page kind set n) now

-- and so where the pages are told
abbrev pub KeepsHeads : (List ℕ → List ℕ → Type 0) → ℕ → SetId → ShelfView → ShelfView → Type 0
KeepsHeads Same kind set old new = IfSome (old.pages set) (λ before. IfSome (new.pages set) (SameHeads Same kind set before))
