-- What the calls of a set say: when it stands for its pages, what is found in it, and what becomes of its rows.
use Rattle.std.specs.Prelude.{◌≡◌, ◌⊎◌, ℕ, ◌<◌, Bool, true, false, not, List, [], length, map, Option, Some, All, IfSome, IsSomeAnd, is_some}
use Rattle.std.specs.Option.{ForSome}
use Rattle.hal_base.specs.declared.outcome.PageFault.{PageFault}
use Rattle.hal_base.specs.declared.outcome.PageFault.TheVariants.{NoRoom}
use Rattle.hal_base.specs.Pages.{SameHead}
use Rattle.hal_base.specs.ShelfCalls.{ShelfView, SameShelf, KeepsHeads, OnlyChanges, OnlyGrows}
use Rattle.keyed_sets.specs.declared.index.First.{First}
use Rattle.keyed_sets.specs.declared.set.KeyedSet.{KeyedSet}
use Rattle.keyed_sets.specs.Layout.{Row, HasShape}
use Rattle.keyed_sets.specs.Map.{lookup, without_row, written_over, rows_of}
use Rattle.keyed_sets.specs.Rule.{KeepsRule, capacity, tables}
use Rattle.keyed_sets.specs.Index.{firsts_of, empty_numbers}
use Rattle.keyed_sets.specs.Changes.{Changes}
use Rattle.keyed_sets.specs.Places.{Puts, NeedsPage, PutLeaves}

-- The set stands for its pages as the shelf has them: it names no page that isn't there. Where they are told, they keep
-- the rule, and what it keeps of them is theirs.
pub record IsOpened (set : KeyedSet) (seen : ShelfView) : Type 0 where
  pub firsts_within : All (λ (first : First). first.page < length (seen.places set.set)) set.index.firsts.items
  pub empty_within : All (λ n. n < length (seen.places set.set)) set.index.empty.items
  pub rule : ForSome (seen.pages set.set) (KeepsRule set.shape)
  pub firsts : ForSome (seen.pages set.set) (λ pages. set.index.firsts.items ≡ firsts_of (tables set.shape pages))
  pub empty : ForSome (seen.pages set.set) (λ pages. set.index.empty.items ≡ empty_numbers 0 (tables set.shape pages))

-- it is the set that it was, and stands for its pages as they are now
pub record StaysOpen (old new : KeyedSet) (seen : ShelfView) : Type 0 where
  pub set : new.set ≡ old.set
  pub shape : new.shape ≡ old.shape
  pub opened : IsOpened new seen

-- the body of the row of this key, where the rows are told; it has the set's length
pub record Finds (set : KeyedSet) (seen : ShelfView) (key : List ℕ) (found : Option (List ℕ)) : Type 0 where
  pub is : IfSome (seen.pages set.set) (λ pages. found ≡ lookup key (rows_of set.shape pages))
  pub long : IfSome found (λ body. length body ≡ set.shape.body)

-- the row that is wanted of the rows, where these are told; it has the set's lengths
pub record Gives (set : KeyedSet) (seen : ShelfView) (wanted : List Row → Option Row) (row : Option Row) : Type 0 where
  pub is : IfSome (seen.pages set.set) (λ pages. row ≡ wanted (rows_of set.shape pages))
  pub shaped : IfSome row (HasShape set.shape)

-- the row of this key is there no more, and was there where that is said
pub record Removes (set : KeyedSet) (before after : ShelfView) (key : List ℕ) (removed : Bool) : Type 0 where
  pub was : IfSome (before.pages set.set) (λ pages. removed ≡ is_some (lookup key (rows_of set.shape pages)))
  pub changes : Changes set.shape (before.pages set.set) (after.pages set.set) (map (without_row key)) (without_row key)

-- the row stands among the rows, and the pages are as the format says
abbrev pub PutsIn : KeyedSet → Row → ShelfView → ShelfView → Type 0
PutsIn set row before after = Puts set.shape row (before.pages set.set) (after.pages set.set)

-- the same over the row of its key, with a part of its body
pub record PutsOver (set : KeyedSet) (key : List ℕ) (offset : ℕ) (part : List ℕ) (before after : ShelfView) : Type 0 where
  pub body : List ℕ
  pub long : length body ≡ set.shape.body
  pub was : IfSome (before.pages set.set) (λ pages. lookup key (rows_of set.shape pages) ≡ Some body)
  pub puts : PutsIn set (key, written_over offset part body) before after

-- what a put that wasn't done leaves: where it found no room, nothing has changed, no block is free and a page is needed
pub record PutFails (set : KeyedSet) (row : Row) (before after : ShelfView) (fault : PageFault) : Type 0 where
  pub left : IfSome (before.pages set.set) (λ pages. IsSomeAnd (after.pages set.set) (λ now. PutLeaves (capacity set.shape) row (tables set.shape pages) (tables set.shape now)))
  pub same : fault ≡ NoRoom → SameShelf before after
  pub full : fault ≡ NoRoom → before.free ≡ []
  pub needed : fault ≡ NoRoom → IfSome (before.pages set.set) (λ pages. NeedsPage (capacity set.shape) (row.0) (tables set.shape pages))

-- the row was put in unless another has its key, and then nothing has changed
pub record Inserts (set : KeyedSet) (row : Row) (before after : ShelfView) (done : Bool) : Type 0 where
  pub was : IfSome (before.pages set.set) (λ pages. not done ≡ is_some (lookup (row.0) (rows_of set.shape pages)))
  pub puts : done ≡ true → PutsIn set row before after
  pub same : done ≡ false → SameShelf before after

-- these bytes stand over the body of the row of this key from an offset on, if there is such a row
pub record Overwrites (set : KeyedSet) (key : List ℕ) (offset : ℕ) (part : List ℕ) (before after : ShelfView) (done : Bool) : Type 0 where
  pub was : IfSome (before.pages set.set) (λ pages. done ≡ is_some (lookup key (rows_of set.shape pages)))
  pub puts : done ≡ true → PutsOver set key offset part before after
  pub same : done ≡ false → SameShelf before after

-- a call that changes pages of the set alone; their heads stay, but for the count of rows
pub record Writes (set : KeyedSet) (steady failed : Type 0) (before after : ShelfView) : Type 0 where
  pub changes : OnlyChanges set.set steady failed before after
  pub heads : KeepsHeads SameHead 2 set.set before after

-- and one that may add a page to the set
pub record Grows (set : KeyedSet) (steady failed : Type 0) (before after : ShelfView) : Type 0 where
  pub changes : OnlyGrows 0 set.set steady failed before after ⊎ OnlyGrows 1 set.set steady failed before after
  pub heads : KeepsHeads SameHead 2 set.set before after
