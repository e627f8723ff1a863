-- What becomes of the entries of an index whose target was moved, or whose pointer was healed. IMS: an index pointer segment
-- whose source segment is replaced is deleted and inserted anew; an access through an entry heals its pointer.
use Rattle.std.specs.Prelude.{◌≡◌, ℕ, false, Bool, List, map, IfSome, IsSomeAnd}
use Rattle.hal_base.specs.declared.outcome.PageFault.{PageFault}
use Rattle.hal_base.specs.declared.outcome.PageFault.TheVariants.{NoRoom}
use Rattle.hal_base.specs.ShelfCalls.{ShelfView, SameShelf, ChangedIn}
use Rattle.keyed_sets.specs.declared.set.KeyedSet.{KeyedSet}
use Rattle.keyed_sets.specs.Calls.{PutsIn, Removes}
use Rattle.keyed_sets.specs.Map.{rows_of, with_row, without_row}
use Rattle.secondary_index.specs.declared.entry.Entry.{Entry}
use Rattle.secondary_index.specs.declared.fault.AddFault.{AddFault}
use Rattle.secondary_index.specs.Entries.{entry_row, entries_of, has_entry, healed_at, KeyIs}
use Rattle.secondary_index.specs.Faults.{AddFails, add_fault}

-- the entry of a key was taken out, if there was one, and no page was added
pub record TakesOut (set : KeyedSet) (key : List ℕ) (before after : ShelfView) : Type 0 where
  pub was : Bool
  pub rows : Removes set before after key was
  pub changed : ChangedIn set.set before after

-- the entry of one key was taken out, and then an entry was added whose key no other had
pub record Moves (set : KeyedSet) (old : List ℕ) (entry : Entry) (before after : ShelfView) : Type 0 where
  pub between : ShelfView
  pub out : TakesOut set old before between
  pub not_taken : KeyIs false set entry.key between
  pub added : PutsIn set (entry_row entry) between after
  pub rows : IfSome (before.pages set.set) (λ pages. IsSomeAnd (after.pages set.set) (λ now. rows_of set.shape now ≡ with_row (entry_row entry) (without_row old (rows_of set.shape pages))))

-- What an entry that wasn't moved leaves: nothing has changed, or the old entry is out and the new one wasn't added. It is
-- out where another entry has the new key.
pub data MoveFails (set : KeyedSet) (old : List ℕ) (entry : Entry) (before after : ShelfView) (fault : AddFault) : Type 0 where
  StaysThere : (why : PageFault) → fault ≡ add_fault why → (why ≡ NoRoom → ⊥) → SameShelf before after → MoveFails set old entry before after fault
  IsOut : (between : ShelfView) → TakesOut set old before between → AddFails set entry between after fault → MoveFails set old entry before after fault

-- the entry of this key, if there is one, has another number and address, and all others are as they were
pub record Heals (set : KeyedSet) (key : List ℕ) (number addr : ℕ) (before after : ShelfView) (done : Bool) : Type 0 where
  pub was : IfSome (before.pages set.set) (λ pages. done ≡ has_entry key (rows_of set.shape pages))
  pub entries : IfSome (before.pages set.set) (λ pages. IsSomeAnd (after.pages set.set) (λ now. entries_of set.shape now ≡ map (healed_at key number addr) (entries_of set.shape pages)))
  pub same : done ≡ false → SameShelf before after
