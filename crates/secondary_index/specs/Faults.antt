-- Why an entry isn't added: the faults of a page, and one more.
use Rattle.std.specs.Prelude.{◌≡◌, true}
use Rattle.hal_base.specs.declared.outcome.PageFault.{PageFault}
use Rattle.hal_base.specs.declared.outcome.PageFault.TheVariants as page
use Rattle.hal_base.specs.ShelfCalls.{ShelfView, SameShelf}
use Rattle.keyed_sets.specs.declared.set.KeyedSet.{KeyedSet}
use Rattle.keyed_sets.specs.Calls.{PutFails}
use Rattle.secondary_index.specs.declared.entry.Entry.{Entry}
use Rattle.secondary_index.specs.declared.fault.AddFault.{AddFault}
use Rattle.secondary_index.specs.declared.fault.AddFault.TheVariants as add
use Rattle.secondary_index.specs.Entries.{entry_row, KeyIs}

abbrev pub add_fault : PageFault → AddFault
add_fault page.NoRoom = add.NoRoom
add_fault page.Failed = add.Failed
add_fault page.Memory = add.Memory

-- What an entry that wasn't added leaves: where its key is taken, another entry has it and nothing has changed; after
-- another fault it is as after a row that wasn't put
pub data AddFails (set : KeyedSet) (entry : Entry) (before after : ShelfView) (fault : AddFault) : Type 0 where
  IsTaken : fault ≡ add.Taken → KeyIs true set entry.key before → SameShelf before after → AddFails set entry before after fault
  NotPut : (why : PageFault) → fault ≡ add_fault why → PutFails set (entry_row entry) before after why → AddFails set entry before after fault
