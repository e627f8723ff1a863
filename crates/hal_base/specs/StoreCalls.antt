-- What is seen of blocks and of the site that they stand on, and what the calls on them leave.
use Rattle.std.specs.Prelude.{◌≡◌, ◌⊎◌, ℕ, ◌+◌, ◌≤◌, Bool, true, List, length, All, Option, None, Some, Result, OnOk, OnErr, IsErrOf, IsTrue, IfSome, IsSomeAnd}
use Rattle.std.specs.Io.KnownBytes.{Appends}
use Rattle.hal_base.specs.Fault.{Fails, HasCause}
use Rattle.hal_base.specs.Room.{HasSayRoom}
use Rattle.hal_base.specs.Said.{AppendsPart}
use Rattle.hal_base.specs.declared.outcome.JournalFault.{JournalFault}
use Rattle.hal_base.specs.declared.outcome.JournalFault.TheVariants.{Memory}
use Rattle.hal_base.specs.Stops.{IsTold, LeavesOnly, LeavesExactly, CommitLeaves, SayLeaves}

-- The blocks with what is staged, and those of the last commit; the blocks that the image stands for as it reads; how
-- many there are. What was said on the site, its clock, and the committed blocks and said bytes that a stop at a moment
-- might have left. How often its disk and its say failed; how many bytes may be said without a fault, where the site
-- tells that it has room for all that is written on it. How many blocks were fetched; whether nothing is staged; whether
-- the object may still be used. Where the site tells no content, no list is told.
pub record StoreView : Type 1 where
  pub list : Option (List (List ℕ))
  pub committed : Option (List (List ℕ))
  pub standing : Option (List (List ℕ))
  pub number : ℕ
  pub said : Option (List ℕ)
  pub moment : ℕ
  pub left_at : ℕ → List (List ℕ) → List ℕ → Type 0
  pub disk_faults : ℕ
  pub say_faults : ℕ
  pub room : Option ℕ
  pub fetches : ℕ
  pub clean : Bool
  pub live : Bool

-- what a stop may leave of a call that neither commits nor says: what it might have left before
abbrev pub LeavesSame : StoreView → StoreView → Type 0
LeavesSame old new = LeavesOnly old.moment new.moment old.left_at new.left_at (old.left_at old.moment)

-- a call that neither commits nor says
pub record SameStore (old new : StoreView) : Type 0 where
  pub number : new.number ≡ old.number
  pub committed : new.committed ≡ old.committed
  pub standing : new.standing ≡ old.standing
  pub said : new.said ≡ old.said
  pub stops : LeavesSame old new
  pub say_faults : new.say_faults ≡ old.say_faults
  pub room : HasSayRoom old.room new.room old.disk_faults new.disk_faults (λ room. 0 ≤ room)
  pub fetches : old.fetches ≤ new.fetches

-- and makes no call of the site, or none that shows
pub record NoCall (old new : StoreView) : Type 0 where
  pub moment : new.moment ≡ old.moment
  pub stops : LeavesSame old new
  pub disk_faults : new.disk_faults ≡ old.disk_faults

-- A commit: after Ok the list is the committed one, after another answer the committed one is as it was. Whatever stops
-- it, there is the one list or the other; what the image stands for after a fault of the disk is one of them too.
-- After want of memory, and where nothing was staged, the site is as it was; nothing staged is Ok.
pub record Commits {T : Type 0} (result : Result T JournalFault) (old new : StoreView) : Type 0 where
  pub done : OnOk result (new.committed ≡ old.list)
  pub kept : OnErr result (new.committed ≡ old.committed)
  pub cleaned : OnOk result (new.clean ≡ true)
  pub list : new.list ≡ old.list
  pub number : new.number ≡ old.number
  pub said : new.said ≡ old.said
  pub stops : LeavesOnly old.moment new.moment old.left_at new.left_at (CommitLeaves old.committed old.list old.said)
  pub standing : (blocks : List (List ℕ)) → new.standing ≡ Some blocks → IsTold old.committed blocks ⊎ IsTold old.list blocks
  pub memory : IsErrOf result Memory → NoCall old new
  pub nothing : old.clean ≡ true → OnErr result ⊥ × NoCall old new
  pub say_faults : new.say_faults ≡ old.say_faults
  pub room : HasSayRoom old.room new.room old.disk_faults new.disk_faults (λ room. 0 ≤ room)
  pub fetches : new.fetches ≡ old.fetches

-- a return to the list of the last commit
pub record Forgets (old new : StoreView) : Type 0 where
  pub list : new.list ≡ old.committed
  pub cleaned : new.clean ≡ true
  pub same : SameStore old new
  pub no_call : NoCall old new
  pub fetches : new.fetches ≡ old.fetches
  pub live : new.live ≡ true

-- A say: it adds the text to what was said, or a front of it where it fails. No block changes, and what is staged stays
-- staged.
pub record Says {T E : Type 0} (result : Result T E) (text : List ℕ) (old new : StoreView) : Type 0 where
  pub said : OnOk result (Appends old.said new.said text)
  pub part : OnErr result (AppendsPart old.said new.said text)
  pub untold : old.said ≡ None → new.said ≡ None
  pub list : new.list ≡ old.list
  pub committed : new.committed ≡ old.committed
  pub standing : new.standing ≡ old.standing
  pub number : new.number ≡ old.number
  pub stops : LeavesOnly old.moment new.moment old.left_at new.left_at (SayLeaves old.committed old.said text)
  pub cause : HasCause old.say_faults new.say_faults result
  pub disk_faults : new.disk_faults ≡ old.disk_faults
  pub room : HasSayRoom old.room new.room old.say_faults new.say_faults (λ room. IsSomeAnd old.said (λ before. length before + length text ≤ room))
  pub fetches : new.fetches ≡ old.fetches
  pub clean : new.clean ≡ old.clean
  pub live : new.live ≡ true

-- so many whole blocks, where they are told
abbrev pub AreBlocks : ℕ → Option (List (List ℕ)) → Type 0
AreBlocks count told = IfSome told (λ blocks. (length blocks ≡ count) × All (λ block. length block ≡ 4096) blocks)
