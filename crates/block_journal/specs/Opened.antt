-- What an opening answers, and what it leaves of its site.
use Rattle.std.specs.Prelude.{◌≡◌, ℕ, ◌≤◌, true, List, Option, IsTrue}
use Rattle.std.specs.Option.{option_map}
use Rattle.hal_base.specs.Fault.{Rose}
use Rattle.hal_base.specs.StoreCalls.{StoreView}
use Rattle.block_journal.specs.declared.fault.OpenWhy.{OpenWhy}
use Rattle.block_journal.specs.declared.fault.OpenWhy.TheVariants.{NotAVolume, Damaged, DiskFault, Memory}
use Rattle.block_journal.specs.Commit.{last_byte}
use Rattle.block_journal.specs.Device.{Became, FitsBelow}
use Rattle.block_journal.specs.Redo.{redone}
use Rattle.block_journal.specs.Redoing.{IsDamaged, IsRedone, IsSound, OpensOver, RedoMakes, SameRedo}

-- The blocks stand at `first` and are those that the image stood for. Nothing is staged, none was fetched, and they may
-- be used. The image was sound; now it has these blocks, and its gate is closed.
pub record IsOpened (first count : ℕ) (before after : Option (List ℕ)) (place : ℕ) (seen : StoreView) : Type 0 where
  pub committed : seen.committed ≡ option_map (redone first count) before
  pub list : seen.list ≡ option_map (redone first count) before
  pub at_first : place ≡ first
  pub number : seen.number ≡ count
  pub live : IsTrue seen.live
  pub clean : seen.clean ≡ true
  pub fetches : seen.fetches ≡ 0
  pub redone_is : IsRedone first count before after
  pub sound : IsSound first count before

-- Why they weren't opened. A damaged image is as it was, and its open gate has no body; after want of memory it stands
-- for the same blocks; a fault of the disk comes where its count rose.
pub record IsRefused (first count : ℕ) (before after : Option (List ℕ)) (faults now : ℕ) (why : OpenWhy) : Type 0 where
  pub volume : why ≡ NotAVolume → ⊥
  pub damaged : (rule : ℕ) → why ≡ Damaged rule → (rule ≡ 1) × (after ≡ before) × IsDamaged first count before
  pub disk_fault : why ≡ DiskFault → Rose faults now
  pub memory : why ≡ Memory → SameRedo first count before after

-- whatever the answer: an image that had all its blocks stands for the same ones, and all below them is kept but the gate
pub record LeavesSite {S : Type 0} (image said : S → Option (List ℕ)) (disk_faults say_faults : S → ℕ)
    (room : S → Option (ℕ × ℕ)) (first count : ℕ) (old new : S) : Type 0 where
  pub made : Became (RedoMakes first count) (image old) (image new)
  pub words : said new ≡ said old
  pub later : disk_faults old ≤ disk_faults new
  pub says : say_faults new ≡ say_faults old
  pub fits : FitsBelow room disk_faults (last_byte first count) old new

-- its first sync returned at a moment, which lies within an opening that succeeded
abbrev pub SyncsWithin : {S : Type 0} → (S → Option (List ℕ)) → (S → ℕ) → (S → ℕ → List ℕ → List ℕ → Type 0) → ℕ → ℕ → S → S → Type 0
SyncsWithin image moment left_at first count old new =
    (synced : ℕ) × (synced ≤ moment new) × OpensOver image moment left_at first count old new synced

abbrev pub SyncsOrStops : {S : Type 0} → (S → Option (List ℕ)) → (S → ℕ) → (S → ℕ → List ℕ → List ℕ → Type 0) → ℕ → ℕ → S → S → Type 0
SyncsOrStops image moment left_at first count old new = (synced : ℕ) × OpensOver image moment left_at first count old new synced
