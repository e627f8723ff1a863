-- What no call of a journal changes.
use Rattle.std.specs.Prelude.{◌≡◌, ℕ, List, Option, Some}
use Rattle.hal_base.specs.Stops.{LeavesOnly}
use Rattle.block_journal.specs.Device.{Became}
use Rattle.block_journal.specs.Front.{KeepsFront}

-- The blocks stand where they stood, and what lies below them is kept: in the image that reads, and in each image that
-- a stop since might have left.
pub record IsSteady (first next many number : ℕ) (old new : Option (List ℕ)) (before now : ℕ)
    (past at : ℕ → List ℕ → List ℕ → Type 0) : Type 0 where
  pub place : next ≡ first
  pub count : number ≡ many
  pub reads : Became (KeepsFront first many) old new
  pub stops : LeavesOnly before now past at (λ image said. (told : List ℕ) → old ≡ Some told → KeepsFront first many told image)
