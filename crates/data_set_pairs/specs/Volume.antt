-- What a volume holds in memory, and what it says of the blocks.
use Rattle.std.specs.Prelude.{◌≡◌, ℕ, ◌*◌, ◌<◌, ◌≤◌, List, length, replicate, All, Some, IsTrue}
use Rattle.std.specs.List.{slice_get}
use Rattle.hal_schema.specs.declared.schema.Schema.{Schema}
use Rattle.hal_base.specs.declared.place.PartState.{PartState}
use Rattle.hal_base.specs.StoreCalls.{StoreView}
use Rattle.volume_image.specs.Control.{control_row, row_in}
use Rattle.volume_image.specs.Pages.{KeepsRule1, KeepsRule2}
use Rattle.data_set_pairs.specs.declared.place.PagePlace.{PagePlace}
use Rattle.data_set_pairs.specs.Image.{TableStands}

-- the control blocks hold the states, and the table is that of the data blocks
pub record IsLaidOut (indexes control number : ℕ) (states : List PartState) (pages : List PagePlace) (free : List ℕ) (list : List (List ℕ)) : Type 0 where
  pub many : length list ≡ number
  pub whole : All (λ block. length block ≡ 4096) list
  pub rows : (place : ℕ) (s : PartState) → slice_get states place ≡ Some s → row_in list place ≡ control_row s
  pub rest : (place : ℕ) → length states ≤ place → place < 32 * control → row_in list place ≡ replicate 128 0
  pub table : TableStands indexes states control pages free list

-- and so, as long as the blocks are live, what was held at the last commit and the blocks of then
abbrev pub IsLaidOutThen : StoreView → ℕ → ℕ → List PartState → List PagePlace → List ℕ → Type 0
IsLaidOutThen blocks indexes control states pages free =
    IsTrue blocks.live → (list : List (List ℕ)) → blocks.committed ≡ Some list → IsLaidOut indexes control blocks.number states pages free list

-- no states have the blocks keep rule 1 in its part on control rows and heads
abbrev pub BreaksOne : Schema → List (List ℕ) → Type 0
BreaksOne schema list = (states : List PartState) → KeepsRule1 schema list states → ⊥

-- they keep it, and break rule 2
pub record BreaksTwo (schema : Schema) (list : List (List ℕ)) : Type 0 where
  pub states : List PartState
  pub one : KeepsRule1 schema list states
  pub two : KeepsRule2 schema list states → ⊥
