-- How far control rows have been read.
use Rattle.std.specs.Prelude.{◌≡◌, ℕ, ◌<◌, ◌≤◌, IsTrue, List, length, min, replicate, Some}
use Rattle.std.specs.List.{slice_get}
use Rattle.hal_base.specs.declared.place.PartState.{PartState}
use Rattle.hal_schema.specs.declared.schema.Schema.{Schema}
use Rattle.volume_image.specs.Control.{HasStates, control_row, row_in, state_fits}

-- the first n rows hold these states, and only these, and zeros behind the last partition's
pub record HasFirstStates (schema : Schema) (blocks : List (List ℕ)) (n : ℕ) (states : List PartState) : Type 0 where
  pub many : length states ≡ min n (length schema.parts)
  pub fit : (place : ℕ) (s : PartState) → slice_get states place ≡ Some s → IsTrue (state_fits schema place s)
  pub is : (place : ℕ) (s : PartState) → slice_get states place ≡ Some s → row_in blocks place ≡ control_row s
  pub one : (place : ℕ) (s : PartState) → slice_get states place ≡ Some s → (other : PartState)
      → IsTrue (state_fits schema place other) → row_in blocks place ≡ control_row other → other ≡ s
  pub rest : (place : ℕ) → length schema.parts ≤ place → place < n → row_in blocks place ≡ replicate 128 0

-- no states stand in the control blocks
abbrev pub HasNoStates : Schema → List (List ℕ) → Type 0
HasNoStates schema blocks = (states : List PartState) → HasStates schema blocks states → ⊥
