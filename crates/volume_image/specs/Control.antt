-- Control rows: how each partition stands, in 128 bytes, 32 rows to a control block, in the order of the
-- partitions. IMS keeps the reorganization number, the active side and the cursor of an online reorganization
-- of a HALDB partition in the RECON and in the partition's data sets.
use Rattle.std.specs.Prelude.{◌≡◌, ℕ, ◌+◌, ◌-◌, ◌*◌, ◌/◌, ◌%◌, ◌<◌, ◌≤◌, ◌==◌, nat_le, Bool, true, false, ◌&&◌, ◌||◌, not, if◌then◌else◌, IsTrue, List, [], ◌∷◌, ◌++◌, length, replicate, slice_range, slice_index_or, Some}
use Rattle.std.specs.List.{slice_get}
use Rattle.std.specs.Option.{option_map_or}
use Rattle.std.specs.Int.{w16, w32, to_be_bytes}
use Rattle.hal_base.specs.declared.place.Cursor.{Cursor}
use Rattle.hal_base.specs.declared.place.Cursor.TheVariants.{Front, At, Anchors}
use Rattle.hal_base.specs.declared.place.PartState.{PartState}
use Rattle.hal_schema.specs.declared.schema.PartDef.{PartDef}
use Rattle.hal_schema.specs.declared.schema.Schema.{Schema}
use Rattle.hal_schema.specs.Roots.{partition_of}
use Rattle.hal_schema.specs.SegType.{key_bytes}

abbrev pub cursor_kind : Cursor → ℕ
cursor_kind Front = 0
cursor_kind (At key) = 1
cursor_kind (Anchors done) = 2

abbrev pub cursor_bytes : Cursor → List ℕ
cursor_bytes Front = []
cursor_bytes (At key) = key
cursor_bytes (Anchors done) = to_be_bytes w32 done

-- what a row says of a cursor: its kind, its length, its bytes, and zeros up to 128
abbrev pub cursor_part : Cursor → List ℕ
cursor_part cursor = cursor_kind cursor ∷ length (cursor_bytes cursor) ∷ cursor_bytes cursor ++ replicate (120 - length (cursor_bytes cursor)) 0

-- the row that a state is written as
abbrev pub control_row : PartState → List ℕ
control_row s = to_be_bytes w16 s.part ++ to_be_bytes w16 s.number ++ s.side ∷ s.state ∷ cursor_part s.cursor

-- a key is one of a PHIDAM partition, of the root key's length; anchors are some of a PHDAM partition's
abbrev pub cursor_fits : Schema → ℕ → PartDef → Cursor → Bool
cursor_fits schema place part Front = true
cursor_fits schema place part (At key) = not schema.phdam && length key == key_bytes schema.types 1 && option_map_or (λ p. p == place) (partition_of schema key) false
cursor_fits schema place part (Anchors done) = schema.phdam && nat_le 1 done && nat_le done part.anchors

-- idle (`I`), which has the front, or active (`C`), or paused (`P`)
abbrev pub standing_fits : PartState → Bool
standing_fits s = if s.state == 73 then cursor_kind s.cursor == 0 else s.state == 67 || s.state == 80

-- a number has two bytes, and while the partition isn't idle so has the next one
abbrev pub most_number : ℕ → ℕ
most_number state = if state == 73 then 65535 else 65534

-- what a partition's state may be: the partition number of the definition, a reorganization number from 1 on, side `A` or `M`
abbrev pub part_state_fits : Schema → ℕ → PartState → PartDef → Bool
part_state_fits schema place s part =
    s.part == part.number && nat_le 1 s.number && nat_le s.number (most_number s.state) && (s.side == 65 || s.side == 77) && standing_fits s && cursor_fits schema place part s.cursor

abbrev pub state_fits : Schema → ℕ → PartState → Bool
state_fits schema place s = option_map_or (part_state_fits schema place s) (slice_get schema.parts place) false

-- how many control blocks there are
abbrev pub control_count : Schema → ℕ
control_count schema = (length schema.parts + 31) / 32

-- the 128 bytes at a place, counted over all control blocks
abbrev pub row_in : List (List ℕ) → ℕ → List ℕ
row_in blocks place = slice_range (slice_index_or blocks (place / 32) []) (128 * (place % 32)) (128 * (place % 32) + 128)

-- the control blocks hold these states, one a partition, and zeros behind the last
pub record HasStates (schema : Schema) (blocks : List (List ℕ)) (states : List PartState) : Type 0 where
  pub many : length states ≡ length schema.parts
  pub fit : (place : ℕ) (s : PartState) → slice_get states place ≡ Some s → IsTrue (state_fits schema place s)
  pub rows : (place : ℕ) (s : PartState) → slice_get states place ≡ Some s → row_in blocks place ≡ control_row s
  pub rest : (place : ℕ) → length schema.parts ≤ place → place < 32 * control_count schema → row_in blocks place ≡ replicate 128 0
