-- The volume of a schema without records, as `define` writes it: each partition is idle and each data block free. IMS
-- HALDB sets a partition so when it is initialized.
use Rattle.std.specs.Prelude.{◌≡◌, ⊤, ℕ, ◌*◌, ◌≤◌, List, ◌++◌, length, flat_map, replicate, Option, Result, Ok, Err}
use Rattle.hal_base.specs.declared.place.Cursor.TheVariants.{Front}
use Rattle.hal_base.specs.declared.place.PartState.{PartState}
use Rattle.hal_base.specs.Disk.{written}
use Rattle.hal_base.specs.Room.{HasRoom}
use Rattle.hal_base.specs.Stops.{IsTold, LeavesOnly}
use Rattle.hal_schema.specs.declared.schema.PartDef.{PartDef}
use Rattle.hal_schema.specs.declared.schema.Schema.{Schema}
use Rattle.volume_image.specs.Control.{control_row}
use Rattle.volume_head.specs.declared.fault.WriteFault.{WriteFault}
use Rattle.volume_head.specs.declared.fault.WriteFault.TheVariants as faults
use Rattle.volume_head.specs.Head.{IsMarked, canonical_text, front_of, in_blocks, most_text}
use Rattle.volume_head.specs.Definition.{IsCanonical, IsVolumeOf}

-- idle (`I`), on side `A`, of reorganization number 1
abbrev pub first_state : PartDef → PartState
first_state part = record { part = part.number; number = 1; side = 65; state = 73; cursor = Front }

abbrev pub first_row : PartDef → List ℕ
first_row part = control_row (first_state part)

-- the control rows, in the order of the partitions
abbrev pub control_rows : Schema → List ℕ
control_rows schema = flat_map first_row schema.parts

-- all before the data blocks: the head, the gate, the definition and the control blocks
abbrev pub before_data : Schema → List ℕ
before_data schema = front_of schema ++ in_blocks (control_rows schema)

-- and the data blocks, which are zeros
abbrev pub empty_volume : Schema → List ℕ
empty_volume schema = before_data schema ++ replicate (4096 * schema.blocks) 0

-- What an answer tells of the image that was there: a volume is never written over. A fault of the disk tells nothing.
abbrev pub TellsMark : {X : Type 0} → Result X WriteFault → List ℕ → Type 0
TellsMark (Ok x) image = IsMarked image → ⊥
TellsMark (Err faults.Holds) image = IsMarked image
TellsMark (Err faults.DiskFault) image = ⊤
TellsMark (Err faults.Memory) image = IsMarked image → ⊥

-- calls that write an image of so many bytes: what was said stays said, and each stop leaves it
pub record OnlyWrites {S : Type 0} (said : S → Option (List ℕ)) (moment : S → ℕ) (left_at : S → ℕ → List ℕ → List ℕ → Type 0)
    (disk_faults say_faults : S → ℕ) (room : S → Option (ℕ × ℕ)) (bytes : ℕ) (old new : S) : Type 0 where
  pub said_stays : said new ≡ said old
  pub stops : LeavesOnly (moment old) (moment new) (left_at old) (left_at new) (λ image text. IsTold (said old) text)
  pub later : disk_faults old ≤ disk_faults new
  pub says : say_faults new ≡ say_faults old
  pub fits : HasRoom (room old) (room new) (disk_faults old) (disk_faults new) (λ room. bytes ≤ room.0)

-- a stop leaves the image that is told, and no other
abbrev pub IsDurable : (ℕ → List ℕ → List ℕ → Type 0) → ℕ → Option (List ℕ) → Type 0
IsDurable left_at moment image = (bytes text : List ℕ) → left_at moment bytes text → IsTold image bytes

-- what is written over an image is the volume of its schema
abbrev pub AreTheirs : Type 0
AreTheirs = (schema : Schema) (image : List ℕ) → IsCanonical (canonical_text schema) schema → length (canonical_text schema) ≤ most_text → IsVolumeOf schema (written 0 (empty_volume schema) image)
