-- What is read of the front of an image.
use Rattle.std.specs.Prelude.{◌≡◌, ℕ, ◌*◌, ◌<◌, ◌≤◌, Bool, true, false, List, length, take, drop, Option, Some, None, Result, Ok, Err}
use Rattle.std.specs.Int.{w32, from_be_bytes}
use Rattle.hal_schema.specs.declared.schema.Schema.{Schema}
use Rattle.definition_text.specs.Builds.{IsDefinitionOf}
use Rattle.volume_head.specs.declared.fault.HeadFault.{HeadFault}
use Rattle.volume_head.specs.declared.fault.HeadFault.TheVariants as faults
use Rattle.volume_head.specs.Head.{IsMarked, canonical_text, head_of, in_blocks, most_text}
use Rattle.volume_head.specs.Definition.{BreaksFront}

-- this holds of the image that is told
abbrev pub Told : Option (List ℕ) → (List ℕ → Type 0) → Type 0
Told image P = (bytes : List ℕ) → image ≡ Some bytes → P bytes

-- how long the definition is, as the head says it
abbrev pub length_in : List ℕ → ℕ
length_in head = from_be_bytes w32 (take 4 (drop 12 head))

-- Why no definition is read: the mark isn't there, or it is and the head and the definition are those of no schema.
-- A fault of the disk and want of memory say nothing of the image.
abbrev pub IsWhy : HeadFault → List ℕ → Type 0
IsWhy faults.NotAVolume image = IsMarked image → ⊥
IsWhy faults.Damaged image = IsMarked image × BreaksFront image
IsWhy faults.DiskFault image = Unit {0}
IsWhy faults.Memory image = Unit {0}

-- what is read is so in the image, or why it isn't
abbrev pub Reads : {X : Type 0} → (X → List ℕ → Type 0) → Result X HeadFault → List ℕ → Type 0
Reads P (Ok x) image = P x image
Reads P (Err why) image = IsWhy why image

-- the block that an image begins with, and its mark
abbrev pub IsHead : List ℕ → List ℕ → Type 0
IsHead head image = IsMarked image × (take 4096 image ≡ head)

-- the block at a byte, or false where the image ends before the block does
abbrev pub IsBlockAt : ℕ → List ℕ → Bool → List ℕ → Type 0
IsBlockAt at block true image = take 4096 (drop at image) ≡ block
IsBlockAt at block false image = length (drop at image) < 4096

-- so many blocks from a byte on, or none where the image ends before the last one does
abbrev pub AreBlocksAt : ℕ → ℕ → Option (List ℕ) → List ℕ → Type 0
AreBlocksAt at count (Some bytes) image = take (4096 * count) (drop at image) ≡ bytes
AreBlocksAt at count None image = length (drop at image) < 4096 * count

-- a head and the blocks of a definition, which are those of this schema
pub record IsFrontOf (schema : Schema) (head bytes : List ℕ) : Type 0 where
  pub head_is : head ≡ head_of schema
  pub short : length (canonical_text schema) ≤ most_text
  pub definition : bytes ≡ in_blocks (canonical_text schema)
  pub reads : IsDefinitionOf (canonical_text schema) schema

-- they are those of no schema whose canonical text has so many bytes
abbrev pub IsNoFront : ℕ → List ℕ → List ℕ → Type 0
IsNoFront text head bytes = (schema : Schema) → IsFrontOf schema head bytes → length (canonical_text schema) ≡ text → ⊥
