-- The front of a volume: the head, the gate's block, and the definition. A block has 4,096 bytes.
use Rattle.std.specs.Prelude.{◌≡◌, ℕ, ◌+◌, ◌-◌, ◌*◌, ◌/◌, List, ◌++◌, length, take, replicate, codes}
use Rattle.std.specs.Int.{w16, w32, to_be_bytes}
use Rattle.hal_schema.specs.declared.schema.Schema.{Schema}
use Rattle.definition_printer.specs.Dbd.{dbd_text}
use Rattle.definition_printer.specs.Partitions.{partitions_text}

-- the bytes that a volume begins with
abbrev pub mark : List ℕ
mark = codes "HALDBV01"

abbrev pub IsMarked : List ℕ → Type 0
IsMarked image = take 8 image ≡ mark

-- the definition of a volume: the DBD text, and the partition file behind it
unfoldable pub canonical_text : Schema → List ℕ
canonical_text schema = dbd_text schema ++ partitions_text schema

-- how many blocks so many bytes take
abbrev pub blocks_for : ℕ → ℕ
blocks_for n = (n + 4095) / 4096

-- a text with zeros up to the end of its last block
abbrev pub in_blocks : List ℕ → List ℕ
in_blocks text = text ++ replicate (4096 * blocks_for (length text) - length text) 0

-- the mark, how many data blocks the volume has, how long its definition is, and how many partitions it has
abbrev pub head_front : ℕ → ℕ → ℕ → List ℕ
head_front blocks text parts = mark ++ to_be_bytes w32 blocks ++ to_be_bytes w32 text ++ to_be_bytes w16 parts

abbrev pub head_bytes : ℕ → ℕ → ℕ → List ℕ
head_bytes blocks text parts = head_front blocks text parts ++ replicate 4078 0

abbrev pub head_of : Schema → List ℕ
head_of schema = head_bytes schema.blocks (length (canonical_text schema)) (length schema.parts)

-- the head, the gate's block, and the definition
abbrev pub front_of : Schema → List ℕ
front_of schema = head_of schema ++ replicate 4096 0 ++ in_blocks (canonical_text schema)

-- where the control blocks begin
abbrev pub first_of : Schema → ℕ
first_of schema = 8192 + 4096 * blocks_for (length (canonical_text schema))

-- The most bytes that a definition may have. Its length stands in four bytes of the head.
abbrev pub most_text : ℕ
most_text = 67108864
