-- The raw definition that the canonical texts of a schema say.
use Rattle.std.specs.Prelude.{ℕ, List, [], ◌∷◌, Some}
use Rattle.hal_schema.specs.declared.raw.RawPart.{RawPart}
use Rattle.hal_schema.specs.declared.raw.RawParts.{RawParts}
use Rattle.hal_schema.specs.declared.schema.PartDef.{PartDef}
use Rattle.hal_schema.specs.declared.schema.Schema.{Schema}
use Rattle.partition_reader.specs.Tables.{next_place}

abbrev pub raw_part : ℕ → PartDef → RawPart
raw_part place p = record { name = p.name; number = p.number; high = p.high; anchors = Some p.anchors; fbff = p.fbff; fspf = p.fspf; place = place }

-- partitions in the order of their high keys, whose places count from 1
abbrev pub raw_parts_from : ℕ → List PartDef → List RawPart
raw_parts_from place [] = []
raw_parts_from place (p ∷ more) = raw_part place p ∷ raw_parts_from (next_place place) more

abbrev pub raw_parts_of : Schema → RawParts
raw_parts_of s = record { blocks = s.blocks; parts = raw_parts_from 1 s.parts }
