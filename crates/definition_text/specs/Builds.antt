-- A text whose definition, read and built, is a schema.
use Rattle.std.specs.Prelude.{◌≡◌, ℕ, List, drop, None, Ok}
use Rattle.hal_schema.specs.declared.raw.RawSchema.{RawSchema}
use Rattle.hal_schema.specs.declared.schema.Schema.{Schema}
use Rattle.hal_schema.specs.Built.{IsSchemaOf}
use Rattle.hal_schema.specs.Rules.{first_fault}
use Rattle.dbd_reader.specs.Definition.{meaning_of}
use Rattle.partition_reader.specs.Partitions.{partitions_of}

-- a raw definition that breaks no rule, and says this schema and no other
pub record Builds (raw : RawSchema) (schema : Schema) : Type 0 where
  pub kept : first_fault raw ≡ None
  pub said : IsSchemaOf raw schema
  pub alone : (other : Schema) → IsSchemaOf raw other → other ≡ schema

-- the DBD text, and the partition file behind its END line, read as such a raw definition
pub record IsDefinitionOf (text : List ℕ) (schema : Schema) : Type 0 where
  pub raw : RawSchema
  pub behind : ℕ
  pub dbd : meaning_of text ≡ Ok (raw.dbd, behind)
  pub parts : partitions_of (drop behind text) ≡ Ok raw.parts
  pub builds : Builds raw schema
