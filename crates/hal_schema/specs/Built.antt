-- The schema that a raw definition says, and why it says none.
use Rattle.std.specs.Prelude.{◌≡◌}
use Rattle.hal_schema.specs.declared.raw.RawSchema.{RawSchema}
use Rattle.hal_schema.specs.declared.schema.Schema.{Schema}
use Rattle.hal_schema.specs.Raw.{types_of, indexes_of, parts_of, rm_of, anch_of, rbn_of}

pub record IsSchemaOf (raw : RawSchema) (schema : Schema) : Type 0 where
  pub name : schema.name ≡ raw.dbd.name
  pub phdam : schema.phdam ≡ raw.dbd.phdam
  pub rm : schema.rm ≡ rm_of raw.dbd
  pub anch : schema.anch ≡ anch_of raw.dbd
  pub rbn : schema.rbn ≡ rbn_of raw.dbd
  pub types : schema.types ≡ types_of raw.dbd.types
  pub indexes : schema.indexes ≡ indexes_of (types_of raw.dbd.types) raw.dbd.indexes
  pub parts : schema.parts ≡ parts_of raw.dbd raw.parts.parts
  pub blocks : schema.blocks ≡ raw.parts.blocks
