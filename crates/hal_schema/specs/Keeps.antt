-- A raw definition that keeps the rules.
use Rattle.std.specs.Prelude.{◌≡◌, []}
use Rattle.std.specs.List.{slice_get}
use Rattle.hal_schema.specs.declared.raw.RawSchema.{RawSchema}
use Rattle.hal_schema.specs.Raw.{types_of}
use Rattle.hal_schema.specs.Rules.{unknown_parents, misplaced_roots, names_repeated, counts_passed, sizes_broken, sequence_broken, root_key_broken}
use Rattle.hal_schema.specs.Rules.{letters_unknown, indexes_broken, highs_broken, factors_broken, numbers_broken}

-- rules 1 to 8
pub record KeepsStatements (raw : RawSchema) : Type 0 where
  pub parents : unknown_parents raw.dbd.types ≡ []
  pub roots : misplaced_roots raw.dbd.types ≡ []
  pub names : names_repeated raw ≡ []
  pub counts : counts_passed raw ≡ []
  pub sizes : sizes_broken raw.dbd.types ≡ []
  pub sequence : sequence_broken raw.dbd.types ≡ []
  pub root_key : root_key_broken (slice_get raw.dbd.types 0) ≡ []
  pub letters : letters_unknown raw.dbd.types ≡ []

-- rules 9 to 12
pub record KeepsRest (raw : RawSchema) : Type 0 where
  pub indexes : indexes_broken (types_of raw.dbd.types) raw.dbd.indexes ≡ []
  pub highs : highs_broken (types_of raw.dbd.types) raw.parts.parts ≡ []
  pub factors : factors_broken raw.dbd raw.parts.parts ≡ []
  pub numbers : numbers_broken raw.parts ≡ []
