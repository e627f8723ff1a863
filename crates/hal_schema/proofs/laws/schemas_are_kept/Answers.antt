use Rattle.hal_schema.proofs.Facts.{schema_is_kept}
use Rattle.hal_schema.proofs.laws.schemas_are_kept.Goals as goal

pub returns : goal.returns
returns c = schema_is_kept
