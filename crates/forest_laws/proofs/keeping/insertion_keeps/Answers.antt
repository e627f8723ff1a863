use Rattle.forest_laws.proofs.InsertionKeeps.{insertion_kept}
use Rattle.forest_laws.proofs.keeping.insertion_keeps.Goals as goal

pub returns : goal.returns
returns c = insertion_kept c.schemas_are_kept.ensures c.root_order_is_total.ensures.total
