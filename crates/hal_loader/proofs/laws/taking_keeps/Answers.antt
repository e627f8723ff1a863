use Rattle.hal_loader.proofs.Takings.{taking_kept}
use Rattle.hal_loader.proofs.laws.taking_keeps.Goals as goal

pub returns : goal.returns
returns c = taking_kept c.schemas_are_kept.ensures c.insertion_keeps.ensures c.root_order_is_total.ensures.total
