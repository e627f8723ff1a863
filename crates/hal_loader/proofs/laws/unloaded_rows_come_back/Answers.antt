use Rattle.hal_loader.proofs.ComingsBack.{comes_back}
use Rattle.hal_loader.proofs.laws.unloaded_rows_come_back.Goals as goal

pub returns : goal.returns
returns c = comes_back c.schemas_are_kept.ensures c.root_order_is_total.ensures.total c.paths_are_ancestries.ensures c.taking_keeps.ensures c.unloaded_rows_are_said.ensures
