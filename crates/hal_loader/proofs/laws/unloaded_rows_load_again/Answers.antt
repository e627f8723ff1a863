use Rattle.hal_loader.proofs.Unrefused.{loads_again}
use Rattle.hal_loader.proofs.laws.unloaded_rows_load_again.Goals as goal

pub returns : goal.returns
returns c = loads_again c.schemas_are_kept.ensures c.root_order_is_total.ensures.total c.paths_are_ancestries.ensures c.unloaded_rows_are_said.ensures
