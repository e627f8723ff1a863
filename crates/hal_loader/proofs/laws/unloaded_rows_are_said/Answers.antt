use Rattle.hal_loader.proofs.Unloadings.{unloaded_said}
use Rattle.hal_loader.proofs.laws.unloaded_rows_are_said.Goals as goal

pub returns : goal.returns
returns c = unloaded_said
