use Rattle.hal_loader.proofs.Keepings.{loading_kept}
use Rattle.hal_loader.proofs.laws.loading_keeps.Goals as goal

pub returns : goal.returns
returns c = loading_kept c.schemas_are_kept.ensures c.taking_keeps.ensures
