use Rattle.volume_head.proofs.Fronts.{one_volume}
use Rattle.volume_head.proofs.laws.volumes_are_of_one_schema.Goals as goal

pub returns : goal.returns
returns c = one_volume
