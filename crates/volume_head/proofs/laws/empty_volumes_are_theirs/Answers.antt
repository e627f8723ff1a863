use Rattle.volume_head.proofs.EmptyVolumes.{are_theirs}
use Rattle.volume_head.proofs.laws.empty_volumes_are_theirs.Goals as goal

pub returns : goal.returns
returns c = are_theirs
