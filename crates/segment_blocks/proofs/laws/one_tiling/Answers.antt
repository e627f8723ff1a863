use Rattle.segment_blocks.proofs.TilesOf.{tiling_is}
use Rattle.segment_blocks.proofs.OneTiling.{one_stop, not_both}
use Rattle.segment_blocks.proofs.laws.one_tiling.Goals as goal

pub returns-clause-tiling : goal.returns-clause-tiling
returns-clause-tiling c = tiling_is

pub returns-clause-stop : goal.returns-clause-stop
returns-clause-stop c = one_stop

pub returns-clause-either : goal.returns-clause-either
returns-clause-either c = not_both
