use Rattle.record_walk.proofs.Setting.{new_segments_hang}
use Rattle.record_walk.proofs.walk.new_segments_hang.Goals as goal

pub returns : goal.returns
returns c = new_segments_hang
