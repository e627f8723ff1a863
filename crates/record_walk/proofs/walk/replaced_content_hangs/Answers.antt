use Rattle.record_walk.proofs.Setting.{replaced_content_hangs}
use Rattle.record_walk.proofs.walk.replaced_content_hangs.Goals as goal

pub returns : goal.returns
returns c = replaced_content_hangs
