use Rattle.record_walk.proofs.Setting.{cuts_hang}
use Rattle.record_walk.proofs.walk.cuts_hang.Goals as goal

pub returns : goal.returns
returns c = cuts_hang
