use Rattle.record_walk.specs.OneProof.{IsSide-prop}
use Rattle.record_walk.proofs.one_proof.sides_have_one_proof.Goals as goal

pub returns : goal.returns
returns c = IsSide-prop
