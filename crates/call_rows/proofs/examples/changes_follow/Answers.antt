use Rattle.std.proofs.Common.{refl}
use Rattle.call_rows.proofs.examples.changes_follow.Goals as goal

pub returns : goal.returns
returns c = record { root = refl; child = refl; shown_child = refl; below_anchor = refl; replaced = refl; deleted = refl; stands_before = refl }
