use Rattle.std.proofs.Common.{refl}
use Rattle.reorg_cursor.proofs.examples.reorganizations_are_examples.Goals as goal

pub returns : goal.returns
returns c = record { forests = (refl, refl, refl); fit = (refl, refl, refl); steps = refl; wanting = refl; idle = refl; active = refl; paused = refl; last_number = refl; finish = refl; anchors = refl; one_anchor = refl }
