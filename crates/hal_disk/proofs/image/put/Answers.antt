use Rattle.std.proofs.Common.{◌∙◌, ◌+◌, List, ℕ, length, take, drop, ◌++◌, ap}
use Rattle.hal_base.proofs.ImageLemmas.{filled_any}
use Rattle.hal_disk.proofs.image.put.Goals as goal

pub returns-clause-written : goal.returns-clause-written
returns-clause-written c =
    c.write_over.ensures.items
    ∙ ap (λ (l : List ℕ). take c.args.at l ++ c.args.content.now ++ drop (c.args.at + length c.args.content.now) l) c.in_ok-fill_up.ensures.filled
    ∙ filled_any c.args.at c.args.content.now c.args.image.now.items
