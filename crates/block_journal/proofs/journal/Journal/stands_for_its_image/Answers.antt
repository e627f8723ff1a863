use Rattle.std.proofs.Common.{◌∙◌, sym, ap, option_map}
use Rattle.block_journal.specs.Redo.{redone}
use Rattle.block_journal.specs.JournalLaw.{standing_is}
use Rattle.block_journal.proofs.journal.Journal.stands_for_its_image.Goals as goal

pub returns-clause-committed : goal.returns-clause-committed
returns-clause-committed g c = λ image told.
    let j = c.args.self.now in
    sym (standing_is j.first j.count j.kept.items (g.T.Site.image j.site) (g.T.Site.left_at j.site (g.T.Site.moment j.site)) (j.stands c.requires)) ∙ ap (option_map (redone j.first j.count)) told
