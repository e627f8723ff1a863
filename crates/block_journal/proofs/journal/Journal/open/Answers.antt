use Rattle.std.proofs.Common.{◌∙◌, ◌==◌, List, length, refl, ap}
use Rattle.block_journal.specs.Change.{Change}
use Rattle.block_journal.proofs.OpeningSteps.{opened_list}
use Rattle.block_journal.proofs.Standing.{none_rise}
use Rattle.block_journal.specs.JournalLaw.{none_list}
use Rattle.block_journal.proofs.journal.Journal.open.Goals as goal

pub invariant_of-result-clause-rise : goal.invariant_of-result-clause-rise
invariant_of-result-clause-rise g c = none_rise c.args.count c.new.result.entries c.new.ensures.empty

pub returns-in-Ok-clause-opened : goal.returns-in-Ok-clause-opened
returns-in-Ok-clause-opened g c =
    let committed = opened_list c.args.first c.args.count c.in-Ok.kept.items (g.T.Site.image c.args.site) (g.T.Site.image c.load.new.site) (g.T.Site.left_at c.load.new.site (g.T.Site.moment c.load.new.site)) c.load.ensures.told c.in-Ok.ensures.redone c.in-Ok.ensures.stands in
    record {
      committed = committed;
      list = none_list (g.T.Site.image c.load.new.site) c.new.result.entries c.in-Ok.kept.items c.new.ensures.empty ∙ committed;
      at_first = refl;
      number = refl;
      live = refl;
      clean = ap (λ (l : List Change). length l == 0) c.new.ensures.empty;
      fetches = refl;
      redone_is = c.in-Ok.ensures.redone;
      sound = c.in-Ok.ensures.sound;
    }
