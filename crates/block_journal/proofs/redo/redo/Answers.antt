use Rattle.block_journal.proofs.Made.{made_waits, made_later}
use Rattle.block_journal.proofs.OpeningSteps.{redo_start, read_to_redo}
use Rattle.block_journal.proofs.redo.redo.Goals as goal
use Rattle.block_journal.specs.JournalLaw.{are_whole}

pub returns-in_err-changes-clause-stops : goal.returns-in_err-changes-clause-stops
returns-in_err-changes-clause-stops g c = made_waits (redo_start c.args.first c.args.count c.requires.exact) c.read_body.ensures.leaves.stops

pub redo_changes-requires-clause-whole : goal.redo_changes-requires-clause-whole
redo_changes-requires-clause-whole g c = are_whole 0 c.args.count c.in_ok-changes.changes.entries c.in_ok-changes.ensures.rise

pub redo_changes-requires-clause-redo : goal.redo_changes-requires-clause-redo
redo_changes-requires-clause-redo g c = read_to_redo c.args.first c.args.count c.in_ok-changes.changes.entries (g.T.Site.image c.args.site.now) (g.T.Site.image c.read_body.new.site) c.in_ok-changes.ensures.body c.requires.opened c.read_body.ensures.leaves.same

pub returns-in_err-redo_changes-clause-stops : goal.returns-in_err-redo_changes-clause-stops
returns-in_err-redo_changes-clause-stops g c = made_later (redo_start c.args.first c.args.count c.requires.exact) c.read_body.ensures.leaves.same c.read_body.ensures.leaves.stops c.redo_changes.ensures.stops

pub returns-clause-stops : goal.returns-clause-stops
returns-clause-stops g c = made_later (redo_start c.args.first c.args.count c.requires.exact) c.read_body.ensures.leaves.same c.read_body.ensures.leaves.stops c.redo_changes.ensures.stops
