use Rattle.std.proofs.Common.{◌≡◌, length, rules}
use Rattle.block_journal.proofs.Standing.{staged_rise, staged_list}
use Rattle.block_journal.proofs.journal.JournalBlocks.stage.Goals as goal

pub invariant_of-self-clause-rise : goal.invariant_of-self-clause-rise
invariant_of-self-clause-rise g c =
    let long : length c.args.from.now ≡ 4096 = search (rules, c.told-from) in
    staged_rise c.insert.result c.args.self.now.count c.args.n c.args.from.now c.args.self.now.staged.entries c.insert.new.self.entries c.insert.ensures.entries c.insert.ensures.err c.requires.below long c.args.self.now.rise

pub returns-in-Ok-clause-list : goal.returns-in-Ok-clause-list
returns-in-Ok-clause-list g c = staged_list (g.T.Site.image c.args.self.now.site) c.args.self.now.count c.args.n c.args.from.now c.args.self.now.staged.entries c.insert.new.self.entries c.args.self.now.kept.items c.in-Ok.ensures.entries c.args.self.now.rise
