use Rattle.hal_disk.proofs.RecordLemmas.{stopped_at}
use Rattle.hal_disk.proofs.mem_site.MemSite.stopped.Goals as goal

pub returns-clause-left : goal.returns-clause-left
returns-clause-left c = stopped_at c.replayed.result c.args.self.now.first c.as_slice.result.now c.args.self.now.history.items c.calls_until-calls.result.now c.args.moment c.args.kept c.args.torn c.as_slice.ensures c.calls_until-calls.ensures c.requires c.replayed.ensures
