use Rattle.std.proofs.Common.{◌==◌, List, length, refl, ap, arith}
use Rattle.hal_base.proofs.StoreLemmas.{say_room_none}
use Rattle.hal_base.proofs.StopLemmas.{not_yet}
use Rattle.block_journal.specs.Change.{Change}
use Rattle.block_journal.specs.Commit.{last_byte}
use Rattle.block_journal.specs.Stands.{say_room}
use Rattle.block_journal.specs.JournalLaw.{none_list}
use Rattle.block_journal.proofs.Standing.{none_rise}
use Rattle.block_journal.proofs.journal.JournalStore.forget.Goals as goal

pub invariant_of-self-clause-rise : goal.invariant_of-self-clause-rise
invariant_of-self-clause-rise g c = none_rise c.args.self.now.count c.clear.new.self.entries c.clear.ensures.empty

pub returns-clause-forgets : goal.returns-clause-forgets
returns-clause-forgets g c = record {
  list = none_list (g.T.Site.image c.args.self.now.site) c.clear.new.self.entries c.args.self.now.kept.items c.clear.ensures.empty;
  cleaned = ap (λ (l : List Change). length l == 0) c.clear.ensures.empty;
  same = record {
    number = refl;
    committed = refl;
    standing = refl;
    said = refl;
    stops = not_yet (g.T.Site.moment c.args.self.now.site) _ _;
    say_faults = refl;
    room = say_room_none (say_room (last_byte c.args.self.now.first c.args.self.now.count) (g.T.Site.room c.args.self.now.site)) (g.T.Site.disk_faults c.args.self.now.site) _;
    fetches = omega arith;
  };
  no_call = record { moment = refl; stops = not_yet (g.T.Site.moment c.args.self.now.site) _ _; disk_faults = refl };
  fetches = refl;
  live = c.requires;
}
