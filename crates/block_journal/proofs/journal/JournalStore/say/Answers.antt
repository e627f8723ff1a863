use Rattle.std.proofs.Common.{refl, ap, option_map}
use Rattle.block_journal.specs.Commit.{last_byte}
use Rattle.block_journal.specs.Redo.{put_all, redone}
use Rattle.block_journal.specs.Stands.{told_where}
use Rattle.block_journal.proofs.Standing.{say_stands, say_steady, say_stops, say_room-by}
use Rattle.block_journal.proofs.journal.JournalStore.say.Goals as goal

pub invariant_of-self-clause-stands : goal.invariant_of-self-clause-stands
invariant_of-self-clause-stands g c = λ live. say_stands c.args.self.now.first c.args.self.now.count c.args.self.now.kept.items (g.T.Site.image c.args.self.now.site) (g.T.Site.image c.say.new.self) c.args.text.now (g.T.Site.moment c.args.self.now.site) (g.T.Site.moment c.say.new.self) (g.T.Site.left_at c.args.self.now.site) (g.T.Site.left_at c.say.new.self) (c.args.self.now.stands c.requires) c.say.ensures.image c.say.ensures.stops

pub returns-clause-says : goal.returns-clause-says
returns-clause-says g c = record {
  said = c.say.ensures.said;
  part = c.say.ensures.part;
  untold = c.say.ensures.untold;
  list = ap (λ i. told_where i (put_all c.args.self.now.staged.entries c.args.self.now.kept.items)) c.say.ensures.image;
  committed = ap (λ i. told_where i c.args.self.now.kept.items) c.say.ensures.image;
  standing = ap (option_map (redone c.args.self.now.first c.args.self.now.count)) c.say.ensures.image;
  number = refl;
  stops = say_stops c.args.self.now.first c.args.self.now.count c.args.self.now.kept.items (g.T.Site.image c.args.self.now.site) (g.T.Site.said c.args.self.now.site) c.args.text.now (g.T.Site.moment c.args.self.now.site) (g.T.Site.moment c.say.new.self) (g.T.Site.left_at c.args.self.now.site) (g.T.Site.left_at c.say.new.self) (c.args.self.now.stands c.requires) (λ x s left. g.met.T.Site.said_now c.args.self.now.site x s left) c.say.ensures.stops;
  cause = c.say.ensures.cause;
  disk_faults = c.say.ensures.disk_faults;
  room = say_room-by (last_byte c.args.self.now.first c.args.self.now.count) (g.T.Site.room c.args.self.now.site) (g.T.Site.room c.say.new.self) (g.T.Site.say_faults c.args.self.now.site) (g.T.Site.say_faults c.say.new.self) _ _ c.say.ensures.room (λ r enough fits. fits);
  fetches = refl;
  clean = refl;
  live = c.requires;
}

pub returns-clause-steady : goal.returns-clause-steady
returns-clause-steady g c = say_steady c.args.self.now.first c.args.self.now.count c.args.self.now.kept.items (g.T.Site.image c.args.self.now.site) (g.T.Site.image c.say.new.self) c.args.text.now (c.args.self.now.stands c.requires) c.say.ensures.image c.say.ensures.stops
