use Rattle.std.proofs.Common.{◌≡◌, ◌≤◌, ℕ, option_map}
use Rattle.hal_base.specs.Room.{HasRoom}
use Rattle.hal_base.specs.Stops.{LeavesOnly}
use Rattle.block_journal.specs.Device.{Became}
use Rattle.block_journal.specs.Placing.{AreWhole, IsOutside, Places, PlacedFrom}
use Rattle.block_journal.specs.Redo.{journal_start, put_image}
use Rattle.block_journal.proofs.device.write_blocks.Given as goal

abbrev pub invariant-loop-number : goal.invariant-loop-number
invariant-loop-number g l = record {
  image : option_map (put_image l.first l.number-iterator) (g.T.Site.image l.site) ≡ option_map (put_image l.first l.changes.entries) (g.T.Site.image l.fn.site);
  whole : AreWhole l.count l.number-iterator;
  among : (i : ℕ) → IsOutside l.first l.changes.entries i → IsOutside l.first l.number-iterator i;
  told : Became (Places l.first l.count l.changes.entries) (g.T.Site.image l.fn.site) (g.T.Site.image l.site);
  said : g.T.Site.said l.site ≡ g.T.Site.said l.fn.site;
  stops : LeavesOnly (g.T.Site.moment l.fn.site) (g.T.Site.moment l.site) (g.T.Site.left_at l.fn.site) (g.T.Site.left_at l.site) (PlacedFrom (g.T.Site.left_at l.fn.site (g.T.Site.moment l.fn.site)) l.first l.count l.changes.entries);
  faults : g.T.Site.disk_faults l.fn.site ≤ g.T.Site.disk_faults l.site;
  say_faults : g.T.Site.say_faults l.site ≡ g.T.Site.say_faults l.fn.site;
  room : HasRoom (g.T.Site.room l.fn.site) (g.T.Site.room l.site) (g.T.Site.disk_faults l.fn.site) (g.T.Site.disk_faults l.site) (λ room. journal_start l.first l.count ≤ room.0);
}
