use Rattle.std.proofs.Common.{◌≡◌, ◌*◌, length, take, drop}
use Rattle.volume_head.specs.Calls.{OnlyReads}
use Rattle.volume_head.specs.Reading.{Told}
use Rattle.volume_head.proofs.read.read_blocks.Given as goal

abbrev pub invariant-loop-number : goal.invariant-loop-number
invariant-loop-number g l = record {
  told : Told (g.T.Site.image l.fn.site) (λ image. take (4096 * l.number) (drop l.at image) ≡ l.bytes);
  long : length l.bytes ≡ 4096 * l.number;
  leaves : OnlyReads g.T.Site.image g.T.Site.said g.T.Site.moment g.T.Site.left_at g.T.Site.disk_faults g.T.Site.say_faults g.T.Site.room l.fn.site l.site;
}
