use Rattle.std.proofs.Common.{◌≡◌, ◌+◌, ◌*◌, ◌++◌, ℕ, List, Option, length, replicate}
use Rattle.std.specs.Option.{option_map}
use Rattle.hal_base.specs.Disk.{written}
use Rattle.volume_head.specs.Empty.{OnlyWrites}
use Rattle.volume_head.proofs.write.write_zeros.Given as goal

abbrev pub invariant-loop-number : goal.invariant-loop-number
invariant-loop-number g l = record {
  written : (start : ℕ) (bytes : List ℕ) (before : Option (List ℕ)) → l.at ≡ start + length bytes → g.T.Site.image l.fn.site ≡ option_map (written start bytes) before
      → g.T.Site.image l.site ≡ option_map (written start (bytes ++ replicate (4096 * l.number) 0)) before;
  leaves : OnlyWrites g.T.Site.said g.T.Site.moment g.T.Site.left_at g.T.Site.disk_faults g.T.Site.say_faults g.T.Site.room (l.at + 4096 * l.blocks) l.fn.site l.site;
}
