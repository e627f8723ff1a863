use Rattle.std.proofs.Common.{◌≡◌, ◌≤◌, ◌+◌, ◌*◌, ℕ, List, Some, length}
use Rattle.std.specs.Prelude.{All}
use Rattle.block_journal.specs.Device.{Looks}
use Rattle.block_journal.specs.Redo.{blocks_at}
use Rattle.block_journal.proofs.open.read_blocks.Given as goal

abbrev pub invariant-loop-number : goal.invariant-loop-number
invariant-loop-number g l = record {
  blocks : (y : List ℕ) → g.T.Site.image l.fn.site ≡ Some y → l.first + 4096 * l.count ≤ length y → l.blocks.items ≡ blocks_at l.first l.number y;
  many : length l.blocks.items ≡ l.number;
  whole : All (λ block. length block ≡ 4096) l.blocks.items;
  leaves : Looks g.T.Site.image g.T.Site.said g.T.Site.moment g.T.Site.left_at g.T.Site.disk_faults g.T.Site.say_faults g.T.Site.room l.fn.site l.site;
}
