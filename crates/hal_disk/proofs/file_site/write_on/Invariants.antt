use Rattle.std.proofs.Common.{length, ◌-◌, ◌≤◌}
use Rattle.hal_disk.proofs.file_site.write_on.Given as goal

abbrev pub invariant-loop-count : goal.invariant-loop-count
invariant-loop-count g l = l.count ≤ length l.content

abbrev pub decreases-loop-count : goal.decreases-loop-count
decreases-loop-count g l = length l.content - l.count
