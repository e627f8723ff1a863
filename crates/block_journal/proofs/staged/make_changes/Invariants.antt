use Rattle.std.proofs.Common.{◌≡◌, length}
use Rattle.block_journal.specs.Placing.{AreWhole}
use Rattle.block_journal.specs.Redo.{put_all}
use Rattle.block_journal.proofs.staged.make_changes.Given as goal

abbrev pub invariant-loop-number : goal.invariant-loop-number
invariant-loop-number l = record {
  made : put_all l.number-iterator l.blocks.items ≡ put_all l.changes.entries l.initial.blocks.items;
  whole : AreWhole (length l.initial.blocks.items) l.number-iterator;
  many : length l.blocks.items ≡ length l.initial.blocks.items;
}
