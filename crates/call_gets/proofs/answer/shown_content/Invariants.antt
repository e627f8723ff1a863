use Rattle.std.proofs.Common.{◌≡◌, ◌++◌, drop}
use Rattle.call_gets.proofs.Showing.{shown_of}
use Rattle.call_gets.proofs.answer.shown_content.Given as goal

abbrev pub invariant-loop-above : goal.invariant-loop-above
invariant-loop-above l = shown_of l.schema l.ssas l.level l.met.above.items ≡ l.content ++ shown_of l.schema l.ssas l.level (drop l.above-index l.met.above.items)
