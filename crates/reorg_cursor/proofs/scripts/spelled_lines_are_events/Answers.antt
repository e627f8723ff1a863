use Rattle.std.proofs.Common.{ap}
use Rattle.call_text.specs.declared.line.Line.TheVariants as lines
use Rattle.reorg_cursor.specs.Lines.{asked_by}
use Rattle.reorg_cursor.proofs.Spelled.{answered}
use Rattle.reorg_cursor.proofs.scripts.spelled_lines_are_events.Goals as goal

pub returns : goal.returns
returns c c' = λ built schema holder s asked part command h. answered built schema holder s asked (part, command) (ap asked_by (c'.lines_are_spelled.ensures.only asked.line (lines.Reorg part command) h))
