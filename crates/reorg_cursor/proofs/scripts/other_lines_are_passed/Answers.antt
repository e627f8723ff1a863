use Rattle.reorg_cursor.proofs.Spelled.{passed, none_asked}
use Rattle.reorg_cursor.proofs.scripts.other_lines_are_passed.Goals as goal

pub returns : goal.returns
returns c c' = λ built schema holder s asked not_reorg. passed built schema holder s asked (none_asked asked.line (c'.lines_are_spelled.ensures.found asked.line) not_reorg)
