use Rattle.std.proofs.Common.{refl}
use Rattle.std.specs.Fmt.{digits}
use Rattle.call_text.specs.Printing.{printed_value}
use Rattle.call_text.specs.Reading.{line_of, form_at, name_at, reorg_at, command_at, count_at}
use Rattle.reorg_cursor.proofs.scripts.needs_are_examples.Goals as goal

pub returns : goal.returns
unfolding line_of form_at name_at reorg_at command_at count_at printed_value digits
returns c = record { forests = (refl, refl, refl); targets = refl; enough = refl; spaced = refl; both = refl }
