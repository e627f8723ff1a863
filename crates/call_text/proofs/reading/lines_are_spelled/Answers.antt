use Rattle.std.proofs.Common.{refl}
use Rattle.call_text.specs.Reading.{line_of}
use Rattle.call_text.proofs.FirstFaults.{line_caused}
use Rattle.call_text.proofs.LinesAgain.{line_again}
use Rattle.call_text.proofs.LinesTaken.{line_taken}
use Rattle.call_text.proofs.reading.lines_are_spelled.Goals as goal

pub returns-clause-found : goal.returns-clause-found
returns-clause-found c = λ text h. line_taken text (line_of text) refl h

pub returns-clause-only : goal.returns-clause-only
returns-clause-only c = line_again

pub returns-clause-cause : goal.returns-clause-cause
returns-clause-cause c = λ text. line_caused text (line_of text) refl
