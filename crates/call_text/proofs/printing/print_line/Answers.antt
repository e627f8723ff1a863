use Rattle.call_text.proofs.LinesPrinted.{line_printed, line_same, line_kept}
use Rattle.call_text.proofs.printing.print_line.Goals as goal

pub returns-clause-again : goal.returns-clause-again
returns-clause-again c = λ text h short. line_printed text c.args.line.now h short

pub returns-clause-same : goal.returns-clause-same
returns-clause-same c = line_same c.args.line.now

pub returns-clause-kept : goal.returns-clause-kept
returns-clause-kept c = λ h. line_kept c.args.line.now h
