use Rattle.std.proofs.Common.{◌≡◌, sym, ◌∙◌}
use Rattle.std.proofs.lemmas.Result.{IfOk-weaker}
use Rattle.call_text.specs.declared.line.Line.{Line}
use Rattle.call_text.specs.Printed.{HasForm}
use Rattle.call_text.specs.Spelling.{Spells}
use Rattle.call_text.specs.Reading.{line_of}
use Rattle.call_text.specs.Faults.{IsCaused}
use Rattle.call_text.proofs.FirstFaults.{line_caused}
use Rattle.call_text.proofs.LinesAgain.{line_again}
use Rattle.call_text.proofs.LinesTaken.{line_taken}
use Rattle.call_text.proofs.reading.read_line.Goals as goal

pub returns-clause-found : goal.returns-clause-found
returns-clause-found c = IfOk-weaker c.read.result (λ (read : Line). read ≡ line_of c.args.line.now) (λ (read : Line). HasForm read → Spells c.args.line.now read) (λ read e h. line_taken c.args.line.now read (sym e) h) c.read.ensures

pub returns-clause-only : goal.returns-clause-only
returns-clause-only c = λ form h. IfOk-weaker c.read.result (λ (read : Line). read ≡ line_of c.args.line.now) (λ (read : Line). read ≡ form) (λ read e. e ∙ line_again c.args.line.now form h) c.read.ensures

pub returns-clause-cause : goal.returns-clause-cause
returns-clause-cause c = IfOk-weaker c.read.result (λ (read : Line). read ≡ line_of c.args.line.now) (λ (read : Line). IsCaused c.args.line.now read) (λ read e. line_caused c.args.line.now read (sym e)) c.read.ensures
