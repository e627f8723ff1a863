-- Each line is answered by one that ends.
use Rattle.std.proofs.Common.{◌≡◌, ℕ, List, [], ◌∷◌, ◌++◌, Option, refl}
use Rattle.call_text.specs.Reading.{line_of}
use Rattle.call_text.specs.Replying.{reply_text}
use Rattle.call_text.specs.declared.line.Line.{Line}
use Rattle.call_text.specs.declared.line.Line.TheVariants.{Silent, Call, Open, Reorg, Bad}
use Rattle.call_text.specs.declared.reply.Reply.{Reply}
use Rattle.hal_schema.specs.declared.schema.Schema.{Schema}
use Rattle.script_runs.specs.Language.{Asked}
use Rattle.call_runs.specs.declared.state.CallState.{CallState}
use Rattle.call_runs.specs.Laws.{EachLineIsAnswered}
use Rattle.call_runs.specs.Lines.{bad_reply, line_reply}
use Rattle.call_runs.specs.Sessions.{open_reply}
use Rattle.call_runs.specs.Steps.{call_reply}

abbrev Ends : List ℕ → Type 0
Ends text = (words : List ℕ) × (text ≡ words ++ 10 ∷ [])

reply_ends : (script : Option ℕ) (number : ℕ) (reply : Reply) → Ends (reply_text script number reply)
reply_ends script number reply = (_, refl)

pub each_ends : EachLineIsAnswered
each_ends schema state asked silent reorg = by (line_of asked.line) refl
  where
    by : (line : Line) → line_of asked.line ≡ line → Ends (line_reply schema state asked line)
    by Silent is = absurd (silent is)
    by (Call call) is = reply_ends asked.script asked.number (call_reply schema state asked.script asked.free call)
    by (Open request) is = reply_ends asked.script asked.number (open_reply schema state.sessions asked.script request)
    by (Reorg part command) is = absurd (reorg part command is)
    by (Bad cause) is = reply_ends asked.script asked.number (bad_reply cause)
