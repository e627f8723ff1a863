-- The language of lines: PCB lines, calls, REORG lines, and lines that can't be read.
use Rattle.std.specs.Prelude.{◌≡◌, ℕ, Bool, true, List, [], codes, None, Some}
use Rattle.hal_base.specs.declared.place.PartState.{PartState}
use Rattle.hal_schema.specs.declared.row.Row.{Row}
use Rattle.hal_schema.specs.declared.schema.Schema.{Schema}
use Rattle.call_text.specs.Reading.{line_of}
use Rattle.call_text.specs.Replying.{reply_text}
use Rattle.call_text.specs.declared.line.Line.{Line}
use Rattle.call_text.specs.declared.line.Line.TheVariants.{Silent, Call, Open, Reorg, Bad}
use Rattle.call_text.specs.declared.reply.Reply.{Reply}
use Rattle.script_runs.specs.Language.{Asked, Event, Language}
use Rattle.script_runs.specs.Stops.{Keeping}
use Rattle.script_runs.specs.Taken.{Meaning}
use Rattle.reorg_cursor.specs.Lines.{Holder, with_reorg}
use Rattle.call_runs.specs.declared.state.CallState.{CallState}
use Rattle.call_runs.specs.Sessions.{open_reply, opened}
use Rattle.call_runs.specs.Steps.{call_reply, CallLeads, call_need}

-- `+B` with its cause
abbrev pub bad_reply : ℕ → Reply
bad_reply cause = record { status = codes "+B"; seg = None; part = None; number = Some cause }

abbrev pub said : Asked → Reply → List ℕ
said asked reply = reply_text asked.script asked.number reply

-- what is said to a line that is no REORG line; nothing to a silent one
abbrev pub line_reply : Schema → CallState → Asked → Line → List ℕ
line_reply schema state asked Silent = []
line_reply schema state asked (Call call) = said asked (call_reply schema state asked.script asked.free call)
line_reply schema state asked (Open request) = said asked (open_reply schema state.sessions asked.script request)
line_reply schema state asked (Reorg part command) = []
line_reply schema state asked (Bad cause) = said asked (bad_reply cause)

abbrev pub LineLeads : Schema → CallState → Asked → Line → CallState → Type 0
LineLeads schema state asked Silent after = after ≡ state
LineLeads schema state asked (Call call) after = CallLeads schema state asked.script asked.free call after
LineLeads schema state asked (Open request) after = after ≡ record state { sessions = opened schema state.sessions asked.script request }
LineLeads schema state asked (Reorg part command) after = after ≡ state
LineLeads schema state asked (Bad cause) after = after ≡ state

abbrev pub line_need : Schema → CallState → Asked → Line → ℕ
line_need schema state asked (Call call) = call_need schema state asked.script asked.free call
line_need schema state asked line = 0

-- all lines but REORG lines, each of which is done at once
abbrev pub calls : Schema → Language CallState
calls schema = record {
  reply = λ state asked. line_reply schema state asked (line_of asked.line);
  leads = λ state event. LineLeads schema state event.asked (line_of event.asked.line) event.after × (event.done ≡ true);
  need = λ state event. line_need schema state event.asked (line_of event.asked.line);
}

abbrev pub holder : Holder CallState
holder = record { forest = λ state. state.forest; states = λ state. state.parts; with_states = λ parts state. record state { parts = parts } }

-- with REORG lines; where they aren't built yet, each is answered `+B 9`
abbrev pub lines : Bool → Schema → Language CallState
lines built schema = with_reorg built schema holder (calls schema)

-- what lines mean over blocks that hold a state so
abbrev pub meaning_of : Bool → Schema → Keeping CallState → Meaning CallState
meaning_of built schema keeping = record { language = lines built schema; keeping = keeping; rows = λ state. state.forest; parts = λ state. state.parts }
