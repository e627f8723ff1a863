-- What lines leave alone.
use Rattle.std.specs.Prelude.{◌≡◌, ℕ, Bool, true, List, [], ◌∷◌, ◌++◌}
use Rattle.hal_schema.specs.declared.schema.Schema.{Schema}
use Rattle.call_text.specs.Reading.{line_of}
use Rattle.call_text.specs.declared.line.Call.{Call as Asked_call}
use Rattle.call_text.specs.declared.line.Line.TheVariants.{Silent, Call, Reorg}
use Rattle.call_text.specs.declared.line.Command.{Command}
use Rattle.script_runs.specs.Language.{Asked, Event}
use Rattle.call_runs.specs.declared.state.CallState.{CallState}
use Rattle.call_runs.specs.Lines.{calls, lines}

-- a line that is no call leaves the list, and one that is neither a call nor a PCB line the sessions too
abbrev pub OtherLinesLeaveTheList : Type 0
OtherLinesLeaveTheList = (built : Bool) (schema : Schema) (state : CallState) (event : Event CallState)
    → ((call : Asked_call) → line_of event.asked.line ≡ Call call → ⊥) → (lines built schema).leads state event → event.after.forest ≡ state.forest

-- each line is answered by one that ends, but for silent ones and REORG lines
abbrev pub EachLineIsAnswered : Type 0
EachLineIsAnswered = (schema : Schema) (state : CallState) (asked : Asked)
    → (line_of asked.line ≡ Silent → ⊥) → ((part : List ℕ) (command : Command) → line_of asked.line ≡ Reorg part command → ⊥)
    → (words : List ℕ) × ((calls schema).reply state asked ≡ words ++ 10 ∷ [])
