-- REORG lines in the language of a run: over any states that hold a list and the states of the partitions, beside any
-- language of the other lines.
use Rattle.std.specs.Prelude.{◌≡◌, ℕ, Bool, List, [], Option, None, Some, is_some, MatchOption}
use Rattle.std.specs.Option.{option_map_or}
use Rattle.hal_base.specs.declared.place.PartState.{PartState}
use Rattle.hal_schema.specs.declared.row.Row.{Row}
use Rattle.hal_schema.specs.declared.schema.Schema.{Schema}
use Rattle.call_text.specs.Reading.{line_of}
use Rattle.call_text.specs.Replying.{reply_text}
use Rattle.call_text.specs.declared.line.Command.{Command}
use Rattle.call_text.specs.declared.line.Line.{Line}
use Rattle.call_text.specs.declared.line.Line.TheVariants as lines
use Rattle.call_text.specs.declared.reply.Reply.{Reply}
use Rattle.script_runs.specs.Language.{Asked, Event, Language}
use Rattle.reorg_cursor.specs.Events.{Outcome, outcome_where}

-- where a state has its list and the states of its partitions, and how these are set; the rest of it stays then
pub record Holder (S : Type 0) : Type 0 where
  pub forest : S → List Row
  pub states : S → List PartState
  pub with_states : List PartState → S → S

-- a partition's name and a command
abbrev pub Asks : Type 0
Asks = List ℕ × Command

abbrev pub asked_by : Line → Option Asks
asked_by lines.Silent = None
asked_by (lines.Call call) = None
asked_by (lines.Open request) = None
asked_by (lines.Reorg part command) = Some (part, command)
asked_by (lines.Bad cause) = None

-- what is said of an event: nothing while the line isn't done
abbrev pub said_of : Asked → Option Reply → List ℕ
said_of asked None = []
said_of asked (Some reply) = reply_text asked.script asked.number reply

-- the outcome of a command at a state, where REORG lines are built
abbrev pub outcome_for : {S : Type 0} → Bool → Schema → Holder S → S → ℕ → Asks → Outcome
outcome_for built schema holder s free asks = outcome_where built schema (holder.forest s) (holder.states s) free asks.0 asks.1

-- the state after it is the one before with the states of the outcome; the line is done where there is a reply
pub record LeadsBy {S : Type 0} (holder : Holder S) (s : S) (event : Event S) (outcome : Outcome) : Type 0 where
  pub after : event.after ≡ holder.with_states outcome.states s
  pub done : event.done ≡ is_some outcome.reply

-- a language with REORG lines
abbrev pub with_reorg : {S : Type 0} → Bool → Schema → Holder S → Language S → Language S
with_reorg built schema holder others = record {
  reply = λ s asked.
      option_map_or (λ asks. said_of asked (outcome_for built schema holder s asked.free asks).reply) (asked_by (line_of asked.line)) (others.reply s asked);
  leads = λ s event.
      MatchOption (asked_by (line_of event.asked.line)) (others.leads s event)
      (λ asks. LeadsBy holder s event (outcome_for built schema holder s event.asked.free asks));
  need = λ s event.
      option_map_or (λ asks. (outcome_for built schema holder s event.asked.free asks).need) (asked_by (line_of event.asked.line)) (others.need s event);
}
