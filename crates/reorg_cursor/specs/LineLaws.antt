-- What REORG lines are, by the grammar of lines.
use Rattle.std.specs.Prelude.{◌≡◌, ◌↔◌, ℕ, Bool, true, false, List, []}
use Rattle.hal_schema.specs.declared.schema.Schema.{Schema}
use Rattle.call_text.specs.Replying.{reply_text}
use Rattle.call_text.specs.Spelling.{Spells}
use Rattle.call_text.specs.declared.line.Command.{Command}
use Rattle.call_text.specs.declared.line.Line.TheVariants as lines
use Rattle.script_runs.specs.Language.{Asked, Event}
use Rattle.reorg_cursor.specs.Events.{Outcome, unbuilt_reply}
use Rattle.reorg_cursor.specs.Lines.{Holder, LeadsBy, said_of, outcome_for}
use Rattle.reorg_cursor.specs.Taking.{reorg_alone}

-- what a line is answered, what it leads to, and what it needs, are those of an outcome
pub record IsAnswered (S : Type 0) (built : Bool) (schema : Schema) (holder : Holder S) (s : S) (asked : Asked) (outcome : Outcome) : Type 0 where
  pub reply : (reorg_alone built schema holder).reply s asked ≡ said_of asked outcome.reply
  pub leads : (event : Event S) → event.asked ≡ asked → (reorg_alone built schema holder).leads s event ↔ LeadsBy holder s event outcome
  pub need : (event : Event S) → event.asked ≡ asked → (reorg_alone built schema holder).need s event ≡ outcome.need

-- A text that spells a REORG line of a partition and a command has their outcome.
abbrev pub SpelledLinesAreEvents : Type 0 → Type 0
SpelledLinesAreEvents S = (built : Bool) (schema : Schema) (holder : Holder S) (s : S) (asked : Asked) (part : List ℕ) (command : Command)
    → Spells asked.line (lines.Reorg part command)
    → IsAnswered S built schema holder s asked (outcome_for built schema holder s asked.free (part, command))

-- Any other text is a line of the other language: here it is passed over.
pub record IsPassed (S : Type 0) (built : Bool) (schema : Schema) (holder : Holder S) (s : S) (asked : Asked) : Type 0 where
  pub reply : (reorg_alone built schema holder).reply s asked ≡ []
  pub after : (event : Event S) → event.asked ≡ asked → (reorg_alone built schema holder).leads s event → event.after ≡ s
  pub done : (event : Event S) → event.asked ≡ asked → (reorg_alone built schema holder).leads s event → event.done ≡ true

abbrev pub OtherLinesArePassed : Type 0 → Type 0
OtherLinesArePassed S = (built : Bool) (schema : Schema) (holder : Holder S) (s : S) (asked : Asked)
    → ((part : List ℕ) (command : Command) → Spells asked.line (lines.Reorg part command) → ⊥) → IsPassed S built schema holder s asked

-- Where REORG lines aren't built yet, each is done with `+B 9`, changes nothing and needs no block.
pub record IsUnbuilt (S : Type 0) (schema : Schema) (holder : Holder S) (s : S) (asked : Asked) : Type 0 where
  pub reply : (reorg_alone false schema holder).reply s asked ≡ reply_text asked.script asked.number unbuilt_reply
  pub done : (event : Event S) → event.asked ≡ asked → (reorg_alone false schema holder).leads s event → event.done ≡ true
  pub states : (event : Event S) → event.asked ≡ asked → (reorg_alone false schema holder).leads s event → event.after ≡ holder.with_states (holder.states s) s

abbrev pub UnbuiltLinesAreRefused : Type 0 → Type 0
UnbuiltLinesAreRefused S = (schema : Schema) (holder : Holder S) (s : S) (asked : Asked) (part : List ℕ) (command : Command)
    → Spells asked.line (lines.Reorg part command) → IsUnbuilt S schema holder s asked
