-- What texts of lines lead to, by the grammar.
use Rattle.std.proofs.Common.{◌≡◌, ℕ, Bool, true, false, List, [], Option, None, Some, refl, sym, ap, subst}
use Rattle.std.specs.Prelude.{MatchOption}
use Rattle.std.specs.Option.{option_map_or}
use Rattle.hal_schema.specs.declared.schema.Schema.{Schema}
use Rattle.call_text.specs.Printed.{HasForm}
use Rattle.call_text.specs.Reading.{line_of}
use Rattle.call_text.specs.Spelling.{Spells}
use Rattle.call_text.specs.declared.line.Command.{Command}
use Rattle.call_text.specs.declared.line.Line.{Line}
use Rattle.call_text.specs.declared.line.Line.TheVariants as lines
use Rattle.script_runs.specs.Language.{Asked, Event}
use Rattle.reorg_cursor.specs.Lines.{Holder, Asks, LeadsBy, asked_by, said_of, outcome_for}
use Rattle.reorg_cursor.specs.LineLaws.{IsAnswered, IsPassed, IsUnbuilt}

-- of what a text asks
pub answered : {S : Type 0} (built : Bool) (schema : Schema) (holder : Holder S) (s : S) (asked : Asked) (asks : Asks) → asked_by (line_of asked.line) ≡ Some asks
    → IsAnswered S built schema holder s asked (outcome_for built schema holder s asked.free asks)
answered {S} built schema holder s asked asks e = record {
  reply = ap (λ (o : Option Asks). option_map_or (λ a. said_of asked (outcome_for built schema holder s asked.free a).reply) o []) e;
  leads = λ event same. (leads event same, leads_back event same);
  need = λ event same. subst (λ (a : Asked). option_map_or (λ x. (outcome_for built schema holder s a.free x).need) (asked_by (line_of a.line)) 0 ≡ (outcome_for built schema holder s asked.free asks).need) (sym same)
      (ap (λ (o : Option Asks). option_map_or (λ x. (outcome_for built schema holder s asked.free x).need) o 0) e);
}
  where
    Led : Event S → Asked → Option Asks → Type 0
    Led event a o = MatchOption o ((event.after ≡ s) × (event.done ≡ true)) (λ x. LeadsBy holder s event (outcome_for built schema holder s a.free x))

    leads : (event : Event S) → event.asked ≡ asked → Led event event.asked (asked_by (line_of event.asked.line)) → LeadsBy holder s event (outcome_for built schema holder s asked.free asks)
    leads event same h = subst (λ (o : Option Asks). Led event asked o) e (subst (λ (a : Asked). Led event a (asked_by (line_of a.line))) same h)

    leads_back : (event : Event S) → event.asked ≡ asked → LeadsBy holder s event (outcome_for built schema holder s asked.free asks) → Led event event.asked (asked_by (line_of event.asked.line))
    leads_back event same h = subst (λ (a : Asked). Led event a (asked_by (line_of a.line))) (sym same) (subst (λ (o : Option Asks). Led event asked o) (sym e) h)

pub passed : {S : Type 0} (built : Bool) (schema : Schema) (holder : Holder S) (s : S) (asked : Asked) → asked_by (line_of asked.line) ≡ None → IsPassed S built schema holder s asked
passed {S} built schema holder s asked e = record {
  reply = ap (λ (o : Option Asks). option_map_or (λ a. said_of asked (outcome_for built schema holder s asked.free a).reply) o []) e;
  after = λ event same h. (led event same h).0;
  done = λ event same h. (led event same h).1;
}
  where
    Led : Event S → Asked → Option Asks → Type 0
    Led event a o = MatchOption o ((event.after ≡ s) × (event.done ≡ true)) (λ x. LeadsBy holder s event (outcome_for built schema holder s a.free x))

    led : (event : Event S) → event.asked ≡ asked → Led event event.asked (asked_by (line_of event.asked.line)) → (event.after ≡ s) × (event.done ≡ true)
    led event same h = subst (λ (o : Option Asks). Led event asked o) e (subst (λ (a : Asked). Led event a (asked_by (line_of a.line))) same h)

-- a text that spells no REORG line asks nothing
pub none_asked : (text : List ℕ) → (HasForm (line_of text) → Spells text (line_of text)) → ((part : List ℕ) (command : Command) → Spells text (lines.Reorg part command) → ⊥) → asked_by (line_of text) ≡ None
none_asked text found not_reorg = by_line (line_of text) found
  where
    by_line : (line : Line) → (HasForm line → Spells text line) → asked_by line ≡ None
    by_line lines.Silent h = refl
    by_line (lines.Call call) h = refl
    by_line (lines.Open request) h = refl
    by_line (lines.Reorg part command) h = absurd (not_reorg part command (h tt))
    by_line (lines.Bad cause) h = refl

pub unbuilt : {S : Type 0} (schema : Schema) (holder : Holder S) (s : S) (asked : Asked) (asks : Asks) → asked_by (line_of asked.line) ≡ Some asks → IsUnbuilt S schema holder s asked
unbuilt schema holder s asked asks e =
    let a = answered false schema holder s asked asks e in
    record {
      reply = a.reply;
      done = λ event same h. ((a.leads event same).0 h).done;
      states = λ event same h. ((a.leads event same).0 h).after;
    }
