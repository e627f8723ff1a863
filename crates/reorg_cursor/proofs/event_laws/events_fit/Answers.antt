use Rattle.std.proofs.Common.{◌≡◌, ℕ, Bool, true, false, cond, List, slice_set, Some, None, inl, inr, sym, ap, subst, ◌∙◌}
use Rattle.std.specs.List.{slice_get}
use Rattle.std.proofs.lemmas.Bool.{cases_eq}
use Rattle.hal_base.specs.declared.place.PartState.{PartState}
use Rattle.hal_schema.specs.declared.row.Row.{Row}
use Rattle.hal_schema.specs.declared.schema.Schema.{Schema}
use Rattle.volume_image.specs.Control.{state_fits}
use Rattle.call_text.specs.declared.line.Command.{Command}
use Rattle.call_text.specs.declared.line.Command.TheVariants.{Start, Step, Pause, Resume, Finish, Query}
use Rattle.reorg_cursor.specs.State.{unit_refusal, ended}
use Rattle.reorg_cursor.specs.Groups.{are_all_done, stepped}
use Rattle.reorg_cursor.specs.Events.{Outcome, state_refusal, event_need, changed_by}
use Rattle.reorg_cursor.specs.Laws.{Stands, StaysFit}
use Rattle.reorg_cursor.specs.EventLaws.{AllFit}
use Rattle.reorg_cursor.proofs.EventLemmas.{event_cases, taken_is, set_same, set_other}
use Rattle.reorg_cursor.proofs.event_laws.events_fit.Goals as goal

finished_fits : (schema : Schema) (place : ℕ) (rows : List Row) (s : PartState) → StaysFit schema place rows s → unit_refusal s ≡ None → (b : Bool) → state_fits schema place (cond b (ended s) (stepped schema place rows 16 s)) ≡ true
finished_fits schema place rows s fit h true = fit.end h
finished_fits schema place rows s fit h false = fit.unit 16 h

-- what a command makes of a state, by the law on states
changed_fits : (schema : Schema) (place : ℕ) (rows : List Row) (s : PartState) → state_fits schema place s ≡ true → StaysFit schema place rows s → (command : Command) → state_refusal command s ≡ None → state_fits schema place (changed_by schema place rows s command) ≡ true
changed_fits schema place rows s fits fit Start h = fit.start h
changed_fits schema place rows s fits fit (Step k) h = fit.unit k h
changed_fits schema place rows s fits fit Pause h = fit.pause h
changed_fits schema place rows s fits fit Resume h = fit.resume h
changed_fits schema place rows s fits fit Finish h = finished_fits schema place rows s fit h (are_all_done schema place rows s.cursor)
changed_fits schema place rows s fits fit Query h = fits

fit_with : (schema : Schema) (states : List PartState) (place : ℕ) (new : PartState) → AllFit schema states → state_fits schema place new ≡ true → AllFit schema (slice_set states place new)
fit_with schema states place new fit one at s got =
    elim (cases_eq at place) [
      | inl here ↦
          let same = set_same states place new s (subst (λ (n : ℕ). slice_get (slice_set states place new) n ≡ Some s) here got) in
          subst (λ (n : ℕ). state_fits schema n s ≡ true) (sym here) (subst (λ (t : PartState). state_fits schema place t ≡ true) same one)
      | inr apart ↦ fit at s (sym (set_other states place at new apart) ∙ got)
    ]

pub returns : goal.returns
returns c = λ schema rows states free name command forest fit.
    elim (event_cases schema rows states free name command) [
      | inl refused ↦ subst (λ (l : List PartState). AllFit schema l) (sym (ap (λ (o : Outcome). o.states) refused.1)) fit
      | inr done ↦
          let s = done.state in
          let fits = fit done.place s done.at in
          let taken = taken_is (state_refusal command s) free (event_need schema done.place rows s command) done.taken in
          let stands : Stands schema done.place rows s = record { forest = forest; fits = fits } in
          let new = changed_fits schema done.place rows s fits (c.states_fit.ensures schema done.place rows s stands) command taken.state in
          subst (λ (l : List PartState). AllFit schema l) (sym (ap (λ (o : Outcome). o.states) done.is)) (fit_with schema states done.place (changed_by schema done.place rows s command) fit new)
    ]
