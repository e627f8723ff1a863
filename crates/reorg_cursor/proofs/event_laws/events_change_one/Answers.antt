use Rattle.std.proofs.Common.{ℕ, Some, inl, inr, sym, ap, ◌∙◌}
use Rattle.std.specs.List.{slice_get}
use Rattle.reorg_cursor.specs.Events.{Outcome, changed_by}
use Rattle.reorg_cursor.proofs.EventLemmas.{event_cases, set_other}
use Rattle.reorg_cursor.proofs.event_laws.events_change_one.Goals as goal

pub returns : goal.returns
returns c = λ schema rows states free name command place other.
    elim (event_cases schema rows states free name command) [
      | inl refused ↦ ap (λ (o : Outcome). slice_get o.states place) refused.1
      | inr done ↦ ap (λ (o : Outcome). slice_get o.states place) done.is
          ∙ set_other states done.place place (changed_by schema done.place rows done.state command) (λ e. other (done.named ∙ ap (λ (n : ℕ). Some n) (sym e)))
    ]
