use Rattle.std.proofs.Common.{◌≤◌, inl, inr, sym, ap, subst, arith}
use Rattle.std.proofs.lemmas.Bool.{ltb-false}
use Rattle.reorg_cursor.specs.Events.{Outcome, state_refusal, event_need}
use Rattle.reorg_cursor.proofs.EventLemmas.{event_cases, taken_is}
use Rattle.reorg_cursor.proofs.event_laws.needs_are_free.Goals as goal

pub returns : goal.returns
returns c = λ schema rows states free name command.
    elim (event_cases schema rows states free name command) [
      | inl refused ↦ subst (λ n. n ≤ free) (sym (ap (λ (o : Outcome). o.need) refused.1)) (omega arith)
      | inr done ↦
          let need = event_need schema done.place rows done.state command in
          let taken = taken_is (state_refusal command done.state) free need done.taken in
          subst (λ n. n ≤ free) (sym (ap (λ (o : Outcome). o.need) done.is)) (ltb-false free need taken.room)
    ]
