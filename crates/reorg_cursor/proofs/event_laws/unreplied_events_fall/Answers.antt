use Rattle.std.proofs.Common.{◌<◌, length, inl, inr, sym, ap, subst, ◌∙◌}
use Rattle.std.specs.List.{slice_get}
use Rattle.hal_base.specs.declared.place.PartState.{PartState}
use Rattle.reorg_cursor.specs.Groups.{groups_left}
use Rattle.reorg_cursor.specs.Events.{Outcome, changed_by, is_last, state_reply, refused_reply}
use Rattle.reorg_cursor.specs.Laws.{Stands}
use Rattle.reorg_cursor.proofs.EventLemmas.{event_cases, set_here, unit_is, no_reply, some_reply}
use Rattle.reorg_cursor.proofs.event_laws.unreplied_events_fall.Goals as goal

pub returns : goal.returns
returns c = λ schema rows states free name command forest fit silent.
    elim (event_cases schema rows states free name command) [
      | inl refused ↦ absurd (some_reply (refused_reply refused.0) (sym (ap (λ (o : Outcome). o.reply) refused.1) ∙ silent))
      | inr done ↦
          let s = done.state in
          let new = changed_by schema done.place rows s command in
          let last = no_reply (is_last schema done.place rows s command) (state_reply name new) (sym (ap (λ (o : Outcome). o.reply) done.is) ∙ silent) in
          let unit = unit_is schema done.place rows s command last in
          let stands : Stands schema done.place rows s = record { forest = forest; fits = fit done.place s done.at } in
          let falls = (c.finish_ends.ensures schema done.place rows s stands).fewer unit.more in (
            unit.finish,
            record {
              place = done.place;
              old = s;
              new = new;
              was = done.at;
              is = ap (λ (o : Outcome). slice_get o.states done.place) done.is ∙ set_here states done.place new s done.at;
              fewer = subst (λ (t : PartState). length (groups_left schema done.place rows t.cursor) < length (groups_left schema done.place rows s.cursor)) (sym unit.change) falls;
            },
          )
    ]
