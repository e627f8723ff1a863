-- What refusals and gets leave.
use Rattle.std.proofs.Common.{◌≡◌, ℕ, Bool, true, false, cond, List, Option, None, Some, refl, sym, ap, subst, ◌∙◌}
use Rattle.std.specs.Prelude.{codes}
use Rattle.std.specs.Option.{option_map_or}
use Rattle.std.specs.Str.{bytes_eq}
use Rattle.position_state.specs.declared.session.Anchor.TheVariants.{Front}
use Rattle.position_state.specs.declared.session.Session.{Session}
use Rattle.position_state.specs.declared.spot.Change.TheVariants.{Nothing, Heal}
use Rattle.position_state.specs.Keep.{changed}
use Rattle.dli_calls.specs.declared.decision.Decision.{Decision}
use Rattle.dli_calls.specs.Ssas.{entry_named}
use Rattle.dli_calls.specs.Gets.{OnPath, got}
use Rattle.dli_calls.specs.Refusals.{is_insert, allows, refusal_of}
use Rattle.dli_calls.specs.Decided.{unheld, refused, found, inserts, changes_held, carried_out}
use Rattle.dli_calls.specs.Laws.{LeavesAll, RefusalsLeave, GetsLeaveTheList}

pub refusals_leave : RefusalsLeave
refusals_leave schema rows free session call status e =
    subst (λ (d : Decision). LeavesAll status session d) (sym (ap (λ o. option_map_or (refused schema rows session call) o (carried_out schema rows session call)) e))
    (record {
      said = refl;
      change = refl;
      hold = unheld_by (bytes_eq status (codes "GB"));
      stays = λ n. ap (λ b. let s : Session = cond b (record session { anchor = Front; held = None; parent = None }) (unheld session) in s) n;
    })
  where
    unheld_by : (b : Bool) → (let s : Session = cond b (record session { anchor = Front; held = None; parent = None }) (unheld session) in s.held ≡ None)
    unheld_by true = refl
    unheld_by false = refl

pub gets_leave_the_list : GetsLeaveTheList
gets_leave_the_list schema rows free session call name g = by (refusal_of schema rows free session call)
  where
    healed : (b : Bool) (o : Option ℕ) (key : List ℕ) → changed schema (cond b (option_map_or (λ index. Heal index key) o Nothing) Nothing) name rows ≡ rows
    healed true (Some index) key = refl
    healed true None key = refl
    healed false o key = refl

    got_one : (o : Option OnPath) → (let d : Decision = option_map_or (found schema rows session call) o (refused schema rows session call (codes "GE")) in changed schema d.change name rows ≡ rows)
    got_one None = refl
    got_one (Some p) = healed (allows (codes "IRDA") session) session.index (entry_named p.1.at)

    by : (o : Option (List ℕ)) → (let d : Decision = option_map_or (refused schema rows session call) o (carried_out schema rows session call) in changed schema d.change name rows ≡ rows)
    by (Some status) = refl
    by None =
        ap (λ b. let d : Decision = cond b (option_map_or (found schema rows session call) (got schema rows call session) (refused schema rows session call (codes "GE"))) (cond (is_insert call) (inserts schema rows session call) (changes_held schema rows session call)) in changed schema d.change name rows) g
        ∙ got_one (got schema rows call session)
