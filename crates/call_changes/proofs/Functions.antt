-- Calls by their functions: what gets change, and a function that isn't one.
use Rattle.std.proofs.Common.{◌≡◌, ℕ, Bool, true, false, not, cond, ◌||◌, List, Option, None, Some, refl, sym, ap, subst, ◌∙◌}
use Rattle.std.specs.Prelude.{codes}
use Rattle.std.specs.Option.{option_map_or}
use Rattle.hal_schema.specs.declared.row.Row.{Row}
use Rattle.hal_schema.specs.declared.schema.Schema.{Schema}
use Rattle.call_text.specs.declared.line.Call.{Call}
use Rattle.position_state.specs.declared.session.Session.{Session}
use Rattle.position_state.specs.declared.spot.Change.{Change}
use Rattle.position_state.specs.declared.spot.Change.TheVariants.{Nothing, Heal}
use Rattle.position_state.specs.AfterChange.{LooksUpTo}
use Rattle.position_state.specs.Lawful.{IsLawful}
use Rattle.position_state.specs.Looks.{WalkView}
use Rattle.dli_calls.specs.declared.decision.Decision.{Decision}
use Rattle.dli_calls.specs.Decided.{carried_out, changes_held, decision_of, found, inserts, refused}
use Rattle.dli_calls.specs.Gets.{OnPath, got, is_get}
use Rattle.dli_calls.specs.Refusals.{allows, first_that_holds, is_delete, is_insert, is_replace, refusal_of, text_refusals}
use Rattle.dli_calls.specs.Ssas.{entry_named}
use Rattle.call_gets.specs.Scan.{LooksOn}
use Rattle.call_changes.specs.Outcome.{OnlyLooks}

pub looks_of_on : {f : Type 0} {a b : WalkView} → LooksOn f a b → OnlyLooks f a b
looks_of_on looks = record { faults = looks.faults; schema = looks.schema; forest = looks.forest; free = looks.free }

pub looks_of_up : {f : Type 0} {n : ℕ} {a b : WalkView} → LooksUpTo n f a b → OnlyLooks f a b
looks_of_up looks = record { faults = looks.faults; schema = looks.schema; forest = looks.forest; free = looks.free }

-- a get in hierarchic sequence changes nothing
pub get_changes : (schema : Schema) (rows : List Row) (free : ℕ) (session : Session) (call : Call) → session.index ≡ None → is_get call ≡ true → (decision_of schema rows free session call).change ≡ Nothing
get_changes schema rows free session call plain get = by (refusal_of schema rows free session call)
  where
    heals : (b : Bool) (p : OnPath) → cond b (option_map_or (λ index. Heal index (entry_named p.1.at)) session.index Nothing) Nothing ≡ Nothing
    heals true p = ap (λ (o : Option ℕ). option_map_or (λ index. Heal index (entry_named p.1.at)) o Nothing) plain
    heals false p = refl

    of_got : (o : Option OnPath) → (option_map_or (found schema rows session call) o (refused schema rows session call (codes "GE"))).change ≡ Nothing
    of_got None = refl
    of_got (Some p) = heals (allows (codes "IRDA") session) p

    by : (o : Option (List ℕ)) → (option_map_or (refused schema rows session call) o (carried_out schema rows session call)).change ≡ Nothing
    by (Some status) = refl
    by None =
        ap (λ b. (cond b (option_map_or (found schema rows session call) (got schema rows call session) (refused schema rows session call (codes "GE"))) (cond (is_insert call) (inserts schema rows session call) (changes_held schema rows session call))).change) get
        ∙ of_got (got schema rows call session)

pub get_lawful : (schema : Schema) (rows : List Row) (free : ℕ) (session : Session) (call : Call) (d : Decision) → session.index ≡ None → is_get call ≡ true → d ≡ decision_of schema rows free session call → IsLawful schema rows d.change
get_lawful schema rows free session call d plain get h = subst (λ (c : Change). IsLawful schema rows c) (sym (ap (λ (d : Decision). d.change) h ∙ get_changes schema rows free session call plain get)) refl

-- a function that isn't one
says_first : {b : Bool} (status : List ℕ) (rest : Option (List ℕ)) → b ≡ true → cond b (Some status) rest ≡ Some status
says_first {b = true} status rest h = refl
says_first {b = false} status rest h = absurd (let no : ⊥ = cc in no)

pub no_function : (schema : Schema) (session : Session) (call : Call) → is_get call ≡ false → is_insert call ≡ false → is_replace call ≡ false → is_delete call ≡ false → first_that_holds (text_refusals schema session call) ≡ Some (codes "AD")
no_function schema session call get insert replace delete =
    says_first (codes "AD") _
    (ap not (ap (λ b. b || is_insert call || is_replace call || is_delete call) get ∙ ap (λ b. b || is_replace call || is_delete call) insert ∙ ap (λ b. b || is_delete call) replace ∙ delete))
