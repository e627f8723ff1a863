-- The decision of a DLET.
use Rattle.std.proofs.Common.{◌≡◌, ℕ, Bool, true, false, List, Option, None, Some, refl, sym, ◌∙◌, arith}
use Rattle.std.specs.Prelude.{codes, is_some, IsTrue}
use Rattle.std.specs.Option.{option_map_or}
use Rattle.std.proofs.lemmas.Bool.{le-ltb}
use Rattle.hal_schema.specs.declared.row.Row.{Row}
use Rattle.hal_schema.specs.declared.schema.Schema.{Schema}
use Rattle.call_text.specs.declared.line.Call.{Call}
use Rattle.position_state.specs.declared.session.Anchor.{Anchor}
use Rattle.position_state.specs.declared.session.Anchor.TheVariants.{Front, At}
use Rattle.position_state.specs.declared.session.Session.{Session}
use Rattle.position_state.specs.declared.spot.Change.{Change}
use Rattle.position_state.specs.declared.spot.Change.TheVariants.{Nothing}
use Rattle.position_state.specs.Keep.{changed, kept_session}
use Rattle.position_state.specs.Lawful.{IsLawful, Stands, is_row_of}
use Rattle.dli_calls.specs.declared.decision.Decision.{Decision}
use Rattle.dli_calls.specs.Changes.{no_name}
use Rattle.dli_calls.specs.Decided.{decision_of, held_change}
use Rattle.dli_calls.specs.Refusals.{first_that_holds, text_refusals}
use Rattle.call_changes.specs.Outcome.{carried, deletion_of, refused_with}
use Rattle.call_changes.proofs.Deciding.{IsOther, Says, refusal_is, decided_refused, is_carried}

-- what is known of a DLET that text and session don't refuse
pub record Deletes (schema : Schema) (session : Session) (call : Call) : Type 0 where
  pub only : IsOther call false false
  pub plain : session.index ≡ None
  pub text : first_that_holds (text_refusals schema session call) ≡ None

says_of : (schema : Schema) (rows : List Row) (free : ℕ) (session : Session) (call : Call) (told : Bool) → IsOther call false false → session.index ≡ None → is_some call.content ≡ told
    → Says schema rows free session call told false false false false false false false
says_of schema rows free session call told only plain same = record {
  content = simp (only.insert, only.replace) same;
  high = simp (plain, only.unique, only.insert);
  none = simp (only.get, only.insert);
  end = simp only.next;
  key = simp only.insert;
  changes = simp only.replace;
  takes = simp (only.insert, only.replace);
  room = simp (only.insert, only.replace) (le-ltb free 0 (omega arith));
}

pub decided_data : (schema : Schema) (rows : List Row) (free : ℕ) (session : Session) (call : Call) (d : Decision) → Deletes schema session call → is_some call.content ≡ true
    → d ≡ refused_with (codes "+L") None session → d ≡ decision_of schema rows free session call
decided_data schema rows free session call d q has h =
    decided_refused schema rows free session call (codes "+L") d refl refl
    (refusal_is schema rows free session call true false false false false false false false q.text (says_of schema rows free session call true q.only q.plain has)) h

-- a DLET's change is the deletion of the held row
deletes : (schema : Schema) (rows : List Row) (session : Session) (call : Call) (held : Option Anchor) → IsOther call false false
    → deletion_of held ≡ option_map_or (held_change schema rows session call) held Nothing
deletes schema rows session call None only = refl
deletes schema rows session call (Some Front) only = refl
deletes schema rows session call (Some (At name root entry)) only = sym (simp only.replace)

pub decided_delete : (schema : Schema) (rows : List Row) (free : ℕ) (session : Session) (call : Call) (change : Change) (d : Decision) → Deletes schema session call → is_some call.content ≡ false
    → change ≡ deletion_of session.held → d ≡ carried change (kept_session schema change rows (changed schema change no_name rows) session) → d ≡ decision_of schema rows free session call
decided_delete schema rows free session call change d q has same h =
    is_carried schema rows free session call false change d q.only
    (refusal_is schema rows free session call false false false false false false false false q.text (says_of schema rows free session call false q.only q.plain has))
    (same ∙ deletes schema rows session call session.held q.only) h

pub deletion_lawful : (schema : Schema) (rows : List Row) (session : Session) → Stands schema rows session → IsLawful schema rows (deletion_of session.held)
deletion_lawful schema rows session stands = by session.held stands.held
  where
    by : (held : Option Anchor) → IsTrue (is_row_of schema rows held) → IsLawful schema rows (deletion_of held)
    by None row = refl
    by (Some Front) row = refl
    by (Some (At name root entry)) row = row
