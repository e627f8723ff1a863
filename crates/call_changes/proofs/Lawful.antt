-- The change of every decision is one that calls may make.
use Rattle.std.proofs.Common.{◌≡◌, ℕ, ◌==◌, Bool, true, false, not, cond, ◌||◌, List, Option, None, Some, refl, subst}
use Rattle.std.specs.Prelude.{codes, nat_lt, is_some}
use Rattle.std.specs.List.{list_any}
use Rattle.std.specs.Option.{option_map}
use Rattle.std.specs.Str.{bytes_eq}
use Rattle.hal_schema.specs.declared.row.Row.{Row}
use Rattle.hal_schema.specs.declared.schema.Schema.{Schema}
use Rattle.hal_schema.specs.SegType.{key_in}
use Rattle.call_text.specs.declared.line.Call.{Call}
use Rattle.position_state.specs.declared.session.Session.{Session}
use Rattle.position_state.specs.declared.spot.Spot.{Spot}
use Rattle.position_state.specs.Keep.{changed, kept_session}
use Rattle.position_state.specs.Lawful.{IsLawful, Stands}
use Rattle.position_state.specs.View.{plain_element}
use Rattle.dli_calls.specs.declared.decision.Decision.{Decision}
use Rattle.dli_calls.specs.Changes.{content_for, held_row, inserted_code, no_name}
use Rattle.dli_calls.specs.Decided.{decision_of}
use Rattle.dli_calls.specs.Gets.{is_get}
use Rattle.dli_calls.specs.Refusals.{asks_high_root, first_that_holds, is_delete, is_insert, is_replace, text_refusals}
use Rattle.call_gets.specs.Scan.{plain_view}
use Rattle.call_gets.proofs.Stepping.{Differ}
use Rattle.call_changes.specs.Inserts.{is_high_root, placed_below, wanted_parent}
use Rattle.call_changes.specs.Moves.{MayHave, moved_entries, replaced_by, replaced_row}
use Rattle.call_changes.specs.Outcome.{carried, deletion_of, refused_with, replacement_of}
use Rattle.call_changes.proofs.Deciding.{decided_text, only_delete, only_insert, only_replace}
use Rattle.call_changes.proofs.Deleting.{Deletes, decided_delete, deletion_lawful}
use Rattle.call_changes.proofs.Deleting as deleting
use Rattle.call_changes.proofs.Functions.{get_lawful, no_function}
use Rattle.call_changes.proofs.Inserting.{Inserts, decided_high, decided_parent, decided_placed}
use Rattle.call_changes.proofs.Inserting as inserting
use Rattle.call_changes.proofs.Parenting.{or_off, pathed, stands_below}
use Rattle.call_changes.proofs.Placing.{placed_lawful}
use Rattle.call_changes.proofs.Replacing.{OnPath, Replaces, content_long, decided_key_of, decided_replace_of, may_have, no_fit, no_row, row_lawful}
use Rattle.call_changes.proofs.Replacing as replacing

abbrev Decides : Schema → List Row → ℕ → Session → Call → Type 0
Decides schema rows free session call = IsLawful schema rows (decision_of schema rows free session call).change

decided : (schema : Schema) (rows : List Row) (free : ℕ) (session : Session) (call : Call) (d : Decision) → d ≡ decision_of schema rows free session call → IsLawful schema rows d.change → Decides schema rows free session call
decided schema rows free session call d e h = subst (λ (d : Decision). IsLawful schema rows d.change) e h

refused_so : (schema : Schema) (rows : List Row) (free : ℕ) (session : Session) (call : Call) (status : List ℕ) → refused_with status None session ≡ decision_of schema rows free session call → Decides schema rows free session call
refused_so schema rows free session call status e = decided schema rows free session call (refused_with status None session) e refl

-- what text and session refuse
by_text : (schema : Schema) (rows : List Row) (free : ℕ) (session : Session) (call : Call) (status : List ℕ) → first_that_holds (text_refusals schema session call) ≡ Some status → Decides schema rows free session call
by_text schema rows free session call status e = refused_so schema rows free session call status (decided_text schema rows free session call status (refused_with status None session) e refl)

-- ---- ISRT

insert_lawful : (schema : Schema) (rows : List Row) (free : ℕ) (session : Session) (call : Call) → Differ (plain_view schema rows) → session.index ≡ None → is_insert call ≡ true → Decides schema rows free session call
insert_lawful schema rows free session call d plain insert = by (first_that_holds (text_refusals schema session call)) refl
  where
    code : ℕ
    code = inserted_code schema call

    parent : Option Spot
    parent = wanted_parent schema rows call session

    of_parent : (content : List ℕ) → Inserts schema session call code → content_for schema code call ≡ Some content → (list_any (asks_high_root schema) call.ssas || is_high_root schema code content) ≡ false
        → (b : Bool) → (code == 1 || is_some parent) ≡ b → Decides schema rows free session call
    of_parent content q fits low false e =
        refused_so schema rows free session call (codes "GE")
        (decided_parent schema rows free session call code parent content (refused_with (codes "GE") None session) q (record { parent = refl; content = fits }) low e refl)
    of_parent content q fits low true e =
        decided schema rows free session call (placed_below schema rows free session code parent content)
        (decided_placed schema rows free session call code parent content (placed_below schema rows free session code parent content) q
        (record { asked = record { parent = refl; content = fits }; high = low; parent = e }) refl)
        (placed_lawful schema rows free session code parent content (stands_below schema rows session call code parent d (pathed schema session call insert q.text) refl refl e)
        (content_long schema code call content fits) (or_off (list_any (asks_high_root schema) call.ssas) (is_high_root schema code content) low).1)

    of_high : (content : List ℕ) → Inserts schema session call code → content_for schema code call ≡ Some content → (b : Bool) → (list_any (asks_high_root schema) call.ssas || is_high_root schema code content) ≡ b
        → Decides schema rows free session call
    of_high content q fits true e = refused_so schema rows free session call (codes "FM") (decided_high schema rows free session call code content (refused_with (codes "FM") None session) q fits e refl)
    of_high content q fits false e = of_parent content q fits e (code == 1 || is_some parent) refl

    of_content : Inserts schema session call code → (o : Option (List ℕ)) → content_for schema code call ≡ o → Decides schema rows free session call
    of_content q None e = refused_so schema rows free session call (codes "+L") (inserting.decided_data schema rows free session call code (refused_with (codes "+L") None session) q e refl)
    of_content q (Some content) e = of_high content q e (list_any (asks_high_root schema) call.ssas || is_high_root schema code content) refl

    by : (o : Option (List ℕ)) → first_that_holds (text_refusals schema session call) ≡ o → Decides schema rows free session call
    by (Some status) e = by_text schema rows free session call status e
    by None e = of_content (record { only = only_insert call insert; plain = plain; text = e; code = refl }) (content_for schema code call) refl

-- ---- REPL

replaced_lawful : (schema : Schema) (rows : List Row) (free : ℕ) (session : Session) (row : Spot) (content : List ℕ) → Stands schema rows session → MayHave schema rows session row content
    → IsLawful schema rows (replaced_row schema rows free session row content).change
replaced_lawful schema rows free session row content stands may = by (moved_entries schema.types rows row content schema.indexes) refl
  where
    of_room : (need : ℕ) (b : Bool) → moved_entries schema.types rows row content schema.indexes ≡ Some need
        → (let d : Decision = cond b (refused_with (codes "+R") (Some need) session) (carried (replacement_of session.held content) (kept_session schema (replacement_of session.held content) rows (changed schema (replacement_of session.held content) no_name rows) session)) in
        IsLawful schema rows d.change)
    of_room need true e = refl
    of_room need false e = row_lawful schema rows session row content need stands may e

    by : (o : Option ℕ) → moved_entries schema.types rows row content schema.indexes ≡ o → IsLawful schema rows (replaced_by schema rows free session content o).change
    by None e = refl
    by (Some need) e = of_room need (nat_lt free need) e

replace_lawful : (schema : Schema) (rows : List Row) (free : ℕ) (session : Session) (call : Call) → session.index ≡ None → Stands schema rows session → is_replace call ≡ true → Decides schema rows free session call
replace_lawful schema rows free session call plain stands replace = by (first_that_holds (text_refusals schema session call)) refl
  where
    shown : Option Spot
    shown = option_map (λ (p : OnPath). plain_element schema.types p.0 p.1) (held_row schema rows session)

    of_key : (row : Spot) (content : List ℕ) → Replaces schema session call → Some row ≡ shown → content_for schema row.code call ≡ Some content
        → (b : Bool) → not (bytes_eq (key_in schema.types row.code content) (key_in schema.types row.code row.content)) ≡ b → Decides schema rows free session call
    of_key row content q is fits true e =
        refused_so schema rows free session call (codes "DA") (decided_key_of schema rows free session call row content (refused_with (codes "DA") None session) q is fits e refl)
    of_key row content q is fits false e =
        decided schema rows free session call (replaced_row schema rows free session row content) (decided_replace_of schema rows free session call row content (replaced_row schema rows free session row content) q is fits e refl)
        (replaced_lawful schema rows free session row content stands (may_have schema rows session call row content is fits e))

    of_content : (row : Spot) → Replaces schema session call → Some row ≡ shown → (o : Option (List ℕ)) → content_for schema row.code call ≡ o → Decides schema rows free session call
    of_content row q is None e =
        refused_so schema rows free session call (codes "+L") (replacing.decided_data schema rows free session call (refused_with (codes "+L") None session) q (no_fit schema rows session call row is e) refl)
    of_content row q is (Some content) e = of_key row content q is e (not (bytes_eq (key_in schema.types row.code content) (key_in schema.types row.code row.content))) refl

    of_row : Replaces schema session call → (o : Option Spot) → o ≡ shown → Decides schema rows free session call
    of_row q None e = refused_so schema rows free session call (codes "+L") (replacing.decided_data schema rows free session call (refused_with (codes "+L") None session) q (no_row schema rows session call e) refl)
    of_row q (Some row) e = of_content row q e (content_for schema row.code call) refl

    by : (o : Option (List ℕ)) → first_that_holds (text_refusals schema session call) ≡ o → Decides schema rows free session call
    by (Some status) e = by_text schema rows free session call status e
    by None e = of_row (record { only = only_replace call replace; plain = plain; text = e }) shown refl

-- ---- DLET

delete_lawful : (schema : Schema) (rows : List Row) (free : ℕ) (session : Session) (call : Call) → session.index ≡ None → Stands schema rows session → is_delete call ≡ true → Decides schema rows free session call
delete_lawful schema rows free session call plain stands delete = by (first_that_holds (text_refusals schema session call)) refl
  where
    left : Decision
    left = carried (deletion_of session.held) (kept_session schema (deletion_of session.held) rows (changed schema (deletion_of session.held) no_name rows) session)

    of_data : Deletes schema session call → (b : Bool) → is_some call.content ≡ b → Decides schema rows free session call
    of_data q true e = refused_so schema rows free session call (codes "+L") (deleting.decided_data schema rows free session call (refused_with (codes "+L") None session) q e refl)
    of_data q false e = decided schema rows free session call left (decided_delete schema rows free session call (deletion_of session.held) left q e refl refl) (deletion_lawful schema rows session stands)

    by : (o : Option (List ℕ)) → first_that_holds (text_refusals schema session call) ≡ o → Decides schema rows free session call
    by (Some status) e = by_text schema rows free session call status e
    by None e = of_data (record { only = only_delete call delete; plain = plain; text = e }) (is_some call.content) refl

-- ---- every call

pub decision_lawful : (schema : Schema) (rows : List Row) (free : ℕ) (session : Session) (call : Call) → Differ (plain_view schema rows) → session.index ≡ None → Stands schema rows session → Decides schema rows free session call
decision_lawful schema rows free session call d plain stands = get (is_get call) refl
  where
    delete : (b : Bool) → is_get call ≡ false → is_insert call ≡ false → is_replace call ≡ false → is_delete call ≡ b → Decides schema rows free session call
    delete true g i r e = delete_lawful schema rows free session call plain stands e
    delete false g i r e = by_text schema rows free session call (codes "AD") (no_function schema session call g i r e)

    replace : (b : Bool) → is_get call ≡ false → is_insert call ≡ false → is_replace call ≡ b → Decides schema rows free session call
    replace true g i e = replace_lawful schema rows free session call plain stands e
    replace false g i e = delete (is_delete call) g i e refl

    insert : (b : Bool) → is_get call ≡ false → is_insert call ≡ b → Decides schema rows free session call
    insert true g e = insert_lawful schema rows free session call d plain e
    insert false g e = replace (is_replace call) g e refl

    get : (b : Bool) → is_get call ≡ b → Decides schema rows free session call
    get true e = get_lawful schema rows free session call (decision_of schema rows free session call) plain e refl
    get false e = insert (is_insert call) e refl
