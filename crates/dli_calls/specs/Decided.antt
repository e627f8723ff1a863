-- The decision of a call: what it is answered, what it changes, and what it leaves of its own session.
use Rattle.std.specs.Prelude.{ℕ, List, codes, Option, None, Some, if◌then◌else◌}
use Rattle.std.specs.Option.{option_map_or}
use Rattle.std.specs.Str.{bytes_eq}
use Rattle.hal_schema.specs.declared.row.Row.{Row}
use Rattle.hal_schema.specs.declared.schema.Schema.{Schema}
use Rattle.call_text.specs.declared.line.Call.{Call}
use Rattle.call_text.specs.declared.reply.Reply.{Reply}
use Rattle.call_text.specs.declared.reply.SegOut.{SegOut}
use Rattle.position_state.specs.declared.session.Anchor.{Anchor}
use Rattle.position_state.specs.declared.session.Anchor.TheVariants.{Front, At}
use Rattle.position_state.specs.declared.session.Session.{Session}
use Rattle.position_state.specs.declared.spot.Change.{Change}
use Rattle.position_state.specs.declared.spot.Change.TheVariants.{Nothing, Insert, Replace, Delete, Heal}
use Rattle.position_state.specs.declared.spot.Spot.{Spot}
use Rattle.position_state.specs.Keep.{changed, kept_session}
use Rattle.dli_calls.specs.declared.decision.Decision.{Decision}
use Rattle.dli_calls.specs.Ssas.{entry_named}
use Rattle.dli_calls.specs.Gets.{OnPath, is_get, got, got_status, got_segment, after_get, blank_status, name_of_type}
use Rattle.dli_calls.specs.Changes.{no_name, content_or_none, new_row, new_root, new_key, held_code}
use Rattle.dli_calls.specs.Refusals.{is_insert, is_replace, allows, need_of, refusal_of}

abbrev pub reply_of : List ℕ → Option SegOut → Reply
reply_of status segment = record { status = status; seg = segment; part = None; number = None }

-- each call ends its session's hold
abbrev pub unheld : Session → Session
unheld session = record session { held = None }

-- a refusal changes the hold alone; GB goes to the front and ends parentage
abbrev pub after_refusal : List ℕ → Session → Session
after_refusal status session = if bytes_eq status (codes "GB") then record session { anchor = Front; held = None; parent = None } else unheld session

abbrev pub refused : Schema → List Row → Session → Call → List ℕ → Decision
refused schema rows session call status = record {
  reply = record { status = status; seg = None; part = None; number = if bytes_eq status (codes "+R") then Some (need_of schema rows session call) else None };
  change = Nothing;
  session = after_refusal status session;
}

-- a session with update intent sets the pointer of the entry through which it got an element
abbrev pub healing : Session → Spot → Change
healing session spot = if allows (codes "IRDA") session then option_map_or (λ index. Heal index (entry_named spot.at)) session.index Nothing else Nothing

abbrev pub found : Schema → List Row → Session → Call → OnPath → Decision
found schema rows session call p = record {
  reply = reply_of (got_status schema rows call session p.1) (Some (got_segment schema call p));
  change = healing session p.1;
  session = after_get call session p.1;
}

abbrev pub inserts : Schema → List Row → Session → Call → Decision
inserts schema rows session call =
    let row = new_row schema rows call session no_name in
    record {
      reply = reply_of blank_status (Some (record { seg = name_of_type schema row.code; key = new_key schema rows call session; content = None }));
      change = Insert row.parent (new_root schema rows call session) row.code row.content;
      session = unheld session;
    }

abbrev pub held_change : Schema → List Row → Session → Call → Anchor → Change
held_change schema rows session call Front = Nothing
held_change schema rows session call (At name root entry) =
    if is_replace call then Replace name root (content_or_none schema (held_code schema rows session) call) else Delete name root

-- REPL and DLET change the held row; of their own session the change leaves what it leaves of every other
abbrev pub changes_held : Schema → List Row → Session → Call → Decision
changes_held schema rows session call =
    let change = option_map_or (held_change schema rows session call) session.held Nothing in
    record { reply = reply_of blank_status None; change = change; session = unheld (kept_session schema change rows (changed schema change no_name rows) session) }

abbrev pub carried_out : Schema → List Row → Session → Call → Decision
carried_out schema rows session call =
    if is_get call then option_map_or (found schema rows session call) (got schema rows call session) (refused schema rows session call (codes "GE"))
    else if is_insert call then inserts schema rows session call
    else changes_held schema rows session call

-- the decision of a call on an open session, with so many free blocks
abbrev pub decision_of : Schema → List Row → ℕ → Session → Call → Decision
decision_of schema rows free session call =
    option_map_or (refused schema rows session call) (refusal_of schema rows free session call) (carried_out schema rows session call)
