-- The open sessions of scripts, and what a PCB line is answered. IMS: a program communication block names the processing
-- options (PROCOPT) and the secondary index by which it sees the database (PROCSEQ).
use Rattle.std.specs.Prelude.{ℕ, ◌==◌, nat_le, Bool, true, false, not, ◌&&◌, ◌||◌, List, [], ◌∷◌, ◌++◌, length, count_by, find, position, codes, Option, None, Some, is_some, option_and_then, if◌then◌else◌}
use Rattle.std.specs.List.{list_all, list_any}
use Rattle.std.specs.Option.{option_map, option_map_or}
use Rattle.std.specs.Str.{bytes_eq}
use Rattle.hal_schema.specs.declared.schema.IndexDef.{IndexDef}
use Rattle.hal_schema.specs.declared.schema.Schema.{Schema}
use Rattle.call_text.specs.declared.line.Open.{Open}
use Rattle.call_text.specs.declared.reply.Reply.{Reply}
use Rattle.position_state.specs.declared.session.Anchor.TheVariants.{Front}
use Rattle.position_state.specs.declared.session.Session.{Session}
use Rattle.call_runs.specs.declared.state.OpenSession.{OpenSession}

-- ---- which session it is

abbrev pub same_script : Option ℕ → Option ℕ → Bool
same_script None None = true
same_script (Some a) (Some b) = a == b
same_script a b = false

abbrev pub is_named : Option ℕ → List ℕ → OpenSession → Bool
is_named script name session = same_script script session.script && bytes_eq session.name name

abbrev pub session_of : List OpenSession → Option ℕ → List ℕ → Option OpenSession
session_of sessions script name = find (is_named script name) sessions

abbrev pub has_session : List OpenSession → Option ℕ → List ℕ → Bool
has_session sessions script name = list_any (is_named script name) sessions

abbrev pub count_of : List OpenSession → Option ℕ → ℕ
count_of sessions script = count_by (λ session. same_script script session.script) sessions

-- ---- why one isn't opened

-- G get, I insert, R replace, D delete, A all of them
abbrev pub is_option : ℕ → Bool
is_option letter = letter == 71 || letter == 73 || letter == 82 || letter == 68 || letter == 65

abbrev pub are_options : List ℕ → Bool
are_options options = not (length options == 0) && nat_le (length options) 4 && list_all is_option options

abbrev pub most_sessions : ℕ
most_sessions = 64

-- an index is named by the database name of its LCHILD
abbrev pub index_place : List IndexDef → List ℕ → Option ℕ
index_place indexes name = position (λ i. bytes_eq i.name name) indexes

abbrev pub is_known : Schema → Option (List ℕ) → Bool
is_known schema index = option_map_or (λ name. is_some (index_place schema.indexes name)) index true

-- the causes of `+S`, of which the first that holds is said
abbrev pub open_cause : Schema → List OpenSession → Option ℕ → Open → Option ℕ
open_cause schema sessions script request =
    if not (are_options request.options) then Some 1
    else if has_session sessions script request.session then Some 2
    else if nat_le most_sessions (count_of sessions script) then Some 3
    else if not (is_known schema request.index) then Some 4
    else None

-- ---- what is answered, and which sessions are open then

-- `+S` with its cause, or a blank status
abbrev pub session_reply : Option ℕ → Reply
session_reply None = record { status = codes "  "; seg = None; part = None; number = None }
session_reply (Some cause) = record { status = codes "+S"; seg = None; part = None; number = Some cause }

abbrev pub index_of : Schema → Option (List ℕ) → Option ℕ
index_of schema index = option_and_then (index_place schema.indexes) index

-- a new session stands at the front, and has neither a hold nor parentage
abbrev pub new_session : Schema → Option ℕ → Open → OpenSession
new_session schema script request = record {
  script = script;
  name = request.session;
  session = record { options = request.options; index = index_of schema request.index; anchor = Front; held = None; parent = None };
}

abbrev pub open_reply : Schema → List OpenSession → Option ℕ → Open → Reply
open_reply schema sessions script request = session_reply (open_cause schema sessions script request)

abbrev pub opened : Schema → List OpenSession → Option ℕ → Open → List OpenSession
opened schema sessions script request = option_map_or (λ cause. sessions) (open_cause schema sessions script request) (sessions ++ new_session schema script request ∷ [])
