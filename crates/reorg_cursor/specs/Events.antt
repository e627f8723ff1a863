-- REORG commands as events on the list: what each answers, and what it makes of the states of the partitions. They change
-- neither the list nor a session. IMS: INITIATE, TERMINATE and QUERY of an integrated online reorganization (OLREORG).
use Rattle.std.specs.Prelude.{ℕ, ◌+◌, nat_lt, Bool, true, if◌then◌else◌, List, [], ◌∷◌, slice_set, position, Option, None, Some, codes}
use Rattle.std.specs.List.{slice_get}
use Rattle.std.specs.Str.{bytes_eq}
use Rattle.hal_base.specs.declared.place.PartState.{PartState}
use Rattle.hal_schema.specs.declared.row.Row.{Row}
use Rattle.hal_schema.specs.declared.schema.Schema.{Schema}
use Rattle.call_text.specs.declared.line.Command.{Command}
use Rattle.call_text.specs.declared.line.Command.TheVariants.{Start, Step, Pause, Resume, Finish, Query}
use Rattle.call_text.specs.declared.reply.Reply.{Reply}
use Rattle.reorg_cursor.specs.declared.refusal.Refusal.{Refusal}
use Rattle.reorg_cursor.specs.State.{start_refusal, unit_refusal, resume_refusal, code_of, started, paused, resumed}
use Rattle.reorg_cursor.specs.Groups.{stepped, unit_need, are_all_done, finish_groups, finished}

-- how many groups the event of a command takes at most
abbrev pub groups_asked : Command → ℕ
groups_asked Start = 0
groups_asked (Step k) = k
groups_asked Pause = 0
groups_asked Resume = 0
groups_asked Finish = finish_groups
groups_asked Query = 0

-- the refusal of a command by the state of its partition; QUERY has none
abbrev pub state_refusal : Command → PartState → Option Refusal
state_refusal Start s = start_refusal s
state_refusal (Step k) s = unit_refusal s
state_refusal Pause s = unit_refusal s
state_refusal Resume s = resume_refusal s
state_refusal Finish s = unit_refusal s
state_refusal Query s = None

-- how many free blocks the event reserves
abbrev pub event_need : Schema → ℕ → List Row → PartState → Command → ℕ
event_need schema place rows s command = unit_need schema place rows s.cursor (groups_asked command)

-- a refusal's digit, and the need of free blocks that `+6` shows
pub record Refused : Type 0 where
  pub code : ℕ
  pub need : Option ℕ

abbrev pub plainly : ℕ → Refused
plainly code = record { code = code; need = None }

-- refused by the state; or else where fewer blocks are free than it reserves
abbrev pub refused_by : Option Refusal → ℕ → ℕ → Option Refused
refused_by (Some refusal) free need = Some (plainly (code_of refusal))
refused_by None free need = if nat_lt free need then Some (record { code = 6; need = Some need }) else None

abbrev pub refusal_of : Schema → ℕ → List Row → ℕ → PartState → Command → Option Refused
refusal_of schema place rows free s command = refused_by (state_refusal command s) free (event_need schema place rows s command)

abbrev pub changed_by : Schema → ℕ → List Row → PartState → Command → PartState
changed_by schema place rows s Start = started s
changed_by schema place rows s (Step k) = stepped schema place rows k s
changed_by schema place rows s Pause = paused s
changed_by schema place rows s Resume = resumed s
changed_by schema place rows s Finish = finished schema place rows s
changed_by schema place rows s Query = s

-- a unit of FINISH isn't the end of its line
abbrev pub is_last : Schema → ℕ → List Row → PartState → Command → Bool
is_last schema place rows s Start = true
is_last schema place rows s (Step k) = true
is_last schema place rows s Pause = true
is_last schema place rows s Resume = true
is_last schema place rows s Finish = are_all_done schema place rows s.cursor
is_last schema place rows s Query = true

-- What an event makes: the states after it; its reply, none where the line isn't done; how many free blocks it may take.
pub record Outcome : Type 0 where
  pub states : List PartState
  pub reply : Option Reply
  pub need : ℕ

-- `+` and the digit
abbrev pub refused_reply : Refused → Reply
refused_reply r = record { status = 43 ∷ (48 + r.code) ∷ []; seg = None; part = None; number = r.need }

-- the partition by its name, with its number, side, state and cursor
abbrev pub state_reply : List ℕ → PartState → Reply
state_reply name s = record {
  status = codes "  ";
  seg = None;
  part = Some (record { part = name; number = s.number; side = s.side; state = s.state; cursor = s.cursor });
  number = None;
}

abbrev pub refuses : List PartState → Refused → Outcome
refuses states r = record { states = states; reply = Some (refused_reply r); need = 0 }

abbrev pub does : Schema → ℕ → List Row → List PartState → PartState → List ℕ → Command → Outcome
does schema place rows states s name command = record {
  states = slice_set states place (changed_by schema place rows s command);
  reply = if is_last schema place rows s command then Some (state_reply name (changed_by schema place rows s command)) else None;
  need = event_need schema place rows s command;
}

abbrev pub refused_or_does : Option Refused → Schema → ℕ → List Row → List PartState → PartState → List ℕ → Command → Outcome
refused_or_does (Some r) schema place rows states s name command = refuses states r
refused_or_does None schema place rows states s name command = does schema place rows states s name command

-- the place of the partition of this name
abbrev pub place_named : Schema → List ℕ → Option ℕ
place_named schema name = position (λ part. bytes_eq part.name name) schema.parts

-- the event at a partition with its state; there is one state a partition
abbrev pub outcome_at : Schema → List Row → List PartState → ℕ → List ℕ → Command → ℕ → Option PartState → Outcome
outcome_at schema rows states free name command place None = refuses states (plainly 1)
outcome_at schema rows states free name command place (Some s) =
    refused_or_does (refusal_of schema place rows free s command) schema place rows states s name command

abbrev pub outcome_in : Schema → List Row → List PartState → ℕ → List ℕ → Command → Option ℕ → Outcome
outcome_in schema rows states free name command None = refuses states (plainly 1)
outcome_in schema rows states free name command (Some place) = outcome_at schema rows states free name command place (slice_get states place)

-- the event of a command on the partition of a name, with so many blocks free; `+1` where no partition has the name
abbrev pub outcome_of : Schema → List Row → List PartState → ℕ → List ℕ → Command → Outcome
outcome_of schema rows states free name command = outcome_in schema rows states free name command (place_named schema name)

-- what stands in its place until the engine can do it: `+B 9`, and nothing changes
abbrev pub unbuilt_reply : Reply
unbuilt_reply = record { status = codes "+B"; seg = None; part = None; number = Some 9 }

abbrev pub not_built : List PartState → Outcome
not_built states = record { states = states; reply = Some unbuilt_reply; need = 0 }

abbrev pub outcome_where : Bool → Schema → List Row → List PartState → ℕ → List ℕ → Command → Outcome
outcome_where built schema rows states free name command = if built then outcome_of schema rows states free name command else not_built states
