-- Laws of REORG events.
use Rattle.std.specs.Prelude.{◌≡◌, ℕ, ◌<◌, ◌≤◌, IsTrue, List, length, None, Some}
use Rattle.std.specs.List.{slice_get}
use Rattle.hal_base.specs.declared.place.PartState.{PartState}
use Rattle.hal_schema.specs.declared.row.Row.{Row}
use Rattle.hal_schema.specs.declared.schema.Schema.{Schema}
use Rattle.hal_schema.specs.Forest.{is_forest}
use Rattle.volume_image.specs.Control.{state_fits}
use Rattle.call_text.specs.declared.line.Command.{Command}
use Rattle.call_text.specs.declared.line.Command.TheVariants.{Finish}
use Rattle.script_runs.specs.Language.{Event}
use Rattle.reorg_cursor.specs.Groups.{groups_left}
use Rattle.reorg_cursor.specs.Events.{Outcome, place_named, outcome_of}
use Rattle.reorg_cursor.specs.Lines.{Holder, LeadsBy}

-- each of the states is one that its partition may have
abbrev pub AllFit : Schema → List PartState → Type 0
AllFit schema states = (place : ℕ) (s : PartState) → slice_get states place ≡ Some s → IsTrue (state_fits schema place s)

-- States that control rows may have are so after each event.
abbrev pub EventsFit : Type 0
EventsFit = (schema : Schema) (rows : List Row) (states : List PartState) (free : ℕ) (name : List ℕ) (command : Command)
    → IsTrue (is_forest schema rows) → AllFit schema states → AllFit schema (outcome_of schema rows states free name command).states

-- An event changes the state of the named partition alone.
abbrev pub EventsChangeOne : Type 0
EventsChangeOne = (schema : Schema) (rows : List Row) (states : List PartState) (free : ℕ) (name : List ℕ) (command : Command) (place : ℕ)
    → (place_named schema name ≡ Some place → ⊥) → slice_get (outcome_of schema rows states free name command).states place ≡ slice_get states place

-- What an event takes of free blocks is there.
abbrev pub NeedsAreFree : Type 0
NeedsAreFree = (schema : Schema) (rows : List Row) (states : List PartState) (free : ℕ) (name : List ℕ) (command : Command)
    → (outcome_of schema rows states free name command).need ≤ free

-- the partition's state before an event and after it, between which groups were copied
pub record CopiesGroups (schema : Schema) (rows : List Row) (before after : List PartState) : Type 0 where
  pub place : ℕ
  pub old : PartState
  pub new : PartState
  pub was : slice_get before place ≡ Some old
  pub is : slice_get after place ≡ Some new
  pub fewer : length (groups_left schema place rows new.cursor) < length (groups_left schema place rows old.cursor)

-- Where an event has no reply, it was a unit of FINISH, and fewer groups are left: the measure by which its line ends.
abbrev pub UnrepliedFall : Type 0
UnrepliedFall = (schema : Schema) (rows : List Row) (states : List PartState) (free : ℕ) (name : List ℕ) (command : Command)
    → IsTrue (is_forest schema rows) → AllFit schema states → (outcome_of schema rows states free name command).reply ≡ None
    → (command ≡ Finish) × CopiesGroups schema rows states (outcome_of schema rows states free name command).states

-- Whatever a state has beside the states of the partitions stays: its list and its sessions are such.
abbrev pub LeavesRest : (S X : Type 0) → Type 0
LeavesRest S X = (holder : Holder S) (rest : S → X) → ((states : List PartState) (s : S) → rest (holder.with_states states s) ≡ rest s)
    → (s : S) (event : Event S) (outcome : Outcome) → LeadsBy holder s event outcome → rest event.after ≡ rest s
