-- What is seen of a list of segments that lines change, and of a taker of lines over it.
use Rattle.std.specs.Prelude.{◌≡◌, ℕ, true, false, List, [], Option, ⊤}
use Rattle.hal_base.specs.declared.place.PartState.{PartState}
use Rattle.hal_base.specs.declared.site.Site.{Ghosts as Site}
use Rattle.hal_schema.specs.declared.row.Row.{Row}
use Rattle.hal_schema.specs.declared.schema.Schema.{Schema}
use Rattle.script_runs.specs.Language.{Asked, Event, Language}
use Rattle.script_runs.specs.Stops.{Keeping}
use Rattle.script_runs.specs.Taken.{Meaning}
use Rattle.script_runs.specs.TakerView.{TakerView}
use Rattle.call_runs.specs.declared.state.CallState.{CallState}
use Rattle.call_runs.specs.Lines.{lines, meaning_of}
use Rattle.hal_desk.specs.declared.call_list.CallList.{CallList}
use Rattle.hal_desk.specs.declared.list_taker.ListTaker.{ListTaker}
use Rattle.hal_desk.specs.Outside.{list_blocks, list_on, site_view}

-- these rows, with no session open; partitions have no states, since there are no blocks
abbrev pub start_of : List Row → CallState
start_of rows = record { forest = rows; sessions = []; parts = [] }

abbrev pub state_of : CallList → CallState
state_of list = record { forest = list.walk.rows; sessions = list.sessions; parts = [] }

-- nothing is kept, so there is no block that could hold another state
abbrev pub kept_nowhere : Keeping CallState
kept_nowhere = record { holds = λ blocks state. ⊤; free = λ blocks. list_blocks }

-- calls and PCB lines; REORG lines are answered `+B 9`
abbrev pub list_lines : Schema → Language CallState
list_lines schema = lines false schema

abbrev pub meaning : Schema → Meaning CallState
meaning schema = meaning_of false schema kept_nowhere

-- a line of a script, as it is asked over a list
abbrev pub asked : Option ℕ → ℕ → List ℕ → Asked
asked script number line = record { script = script; number = number; line = line; free = list_blocks }

-- what a line leads to; each is done at once
abbrev pub Leads : Schema → CallState → Asked → CallState → Type 0
Leads schema old asked new = (list_lines schema).leads old (record { asked = asked; done = true; after = new })

abbrev pub site_of : {T : Type 0} → ListTaker T → T
site_of taker = taker.site

abbrev pub list_seen : {T : Type 0} → Site T → ListTaker T → TakerView CallState
list_seen tells taker = list_on (site_view tells taker.site) (state_of taker.list)
