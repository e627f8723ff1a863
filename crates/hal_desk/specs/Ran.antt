-- What a script did to a list of segments.
use Rattle.std.specs.Prelude.{◌≡◌, ℕ, List, IsTrue}
use Rattle.hal_schema.specs.declared.row.Row.{Row}
use Rattle.hal_schema.specs.declared.schema.Schema.{Schema}
use Rattle.hal_schema.specs.Forest.{is_forest}
use Rattle.script_runs.specs.Script.{RanScript, status_of}
use Rattle.script_runs.specs.declared.ending.Ending.{Ending}
use Rattle.call_runs.specs.declared.state.CallState.{CallState}
use Rattle.hal_desk.specs.Lists.{meaning, start_of}
use Rattle.hal_desk.specs.Outside.{Outside, list_on}

-- The script was run from these rows on, with no session open, to an ending with this status. What it leaves is a
-- well-formed forest.
pub record RanList (schema : Schema) (rows : List Row) (before after : Outside) (status : ℕ) : Type 0 where
  pub ending : Ending
  pub status_is : status ≡ status_of ending
  pub end : CallState
  pub ran : RanScript (meaning schema) before.source after.source (list_on before.site (start_of rows)) (list_on after.site end) ending
  pub forest : IsTrue (is_forest schema end.forest)
