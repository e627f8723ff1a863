use Rattle.std.proofs.Common.{◌≡◌, ◌<◌, ◌≤◌, ℕ, List, length}
use Rattle.std.specs.Prelude.{IsTrue}
use Rattle.csv.specs.Reading.{Ready, default_config}
use Rattle.csv.specs.declared.reader.Trim.TheVariants as trim
use Rattle.hal_loader.specs.Carrying.{Progress}
use Rattle.hal_loader.proofs.Readings.{Reads}
use Rattle.hal_loader.proofs.records.load_records.Given as goal

abbrev pub invariant-loop-item : goal.invariant-loop-item
invariant-loop-item g l = record {
  trims : l.item-iterator.rdr.trim ≡ trim.None;
  is_ready : Ready l.item-iterator.rdr;
  left : 0 < l.item-iterator.left;
  config : l.item-iterator.rdr.config ≡ default_config;
  read : List (List (List ℕ));
  reads : Reads l.fn.text l.item-iterator.rdr read;
  count : length read ≡ l.done;
  progress : Progress l.schema (g.R.RowTaker.seen l.fn.into) (g.R.RowTaker.seen l.into) l.path read;
  live : IsTrue (g.R.RowTaker.seen l.into).live;
  same : g.R.RowTaker.schema l.into ≡ l.schema;
  steady : g.R.RowTaker.steady l.fn.into l.into;
  later : (g.R.RowTaker.seen l.fn.into).faults ≤ (g.R.RowTaker.seen l.into).faults;
}
