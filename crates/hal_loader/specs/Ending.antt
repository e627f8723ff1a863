-- A fault of one row as a fault of the load.
use Rattle.std.specs.Prelude.{ℕ, ◌+◌}
use Rattle.hal_loader.specs.declared.fault.RowFault.{RowFault}
use Rattle.hal_loader.specs.declared.fault.RowFault.TheVariants.{Broken, Failed, Memory}
use Rattle.hal_loader.specs.declared.records.LoadFault.{LoadFault}
use Rattle.hal_loader.specs.declared.records.LoadFault.TheVariants as load

abbrev pub at_row : ℕ → RowFault → LoadFault
at_row done (Broken code) = load.Row (done + 1) code
at_row done Failed = load.Failed
at_row done Memory = load.Memory
