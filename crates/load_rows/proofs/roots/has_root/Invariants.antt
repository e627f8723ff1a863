use Rattle.std.proofs.Common.{◌≡◌, drop}
use Rattle.hal_loader.specs.Taker.{has_root}
use Rattle.load_rows.proofs.roots.has_root.Given as goal

abbrev pub invariant-loop-row : goal.invariant-loop-row
invariant-loop-row l = has_root l.schema.types l.rows l.key ≡ has_root l.schema.types (drop l.row-index l.rows) l.key
