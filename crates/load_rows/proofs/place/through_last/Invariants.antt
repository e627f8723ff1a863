use Rattle.std.proofs.Common.{◌≡◌, ◌≤◌, length, take}
use Rattle.hal_schema.specs.Insertion.{through_last}
use Rattle.hal_loader.specs.Placing.{loads_behind}
use Rattle.load_rows.proofs.place.through_last.Given as goal

abbrev pub invariant-rows : goal.invariant-rows
invariant-rows l =
    (l.after ≤ length l.rows) × (through_last (loads_behind l.schema l.new) l.rows ≡ through_last (loads_behind l.schema l.new) (take l.after l.rows))

abbrev pub decreases-rows : goal.decreases-rows
decreases-rows l = l.after
