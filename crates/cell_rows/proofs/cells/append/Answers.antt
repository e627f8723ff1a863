use Rattle.std.proofs.Common.{List, slice_get, ap}
use Rattle.hal_base.specs.declared.place.Shape.{Shape}
use Rattle.cell_rows.proofs.cells.append.Goals as goal

pub append-requires-clause-typed : goal.append-requires-clause-typed
append-requires-clause-typed c = c.in-Ok-cell_of.ensures.typed c.in-Ok.store.shapes (ap (λ (shapes : List Shape). slice_get shapes 0) c.in-Ok.ensures.shapes)
