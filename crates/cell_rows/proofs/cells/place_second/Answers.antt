use Rattle.std.proofs.Common.{List, slice_get, ap}
use Rattle.hal_base.specs.declared.place.Shape.{Shape}
use Rattle.cell_rows.proofs.cells.place_second.Goals as goal

pub place-requires-clause-typed : goal.place-requires-clause-typed
place-requires-clause-typed c = c.in-Ok-cell_of.ensures.typed c.in-Ok.store.shapes (ap (λ (shapes : List Shape). slice_get shapes 1) c.in-Ok.ensures.shapes)
