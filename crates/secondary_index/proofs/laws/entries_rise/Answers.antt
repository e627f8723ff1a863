use Rattle.keyed_sets.specs.Map.{rows_of}
use Rattle.secondary_index.proofs.InOrder.{entries_rise}
use Rattle.secondary_index.proofs.laws.entries_rise.Goals as goal

pub returns : goal.returns
returns c = λ shape pages. entries_rise (rows_of shape pages) (c.rows_rise.ensures.of_pages shape pages)
