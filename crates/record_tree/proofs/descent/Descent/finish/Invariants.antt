use Rattle.std.proofs.Common.{◌≡◌}
use Rattle.record_tree.proofs.Downward.{Way}
use Rattle.record_tree.proofs.descent.Descent.finish.Given as goal

abbrev pub invariant-loop : goal.invariant-loop
invariant-loop g l = record {
  fate : l.self.fate ≡ l.initial.self.fate;
  way : Way l.initial.self.fate l.initial.self.pending.items l.self.pending.items l.initial.cells l.cells (g.H.Shelf.steady l.initial.shelf l.shelf) (g.H.Shelf.seen l.initial.shelf) (g.H.Shelf.seen l.shelf);
}
