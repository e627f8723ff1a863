use Rattle.std.proofs.Common.{◌≡◌, length, None}
use Rattle.hal_loader.specs.Carrying.{code_kept, passed_on}
use Rattle.hal_loader.specs.Placing.{path_from}
use Rattle.hal_loader.proofs.path.Path.climb.Given as goal

abbrev pub invariant-levels : goal.invariant-levels
invariant-levels l = record {
  above : path_from code_kept l.wanted l.self ≡ path_from code_kept l.wanted l.fn.self;
  below : passed_on code_kept l.wanted l.below l.self ≡ passed_on code_kept l.wanted None l.fn.self;
}

abbrev pub decreases-levels : goal.decreases-levels
decreases-levels l = length l.self
