use Rattle.std.proofs.Common.{◌≡◌, take, None, fold}
use Rattle.hal_schema.specs.Places.{sooner}
use Rattle.hal_schema.proofs.fault.least.Given as goal

abbrev pub invariant-loop-place : goal.invariant-loop-place
invariant-loop-place l = l.first ≡ fold sooner None (take l.place-index l.places)
