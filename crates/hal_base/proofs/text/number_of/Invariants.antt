use Rattle.std.proofs.Common.{◌≡◌, take, min}
use Rattle.hal_base.specs.Numbers.{number_of}
use Rattle.hal_base.proofs.text.number_of.Given as goal

abbrev pub invariant-loop-digit : goal.invariant-loop-digit
invariant-loop-digit l = l.number ≡ min (number_of (take l.digit-index l.digits)) 4294967296
