use Rattle.std.proofs.Common.{◌≡◌, map, take, drop, replicate}
use Rattle.hal_base.specs.Name.{upper}
use Rattle.hal_base.proofs.name.stored.Given as goal

abbrev pub invariant-loop-i : goal.invariant-loop-i
invariant-loop-i l = (take l.i l.letters ≡ map upper (take l.i l.text)) × (drop l.i l.letters ≡ drop l.i (replicate 8 32))
