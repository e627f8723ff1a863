use Rattle.std.proofs.Common.{◌≡◌, drop, slice_get}
use Rattle.call_gets.specs.Texts.{codes_in}
use Rattle.call_gets.proofs.refusals.first_code.Given as goal

abbrev pub invariant-loop-ssa : goal.invariant-loop-ssa
invariant-loop-ssa l = slice_get (codes_in l.schema l.ssas) 0 ≡ slice_get (codes_in l.schema (drop l.ssa-index l.ssas)) 0
