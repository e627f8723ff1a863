use Rattle.std.proofs.Common.{◌≡◌, drop}
use Rattle.std.specs.List.{cons_option}
use Rattle.dli_calls.specs.Refusals.{is_below_type}
use Rattle.dli_calls.specs.Refusals.{each_next}
use Rattle.call_gets.specs.Texts.{codes_in}
use Rattle.call_gets.proofs.refusals.is_falling.Given as goal

abbrev pub invariant-loop-ssa : goal.invariant-loop-ssa
invariant-loop-ssa l = each_next (is_below_type l.schema) (codes_in l.schema l.ssas) ≡ each_next (is_below_type l.schema) (cons_option l.above (codes_in l.schema (drop l.ssa-index l.ssas)))
