use Rattle.std.proofs.Common.{◌≡◌, drop}
use Rattle.std.specs.List.{list_all}
use Rattle.dli_calls.specs.Refusals.{is_in_subtree}
use Rattle.call_gets.specs.Texts.{codes_in}
use Rattle.call_gets.proofs.refusals.are_in_subtree.Given as goal

abbrev pub invariant-loop-ssa : goal.invariant-loop-ssa
invariant-loop-ssa l = list_all (is_in_subtree l.schema l.target) (codes_in l.schema l.ssas) ≡ list_all (is_in_subtree l.schema l.target) (codes_in l.schema (drop l.ssa-index l.ssas))
