use Rattle.std.proofs.Common.{◌≡◌, drop}
use Rattle.std.specs.List.{list_any}
use Rattle.dli_calls.specs.Refusals.{asks_high_root}
use Rattle.call_gets.proofs.answer.any_high_root.Given as goal

abbrev pub invariant-loop-ssa : goal.invariant-loop-ssa
invariant-loop-ssa l = list_any (asks_high_root l.schema) l.ssas ≡ list_any (asks_high_root l.schema) (drop l.ssa-index l.ssas)
