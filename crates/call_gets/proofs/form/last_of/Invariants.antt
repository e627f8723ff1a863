use Rattle.std.proofs.Common.{◌≡◌, None, drop}
use Rattle.std.specs.List.{last_or}
use Rattle.std.specs.Option.{option_copied}
use Rattle.call_gets.proofs.form.last_of.Given as goal

abbrev pub invariant-loop-ssa : goal.invariant-loop-ssa
invariant-loop-ssa l = last_or None l.ssas ≡ last_or (option_copied l.last) (drop l.ssa-index l.ssas)
