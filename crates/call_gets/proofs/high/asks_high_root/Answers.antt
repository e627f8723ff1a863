use Rattle.std.proofs.Common.{◌≡◌, sym, ap, ◌∙◌, List}
use Rattle.call_text.specs.declared.line.Clause.{Clause}
use Rattle.dli_calls.specs.Refusals.{asks_high_root}
use Rattle.call_gets.proofs.Asking.{asks_by, asks_so, asks_not}
use Rattle.call_gets.proofs.Finding.{if_ok}
use Rattle.call_gets.proofs.high.asks_high_root.Goals as goal

pub returns : goal.returns
returns c =
    if_ok c.any_high_value.result (λ any. any ≡ asks_by c.args.schema.now c.as_slice.result.now 1) (λ any. any ≡ asks_high_root c.args.schema.now c.args.ssa.now)
    (λ any h. asks_so c.args.schema.now c.args.ssa.now any (sym c.is_one_of_root.ensures ∙ c.if-not-is_one_of_root.false) (h ∙ ap (λ (cs : List Clause). asks_by c.args.schema.now cs 1) c.as_slice.ensures)) c.any_high_value.ensures

pub returns-then-not-is_one_of_root : goal.returns-then-not-is_one_of_root
returns-then-not-is_one_of_root c = asks_not c.args.schema.now c.args.ssa.now (sym c.is_one_of_root.ensures ∙ c.if-not-is_one_of_root.true)
