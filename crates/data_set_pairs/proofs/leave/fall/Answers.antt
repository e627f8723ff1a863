use Rattle.std.proofs.Common.{◌≡◌, ◌∙◌, List, ℕ, reverse, ap, subst, sym, eqb}
use Rattle.std.specs.List.{list_any, dedup}
use Rattle.std.specs.List.Sorted.{IsStrictlyIncreasing}
use Rattle.std.proofs.lemmas.List.{reverse-reverse}
use Rattle.std.proofs.lemmas.List.Filters.{dedup_is}
use Rattle.std.proofs.lemmas.List.Sorted.{list_any-IsPermutation}
use Rattle.std.proofs.lemmas.Map.Keys.{IsStrictlyIncreasing-dedup}
use Rattle.data_set_pairs.proofs.Falling.{any_dedup}
use Rattle.data_set_pairs.proofs.leave.fall.Goals as goal

pub returns-clause-rise : goal.returns-clause-rise
returns-clause-rise c =
    let whole : reverse c.reverse.new.self.items ≡ dedup eqb c.sort_unstable.new.self.items = ap (λ (l : List ℕ). reverse l) c.reverse.ensures.items ∙ reverse-reverse c.dedup.new.self.items ∙ dedup_is eqb c.sort_unstable.new.self.items c.dedup.new.self.items c.dedup.ensures.filtered in
    subst IsStrictlyIncreasing (sym whole) (IsStrictlyIncreasing-dedup c.sort_unstable.new.self.items c.sort_unstable.ensures.sorted)

pub returns-clause-same : goal.returns-clause-same
returns-clause-same c = λ test.
    let whole : reverse c.reverse.new.self.items ≡ dedup eqb c.sort_unstable.new.self.items = ap (λ (l : List ℕ). reverse l) c.reverse.ensures.items ∙ reverse-reverse c.dedup.new.self.items ∙ dedup_is eqb c.sort_unstable.new.self.items c.dedup.new.self.items c.dedup.ensures.filtered in
    ap (list_any test) whole ∙ any_dedup test c.sort_unstable.new.self.items ∙ sym (list_any-IsPermutation test c.args.free.now.items c.sort_unstable.new.self.items c.sort_unstable.ensures.permutation)
