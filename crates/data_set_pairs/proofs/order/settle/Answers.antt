use Rattle.std.proofs.Common.{◌<◌, ◌^◌, sym, subst, All, List, rules}
use Rattle.std.specs.List.Sorted.{IsNonDecreasingBy}
use Rattle.std.proofs.lemmas.List.Sorted.{All-permutation, IsNonDecreasingBy-from_sort_by_key}
use Rattle.data_set_pairs.specs.declared.place.PagePlace.{PagePlace}
use Rattle.data_set_pairs.specs.Table.{page_rank, HasPlace}
use Rattle.data_set_pairs.proofs.order.settle.Goals as goal

pub runs_from_zero-requires-clause-order : goal.runs_from_zero-requires-clause-order
runs_from_zero-requires-clause-order c =
    subst (λ (l : List PagePlace). IsNonDecreasingBy page_rank l) (sym c.deref.ensures.value) (IsNonDecreasingBy-from_sort_by_key page_rank c.sort_unstable_by_key.new.self.items c.sort_unstable_by_key.ensures.sorted (λ a r q k. search rules))

pub runs_from_zero-requires-clause-small : goal.runs_from_zero-requires-clause-small
runs_from_zero-requires-clause-small c =
    subst (λ (l : List PagePlace). All (λ p. HasPlace p.set) l) (sym c.deref.ensures.value) (All-permutation (λ (p : PagePlace). HasPlace p.set) c.args.pages.now.items c.sort_unstable_by_key.new.self.items c.sort_unstable_by_key.ensures.permutation c.requires.small)

pub runs_from_zero-requires-clause-pages : goal.runs_from_zero-requires-clause-pages
runs_from_zero-requires-clause-pages c =
    subst (λ (l : List PagePlace). All (λ p. p.page < 2 ^ 16) l) (sym c.deref.ensures.value) (All-permutation (λ (p : PagePlace). p.page < 2 ^ 16) c.args.pages.now.items c.sort_unstable_by_key.new.self.items c.sort_unstable_by_key.ensures.permutation c.requires.pages)

pub returns-clause-order : goal.returns-clause-order
returns-clause-order c = IsNonDecreasingBy-from_sort_by_key page_rank c.sort_unstable_by_key.new.self.items c.sort_unstable_by_key.ensures.sorted (λ a r q k. search rules)
