-- A set that is open, and stays so.
use Rattle.std.proofs.Common.{◌≡◌, ℕ, ◌<◌, List, length, Some}
use Rattle.std.specs.Prelude.{All, IfSome}
use Rattle.hal_base.specs.ShelfCalls.{ShelfView}
use Rattle.keyed_sets.specs.declared.index.First.{First}
use Rattle.keyed_sets.specs.declared.set.KeyedSet.{KeyedSet}
use Rattle.keyed_sets.specs.Calls.{IsOpened}
use Rattle.keyed_sets.specs.Standing.{Stands}
use Rattle.keyed_sets.proofs.Indexed.{stands_from, firsts_are}
use Rattle.keyed_sets.proofs.Told.{where_told, told_at}

pub opened_stands : (set : KeyedSet) (seen : ShelfView) → IsOpened set seen → IfSome (seen.pages set.set) (Stands set.shape set.index.firsts.items set.index.empty.items)
opened_stands set seen o = where_told (seen.pages set.set) (Stands set.shape set.index.firsts.items set.index.empty.items) (λ pages is.
    stands_from set.shape pages set.index.firsts.items set.index.empty.items (o.rule pages is) (o.firsts pages is) (o.empty pages is))

pub opened_from : (set : KeyedSet) (seen : ShelfView) → All (λ (first : First). first.page < length (seen.places set.set)) set.index.firsts.items → All (λ n. n < length (seen.places set.set)) set.index.empty.items
    → IfSome (seen.pages set.set) (Stands set.shape set.index.firsts.items set.index.empty.items) → IsOpened set seen
opened_from set seen firsts empty stands =
    let at = λ (pages : List (List ℕ)) (is : seen.pages set.set ≡ Some pages). told_at (seen.pages set.set) pages (Stands set.shape set.index.firsts.items set.index.empty.items) is stands in
    record {
      firsts_within = firsts;
      empty_within = empty;
      rule = λ pages is. (at pages is).rule;
      firsts = λ pages is. firsts_are set.shape pages set.index.firsts.items set.index.empty.items (at pages is);
      empty = λ pages is. (at pages is).empty_pages;
    }
