use Rattle.std.proofs.Common.{◌≡◌, ◌<◌, ◌-◌, ◌++◌, ◌∷◌, [], ℕ, true, false, List, sym, ap, subst, ◌∙◌, arith}
use Rattle.std.specs.Prelude.{slice_get, IfSome, IsSomeAnd, insert}
use Rattle.keyed_sets.specs.declared.index.First.{First}
use Rattle.keyed_sets.specs.Layout.{Row, is_below}
use Rattle.keyed_sets.specs.Rule.{page_rows}
use Rattle.keyed_sets.specs.Standing.{Apart}
use Rattle.keyed_sets.specs.Taken.{AreTaken}
use Rattle.keyed_sets.proofs.Edited.{done_of}
use Rattle.keyed_sets.proofs.Openings.{IsSplit, IsRange, split_from, crosses_before, crosses_behind, taken_more}
use Rattle.keyed_sets.proofs.opening.Opening.take_range.Goals as goal
use Rattle.keyed_sets.proofs.opening.Opening.take_range.Goals.{then-not-ends_below-via-then-not-ends_below, then-not-ends_below-via-else-not-ends_below+then-not-begins_above}

counted_as : (table : List (List Row)) (rows : List Row) (n k : ℕ) → n ≡ k → (m : ℕ) × (m < k) × (Apart (page_rows table m) rows → ⊥) → (m : ℕ) × (m < n) × (Apart (page_rows table m) rows → ⊥)
counted_as table rows n k is found = (found.0, omega (arith, is, found.1), found.2)

pub returns-then-not-ends_below-clause-overlap : goal.returns-then-not-ends_below-clause-overlap
returns-then-not-ends_below-clause-overlap c = λ page offset is. (
  cc,
  cc,
  λ table rows taken counted rise starts ends.
      let self = c.args.self.now in
      let split : IsSplit c.args.first.now self.firsts.items c.starts_upto-at.result =
      split_from c.args.first.now self.firsts.items c.deref.result.now c.starts_upto-at.result c.deref.ensures.value c.starts_upto-at.ensures.within c.starts_upto-at.ensures.upto c.starts_upto-at.ensures.above taken.index.rise in
      let range : IsRange c.args.first.now c.args.last.now rows = record { rise = rise; starts = starts; ends = ends } in
      counted_as table rows c.args.n _ counted (elim c.then-not-ends_below.branch [
        | then-not-ends_below-via-then-not-ends_below w ↦
            let crossed = c.ends_below.ensures.crossed w.if-not-ends_below.true in
            crosses_before table self.firsts.items self.lasts.items self.empty.items c.starts_upto-at.result c.args.first.now c.args.last.now rows taken split range crossed.0
            (subst (λ (l : List (List ℕ)). IsSomeAnd (slice_get l (c.starts_upto-at.result - 1)) (λ last. is_below last c.args.first.now ≡ false)) c.deref-2.ensures.value crossed.1)
        | then-not-ends_below-via-else-not-ends_below+then-not-begins_above w ↦
            crosses_behind table self.firsts.items self.lasts.items self.empty.items c.starts_upto-at.result c.args.first.now c.args.last.now rows taken split range
            (subst (λ (l : List First). IsSomeAnd (slice_get l c.starts_upto-at.result) (λ (f : First). is_below c.args.last.now f.key ≡ false)) w.deref-else-not-ends_below.ensures.value (w.begins_above.ensures.crossed w.if-not-begins_above.true))
      ]),
)

pub returns-clause-taken : goal.returns-clause-taken
returns-clause-taken c = λ table rows taken counted rise starts ends.
    let self = c.args.self.now in
    let at : ℕ = c.starts_upto-at.result in
    let split : IsSplit c.args.first.now self.firsts.items at =
    split_from c.args.first.now self.firsts.items c.deref.result.now at c.deref.ensures.value c.starts_upto-at.ensures.within c.starts_upto-at.ensures.upto c.starts_upto-at.ensures.above taken.index.rise in
    let range : IsRange c.args.first.now c.args.last.now rows = record { rise = rise; starts = starts; ends = ends } in
    let new : First = record { key = c.args.first.now; page = c.args.n } in
    let keyed : First = record { key = c.in_ok-key.key; page = c.args.n } in
    let same : keyed ≡ new = ap (λ (k : List ℕ). record { key = k; page = c.args.n }) c.in_ok-key.ensures in
    let firsts : c.insert.new.self.items ≡ insert self.firsts.items at new =
    done_of c.insert.result c.insert.new.self.items (insert self.firsts.items at keyed) self.firsts.items (sym c.is_err.ensures.value ∙ c.if-is_err.false) c.insert.ensures.items ∙ ap (insert self.firsts.items at) same in
    let lasts : c.insert-else-at-len.new.self.items ≡ insert self.lasts.items at c.args.last.now =
    done_of c.insert-else-at-len.result c.insert-else-at-len.new.self.items (insert self.lasts.items at c.in_ok-end.end) self.lasts.items (sym c.is_err-else-at-len.ensures.value ∙ c.if-is_err-2.false) c.insert-else-at-len.ensures.items
    ∙ ap (insert self.lasts.items at) c.in_ok-end.ensures in
    let more = taken_more table self.firsts.items self.lasts.items self.empty.items at new c.args.last.now rows taken split range counted
    (subst (λ (l : List (List ℕ)). 0 < at → IfSome (slice_get l (at - 1)) (λ last. is_below last c.args.first.now ≡ true)) c.deref-2.ensures.value (c.ends_below.ensures.yes c.if-not-ends_below.false))
    (subst (λ (l : List First). IfSome (slice_get l at) (λ (f : First). is_below c.args.last.now f.key ≡ true)) c.deref-else-not-ends_below.ensures.value (c.begins_above.ensures.yes c.if-not-begins_above.false)) in
    subst (λ (l : List First). AreTaken (table ++ rows ∷ []) l c.insert-else-at-len.new.self.items self.empty.items) (sym firsts)
    (subst (λ (l : List (List ℕ)). AreTaken (table ++ rows ∷ []) (insert self.firsts.items at new) l self.empty.items) (sym lasts) more)
