use Rattle.std.proofs.Common.{◌≡◌, ◌∙◌, ◌+◌, ◌-◌, ℕ, List, Some, sym, ap, arith}
use Rattle.std.specs.Prelude.{slice_get}
use Rattle.keyed_sets.specs.Layout.{Row, place_of}
use Rattle.keyed_sets.specs.Rule.{tables, page_rows}
use Rattle.keyed_sets.specs.Standing.{Stands}
use Rattle.keyed_sets.specs.Writing.{first_at}
use Rattle.keyed_sets.proofs.Lookups.{page_is, page_rises}
use Rattle.keyed_sets.proofs.OpenSets.{opened_stands}
use Rattle.keyed_sets.proofs.Told.{where_told, told_at}
use Rattle.keyed_sets.proofs.set.KeyedSet.below_in.Goals as goal

pub returns-clause-row : goal.returns-clause-row
returns-clause-row g c =
    let self = c.args.self.now in
    let told = (g.H.Shelf.seen c.args.shelf.now).pages self.set in
    let n = (first_at c.args.home self.index.firsts.items).page in
    let page = c.read_page.new.page in
    let key = c.args.key.now in
    record {
      is = where_told told (λ pages. (at : ℕ) × (at + 1 ≡ place_of key (page_rows (tables self.shape pages) n)) × (slice_get (page_rows (tables self.shape pages) n) at ≡ Some c.in_ok-row.row)) (λ pages is.
          let stands = told_at told pages (Stands self.shape self.index.firsts.items self.index.empty.items) is (opened_stands self (g.H.Shelf.seen c.args.shelf.now) c.requires.opened) in
          let read = told_at told pages (λ l. slice_get l n ≡ Some page) is c.in_ok-read_page.ensures.read.is in
          let same = page_is self.shape pages n page read in
          let less : (c.place_in-place.result - 1) + 1 ≡ c.place_in-place.result = omega (arith, c.if-place-eq0.false) in (
            c.place_in-place.result - 1,
            less ∙ c.place_in-place.ensures.place (page_rises self.shape pages n page stands.rule read) ∙ ap (place_of key) (sym same),
            ap (λ (l : List Row). slice_get l (c.place_in-place.result - 1)) same ∙ c.in_ok-row.ensures.row,
          ));
      shaped = c.in_ok-row.ensures.shaped;
    }
