use Rattle.std.proofs.Common.{◌≡◌, ◌∙◌, List, Some, None, sym, ap, subst, true, arith}
use Rattle.std.specs.Prelude.{slice_get}
use Rattle.std.specs.List.{AllWithin}
use Rattle.keyed_sets.specs.Layout.{Row, rows_in, is_below}
use Rattle.keyed_sets.specs.Map.{next_after, first_above}
use Rattle.keyed_sets.specs.Rule.{tables, page_rows}
use Rattle.keyed_sets.specs.Standing.{Stands}
use Rattle.keyed_sets.specs.Writing.{first_at}
use Rattle.keyed_sets.proofs.Lookups.{page_is, page_rises}
use Rattle.keyed_sets.proofs.Members.{rise_all}
use Rattle.keyed_sets.proofs.NextRows.{first_past, none_past}
use Rattle.keyed_sets.proofs.OpenSets.{opened_stands}
use Rattle.keyed_sets.proofs.Rows.{length-rows_in}
use Rattle.keyed_sets.proofs.Told.{where_told, told_at}
use Rattle.keyed_sets.proofs.set.KeyedSet.above_in.Goals as goal

pub returns-then-past-count_in-clause-row : goal.returns-then-past-count_in-clause-row
returns-then-past-count_in-clause-row g c =
    let self = c.args.self.now in
    let told = (g.H.Shelf.seen c.args.shelf.now).pages self.set in
    let n = (first_at c.args.home self.index.firsts.items).page in
    let page = c.read_page.new.page in
    record {
      is = where_told told (λ pages. None ≡ next_after (Some c.args.key.now) (page_rows (tables self.shape pages) n)) (λ pages is.
          let stands = told_at told pages (Stands self.shape self.index.firsts.items self.index.empty.items) is (opened_stands self (g.H.Shelf.seen c.args.shelf.now) c.requires.opened) in
          let read = told_at told pages (λ l. slice_get l n ≡ Some page) is c.in_ok-read_page.ensures.read.is in
          none_past (rows_in self.shape page) c.place_past-past.result c.args.key.now (c.place_past-past.ensures.upto (page_rises self.shape pages n page stands.rule read))
          (omega (arith, c.if-past-count_in.true, c.count_in.ensures, length-rows_in self.shape page)) ∙ ap (first_above c.args.key.now) (sym (page_is self.shape pages n page read)));
      shaped = tt;
    }

pub returns-clause-row : goal.returns-clause-row
returns-clause-row g c =
    let self = c.args.self.now in
    let told = (g.H.Shelf.seen c.args.shelf.now).pages self.set in
    let n = (first_at c.args.home self.index.firsts.items).page in
    let page = c.read_page.new.page in
    let rows : List Row = rows_in self.shape page in
    record {
      is = where_told told (λ pages. Some c.in_ok-row.row ≡ next_after (Some c.args.key.now) (page_rows (tables self.shape pages) n)) (λ pages is.
          let stands = told_at told pages (Stands self.shape self.index.firsts.items self.index.empty.items) is (opened_stands self (g.H.Shelf.seen c.args.shelf.now) c.requires.opened) in
          let read = told_at told pages (λ l. slice_get l n ≡ Some page) is c.in_ok-read_page.ensures.read.is in
          let rise = page_rises self.shape pages n page stands.rule read in
          first_past rows c.place_past-past.result c.args.key.now c.in_ok-row.row (rise_all rows rise) (c.place_past-past.ensures.upto rise)
          (subst (AllWithin (λ (row : Row). is_below c.args.key.now (row.0) ≡ true) rows c.place_past-past.result) (sym (length-rows_in self.shape page)) (c.place_past-past.ensures.above rise))
          c.in_ok-row.ensures.row ∙ ap (first_above c.args.key.now) (sym (page_is self.shape pages n page read)));
      shaped = c.in_ok-row.ensures.shaped;
    }
