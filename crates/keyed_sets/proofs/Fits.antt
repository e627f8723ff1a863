-- A row put into the page where its key goes, which takes it.
use Rattle.std.proofs.Common.{◌≡◌, ◌⊎◌, ℕ, ◌+◌, ◌<◌, ◌≤◌, List, length, get_or, set, Option, Some, None, inl, inr, sym, ap, subst, ◌∙◌, arith}
use Rattle.std.specs.Prelude.{Contains, IfSome, IsSomeAnd, slice_get}
use Rattle.std.specs.Option.{option_map}
use Rattle.std.proofs.lemmas.Bool.{cases_eq}
use Rattle.std.proofs.lemmas.Option.{slice_get_within}
use Rattle.std.proofs.lemmas.List.{length-map}
use Rattle.keyed_sets.specs.declared.row.RowShape.{RowShape}
use Rattle.keyed_sets.specs.declared.index.First.{First}
use Rattle.keyed_sets.specs.Changes.{placed}
use Rattle.keyed_sets.specs.Layout.{Row, rows_in, count_of, end_of, PutsRows}
use Rattle.keyed_sets.specs.Map.{RowsRise, rows_of, with_row}
use Rattle.keyed_sets.specs.Places.{IsHome, Takes, IsPut, Fits, Puts}
use Rattle.keyed_sets.specs.Rule.{Rise, capacity, tables, page_rows}
use Rattle.keyed_sets.specs.Standing.{StartsWith, Stands}
use Rattle.keyed_sets.specs.Taken.{AreApart}
use Rattle.keyed_sets.proofs.Maps.{with_row_has, with_row_new, with_row_old, with_row_rises}
use Rattle.keyed_sets.proofs.Members.{rise_all}
use Rattle.keyed_sets.proofs.Sets.{IsIn, lawful}
use Rattle.keyed_sets.proofs.Lookups.{page_is, page_rises}
use Rattle.keyed_sets.proofs.Placing.{placed_here, placed_other, placed_or, rows_with}
use Rattle.keyed_sets.proofs.Removes.{written_table, written_apart}
use Rattle.keyed_sets.proofs.Splits.{Part, part_written, part_stands, other_key}
use Rattle.keyed_sets.proofs.Homes.{takes_is}

-- a page of the index that gets a row, told or not
pub record FitTold (shape : RowShape) (told told2 : Option (List (List ℕ))) (firsts : List First) (empty : List ℕ) (home : ℕ) (p : First) (page page2 : List ℕ) (at : ℕ) (row : Row) : Type 0 where
  pub some : 0 < shape.key
  pub stands : IfSome told (Stands shape firsts empty)
  pub within : home < length firsts
  pub is : get_or firsts home p ≡ p
  pub read : IfSome told (λ pages. slice_get pages p.page ≡ Some page)
  pub puts : Rise (rows_in shape page) → PutsRows shape page page2 (with_row row (rows_in shape page))
  pub takes : ((at < count_of page) × (option_map (λ (r : Row). r.0) (slice_get (rows_in shape page) at) ≡ Some (row.0))) ⊎ (end_of shape (count_of page + 1) ≤ 4096)
  pub goes : IfSome told (λ pages. IsHome (row.0) (tables shape pages) p.page)
  pub staged : told2 ≡ option_map (λ pages. set pages p.page page2) told

fit_part : (shape : RowShape) (pages : List (List ℕ)) (told2 : Option (List (List ℕ))) (firsts : List First) (empty : List ℕ) (home : ℕ) (p : First) (page page2 : List ℕ) (at : ℕ) (row : Row) → FitTold shape (Some pages) told2 firsts empty home p page page2 at row
    → Part shape pages firsts empty home p page page2 row (with_row row (rows_in shape page))
fit_part shape pages told2 firsts empty home p page page2 at row t =
    let rise = page_rises shape pages p.page page t.stands.rule t.read in
    let rises : RowsRise (rows_in shape page) = rise_all (rows_in shape page) rise in
    record {
      stands = t.stands;
      within = t.within;
      is = t.is;
      read = t.read;
      puts = t.puts rise;
      rise = with_row_rises row (rows_in shape page) rises;
      has = λ x c. elim (with_row_has row (rows_in shape page) rises x c) [ inl is ↦ inl is | inr old ↦ inr old.0 ];
      near = t.goes;
    }

fit_rows : (shape : RowShape) (pages : List (List ℕ)) (firsts : List First) (empty : List ℕ) (home : ℕ) (p : First) (page page2 : List ℕ) (row : Row) → Part shape pages firsts empty home p page page2 row (with_row row (rows_in shape page))
    → rows_of shape (set pages p.page page2) ≡ with_row row (rows_of shape pages)
fit_rows shape pages firsts empty home p page page2 row t =
    let rows : List Row = rows_in shape page in
    let part : List Row = with_row row rows in
    let table : List (List Row) = tables shape pages in
    let w = part_written shape pages firsts empty home p page page2 row part t in
    let grown = written_table shape pages firsts empty home p page page2 part w in
    let le : p.page ≤ length table = omega (arith, slice_get_within pages p.page page t.read, length-map pages (rows_in shape)) in
    let are : AreApart (tables shape (set pages p.page page2)) = subst AreApart (sym grown) (written_apart shape pages firsts empty home p page page2 part w) in
    let apart = lawful shape pages t.stands.rule in
    let same = page_is shape pages p.page page t.read in
    let rise : RowsRise rows = rise_all rows (page_rises shape pages p.page page t.stands.rule t.read) in
    let there : IsIn (placed p.page part table) row = (p.page, subst (λ (l : List Row). Contains l row) (sym (placed_here p.page part table le)) (with_row_new row rows)) in
    rows_with shape pages (set pages p.page page2) row apart are (subst (λ (t : List (List Row)). IsIn t row) (sym grown) there)
    (λ x c. elim (placed_or p.page part table le c.0 x (subst (λ (t : List (List Row)). Contains (page_rows t c.0) x) grown c.1)) [
      | inl here ↦ elim (with_row_has row rows rise x here.1) [
        | inl is ↦ inl is
        | inr old ↦ inr ((p.page, subst (λ (l : List Row). Contains l x) (sym same) old.0), old.1)
      ]
      | inr old ↦ inr ((c.0, old.1), other_key shape pages firsts empty home p page page2 row part t c.0 old.0 x old.1)
    ])
    (λ x c other. subst (λ (t : List (List Row)). IsIn t x) (sym grown) (elim (cases_eq c.0 p.page) [
      | inl here ↦ (
        p.page,
        subst (λ (l : List Row). Contains l x) (sym (placed_here p.page part table le)) (with_row_old row rows x (subst (λ (l : List Row). Contains l x) (ap (page_rows table) here ∙ same) c.1) other),
      )
      | inr apart_from ↦ (c.0, subst (λ (l : List Row). Contains l x) (sym (placed_other p.page part table c.0 le apart_from)) c.1)
    ]))

pub fit_puts : (shape : RowShape) (told told2 : Option (List (List ℕ))) (firsts : List First) (empty : List ℕ) (home : ℕ) (p : First) (page page2 : List ℕ) (at : ℕ) (row : Row) → FitTold shape told told2 firsts empty home p page page2 at row → Puts shape row told told2
fit_puts shape None told2 firsts empty home p page page2 at row t = record { pages = tt; rows = tt }
fit_puts shape (Some pages) told2 firsts empty home p page page2 at row t =
    let rows : List Row = rows_in shape page in
    let table : List (List Row) = tables shape pages in
    let one = fit_part shape pages told2 firsts empty home p page page2 at row t in
    let same : page_rows table p.page ≡ rows = page_is shape pages p.page page t.read in
    let rise : RowsRise rows = rise_all rows (page_rises shape pages p.page page t.stands.rule t.read) in
    let grown = written_table shape pages firsts empty home p page page2 (with_row row rows) (part_written shape pages firsts empty home p page page2 row (with_row row rows) one) in
    record {
      pages = subst (λ o. IsSomeAnd o (λ after. IsPut (capacity shape) row table (tables shape after))) (sym t.staged)
          (Fits p.page t.goes (subst (Takes (capacity shape) (row.0)) (sym same) (takes_is shape page (row.0) at t.some rise t.takes)) (grown ∙ ap (λ (l : List Row). placed p.page (with_row row l) table) (sym same)));
      rows = subst (λ o. IsSomeAnd o (λ after. rows_of shape after ≡ with_row row (rows_of shape pages))) (sym t.staged) (fit_rows shape pages firsts empty home p page page2 row one);
    }

pub fit_stands : (shape : RowShape) (told told2 : Option (List (List ℕ))) (firsts : List First) (empty : List ℕ) (home : ℕ) (p : First) (page page2 : List ℕ) (at : ℕ) (row : Row) (z : List ℕ) → FitTold shape told told2 firsts empty home p page page2 at row → StartsWith z (rows_in shape page2)
    → IfSome told2 (Stands shape (set firsts home (record { key = z; page = p.page })) empty)
fit_stands shape None told2 firsts empty home p page page2 at row z t starts = subst (λ o. IfSome o (Stands shape (set firsts home (record { key = z; page = p.page })) empty)) (sym t.staged) tt
fit_stands shape (Some pages) told2 firsts empty home p page page2 at row z t starts =
    let one = fit_part shape pages told2 firsts empty home p page page2 at row t in
    subst (λ o. IfSome o (Stands shape (set firsts home (record { key = z; page = p.page })) empty)) (sym t.staged)
    (part_stands shape pages firsts empty home p page page2 row (with_row row (rows_in shape page)) z one (subst (StartsWith z) one.puts.rows starts))
