use Rattle.std.proofs.Common.{◌≡◌, ◌∙◌, ℕ, ◌+◌, List, [], ◌∷◌, None, ap, sym, refl, arith}
use Rattle.std.specs.Prelude.{sum, sum_by}
use Rattle.std.proofs.lemmas.List.Sums.{sum_by_from}
use Rattle.hal_base.specs.declared.place.PartState.{PartState}
use Rattle.hal_schema.specs.declared.row.Row.{Row}
use Rattle.hal_schema.specs.declared.schema.Schema.{Schema}
use Rattle.reorg_cursor.specs.State.{unit_refusal}
use Rattle.reorg_cursor.specs.Groups.{groups_left, stepped}
use Rattle.reorg_cursor.specs.Laws.{Stands, StatesFit, stepped_by}
use Rattle.reorg_cursor.proofs.Fits.{fits_kind}
use Rattle.reorg_cursor.proofs.RootOrder.{roots_in_order}
use Rattle.reorg_cursor.proofs.UnitLemmas.{units_join, none_after}
use Rattle.reorg_cursor.proofs.laws.units_reach_one_end.Goals as goal

sum_more : (k : ℕ) (sizes : List ℕ) → sum (k ∷ sizes) ≡ k + sum sizes
sum_more k sizes =
    let a : sum (k ∷ sizes) ≡ (0 + k) + sum_by (λ n. n) sizes = sum_by_from (λ n. n) (0 + k) sizes in
    let b : sum sizes ≡ 0 + sum_by (λ n. n) sizes = sum_by_from (λ n. n) 0 sizes in
    omega arith

as_one : StatesFit → (schema : Schema) (place : ℕ) (rows : List Row) (sizes : List ℕ) (s : PartState) → Stands schema place rows s → unit_refusal s ≡ None → stepped_by schema place rows sizes s ≡ stepped schema place rows (sum sizes) s
as_one fit schema place rows [] s stands active = refl
as_one fit schema place rows (k ∷ sizes) s stands active =
    let next : Stands schema place rows (stepped schema place rows k s) = record { forest = stands.forest; fits = (fit schema place rows s stands).unit k active } in
    as_one fit schema place rows sizes (stepped schema place rows k s) next active
    ∙ units_join schema place rows s (sum sizes) k (fits_kind schema place s stands.fits) (roots_in_order schema place rows stands.forest)
    ∙ ap (λ n. stepped schema place rows n s) (sym (sum_more k sizes))

pub returns : goal.returns
returns c = λ schema place rows s sizes stands active.
    let one = as_one c.states_fit.ensures schema place rows sizes s stands active in
    record {
      same = one;
      all = λ enough. ap (λ (t : PartState). groups_left schema place rows t.cursor) one
          ∙ none_after schema place rows s.cursor (sum sizes) (fits_kind schema place s stands.fits) (roots_in_order schema place rows stands.forest) enough;
    }
