-- A page that was found for a key and takes no row more.
use Rattle.std.proofs.Common.{◌≡◌, ℕ, List, Option, Some, sym, subst}
use Rattle.std.specs.Prelude.{IfSome, slice_get}
use Rattle.keyed_sets.specs.declared.row.RowShape.{RowShape}
use Rattle.keyed_sets.specs.declared.index.First.{First}
use Rattle.keyed_sets.specs.Layout.{Row}
use Rattle.keyed_sets.specs.Rule.{tables}
use Rattle.keyed_sets.specs.Goes.{GoesTo}
use Rattle.keyed_sets.specs.Standing.{IsIndex, Stands}
use Rattle.keyed_sets.specs.Taken.{AreApart}
use Rattle.keyed_sets.proofs.Sets.{lawful}
use Rattle.keyed_sets.proofs.Told.{told_both}

pub goes_told : (shape : RowShape) (told : Option (List (List ℕ))) (firsts held : List First) (empty : List ℕ) (key : List ℕ) (home : ℕ) (p : First) → IfSome told (Stands shape firsts empty) → held ≡ firsts
    → ((table : List (List Row)) (q : First) → AreApart table → IsIndex table held → slice_get held home ≡ Some q → GoesTo key table held home q) → slice_get firsts home ≡ Some p → IfSome told (λ pages. GoesTo key (tables shape pages) firsts home p)
goes_told shape told firsts held empty key home p stands same goes there =
    told_both told (Stands shape firsts empty) (λ pages. GoesTo key (tables shape pages) firsts home p) stands (λ pages is s.
    subst (λ (l : List First). GoesTo key (tables shape pages) l home p) same
    (goes (tables shape pages) p (lawful shape pages s.rule) (subst (IsIndex (tables shape pages)) (sym same) s.index) (subst (λ (l : List First). slice_get l home ≡ Some p) (sym same) there)))
