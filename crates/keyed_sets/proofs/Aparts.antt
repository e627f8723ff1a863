-- Ranges of keys that don't overlap: the test, and what it says.
use Rattle.std.proofs.Common.{◌≡◌, true, List, get_or, inl, inr, sym, ap, subst, ◌∙◌}
use Rattle.std.specs.Prelude.{◌||◌}
use Rattle.std.specs.List.{list_all}
use Rattle.std.proofs.lemmas.Bool.{cases_Bool, or_left, or_right}
use Rattle.std.proofs.lemmas.List.Sums.{AllPass-from_list_all, list_all-from_AllPass}
use Rattle.std.proofs.lemmas.List.Elements.{Contains-get_or}
use Rattle.keyed_sets.specs.Layout.{Row, is_below}
use Rattle.keyed_sets.specs.Rule.{all_below, are_apart}
use Rattle.keyed_sets.specs.Standing.{AllBelow, Apart}

below_from : (a b : List Row) → all_below a b ≡ true → AllBelow a b
below_from a b all x y c d =
    let each : list_all (λ (y : Row). is_below (x.0) (y.0)) b ≡ true =
    subst (λ (r : Row). list_all (λ (y : Row). is_below (r.0) (y.0)) b ≡ true) c.2 (AllPass-from_list_all (λ (x : Row). list_all (λ (y : Row). is_below (x.0) (y.0)) b) a all c.0 x c.1) in
    subst (λ (r : Row). is_below (x.0) (r.0) ≡ true) d.2 (AllPass-from_list_all (λ (y : Row). is_below (x.0) (y.0)) b each d.0 y d.1)

below_to : (a b : List Row) → AllBelow a b → all_below a b ≡ true
below_to a b below =
    list_all-from_AllPass (λ (x : Row). list_all (λ (y : Row). is_below (x.0) (y.0)) b) a (λ k d lt. list_all-from_AllPass (λ (y : Row). is_below ((get_or a k d).0) (y.0)) b (λ j e less.
    below (get_or a k d) (get_or b j e) (Contains-get_or a k d lt) (Contains-get_or b j e less)))

pub apart_from : (a b : List Row) → are_apart a b ≡ true → Apart a b
apart_from a b apart = elim (cases_Bool (all_below a b)) [
  | inl below ↦ inl (below_from a b below)
  | inr other ↦ inr (below_from b a (sym (ap (λ t. t || all_below b a) other) ∙ apart))
]

pub apart_to : (a b : List Row) → Apart a b → are_apart a b ≡ true
apart_to a b (inl below) = or_left (all_below a b) (all_below b a) (below_to a b below)
apart_to a b (inr above) = or_right (all_below a b) (all_below b a) (below_to b a above)
