use Rattle.std.proofs.Common.{◌≡◌, ◌∙◌, ◌++◌, ◌∷◌, [], ℕ, List, sym, ap}
use Rattle.std.specs.Option.{option_map}
use Rattle.std.proofs.lemmas.Bool.{eqb-true}
use Rattle.std.proofs.lemmas.List.{nil_from_length}
use Rattle.hal_base.specs.Pages.{empty_page}
use Rattle.keyed_sets.specs.Standing.{with_number}
use Rattle.keyed_sets.specs.Writing.{Made}
use Rattle.keyed_sets.proofs.index.Index.make_page.Goals as goal

pub returns-clause-made : goal.returns-clause-made
returns-clause-made g c =
    let empty = c.args.self.now.empty in
    let n : ℕ = c.in_ok-n.n in
    let none : empty.items ≡ [] = nil_from_length empty.items (sym empty.ok.0 ∙ eqb-true _ _ (sym c.is_empty.ensures ∙ c.if-not-is_empty.false)) in
    let number = c.in_ok-n.ensures.number in
    Made none (c.insert_number.ensures ∙ ap (with_number n) (c.make_slot.ensures.items ∙ none) ∙ ap (λ (k : ℕ). k ∷ []) number)
    (c.in_ok-n.ensures.page ∙ ap (λ (k : ℕ). option_map (λ (pages : List (List ℕ)). pages ++ empty_page 2 c.args.set k ∷ []) ((g.H.Shelf.seen c.args.shelf.now).pages c.args.set)) number) c.in_ok-n.ensures.leaves
