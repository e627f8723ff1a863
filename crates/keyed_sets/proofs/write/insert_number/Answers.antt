use Rattle.std.proofs.Common.{◌∙◌, List, ℕ, Bool, cond, ap, sym}
use Rattle.std.specs.Prelude.{insert}
use Rattle.keyed_sets.specs.Standing.{with_number}
use Rattle.keyed_sets.proofs.write.insert_number.Goals as goal

pub returns : goal.returns
returns c =
    let numbers : List ℕ = c.args.numbers.now.items in
    c.insert.ensures.items ∙ ap (λ (b : Bool). cond b (insert numbers c.number_place-place.result c.args.n) numbers) (c.insert.ensures.succeeds c.requires)
    ∙ ap (λ (l : List ℕ). insert l c.number_place-place.result c.args.n) (sym c.deref.ensures.value) ∙ c.number_place-place.ensures.place ∙ ap (with_number c.args.n) c.deref.ensures.value
