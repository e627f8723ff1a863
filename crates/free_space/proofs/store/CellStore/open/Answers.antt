use Rattle.std.proofs.Common.{◌≡◌, Err, List, length, sym, ap, subst, ◌∙◌}
use Rattle.std.proofs.lemmas.Result.{err_from_is_err_and}
use Rattle.hal_base.specs.declared.place.Shape.{Shape}
use Rattle.hal_base.specs.declared.outcome.StoreFault.TheVariants.{BadTile}
use Rattle.free_space.specs.Store.{Knows}
use Rattle.free_space.specs.Opening.{FirstBreaksAt}
use Rattle.free_space.proofs.Told.{handed_on}
use Rattle.free_space.proofs.store.CellStore.open.Goals as goal

pub returns-in_err-spaces-clause-bad : goal.returns-in_err-spaces-clause-bad
returns-in_err-spaces-clause-bad g c = λ n offset is pages told.
    let p = err_from_is_err_and c.from_residual-in_err-spaces.result c.from_residual-in_err-spaces.ensures.1 in
    let shapes : c.as_slice.result.now ≡ c.args.shapes.now = c.as_slice.ensures ∙ c.in_ok-shapes.ensures.kept in
    let failed : c.read_spaces.result ≡ Err (BadTile n offset) = handed_on c.read_spaces.result c.from_residual-in_err-spaces.result p.0 c.in_err-spaces.field-0.0 (BadTile n offset) p.1 p.2 c.in_err-spaces.was is in
    subst (λ (s : List Shape). FirstBreaksAt s pages n offset) shapes (c.read_spaces.ensures.bad n offset failed pages told)

pub returns-clause-opened : goal.returns-clause-opened
returns-clause-opened g c =
    let same = c.read_spaces.ensures.leaves.same in
    record {
      many = c.in_ok-spaces.ensures.many ∙ ap length (sym (same.places c.args.set));
      told = λ pages told. subst (λ (s : List Shape). Knows s c.in_ok-spaces.spaces.pages.items pages) c.as_slice.ensures (c.in_ok-spaces.ensures.layout pages (sym (same.pages c.args.set) ∙ told));
    }
