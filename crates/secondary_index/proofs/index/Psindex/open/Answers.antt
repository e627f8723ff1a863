use Rattle.std.proofs.Common.{◌≡◌, Result, Err, subst}
use Rattle.std.proofs.lemmas.Option.{IfSome_then}
use Rattle.std.proofs.lemmas.Result.{err_from_is_err_and}
use Rattle.hal_base.specs.declared.outcome.StoreFault.TheVariants.{BadTile}
use Rattle.keyed_sets.specs.Rule.{BreaksAt}
use Rattle.keyed_sets.specs.declared.row.RowShape.{RowShape}
use Rattle.secondary_index.specs.Entries.{index_set}
use Rattle.secondary_index.proofs.index.Psindex.open.Goals as goal

-- one fault, in two results
same_fault : {T U E : Type 0} (r : Result T E) (s : Result U E) (x e fault : E) → r ≡ Err x → s ≡ Err e → e ≡ x → s ≡ Err fault → r ≡ Err fault
same_fault r s x e fault first second same is = cc

pub returns-in_err-rows-clause-broken : goal.returns-in_err-rows-clause-broken
returns-in_err-rows-clause-broken g c = λ page offset is.
    let shape : RowShape = c.shape_of-shape.result in
    let p = err_from_is_err_and c.from_residual.result c.from_residual.ensures.1 in
    let bad = same_fault c.open.result c.from_residual.result _ p.0 (BadTile page offset) c.in_err-rows.was p.1 p.2 is in
    IfSome_then ((g.H.Shelf.seen c.args.shelf.now).pages (index_set c.args.place)) (c.open.ensures.broken page offset bad)
    (λ pages breaks. λ def at. subst (λ (s : RowShape). BreaksAt s pages page offset) (c.shape_of-shape.ensures.is def at) breaks)
