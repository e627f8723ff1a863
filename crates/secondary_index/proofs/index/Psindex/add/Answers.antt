use Rattle.std.proofs.Common.{◌≡◌, ◌∙◌, true, false, refl, subst}
use Rattle.std.proofs.lemmas.Result.{err_from_is_err_and}
use Rattle.hal_base.specs.declared.outcome.PageFault.TheVariants as page
use Rattle.hal_base.proofs.ShelfLemmas.{same_none}
use Rattle.keyed_sets.specs.Calls.{Inserts, PutsIn}
use Rattle.keyed_sets.specs.Layout.{Row}
use Rattle.secondary_index.specs.Entries.{entry_row}
use Rattle.secondary_index.specs.Faults.{AddFails, IsTaken, NotPut}
use Rattle.secondary_index.proofs.Adds.{row_is, one_fault, err_is, grown_as, not_put, not_added, key_is, ok_not_err}
use Rattle.secondary_index.proofs.index.Psindex.add.Goals as goal

pub returns-in_err-body-clause-fails : goal.returns-in_err-body-clause-fails
returns-in_err-body-clause-fails g c =
    let id = c.args.self.now.rows in
    let before = g.H.Shelf.seen c.args.shelf.now in
    let p = err_from_is_err_and c.from_residual.result c.from_residual.ensures.1 in
    err_is c.from_residual.result p.0 (AddFails id c.args.entry.now before before) p.1
    (NotPut page.Memory p.2 (not_put id (entry_row c.args.entry.now) before before page.Memory (same_none before) (λ is. cc)))

pub returns-in_err-insert-clause-leaves : goal.returns-in_err-insert-clause-leaves
returns-in_err-insert-clause-leaves g c =
    let p = err_from_is_err_and c.from_residual-in_err-insert.result c.from_residual-in_err-insert.ensures.1 in
    let q = one_fault c.insert.result c.from_residual-in_err-insert.result _ p.0 c.in_err-insert.was p.1 p.2 in
    grown_as c.args.self.now.rows c.insert.ensures.leaves q.0 q.1

pub returns-in_err-insert-clause-fails : goal.returns-in_err-insert-clause-fails
returns-in_err-insert-clause-fails g c =
    let id = c.args.self.now.rows in
    let entry = c.args.entry.now in
    let before = g.H.Shelf.seen c.args.shelf.now in
    let after = g.H.Shelf.seen c.insert.new.shelf in
    let row : Row = (c.as_slice-key.result.now, c.as_slice-2.result.now) in
    let is : row ≡ entry_row entry = row_is entry c.as_slice-key.result.now c.as_slice-2.result.now c.as_slice.result.now c.as_slice-key.ensures (c.as_slice-2.ensures ∙ c.in_ok-body.ensures) c.as_slice.ensures in
    let p = err_from_is_err_and c.from_residual-in_err-insert.result c.from_residual-in_err-insert.ensures.1 in
    err_is c.from_residual-in_err-insert.result p.0 (AddFails id entry before after) p.1 (not_added id entry row before after c.insert.result _ p.0 is c.in_err-insert.was p.2 c.insert.ensures.fails)

pub returns-then-not-branch-clause-leaves : goal.returns-then-not-branch-clause-leaves
returns-then-not-branch-clause-leaves g c =
    grown_as c.args.self.now.rows c.insert.ensures.leaves (λ is. absurd (ok_not_err c.insert.result c.in_ok-insert.field-0 page.Failed c.in_ok-insert.was is)) (λ is. cc)

pub returns-then-not-branch-clause-fails : goal.returns-then-not-branch-clause-fails
returns-then-not-branch-clause-fails g c =
    let id = c.args.self.now.rows in
    let entry = c.args.entry.now in
    let before = g.H.Shelf.seen c.args.shelf.now in
    let after = g.H.Shelf.seen c.insert.new.shelf in
    let row : Row = (c.as_slice-key.result.now, c.as_slice-2.result.now) in
    let done : c.in_ok-insert.field-0 ≡ false = c.if-not-branch.true in
    let tried : Inserts id row before after false = subst (Inserts id row before after) done c.in_ok-insert.ensures.inserted in
    IsTaken refl (key_is false id row entry.key before c.as_slice-key.ensures tried.was) (tried.same refl)

pub returns-clause-not_taken : goal.returns-clause-not_taken
returns-clause-not_taken g c =
    let id = c.args.self.now.rows in
    let entry = c.args.entry.now in
    let before = g.H.Shelf.seen c.args.shelf.now in
    let after = g.H.Shelf.seen c.insert.new.shelf in
    let row : Row = (c.as_slice-key.result.now, c.as_slice-2.result.now) in
    let done : c.in_ok-insert.field-0 ≡ true = c.if-not-branch.false in
    let tried : Inserts id row before after true = subst (Inserts id row before after) done c.in_ok-insert.ensures.inserted in
    key_is true id row entry.key before c.as_slice-key.ensures tried.was

pub returns-clause-added : goal.returns-clause-added
returns-clause-added g c =
    let id = c.args.self.now.rows in
    let entry = c.args.entry.now in
    let before = g.H.Shelf.seen c.args.shelf.now in
    let after = g.H.Shelf.seen c.insert.new.shelf in
    let row : Row = (c.as_slice-key.result.now, c.as_slice-2.result.now) in
    let is : row ≡ entry_row entry = row_is entry c.as_slice-key.result.now c.as_slice-2.result.now c.as_slice.result.now c.as_slice-key.ensures (c.as_slice-2.ensures ∙ c.in_ok-body.ensures) c.as_slice.ensures in
    let done : c.in_ok-insert.field-0 ≡ true = c.if-not-branch.false in
    let tried : Inserts id row before after true = subst (Inserts id row before after) done c.in_ok-insert.ensures.inserted in
    subst (λ (r : Row). PutsIn id r before after) is (tried.puts refl)
