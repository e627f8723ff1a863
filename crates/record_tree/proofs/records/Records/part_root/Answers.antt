use Rattle.std.proofs.Common.{◌≡◌, ◌∙◌, Ok, Err, refl, sym}
use Rattle.std.proofs.lemmas.Result.{err_from_is_err_and}
use Rattle.hal_base.specs.declared.outcome.PageFault.TheVariants as page
use Rattle.record_tree.specs.declared.records.Records.{Records}
use Rattle.record_tree.proofs.CellFrames.{side_reads, side_writes, side_fails}
use Rattle.record_tree.proofs.Opening.{one_fault, ok_not_err}
use Rattle.record_tree.proofs.Passing.{parts_root_read}
use Rattle.record_tree.proofs.records.Records.part_root.Goals as goal

pub returns-then-home_in-at-clause-leaves : goal.returns-then-home_in-at-clause-leaves
returns-then-home_in-at-clause-leaves g c =
    side_fails c.args.self.now (side_reads c.args.self.now c.get.ensures.leaves) (λ is. absurd (ok_not_err c.get.result c.in_ok-body.field-0 page.Failed c.in_ok-body.was is)) (λ is. absurd (let wrong : Err page.Memory ≡ Err page.Failed = is in cc))

pub returns-in_err-remove-clause-leaves : goal.returns-in_err-remove-clause-leaves
returns-in_err-remove-clause-leaves g c =
    let records = c.args.self.now in
    let p = err_from_is_err_and c.from_residual-in_err-remove.result c.from_residual-in_err-remove.ensures.1 in
    let q = one_fault c.remove.result c.from_residual-in_err-remove.result _ p.0 page.Failed c.in_err-remove.was p.1 p.2 in
    side_fails records
    (side_writes records c.get.new.self (g.H.Shelf.seen c.args.shelf.now) (g.H.Shelf.seen c.get.new.shelf) (g.H.Shelf.seen c.remove.new.shelf) c.get.ensures.kept.0 (g.met.H.Shelf.told_alike c.get.new.shelf) (g.met.H.Shelf.told_alike c.remove.new.shelf)
    c.get.ensures.leaves c.remove.ensures.leaves (g.met.H.Shelf.steady_then c.args.shelf.now c.get.new.shelf c.remove.new.shelf)) q.0 q.1

pub returns-then-branch-clause-parted : goal.returns-then-branch-clause-parted
returns-then-branch-clause-parted g c =
    let records = c.args.self.now in
    let now : Records = record records { roots = c.remove.new.self } in
    parts_root_read c.others_leave_a_side_open.ensures records now c.get.new.self (g.H.Shelf.seen c.args.shelf.now) (g.H.Shelf.seen c.get.new.shelf) (g.H.Shelf.seen c.remove.new.shelf) c.args.at c.args.cell.now c.in-Some.key.now c.in-Some-2.body
    c.in_ok-body.field-0 c.in_ok-remove.field-0 (g.met.H.Shelf.told_alike c.args.shelf.now) c.requires.stands c.requires.root c.requires.cell c.get.ensures.leaves.same refl refl refl refl c.get.ensures.kept.0 c.remove.ensures.opened c.in_ok-body.ensures.found
    c.in-Some-2.is (sym c.home_in.ensures ∙ c.if-home_in-at.false) c.in_ok-remove.ensures.removed c.if-branch.true c.remove.ensures.leaves.changes.changed

pub returns-then-branch-clause-leaves : goal.returns-then-branch-clause-leaves
returns-then-branch-clause-leaves g c =
    let records = c.args.self.now in
    side_fails records
    (side_writes records c.get.new.self (g.H.Shelf.seen c.args.shelf.now) (g.H.Shelf.seen c.get.new.shelf) (g.H.Shelf.seen c.remove.new.shelf) c.get.ensures.kept.0 (g.met.H.Shelf.told_alike c.get.new.shelf) (g.met.H.Shelf.told_alike c.remove.new.shelf)
    c.get.ensures.leaves c.remove.ensures.leaves (g.met.H.Shelf.steady_then c.args.shelf.now c.get.new.shelf c.remove.new.shelf)) (λ is. absurd (ok_not_err c.remove.result c.in_ok-remove.field-0 page.Failed c.in_ok-remove.was is)) (λ is. absurd (ok_not_err (Ok tt) tt page.Failed refl is))

pub returns-clause-leaves : goal.returns-clause-leaves
returns-clause-leaves g c =
    let records = c.args.self.now in
    side_fails records
    (side_writes records c.get.new.self (g.H.Shelf.seen c.args.shelf.now) (g.H.Shelf.seen c.get.new.shelf) (g.H.Shelf.seen c.remove.new.shelf) c.get.ensures.kept.0 (g.met.H.Shelf.told_alike c.get.new.shelf) (g.met.H.Shelf.told_alike c.remove.new.shelf)
    c.get.ensures.leaves c.remove.ensures.leaves (g.met.H.Shelf.steady_then c.args.shelf.now c.get.new.shelf c.remove.new.shelf)) (λ is. absurd (ok_not_err c.remove.result c.in_ok-remove.field-0 page.Failed c.in_ok-remove.was is)) (λ is. absurd (let wrong : Err page.Memory ≡ Err page.Failed = is in cc))
