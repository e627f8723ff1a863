use Rattle.std.proofs.Common.{◌≡◌, ◌∙◌, ◌++◌, ℕ, List, refl, ap, false}
use Rattle.std.proofs.lemmas.Result.{err_from_is_err_and}
use Rattle.hal_base.specs.declared.outcome.PageFault.TheVariants as page
use Rattle.record_tree.proofs.Frames.{ok_weaker}
use Rattle.record_tree.proofs.CellFrames.{reads_of, changes_at, cells_then, cells_fail}
use Rattle.record_tree.proofs.Downward.{first_holds, first_pends, span_ends, span_few, stays_then, told_from}
use Rattle.record_tree.proofs.Opening.{one_fault}
use Rattle.record_tree.proofs.descent.end_span.Goals as goal

pub end-requires-clause-cell : goal.end-requires-clause-cell
end-requires-clause-cell g c = first_holds c.args.cells.now (g.H.Shelf.seen c.args.shelf.now) (g.H.Shelf.seen c.cell.new.shelf) c.args.at c.cell.ensures.leaves.same c.requires.hangs

pub finish-requires-clause-pend : goal.finish-requires-clause-pend
finish-requires-clause-pend g c =
    let cells = c.args.cells.now in
    let old = g.H.Shelf.seen c.args.shelf.now in
    let mid = g.H.Shelf.seen c.cell.new.shelf in
    let new = g.H.Shelf.seen c.end.new.shelf in
    let same = c.cell.ensures.leaves.same in
    let changes = changes_at cells mid new c.args.at (λ cell. cell.copied ≡ false) (g.met.H.Shelf.told_alike c.cell.new.shelf) (g.met.H.Shelf.told_alike c.end.new.shelf) (first_holds cells old mid c.args.at same c.requires.hangs) c.end.ensures.leaves in
    first_pends c.args.fate cells c.end.new.cells old mid new c.args.at c.in_ok-cell.cell c.put_off.new.pending.items same c.requires.hangs c.in_ok-cell.ensures.cell
    (c.in_ok-put_off.ensures ∙ ap (λ (l : List ℕ). l ++ c.as_slice.result.now) c.new.ensures.items ∙ c.as_slice.ensures) c.in_ok-end.ensures.ended (told_from cells c.end.new.cells old mid new same changes c.end.ensures.stays.first)

pub returns-in_err-end-clause-leaves : goal.returns-in_err-end-clause-leaves
returns-in_err-end-clause-leaves g c =
    let cells = c.args.cells.now in
    let old = g.H.Shelf.seen c.args.shelf.now in
    let mid = g.H.Shelf.seen c.cell.new.shelf in
    let new = g.H.Shelf.seen c.end.new.shelf in
    let p = err_from_is_err_and c.from_residual-in_err-end.result c.from_residual-in_err-end.ensures.1 in
    let q = one_fault c.end.result c.from_residual-in_err-end.result _ p.0 page.Failed c.in_err-end.was p.1 p.2 in
    cells_fail cells
    (cells_then cells cells refl (reads_of cells c.cell.ensures.leaves)
    (changes_at cells mid new c.args.at (λ cell. cell.copied ≡ false) (g.met.H.Shelf.told_alike c.cell.new.shelf) (g.met.H.Shelf.told_alike c.end.new.shelf) (first_holds cells old mid c.args.at c.cell.ensures.leaves.same c.requires.hangs) c.end.ensures.leaves)
    (g.met.H.Shelf.steady_then c.args.shelf.now c.cell.new.shelf c.end.new.shelf)) q.0 q.1

pub returns-clause-ended : goal.returns-clause-ended
returns-clause-ended g c =
    ok_weaker c.finish.result c.finish.ensures.finished (λ rest.
    span_ends c.args.fate c.args.cells.now c.end.new.cells c.finish.new.cells (g.H.Shelf.seen c.args.shelf.now) (g.H.Shelf.seen c.cell.new.shelf) (g.H.Shelf.seen c.end.new.shelf) (g.H.Shelf.seen c.finish.new.shelf) c.args.at c.in_ok-cell.cell
    c.put_off.new.pending.items c.cell.ensures.leaves.same c.in_ok-cell.ensures.cell (c.in_ok-put_off.ensures ∙ ap (λ (l : List ℕ). l ++ c.as_slice.result.now) c.new.ensures.items ∙ c.as_slice.ensures) c.in_ok-end.ensures.ended rest)

pub returns-clause-stays : goal.returns-clause-stays
returns-clause-stays g c = stays_then c.args.cells.now c.end.new.cells c.finish.new.cells (g.H.Shelf.seen c.end.new.shelf) (g.H.Shelf.seen c.finish.new.shelf) c.end.ensures.stays c.finish.ensures.stays

pub returns-clause-leaves : goal.returns-clause-leaves
returns-clause-leaves g c =
    let cells = c.args.cells.now in
    let old = g.H.Shelf.seen c.args.shelf.now in
    let mid = g.H.Shelf.seen c.cell.new.shelf in
    let new = g.H.Shelf.seen c.end.new.shelf in
    let ends = cells_then cells cells refl (reads_of cells c.cell.ensures.leaves)
    (changes_at cells mid new c.args.at (λ cell. cell.copied ≡ false) (g.met.H.Shelf.told_alike c.cell.new.shelf) (g.met.H.Shelf.told_alike c.end.new.shelf) (first_holds cells old mid c.args.at c.cell.ensures.leaves.same c.requires.hangs) c.end.ensures.leaves)
    (g.met.H.Shelf.steady_then c.args.shelf.now c.cell.new.shelf c.end.new.shelf) in
    cells_then cells c.end.new.cells c.end.ensures.stays.first ends c.finish.ensures.leaves (g.met.H.Shelf.steady_then c.args.shelf.now c.end.new.shelf c.finish.new.shelf)

pub returns-clause-few : goal.returns-clause-few
returns-clause-few g c =
    span_few c.args.fate c.args.cells.now c.end.new.cells (g.H.Shelf.seen c.args.shelf.now) (g.H.Shelf.seen c.cell.new.shelf) (g.H.Shelf.seen c.end.new.shelf) (g.H.Shelf.seen c.finish.new.shelf) c.args.at c.in_ok-cell.cell c.put_off.new.pending.items
    c.cell.ensures.leaves.same c.in_ok-cell.ensures.cell (c.in_ok-put_off.ensures ∙ ap (λ (l : List ℕ). l ++ c.as_slice.result.now) c.new.ensures.items ∙ c.as_slice.ensures) c.in_ok-end.ensures.ended c.cell.ensures.leaves.few c.end.ensures.few c.finish.ensures.few
