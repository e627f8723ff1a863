use Rattle.std.proofs.Common.{refl, sym, ap, subst}
use Rattle.std.proofs.lemmas.Result.{err_from_is_err_and}
use Rattle.hal_base.specs.declared.outcome.PageFault.TheVariants as page
use Rattle.free_space.specs.declared.side.SideCells.{SideCells}
use Rattle.free_space.specs.SideCalls.{StandsForSide}
use Rattle.record_tree.specs.Placing.{pointer_from}
use Rattle.record_tree.proofs.CellFrames.{side_reads, side_cells, side_then, side_fails}
use Rattle.record_tree.proofs.Cutting.{can_hang, cut_done, cut_few, cuts_same, facts_of, found_same, leads_same, told_back_side}
use Rattle.record_tree.proofs.Frames.{ok_weaker}
use Rattle.record_tree.proofs.Opening.{one_fault}
use Rattle.record_tree.proofs.Staying.{records_same}
use Rattle.record_tree.proofs.records.Records.cut.Goals as goal

pub returns-in_err-cell-clause-leaves : goal.returns-in_err-cell-clause-leaves
returns-in_err-cell-clause-leaves g c =
    let p = err_from_is_err_and c.from_residual.result c.from_residual.ensures.1 in
    let q = one_fault c.cell.result c.from_residual.result _ p.0 page.Failed c.in_err-cell.was p.1 p.2 in
    side_fails c.args.self.now (side_reads c.args.self.now c.cell.ensures.leaves) q.0 q.1

pub part-requires-clause-stands : goal.part-requires-clause-stands
part-requires-clause-stands g c = records_same c.args.self.now (g.H.Shelf.seen c.args.shelf.now) (g.H.Shelf.seen c.cell.new.shelf) c.requires.stands c.cell.ensures.leaves.same

pub part-requires-clause-cell : goal.part-requires-clause-cell
part-requires-clause-cell g c = found_same c.args.self.now.cells (g.H.Shelf.seen c.args.shelf.now) (g.H.Shelf.seen c.cell.new.shelf) c.args.at c.in_ok-cell.cell c.cell.ensures.leaves.same c.in_ok-cell.ensures.cell

pub part-requires-clause-leads : goal.part-requires-clause-leads
part-requires-clause-leads g c = leads_same c.args.self.now (g.H.Shelf.seen c.args.shelf.now) (g.H.Shelf.seen c.cell.new.shelf) c.args.place c.args.at c.cell.ensures.leaves.same c.requires.leads

pub end_span-requires-clause-stands : goal.end_span-requires-clause-stands
end_span-requires-clause-stands g c =
    let parted = c.in_ok-part.ensures.parted in
    subst (λ (s : SideCells). StandsForSide s (g.H.Shelf.seen c.part.new.shelf)) (sym parted.same_cells) parted.cells

pub end_span-requires-clause-hangs : goal.end_span-requires-clause-hangs
end_span-requires-clause-hangs g c =
    let records = c.args.self.now in
    let old = g.H.Shelf.seen c.cell.new.shelf in
    let new = g.H.Shelf.seen c.part.new.shelf in
    let stands = records_same records (g.H.Shelf.seen c.args.shelf.now) old c.requires.stands c.cell.ensures.leaves.same in
    let found = found_same records.cells (g.H.Shelf.seen c.args.shelf.now) old c.args.at c.in_ok-cell.cell c.cell.ensures.leaves.same c.in_ok-cell.ensures.cell in
    can_hang c.schemas_are_kept.ensures c.cuts_are_spans.ensures records c.part.new.self (pointer_from records.schema c.in_ok-cell.cell.code c.args.place.parent c.args.place.prior) c.args.at c.in_ok-cell.cell old new stands
    (λ told. c.no_side_cell_is_at_zero.ensures records.cells old c.args.at c.in_ok-cell.cell stands.cells (found told)) c.in_ok-part.ensures.parted found (told_back_side records old new c.part.ensures.leaves records.cells.first)

pub returns-in_err-part-clause-leaves : goal.returns-in_err-part-clause-leaves
returns-in_err-part-clause-leaves g c =
    let records = c.args.self.now in
    let p = err_from_is_err_and c.from_residual-in_err-part.result c.from_residual-in_err-part.ensures.1 in
    let q = one_fault c.part.result c.from_residual-in_err-part.result _ p.0 page.Failed c.in_err-part.was p.1 p.2 in
    side_fails records (side_then records records refl refl (side_reads records c.cell.ensures.leaves) c.part.ensures.leaves (g.met.H.Shelf.steady_then c.args.shelf.now c.cell.new.shelf c.part.new.shelf)) q.0 q.1

pub returns-clause-cut : goal.returns-clause-cut
returns-clause-cut g c =
    let records = c.args.self.now in
    let first = g.H.Shelf.seen c.args.shelf.now in
    let old = g.H.Shelf.seen c.cell.new.shelf in
    let mid = g.H.Shelf.seen c.part.new.shelf in
    let new = g.H.Shelf.seen c.end_span.new.shelf in
    let same = c.cell.ensures.leaves.same in
    ok_weaker c.end_span.result c.end_span.ensures.ended (λ ends.
    let facts = facts_of records c.part.new.self c.end_span.new.cells c.args.place c.args.at c.args.fate c.in_ok-cell.cell old mid new c.no_side_cell_is_at_zero.ensures (records_same records first old c.requires.stands same)
    (found_same records.cells first old c.args.at c.in_ok-cell.cell same c.in_ok-cell.ensures.cell) c.in_ok-part.ensures.parted c.part.ensures.leaves c.end_span.ensures.stays c.end_span.ensures.leaves ends in
    cuts_same _ records _ c.args.place c.args.at first old new same
    (cut_done c.schemas_are_kept.ensures c.cuts_are_spans.ensures c.changed_sides.ensures c.rows_come_and_go.ensures records c.part.new.self c.end_span.new.cells c.args.place c.args.at c.args.fate c.in_ok-cell.cell old mid new facts))

pub returns-clause-leaves : goal.returns-clause-leaves
returns-clause-leaves g c =
    let records = c.args.self.now in
    let parted = c.in_ok-part.ensures.parted in
    side_then records c.part.new.self (ap (λ (s : SideCells). s.first) parted.same_cells) parted.set
    (side_then records records refl refl (side_reads records c.cell.ensures.leaves) c.part.ensures.leaves (g.met.H.Shelf.steady_then c.args.shelf.now c.cell.new.shelf c.part.new.shelf))
    (side_cells c.part.new.self c.end_span.ensures.leaves) (g.met.H.Shelf.steady_then c.args.shelf.now c.part.new.shelf c.end_span.new.shelf)

pub returns-clause-few : goal.returns-clause-few
returns-clause-few g c =
    let records = c.args.self.now in
    let first = g.H.Shelf.seen c.args.shelf.now in
    let old = g.H.Shelf.seen c.cell.new.shelf in
    let mid = g.H.Shelf.seen c.part.new.shelf in
    let new = g.H.Shelf.seen c.end_span.new.shelf in
    let same = c.cell.ensures.leaves.same in
    let stands = records_same records first old c.requires.stands same in
    let found = found_same records.cells first old c.args.at c.in_ok-cell.cell same c.in_ok-cell.ensures.cell in
    cut_few c.schemas_are_kept.ensures c.cuts_are_spans.ensures records c.part.new.self (pointer_from records.schema c.in_ok-cell.cell.code c.args.place.parent c.args.place.prior) c.args.at c.in_ok-cell.cell first old mid new same stands
    (λ told. c.no_side_cell_is_at_zero.ensures records.cells old c.args.at c.in_ok-cell.cell stands.cells (found told)) c.in_ok-part.ensures.parted found c.cell.ensures.leaves.few c.part.ensures.few c.end_span.ensures.few
