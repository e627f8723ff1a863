use Rattle.std.proofs.Common.{◌≡◌, ◌∙◌, ◌++◌, ◌∷◌, [], ℕ, Ok, Err, refl, ap}
use Rattle.std.proofs.lemmas.Result.{err_from_is_err_and}
use Rattle.hal_base.specs.declared.outcome.PageFault.TheVariants as page
use Rattle.record_tree.proofs.CellFrames.{cells_then, cells_fail}
use Rattle.record_tree.proofs.Downward.{way_begun, way_none, way_holds, way_met, way_done, way_few, way_few_more, stays_then, none_pending}
use Rattle.record_tree.proofs.Opening.{one_fault, ok_not_err}
use Rattle.record_tree.proofs.descent.Descent.finish.Goals as goal

pub loop-init : goal.loop-init
loop-init g c = record {
  fate = refl;
  way = way_begun c.args.self.now.fate c.args.self.now.pending.items c.args.cells.now (g.H.Shelf.steady c.args.shelf.now c.args.shelf.now) (g.H.Shelf.seen c.args.shelf.now) c.requires.live c.requires.stands (g.met.H.Shelf.steady_none c.args.shelf.now);
}

pub loop-preserved-then-at-eq0 : goal.loop-preserved-then-at-eq0
loop-preserved-then-at-eq0 g c = record {
  fate = c.loop.invariant.fate;
  way = way_none c.args.self.now.fate c.args.self.now.pending.items c.pop.new.self.items c.loop.self.pending.items c.args.cells.now c.loop.cells (g.H.Shelf.steady c.args.shelf.now c.loop.shelf) (g.H.Shelf.seen c.args.shelf.now) (g.H.Shelf.seen c.loop.shelf)
      (c.in-Some.ensures.items ∙ ap (λ (n : ℕ). c.pop.new.self.items ++ n ∷ []) c.if-at-eq0.true) c.loop.invariant.way;
}

pub loop-preserved : goal.loop-preserved
loop-preserved g c = record {
  fate = c.meet.ensures.same ∙ c.loop.invariant.fate;
  way = way_met c.args.self.now.fate c.args.self.now.pending.items c.pop.new.self.items c.loop.self.pending.items c.meet.new.self.pending.items c.in-Some.at c.args.cells.now c.loop.cells c.meet.new.cells
      (g.H.Shelf.steady c.args.shelf.now c.meet.new.shelf) (g.H.Shelf.seen c.args.shelf.now) (g.H.Shelf.seen c.loop.shelf) (g.H.Shelf.seen c.meet.new.shelf) c.loop.self.fate c.loop.invariant.fate c.in-Some.ensures.items c.if-at-eq0.false
      c.loop.invariant.way c.meet.ensures.stays c.meet.ensures.leaves (λ is. ok_not_err c.meet.result c.in_ok-meet.field-0 page.Failed c.in_ok-meet.was is) (g.met.H.Shelf.steady_then c.args.shelf.now c.loop.shelf c.meet.new.shelf) c.meet.ensures.few c.in_ok-meet.ensures.met;
}

pub meet-requires-clause-live : goal.meet-requires-clause-live
meet-requires-clause-live g c = c.loop.invariant.way.live

pub meet-requires-clause-stands : goal.meet-requires-clause-stands
meet-requires-clause-stands g c = c.loop.invariant.way.stays.stands

pub meet-requires-clause-cell : goal.meet-requires-clause-cell
meet-requires-clause-cell g c =
    way_holds c.args.self.now.fate c.args.self.now.pending.items c.pop.new.self.items c.loop.self.pending.items c.in-Some.at c.args.cells.now c.loop.cells (g.H.Shelf.steady c.args.shelf.now c.loop.shelf) (g.H.Shelf.seen c.args.shelf.now)
    (g.H.Shelf.seen c.loop.shelf) c.requires.pend c.in-Some.ensures.items c.if-at-eq0.false c.loop.invariant.way

pub returns-in_default-clause-finished : goal.returns-in_default-clause-finished
returns-in_default-clause-finished g c =
    way_done c.args.self.now.fate c.args.self.now.pending.items c.loop.self.pending.items c.args.cells.now c.loop.cells (g.H.Shelf.steady c.args.shelf.now c.loop.shelf) (g.H.Shelf.seen c.args.shelf.now) (g.H.Shelf.seen c.loop.shelf)
    (none_pending c.loop.self.pending.items c.pop.new.self.items _ c.pop.result c.in_default.is c.pop.ensures.items c.pop.ensures.rest c.pop.ensures.variant.1) c.loop.invariant.way

pub returns-in_default-clause-stays : goal.returns-in_default-clause-stays
returns-in_default-clause-stays g c = c.loop.invariant.way.stays

pub returns-in_default-clause-leaves : goal.returns-in_default-clause-leaves
returns-in_default-clause-leaves g c = cells_fail c.args.cells.now c.loop.invariant.way.leaves (λ no. absurd no) (λ is. ok_not_err (Ok tt) tt page.Failed refl is)

pub returns-in_err-meet-clause-stays : goal.returns-in_err-meet-clause-stays
returns-in_err-meet-clause-stays g c = stays_then c.args.cells.now c.loop.cells c.meet.new.cells (g.H.Shelf.seen c.loop.shelf) (g.H.Shelf.seen c.meet.new.shelf) c.loop.invariant.way.stays c.meet.ensures.stays

pub returns-in_err-meet-clause-leaves : goal.returns-in_err-meet-clause-leaves
returns-in_err-meet-clause-leaves g c =
    let p = err_from_is_err_and c.from_residual.result c.from_residual.ensures.1 in
    let q = one_fault c.meet.result c.from_residual.result _ p.0 page.Failed c.in_err-meet.was p.1 p.2 in
    cells_fail c.args.cells.now
    (cells_then c.args.cells.now c.loop.cells c.loop.invariant.way.stays.first c.loop.invariant.way.leaves c.meet.ensures.leaves (g.met.H.Shelf.steady_then c.args.shelf.now c.loop.shelf c.meet.new.shelf)) q.0 q.1

pub returns-clause-stays : goal.returns-clause-stays
returns-clause-stays g c = c.loop.invariant.way.stays

pub returns-clause-leaves : goal.returns-clause-leaves
returns-clause-leaves g c = cells_fail c.args.cells.now c.loop.invariant.way.leaves (λ no. absurd no) (λ is. let wrong : Err page.Memory ≡ Err page.Failed = is in cc)

pub returns-in_default-clause-few : goal.returns-in_default-clause-few
returns-in_default-clause-few g c =
    way_few c.args.self.now.fate c.args.self.now.pending.items c.loop.self.pending.items c.args.cells.now c.loop.cells (g.H.Shelf.steady c.args.shelf.now c.loop.shelf) (g.H.Shelf.seen c.args.shelf.now) (g.H.Shelf.seen c.loop.shelf) c.loop.invariant.way

pub returns-in_err-meet-clause-few : goal.returns-in_err-meet-clause-few
returns-in_err-meet-clause-few g c =
    way_few_more c.args.self.now.fate c.args.self.now.pending.items c.pop.new.self.items c.loop.self.pending.items c.in-Some.at c.args.cells.now c.loop.cells (g.H.Shelf.steady c.args.shelf.now c.loop.shelf) (g.H.Shelf.seen c.args.shelf.now)
    (g.H.Shelf.seen c.loop.shelf) (g.H.Shelf.seen c.meet.new.shelf) c.in-Some.ensures.items c.if-at-eq0.false c.meet.ensures.few c.loop.invariant.way

pub returns-clause-few : goal.returns-clause-few
returns-clause-few g c =
    way_few c.args.self.now.fate c.args.self.now.pending.items c.loop.self.pending.items c.args.cells.now c.loop.cells (g.H.Shelf.steady c.args.shelf.now c.loop.shelf) (g.H.Shelf.seen c.args.shelf.now) (g.H.Shelf.seen c.loop.shelf) c.loop.invariant.way
