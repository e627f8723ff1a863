use Rattle.std.proofs.Common.{◌+◌, refl}
use Rattle.std.proofs.lemmas.Result.{err_from_is_err_and}
use Rattle.hal_base.specs.declared.outcome.PageFault.TheVariants as page
use Rattle.record_tree.specs.declared.walk.Walk.{Walk}
use Rattle.record_tree.proofs.Opening.{one_fault, ok_not_err}
use Rattle.record_tree.proofs.Reading.{reads_fail, reads_then}
use Rattle.record_tree.proofs.Walking.{none_waiting, way_none, way_holds, way_met, way_done}
use Rattle.record_tree.proofs.walk.Walk.finish.Goals as goal

pub returns-in_default-clause-met : goal.returns-in_default-clause-met
returns-in_default-clause-met g c =
    way_done c.args.cells.now c.args.self.now c.loop.self (g.H.Shelf.steady c.args.shelf.now c.loop.shelf) (g.H.Shelf.seen c.args.shelf.now) (g.H.Shelf.seen c.loop.shelf)
    (none_waiting c.loop.self.waiting.items c.pop.new.self.items _ c.pop.result c.in_default.is c.pop.ensures.items c.pop.ensures.rest c.pop.ensures.variant.1) c.loop.invariant c.loop.self refl

pub loop-preserved-then-next-eq0 : goal.loop-preserved-then-next-eq0
loop-preserved-then-next-eq0 g c =
    let later : Walk = record { waiting = c.pop.new.self; rows = c.loop.self.rows } in
    way_none c.args.cells.now c.args.self.now.waiting.items c.args.self.now.rows c.pop.new.self.items c.in-Some.next c.loop.self later (g.H.Shelf.steady c.args.shelf.now c.loop.shelf) (g.H.Shelf.seen c.args.shelf.now) (g.H.Shelf.seen c.loop.shelf)
    c.in-Some.ensures.items c.if-next-eq0.true refl refl c.loop.invariant

pub meet-requires-clause-cell : goal.meet-requires-clause-cell
meet-requires-clause-cell g c =
    way_holds c.args.cells.now c.args.self.now.waiting.items c.args.self.now.rows c.pop.new.self.items c.in-Some.next c.loop.self (g.H.Shelf.steady c.args.shelf.now c.loop.shelf) (g.H.Shelf.seen c.args.shelf.now) (g.H.Shelf.seen c.loop.shelf)
    c.requires.waits c.in-Some.ensures.items c.if-next-eq0.false c.loop.invariant

pub returns-in_err-meet-clause-leaves : goal.returns-in_err-meet-clause-leaves
returns-in_err-meet-clause-leaves g c =
    let old = g.H.Shelf.seen c.args.shelf.now in
    let mid = g.H.Shelf.seen c.loop.shelf in
    let new = g.H.Shelf.seen c.meet.new.shelf in
    let p = err_from_is_err_and c.from_residual.result c.from_residual.ensures.1 in
    let q = one_fault c.meet.result c.from_residual.result _ p.0 page.Failed c.in_err-meet.was p.1 p.2 in (
      c.loop.invariant.most + 1,
      reads_fail (c.loop.invariant.most + 1) old new (reads_then c.loop.invariant.most 1 old mid new c.loop.invariant.reads c.meet.ensures.leaves (g.met.H.Shelf.steady_then c.args.shelf.now c.loop.shelf c.meet.new.shelf)) q.0 q.1,
    )

pub loop-preserved : goal.loop-preserved
loop-preserved g c =
    let popped : Walk = record { waiting = c.pop.new.self; rows = c.loop.self.rows } in
    way_met c.args.cells.now c.args.self.now.waiting.items c.args.self.now.rows c.pop.new.self.items c.in-Some.next c.loop.self popped c.meet.new.self (g.H.Shelf.steady c.args.shelf.now c.meet.new.shelf) 1 (g.H.Shelf.seen c.args.shelf.now)
    (g.H.Shelf.seen c.loop.shelf) (g.H.Shelf.seen c.meet.new.shelf) c.in-Some.ensures.items c.if-next-eq0.false refl refl c.loop.invariant c.meet.ensures.stands c.meet.ensures.leaves
    (λ is. ok_not_err c.meet.result c.in_ok-meet.field-0 page.Failed c.in_ok-meet.was is) (g.met.H.Shelf.steady_then c.args.shelf.now c.loop.shelf c.meet.new.shelf) c.in_ok-meet.ensures.met
