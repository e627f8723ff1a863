use Rattle.std.proofs.Common.{◌+◌, ◌++◌, ◌∙◌, List, None, Ok, refl, ap, map}
use Rattle.std.proofs.lemmas.Result.{err_from_is_err_and}
use Rattle.hal_base.specs.declared.outcome.PageFault.TheVariants as page
use Rattle.record_walk.specs.Listing.{list_in}
use Rattle.record_tree.specs.declared.walk.HomedRow.{HomedRow}
use Rattle.record_tree.specs.declared.walk.Waiting.{Waiting}
use Rattle.record_tree.specs.Finding.{placed_of}
use Rattle.record_tree.specs.Walking.{waits}
use Rattle.record_tree.proofs.CellFrames.{told_before, told_same}
use Rattle.record_tree.proofs.Opening.{one_fault, ok_not_err}
use Rattle.record_tree.proofs.Reading.{reads_fail, reads_then, same_then}
use Rattle.record_tree.proofs.RootRows.{kept_roots}
use Rattle.record_tree.proofs.Staying.{side_same}
use Rattle.record_tree.proofs.Walking.{can_wait}
use Rattle.record_tree.proofs.records.Records.walk.Goals as goal

pub returns-in_err-homes-clause-kept : goal.returns-in_err-homes-clause-kept
returns-in_err-homes-clause-kept g c = kept_roots c.args.self.now c.root_homes.new.roots (g.H.Shelf.seen c.args.shelf.now) (g.H.Shelf.seen c.root_homes.new.shelf) c.requires.stands c.root_homes.ensures.kept c.root_homes.ensures.leaves.1.same

pub returns-in_err-wait-clause-kept : goal.returns-in_err-wait-clause-kept
returns-in_err-wait-clause-kept g c = kept_roots c.args.self.now c.root_homes.new.roots (g.H.Shelf.seen c.args.shelf.now) (g.H.Shelf.seen c.root_homes.new.shelf) c.requires.stands c.root_homes.ensures.kept c.root_homes.ensures.leaves.1.same

pub finish-requires-clause-stands : goal.finish-requires-clause-stands
finish-requires-clause-stands g c = side_same c.args.self.now.cells (g.H.Shelf.seen c.args.shelf.now) (g.H.Shelf.seen c.root_homes.new.shelf) c.requires.stands.cells c.root_homes.ensures.leaves.1.same

pub finish-requires-clause-waits : goal.finish-requires-clause-waits
finish-requires-clause-waits g c told =
    let records = c.args.self.now in
    let old = g.H.Shelf.seen c.args.shelf.now in
    let mid = g.H.Shelf.seen c.root_homes.new.shelf in
    let same = c.root_homes.ensures.leaves.1.same in
    let was = told_before records.cells old mid same told in
    let (trees, side) = c.requires.stands.side was in
    let first = c.in_ok-wait.ensures ∙ ap (λ (l : List Waiting). l ++ waits None c.deref.result.now) c.new.ensures.items ∙ ap (waits None) c.deref.ensures.value in
    (list_in None trees, can_wait records old mid c.wait.new.waiting.items c.in_ok-homes.homes.items c.requires.stands (g.met.H.Shelf.told_alike c.args.shelf.now) same c.in_ok-homes.ensures.homes first trees (record { told = was; side = side }))

pub returns-in_err-finish-clause-kept : goal.returns-in_err-finish-clause-kept
returns-in_err-finish-clause-kept g c =
    kept_roots c.args.self.now c.root_homes.new.roots (g.H.Shelf.seen c.args.shelf.now) (g.H.Shelf.seen c.finish.new.shelf) c.requires.stands c.root_homes.ensures.kept (same_then c.root_homes.ensures.leaves.1.same c.finish.ensures.leaves.1.same)

pub returns-in_err-finish-clause-leaves : goal.returns-in_err-finish-clause-leaves
returns-in_err-finish-clause-leaves g c =
    let old = g.H.Shelf.seen c.args.shelf.now in
    let mid = g.H.Shelf.seen c.root_homes.new.shelf in
    let new = g.H.Shelf.seen c.finish.new.shelf in
    let (m, one) = c.root_homes.ensures.leaves in
    let (n, two) = c.finish.ensures.leaves in
    let p = err_from_is_err_and c.from_residual-in_err-finish.result c.from_residual-in_err-finish.ensures.1 in
    let q = one_fault c.finish.result c.from_residual-in_err-finish.result _ p.0 page.Failed c.in_err-finish.was p.1 p.2 in
    (m + n, reads_fail (m + n) old new (reads_then m n old mid new one two (g.met.H.Shelf.steady_then c.args.shelf.now c.root_homes.new.shelf c.finish.new.shelf)) q.0 q.1)

pub returns-clause-lists : goal.returns-clause-lists
returns-clause-lists g c trees walks =
    let records = c.args.self.now in
    let old = g.H.Shelf.seen c.args.shelf.now in
    let mid = g.H.Shelf.seen c.root_homes.new.shelf in
    let same = c.root_homes.ensures.leaves.1.same in
    let first = c.in_ok-wait.ensures ∙ ap (λ (l : List Waiting). l ++ waits None c.deref.result.now) c.new.ensures.items ∙ ap (waits None) c.deref.ensures.value in
    let w = can_wait records old mid c.wait.new.waiting.items c.in_ok-homes.homes.items c.requires.stands (g.met.H.Shelf.told_alike c.args.shelf.now) same c.in_ok-homes.ensures.homes first trees walks in
    c.in_ok-finish.ensures.met (told_same records.cells old mid same walks.told) (list_in None trees) w ∙ ap (λ (l : List HomedRow). map placed_of l ++ list_in None trees) c.new-2.ensures

pub returns-clause-kept : goal.returns-clause-kept
returns-clause-kept g c =
    kept_roots c.args.self.now c.root_homes.new.roots (g.H.Shelf.seen c.args.shelf.now) (g.H.Shelf.seen c.finish.new.shelf) c.requires.stands c.root_homes.ensures.kept (same_then c.root_homes.ensures.leaves.1.same c.finish.ensures.leaves.1.same)

pub returns-clause-leaves : goal.returns-clause-leaves
returns-clause-leaves g c =
    let old = g.H.Shelf.seen c.args.shelf.now in
    let mid = g.H.Shelf.seen c.root_homes.new.shelf in
    let new = g.H.Shelf.seen c.finish.new.shelf in
    let (m, one) = c.root_homes.ensures.leaves in
    let (n, two) = c.finish.ensures.leaves in (
      m + n,
      reads_fail (m + n) old new (reads_then m n old mid new one two (g.met.H.Shelf.steady_then c.args.shelf.now c.root_homes.new.shelf c.finish.new.shelf))
          (λ is. absurd (ok_not_err c.finish.result c.in_ok-finish.field-0 page.Failed c.in_ok-finish.was is)) (λ is. absurd (ok_not_err (Ok c.finish.new.self.rows) c.finish.new.self.rows page.Failed refl is)),
    )
