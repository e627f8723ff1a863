use Rattle.std.proofs.lemmas.Result.{err_from_is_err_and}
use Rattle.hal_base.specs.declared.outcome.PageFault.TheVariants as page
use Rattle.record_tree.specs.Changing.{insertion_need}
use Rattle.record_tree.proofs.Opening.{one_fault}
use Rattle.record_tree.proofs.Frames.{side_none, side_fault}
use Rattle.record_tree.proofs.Inserting.{Laws, inserts}
use Rattle.record_tree.proofs.records.Records.insert.Goals as goal

pub returns-in_err-content-clause-leaves : goal.returns-in_err-content-clause-leaves
returns-in_err-content-clause-leaves g c =
    let p = err_from_is_err_and c.from_residual.result c.from_residual.ensures.1 in
    side_none (insertion_need c.args.code) c.args.self.now (g.H.Shelf.seen c.args.shelf.now) (g.met.H.Shelf.steady_none c.args.shelf.now) c.requires.live (λ is. let first = p.1 in let second = p.2 in cc)

pub returns-in_err-at-clause-leaves : goal.returns-in_err-at-clause-leaves
returns-in_err-at-clause-leaves g c =
    let p = err_from_is_err_and c.from_residual-in_err-at.result c.from_residual-in_err-at.ensures.1 in
    let q = one_fault c.add_row.result c.from_residual-in_err-at.result _ p.0 page.Failed c.in_err-at.was p.1 p.2 in
    side_fault c.add_row.ensures.leaves q.0 q.1

pub returns-clause-inserted : goal.returns-clause-inserted
returns-clause-inserted g c =
    let laws : Laws = record { kept = c.schemas_are_kept.ensures; places = c.child_places.ensures; cells = c.sides_list_their_cells.ensures; listed = c.new_segments_are_listed.ensures } in
    inserts laws c.first_children_are_inserted.ensures c.later_children_are_inserted.ensures c.args.self.now c.add_row.new.self c.args.place c.args.code c.args.content.now c.in_ok-content.content c.in_ok-at.at c.home_name.result
    (g.H.Shelf.seen c.args.shelf.now) (g.H.Shelf.seen c.add_row.new.shelf) c.in_ok-content.ensures c.home_name.ensures c.requires.place c.in_ok-at.ensures.comes c.in_ok-at.ensures.room
