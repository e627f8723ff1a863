use Rattle.std.proofs.Common.{◌≡◌, ◌∙◌, ℕ, List, length, get_or, ap, arith}
use Rattle.hal_schema.specs.declared.schema.SegType.{SegType}
use Rattle.record_walk.specs.Orders.{child_place}
use Rattle.record_walk.specs.Leads.{pointed}
use Rattle.record_tree.proofs.Staying.{records_same}
use Rattle.record_tree.proofs.Leading.{child_found}
use Rattle.record_tree.proofs.records.Records.child.Goals as goal

pub returns-in_err-cell-clause-stands : goal.returns-in_err-cell-clause-stands
returns-in_err-cell-clause-stands g c = records_same c.args.self.now (g.H.Shelf.seen c.args.shelf.now) (g.H.Shelf.seen c.cell.new.shelf) c.requires.stands c.cell.ensures.leaves.same

pub returns-then-place-children-clause-stands : goal.returns-then-place-children-clause-stands
returns-then-place-children-clause-stands g c = records_same c.args.self.now (g.H.Shelf.seen c.args.shelf.now) (g.H.Shelf.seen c.cell.new.shelf) c.requires.stands c.cell.ensures.leaves.same

pub returns-clause-found : goal.returns-clause-found
returns-clause-found g c =
    let cell = c.in_ok-cell.cell in
    let code = c.args.code in
    let types = c.args.self.now.schema.types in
    let place : c.child_place-place.result ≡ child_place types code = c.child_place-place.ensures ∙ ap (λ (l : List SegType). child_place l code) c.as_slice.ensures in
    let long = ap (λ (l : List ℕ). length l) c.as_slice-children.ensures in
    child_found c.child_places.ensures c.pointers_lead_on.ensures c.children_are_first.ensures c.args.self.now (g.H.Shelf.seen c.args.shelf.now) c.requires.stands c.args.at code cell c.requires.row c.in_ok-cell.ensures.cell
    (omega (arith, c.if-place-children.false, long, place)) c.pointed.result
    (c.pointed.ensures ∙ ap (λ (l : List ℕ). pointed (get_or l c.child_place-place.result 0)) c.as_slice-children.ensures ∙ ap (λ (n : ℕ). pointed (get_or cell.children n 0)) place)

pub returns-clause-stands : goal.returns-clause-stands
returns-clause-stands g c = records_same c.args.self.now (g.H.Shelf.seen c.args.shelf.now) (g.H.Shelf.seen c.cell.new.shelf) c.requires.stands c.cell.ensures.leaves.same
