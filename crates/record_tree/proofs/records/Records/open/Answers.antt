use Rattle.std.proofs.Common.{◌∙◌, ℕ, List, length, refl, sym, ap, subst, arith}
use Rattle.std.proofs.lemmas.Result.{err_from_is_err_and}
use Rattle.hal_base.specs.declared.outcome.StoreFault.TheVariants as store
use Rattle.hal_base.specs.declared.pages.SetId.{SetId}
use Rattle.hal_base.specs.declared.place.Shape.{Shape}
use Rattle.hal_base.proofs.ShelfLemmas.{reads_as}
use Rattle.hal_schema.specs.declared.schema.Schema.{Schema}
use Rattle.free_space.specs.Side.{are_letters}
use Rattle.record_tree.specs.Sides.{first_set}
use Rattle.record_tree.specs.declared.records.Records.{Records}
use Rattle.record_tree.specs.Standing.{KeepsSide}
use Rattle.record_tree.proofs.Opening.{one_fault, ok_not_err, reads_cells, reads_both, breaks_cells, breaks_roots, opened_for, is_of_side}
use Rattle.record_tree.proofs.Types.{letters_fit, letters_long, shapes_long, some_key}
use Rattle.record_tree.proofs.records.Records.open.Goals as goal

pub open-requires-clause-letters : goal.open-requires-clause-letters
open-requires-clause-letters g c = ap are_letters (c.as_slice.ensures ∙ c.in_ok-letters.ensures) ∙ letters_fit c.schemas_are_kept.ensures c.args.schema.now

pub open-requires-clause-as_many : goal.open-requires-clause-as_many
open-requires-clause-as_many g c =
    ap (λ (l : List ℕ). length l) (c.as_slice.ensures ∙ c.in_ok-letters.ensures) ∙ letters_long c.args.schema.now ∙ sym (shapes_long c.args.schema.now) ∙ ap (λ (l : List Shape). length l) (sym (c.as_slice-2.ensures ∙ c.in_ok-shapes.ensures))

pub open-requires-2-clause-some : goal.open-requires-2-clause-some
open-requires-2-clause-some g c = omega (arith, c.root_bytes.ensures.is, some_key c.schemas_are_kept.ensures c.args.schema.now)

pub returns-in_err-cells-clause-bad : goal.returns-in_err-cells-clause-bad
returns-in_err-cells-clause-bad g c = λ n offset is.
    let p = err_from_is_err_and c.from_residual-in_err-cells.result c.from_residual-in_err-cells.ensures.1 in
    let q = one_fault c.open.result c.from_residual-in_err-cells.result _ p.0 (store.BadTile n offset) c.in_err-cells.was p.1 p.2 in
    breaks_cells c.args.schema.now c.first_set-first.result (first_set c.args.schema.now c.args.place c.args.number c.args.side) c.as_slice-2.result.now (g.H.Shelf.seen c.args.shelf.now) n offset c.first_set-first.ensures (c.as_slice-2.ensures ∙ c.in_ok-shapes.ensures)
    (c.open.ensures.bad n offset (q.1 is))

pub returns-in_err-cells-clause-leaves : goal.returns-in_err-cells-clause-leaves
returns-in_err-cells-clause-leaves g c =
    let p = err_from_is_err_and c.from_residual-in_err-cells.result c.from_residual-in_err-cells.ensures.1 in
    let q = one_fault c.open.result c.from_residual-in_err-cells.result _ p.0 store.Failed c.in_err-cells.was p.1 p.2 in
    reads_cells c.first_set-first.result (first_set c.args.schema.now c.args.place c.args.number c.args.side) c.first_set-first.ensures (reads_as c.open.ensures.leaves q.0 q.1)

pub returns-in_err-roots-clause-bad : goal.returns-in_err-roots-clause-bad
returns-in_err-roots-clause-bad g c = λ n offset is.
    let p = err_from_is_err_and c.from_residual-in_err-roots.result c.from_residual-in_err-roots.ensures.1 in
    let q = one_fault c.open-2.result c.from_residual-in_err-roots.result _ p.0 (store.BadTile n offset) c.in_err-roots.was p.1 p.2 in
    breaks_roots c.args.schema.now c.first_set-first.result (first_set c.args.schema.now c.args.place c.args.number c.args.side) c.root_set.result c.root_bytes.result c.in_ok-cells.cells (g.H.Shelf.seen c.args.shelf.now) (g.H.Shelf.seen c.open.new.shelf) n offset c.first_set-first.ensures c.root_set.ensures c.root_bytes.ensures.is c.requires.phidam
    c.in_ok-cells.ensures.opened.set (c.in_ok-cells.ensures.opened.shapes_are ∙ c.as_slice-2.ensures ∙ c.in_ok-shapes.ensures) c.in_ok-cells.ensures.opened.stands c.open.ensures.leaves.same (c.open-2.ensures.broken n offset (q.1 is))

pub returns-in_err-roots-clause-leaves : goal.returns-in_err-roots-clause-leaves
returns-in_err-roots-clause-leaves g c =
    let p = err_from_is_err_and c.from_residual-in_err-roots.result c.from_residual-in_err-roots.ensures.1 in
    let q = one_fault c.open-2.result c.from_residual-in_err-roots.result _ p.0 store.Failed c.in_err-roots.was p.1 p.2 in
    reads_both c.first_set-first.result (first_set c.args.schema.now c.args.place c.args.number c.args.side) c.root_set.result c.first_set-first.ensures c.root_set.ensures c.open.ensures.leaves c.open-2.ensures.leaves (g.met.H.Shelf.steady_then c.args.shelf.now c.open.new.shelf c.open-2.new.shelf) q.0 q.1

pub returns-in_err-schema-clause-leaves : goal.returns-in_err-schema-clause-leaves
returns-in_err-schema-clause-leaves g c =
    let p = err_from_is_err_and c.from_residual-in_err-schema.result c.from_residual-in_err-schema.ensures.1 in
    reads_both c.first_set-first.result (first_set c.args.schema.now c.args.place c.args.number c.args.side) c.root_set.result c.first_set-first.ensures c.root_set.ensures c.open.ensures.leaves c.open-2.ensures.leaves (g.met.H.Shelf.steady_then c.args.shelf.now c.open.new.shelf c.open-2.new.shelf)
    (λ is. absurd (ok_not_err c.open-2.result c.in_ok-roots.roots store.Failed c.in_ok-roots.was is)) (λ is. let first = p.1 in let second = p.2 in cc)

pub returns-clause-opened : goal.returns-clause-opened
returns-clause-opened g c =
    let records : Records = record {
      alloc = c.args.alloc;
      schema = c.in_ok-schema.schema;
      place = c.args.place;
      first = c.first_set-first.result;
      cells = c.in_ok-cells.cells;
      roots = c.in_ok-roots.roots;
    } in
    let opened = c.in_ok-cells.ensures.opened in
    let of = is_of_side records c.args.schema.now c.args.place c.args.number c.args.side c.root_bytes.result c.in_ok-schema.ensures refl c.first_set-first.ensures c.requires.phidam opened.set (opened.letters_are ∙ c.as_slice.ensures ∙ c.in_ok-letters.ensures)
    (opened.shapes_are ∙ c.as_slice-2.ensures ∙ c.in_ok-shapes.ensures) (c.in_ok-roots.ensures.set.0 ∙ c.root_set.ensures) c.in_ok-roots.ensures.set.1 c.root_bytes.ensures.is in
    record {
      schema_is = c.in_ok-schema.ensures;
      place_is = refl;
      first_is = c.first_set-first.ensures;
      stands = opened_for records (g.H.Shelf.seen c.args.shelf.now) (g.H.Shelf.seen c.open.new.shelf) (g.H.Shelf.seen c.open-2.new.shelf) of opened.stands c.in_ok-roots.ensures.opened c.open.ensures.leaves.same c.open-2.ensures.leaves.same
          (subst (λ (s : Schema). KeepsSide s c.args.place c.first_set-first.result (g.H.Shelf.seen c.args.shelf.now)) (sym c.in_ok-schema.ensures)
          (subst (λ (x : SetId). KeepsSide c.args.schema.now c.args.place x (g.H.Shelf.seen c.args.shelf.now)) (sym c.first_set-first.ensures) c.requires.side));
    }

pub returns-clause-leaves : goal.returns-clause-leaves
returns-clause-leaves g c =
    reads_both c.first_set-first.result (first_set c.args.schema.now c.args.place c.args.number c.args.side) c.root_set.result c.first_set-first.ensures c.root_set.ensures c.open.ensures.leaves c.open-2.ensures.leaves (g.met.H.Shelf.steady_then c.args.shelf.now c.open.new.shelf c.open-2.new.shelf)
    (λ is. absurd (ok_not_err c.open-2.result c.in_ok-roots.roots store.Failed c.in_ok-roots.was is)) (λ is. cc)
