use Rattle.std.proofs.Common.{◌≡◌, ◌∙◌, ◌++◌, ◌∷◌, [], ℕ, List, refl, ap, false}
use Rattle.record_walk.specs.Side.{alone}
use Rattle.record_tree.proofs.Frames.{ok_weaker}
use Rattle.record_tree.proofs.CellFrames.{reads_of, changes_at, cells_then}
use Rattle.record_tree.proofs.Downward.{holds_same, meets_of}
use Rattle.record_tree.proofs.descent.Descent.meet.Goals as goal

pub end-requires-clause-cell : goal.end-requires-clause-cell
end-requires-clause-cell g c = holds_same c.args.cells.now (g.H.Shelf.seen c.args.shelf.now) (g.H.Shelf.seen c.cell.new.shelf) c.args.at (λ cell. cell.copied ≡ false) c.cell.ensures.leaves.same c.requires.cell

pub returns-clause-met : goal.returns-clause-met
returns-clause-met g c =
    let pending : List ℕ = c.args.self.now.pending.items in
    let first : c.put_off.new.pending.items ≡ pending ++ (alone c.in_ok-cell.cell).twin ∷ [] = c.in_ok-put_off.ensures ∙ ap (λ (n : ℕ). pending ++ n ∷ []) c.next_twin.ensures in
    ok_weaker c.end.result c.end.ensures.ended (λ turns.
    meets_of c.args.self.now.fate c.args.cells.now c.end.new.cells (g.H.Shelf.seen c.args.shelf.now) (g.H.Shelf.seen c.cell.new.shelf) (g.H.Shelf.seen c.end.new.shelf) c.args.at c.in_ok-cell.cell pending c.put_off-2.new.pending.items
    c.cell.ensures.leaves.same c.in_ok-cell.ensures.cell (c.in_ok-put_off-2.ensures ∙ ap (λ (l : List ℕ). c.put_off.new.pending.items ++ l) c.as_slice.ensures ∙ ap (λ (l : List ℕ). l ++ c.in_ok-cell.cell.children) first) turns)

pub returns-clause-leaves : goal.returns-clause-leaves
returns-clause-leaves g c =
    cells_then c.args.cells.now c.args.cells.now refl (reads_of c.args.cells.now c.cell.ensures.leaves)
    (changes_at c.args.cells.now (g.H.Shelf.seen c.cell.new.shelf) (g.H.Shelf.seen c.end.new.shelf) c.args.at (λ cell. cell.copied ≡ false) (g.met.H.Shelf.told_alike c.cell.new.shelf) (g.met.H.Shelf.told_alike c.end.new.shelf)
    (holds_same c.args.cells.now (g.H.Shelf.seen c.args.shelf.now) (g.H.Shelf.seen c.cell.new.shelf) c.args.at (λ cell. cell.copied ≡ false) c.cell.ensures.leaves.same c.requires.cell) c.end.ensures.leaves)
    (g.met.H.Shelf.steady_then c.args.shelf.now c.cell.new.shelf c.end.new.shelf)
