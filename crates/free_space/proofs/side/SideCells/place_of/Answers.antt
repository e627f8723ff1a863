use Rattle.std.proofs.Common.{ℕ, ◌-◌, List, ap, arith, get_or}
use Rattle.std.proofs.lemmas.Option.{slice_get_within}
use Rattle.segment_blocks.specs.Tiling.{shape_of}
use Rattle.free_space.proofs.SideSteps.{letter_within}
use Rattle.free_space.proofs.side.SideCells.place_of.Goals as goal

pub overflow_sub-as_slice : goal.overflow_sub-as_slice
overflow_sub-as_slice c =
    let there = slice_get_within c.args.self.now.shapes (c.args.cell.now.code - 1) (shape_of c.args.cell.now) c.requires.typed.typed in
    let within = letter_within c.args.self.now.letters (c.args.cell.now.code - 1) 0 c.requires.letters (omega (arith, there, c.requires.as_many)) in
    omega (arith, within.0, ap (λ (l : List ℕ). get_or l (c.from.result - 1) 0) c.as_slice.ensures, ap (λ (n : ℕ). get_or c.args.self.now.letters (n - 1) 0) c.from.ensures)
