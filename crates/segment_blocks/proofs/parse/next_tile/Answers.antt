use Rattle.std.proofs.Common.{subst, arith}
use Rattle.segment_blocks.specs.declared.head.Head.{Head}
use Rattle.segment_blocks.specs.Reading.{BeginsWithCell, HasHead}
use Rattle.segment_blocks.proofs.Tiles.{hole_found, cell_found}
use Rattle.segment_blocks.proofs.parse.next_tile.Goals as goal

pub returns-in-Some-Hole-clause-found : goal.returns-in-Some-Hole-clause-found
returns-in-Some-Hole-clause-found c =
    let has = subst (λ (h : Head). HasHead c.args.shapes.now c.args.after_hole c.args.bytes.now h) c.in-Some-Hole.field-0-is c.in-Some-Hole.ensures.found in
    hole_found c.args.shapes.now c.args.at c.args.after_hole c.args.bytes.now c.get16-len.result (λ i. omega (arith, c.type_inv.bytes i)) has.0 has.1 c.get16-len.ensures

pub returns-in_ok-cell-in-Some-Seg-clause-found : goal.returns-in_ok-cell-in-Some-Seg-clause-found
returns-in_ok-cell-in-Some-Seg-clause-found c =
    let has : BeginsWithCell c.args.shapes.now c.args.bytes.now c.in-Some-Seg.shape =
    subst (λ (h : Head). HasHead c.args.shapes.now c.args.after_hole c.args.bytes.now h) c.in-Some-Seg.field-0-is c.in-Some-Seg.ensures.found in
    cell_found c.args.shapes.now c.args.at c.args.after_hole c.args.bytes.now c.in-Some-Seg.shape c.in_ok-cell-in-Some-Seg.cell (λ i. omega (arith, c.type_inv.bytes i)) has c.in_ok-cell-in-Some-Seg.ensures
