use Rattle.std.proofs.Common.{◌≡◌, ℕ, ◌+◌, ◌-◌, ◌*◌, ◌≤◌, length, refl, ap, ◌∙◌, arith}
use Rattle.std.specs.List.{flat_map}
use Rattle.std.specs.Int.{w32, to_be_bytes}
use Rattle.segment_blocks.specs.declared.tile.Tile.TheVariants.{Seg}
use Rattle.segment_blocks.specs.Tiling.{Writes, cell_length, shape_of, spelled_head, spelled_cell}
use Rattle.segment_blocks.proofs.Cells.{length-spelled_cell}
use Rattle.segment_blocks.proofs.Writing.{cell_written, writes_same, writes_tiling, writes_joins}
use Rattle.segment_blocks.proofs.write.write_cell.Goals as goal

pub returns-clause-written : goal.returns-clause-written
returns-clause-written c =
    let at : c.from-at.result ≡ c.args.at = omega (arith, c.from-at.ensures) in
    let len : c.length_of-len.result ≡ cell_length (shape_of c.args.cell.now) = omega (arith, c.length_of-len.ensures, c.requires.children, c.requires.content) in
    let room : c.args.at + cell_length (shape_of c.args.cell.now) ≤ length c.args.block.now = omega (arith, c.requires.room, c.requires.children, c.requires.content) in
    let head : c.head_of.result ≡ spelled_head c.args.cell.now (cell_length (shape_of c.args.cell.now)) = c.head_of.ensures.head ∙ ap (spelled_head c.args.cell.now) len in
    let w1 : Writes c.args.block.now c.put.new.block c.args.at (spelled_head c.args.cell.now (cell_length (shape_of c.args.cell.now))) =
    writes_same _ _ _ _ _ _ at head c.put.ensures in
    let w2 : Writes c.put.new.block c.put_addresses.new.block (c.args.at + 16) (flat_map (to_be_bytes w32) c.args.cell.now.children) =
    writes_same _ _ _ _ _ _ (ap (λ (n : ℕ). n + 16) at) (ap (flat_map (to_be_bytes w32)) c.as_slice.ensures) c.put_addresses.ensures.written in
    let w3 : Writes c.put_addresses.new.block c.put-2.new.block (c.from-at.result + 16 + 4 * c.from.result) c.args.cell.now.content =
    writes_same _ _ _ _ _ _ refl c.as_slice-2.ensures c.put-2.ensures in
    cell_written c.args.cell.now c.args.block.now c.put.new.block c.put_addresses.new.block c.put-2.new.block c.put_zeros.new.block
    c.args.at (c.from-at.result + 16 + 4 * c.from.result) (c.from-at.result + 16 + 4 * c.from.result + c.from-2.result)
    (c.from-at.result + c.length_of-len.result - (c.from-at.result + 16 + 4 * c.from.result + c.from-2.result))
    room
    (omega (arith, at, c.from.ensures, c.requires.children))
    (omega (arith, c.from-2.ensures, c.requires.content))
    (omega (arith, len, c.from.ensures, c.from-2.ensures, c.requires.children, c.requires.content))
    w1 w2 w3 c.put_zeros.ensures

pub returns-clause-tiled : goal.returns-clause-tiled
returns-clause-tiled c = λ shapes before after are around.
    let ends : c.args.at + cell_length c.args.shape ≡ c.args.at + length (spelled_cell c.args.cell.now) = omega (arith, length-spelled_cell c.args.cell.now, c.requires.children, c.requires.content) in
    writes_tiling shapes c.args.block.now c.put_zeros.new.block c.args.at (c.args.at + cell_length c.args.shape) (Seg c.args.at c.args.cell.now) before after
    c.requires.body (omega (arith, c.requires.room)) ends (returns-clause-written c) are around

pub returns-clause-joins : goal.returns-clause-joins
returns-clause-joins c = λ end before after short around.
    let ends : c.args.at + cell_length c.args.shape ≡ c.args.at + length (spelled_cell c.args.cell.now) = omega (arith, length-spelled_cell c.args.cell.now, c.requires.children, c.requires.content) in
    writes_joins c.args.block.now c.put_zeros.new.block c.args.at end (c.args.at + cell_length c.args.shape) (Seg c.args.at c.args.cell.now) before after
    c.requires.body ends (omega (arith, c.requires.room)) short (returns-clause-written c) around
