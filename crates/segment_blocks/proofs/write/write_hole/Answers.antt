use Rattle.std.proofs.Common.{◌≡◌, ℕ, ◌+◌, ◌-◌, List, [], ◌∷◌, length, get_or, replicate, ap, arith}
use Rattle.std.specs.Int.{w16, to_be_bytes}
use Rattle.segment_blocks.specs.declared.tile.Tile.TheVariants.{Hole}
use Rattle.segment_blocks.specs.Tiling.{Writes, spelled_hole}
use Rattle.segment_blocks.proofs.Holes.{length-spelled_hole}
use Rattle.segment_blocks.proofs.Writing.{hole_written, writes_same, writes_tiling, writes_joins}
use Rattle.segment_blocks.proofs.write.write_hole.Goals as goal

pub returns-clause-written : goal.returns-clause-written
returns-clause-written c =
    let at : c.from-at.result ≡ c.args.at = omega (arith, c.from-at.ensures) in
    let len : c.from.result ≡ c.args.len = omega (arith, c.from.ensures) in
    let w1 : Writes c.args.block.now c.put.new.block c.args.at (0 ∷ 0 ∷ to_be_bytes w16 c.args.len) = writes_same _ _ _ _ _ _ at (ap (λ (x : List ℕ). 0 ∷ 0 ∷ get_or x 0 0 ∷ get_or x 1 0 ∷ []) c.to_be_bytes.ensures) c.put.ensures in
    let w2 : Writes c.put.new.block c.put_zeros.new.block (c.args.at + 4) (replicate (c.args.len - 4) 0) =
    writes_same _ _ _ _ _ _ (ap (λ (n : ℕ). n + 4) at) (ap (λ (n : ℕ). replicate (n - 4) 0) len) c.put_zeros.ensures in
    hole_written c.args.len c.args.at c.args.block.now c.put.new.block c.put_zeros.new.block c.requires.least (omega (arith, c.requires.room)) w1 w2

pub returns-clause-tiled : goal.returns-clause-tiled
returns-clause-tiled c = λ shapes before after are around.
    let ends : c.args.at + c.args.len ≡ c.args.at + length (spelled_hole c.args.len) = omega (arith, length-spelled_hole c.args.len c.requires.least) in
    writes_tiling shapes c.args.block.now c.put_zeros.new.block c.args.at (c.args.at + c.args.len) (Hole c.args.at c.args.len) before after
    c.requires.body (omega (arith, c.requires.room)) ends (returns-clause-written c) are around

pub returns-clause-joins : goal.returns-clause-joins
returns-clause-joins c = λ end before after short around.
    let ends : c.args.at + c.args.len ≡ c.args.at + length (spelled_hole c.args.len) = omega (arith, length-spelled_hole c.args.len c.requires.least) in
    writes_joins c.args.block.now c.put_zeros.new.block c.args.at end (c.args.at + c.args.len) (Hole c.args.at c.args.len) before after
    c.requires.body ends (omega (arith, c.requires.room)) short (returns-clause-written c) around
