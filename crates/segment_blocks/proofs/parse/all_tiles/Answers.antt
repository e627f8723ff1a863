use Rattle.std.proofs.Common.{◌≡◌, ℕ, ◌+◌, ◌<◌, Bool, List, ◌∷◌, [], ◌++◌, drop, Result, Err, subst, sym, arith}
use Rattle.std.proofs.lemmas.List.{take_rest}
use Rattle.std.proofs.lemmas.Result.{err_from_is_err_and}
use Rattle.segment_blocks.specs.declared.tile.Tile.{Tile}
use Rattle.segment_blocks.specs.declared.tile.BlockFault.{BlockFault}
use Rattle.segment_blocks.specs.declared.tile.BlockFault.TheVariants.{BadTile}
use Rattle.segment_blocks.specs.Tiling.{is_hole, StopsAt}
use Rattle.segment_blocks.specs.Reading.{number16, BeginsWith}
use Rattle.segment_blocks.proofs.Progress.{Progress, goes_on, moves, stops}
use Rattle.segment_blocks.proofs.parse.all_tiles.Goals as goal

pub loop-at-preserved : goal.loop-at-preserved
loop-at-preserved c =
    let len : ℕ = c.from-at.result in
    let read : len ≡ number16 (c.loop-at.at + 2) c.args.block.now = cc in
    let found : BeginsWith c.args.shapes.now c.loop-at.at c.loop-at.after_hole (drop c.loop-at.at c.args.block.now) c.in_ok-tile.tile =
    subst (λ (x : List ℕ). BeginsWith c.args.shapes.now c.loop-at.at c.loop-at.after_hole x c.in_ok-tile.tile) (take_rest c.args.block.now c.loop-at.at) c.in_ok-tile.ensures.found in
    let next : Progress c.args.shapes.now c.args.block.now (c.loop-at.tiles ++ c.in_ok-tile.tile ∷ []) (c.loop-at.at + len) (is_hole c.in_ok-tile.tile) =
    goes_on c.args.shapes.now c.args.block.now c.loop-at.tiles c.loop-at.at c.loop-at.after_hole c.in_ok-tile.tile len c.requires c.loop-at.invariant found read in
    let pushed : Progress c.args.shapes.now c.args.block.now c.push.new.self (c.loop-at.at + len) (is_hole c.in_ok-tile.tile) =
    subst (λ (tiles : List Tile). Progress c.args.shapes.now c.args.block.now tiles (c.loop-at.at + len) (is_hole c.in_ok-tile.tile)) (sym c.in_ok-push.ensures.ok) next in
    subst (λ (h : Bool). Progress c.args.shapes.now c.args.block.now c.push.new.self (c.loop-at.at + len) h) (sym c.is_hole-after_hole.ensures) pushed

pub loop-at-smaller : goal.loop-at-smaller
loop-at-smaller c =
    let read : c.from-at.result ≡ number16 (c.loop-at.at + 2) c.args.block.now = cc in
    let found : BeginsWith c.args.shapes.now c.loop-at.at c.loop-at.after_hole (drop c.loop-at.at c.args.block.now) c.in_ok-tile.tile =
    subst (λ (x : List ℕ). BeginsWith c.args.shapes.now c.loop-at.at c.loop-at.after_hole x c.in_ok-tile.tile) (take_rest c.args.block.now c.loop-at.at) c.in_ok-tile.ensures.found in
    let moved : 0 < c.from-at.result = moves c.args.shapes.now c.args.block.now c.loop-at.at c.loop-at.after_hole c.in_ok-tile.tile c.from-at.result c.requires found read in
    omega (arith, moved, c.loop-at-test.true)

pub returns-in_err-tile-clause-bad : goal.returns-in_err-tile-clause-bad
returns-in_err-tile-clause-bad c = λ offset e.
    let p = err_from_is_err_and c.from_residual.result c.from_residual.ensures.1 in
    let told : Result Tile BlockFault = Err c.in_err-tile.field-0.0 in
    let bad : told ≡ Err (BadTile offset) = cc (p.1, p.2, e) in
    let none : (tile : Tile) → BeginsWith c.args.shapes.now c.loop-at.at c.loop-at.after_hole (drop c.loop-at.at c.args.block.now) tile → ⊥ =
    λ tile begins. c.in_err-tile.ensures.none offset bad tile
    (subst (λ (x : List ℕ). BeginsWith c.args.shapes.now c.loop-at.at c.loop-at.after_hole x tile) (sym (take_rest c.args.block.now c.loop-at.at)) begins) in
    let stopped : StopsAt c.args.shapes.now c.args.block.now c.loop-at.at = stops c.args.shapes.now c.args.block.now c.loop-at.tiles c.loop-at.at c.loop-at.after_hole c.loop-at-test.true c.loop-at.invariant none in
    subst (λ (n : ℕ). StopsAt c.args.shapes.now c.args.block.now n) (sym (c.in_err-tile.ensures.place offset bad)) stopped
