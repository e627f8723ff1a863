use Rattle.std.proofs.Common.{◌≡◌, ◌+◌, ℕ, Bool, List, length, drop, sym, ap, subst, ◌∙◌, arith}
use Rattle.std.proofs.lemmas.List.{drop-drop}
use Rattle.segment_blocks.specs.Reading.{number16, BeginsWith, HasHead}
use Rattle.segment_blocks.proofs.Addresses.{IsBytes}
use Rattle.segment_blocks.proofs.Progress.{stops, rest_of}
use Rattle.segment_blocks.proofs.Measuring.{Measured, measured_on, measured_all}
use Rattle.segment_blocks.proofs.measure.measure_block.Goals as goal

pub returns-in_default-clause-bad : goal.returns-in_default-clause-bad
returns-in_default-clause-bad c =
    let at : ℕ = c.loop-at.at in
    let long : length c.args.block.now ≡ 4096 = omega arith in
    stops c.args.shapes.now c.args.block.now c.loop-at.invariant.tiles at c.loop-at.after_hole (omega (arith, c.loop-at-test.true, long)) c.loop-at.invariant.progress (λ tile begins. c.in_default.ensures.none at tile
    (subst (λ (x : List ℕ). BeginsWith c.args.shapes.now at c.loop-at.after_hole x tile) (sym (rest_of c.args.block.now at long)) begins))

pub loop-at-preserved : goal.loop-at-preserved
loop-at-preserved c =
    let at : ℕ = c.loop-at.at in
    let long : length c.args.block.now ≡ 4096 = omega arith in
    let bytes : List ℕ = drop at c.args.block.now in
    let has : HasHead c.args.shapes.now c.loop-at.after_hole bytes c.in-Some.head =
    subst (λ (x : List ℕ). HasHead c.args.shapes.now c.loop-at.after_hole x c.in-Some.head) (rest_of c.args.block.now at long) c.in-Some.ensures.found in
    let read : c.get16-len.result ≡ number16 (at + 2) c.args.block.now = c.get16-len.ensures in
    let again : c.get16-len.result ≡ number16 2 bytes = read ∙ ap (λ (x : List ℕ). number16 0 x) (sym (drop-drop 2 at c.args.block.now)) in
    subst (λ (h : Bool). Measured c.args.shapes.now c.args.block.now (at + c.from-at.result) h c.with_head-space.result) (sym (c.is_hole-after_hole.ensures at bytes))
    (measured_on c.args.shapes.now c.args.block.now at c.loop-at.after_hole c.loop-at.space c.with_head-space.result c.in-Some.head c.from-at.result long
    (subst IsBytes (rest_of c.args.block.now at long) c.next_head.ensures.bytes) c.loop-at.invariant has (c.from-at.ensures ∙ read) (λ tiles is. c.with_head-space.ensures tiles at bytes is again))

pub returns-clause-tiled : goal.returns-clause-tiled
returns-clause-tiled c = (measured_all c.args.shapes.now c.args.block.now c.loop-at.at c.loop-at.after_hole c.loop-at.space (let long : length c.args.block.now ≡ 4096 = omega arith in omega (arith, long, c.loop-at-test.false)) c.loop-at.invariant).tiled

pub returns-clause-space : goal.returns-clause-space
returns-clause-space c = (measured_all c.args.shapes.now c.args.block.now c.loop-at.at c.loop-at.after_hole c.loop-at.space (let long : length c.args.block.now ≡ 4096 = omega arith in omega (arith, long, c.loop-at-test.false)) c.loop-at.invariant).numbers
