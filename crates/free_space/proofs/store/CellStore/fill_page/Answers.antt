use Rattle.std.proofs.Common.{◌≡◌, ℕ, ◌+◌, ◌-◌, ◌≤◌, List, ◌∷◌, ◌++◌, length, take, drop, Some, refl, sym, ap, subst, ◌∙◌, arith}
use Rattle.std.specs.Prelude.{slice_set}
use Rattle.std.proofs.lemmas.Option.{slice_get_within}
use Rattle.hal_base.specs.declared.place.Shape.{Shape}
use Rattle.hal_base.proofs.ShelfLemmas.{same_none, changes_as}
use Rattle.segment_blocks.specs.declared.tile.Tile.{Tile}
use Rattle.segment_blocks.specs.declared.tile.Tile.TheVariants.{Hole, Seg}
use Rattle.segment_blocks.specs.Tiling.{cell_length, shape_of, IsTiling}
use Rattle.segment_blocks.specs.declared.space.Space.{Space}
use Rattle.segment_blocks.specs.Space.{space_of}
use Rattle.segment_blocks.specs.Space.{left_over}
use Rattle.free_space.proofs.Runs.{split_place}
use Rattle.free_space.proofs.Rewriting.{hole_inside}
use Rattle.free_space.proofs.Told.{ok_err, stays_same}
use Rattle.free_space.proofs.PageSteps.{filled_page, stays_put, same_front}
use Rattle.free_space.proofs.store.CellStore.fill_page.Goals as goal

pub fill-requires-clause-body : goal.fill-requires-clause-body
fill-requires-clause-body g c =
    let long : length c.args.block.now ≡ 4096 = omega arith in
    let there = hole_inside c.args.self.now.shapes c.args.block.now c.args.tiles.now c.args.gap.place c.args.gap.at c.args.gap.room c.requires.tiling long c.requires.gap.hole in
    there.0.body

pub fill-requires-clause-inside : goal.fill-requires-clause-inside
fill-requires-clause-inside g c =
    let long : length c.args.block.now ≡ 4096 = omega arith in
    let there = hole_inside c.args.self.now.shapes c.args.block.now c.args.tiles.now c.args.gap.place c.args.gap.at c.args.gap.room c.requires.tiling long c.requires.gap.hole in
    there.0.room

pub fill-requires-clause-whole : goal.fill-requires-clause-whole
fill-requires-clause-whole g c =
    let long : length c.args.block.now ≡ 4096 = omega arith in
    let there = hole_inside c.args.self.now.shapes c.args.block.now c.args.tiles.now c.args.gap.place c.args.gap.at c.args.gap.room c.requires.tiling long c.requires.gap.hole in
    there.1.whole

pub filled-space-requires-clause-within : goal.filled-space-requires-clause-within
filled-space-requires-clause-within g c = slice_get_within c.args.tiles.now c.args.gap.place (Hole c.args.gap.at c.args.gap.room) c.requires.gap.hole

pub address_of-requires : goal.address_of-requires
address_of-requires g c =
    let long : length c.args.block.now ≡ 4096 = omega arith in
    let there = hole_inside c.args.self.now.shapes c.args.block.now c.args.tiles.now c.args.gap.place c.args.gap.at c.args.gap.room c.requires.tiling long c.requires.gap.hole in
    omega (arith, there.0.room, there.1.least)

pub stage-requires-clause-head : goal.stage-requires-clause-head
stage-requires-clause-head g c = same_front c.args.self.now.set c.args.page c.args.block.now c.fill.new.block (g.H.Shelf.seen c.args.shelf.now) (g.H.Shelf.seen c.args.shelf.now)
    (same_none (g.H.Shelf.seen c.args.shelf.now)) c.requires.read c.fill.ensures.head

pub returns-clause-takes : goal.returns-clause-takes
returns-clause-takes g c =
    let shape : c.shape_for-shape.result ≡ shape_of c.args.cell.now = c.shape_for-shape.ensures in
    let split = split_place c.args.tiles.now c.args.gap.place (Hole c.args.gap.at c.args.gap.room) c.requires.gap.hole in
    let before : List Tile = take c.args.gap.place c.args.tiles.now in
    let after : List Tile = drop (c.args.gap.place + 1) c.args.tiles.now in
    let len : ℕ = cell_length c.shape_for-shape.result in
    let typed = c.requires.typed.typed ∙ ap (λ (s : Shape). Some s) (sym shape) in
    let was = subst (IsTiling c.args.self.now.shapes c.args.block.now) split c.requires.tiling in
    let t : IsTiling c.args.self.now.shapes c.fill.new.block (before ++ (Seg c.args.gap.at c.args.cell.now ∷ left_over (c.args.gap.at + len) (c.args.gap.room - len) ++ after)) =
    c.fill.ensures.tiled c.args.self.now.shapes before after was c.requires.typed.coded typed in
    let long : length c.args.block.now ≡ 4096 = omega arith in
    let there = hole_inside c.args.self.now.shapes c.args.block.now c.args.tiles.now c.args.gap.place c.args.gap.at c.args.gap.room c.requires.tiling long c.requires.gap.hole in
    filled_page c.args.self.now (g.H.Shelf.seen c.args.shelf.now) (g.H.Shelf.seen c.stage.new.shelf) c.args.cell.now c.address_of.result c.args.page c.args.gap.at c.args.gap.room len before after c.args.tiles.now c.args.block.now c.fill.new.block
    c.address_of.ensures (ap cell_length shape) (subst (λ (n : ℕ). n ≤ c.args.gap.room) (sym (ap cell_length shape)) c.requires.gap.fits) (omega arith) (omega (arith, there.0.room, there.1.least))
    c.requires.read c.fill.ensures.head c.in_ok-stage.ensures.page was t

pub returns-clause-stays : goal.returns-clause-stays
returns-clause-stays g c =
    let shape : c.shape_for-shape.result ≡ shape_of c.args.cell.now = c.shape_for-shape.ensures in
    let split = split_place c.args.tiles.now c.args.gap.place (Hole c.args.gap.at c.args.gap.room) c.requires.gap.hole in
    let before : List Tile = take c.args.gap.place c.args.tiles.now in
    let after : List Tile = drop (c.args.gap.place + 1) c.args.tiles.now in
    let len : ℕ = cell_length c.shape_for-shape.result in
    let typed = c.requires.typed.typed ∙ ap (λ (s : Shape). Some s) (sym shape) in
    let next : List Tile = before ++ (Seg c.args.gap.at c.args.cell.now ∷ left_over (c.args.gap.at + len) (c.args.gap.room - len) ++ after) in
    let t : IsTiling c.args.self.now.shapes c.fill.new.block next =
    c.fill.ensures.tiled c.args.self.now.shapes before after (subst (IsTiling c.args.self.now.shapes c.args.block.now) split c.requires.tiling) c.requires.typed.coded typed in
    let numbers : c.filled-space.result ≡ space_of next =
    subst (λ (n : ℕ). c.filled-space.result ≡ space_of (before ++ (Seg c.args.gap.at c.args.cell.now ∷ left_over (c.args.gap.at + n) (c.args.gap.room - n) ++ after))) c.cell_size.ensures (c.filled-space.ensures c.args.cell.now) in
    stays_put c.args.self.now _ (g.H.Shelf.seen c.args.shelf.now) (g.H.Shelf.seen c.args.shelf.now) (g.H.Shelf.seen c.stage.new.shelf) c.args.page c.fill.new.block next c.requires.stands (same_none (g.H.Shelf.seen c.args.shelf.now)) refl refl
    (c.set.ensures ∙ ap (λ (s : Space). slice_set c.args.self.now.spaces.pages.items c.from.result s) numbers ∙ ap (λ (n : ℕ). slice_set c.args.self.now.spaces.pages.items n (space_of next)) c.from.ensures) t c.in_ok-stage.ensures.page c.in_ok-stage.ensures.leaves.changed

pub returns-in_err-stage-clause-stays : goal.returns-in_err-stage-clause-stays
returns-in_err-stage-clause-stays g c = stays_same c.args.self.now (g.H.Shelf.seen c.args.shelf.now) (g.H.Shelf.seen c.stage.new.shelf) c.requires.stands c.in_err-stage.ensures.unchanged

pub returns-clause-leaves : goal.returns-clause-leaves
returns-clause-leaves g c = changes_as c.stage.ensures.leaves (λ failed. absurd (ok_err c.stage.result c.in_ok-stage.was failed)) (λ failed. let wrong = failed in cc)
