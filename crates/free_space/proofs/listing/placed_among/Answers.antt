use Rattle.std.proofs.Common.{◌≡◌, ℕ, ◌+◌, List, [], ◌∷◌, ◌++◌, take, sym, ap, ◌∙◌}
use Rattle.std.proofs.lemmas.List.{take_more, append-nil}
use Rattle.segment_blocks.specs.declared.tile.Tile.{Tile}
use Rattle.segment_blocks.specs.declared.tile.Cell.{Cell}
use Rattle.free_space.specs.declared.listing.PlacedCell.{PlacedCell}
use Rattle.free_space.specs.Address.{address}
use Rattle.free_space.specs.Listing.{placed_among}
use Rattle.free_space.proofs.Listings.{placed_push}
use Rattle.free_space.proofs.listing.placed_among.Goals as goal
use Rattle.free_space.proofs.listing.placed_among.Goals.{in-Seg+in_ok-cell+in_ok-push, in_default}

pub loop-tile-preserved : goal.loop-tile-preserved
loop-tile-preserved c =
    let more : take (c.loop-tile.tile-index + 1) c.args.tiles.now ≡ take c.loop-tile.tile-index c.args.tiles.now ++ c.tile-item.result ∷ [] =
    take_more c.args.tiles.now c.loop-tile.tile-index c.tile-item.result c.loop-tile-test.true ∙ ap (λ (t : Tile). take c.loop-tile.tile-index c.args.tiles.now ++ t ∷ []) (sym c.tile-item.is) in
    let step = ap (placed_among c.args.set c.args.page) more ∙ placed_push c.args.set c.args.page (take c.loop-tile.tile-index c.args.tiles.now) c.tile-item.result in
    let front : List PlacedCell = placed_among c.args.set c.args.page (take c.loop-tile.tile-index c.args.tiles.now) in
    elim c.match-tile.branch [
      | in-Seg+in_ok-cell+in_ok-push w ↦
          w.list-is ∙ w.in_ok-push.ensures.ok ∙ ap (λ (l : List PlacedCell). l ++ record { at = w.address_of-at.result; cell = w.in_ok-cell.cell } ∷ []) c.loop-tile.invariant
          ∙ ap (λ (a : ℕ). front ++ record { at = a; cell = w.in_ok-cell.cell } ∷ []) w.address_of-at.ensures ∙ ap (λ (one : Cell). front ++ record { at = address c.args.set c.args.page w.in-Seg.at; cell = one } ∷ []) w.in_ok-cell.ensures
          ∙ ap (λ (t : Tile). front ++ placed_among c.args.set c.args.page (t ∷ [])) (sym w.in-Seg.is) ∙ sym step
      | in_default w ↦ w.list-is ∙ c.loop-tile.invariant ∙ sym (append-nil front) ∙ ap (λ (t : Tile). front ++ placed_among c.args.set c.args.page (t ∷ [])) (sym w.in_default.is) ∙ sym step
    ]
