use Rattle.std.proofs.Common.{◌≡◌, ◌/◌, ◌^◌, List, sym, subst, ◌∙◌, arith}
use Rattle.std.proofs.lemmas.Bool.{eqb-false, eqb-true}
use Rattle.hal_base.specs.declared.place.Shape.{Shape}
use Rattle.segment_blocks.specs.declared.tile.Tile.{Tile}
use Rattle.segment_blocks.specs.Tiling.{IsTiling}
use Rattle.segment_blocks.specs.TilesOf.{cell_among}
use Rattle.free_space.specs.Address.{letter_index}
use Rattle.free_space.proofs.PageSteps.{not_in_set, past_pages, found_on}
use Rattle.free_space.proofs.store.CellStore.find.Goals as goal

pub returns-then-not-has_letter-clause-found : goal.returns-then-not-has_letter-clause-found
returns-then-not-has_letter-clause-found g c =
    not_in_set c.args.self.now (g.H.Shelf.seen c.args.shelf.now) c.args.at (eqb-false (c.args.at / 2 ^ 28) (letter_index c.args.self.now.set.letter) (sym c.has_letter.ensures ∙ c.if-not-has_letter.true))

pub returns-then-from-len-clause-found : goal.returns-then-from-len-clause-found
returns-then-from-len-clause-found g c =
    past_pages c.args.self.now (g.H.Shelf.seen c.args.shelf.now) c.args.at c.page_of-page.result c.page_of-page.ensures (omega (arith, c.if-from-len.true, c.len.ensures, c.from.ensures)) c.requires.stands

pub returns-in-Ok-clause-found : goal.returns-in-Ok-clause-found
returns-in-Ok-clause-found g c =
    let read : (tiles : List Tile) → IsTiling c.args.self.now.shapes c.fetch.new.block tiles → c.in-Ok.found ≡ cell_among c.offset_of.result tiles =
    subst (λ (s : List Shape). (tiles : List Tile) → IsTiling s c.fetch.new.block tiles → c.in-Ok.found ≡ cell_among c.offset_of.result tiles) c.as_slice.ensures c.in-Ok.ensures in
    found_on c.args.self.now (g.H.Shelf.seen c.args.shelf.now) c.args.at c.page_of-page.result c.offset_of.result c.fetch.new.block c.in-Ok.found
    (eqb-true (c.args.at / 2 ^ 28) (letter_index c.args.self.now.set.letter) (sym c.has_letter.ensures ∙ c.if-not-has_letter.false)) c.page_of-page.ensures c.offset_of.ensures c.requires.stands c.in_ok-fetch.ensures.page read
