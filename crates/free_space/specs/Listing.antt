-- The cells of a data set one after the other, in the order of their addresses.
use Rattle.std.specs.Prelude.{◌≡◌, slice_get, ℕ, ◌+◌, ◌==◌, nat_le, ◌&&◌, Bool, true, if◌then◌else◌, List, [], ◌∷◌, ◌++◌, Option, None, Some}
use Rattle.hal_base.specs.declared.pages.SetId.{SetId}
use Rattle.hal_base.specs.declared.place.Shape.{Shape}
use Rattle.hal_base.specs.ShelfCalls.{ShelfView}
use Rattle.segment_blocks.specs.TilesOf.{tiles_of}
use Rattle.segment_blocks.specs.declared.tile.Tile.{Tile}
use Rattle.segment_blocks.specs.declared.tile.Tile.TheVariants.{Hole, Seg}
use Rattle.segment_blocks.specs.declared.tile.Cell.{Cell}
use Rattle.free_space.specs.declared.listing.PlacedCell.{PlacedCell}
use Rattle.free_space.specs.Address.{address}

-- the cells among the tiles of page n, each with its address
abbrev pub placed_among : SetId → ℕ → List Tile → List PlacedCell
placed_among set n [] = []
placed_among set n (Hole at len ∷ tiles) = placed_among set n tiles
placed_among set n (Seg at cell ∷ tiles) = record { at = address set n at; cell = cell } ∷ placed_among set n tiles

-- those of the pages from n on
abbrev pub placed_from : SetId → ℕ → List (List Tile) → List PlacedCell
placed_from set n [] = []
placed_from set n (tiles ∷ layout) = placed_among set n tiles ++ placed_from set (n + 1) layout

-- what a list has at an address
abbrev pub listed_at : ℕ → List PlacedCell → Option Cell
listed_at at [] = None
listed_at at (placed ∷ list) = if placed.at == at then Some placed.cell else listed_at at list

-- each address is above those before it, and at least `from`
abbrev pub rise_from : ℕ → List PlacedCell → Bool
rise_from from [] = true
rise_from from (placed ∷ list) = nat_le from placed.at && rise_from (placed.at + 1) list

-- where the pages are told, these are the cells of page n
abbrev pub ListsPage : SetId → List Shape → ShelfView → ℕ → List PlacedCell → Type 0
ListsPage set shapes shelf n list =
    (pages : List (List ℕ)) (page : List ℕ) → shelf.pages set ≡ Some pages → slice_get pages n ≡ Some page → list ≡ placed_among set n (tiles_of shapes page)
