-- A cell is placed or appended in a page that was found or added, and pages are added: what the tiles are then.
use Rattle.std.proofs.Common.{◌≡◌, ℕ, ◌+◌, ◌<◌, inl, inr, List, [], ◌∷◌, length, map, take, drop, Some, sym, ap, subst, ◌∙◌, arith, ◌≢◌, zero, suc, ◌%◌, ◌≤◌, ◌&&◌, not, Bool, true, false, cond, eqb, ◌++◌, replicate, All, None, refl, append_assoc, Result, Ok, Err}
use Rattle.std.specs.Prelude.{slice_get}
use Rattle.std.proofs.lemmas.List.{append-nil, length-map, length-append, length-replicate, drop_all, length-take-le, length-drop}
use Rattle.hal_base.specs.declared.pages.SetId.{SetId}
use Rattle.hal_base.specs.ShelfCalls.{ShelfView, SameShelf, Keeps, ChangedIn, GrownBy, OnlyGrows}
use Rattle.segment_blocks.specs.declared.tile.Cell.{Cell}
use Rattle.segment_blocks.specs.declared.tile.Tile.{Tile}
use Rattle.segment_blocks.specs.declared.tile.Tile.TheVariants.{Hole, Seg}
use Rattle.segment_blocks.specs.declared.space.Space.{Space}
use Rattle.free_space.specs.declared.store.CellStore.{CellStore}
use Rattle.segment_blocks.specs.Space.{largest_hole, space_of, free_bytes}
use Rattle.free_space.specs.Map.{layout_of, cell_at}
use Rattle.free_space.specs.Placing.{length_of, grown, TakesHole, NoHoleFits, PlacesIn, Places, IsFirstWith, is_due, opened_pages, AppendsIn, Appends, IsLeftEmpty, IsLastPage, HasPlace, NoPlace, IsLeft, IsLastOpen, HasRoom}
use Rattle.free_space.specs.Store.{StandsFor, Relays, Knows, StaysOpen, GrewBy, added}
use Rattle.free_space.proofs.Told.{push_cases, space_at, relays_weaken, relays_then, some_is, page_of_layout, relays_as, added_is, relays_same, relays_kept}
use Rattle.free_space.proofs.MapSteps.{adds_grown, above}
use Rattle.std.proofs.lemmas.Bool.{not_from_true, eq-eqb, eqb-true}
use Rattle.std.proofs.Math.Nat.{mod-add-mod, mod-eq_of_lt}
use Rattle.std.proofs.lemmas.Option.{get_or_from_slice_get, slice_get_within}
use Rattle.hal_base.specs.declared.place.Shape.{Shape}
use Rattle.segment_blocks.specs.Tiling.{spelled, spelled_hole, spelled_cell, AreTilesFrom}
use Rattle.free_space.proofs.Runs.{length-hole, whole_length}
use Rattle.std.specs.Result.{IfOk, OnOk, OnErr, MatchResult}
use Rattle.hal_base.proofs.ShelfLemmas.{same_changed, changed_grown, grown_then}

-- no hole of the store's numbers is large enough
abbrev pub TooSmall : List Space → ℕ → Type 0
TooSmall spaces len = (k : ℕ) (space : Space) → slice_get spaces k ≡ Some space → space.largest < len

pub none_fits : (spaces : List Space) (layout : List (List Tile)) (len size : ℕ) → len ≡ size → spaces ≡ map space_of layout → TooSmall spaces len → NoHoleFits size layout
none_fits spaces layout len size same are small = λ n tiles at. subst (λ (m : ℕ). largest_hole tiles < m) same (small n (space_of tiles) (space_at spaces layout n tiles are at))

pub placed_here : (store : CellStore) (old new : ShelfView) (cell : Cell) (at n len count : ℕ) → len ≡ length_of cell → count ≡ 0 → StandsFor store old → IsFirstWith store.spaces.pages.items len n
    → Relays store old new (PlacesIn store.set cell at n) → Relays store old new (Places store.set cell count at)
placed_here store old new cell at n len count size none stands first put =
    relays_weaken store old new (PlacesIn store.set cell at n) (Places store.set cell count at) put (λ pages now told told_now p.
    let layout : List (List Tile) = layout_of store.shapes pages in
    let next : List (List Tile) = layout_of store.shapes now in
    let all : layout ≡ grown 0 layout = sym (append-nil layout) in
    let same : layout ≡ grown count layout = all ∙ ap (λ (c : ℕ). grown c layout) (sym none) in
    record {
      n = n;
      before = p.before;
      room = p.room;
      after = p.after;
      takes = subst (λ (l : List (List Tile)). TakesHole store.set cell at n p.before p.room p.after l next) same p.takes;
      lower_pages = λ k tiles lower among. subst (λ (m : ℕ). largest_hole tiles < m) size
          (first.before k (space_of tiles) lower (space_at store.spaces.pages.items layout k tiles (stands.told pages told).spaces_are (ap (λ (l : List (List Tile)). slice_get l k) same ∙ among)));
      lower_holes = p.lower_holes;
      needed = λ some. absurd (omega (arith, some, none));
      adds = p.takes.adds;
    })

pub placed_behind : (store mid_store : CellStore) (old mid new : ShelfView) (cell : Cell) (at n len count : ℕ) → len ≡ length_of cell → count ≡ 1 → mid_store.set ≡ store.set → mid_store.shapes ≡ store.shapes
    → StandsFor store old → TooSmall store.spaces.pages.items len → n ≡ length store.spaces.pages.items → Relays store old mid (λ layout now. now ≡ grown 1 layout)
    → Relays mid_store mid new (PlacesIn mid_store.set cell at n) → Relays store old new (Places store.set cell count at)
placed_behind store mid_store old mid new cell at n len count size one set shapes stands small last grew put =
    relays_then store mid_store old mid new
    (λ layout now. (now ≡ grown 1 layout) × NoHoleFits (length_of cell) layout × (n ≡ length layout))
    (PlacesIn store.set cell at n) (Places store.set cell count at) set shapes
    (relays_weaken store old mid (λ layout now. now ≡ grown 1 layout) (λ layout now. (now ≡ grown 1 layout) × NoHoleFits (length_of cell) layout × (n ≡ length layout)) grew
    (λ pages now told told_now is.
    let are = (stands.told pages told).spaces_are in
    (is, none_fits store.spaces.pages.items (layout_of store.shapes pages) len (length_of cell) size are small, last ∙ ap length are ∙ length-map (layout_of store.shapes pages) space_of)))
    (subst (λ (s : SetId). Relays mid_store mid new (PlacesIn s cell at n)) set put)
    (λ layout between next (is, none, many) p.
    let same : between ≡ grown count layout = is ∙ ap (λ (c : ℕ). grown c layout) (sym one) in
    record {
      n = n;
      before = p.before;
      room = p.room;
      after = p.after;
      takes = subst (λ (l : List (List Tile)). TakesHole store.set cell at n p.before p.room p.after l next) same p.takes;
      lower_pages = λ k tiles lower among. elim (push_cases layout (Hole 16 4080 ∷ []) tiles k (ap (λ (l : List (List Tile)). slice_get l k) (sym is ∙ same) ∙ among)) [
        | inl before ↦ none k tiles before
        | inr behind ↦ absurd (omega (arith, lower, behind.0, many))
      ];
      lower_holes = p.lower_holes;
      needed = λ some. none;
      adds = adds_grown store.set count at cell layout between next same p.takes.adds;
    })

pub places_in : (store : CellStore) (old mid new : ShelfView) (cell : Cell) (at n len place room : ℕ) (tiles : List Tile) → len ≡ length_of cell → SameShelf old mid → largest_hole (take place tiles) < len
    → Relays store mid new (TakesHole store.set cell at n (take place tiles) room (drop (place + 1) tiles)) → Relays store old new (PlacesIn store.set cell at n)
places_in store old mid new cell at n len place room tiles size same small put pages told =
    let b = put pages (same.pages store.set ∙ told) in
    record {
      now = b.now;
      are = b.are;
      heads = b.heads;
      more = b.more;
      leads = record { before = take place tiles; room = room; after = drop (place + 1) tiles; takes = b.leads; lower_holes = subst (λ (m : ℕ). largest_hole (take place tiles) < m) size small };
    }

-- the holes of a page are at most its body
free_le : (shapes : List Shape) (start : ℕ) (after_hole : Bool) (tiles : List Tile) → AreTilesFrom shapes start after_hole tiles → free_bytes tiles ≤ length (spelled tiles)
free_le shapes start after_hole [] are = omega arith
free_le shapes start after_hole (Hole at len ∷ tiles) are =
    omega (arith, free_le shapes (start + length (spelled_hole len)) true tiles are.1, length-append (spelled_hole len) (spelled tiles), length-hole len are.0.2.least)
free_le shapes start after_hole (Seg at cell ∷ tiles) are =
    omega (arith, free_le shapes (start + length (spelled_cell cell)) false tiles are.1, length-append (spelled_cell cell) (spelled tiles))

free_few : (shapes : List Shape) (spaces : List Space) (pages : List (List ℕ)) (n : ℕ) (tiles : List Tile) → All (λ page. length page ≡ 4096) pages → Knows shapes spaces pages
    → slice_get (layout_of shapes pages) n ≡ Some tiles → free_bytes tiles ≤ 4080
free_few shapes spaces pages n tiles long knows at =
    let (page, among, t) = page_of_layout shapes spaces pages n tiles knows at in
    let whole : length page ≡ 4096 = subst (λ (p : List ℕ). length p ≡ 4096) (get_or_from_slice_get pages n page [] among) (long n [] (slice_get_within pages n page among)) in
    omega (arith, free_le shapes 16 false tiles t.tiled, whole_length shapes page tiles t whole)

-- ---- the page's numbers, and its tiles

is_left : (fbff n : ℕ) (tiles : List Tile) → IsLeftEmpty fbff n tiles → IsLeft fbff n (space_of tiles)
is_left fbff n tiles left = record { empty = left.1; due = left.0 }

last_page : (fbff n : ℕ) (spaces : List Space) (layout : List (List Tile)) (tiles : List Tile) → spaces ≡ map space_of layout → slice_get layout n ≡ Some tiles → IsLastOpen fbff spaces n → IsLastPage fbff layout n tiles
last_page fbff n spaces layout tiles are at is = record {
  page = at;
  used = λ left. is.used (space_of tiles) (space_at spaces layout n tiles are at) (is_left fbff n tiles left);
  behind = λ k others lower among. let left = is.behind k (space_of others) lower (space_at spaces layout k others are among) in (left.due, left.empty);
}

some_space : (layout : List (List Tile)) (k : ℕ) (space : Space) → slice_get (map space_of layout) k ≡ Some space → (tiles : List Tile) × (slice_get layout k ≡ Some tiles) × (space_of tiles ≡ space)
some_space [] k space is = absurd (let wrong : None ≡ Some space = is in cc)
some_space (tiles ∷ layout) zero space is = (tiles, refl, some_is (space_of tiles) space is)
some_space (tiles ∷ layout) (suc k) space is = some_space layout k space is

last_open : (fbff n : ℕ) (spaces : List Space) (layout : List (List Tile)) (tiles : List Tile) → spaces ≡ map space_of layout → IsLastPage fbff layout n tiles → IsLastOpen fbff spaces n
last_open fbff n spaces layout tiles are is =
    let at : slice_get spaces n ≡ Some (space_of tiles) = space_at spaces layout n tiles are is.page in
    record {
      below = slice_get_within spaces n (space_of tiles) at;
      used = λ space among left. let same : space ≡ space_of tiles = some_is space (space_of tiles) (sym among ∙ at) in
          is.used (left.due, sym (ap (λ (s : Space). s.cells) same) ∙ left.empty);
      behind = λ k space lower among.
          let found = some_space layout k space (ap (λ (l : List Space). slice_get l k) (sym are) ∙ among) in
          let left = is.behind k found.0 lower found.1 in
          record { empty = sym (ap (λ (s : Space). s.cells) found.2) ∙ left.1; due = left.0 };
    }

-- the last open page of the store's numbers has no room
abbrev pub NoRoomIn : List Space → ℕ → ℕ → ℕ → Type 0
NoRoomIn spaces fbff fspf len = (page : ℕ) (space : Space) → IsLastOpen fbff spaces page → slice_get spaces page ≡ Some space → HasRoom fspf len space → ⊥

pub no_place : (shapes : List Shape) (spaces : List Space) (pages : List (List ℕ)) (fbff fspf len size : ℕ) → len ≡ size → All (λ page. length page ≡ 4096) pages → Knows shapes spaces pages → NoRoomIn spaces fbff fspf len
    → NoPlace fbff fspf size (layout_of shapes pages)
no_place shapes spaces pages fbff fspf len size same long knows none = subst (λ (m : ℕ). NoPlace fbff fspf m (layout_of shapes pages)) same (λ n tiles last place.
    none n (space_of tiles) (last_open fbff n spaces (layout_of shapes pages) tiles knows.spaces_are last) (space_at spaces (layout_of shapes pages) n tiles knows.spaces_are last.page)
    (record { fits = place.fits; enough = omega (arith, place.enough, free_few shapes spaces pages n tiles long knows last.page) }))

-- ---- where the cell goes

pub appends_in : (store : CellStore) (old mid new : ShelfView) (cell : Cell) (at n place room : ℕ) (tiles : List Tile) → SameShelf old mid → place + 1 ≡ length tiles
    → Relays store mid new (TakesHole store.set cell at n (take place tiles) room (drop (place + 1) tiles)) → Relays store old new (AppendsIn store.set cell at n)
appends_in store old mid new cell at n place room tiles same last put pages told =
    let b = put pages (same.pages store.set ∙ told) in
    record {
      now = b.now;
      are = b.are;
      heads = b.heads;
      more = b.more;
      leads = record {
        before = take place tiles;
        room = room;
        takes = subst (λ (l : List Tile). TakesHole store.set cell at n (take place tiles) room l (layout_of store.shapes pages) (layout_of store.shapes b.now)) (drop_all (place + 1) tiles (omega (arith, last))) b.leads;
      };
    }

-- the tiles of the page that took the cell were a tiling
abbrev pub TiledIn : List Shape → ℕ → List (List Tile) → Type 0
TiledIn shapes n layout = (tiles : List Tile) → slice_get layout n ≡ Some tiles → AreTilesFrom shapes 16 false tiles

tiled_in : (store : CellStore) (old : ShelfView) (pages : List (List ℕ)) (n : ℕ) → StandsFor store old → old.pages store.set ≡ Some pages → TiledIn store.shapes n (layout_of store.shapes pages)
tiled_in store old pages n stands told = λ tiles at. let (block, among, t) = page_of_layout store.shapes store.spaces.pages.items pages n tiles (stands.told pages told) at in t.tiled

rises : (shapes : List Shape) (set : SetId) (cell : Cell) (fbff count at n room : ℕ) (before tiles : List Tile) (old mid new : List (List Tile)) → mid ≡ grown count old → TiledIn shapes n mid
    → (t : TakesHole set cell at n before room [] mid new) → IsLastPage fbff mid n tiles → (other : ℕ) (standing : Cell) → cell_at set old other ≡ Some standing → other < at
rises shapes set cell fbff count at n room before tiles old mid new same tiled t last =
    above shapes set fbff count at n t.offset room before old t.address (ap (λ (l : List (List Tile)). slice_get l n) (sym same) ∙ t.replaced.was) (tiled (before ++ Hole t.offset room ∷ []) t.replaced.was)
    (λ k others lower among. last.behind k others lower (ap (λ (l : List (List Tile)). slice_get l k) same ∙ among))

pub appended_here : (store : CellStore) (old new : ShelfView) (cell : Cell) (at n len fbff fspf count : ℕ) → len ≡ length_of cell → count ≡ 0 → StandsFor store old
    → IsLastOpen fbff store.spaces.pages.items n → ((space : Space) → slice_get store.spaces.pages.items n ≡ Some space → HasRoom fspf len space)
    → Relays store old new (AppendsIn store.set cell at n) → Relays store old new (Appends store.set cell fbff fspf count at)
appended_here store old new cell at n len fbff fspf count size none stands last room put =
    relays_weaken store old new (AppendsIn store.set cell at n) (Appends store.set cell fbff fspf count at) put (λ pages now told told_now p.
    let layout : List (List Tile) = layout_of store.shapes pages in
    let next : List (List Tile) = layout_of store.shapes now in
    let are = (stands.told pages told).spaces_are in
    let same : layout ≡ grown count layout = sym (append-nil layout) ∙ ap (λ (c : ℕ). grown c layout) (sym none) in
    let tiles : List Tile = p.before ++ Hole p.takes.offset p.room ∷ [] in
    let enough : HasRoom fspf len (space_of tiles) = room (space_of tiles) (space_at store.spaces.pages.items layout n tiles are p.takes.replaced.was) in
    let is_last : IsLastPage fbff layout n tiles = last_page fbff n store.spaces.pages.items layout tiles are p.takes.replaced.was last in
    record {
      n = n;
      before = p.before;
      tiles = tiles;
      room = p.room;
      takes = subst (λ (l : List (List Tile)). TakesHole store.set cell at n p.before p.room [] l next) same p.takes;
      last = subst (λ (l : List (List Tile)). IsLastPage fbff l n tiles) same is_last;
      place = λ is_none. subst (λ (m : ℕ). HasPlace fspf m tiles) size (record { fits = enough.fits; enough = omega (arith, enough.enough) });
      needed = λ some. absurd (omega (arith, some, none));
      opened = λ some. absurd (omega (arith, some, none));
      adds = p.takes.adds;
      above = rises store.shapes store.set cell fbff count at n p.room p.before tiles layout layout next same (tiled_in store old pages n stands told) p.takes is_last;
    })

opened_two : (fbff m : ℕ) → is_due fbff m ≡ true → opened_pages fbff m ≡ 2
opened_two fbff m due = ap (λ (b : Bool). cond b 2 1) due

opened_one : (fbff m : ℕ) → is_due fbff m ≡ false → opened_pages fbff m ≡ 1
opened_one fbff m due = ap (λ (b : Bool). cond b 2 1) due

and_parts : (a b : Bool) → (a && b) ≡ true → (a ≡ true) × (b ≡ true)
and_parts true b is = (refl, is)
and_parts false b is = absurd (let wrong : false ≡ true = is in cc)

-- two pages that follow each other aren't both due
not_both : (fbff m : ℕ) → fbff ≢ 1 → is_due fbff m ≡ true → is_due fbff (m + 1) ≡ true → ⊥
not_both fbff m apart one other =
    let first = and_parts (not (eqb fbff 0)) (eqb ((m + 1) % fbff) 0) one in
    let second = and_parts (not (eqb fbff 0)) (eqb ((m + 1 + 1) % fbff) 0) other in
    let some : fbff ≢ 0 = λ none. let wrong : false ≡ true = sym (not_from_true (eqb fbff 0) (eq-eqb fbff 0 none)) ∙ first.0 in cc in
    let zero_first : (m + 1) % fbff ≡ 0 = eqb-true ((m + 1) % fbff) 0 first.1 in
    let zero_second : (m + 1 + 1) % fbff ≡ 0 = eqb-true ((m + 1 + 1) % fbff) 0 second.1 in
    let next : 1 % fbff ≡ 1 = mod-eq_of_lt (omega (arith, some, apart)) in
    let both : ((m + 1) % fbff + 1) % fbff ≡ (m + 1 + 1) % fbff = mod-add-mod (m + 1) fbff 1 in
    let same : ((m + 1) % fbff + 1) % fbff ≡ 1 % fbff = ap (λ (r : ℕ). (r + 1) % fbff) zero_first in
    omega (arith, next, both, same, zero_second)

bool_cases : {X : Type 0} (b : Bool) → (b ≡ true → X) → (b ≡ false → X) → X
bool_cases true f h = f refl
bool_cases false f h = h refl

-- the last page that was opened isn't due
not_due : (fbff m n : ℕ) → fbff ≢ 1 → n + 1 ≡ m + opened_pages fbff m → is_due fbff n ≡ true → ⊥
not_due fbff m n apart opened due = bool_cases (is_due fbff m)
    (λ first. let last : n ≡ m + 1 = omega (arith, opened, opened_two fbff m first) in
    not_both fbff m apart first (ap (is_due fbff) (sym last) ∙ due))
    (λ first. let last : n ≡ m = omega (arith, opened, opened_one fbff m first) in
    let wrong : false ≡ true = sym first ∙ ap (is_due fbff) (sym last) ∙ due in cc)

pub opened_some : (fbff m : ℕ) → 0 < opened_pages fbff m
opened_some fbff m = bool_cases (is_due fbff m) (λ due. omega (arith, opened_two fbff m due)) (λ due. omega (arith, opened_one fbff m due))

-- what is known of the tiles before pages were opened
abbrev Opening : ℕ → ℕ → ℕ → ℕ → ℕ → List (List Tile) → List (List Tile) → Type 0
Opening fbff fspf len m count layout now = (now ≡ grown count layout) × (length layout ≡ m) × NoPlace fbff fspf len layout

pub appended_behind : (store mid_store : CellStore) (old mid new : ShelfView) (cell : Cell) (at n len fbff fspf count : ℕ) → len ≡ length_of cell → fbff ≢ 1 → mid_store.set ≡ store.set → mid_store.shapes ≡ store.shapes
    → StandsFor store old → StandsFor mid_store mid → ((pages : List (List ℕ)) → old.pages store.set ≡ Some pages → All (λ page. length page ≡ 4096) pages)
    → NoRoomIn store.spaces.pages.items fbff fspf len → count ≡ opened_pages fbff (length store.spaces.pages.items) → n + 1 ≡ length store.spaces.pages.items + count
    → Relays store old mid (λ layout now. now ≡ grown count layout) → Relays mid_store mid new (AppendsIn mid_store.set cell at n) → Relays store old new (Appends store.set cell fbff fspf count at)
appended_behind store mid_store old mid new cell at n len fbff fspf count size apart set shapes stands mid_stands long none opened number grew put =
    let m : ℕ = length store.spaces.pages.items in
    let turned : StandsFor (record store { spaces = mid_store.spaces }) mid = record {
      many = subst (λ (s : SetId). length mid_store.spaces.pages.items ≡ length (mid.places s)) set mid_stands.many;
      told = λ pages told. subst (λ (s : List Shape). Knows s mid_store.spaces.pages.items pages) shapes (mid_stands.told pages (ap mid.pages set ∙ told));
    } in
    let first : Relays store old mid (Opening fbff fspf (length_of cell) m count) = relays_weaken store old mid (λ layout now. now ≡ grown count layout) (Opening fbff fspf (length_of cell) m count) grew
    (λ pages now told told_now is.
    let knows = stands.told pages told in
    (is, sym (ap length knows.spaces_are ∙ length-map (layout_of store.shapes pages) space_of), no_place store.shapes store.spaces.pages.items pages fbff fspf len (length_of cell) size (long pages told) knows none)) in
    let same_put : Relays store mid new (AppendsIn store.set cell at n) = relays_as mid_store store mid new (λ (s : SetId). AppendsIn s cell at n) set shapes put in
    let second : Relays store mid new (λ between next. AppendsIn store.set cell at n between next × TiledIn store.shapes n between) = relays_weaken store mid new (AppendsIn store.set cell at n)
    (λ between next. AppendsIn store.set cell at n between next × TiledIn store.shapes n between) same_put
    (λ pages now told told_now p. (p, tiled_in (record store { spaces = mid_store.spaces }) mid pages n turned told)) in
    relays_then store store old mid new (Opening fbff fspf (length_of cell) m count) (λ between next. AppendsIn store.set cell at n between next × TiledIn store.shapes n between) (Appends store.set cell fbff fspf count at) refl refl first second
    (λ layout between next (is, many, small) (p, tiled).
    let empty : List Tile = Hole 16 4080 ∷ [] in
    let tiles : List Tile = p.before ++ Hole p.takes.offset p.room ∷ [] in
    let all : length between ≡ n + 1 = omega (arith, ap length is, length-append layout (replicate count empty), length-replicate count empty, many, number) in
    let is_last : IsLastPage fbff between n tiles = record {
      page = p.takes.replaced.was;
      used = λ left. not_due fbff m n apart (number ∙ ap (λ (c : ℕ). m + c) opened) left.0;
      behind = λ k others lower among. absurd (omega (arith, lower, all, slice_get_within between k others among));
    } in
    record {
      n = n;
      before = p.before;
      tiles = tiles;
      room = p.room;
      takes = subst (λ (l : List (List Tile)). TakesHole store.set cell at n p.before p.room [] l next) is p.takes;
      last = subst (λ (l : List (List Tile)). IsLastPage fbff l n tiles) is is_last;
      place = λ is_none. absurd (omega (arith, opened_some fbff m, opened, is_none));
      needed = λ some. small;
      opened = λ some. (opened ∙ ap (opened_pages fbff) (sym many), omega (arith, number, many));
      adds = adds_grown store.set count at cell layout between next is p.takes.adds;
      above = rises store.shapes store.set cell fbff count at n p.room p.before tiles layout between next is tiled p.takes is_last;
    })

-- ---- pages that are opened

pub opened_is_two : (fbff m : ℕ) (due : Bool) → due ≡ is_due fbff m → due ≡ true → opened_pages fbff m ≡ 2
opened_is_two fbff m due is held = opened_two fbff m (sym is ∙ held)

pub opened_is_one : (fbff m : ℕ) (due : Bool) → due ≡ is_due fbff m → due ≡ false → opened_pages fbff m ≡ 1
opened_is_one fbff m due is held = opened_one fbff m (sym is ∙ held)

pub grown_two : (a b c : List (List Tile)) → b ≡ grown 1 a → c ≡ grown 1 b → c ≡ grown 2 a
grown_two a b c first second = second ∙ ap (grown 1) first ∙ append_assoc a ((Hole 16 4080 ∷ []) ∷ []) ((Hole 16 4080 ∷ []) ∷ [])

pub match_weaker : {T E : Type 0} {P P' : T → Type 0} {Q Q' : E → Type 0} (r : Result T E) → MatchResult r P Q → ((x : T) → P x → P' x) → ((e : E) → Q e → Q' e) → MatchResult r P' Q'
match_weaker (Ok x) holds f h = f x holds
match_weaker (Err e) holds f h = h e holds

pub match_of : {T E : Type 0} {P P' : T → Type 0} {A : Type 0} {Q' : E → Type 0} (r : Result T E) → IfOk r P → OnErr r A → ((x : T) → P x → P' x) → (A → (e : E) → Q' e) → MatchResult r P' Q'
match_of (Ok x) ok err f h = f x ok
match_of (Err e) ok err f h = h err e

pub match_err : {T E : Type 0} (P : T → Type 0) (Q : E → Type 0) (r : Result T E) (e : E) → r ≡ Err e → ((e : E) → Q e) → MatchResult r P Q
match_err P Q (Ok x) e is q = absurd (let wrong : Ok x ≡ Err e = is in cc)
match_err P Q (Err d) e is q = q d

pub on_ok_any : {T E X : Type 0} (r : Result T E) → X → OnOk r X
on_ok_any (Ok x) it = it
on_ok_any (Err e) it = tt

-- whichever the answer was
pub match_any : {T E C : Type 0} {P : T → Type 0} {Q : E → Type 0} (r : Result T E) → MatchResult r P Q → ((x : T) → P x → C) → ((e : E) → Q e → C) → C
match_any (Ok x) holds f h = f x holds
match_any (Err e) holds f h = h e holds

grown_same : (count : ℕ) (set : SetId) (old mid new : ShelfView) → GrownBy count set old mid → SameShelf mid new → GrownBy count set old new
grown_same count set old mid new g same = record {
  others = λ other apart. same.pages other ∙ g.others other apart;
  untold = λ none. same.pages set ∙ g.untold none;
  other_places = λ other apart. same.places other ∙ g.other_places other apart;
  placed = same.places set ∙ g.placed;
  free = same.free ∙ g.free;
  enough = g.enough;
}

pub grown_as : (count : ℕ) (set : SetId) (old new : ShelfView) → GrownBy count set old new → GrownBy (added set old new) set old new
grown_as count set old new g = subst (λ (n : ℕ). GrownBy n set old new) (added_is count set old new g) g

pub grows_only : {steady failed : Type 0} (count : ℕ) (set : SetId) (old new : ShelfView) → Keeps steady failed old new → GrownBy count set old new → OnlyGrows (added set old new) set steady failed old new
grows_only {steady} {failed} count set old new keeps g = record { keeps = keeps; grown = grown_as count set old new g }

pub none_added : (set : SetId) (old new : ShelfView) → ChangedIn set old new → 0 ≡ added set old new
none_added set old new changed = added_is 0 set old new (changed_grown changed)

pub grew_same : (count : ℕ) (store : CellStore) (old mid new : ShelfView) → GrewBy count store old mid → SameShelf mid new → GrewBy count store old new
grew_same count store old mid new g same = record {
  blocks = grown_same count store.set old mid new g.blocks same;
  tiles = relays_kept store old mid new (λ layout now. now ≡ grown count layout) g.tiles same;
}

pub grew_as : (count : ℕ) (store : CellStore) (old new : ShelfView) → GrewBy count store old new → GrewBy (added store.set old new) store old new
grew_as count store old new g = subst (λ (n : ℕ). GrewBy n store old new) (added_is count store.set old new g.blocks) g

pub grew_none : (store : CellStore) (old new : ShelfView) → SameShelf old new → GrewBy (added store.set old new) store old new
grew_none store old new same = grew_as 0 store old new (record {
  blocks = changed_grown (same_changed store.set same);
  tiles = relays_weaken store old new (λ layout now. now ≡ layout) (λ layout now. now ≡ grown 0 layout) (relays_same store old new same) (λ pages now told told_now is. is ∙ sym (append-nil _));
})

grown_set : (count : ℕ) (set other : SetId) (old new : ShelfView) → set ≡ other → GrownBy count set old new → GrownBy count other old new
grown_set count set other old new same g = subst (λ (s : SetId). GrownBy count s old new) same g

pub changed_set : (set other : SetId) (old new : ShelfView) → set ≡ other → ChangedIn set old new → ChangedIn other old new
changed_set set other old new same g = subst (λ (s : SetId). ChangedIn s old new) same g

pub grew_two : (store mid_store : CellStore) (old mid new : ShelfView) → StaysOpen store mid_store mid → GrewBy 1 store old mid → GrewBy 1 mid_store mid new → GrewBy 2 store old new
grew_two store mid_store old mid new stays first second = record {
  blocks = grown_then 1 1 first.blocks (grown_set 1 mid_store.set store.set mid new stays.set second.blocks);
  tiles = relays_then store mid_store old mid new (λ layout now. now ≡ grown 1 layout) (λ layout now. now ≡ grown 1 layout) (λ layout now. now ≡ grown 2 layout) stays.set stays.shapes first.tiles second.tiles grown_two;
}

-- pages that were added, and a cell that was put into one
pub grown_changed : (count : ℕ) (set mid_set : SetId) (old mid new : ShelfView) → mid_set ≡ set → GrownBy count set old mid → ChangedIn mid_set mid new → GrownBy count set old new
grown_changed count set mid_set old mid new same g changed =
    subst (λ (n : ℕ). GrownBy n set old new) (omega arith) (grown_then count 0 g (changed_grown (changed_set mid_set set mid new same changed)))

-- the store counts the pages that were added
pub grew_many : (count : ℕ) (store mid_store : CellStore) (old mid : ShelfView) → StandsFor store old → StaysOpen store mid_store mid → GrownBy count store.set old mid → length mid_store.spaces.pages.items ≡ length store.spaces.pages.items + count
grew_many count store mid_store old mid stands stays g =
    omega (
      arith,
      stays.stands.many,
      ap (λ (s : SetId). length (mid.places s)) stays.set,
      ap length g.placed,
      length-append (old.places store.set) (take count old.free),
      length-take-le count old.free g.enough,
      stands.many,
    )

pub one_left : (count : ℕ) (set : SetId) (old mid : ShelfView) → GrownBy count set old mid → mid.free ≡ [] → length old.free ≡ count
one_left count set old mid g none = omega (arith, g.enough, ap length g.free, ap length none, length-drop count old.free)
