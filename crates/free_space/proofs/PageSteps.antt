-- One page that was read, changed and put: what stands at an address, and what the tiles and the store are then.
use Rattle.std.proofs.Common.{◌≡◌, ◌≢◌, ℕ, ◌+◌, ◌-◌, ◌/◌, ◌^◌, ◌<◌, ◌≤◌, Result, Ok, Err, List, [], ◌∷◌, ◌++◌, length, take, replicate, All, Option, Some, None, refl, sym, ap, subst, ◌∙◌, arith}
use Rattle.std.specs.Prelude.{slice_get, slice_set, IfSome}
use Rattle.std.specs.Int.{w16, to_be_bytes}
use Rattle.std.specs.Option.{option_map}
use Rattle.std.specs.Result.{OnOk, OnErr}
use Rattle.std.proofs.lemmas.List.{length-set, length_push, length-map, length-append, length-take-le, append-nil, set-get_or}
use Rattle.std.proofs.lemmas.Option.{slice_get_past, get_or_from_slice_get}
use Rattle.hal_base.specs.declared.place.Shape.{Shape}
use Rattle.hal_base.specs.declared.pages.SetId.{SetId}
use Rattle.hal_base.specs.Pages.{empty_page}
use Rattle.hal_base.specs.ShelfCalls.{ShelfView, SameShelf, ChangedIn, GrownBy}
use Rattle.segment_blocks.specs.declared.tile.Cell.{Cell}
use Rattle.segment_blocks.specs.declared.tile.Tile.{Tile}
use Rattle.segment_blocks.specs.declared.tile.Tile.TheVariants.{Hole, Seg}
use Rattle.segment_blocks.specs.Tiling.{spelled_hole, IsTiling}
use Rattle.segment_blocks.specs.TilesOf.{tiles_of, cell_among}
use Rattle.segment_blocks.specs.declared.space.Space.{Space}
use Rattle.free_space.specs.declared.store.CellStore.{CellStore}
use Rattle.free_space.specs.Address.{letter_index, page_at, offset_at, address}
use Rattle.segment_blocks.specs.Space.{space_of}
use Rattle.segment_blocks.specs.Space.{left_over}
use Rattle.free_space.specs.Map.{layout_of, cell_at}
use Rattle.free_space.specs.Changes.{Replaces, Rewrites, GivesBack, Rewritten}
use Rattle.free_space.specs.Clearing.{IsCleared}
use Rattle.free_space.specs.Placing.{length_of, grown, TakesHole}
use Rattle.free_space.specs.Store.{Knows, StandsFor, StaysOpen, SameFront, Relays, IsPage, HasPut, HoldsAt, StandsAt}
use Rattle.segment_blocks.proofs.Spaces.{same_space}
use Rattle.free_space.proofs.Told.{if_some, map_some, page_tiles, space_at, knows_put, knows_push, stands_same, stays_now, heads_push, layout_push, relays_read, relays_put, relays_weaken}
use Rattle.free_space.proofs.MapSteps.{no_letter, no_page, stands_at, stood_at, alters, drops, adds}

-- ---- what stands at an address

pub not_in_set : (store : CellStore) (shelf : ShelfView) (at : ℕ) → (at / 2 ^ 28 ≡ letter_index store.set.letter → ⊥) → StandsAt store shelf at None
not_in_set store shelf at apart = λ pages told. no_letter store.set (layout_of store.shapes pages) at apart

pub past_pages : (store : CellStore) (shelf : ShelfView) (at page : ℕ) → page ≡ page_at at → length store.spaces.pages.items ≤ page → StandsFor store shelf → StandsAt store shelf at None
past_pages store shelf at page is past stands = λ pages told.
    let many = ap length (stands.told pages told).spaces_are ∙ length-map (layout_of store.shapes pages) space_of in
    no_page store.set (layout_of store.shapes pages) at (slice_get_past (layout_of store.shapes pages) (page_at at) (omega (arith, many, past, is)))

pub found_at : (store : CellStore) (shelf : ShelfView) (at page offset : ℕ) (block : List ℕ) (tiles : List Tile) (found : Option Cell) → at / 2 ^ 28 ≡ letter_index store.set.letter → page ≡ page_at at → offset ≡ offset_at at
    → IsPage store.set page block shelf → IsTiling store.shapes block tiles → cell_among offset tiles ≡ found → StandsAt store shelf at found
found_at store shelf at page offset block tiles found letter e0 e1 is t among = λ pages told.
    stands_at store.set (layout_of store.shapes pages) at page offset tiles letter (sym e0) (sym e1) (page_tiles store.shapes pages page block tiles (is pages told) t) ∙ among

-- what is known of a page's tiles, where the pages are told
pub found_on : (store : CellStore) (shelf : ShelfView) (at page offset : ℕ) (block : List ℕ) (found : Option Cell) → at / 2 ^ 28 ≡ letter_index store.set.letter → page ≡ page_at at → offset ≡ offset_at at
    → StandsFor store shelf → IsPage store.set page block shelf → ((tiles : List Tile) → IsTiling store.shapes block tiles → found ≡ cell_among offset tiles) → StandsAt store shelf at found
found_on store shelf at page offset block found letter e0 e1 stands is read = λ pages told.
    let t = (stands.told pages told).tiled page block (is pages told) in
    found_at store shelf at page offset block (tiles_of store.shapes block) found letter e0 e1 is t (sym (read (tiles_of store.shapes block) t)) pages told

-- a cell that stands at an address is among its page's tiles
record OnPage (store : CellStore) (at offset : ℕ) (pages : List (List ℕ)) (block : List ℕ) : Type 0 where
  pub cell : Cell
  pub stands : cell_at store.set (layout_of store.shapes pages) at ≡ Some cell
  pub tiled : IsTiling store.shapes block (tiles_of store.shapes block)
  pub among : cell_among offset (tiles_of store.shapes block) ≡ Some cell

on_page : (store : CellStore) (shelf : ShelfView) (at page offset : ℕ) (block : List ℕ) (P : Cell → Type 0) (pages : List (List ℕ)) → HoldsAt store shelf at P → page ≡ page_at at → offset ≡ offset_at at
    → StandsFor store shelf → IsPage store.set page block shelf → shelf.pages store.set ≡ Some pages → OnPage store at offset pages block
on_page store shelf at page offset block P pages holds e0 e1 stands is told =
    let there = holds pages told in
    let t = (stands.told pages told).tiled page block (is pages told) in
    let letter = (stood_at store.set (layout_of store.shapes pages) at there.0 there.1).0 in
    record {
      cell = there.0;
      stands = there.1;
      tiled = t;
      among = sym (stands_at store.set (layout_of store.shapes pages) at page offset (tiles_of store.shapes block) letter (sym e0) (sym e1)
          (page_tiles store.shapes pages page block (tiles_of store.shapes block) (is pages told) t)) ∙ there.1;
    }

pub cell_on : (store : CellStore) (shelf : ShelfView) (at page offset : ℕ) (block : List ℕ) (cell : Cell) (P : Cell → Type 0) → HoldsAt store shelf at P → page ≡ page_at at → offset ≡ offset_at at
    → StandsFor store shelf → IsPage store.set page block shelf → ((tiles : List Tile) (x : Cell) → IsTiling store.shapes block tiles → cell_among offset tiles ≡ Some x → Some cell ≡ Some x) → StandsAt store shelf at (Some cell)
cell_on store shelf at page offset block cell P holds e0 e1 stands is read = λ pages told.
    let on = on_page store shelf at page offset block P pages holds e0 e1 stands is told in
    on.stands ∙ sym (read (tiles_of store.shapes block) on.cell on.tiled on.among)

-- ---- a page that was put

-- the store knows the numbers of the page that was put
pub stays_put : (store now : CellStore) (old mid new : ShelfView) (n : ℕ) (block : List ℕ) (tiles : List Tile) → StandsFor store old → SameShelf old mid → now.set ≡ store.set → now.shapes ≡ store.shapes
    → now.spaces.pages.items ≡ slice_set store.spaces.pages.items n (space_of tiles) → IsTiling store.shapes block tiles → HasPut store.set n block mid new → ChangedIn store.set mid new → StaysOpen store now new
stays_put store now old mid new n block tiles stands same set shapes spaces t put changed =
    stays_now store now mid new (λ pages. slice_set pages n block) (stands_same store old mid stands same) set shapes
    (ap length spaces ∙ length-set store.spaces.pages.items n (space_of tiles) ∙ stands.many ∙ ap length (sym (same.places store.set)) ∙ ap length (sym (changed.places store.set)))
    put (λ pages knows. knows_put store.shapes store.spaces.pages.items now.spaces.pages.items pages n block tiles knows t spaces)

pub page_again : (set : SetId) (n : ℕ) (block : List ℕ) (old mid : ShelfView) → SameShelf old mid → IsPage set n block old → IsPage set n block mid
page_again set n block old mid same is = λ pages told. is pages (sym (same.pages set) ∙ told)

pub same_front : (set : SetId) (n : ℕ) (was block : List ℕ) (old mid : ShelfView) → SameShelf old mid → IsPage set n was old → SameFront was block
    → (pages : List (List ℕ)) (page : List ℕ) → mid.pages set ≡ Some pages → slice_get pages n ≡ Some page → SameFront page block
same_front set n was block old mid same is head = λ pages page told among.
    let both : Some was ≡ Some page = sym (is pages (sym (same.pages set) ∙ told)) ∙ among in
    let equal : was ≡ page = cc in
    head ∙ ap (take 16) equal

-- ---- a cell that was changed

pub rewritten : (store : CellStore) (old mid new : ShelfView) (at n offset : ℕ) (change : Cell → Cell) (P : Cell → Type 0) (tiles : List Tile) (was block : List ℕ) → HoldsAt store old at P → n ≡ page_at at → offset ≡ offset_at at
    → SameShelf old mid → IsPage store.set n was old → SameFront was block → HasPut store.set n block mid new → IsTiling store.shapes was tiles → Rewritten store.shapes tiles block offset change
    → Relays store old new (Rewrites store.set at change)
rewritten store old mid new at n offset change P tiles was block holds e0 e1 same page head put t (before, cell, after, split, u) =
    let first : IsTiling store.shapes was (before ++ Seg (offset_at at) cell ∷ after) = subst (λ (o : ℕ). IsTiling store.shapes was (before ++ Seg o cell ∷ after)) e1 (subst (IsTiling store.shapes was) split t) in
    let second : IsTiling store.shapes block (before ++ Seg (offset_at at) (change cell) ∷ after) = subst (λ (o : ℕ). IsTiling store.shapes block (before ++ Seg o (change cell) ∷ after)) e1 u in
    let run : List Tile = Seg (offset_at at) cell ∷ [] in
    let other : List Tile = Seg (offset_at at) (change cell) ∷ [] in
    relays_weaken store old new (λ layout now. Replaces layout now (page_at at) before run other after) (Rewrites store.set at change)
    (relays_read store old mid new (λ layout now. Replaces layout now (page_at at) before run other after) same
    (relays_put store mid new (page_at at) was block before run other after
    (subst (λ (k : ℕ). IsPage store.set k was mid) e0 (page_again store.set n was old mid same page)) (subst (λ (k : ℕ). HasPut store.set k block mid new) e0 put) head first second))
    (λ pages now told told_now r.
    let there = holds pages told in
    let letter = (stood_at store.set (layout_of store.shapes pages) at there.0 there.1).0 in
    record { before = before; cell = cell; after = after; replaced = r; alters = alters store.shapes store.set at change (layout_of store.shapes pages) (layout_of store.shapes now) before after cell letter first.tiled r })

-- what a change makes of a page, whatever tiles it has, if a cell stands there
abbrev pub RewritesAll : List Shape → List ℕ → List ℕ → ℕ → (Cell → Cell) → Type 0
RewritesAll shapes was block offset change = (tiles : List Tile) → IsTiling shapes was tiles → cell_among offset tiles ≢ None → Rewritten shapes tiles block offset change

not_none : (o : Option Cell) (cell : Cell) → o ≡ Some cell → o ≢ None
not_none o cell is none = let wrong : None ≡ Some cell = sym none ∙ is in cc

pub rewritten_told : (store : CellStore) (old mid new : ShelfView) (at n offset : ℕ) (change : Cell → Cell) (P : Cell → Type 0) (was block : List ℕ) → HoldsAt store old at P → n ≡ page_at at → offset ≡ offset_at at
    → StandsFor store old → SameShelf old mid → IsPage store.set n was old → SameFront was block → HasPut store.set n block mid new → RewritesAll store.shapes was block offset change → Relays store old new (Rewrites store.set at change)
rewritten_told store old mid new at n offset change P was block holds e0 e1 stands same page head put all = λ pages told.
    let on = on_page store old at n offset was P pages holds e0 e1 stands page told in
    rewritten store old mid new at n offset change P (tiles_of store.shapes was) was block holds e0 e1 same page head put on.tiled
    (all (tiles_of store.shapes was) on.tiled (not_none (cell_among offset (tiles_of store.shapes was)) on.cell on.among)) pages told

-- the store's numbers don't change with the cell
stands_rewritten : (store : CellStore) (old mid new : ShelfView) (n offset : ℕ) (change : Cell → Cell) (tiles : List Tile) (was block : List ℕ) → StandsFor store old → SameShelf old mid → IsPage store.set n was old
    → HasPut store.set n block mid new → ChangedIn store.set mid new → IsTiling store.shapes was tiles → Rewritten store.shapes tiles block offset change → StandsFor store new
stands_rewritten store old mid new n offset change tiles was block stands same page put changed t (before, cell, after, split, u) = record {
  many = stands.many ∙ ap length (sym (same.places store.set)) ∙ ap length (sym (changed.places store.set));
  told = λ pages told.
      let came = was_put (mid.pages store.set) n block pages (sym put ∙ told) in
      let before_it = sym (same.pages store.set) ∙ came.1 in
      let knows = stands.told came.0 before_it in
      let there = space_at store.spaces.pages.items (layout_of store.shapes came.0) n tiles knows.spaces_are (page_tiles store.shapes came.0 n was tiles (page came.0 before_it) t) in
      let numbers : space_of (before ++ Seg offset (change cell) ∷ after) ≡ space_of tiles = same_space before offset (change cell) cell after ∙ ap space_of (sym split) in
      let kept : store.spaces.pages.items ≡ slice_set store.spaces.pages.items n (space_of (before ++ Seg offset (change cell) ∷ after)) =
      sym (set_there store.spaces.pages.items n (space_of tiles) there) ∙ ap (slice_set store.spaces.pages.items n) (sym numbers) in
      subst (Knows store.shapes store.spaces.pages.items) came.2 (knows_put store.shapes store.spaces.pages.items store.spaces.pages.items came.0 n block (before ++ Seg offset (change cell) ∷ after) knows u kept);
}
  where
    set_there : {X : Type 0} (xs : List X) (k : ℕ) (x : X) → slice_get xs k ≡ Some x → slice_set xs k x ≡ xs
    set_there xs k x at = ap (slice_set xs k) (sym (get_or_from_slice_get xs k x x at)) ∙ set-get_or xs k x

    was_put : (o : Option (List (List ℕ))) (k : ℕ) (b : List ℕ) (y : List (List ℕ)) → option_map (λ pages. slice_set pages k b) o ≡ Some y → (x : List (List ℕ)) × (o ≡ Some x) × (slice_set x k b ≡ y)
    was_put o k b y is = map_some (λ pages. slice_set pages k b) o y is

pub stands_rewritten_told : (store : CellStore) (old mid new : ShelfView) (at n offset : ℕ) (change : Cell → Cell) (P : Cell → Type 0) (was block : List ℕ) → HoldsAt store old at P → n ≡ page_at at → offset ≡ offset_at at
    → StandsFor store old → SameShelf old mid → IsPage store.set n was old → HasPut store.set n block mid new → ChangedIn store.set mid new → RewritesAll store.shapes was block offset change → StandsFor store new
stands_rewritten_told store old mid new at n offset change P was block holds e0 e1 stands same page put changed all = record {
  many = stands.many ∙ ap length (sym (same.places store.set)) ∙ ap length (sym (changed.places store.set));
  told = λ pages told.
      let came = map_some (λ pages. slice_set pages n block) (mid.pages store.set) pages (sym put ∙ told) in
      let on = on_page store old at n offset was P came.0 holds e0 e1 stands page (sym (same.pages store.set) ∙ came.1) in
      (stands_rewritten store old mid new n offset change (tiles_of store.shapes was) was block stands same page put changed on.tiled
      (all (tiles_of store.shapes was) on.tiled (not_none (cell_among offset (tiles_of store.shapes was)) on.cell on.among))).told pages told;
}

pub on_either : {T E A B C : Type 0} (r : Result T E) → OnOk r A → OnErr r B → (A → C) → (B → C) → C
on_either (Ok x) a b f h = f a
on_either (Err e) a b f h = h b

-- ---- a cell that was given back

pub given_back : (store : CellStore) (old mid new : ShelfView) (at n offset : ℕ) (cell : Cell) (P : Cell → Type 0) (tiles next : List Tile) (was block : List ℕ) → HoldsAt store old at P → n ≡ page_at at → offset ≡ offset_at at
    → SameShelf old mid → IsPage store.set n was old → SameFront was block → HasPut store.set n block mid new → IsTiling store.shapes was tiles → IsCleared tiles offset cell next → IsTiling store.shapes block next
    → Relays store old new (GivesBack store.set at)
given_back store old mid new at n offset cell P tiles next was block holds e0 e1 same page head put t c u =
    let run : List Tile = c.left ++ Seg (offset_at at) cell ∷ c.right in
    let other : List Tile = Hole c.at c.len ∷ [] in
    let first : IsTiling store.shapes was (c.before ++ (run ++ c.after)) = subst (λ (o : ℕ). IsTiling store.shapes was (c.before ++ ((c.left ++ Seg o cell ∷ c.right) ++ c.after))) e1 (subst (IsTiling store.shapes was) c.was t) in
    let second : IsTiling store.shapes block (c.before ++ (other ++ c.after)) = subst (IsTiling store.shapes block) c.is u in
    relays_weaken store old new (λ layout now. Replaces layout now (page_at at) c.before run other c.after) (GivesBack store.set at)
    (relays_read store old mid new (λ layout now. Replaces layout now (page_at at) c.before run other c.after) same
    (relays_put store mid new (page_at at) was block c.before run other c.after
    (subst (λ (k : ℕ). IsPage store.set k was mid) e0 (page_again store.set n was old mid same page)) (subst (λ (k : ℕ). HasPut store.set k block mid new) e0 put) head first second))
    (λ pages now told told_now r.
    let there = holds pages told in
    let letter = (stood_at store.set (layout_of store.shapes pages) at there.0 there.1).0 in
    record {
      before = c.before;
      left = c.left;
      cell = cell;
      right = c.right;
      after = c.after;
      begin = c.at;
      len = c.len;
      replaced = r;
      left_holes = c.left_holes;
      right_holes = c.right_holes;
      drops = drops store.shapes store.set at c.at c.len (layout_of store.shapes pages) (layout_of store.shapes now) c.before c.left c.right c.after cell letter first.tiled c.left_holes c.right_holes r;
    })

-- ---- a cell that took a hole

pub filled_page : (store : CellStore) (old new : ShelfView) (cell : Cell) (at n off room len : ℕ) (before after tiles : List Tile) (was block : List ℕ) → at ≡ address store.set n off → len ≡ length_of cell → len ≤ room → n < 65536 → off < 4096
    → IsPage store.set n was old → SameFront was block → HasPut store.set n block old new → IsTiling store.shapes was (before ++ Hole off room ∷ after)
    → IsTiling store.shapes block (before ++ (Seg off cell ∷ left_over (off + len) (room - len) ++ after)) → Relays store old new (TakesHole store.set cell at n before room after)
filled_page store old new cell at n off room len before after tiles was block place size fits few inside page head put t u =
    let run : List Tile = Hole off room ∷ [] in
    let other : List Tile = Seg off cell ∷ left_over (off + len) (room - len) in
    relays_weaken store old new (λ layout now. Replaces layout now n before run other after) (TakesHole store.set cell at n before room after)
    (relays_put store old new n was block before run other after page put head t u)
    (λ pages now told told_now r.
    record {
      offset = off;
      address = place;
      fits = subst (λ (k : ℕ). k ≤ room) size fits;
      replaced = subst (λ (k : ℕ). Replaces (layout_of store.shapes pages) (layout_of store.shapes now) n before run (Seg off cell ∷ left_over (off + k) (room - k)) after) size r;
      adds = adds store.shapes store.set cell at n off len room before after (layout_of store.shapes pages) (layout_of store.shapes now) place t.tiled few inside r;
    })

-- ---- an empty page behind the others

one_hole : (len : ℕ) → spelled_hole len ≡ 0 ∷ 0 ∷ to_be_bytes w16 len ++ replicate (len - 4) 0
unfolding spelled_hole
one_hole len = refl

pub empty_tiled : (shapes : List Shape) (set : SetId) (n : ℕ) → IsTiling shapes (empty_page 1 set n) (Hole 16 4080 ∷ [])
empty_tiled shapes set n = record {
  tiled = ((refl, refl, record { least = omega arith; whole = refl; fits = omega arith }), tt);
  whole = sym (append-nil (spelled_hole 4080) ∙ one_hole 4080);
}

pub relays_push : (store : CellStore) (old new : ShelfView) (n : ℕ) → n ≡ length (old.places store.set) → IfSome (old.pages store.set) (λ pages. (length pages ≡ length (old.places store.set)) × All (λ page. length page ≡ 4096) pages)
    → new.pages store.set ≡ option_map (λ pages. pages ++ empty_page 1 store.set n ∷ []) (old.pages store.set) → Relays store old new (λ layout now. now ≡ grown 1 layout)
relays_push store old new n last are is = λ pages told. record {
  now = pages ++ empty_page 1 store.set n ∷ [];
  are = is ∙ ap (option_map (λ pages. pages ++ empty_page 1 store.set n ∷ [])) told;
  heads = heads_push store.set pages n (last ∙ sym (if_some (λ all. (length all ≡ length (old.places store.set)) × All (λ page. length page ≡ 4096) all) (old.pages store.set) pages are told).0);
  more = omega (arith, length_push pages (empty_page 1 store.set n));
  leads = layout_push store.shapes pages (empty_page 1 store.set n) (Hole 16 4080 ∷ []) (empty_tiled store.shapes store.set n);
}

pub stays_push : (store now : CellStore) (old new : ShelfView) (n : ℕ) (space : Space) → StandsFor store old → now.set ≡ store.set → now.shapes ≡ store.shapes → now.spaces.pages.items ≡ store.spaces.pages.items ++ space ∷ []
    → space ≡ space_of (Hole 16 4080 ∷ []) → GrownBy 1 store.set old new → new.pages store.set ≡ option_map (λ pages. pages ++ empty_page 1 store.set n ∷ []) (old.pages store.set) → StaysOpen store now new
stays_push store now old new n space stands set shapes spaces numbers grown is =
    let one : length (take 1 old.free) ≡ 1 = length-take-le 1 old.free grown.enough in
    stays_now store now old new (λ pages. pages ++ empty_page 1 store.set n ∷ []) stands set shapes
    (omega (arith, ap length spaces, length_push store.spaces.pages.items space, stands.many, ap length grown.placed, length-append (old.places store.set) (take 1 old.free), one))
    is (λ pages knows. knows_push store.shapes store.spaces.pages.items now.spaces.pages.items pages (empty_page 1 store.set n) (Hole 16 4080 ∷ []) knows (empty_tiled store.shapes store.set n) (spaces ∙ ap (λ (s : Space). store.spaces.pages.items ++ s ∷ []) numbers))
