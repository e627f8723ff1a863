-- What is known of the pages of a store's set, over calls that read, put or add one.
use Rattle.std.proofs.Common.{◌≡◌, ◌≢◌, ℕ, zero, suc, ◌≤◌, ◌⊎◌, inl, inr, true, Result, Ok, Err, List, [], ◌∷◌, ◌++◌, length, get_or, map, take, drop, Option, Some, None, refl, sym, ap, subst, ◌∙◌, arith}
use Rattle.std.specs.Prelude.{slice_get, slice_set, IfSome}
use Rattle.std.specs.Option.{option_map}
use Rattle.std.specs.Result.{OnOk, OnErr, IsErrOf, MatchResult}
use Rattle.std.proofs.lemmas.Bool.{cases_eq, cases_lt}
use Rattle.std.proofs.lemmas.List.{length-set, map-set, map-append, length-append, take-take, drop-take, length-take-le}
use Rattle.std.proofs.lemmas.Option.{slice_get_within, slice_get-get_or, slice_get-map}
use Rattle.hal_base.specs.declared.place.Shape.{Shape}
use Rattle.hal_base.specs.declared.pages.SetId.{SetId}
use Rattle.hal_base.specs.Pages.{SameHead, empty_page}
use Rattle.hal_base.specs.StoreCalls.{AreBlocks}
use Rattle.hal_base.specs.ShelfCalls.{ShelfView, SameShelf, GrownBy, OnlyReads, SameHeads, KeepsHeads}
use Rattle.hal_base.specs.declared.outcome.PageFault.{PageFault}
use Rattle.hal_base.specs.declared.outcome.PageFault.TheVariants.{Failed}
use Rattle.hal_base.proofs.ShelfLemmas.{same_none, reads_as, reads_changes}
use Rattle.segment_blocks.specs.declared.tile.Tile.{Tile}
use Rattle.segment_blocks.specs.Tiling.{IsTiling}
use Rattle.segment_blocks.specs.TilesOf.{tiles_of}
use Rattle.segment_blocks.proofs.TilesOf.{tiling_is}
use Rattle.segment_blocks.specs.declared.space.Space.{Space}
use Rattle.free_space.specs.declared.store.CellStore.{CellStore}
use Rattle.segment_blocks.specs.Space.{space_of}
use Rattle.free_space.specs.Changes.{Replaces}
use Rattle.free_space.specs.Map.{layout_of}
use Rattle.free_space.specs.Placing.{grown}
use Rattle.free_space.specs.Store.{Knows, StandsFor, StaysOpen, SameFront, Becomes, Relays, Writes, added, IsPage, HasPut}

pub some_is : {X : Type 0} (x y : X) → Some x ≡ Some y → x ≡ y
some_is {X} x y is = cc

pub set_same : {X : Type 0} (xs : List X) (n : ℕ) (v y : X) → slice_get (slice_set xs n v) n ≡ Some y → v ≡ y
set_same [] n v y is = absurd (let wrong : None ≡ Some y = is in cc)
set_same (x ∷ xs) zero v y is = some_is v y is
set_same (x ∷ xs) (suc n) v y is = set_same xs n v y is

pub set_other : {X : Type 0} (xs : List X) (n k : ℕ) (v : X) → k ≢ n → slice_get (slice_set xs n v) k ≡ slice_get xs k
set_other [] n k v apart = refl
set_other (x ∷ xs) zero zero v apart = absurd (apart refl)
set_other (x ∷ xs) zero (suc k) v apart = refl
set_other (x ∷ xs) (suc n) zero v apart = refl
set_other (x ∷ xs) (suc n) (suc k) v apart = set_other xs n k v (λ same. apart (ap suc same))

pub push_cases : {X : Type 0} (xs : List X) (x y : X) (k : ℕ) → slice_get (xs ++ x ∷ []) k ≡ Some y → (slice_get xs k ≡ Some y) ⊎ ((k ≡ length xs) × (x ≡ y))
push_cases [] x y zero is = inr (refl, some_is x y is)
push_cases [] x y (suc k) is = absurd (let wrong : None ≡ Some y = is in cc)
push_cases (z ∷ xs) x y zero is = inl is
push_cases (z ∷ xs) x y (suc k) is =
    elim (push_cases xs x y k is) [
      | inl before ↦ inl before
      | inr last ↦ inr (ap suc last.0, last.1)
    ]

-- what a function of what may be told came from
pub map_some : {X Y : Type 0} (f : X → Y) (o : Option X) (y : Y) → option_map f o ≡ Some y → (x : X) × (o ≡ Some x) × (f x ≡ y)
map_some {X} {Y} f None y is = absurd (let wrong : None ≡ Some y = is in cc)
map_some {X} {Y} f (Some x) y is = (x, refl, some_is (f x) y is)

pub if_some : {X : Type 0} (P : X → Type 0) (o : Option X) (x : X) → IfSome o P → o ≡ Some x → P x
if_some {X} P o x holds is = subst (λ (p : Option X). IfSome p P) is holds

pub ok_err : {T E : Type 0} {x : T} {e : E} (r : Result T E) → r ≡ Ok x → r ≡ Err e → ⊥
ok_err {T} {E} {x} {e} r done failed = let wrong : Ok x ≡ Err e = sym done ∙ failed in cc

-- an error that a call hands on is that of its callee
pub handed_on : {T U E : Type 0} (r : Result T E) (s : Result U E) (x y d : E) → s ≡ Err x → x ≡ y → r ≡ Err y → s ≡ Err d → r ≡ Err d
handed_on {T} {U} {E} r s x y d first same was is = cc

pub handed_to : {T U E : Type 0} (r : Result T E) (s : Result U E) (x y d : E) → s ≡ Err x → x ≡ y → r ≡ Err y → r ≡ Err d → s ≡ Err d
handed_to {T} {U} {E} r s x y d first same was is = cc

-- ---- the tiles of pages

pub page_tiles : (shapes : List Shape) (pages : List (List ℕ)) (n : ℕ) (block : List ℕ) (tiles : List Tile) → slice_get pages n ≡ Some block → IsTiling shapes block tiles → slice_get (layout_of shapes pages) n ≡ Some tiles
page_tiles shapes pages n block tiles among t =
    slice_get-map (tiles_of shapes) pages n ∙ ap (option_map (tiles_of shapes)) among ∙ ap (λ (l : List Tile). Some l) (sym (tiling_is shapes block tiles t))

pub layout_put : (shapes : List Shape) (pages : List (List ℕ)) (n : ℕ) (block : List ℕ) (tiles : List Tile) → IsTiling shapes block tiles → layout_of shapes (slice_set pages n block) ≡ slice_set (layout_of shapes pages) n tiles
layout_put shapes pages n block tiles t = map-set (tiles_of shapes) pages n block ∙ ap (slice_set (layout_of shapes pages) n) (sym (tiling_is shapes block tiles t))

pub layout_push : (shapes : List Shape) (pages : List (List ℕ)) (block : List ℕ) (tiles : List Tile) → IsTiling shapes block tiles → layout_of shapes (pages ++ block ∷ []) ≡ layout_of shapes pages ++ tiles ∷ []
layout_push shapes pages block tiles t = map-append (tiles_of shapes) pages (block ∷ []) ∙ ap (λ (l : List Tile). layout_of shapes pages ++ l ∷ []) (sym (tiling_is shapes block tiles t))

tiled_is : (shapes : List Shape) (block other : List ℕ) (tiles : List Tile) → IsTiling shapes block tiles → block ≡ other → IsTiling shapes other (tiles_of shapes other)
tiled_is shapes block other tiles t same = subst (λ (b : List ℕ). IsTiling shapes b (tiles_of shapes b)) same (subst (IsTiling shapes block) (tiling_is shapes block tiles t) t)

pub knows_put : (shapes : List Shape) (spaces now : List Space) (pages : List (List ℕ)) (n : ℕ) (block : List ℕ) (tiles : List Tile) → Knows shapes spaces pages → IsTiling shapes block tiles → now ≡ slice_set spaces n (space_of tiles)
    → Knows shapes now (slice_set pages n block)
knows_put shapes spaces now pages n block tiles knows t is = record {
  tiled = λ k page among. elim (cases_eq k n) [
    | inl same ↦ tiled_is shapes block page tiles t (set_same pages n block page (ap (slice_get (slice_set pages n block)) (sym same) ∙ among))
    | inr apart ↦ knows.tiled k page (sym (set_other pages n k block apart) ∙ among)
  ];
  spaces_are = is ∙ ap (λ (l : List Space). slice_set l n (space_of tiles)) knows.spaces_are ∙ sym (map-set space_of (layout_of shapes pages) n tiles)
      ∙ ap (map space_of) (sym (layout_put shapes pages n block tiles t));
}

pub knows_push : (shapes : List Shape) (spaces now : List Space) (pages : List (List ℕ)) (block : List ℕ) (tiles : List Tile) → Knows shapes spaces pages → IsTiling shapes block tiles → now ≡ spaces ++ space_of tiles ∷ []
    → Knows shapes now (pages ++ block ∷ [])
knows_push shapes spaces now pages block tiles knows t is = record {
  tiled = λ k page among. elim (push_cases pages block page k among) [
    | inl before ↦ knows.tiled k page before
    | inr last ↦ tiled_is shapes block page tiles t last.1
  ];
  spaces_are = is ∙ ap (λ (l : List Space). l ++ space_of tiles ∷ []) knows.spaces_are ∙ sym (map-append space_of (layout_of shapes pages) (tiles ∷ []))
      ∙ ap (map space_of) (sym (layout_push shapes pages block tiles t));
}

-- a page of the layout is the tiling of a page
pub page_of_layout : (shapes : List Shape) (spaces : List Space) (pages : List (List ℕ)) (n : ℕ) (tiles : List Tile) → Knows shapes spaces pages → slice_get (layout_of shapes pages) n ≡ Some tiles
    → (block : List ℕ) × (slice_get pages n ≡ Some block) × IsTiling shapes block tiles
page_of_layout shapes spaces pages n tiles knows at =
    let was = map_some (tiles_of shapes) (slice_get pages n) tiles (sym (slice_get-map (tiles_of shapes) pages n) ∙ at) in
    (was.0, was.1, subst (IsTiling shapes was.0) was.2 (knows.tiled n was.0 was.1))

pub space_at : (spaces : List Space) (layout : List (List Tile)) (k : ℕ) (tiles : List Tile) → spaces ≡ map space_of layout → slice_get layout k ≡ Some tiles → slice_get spaces k ≡ Some (space_of tiles)
space_at spaces layout k tiles are at = ap (λ (l : List Space). slice_get l k) are ∙ slice_get-map space_of layout k ∙ ap (option_map space_of) at

-- ---- the store

pub stands_same : (store : CellStore) (old new : ShelfView) → StandsFor store old → SameShelf old new → StandsFor store new
stands_same store old new stands same = record {
  many = stands.many ∙ ap length (sym (same.places store.set));
  told = λ pages is. stands.told pages (sym (same.pages store.set) ∙ is);
}

pub stays_same : (store : CellStore) (old new : ShelfView) → StandsFor store old → SameShelf old new → StaysOpen store store new
stays_same store old new stands same = record { set = refl; shapes = refl; stands = stands_same store old new stands same }

pub stays_kept : (store now : CellStore) (old new : ShelfView) → StandsFor store old → SameShelf old new → now.set ≡ store.set → now.shapes ≡ store.shapes → now.spaces.pages.items ≡ store.spaces.pages.items → StaysOpen store now new
stays_kept store now old new stands same set shapes spaces = record {
  set = set;
  shapes = shapes;
  stands = record {
    many = ap length spaces ∙ stands.many ∙ ap length (sym (same.places store.set)) ∙ ap (λ (s : SetId). length (new.places s)) (sym set);
    told = λ pages told.
        let knows : Knows store.shapes store.spaces.pages.items pages = stands.told pages (sym (same.pages store.set) ∙ ap new.pages (sym set) ∙ told) in
        subst (λ (l : List Space). Knows now.shapes l pages) (sym spaces) (subst (λ (s : List Shape). Knows s store.spaces.pages.items pages) (sym shapes) knows);
  };
}

pub stays_then : (a b c : CellStore) (mid new : ShelfView) → StaysOpen a b mid → StaysOpen b c new → StaysOpen a c new
stays_then a b c mid new first second = record { set = second.set ∙ first.set; shapes = second.shapes ∙ first.shapes; stands = second.stands }

-- the pages have become a function of what they were, and the store knows them
pub stays_now : (store now : CellStore) (old new : ShelfView) (f : List (List ℕ) → List (List ℕ)) → StandsFor store old → now.set ≡ store.set → now.shapes ≡ store.shapes
    → length now.spaces.pages.items ≡ length (new.places store.set) → new.pages store.set ≡ option_map f (old.pages store.set)
    → ((pages : List (List ℕ)) → Knows store.shapes store.spaces.pages.items pages → Knows store.shapes now.spaces.pages.items (f pages)) → StaysOpen store now new
stays_now store now old new f stands set shapes many is known = record {
  set = set;
  shapes = shapes;
  stands = record {
    many = many ∙ ap (λ (s : SetId). length (new.places s)) (sym set);
    told = λ pages told.
        let was = map_some f (old.pages store.set) pages (sym is ∙ ap new.pages (sym set) ∙ told) in
        subst (Knows now.shapes now.spaces.pages.items) was.2 (subst (λ (s : List Shape). Knows s now.spaces.pages.items (f was.0)) (sym shapes) (known was.0 (stands.told was.0 was.1)));
  };
}

-- ---- heads

same_head : (old new : List ℕ) → SameFront old new → SameHead old new
same_head old new is = record {
  set = sym (take-take 8 16 new (omega arith)) ∙ ap (take 8) is ∙ take-take 8 16 old (omega arith);
  rest = sym (drop-take 10 6 new) ∙ ap (drop 10) is ∙ drop-take 10 6 old;
}

some_page : (page : Option (List ℕ)) (block : List ℕ) → ((old : List ℕ) → page ≡ Some old → SameFront old block) → IfSome page (λ old. SameHead old block)
some_page None block head = tt
some_page (Some old) block head = same_head old block (head old refl)

pub some_head : (told : Option (List (List ℕ))) (n : ℕ) (block : List ℕ) → ((pages : List (List ℕ)) (old : List ℕ) → told ≡ Some pages → slice_get pages n ≡ Some old → SameFront old block)
    → IfSome told (λ pages. IfSome (slice_get pages n) (λ old. SameHead old block))
some_head None n block head = tt
some_head (Some pages) n block head = some_page (slice_get pages n) block (λ old is. head pages old refl is)

pub heads_none : (set : SetId) (pages : List (List ℕ)) → SameHeads SameFront 1 set pages pages
heads_none set pages = record {
  kept = λ n page now was is. ap (take 16) (sym (some_is page now (sym was ∙ is)));
  begun = λ n now past is. absurd (omega (arith, past, slice_get_within pages n now is));
}

pub heads_put : (set : SetId) (pages : List (List ℕ)) (n : ℕ) (old block : List ℕ) → slice_get pages n ≡ Some old → SameFront old block → SameHeads SameFront 1 set pages (slice_set pages n block)
heads_put set pages n old block among head = record {
  kept = λ k page now was is. elim (cases_eq k n) [
    | inl same ↦ ap (take 16) (sym (set_same pages n block now (ap (slice_get (slice_set pages n block)) (sym same) ∙ is))) ∙ head
        ∙ ap (take 16) (some_is old page (sym among ∙ ap (slice_get pages) (sym same) ∙ was))
    | inr apart ↦ ap (take 16) (sym (some_is page now (sym was ∙ sym (set_other pages n k block apart) ∙ is)))
  ];
  begun = λ k now past is. absurd (omega (arith, past, slice_get_within (slice_set pages n block) k now is, length-set pages n block));
}

pub heads_push : (set : SetId) (pages : List (List ℕ)) (n : ℕ) → n ≡ length pages → SameHeads SameFront 1 set pages (pages ++ empty_page 1 set n ∷ [])
heads_push set pages n last = record {
  kept = λ k page now was is. elim (push_cases pages (empty_page 1 set n) now k is) [
    | inl before ↦ ap (take 16) (some_is now page (sym before ∙ was))
    | inr behind ↦ absurd (omega (arith, behind.0, slice_get_within pages k page was))
  ];
  begun = λ k now past is. elim (push_cases pages (empty_page 1 set n) now k is) [
    | inl before ↦ absurd (omega (arith, past, slice_get_within pages k now before))
    | inr behind ↦ ap (take 16) (sym behind.1) ∙ ap (λ (m : ℕ). take 16 (empty_page 1 set m)) (last ∙ sym behind.0)
  ];
}

pub heads_then : (set : SetId) (a b c : List (List ℕ)) → length a ≤ length b → SameHeads SameFront 1 set a b → SameHeads SameFront 1 set b c → SameHeads SameFront 1 set a c
heads_then set a b c more first second = record {
  kept = λ n page now was is.
      let there : slice_get b n ≡ Some (get_or b n []) = slice_get-get_or b n [] (omega (arith, more, slice_get_within a n page was)) in
      second.kept n (get_or b n []) now there is ∙ first.kept n page (get_or b n []) was there;
  begun = λ n now past is. elim (cases_lt n (length b)) [
    | inl below ↦ let there : slice_get b n ≡ Some (get_or b n []) = slice_get-get_or b n [] below in
        second.kept n (get_or b n []) now there is ∙ first.begun n (get_or b n []) past there
    | inr behind ↦ second.begun n now behind is
  ];
}

-- ---- how the tiles change

pub relays_same : (store : CellStore) (old new : ShelfView) → SameShelf old new → Relays store old new (λ layout now. now ≡ layout)
relays_same store old new same pages told = record { now = pages; are = same.pages store.set ∙ told; heads = heads_none store.set pages; more = omega arith; leads = refl }

pub relays_weaken : (store : CellStore) (old new : ShelfView) (P Q : List (List Tile) → List (List Tile) → Type 0) → Relays store old new P
    → ((pages now : List (List ℕ)) → old.pages store.set ≡ Some pages → new.pages store.set ≡ Some now → P (layout_of store.shapes pages) (layout_of store.shapes now) → Q (layout_of store.shapes pages) (layout_of store.shapes now))
    → Relays store old new Q
relays_weaken store old new P Q relays f pages told =
    let b = relays pages told in
    record { now = b.now; are = b.are; heads = b.heads; more = b.more; leads = f pages b.now told b.are b.leads }

pub relays_then : (store mid_store : CellStore) (old mid new : ShelfView) (P Q R : List (List Tile) → List (List Tile) → Type 0) → mid_store.set ≡ store.set → mid_store.shapes ≡ store.shapes
    → Relays store old mid P → Relays mid_store mid new Q → ((a b c : List (List Tile)) → P a b → Q b c → R a c) → Relays store old new R
relays_then store mid_store old mid new P Q R set shapes first second f pages told =
    let b = first pages told in
    let c : Becomes store.set store.shapes b.now (new.pages store.set) Q =
    subst (λ (s : SetId). Becomes s store.shapes b.now (new.pages s) Q) set
    (subst (λ (s : List Shape). Becomes mid_store.set s b.now (new.pages mid_store.set) Q) shapes (second b.now (ap mid.pages set ∙ b.are))) in
    record {
      now = c.now;
      are = c.are;
      heads = heads_then store.set pages b.now c.now b.more b.heads c.heads;
      more = omega (arith, b.more, c.more);
      leads = f (layout_of store.shapes pages) (layout_of store.shapes b.now) (layout_of store.shapes c.now) b.leads c.leads;
    }

-- another store of the same set
pub relays_as : (store other : CellStore) (old new : ShelfView) (P : SetId → List (List Tile) → List (List Tile) → Type 0) → store.set ≡ other.set → store.shapes ≡ other.shapes
    → Relays store old new (P store.set) → Relays other old new (P other.set)
relays_as store other old new P set shapes relays pages told =
    subst (λ (s : SetId). Becomes s other.shapes pages (new.pages s) (P s)) set
    (subst (λ (s : List Shape). Becomes store.set s pages (new.pages store.set) (P store.set)) shapes (relays pages (ap old.pages set ∙ told)))

pub relays_read : (store : CellStore) (old mid new : ShelfView) (P : List (List Tile) → List (List Tile) → Type 0) → SameShelf old mid → Relays store mid new P → Relays store old new P
relays_read store old mid new P same relays pages told = relays pages (same.pages store.set ∙ told)

pub relays_kept : (store : CellStore) (old mid new : ShelfView) (P : List (List Tile) → List (List Tile) → Type 0) → Relays store old mid P → SameShelf mid new → Relays store old new P
relays_kept store old mid new P relays same pages told =
    let b = relays pages told in
    record { now = b.now; are = same.pages store.set ∙ b.are; heads = b.heads; more = b.more; leads = b.leads }

-- a page was put that has other tiles
pub relays_put : (store : CellStore) (old new : ShelfView) (n : ℕ) (was block : List ℕ) (before run other after : List Tile) → IsPage store.set n was old → HasPut store.set n block old new → SameFront was block
    → IsTiling store.shapes was (before ++ (run ++ after)) → IsTiling store.shapes block (before ++ (other ++ after)) → Relays store old new (λ layout now. Replaces layout now n before run other after)
relays_put store old new n was block before run other after page put head t u pages told =
    let among : slice_get pages n ≡ Some was = page pages told in
    record {
      now = slice_set pages n block;
      are = put ∙ ap (option_map (λ pages. slice_set pages n block)) told;
      heads = heads_put store.set pages n was block among head;
      more = omega (arith, length-set pages n block);
      leads = record { was = page_tiles store.shapes pages n was (before ++ (run ++ after)) among t; is = layout_put store.shapes pages n block (before ++ (other ++ after)) u };
    }

-- ---- counts

pub added_is : (count : ℕ) (set : SetId) (old new : ShelfView) → GrownBy count set old new → count ≡ added set old new
added_is count set old new grown =
    omega (arith, ap length grown.placed, length-append (old.places set) (take count old.free), length-take-le count old.free grown.enough)

-- ---- heads, as hal_base says them

some_heads : (set : SetId) (shapes : List Shape) (old new : Option (List (List ℕ))) (Leads : List (List Tile) → List (List Tile) → Type 0) → ((pages : List (List ℕ)) → old ≡ Some pages → Becomes set shapes pages new Leads)
    → IfSome old (λ before. IfSome new (SameHeads SameFront 1 set before))
some_heads set shapes None new Leads become = tt
some_heads set shapes (Some pages) new Leads become = let b = become pages refl in subst (λ (o : Option (List (List ℕ))). IfSome o (SameHeads SameFront 1 set pages)) (sym b.are) b.heads

-- a change of the tiles keeps the head of each page
pub relays_heads : (store : CellStore) (old new : ShelfView) (Leads : List (List Tile) → List (List Tile) → Type 0) → Relays store old new Leads → KeepsHeads SameFront 1 store.set old new
relays_heads store old new Leads relays = some_heads store.set store.shapes (old.pages store.set) (new.pages store.set) Leads relays

pub heads_same : (set : SetId) (old new : ShelfView) → SameShelf old new → KeepsHeads SameFront 1 set old new
heads_same set old new same = subst (λ (o : Option (List (List ℕ))). IfSome (old.pages set) (λ before. IfSome o (SameHeads SameFront 1 set before))) (sym (same.pages set)) (each (old.pages set))
  where
    each : (o : Option (List (List ℕ))) → IfSome o (λ before. IfSome o (SameHeads SameFront 1 set before))
    each None = tt
    each (Some pages) = heads_none set pages

-- heads are kept over two calls, each of which keeps them
keeps_on : (set : SetId) (m n : ℕ) (a b c : Option (List (List ℕ))) → AreBlocks m a → AreBlocks n b → m ≤ n → (b ≡ None → c ≡ None) → IfSome a (λ before. IfSome b (SameHeads SameFront 1 set before))
    → IfSome b (λ before. IfSome c (SameHeads SameFront 1 set before)) → IfSome a (λ before. IfSome c (SameHeads SameFront 1 set before))
keeps_on set m n None b c was is more untold first second = tt
keeps_on set m n (Some x) None c was is more untold first second = subst (λ (o : Option (List (List ℕ))). IfSome o (SameHeads SameFront 1 set x)) (sym (untold refl)) tt
keeps_on set m n (Some x) (Some y) None was is more untold first second = tt
keeps_on set m n (Some x) (Some y) (Some z) was is more untold first second = heads_then set x y z (omega (arith, was.0, is.0, more)) first second

pub keeps_heads_then : (set : SetId) (a b c : ShelfView) → AreBlocks (length (a.places set)) (a.pages set) → AreBlocks (length (b.places set)) (b.pages set) → length (a.places set) ≤ length (b.places set) → (b.pages set ≡ None → c.pages set ≡ None)
    → KeepsHeads SameFront 1 set a b → KeepsHeads SameFront 1 set b c → KeepsHeads SameFront 1 set a c
keeps_heads_then set a b c was is more untold first second = keeps_on set (length (a.places set)) (length (b.places set)) (a.pages set) (b.pages set) (c.pages set) was is more untold first second

-- whichever the answer was
pub heads_either : {T E : Type 0} (store : CellStore) (old new : ShelfView) (Leads : List (List Tile) → List (List Tile) → Type 0) (r : Result T E) → OnOk r (Relays store old new Leads) → OnErr r (SameShelf old new)
    → KeepsHeads SameFront 1 store.set old new
heads_either store old new Leads (Ok x) changed same = relays_heads store old new Leads changed
heads_either store old new Leads (Err e) changed same = heads_same store.set old new same

pub heads_match : {T E : Type 0} (store : CellStore) (old new : ShelfView) (P : T → List (List Tile) → List (List Tile) → Type 0) (Q : List (List Tile) → List (List Tile) → Type 0) (r : Result T E)
    → MatchResult r (λ x. Relays store old new (P x)) (λ e. Relays store old new Q) → KeepsHeads SameFront 1 store.set old new
heads_match store old new P Q (Ok x) relays = relays_heads store old new (P x) relays
heads_match store old new P Q (Err e) relays = relays_heads store old new Q relays

-- ---- calls that ended before they wrote

pub writes_read : {m : ℕ} {steady failed : Type 0} {old new : ShelfView} (most : ℕ) (set : SetId) → OnlyReads m steady failed old new → m ≤ most → Writes most set steady failed old new
writes_read {m} {steady} {failed} {old} {new} most set reads le = record { changes = reads_changes set reads; heads = heads_same set old new reads.same; few = omega (arith, reads.few, le) }

-- with the error of another that only read
pub writes_err : {T U : Type 0} {m : ℕ} {steady : Type 0} {old new : ShelfView} (most : ℕ) (set : SetId) (r : Result T PageFault) (s : Result U PageFault) (x y : PageFault) → s ≡ Err x → x ≡ y → r ≡ Err y
    → OnlyReads m steady (IsErrOf r Failed) old new → m ≤ most → Writes most set steady (IsErrOf s Failed) old new
writes_err most set r s x y first same was reads le = writes_read most set (reads_as reads (handed_to r s x y Failed first same was) (handed_on r s x y Failed first same was)) le

-- ---- calls that read pages one after the other

-- before the first of them
pub reads_none : {steady : Type 0} (shelf : ShelfView) → steady → shelf.live ≡ true → OnlyReads 0 steady ⊥ shelf shelf
reads_none shelf is_steady live = record {
  keeps = record {
    is_steady = is_steady;
    takes = λ set kind. refl;
    faults = record { later = omega arith; cause = λ failed. absurd failed; alive = λ fine. live; dead = λ failed. absurd failed };
    fetches = omega arith;
  };
  same = same_none shelf;
  few = omega arith;
}

pub writes_none : {steady failed : Type 0} (most : ℕ) (set : SetId) (shelf : ShelfView) → steady → shelf.live ≡ true → (failed → ⊥) → Writes most set steady failed shelf shelf
writes_none most set shelf is_steady live never = writes_read most set (reads_as (reads_none shelf is_steady live) (λ no. absurd no) never) (omega arith)
