-- A change in the data set of one letter, seen as a change of the side.
use Rattle.std.proofs.Common.{◌≡◌, ◌≢◌, ℕ, zero, suc, add-one, ◌&&◌, nat_le, [], ◌∷◌, ◌+◌, ◌-◌, ◌<◌, ◌≤◌, inl, inr, Bool, true, false, cond, nat_lt, Result, Ok, Err, List, length, All, get_or, Option, Some, None, refl, sym, ap, subst, ◌∙◌, arith}
use Rattle.std.specs.Prelude.{slice_get, slice_set, IsSome}
use Rattle.std.specs.Option.{option_map, is_some}
use Rattle.std.specs.Result.{OnOk, IfOk, MatchResult}
use Rattle.std.proofs.lemmas.Bool.{cases_eq, cases_lt, lt-ltb, le-ltb, leb-true, and_parts}
use Rattle.std.proofs.lemmas.List.{length-set, length-map, length-drop, set-get_or}
use Rattle.std.proofs.lemmas.Option.{slice_get_within, slice_get_read, get_or_from_slice_get}
use Rattle.hal_base.specs.declared.place.Shape.{Shape}
use Rattle.hal_base.specs.declared.pages.SetId.{SetId}
use Rattle.hal_base.specs.Pages.{SameOthers}
use Rattle.hal_base.specs.ShelfCalls.{ShelfView, SameShelf, ChangedIn, GrownBy}
use Rattle.segment_blocks.specs.declared.tile.Cell.{Cell}
use Rattle.segment_blocks.specs.declared.tile.Tile.{Tile}
use Rattle.segment_blocks.specs.TilesOf.{tiles_of}
use Rattle.free_space.specs.declared.side.SideCells.{SideCells}
use Rattle.free_space.specs.declared.store.CellStore.{CellStore}
use Rattle.free_space.specs.Address.{letter_index, page_at}
use Rattle.free_space.specs.Map.{layout_of, cell_at, Adds, Alters, Drops}
use Rattle.free_space.specs.Changes.{GivesBack}
use Rattle.free_space.specs.Placing.{grown, Places, Appends}
use Rattle.free_space.specs.Store.{Knows, StandsFor, StaysOpen, Becomes, Relays, Writes, Grows, added, PlacesAt, AppendsAt, GetsEmpty, IsSaid, HoldsAt, StandsAt}
use Rattle.free_space.specs.Side.{IsFirst, lettered, are_letters, place_at, place_of, cell_in, side_cell}
use Rattle.free_space.specs.SideCalls.{IsLetter, StandsForSide, StaysOpenOn, IsTold, Turns, SameCells, Finds, Holds, Lays, PlacesCell, AppendsCell, KeepsCells, IsSaidOf, set_of, cells_of, pages_upto}
use Rattle.free_space.specs.SideLaws.{IsApart, StaysBeside}
use Rattle.free_space.proofs.Told.{set_same, set_other, stands_same, page_of_layout}
use Rattle.free_space.proofs.Listings.{ArePages}
use Rattle.free_space.proofs.MapSteps.{stood_at, grown_at, not_zero}

-- ---- the data sets of letters

pub place_here : (first : SetId) (place : ℕ) → IsFirst first → place < 10 → letter_index (lettered first place).letter ≡ place
place_here first place is below = omega (arith, is.low, is.high, is.place, below)

pub apart_by : (first : SetId) (place other : ℕ) → other ≢ place → lettered first other ≡ lettered first place → ⊥
apart_by first place other differ same = differ (omega (arith, ap (λ (s : SetId). s.letter) same))

-- a call left every other data set
pub record LeavesOthers (set : SetId) (old new : ShelfView) : Type 0 where
  pub pages : SameOthers set old.pages new.pages
  pub places : SameOthers set old.places new.places

pub changed_others : {set : SetId} {old new : ShelfView} → ChangedIn set old new → LeavesOthers set old new
changed_others changed = record { pages = changed.others; places = λ other apart. changed.places other }

pub grown_others : {count : ℕ} {set : SetId} {old new : ShelfView} → GrownBy count set old new → LeavesOthers set old new
grown_others grown = record { pages = grown.others; places = grown.other_places }

-- ---- the side stays open

stands_beside : (store : CellStore) (set : SetId) (old new : ShelfView) → StandsFor store old → (store.set ≡ set → ⊥) → LeavesOthers set old new → StandsFor store new
stands_beside store set old new stands apart leaves = record {
  many = stands.many ∙ ap length (sym (leaves.places store.set apart));
  told = λ pages is. stands.told pages (sym (leaves.pages store.set apart) ∙ is);
}

pub side_same : (side : SideCells) (old new : ShelfView) → StandsForSide side old → SameShelf old new → StandsForSide side new
side_same side old new opened same = record {
  first = opened.first;
  letters = opened.letters;
  as_many = opened.as_many;
  ten = opened.ten;
  each = λ place store is. let l = opened.each place store is in record { set = l.set; shapes = l.shapes; stands = stands_same store old new l.stands same };
}

-- calls on data sets that aren't the side's
pub side_beside : (side : SideCells) (set : SetId) (old new : ShelfView) → StandsForSide side old → ((place : ℕ) → place < 10 → lettered side.first place ≡ set → ⊥) → LeavesOthers set old new → StandsForSide side new
side_beside side set old new opened apart leaves = record {
  first = opened.first;
  letters = opened.letters;
  as_many = opened.as_many;
  ten = opened.ten;
  each = λ place store is.
      let l = opened.each place store is in
      let below : place < 10 = omega (arith, slice_get_within side.stores.items place store is, opened.ten) in
      record { set = l.set; shapes = l.shapes; stands = stands_beside store set old new l.stands (λ same. apart place below (sym l.set ∙ same)) leaves };
}

-- the store at a place gave way to another
pub side_stays : (side now : SideCells) (place : ℕ) (store next : CellStore) (old new : ShelfView) → StandsForSide side old → slice_get side.stores.items place ≡ Some store → now.first ≡ side.first
    → now.letters ≡ side.letters → now.shapes ≡ side.shapes → now.stores.items ≡ slice_set side.stores.items place next → StaysOpen store next new → LeavesOthers store.set old new → StaysOpenOn side now new
side_stays side now place store next old new opened there first letters shapes stores stays leaves = record {
  first = first;
  letters = letters;
  shapes = shapes;
  stands = record {
    first = subst IsFirst (sym first) opened.first;
    letters = ap (λ (l : List ℕ). are_letters l) letters ∙ opened.letters;
    as_many = ap length letters ∙ opened.as_many ∙ ap length (sym shapes);
    ten = ap length stores ∙ length-set side.stores.items place next ∙ opened.ten;
    each = λ other one is.
        let here = opened.each place store there in
        elim (cases_eq other place) [
          | inl same ↦ let equal : next ≡ one = set_same side.stores.items place next one (ap (slice_get (slice_set side.stores.items place next)) (sym same) ∙ ap (λ (l : List CellStore). slice_get l other) (sym stores) ∙ is) in
              record {
                set = ap (λ (s : CellStore). s.set) (sym equal) ∙ stays.set ∙ here.set ∙ ap (λ (f : SetId). lettered f place) (sym first) ∙ ap (lettered now.first) (sym same);
                shapes = ap (λ (s : CellStore). s.shapes) (sym equal) ∙ stays.shapes ∙ here.shapes ∙ sym shapes;
                stands = subst (λ (s : CellStore). StandsFor s new) equal stays.stands;
              }
          | inr differ ↦ let l = opened.each other one (sym (set_other side.stores.items place other next differ) ∙ ap (λ (l : List CellStore). slice_get l other) (sym stores) ∙ is) in
              record {
                set = l.set ∙ ap (λ (f : SetId). lettered f other) (sym first);
                shapes = l.shapes ∙ sym shapes;
                stands = stands_beside one store.set old new l.stands (λ same. apart_by side.first place other differ (sym l.set ∙ same ∙ here.set)) leaves;
              }
        ];
  };
}

-- the store that the code takes out of the list
pub letter_here : (side : SideCells) (shelf : ShelfView) (place : ℕ) (store : CellStore) → StandsForSide side shelf → place < 10 → store ≡ get_or side.stores.items place store
    → (slice_get side.stores.items place ≡ Some store) × IsLetter side place store shelf
letter_here side shelf place store stands below is =
    let there = slice_get_read side.stores.items 10 place store (sym stands.ten) below is in
    (there, stands.each place store there)

-- ---- what is told

some_of : {X : Type 0} (o : Option X) → (o ≡ None → ⊥) → IsSome o
some_of None never = absurd (never refl)
some_of (Some x) never = refl

it_of : {X : Type 0} (o : Option X) → (o ≡ None → ⊥) → (x : X) × (o ≡ Some x)
it_of None never = absurd (never refl)
it_of (Some x) never = (x, refl)

-- a shelf tells the pages of all data sets or of none
abbrev pub AreAlike : ShelfView → Type 0
AreAlike shelf = (set other : SetId) → shelf.pages set ≡ None → shelf.pages other ≡ None

pub told_by : (shelf : ShelfView) (first set : SetId) (pages : List (List ℕ)) → AreAlike shelf → shelf.pages set ≡ Some pages → IsSome (shelf.pages first)
told_by shelf first set pages alike is = some_of (shelf.pages first) (λ none. let wrong : None ≡ Some pages = sym (alike first set none) ∙ is in cc)

pub pages_told : (shelf : ShelfView) (first set : SetId) → AreAlike shelf → IsSome (shelf.pages first) → (pages : List (List ℕ)) × (shelf.pages set ≡ Some pages)
pages_told shelf first set alike told = it_of (shelf.pages set) (λ none. let wrong : true ≡ false = sym told ∙ ap (λ (o : Option (List (List ℕ))). is_some o) (alike set first none) in cc)

-- ---- the cell at an address of a side

side_is : (first : SetId) (shapes : List Shape) (shelf : ShelfView) (x place : ℕ) → place_at x ≡ place → place < 10 → side_cell first shapes shelf x ≡ cell_in shapes (lettered first place) (shelf.pages (lettered first place)) x
unfolding side_cell
side_is first shapes shelf x place is below =
    ap (λ (p : ℕ). cond (nat_lt p 10) (cell_in shapes (lettered first p) (shelf.pages (lettered first p)) x) None) is
    ∙ ap (λ (b : Bool). cond b (cell_in shapes (lettered first place) (shelf.pages (lettered first place)) x) None) (lt-ltb place 10 below)

pub cell_here : (first : SetId) (shapes : List Shape) (shelf : ShelfView) (x place : ℕ) (pages : List (List ℕ)) → place_at x ≡ place → place < 10 → shelf.pages (lettered first place) ≡ Some pages
    → side_cell first shapes shelf x ≡ cell_at (lettered first place) (layout_of shapes pages) x
cell_here first shapes shelf x place pages is below told = side_is first shapes shelf x place is below ∙ ap (λ (o : Option (List (List ℕ))). cell_in shapes (lettered first place) o x) told

pub no_place : (first : SetId) (shapes : List Shape) (shelf : ShelfView) (x : ℕ) → 10 ≤ place_at x → side_cell first shapes shelf x ≡ None
unfolding side_cell
no_place first shapes shelf x past = ap (λ (b : Bool). cond b (cell_in shapes (lettered first (place_at x)) (shelf.pages (lettered first (place_at x))) x) None) (le-ltb (place_at x) 10 past)

pub cell_beside : (first : SetId) (shapes : List Shape) (old new : ShelfView) (x : ℕ) → (place_at x < 10 → new.pages (lettered first (place_at x)) ≡ old.pages (lettered first (place_at x)))
    → side_cell first shapes new x ≡ side_cell first shapes old x
cell_beside first shapes old new x same =
    elim (cases_lt (place_at x) 10) [
      | inl below ↦ side_is first shapes new x (place_at x) refl below ∙ ap (λ (o : Option (List (List ℕ))). cell_in shapes (lettered first (place_at x)) o x) (same below) ∙ sym (side_is first shapes old x (place_at x) refl below)
      | inr past ↦ no_place first shapes new x past ∙ sym (no_place first shapes old x past)
    ]

-- a cell of a side has a place below ten
pub place_below : (first : SetId) (shapes : List Shape) (shelf : ShelfView) (x : ℕ) (cell : Cell) → side_cell first shapes shelf x ≡ Some cell → place_at x < 10
place_below first shapes shelf x cell is =
    elim (cases_lt (place_at x) 10) [
      | inl below ↦ below
      | inr past ↦ absurd (let wrong : None ≡ Some cell = sym (no_place first shapes shelf x past) ∙ is in cc)
    ]

-- ---- a change of one data set

pub record InLetter (first : SetId) (old new : ShelfView) (place : ℕ) (pages now : List (List ℕ)) : Type 0 where
  pub is_first : IsFirst first
  pub below : place < 10
  pub was : old.pages (lettered first place) ≡ Some pages
  pub is : new.pages (lettered first place) ≡ Some now
  pub leaves : LeavesOthers (lettered first place) old new

lifts : (first : SetId) (shapes : List Shape) (old new : ShelfView) (place : ℕ) (pages now : List (List ℕ)) (P : ℕ → Type 0) → InLetter first old new place pages now
    → ((x : ℕ) → P x → cell_at (lettered first place) (layout_of shapes now) x ≡ cell_at (lettered first place) (layout_of shapes pages) x) → (x : ℕ) → P x → side_cell first shapes new x ≡ side_cell first shapes old x
lifts first shapes old new place pages now P i same x p =
    elim (cases_eq (place_at x) place) [
      | inl here ↦ cell_here first shapes new x place now here i.below i.is ∙ same x p ∙ sym (cell_here first shapes old x place pages here i.below i.was)
      | inr apart ↦ cell_beside first shapes old new x (λ below. i.leaves.pages (lettered first (place_at x)) (apart_by first place (place_at x) apart))
    ]

pub lift_same : (first : SetId) (shapes : List Shape) (old new : ShelfView) (place : ℕ) (pages now : List (List ℕ)) → InLetter first old new place pages now
    → ((x : ℕ) → cell_at (lettered first place) (layout_of shapes now) x ≡ cell_at (lettered first place) (layout_of shapes pages) x) → SameCells (side_cell first shapes old) (side_cell first shapes new)
lift_same first shapes old new place pages now i same = λ x. lifts first shapes old new place pages now (λ _. Unit {0}) i (λ y _. same y) x tt

-- the place of a cell's address is that of its letter
pub place_is : (first : SetId) (layout : List (List Tile)) (place at : ℕ) (cell : Cell) → IsFirst first → place < 10 → cell_at (lettered first place) layout at ≡ Some cell → place_at at ≡ place
place_is first layout place at cell is below there = (stood_at (lettered first place) layout at cell there).0 ∙ place_here first place is below

pub lift_adds : (first : SetId) (shapes : List Shape) (old new : ShelfView) (place : ℕ) (pages now : List (List ℕ)) (at : ℕ) (cell : Cell) → InLetter first old new place pages now
    → Adds at cell (cell_at (lettered first place) (layout_of shapes pages)) (cell_at (lettered first place) (layout_of shapes now)) → Adds at cell (side_cell first shapes old) (side_cell first shapes new)
lift_adds first shapes old new place pages now at cell i a =
    let here = place_is first (layout_of shapes now) place at cell i.is_first i.below a.stands in
    record {
      free = cell_here first shapes old at place pages here i.below i.was ∙ a.free;
      stands = cell_here first shapes new at place now here i.below i.is ∙ a.stands;
      elsewhere = lifts first shapes old new place pages now (λ x. x ≢ at) i a.elsewhere;
    }

pub lift_alters : (first : SetId) (shapes : List Shape) (old new : ShelfView) (place : ℕ) (pages now : List (List ℕ)) (at : ℕ) (change : Cell → Cell) → InLetter first old new place pages now → place_at at ≡ place
    → Alters at change (cell_at (lettered first place) (layout_of shapes pages)) (cell_at (lettered first place) (layout_of shapes now)) → Alters at change (side_cell first shapes old) (side_cell first shapes new)
lift_alters first shapes old new place pages now at change i here a = record {
  altered = cell_here first shapes new at place now here i.below i.is ∙ a.altered ∙ ap (option_map change) (sym (cell_here first shapes old at place pages here i.below i.was));
  elsewhere = lifts first shapes old new place pages now (λ x. x ≢ at) i a.elsewhere;
}

pub lift_drops : (first : SetId) (shapes : List Shape) (old new : ShelfView) (place : ℕ) (pages now : List (List ℕ)) (at : ℕ) → InLetter first old new place pages now → place_at at ≡ place
    → Drops at (cell_at (lettered first place) (layout_of shapes pages)) (cell_at (lettered first place) (layout_of shapes now)) → Drops at (side_cell first shapes old) (side_cell first shapes new)
lift_drops first shapes old new place pages now at i here d = record {
  gone = cell_here first shapes new at place now here i.below i.is ∙ d.gone;
  elsewhere = lifts first shapes old new place pages now (λ x. x ≢ at) i d.elsewhere;
}

-- ---- what a store of the side says, said of the side

same_in : (side : SideCells) (place : ℕ) (store : CellStore) (shelf : ShelfView) (pages : List (List ℕ)) (x : ℕ) → IsLetter side place store shelf
    → cell_at (lettered side.first place) (layout_of side.shapes pages) x ≡ cell_at store.set (layout_of store.shapes pages) x
same_in side place store shelf pages x l =
    ap (λ (s : SetId). cell_at s (layout_of side.shapes pages) x) (sym l.set) ∙ ap (λ (s : List Shape). cell_at store.set (layout_of s pages) x) (sym l.shapes)

pub finds : (side : SideCells) (place : ℕ) (store : CellStore) (shelf : ShelfView) (at : ℕ) (found : Option Cell) → AreAlike shelf → IsLetter side place store shelf → place ≡ place_at at → place < 10
    → StandsAt store shelf at found → Finds side shelf at found
finds side place store shelf at found alike l is below stands told =
    let p = pages_told shelf side.first (lettered side.first place) alike told in
    cell_here side.first side.shapes shelf at place p.0 (sym is) below p.1 ∙ same_in side place store shelf p.0 at l ∙ stands p.0 (ap shelf.pages l.set ∙ p.1)

pub holds : (side : SideCells) (place : ℕ) (store : CellStore) (shelf : ShelfView) (at : ℕ) (P : Cell → Type 0) → AreAlike shelf → IsLetter side place store shelf → place ≡ place_at at → place < 10
    → Holds side shelf at P → HoldsAt store shelf at P
holds side place store shelf at P alike l is below there pages told =
    let here : shelf.pages (lettered side.first place) ≡ Some pages = ap shelf.pages (sym l.set) ∙ told in
    let h = there (told_by shelf side.first store.set pages alike told) in
    (h.0, sym (same_in side place store shelf pages at l) ∙ sym (cell_here side.first side.shapes shelf at place pages (sym is) below here) ∙ h.1, h.2)

pub lays : (store : CellStore) (set : SetId) (shapes : List Shape) (old new : ShelfView) (P : SetId → List (List Tile) → List (List Tile) → Type 0) → store.set ≡ set → store.shapes ≡ shapes
    → Relays store old new (P store.set) → Lays shapes set old new (P set)
lays store set shapes old new P is same relays pages told =
    subst (λ (s : SetId). Becomes s shapes pages (new.pages s) (P s)) is (subst (λ (s : List Shape). Becomes store.set s pages (new.pages store.set) (P store.set)) same (relays pages (ap old.pages is ∙ told)))

-- the tiles of one letter have changed so, and then the cells of the side have
pub turns : (first : SetId) (shapes : List Shape) (old new : ShelfView) (place : ℕ) (P : List (List Tile) → List (List Tile) → Type 0) (Q : (ℕ → Option Cell) → (ℕ → Option Cell) → Type 0) → AreAlike old → AreAlike new
    → IsFirst first → place < 10 → LeavesOthers (lettered first place) old new → Lays shapes (lettered first place) old new P
    → ((pages now : List (List ℕ)) → InLetter first old new place pages now → P (layout_of shapes pages) (layout_of shapes now) → Q (side_cell first shapes old) (side_cell first shapes new))
    → IsSome (old.pages first) → IsSome (new.pages first) × Q (side_cell first shapes old) (side_cell first shapes new)
turns first shapes old new place P Q was_alike alike is below leaves relays lift told =
    let p = pages_told old first (lettered first place) was_alike told in
    let b = relays p.0 p.1 in (
      told_by new first (lettered first place) b.now alike b.are,
      lift p.0 b.now (record { is_first = is; below = below; was = p.1; is = b.are; leaves = leaves }) b.leads,
    )

pub each_ok : {T E : Type 0} {P Q : T → Type 0} (r : Result T E) → IfOk r P → ((x : T) → P x → Q x) → IfOk r Q
each_ok (Ok x) it f = f x it
each_ok (Err e) it f = tt

pub ok_weaker : {T E : Type 0} {A B : Type 0} (r : Result T E) → OnOk r A → (A → B) → OnOk r B
ok_weaker (Ok x) a f = f a
ok_weaker (Err e) a f = tt

pub all_cases : {T E : Type 0} {P P' : T → Type 0} {Q Q' : E → Type 0} (r : Result T E) → MatchResult r P Q → ((x : T) → P x → P' x) → ((e : E) → Q e → Q' e) → MatchResult r P' Q'
all_cases (Ok x) it f h = f x it
all_cases (Err e) it f h = h e it

pub same_there : (stores : List CellStore) (place : ℕ) (store : CellStore) → slice_get stores place ≡ Some store → stores ≡ slice_set stores place store
same_there stores place store there = sym (ap (slice_set stores place) (sym (get_or_from_slice_get stores place store store there)) ∙ set-get_or stores place store)

pub writes_in : {most : ℕ} {set other : SetId} {steady failed : Type 0} {old new : ShelfView} → set ≡ other → Writes most set steady failed old new → Writes most other steady failed old new
writes_in {most} {set} {other} {steady} {failed} {old} {new} same writes = subst (λ (s : SetId). Writes most s steady failed old new) same writes

pub grows_in : {most : ℕ} {set other : SetId} {steady failed : Type 0} {old new : ShelfView} (more : SetId → ℕ) → set ≡ other → Grows (more set) most set steady failed old new → Grows (more other) most other steady failed old new
grows_in {most} {set} {other} {steady} {failed} {old} {new} more same grows = subst (λ (s : SetId). Grows (more s) most s steady failed old new) same grows

-- ---- a cell that comes

-- a store of the side was called, and answered
pub record Called (side now : SideCells) (place : ℕ) (store : CellStore) (old new : ShelfView) : Type 0 where
  pub was_alike : AreAlike old
  pub alike : AreAlike new
  pub is_first : IsFirst side.first
  pub below : place < 10
  pub letter : IsLetter side place store old
  pub leaves : LeavesOthers (lettered side.first place) old new
  pub first : now.first ≡ side.first
  pub shapes : now.shapes ≡ side.shapes

turned : (side now : SideCells) (place : ℕ) (store : CellStore) (old new : ShelfView) (P : SetId → List (List Tile) → List (List Tile) → Type 0) (Q : (ℕ → Option Cell) → (ℕ → Option Cell) → Type 0) → Called side now place store old new
    → Relays store old new (P store.set)
    → ((pages later : List (List ℕ)) → InLetter side.first old new place pages later → P (lettered side.first place) (layout_of side.shapes pages) (layout_of side.shapes later) → Q (side_cell side.first side.shapes old) (side_cell side.first side.shapes new))
    → Turns side now old new Q
turned side now place store old new P Q c relays lift told =
    let r = turns side.first side.shapes old new place (P (lettered side.first place)) Q c.was_alike c.alike c.is_first c.below c.leaves (lays store (lettered side.first place) side.shapes old new P c.letter.set c.letter.shapes relays) lift told in (
      subst (λ (f : SetId). IsSome (new.pages f)) (sym c.first) r.0,
      subst (λ (f : SetId). Q (side_cell side.first side.shapes old) (side_cell f now.shapes new)) (sym c.first)
          (subst (λ (s : List Shape). Q (side_cell side.first side.shapes old) (side_cell side.first s new)) (sym c.shapes) r.1),
    )

-- the pages of the letter, by the change that a store says
led : (side : SideCells) (place : ℕ) (store : CellStore) (old new : ShelfView) (P : SetId → List (List Tile) → List (List Tile) → Type 0) → AreAlike old → IsLetter side place store old → Relays store old new (P store.set) → IsTold side old
    → (pages later : List (List ℕ)) × (old.pages (lettered side.first place) ≡ Some pages) × P (lettered side.first place) (layout_of side.shapes pages) (layout_of side.shapes later)
led side place store old new P alike l relays told =
    let p = pages_told old side.first (lettered side.first place) alike told in
    let b = lays store (lettered side.first place) side.shapes old new P l.set l.shapes relays p.0 p.1 in
    (p.0, b.now, p.1, b.leads)

pub placed_cell : (side now : SideCells) (place : ℕ) (store : CellStore) (old new : ShelfView) (cell : Cell) (at : ℕ) → Called side now place store old new → place ≡ place_of side.letters cell.code
    → PlacesAt store cell old new at → PlacesCell side now cell old new at
placed_cell side now place store old new cell at c is put =
    let P : SetId → List (List Tile) → List (List Tile) → Type 0 = λ set. Places set cell (added set old new) at in
    record {
      letter = λ told. let (pages, later, was, p) = led side place store old new P c.was_alike c.letter put told in
          place_is side.first (layout_of side.shapes later) place at cell c.is_first c.below p.adds.stands ∙ is;
      adds = turned side now place store old new P (Adds at cell) c put (λ pages later i p. lift_adds side.first side.shapes old new place pages later at cell i p.adds);
      places = lays store (set_of side cell) side.shapes old new P (c.letter.set ∙ ap (lettered side.first) is) c.letter.shapes put;
    }

pub appended_cell : (side now : SideCells) (place : ℕ) (store : CellStore) (old new : ShelfView) (cell : Cell) (fbff fspf at : ℕ) → Called side now place store old new → place ≡ place_of side.letters cell.code
    → AppendsAt store cell fbff fspf old new at → AppendsCell side now cell fbff fspf old new at
appended_cell side now place store old new cell fbff fspf at c is put =
    let P : SetId → List (List Tile) → List (List Tile) → Type 0 = λ set. Appends set cell fbff fspf (added set old new) at in
    record {
      letter = λ told. let (pages, later, was, p) = led side place store old new P c.was_alike c.letter put told in
          place_is side.first (layout_of side.shapes later) place at cell c.is_first c.below p.adds.stands ∙ is;
      adds = turned side now place store old new P (Adds at cell) c put (λ pages later i p. lift_adds side.first side.shapes old new place pages later at cell i p.adds);
      above = λ told other standing there same.
          let (pages, later, was, p) = led side place store old new P c.was_alike c.letter put told in
          let here = place_is side.first (layout_of side.shapes later) place at cell c.is_first c.below p.adds.stands in
          p.above other standing (sym (cell_here side.first side.shapes old other place pages (same ∙ here) c.below was) ∙ there);
      appends = lays store (set_of side cell) side.shapes old new P (c.letter.set ∙ ap (lettered side.first) is) c.letter.shapes put;
    }

-- no more than empty pages came
pub none_came : (side now : SideCells) (place : ℕ) (store : CellStore) (old new : ShelfView) (cell : Cell) → Called side now place store old new → place ≡ place_of side.letters cell.code → GetsEmpty store old new → KeepsCells side now cell old new
none_came side now place store old new cell c is empty =
    let P : SetId → List (List Tile) → List (List Tile) → Type 0 = λ set layout later. later ≡ grown (added set old new) layout in
    record {
      cells = turned side now place store old new P SameCells c empty (λ pages later i same. lift_same side.first side.shapes old new place pages later i
          (λ x. ap (λ (l : List (List Tile)). cell_at (lettered side.first place) l x) same ∙ grown_at (lettered side.first place) (layout_of side.shapes pages) (added (lettered side.first place) old new) x));
      tiles = lays store (set_of side cell) side.shapes old new P (c.letter.set ∙ ap (lettered side.first) is) c.letter.shapes empty;
    }

pub gone_cell : (side now : SideCells) (place : ℕ) (store : CellStore) (old new : ShelfView) (at : ℕ) → Called side now place store old new → place ≡ place_at at → Relays store old new (GivesBack store.set at) → Turns side now old new (Drops at)
gone_cell side now place store old new at c is gone =
    turned side now place store old new (λ set. GivesBack set at) (Drops at) c gone (λ pages later i r. lift_drops side.first side.shapes old new place pages later at i (sym is) r.drops)

-- what is said of the tiles of the store is said of those of the cell's data set
pub said_of : (side : SideCells) (place : ℕ) (store : CellStore) (shelf : ShelfView) (cell : Cell) (P : List (List Tile) → Type 0) → IsLetter side place store shelf → place ≡ place_of side.letters cell.code
    → IsSaid store shelf P → IsSaidOf side cell shelf P
said_of side place store shelf cell P l is said pages told =
    subst (λ (s : List Shape). P (layout_of s pages)) l.shapes (said pages (ap shelf.pages (l.set ∙ ap (lettered side.first) is) ∙ told))

pub called : (side now : SideCells) (place : ℕ) (store : CellStore) (old new : ShelfView) → StandsForSide side old → AreAlike old → AreAlike new → place < 10 → store ≡ get_or side.stores.items place store → LeavesOthers store.set old new
    → now.first ≡ side.first → now.shapes ≡ side.shapes → Called side now place store old new
called side now place store old new stands was_alike alike below is leaves first shapes =
    let letter = (letter_here side old place store stands below is).1 in
    record {
      was_alike = was_alike;
      alike = alike;
      is_first = stands.first;
      below = below;
      letter = letter;
      leaves = subst (λ (s : SetId). LeavesOthers s old new) letter.set leaves;
      first = first;
      shapes = shapes;
    }

-- ---- the letters of types

pub letter_within : (letters : List ℕ) (k d : ℕ) → are_letters letters ≡ true → k < length letters → (65 ≤ get_or letters k d) × (get_or letters k d ≤ 74)
letter_within [] k d all below = absurd (omega (arith, below))
letter_within (x ∷ xs) zero d all below =
    let p = and_parts (nat_le 65 x && nat_le x 74) (are_letters xs) all in
    let q = and_parts (nat_le 65 x) (nat_le x 74) p.0 in
    (leb-true 65 x q.0, leb-true x 74 q.1)
letter_within (x ∷ xs) (suc k) d all below = letter_within xs k d (and_parts (nat_le 65 x && nat_le x 74) (are_letters xs) all).1 (omega (arith, below))

-- ---- letters that are opened one after the other

pub upto_more : (first : SetId) (shelf : ShelfView) (place : ℕ) → pages_upto first shelf (place + 1) ≡ pages_upto first shelf place + length (shelf.places (lettered first place))
unfolding pages_upto
upto_more first shelf place = rw add-one refl

pub upto_none : (first : SetId) (shelf : ShelfView) → pages_upto first shelf 0 ≡ 0
unfolding pages_upto
upto_none first shelf = refl

upto_less : (first : SetId) (shelf : ShelfView) (place more n : ℕ) → place + more ≡ n → pages_upto first shelf place ≤ pages_upto first shelf n
upto_less first shelf place zero n is =
    let same : place ≡ n = omega (arith, is) in
    omega (arith, ap (pages_upto first shelf) same)
upto_less first shelf place (suc more) n is =
    let last : place + more + 1 ≡ n = omega (arith, is) in
    omega (arith, upto_less first shelf place more (place + more) refl, upto_more first shelf (place + more), ap (pages_upto first shelf) last)

pub upto_ten : (first : SetId) (shelf : ShelfView) (place : ℕ) → place < 10 → pages_upto first shelf place + length (shelf.places (lettered first place)) ≤ pages_upto first shelf 10
upto_ten first shelf place below =
    let rest : place + 1 + (9 - place) ≡ 10 = omega (arith, below) in
    omega (arith, upto_more first shelf place, upto_less first shelf (place + 1) (9 - place) 10 rest)

pub got : {X : Type 0} (xs : List X) (k : ℕ) → k < length xs → (x : X) × (slice_get xs k ≡ Some x)
got [] k below = absurd (omega (arith, below))
got (x ∷ xs) zero below = (x, refl)
got (x ∷ xs) (suc k) below = got xs k (omega (arith, below))

-- ---- laws

-- the store of a place
store_of : (side : SideCells) (shelf : ShelfView) (place : ℕ) → StandsForSide side shelf → place < 10 → (store : CellStore) × IsLetter side place store shelf
store_of side shelf place stands below =
    let there = got side.stores.items place (omega (arith, below, stands.ten)) in
    (there.0, stands.each place there.0 there.1)

pub beside : (side : SideCells) (set : SetId) (old new : ShelfView) → StandsForSide side old → IsApart side set → LeavesOthers set old new → StaysBeside side old new
beside side set old new stands apart leaves = record {
  stands = side_beside side set old new stands apart leaves;
  told = λ was.
      let here : lettered side.first 0 ≡ side.first = ap (λ (l : ℕ). record side.first { letter = l }) none in
      let same : new.pages side.first ≡ old.pages side.first = leaves.pages side.first (λ is. apart 0 (omega arith) (here ∙ is)) in
      ap (λ (o : Option (List (List ℕ))). is_some o) same ∙ was;
  cells = λ at. cell_beside side.first side.shapes old new at (λ below. leaves.pages (lettered side.first (place_at at)) (apart (place_at at) below));
}
  where
    none : side.first.letter + 0 ≡ side.first.letter
    none = omega arith

came_in : (shapes : List Shape) (set : SetId) (o : Option (List (List ℕ))) (x : ℕ) (cell : Cell) → cell_in shapes set o x ≡ Some cell → (pages : List (List ℕ)) × (o ≡ Some pages) × (cell_at set (layout_of shapes pages) x ≡ Some cell)
came_in shapes set None x cell is = absurd (let wrong : None ≡ Some cell = is in cc)
came_in shapes set (Some pages) x cell is = (pages, refl, is)

pub not_at_zero : (side : SideCells) (shelf : ShelfView) (at : ℕ) (cell : Cell) → StandsForSide side shelf → cells_of side shelf at ≡ Some cell → at ≢ 0
not_at_zero side shelf at cell stands is =
    let place = place_at at in
    let below = place_below side.first side.shapes shelf at cell is in
    let (pages, told, there) = came_in side.shapes (lettered side.first place) (shelf.pages (lettered side.first place)) at cell (sym (side_is side.first side.shapes shelf at place refl below) ∙ is) in
    let (store, l) = store_of side shelf place stands below in
    let told_there : shelf.pages store.set ≡ Some pages = ap shelf.pages l.set ∙ told in
    not_zero store.shapes store.set (layout_of store.shapes pages) at cell
    (λ tiles among. let (block, found, t) = page_of_layout store.shapes store.spaces.pages.items pages (page_at at) tiles (l.stands.told pages told_there) among in t.tiled)
    (sym (same_in side place store shelf pages at l) ∙ there)

pub pages_of_letter : (side : SideCells) (shelf : ShelfView) (place : ℕ) (pages : List (List ℕ)) → StandsForSide side shelf → place < 10 → shelf.pages (lettered side.first place) ≡ Some pages → All (λ page. length page ≡ 4096) pages
    → ArePages side.shapes (layout_of side.shapes pages) × (length (layout_of side.shapes pages) ≡ length pages)
pages_of_letter side shelf place pages stands below told whole =
    let (store, l) = store_of side shelf place stands below in
    let knows : Knows store.shapes store.spaces.pages.items pages = l.stands.told pages (ap shelf.pages l.set ∙ told) in
    let mine : Knows side.shapes store.spaces.pages.items pages = subst (λ (s : List Shape). Knows s store.spaces.pages.items pages) l.shapes knows in (
      record {
        tiled = λ k tiles is.
            let (block, among, t) = page_of_layout side.shapes store.spaces.pages.items pages k tiles mine is in
            let long : length block ≡ 4096 = ap length (sym (get_or_from_slice_get pages k block [] among)) ∙ whole k [] (slice_get_within pages k block among) in
            (t.tiled, omega (arith, long, ap length t.whole, length-drop 16 block));
      },
      length-map pages (tiles_of side.shapes),
    )
