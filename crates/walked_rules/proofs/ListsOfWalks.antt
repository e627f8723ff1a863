-- The list of walked partitions, and the records in which the targets of entries hang.
use Rattle.std.proofs.Common.{◌≡◌, ℕ, ◌+◌, ◌==◌, Bool, true, false, not, cond, ◌&&◌, ◌||◌, List, [], ◌∷◌, ◌++◌, map, Option, None, Some, refl, sym, ap, subst, ◌∙◌}
use Rattle.std.specs.Prelude.{flat_map}
use Rattle.std.specs.List.{list_all, AllByRecursion}
use Rattle.std.specs.Option.{option_map_or}
use Rattle.std.specs.Str.{bytes_eq}
use Rattle.std.proofs.lemmas.Bool.{eqb-true, eq-eqb, or_right, false≢true}
use Rattle.std.proofs.lemmas.List.{append_assoc, map-append}
use Rattle.hal_schema.specs.declared.row.Row.{Row}
use Rattle.hal_schema.specs.declared.schema.SegType.{SegType}
use Rattle.hal_schema.specs.declared.schema.Schema.{Schema}
use Rattle.hal_schema.specs.Entry.{Entry, entries_of}
use Rattle.hal_schema.specs.Forest.{all_pairs, names_apart}
use Rattle.hal_schema.specs.Row.{same_name, row_key}
use Rattle.forest_laws.proofs.Lists.{all_each, all_weaker}
use Rattle.record_walk.specs.Listing.{Placed, list_in, rows_of}
use Rattle.record_walk.specs.Volume.{PlacedSide, listed, AreAllSides}
use Rattle.record_walk.specs.InRecords.{root_above, hangs_by, EntriesHangInRecords}
use Rattle.record_walk.specs.OneSide.{rows_in, rows_in_all}
use Rattle.record_walk.proofs.RecordOf.{listed_append}
use Rattle.volume_rules.specs.View.{Homed, is_live, is_moving}
use Rattle.volume_rules.specs.Volume.{walked, forest_of}
use Rattle.volume_rules.specs.SideForest.{sides_in}
use Rattle.walked_rules.specs.Parts.{WalkedPart, IsWalkedPart, homed, view_of, side_at, live_sides, all_sides, volume_of}
use Rattle.walked_rules.specs.Laws.{WalksAreListed, WalkedEntriesHang}
use Rattle.walked_rules.proofs.OnViews.{rows_at, all_homed}

-- ---- live generations

pub own_lives : (p : WalkedPart) → is_live p.state p.state.number ≡ true
own_lives p = ap (λ (b : Bool). b || is_moving p.state && p.state.number == p.state.number + 1) (eq-eqb p.state.number p.state.number refl)

pub output_lives : (p : WalkedPart) → is_moving p.state ≡ true → is_live p.state (p.state.number + 1) ≡ true
output_lives p e =
    or_right (p.state.number + 1 == p.state.number) (is_moving p.state && p.state.number + 1 == p.state.number + 1)
    (ap (λ (b : Bool). b && p.state.number + 1 == p.state.number + 1) e ∙ eq-eqb (p.state.number + 1) (p.state.number + 1) refl)

-- ---- rows

abbrev row_of : Homed → Row
row_of r = r.row

unhomed : (list : List Placed) → map row_of (map homed list) ≡ rows_of list
unhomed [] = refl
unhomed (q ∷ list) = ap (λ l. q.row ∷ l) (unhomed list)

rows_append : (xs ys : List Placed) → rows_of (xs ++ ys) ≡ rows_of xs ++ rows_of ys
rows_append [] ys = refl
rows_append (x ∷ xs) ys = ap (λ l. x.row ∷ l) (rows_append xs ys)

rows_end : (xs : List Placed) → rows_of (xs ++ []) ≡ rows_of xs
rows_end [] = refl
rows_end (x ∷ xs) = ap (λ l. x.row ∷ l) (rows_end xs)

live_rows : (p : WalkedPart) (number : ℕ) → is_live p.state number ≡ true → map row_of ((view_of p).rows number) ≡ rows_in (side_at p number)
live_rows p number live = ap (map row_of) (rows_at p number live) ∙ unhomed (list_in None (p.trees number))

pub part_sides : (p : WalkedPart) → sides_in (view_of p) ≡ map rows_in (live_sides p)
part_sides p = by (is_moving p.state) refl
  where
    n : ℕ
    n = p.state.number

    by : (m : Bool) → is_moving p.state ≡ m → cond m (map row_of ((view_of p).rows (n + 1)) ∷ map row_of ((view_of p).rows n) ∷ []) (map row_of ((view_of p).rows n) ∷ []) ≡ map rows_in (cond m (side_at p (n + 1) ∷ side_at p n ∷ []) (side_at p n ∷ []))
    by true e = (λ i. live_rows p (n + 1) (output_lives p e) i ∷ live_rows p n (own_lives p) i ∷ [])
    by false e = (λ i. live_rows p n (own_lives p) i ∷ [])

part_list : (p : WalkedPart) → map row_of (walked (view_of p)) ≡ rows_of (listed (live_sides p))
part_list p = by (is_moving p.state) refl
  where
    n : ℕ
    n = p.state.number

    by : (m : Bool) → is_moving p.state ≡ m → map row_of (cond m ((view_of p).rows (n + 1)) [] ++ (view_of p).rows n) ≡ rows_of (listed (cond m (side_at p (n + 1) ∷ side_at p n ∷ []) (side_at p n ∷ [])))
    by true e =
        map-append row_of ((view_of p).rows (n + 1)) ((view_of p).rows n) ∙ (λ i. live_rows p (n + 1) (output_lives p e) i ++ live_rows p n (own_lives p) i)
        ∙ ap (λ l. rows_in (side_at p (n + 1)) ++ l) (sym (rows_end (list_in None (p.trees n)))) ∙ sym (rows_append (list_in None (p.trees (n + 1))) (list_in None (p.trees n) ++ []))
    by false e = live_rows p n (own_lives p) ∙ sym (rows_end (list_in None (p.trees n)))

all_lists : (parts : List WalkedPart) → flat_map (λ view. map row_of (walked view)) (map view_of parts) ≡ rows_in_all (all_sides parts)
all_lists [] = refl
all_lists (p ∷ parts) =
    (λ i. part_list p i ++ all_lists parts i) ∙ sym (rows_append (listed (live_sides p)) (listed (all_sides parts))) ∙ ap rows_of (sym (listed_append (live_sides p) (all_sides parts)))

all_their_sides : (parts : List WalkedPart) → flat_map sides_in (map view_of parts) ≡ map rows_in (all_sides parts)
all_their_sides [] = refl
all_their_sides (p ∷ parts) = (λ i. part_sides p i ++ all_their_sides parts i) ∙ sym (map-append rows_in (live_sides p) (all_sides parts))

pub walks_are_listed : WalksAreListed
walks_are_listed parts indexes = record { sides = all_their_sides parts; list = all_lists parts }

-- ---- one side among all

sides_append : (front behind : List WalkedPart) → all_sides (front ++ behind) ≡ all_sides front ++ all_sides behind
sides_append [] behind = refl
sides_append (p ∷ front) behind = ap (λ l. live_sides p ++ l) (sides_append front behind) ∙ sym (append_assoc (live_sides p) (all_sides front) (all_sides behind))

record Among (p : WalkedPart) (number : ℕ) : Type 0 where
  pub before : List PlacedSide
  pub after : List PlacedSide
  pub sides : live_sides p ≡ before ++ side_at p number ∷ after

among_live : (p : WalkedPart) (number : ℕ) → is_live p.state number ≡ true → Among p number
among_live p number live = by (is_moving p.state) refl (number == p.state.number) refl live
  where
    n : ℕ
    n = p.state.number

    by : (m : Bool) → is_moving p.state ≡ m → (b : Bool) → (number == n) ≡ b → (b || m && number == n + 1) ≡ true → Among p number
    by true e true f h = record {
      before = side_at p (n + 1) ∷ [];
      after = [];
      sides = ap (λ (m : Bool). cond m (side_at p (n + 1) ∷ side_at p n ∷ []) (side_at p n ∷ [])) e ∙ ap (λ (k : ℕ). side_at p (n + 1) ∷ side_at p k ∷ []) (sym (eqb-true number n f));
    }
    by false e true f h = record {
      before = [];
      after = [];
      sides = ap (λ (m : Bool). cond m (side_at p (n + 1) ∷ side_at p n ∷ []) (side_at p n ∷ [])) e ∙ ap (λ (k : ℕ). side_at p k ∷ []) (sym (eqb-true number n f));
    }
    by true e false f h = record {
      before = [];
      after = side_at p n ∷ [];
      sides = ap (λ (m : Bool). cond m (side_at p (n + 1) ∷ side_at p n ∷ []) (side_at p n ∷ [])) e ∙ ap (λ (k : ℕ). side_at p k ∷ side_at p n ∷ []) (sym (eqb-true number (n + 1) h));
    }
    by false e false f h = absurd (false≢true h)

are_sides_append : (schema : Schema) (xs ys : List PlacedSide) → AreAllSides schema xs → AreAllSides schema ys → AreAllSides schema (xs ++ ys)
are_sides_append schema [] ys a b = b
are_sides_append schema (x ∷ xs) ys a b = (a.0, are_sides_append schema xs ys (a.1) b)

part_is_sides : (schema : Schema) (p : WalkedPart) → IsWalkedPart schema p → AreAllSides schema (live_sides p)
part_is_sides schema p h = by (is_moving p.state) refl
  where
    by : (m : Bool) → is_moving p.state ≡ m → AreAllSides schema (cond m (side_at p (p.state.number + 1) ∷ side_at p p.state.number ∷ []) (side_at p p.state.number ∷ []))
    by true e = (h (p.state.number + 1) (output_lives p e), (h p.state.number (own_lives p), tt))
    by false e = (h p.state.number (own_lives p), tt)

pub parts_are_sides : (schema : Schema) (parts : List WalkedPart) → AllByRecursion (IsWalkedPart schema) parts → AreAllSides schema (all_sides parts)
parts_are_sides schema [] h = tt
parts_are_sides schema (p ∷ parts) h = are_sides_append schema (live_sides p) (all_sides parts) (part_is_sides schema p (h.0)) (parts_are_sides schema parts (h.1))

-- ---- in which record a home hangs

abbrev addr_of : Homed → ℕ
addr_of r = r.addr

abbrev home_of : Placed → ℕ
home_of q = q.home

abbrev placed_row : Placed → Row
placed_row q = q.row

same_root : (root : Option Row) (list : List Placed) (at : ℕ) → root_above addr_of row_of root (map homed list) at ≡ root_above home_of placed_row root list at
same_root root [] at = refl
same_root root (q ∷ list) at = ap (λ (o : Option Row). cond (q.home == at) (cond (q.row.code == 1) (Some q.row) root) o) (same_root (cond (q.row.code == 1) (Some q.row) root) list at)

abbrev all_hang : List SegType → List Homed → Entry → Bool
all_hang types rows entry = list_all (hangs_by types addr_of row_of rows entry) rows

hang_so : (types : List SegType) (list : List Placed) (entry : Entry) → list_all (hangs_by types home_of placed_row list entry) list ≡ true → all_hang types (map homed list) entry ≡ true
hang_so types list entry h =
    all_homed (hangs_by types addr_of row_of (map homed list) entry) list
    ∙ all_weaker (hangs_by types home_of placed_row list entry) (λ q. hangs_by types addr_of row_of (map homed list) entry (homed q))
    (λ q g. ap (λ (o : Option Row). not (same_name q.row.name entry.target) || option_map_or (λ (root : Row). bytes_eq (row_key types root) entry.root) o false) (same_root None list q.home) ∙ g) list h

pub walked_entries_hang : EntriesHangInRecords → WalkedEntriesHang
walked_entries_hang hang schema front behind p indexes index number walks names = by (is_live p.state number) refl
  where
    all : List WalkedPart
    all = front ++ p ∷ behind

    forest : List Row
    forest = forest_of (volume_of all indexes)

    hang_here : is_live p.state number ≡ true → list_all (all_hang schema.types (map homed (list_in None (p.trees number)))) (entries_of schema.types index forest) ≡ true
    hang_here live =
        let a = among_live p number live in
        let f : List PlacedSide = all_sides front ++ a.before in
        let b : List PlacedSide = a.after ++ all_sides behind in
        let sides : all_sides all ≡ f ++ side_at p number ∷ b =
        sides_append front (p ∷ behind) ∙ ap (λ l. all_sides front ++ (l ++ all_sides behind)) a.sides ∙ ap (λ l. all_sides front ++ l) (append_assoc a.before (side_at p number ∷ a.after) (all_sides behind))
        ∙ sym (append_assoc (all_sides front) a.before (side_at p number ∷ b)) in
        let list : forest ≡ rows_in_all (f ++ side_at p number ∷ b) = all_lists all ∙ ap rows_in_all sides in
        let own = hang schema f b (side_at p number) index (subst (AreAllSides schema) sides (parts_are_sides schema all walks)) (subst (λ (l : List Row). all_pairs names_apart l ≡ true) list names) in
        ap (λ (l : List Row). list_all (all_hang schema.types (map homed (list_in None (p.trees number)))) (entries_of schema.types index l)) list
        ∙ all_weaker (λ entry. list_all (hangs_by schema.types home_of placed_row (list_in None (p.trees number)) entry) (list_in None (p.trees number)))
        (all_hang schema.types (map homed (list_in None (p.trees number)))) (hang_so schema.types (list_in None (p.trees number)))
        (entries_of schema.types index (rows_in_all (f ++ side_at p number ∷ b))) own

    by : (l : Bool) → is_live p.state number ≡ l → list_all (all_hang schema.types (cond l (map homed (list_in None (p.trees number))) [])) (entries_of schema.types index forest) ≡ true
    by true e = hang_here e
    by false e = all_each (all_hang schema.types []) (λ entry. refl) (entries_of schema.types index forest)
