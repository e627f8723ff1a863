-- The changes of the example, by the laws.
use Rattle.std.proofs.Common.{◌≡◌, ◌≢◌, ℕ, ◌+◌, ◌<◌, ◌==◌, nat_lt, Bool, true, false, cond, ◌&&◌, ◌||◌, List, [], ◌∷◌, map, length, slice_get, Option, None, Some, inl, inr, refl, sym, ap, subst, ◌∙◌, arith, codes}
use Rattle.std.specs.List.{list_all, list_any}
use Rattle.std.specs.Option.{option_map}
use Rattle.std.proofs.lemmas.Bool.{and_parts, or_cases, eqb-true, eq-eqb, ne_eqb, ltb-true, true≢false}
use Rattle.segment_blocks.specs.declared.tile.Cell.{Cell}
use Rattle.hal_schema.specs.declared.schema.Schema.{Schema}
use Rattle.record_walk.specs.Tree.{Occurrence, Chains, no_chain, chain, here, times_in, homes_in}
use Rattle.record_walk.specs.Pointers.{Pointer, Behind, Below, Root, with_segment, without_segment, with_content_at}
use Rattle.record_walk.specs.Side.{RootRow, seen, heads_in, key_of, row_key_of, belongs, roots_rise, IsSideOf, IsWalked}
use Rattle.record_walk.specs.Changes.{stands_in, set_in_cell, set_content}
use Rattle.record_walk.specs.Spans.{IsIn}
use Rattle.record_walk.specs.Roots.{with_row, without_row}
use Rattle.record_walk.specs.SideChanges.{leads_in, segment_in, FitsAsRoot, SetsPointer, ChangedSides}
use Rattle.record_walk.specs.Examples.{phidam, phdam, cell_at_home, name_at, at, row, two_rows, one_row, two_trees, one_tree, r7}
use Rattle.record_walk.specs.ChangeExamples.{put, gone, marked, phidam_cells, phdam_cells, anchor_row, output, input, grown, shorter, by_g, ChangesMakeSides, SidesMakeForests}
use Rattle.record_walk.specs.Volume.{AreAllSides, AreSidesInOrder, SidesAreForests}
use Rattle.record_walk.specs.InRecords.{EntriesHangInRecords}
use Rattle.record_walk.specs.OneSide.{ChangesOfOneSide}
use Rattle.record_walk.specs.Firsts.{stays_behind, FirstChildrenAreInserted, FirstRootsAreInserted, LaterRootsAreInserted}
use Rattle.record_walk.proofs.ExampleSides.{met, times_met_in, sides, some}
use Rattle.record_walk.proofs.ChangedSides.{records_of, some_is, some_home}

none_home : (b : ℕ) → None ≡ Some b → ⊥
none_home b e = cc

-- ---- where pointers stand

in_behind : (prior : ℕ) (cells : ℕ → Option Cell) (firsts : List ℕ) (trees : Chains) → 0 < times_in prior trees → IsIn (Behind prior) cells firsts trees
in_behind prior cells firsts trees m = record {
  met = λ home e. subst (λ (n : ℕ). 0 < times_in n trees) (some_home prior home e) m;
  child = λ above place cell e is. absurd (apart above place e);
  row = λ place e. absurd (off place e);
}
  where
    is_behind : Pointer → Bool
    is_behind (Behind p) = true
    is_behind (Below a p) = false
    is_behind (Root p) = false

    apart : (above place : ℕ) → Behind prior ≡ Below above place → ⊥
    apart above place e = true≢false (ap is_behind e)

    off : (place : ℕ) → Behind prior ≡ Root place → ⊥
    off place e = true≢false (ap is_behind e)

in_below : (above place : ℕ) (cell : Cell) (cells : ℕ → Option Cell) (firsts : List ℕ) (trees : Chains) → 0 < times_in above trees → cells above ≡ Some cell → place < length cell.children → IsIn (Below above place) cells firsts trees
in_below above place cell cells firsts trees m stands few = record {
  met = λ home e. subst (λ (n : ℕ). 0 < times_in n trees) (some_home above home e) m;
  child = λ a p c e is.
      let same : above ≡ a = some_home above a (ap stands_in e) in
      let cell_is : cell ≡ c = some_is cell c (sym stands ∙ ap cells same ∙ is) in
      let place_is : place ≡ p = ap place_of e in
      let long : length cell.children ≡ length c.children = ap (λ (x : Cell). length x.children) cell_is in
      omega (arith, place_is, long, few);
  row = λ p e. absurd (off p e);
}
  where
    place_of : Pointer → ℕ
    place_of (Behind p) = 0
    place_of (Below a p) = p
    place_of (Root p) = p

    is_below : Pointer → Bool
    is_below (Behind p) = false
    is_below (Below a p) = true
    is_below (Root p) = false

    off : (p : ℕ) → Below above place ≡ Root p → ⊥
    off p e = true≢false (ap is_below e)

in_root : (place : ℕ) (cells : ℕ → Option Cell) (firsts : List ℕ) (trees : Chains) → place < length firsts → IsIn (Root place) cells firsts trees
in_root place cells firsts trees few = record {
  met = λ home e. absurd (none_home home e);
  child = λ a p cell e is. absurd (off a p e);
  row = λ p e. let same : place ≡ p = ap place_of e in omega (arith, same, few);
}
  where
    place_of : Pointer → ℕ
    place_of (Behind p) = 0
    place_of (Below a p) = p
    place_of (Root p) = p

    is_root : Pointer → Bool
    is_root (Behind p) = false
    is_root (Below a p) = false
    is_root (Root p) = true

    off : (a p : ℕ) → Root place ≡ Below a p → ⊥
    off a p e = true≢false (ap is_root e)

-- ---- cells that were put, and cells that are gone

put_off : (p : ℕ × Cell) (cells : ℕ → Option Cell) (home : ℕ) → (p.0 ≡ home → ⊥) → put p cells home ≡ cells home
put_off p cells home off = ap (λ (b : Bool). cond b (Some p.1) (cells home)) (ne_eqb (p.0) home off)

-- a new cell, and another pointer in a cell
sets_two : (pointer : Pointer) (to : ℕ) (cell new : ℕ × Cell) (cells : ℕ → Option Cell) → stands_in pointer ≡ Some (cell.0) → Some (cell.1) ≡ option_map (set_in_cell pointer to) (cells (cell.0)) → new.0 ≡ to → SetsPointer pointer to cells (put cell (put new cells)) (λ home. home ≢ to)
sets_two pointer to cell new cells stands is at_new = record {
  set = λ home e.
      let same : cell.0 ≡ home = some_home (cell.0) home (sym stands ∙ e) in
      subst (λ (n : ℕ). put cell (put new cells) n ≡ option_map (set_in_cell pointer to) (cells n)) same (ap (λ (b : Bool). cond b (Some cell.1) (put new cells (cell.0))) (eq-eqb (cell.0) (cell.0) refl) ∙ is);
  others = λ home stay off. put_off cell (put new cells) home (λ e. off (stands ∙ ap (λ (n : ℕ). Some n) e)) ∙ put_off new cells home (λ e. stay (sym e ∙ at_new));
}

-- a new cell, and another row
sets_row : (place to : ℕ) (new : ℕ × Cell) (cells : ℕ → Option Cell) → new.0 ≡ to → SetsPointer (Root place) to cells (put new cells) (λ home. home ≢ to)
sets_row place to new cells at_new = record { set = λ home e. absurd (none_home home e); others = λ home stay off. put_off new cells home (λ e. stay (sym e ∙ at_new)) }

away : (homes : List ℕ) (cells : ℕ → Option Cell) (home : ℕ) → list_any (λ h. h == home) homes ≡ false → gone homes cells home ≡ cells home
away homes cells home e = ap (λ (b : Bool). cond b None (cells home)) e

-- of trees these homes are met, and in the trees that are left just those aren't
record Leaves (homes : List ℕ) (old now : Chains) : Type 0 where
  pub left : list_all (λ h. nat_lt 0 (times_in h old) && (times_in h now == 0)) homes ≡ true
  pub others : list_all (λ h. nat_lt 0 (times_in h now) || list_any (λ g. g == h) homes) (homes_in old) ≡ true

met_passes : (test : ℕ → Bool) (home : ℕ) (xs : List ℕ) → list_all test xs ≡ true → 0 < met home xs → test home ≡ true
unfolding met
met_passes test home [] h m = absurd (omega (arith, m))
met_passes test home (x ∷ xs) h m = let p = and_parts (test x) (list_all test xs) h in by (x == home) refl m p.0 (λ n. met_passes test home xs p.1 n)
  where
    by : (b : Bool) → (x == home) ≡ b → 0 < cond b 1 0 + met home xs → test x ≡ true → (0 < met home xs → test home ≡ true) → test home ≡ true
    by true e m own rest = ap test (sym (eqb-true x home e)) ∙ own
    by false e m own rest = rest (omega (arith, m))

gone_is : (homes : List ℕ) (old now : Chains) (home : ℕ) → list_all (λ h. nat_lt 0 (times_in h old) && (times_in h now == 0)) homes ≡ true → list_any (λ h. h == home) homes ≡ true → (0 < times_in home old) × (times_in home now ≡ 0)
gone_is [] old now home h any = cc
gone_is (x ∷ homes) old now home h any =
    let p = and_parts (nat_lt 0 (times_in x old) && (times_in x now == 0)) (list_all (λ y. nat_lt 0 (times_in y old) && (times_in y now == 0)) homes) h in
    let q = and_parts (nat_lt 0 (times_in x old)) (times_in x now == 0) p.0 in
    by (x == home) refl any (ltb-true 0 (times_in x old) q.0) (eqb-true (times_in x now) 0 q.1) (λ a. gone_is homes old now home p.1 a)
  where
    by : (b : Bool) → (x == home) ≡ b → (b || list_any (λ h. h == home) homes) ≡ true → 0 < times_in x old → times_in x now ≡ 0 → (list_any (λ h. h == home) homes ≡ true → (0 < times_in home old) × (times_in home now ≡ 0)) → (0 < times_in home old) × (times_in home now ≡ 0)
    by true e a some_old none_now rest = (subst (λ (n : ℕ). 0 < times_in n old) (eqb-true x home e) some_old, subst (λ (n : ℕ). times_in n now ≡ 0) (eqb-true x home e) none_now)
    by false e a some_old none_now rest = rest a

-- what a home that is left out, or one that stays, is
outside : (homes : List ℕ) (old now : Chains) → Leaves homes old now → (home : ℕ) → 0 < times_in home old → times_in home now ≡ 0 → list_any (λ h. h == home) homes ≡ true
outside homes old now l home m none =
    let t = times_met_in home old in
    let e = met_passes (λ h. nat_lt 0 (times_in h now) || list_any (λ g. g == h) homes) home (homes_in old) l.others (omega (arith, t, m)) in
    elim (or_cases (nat_lt 0 (times_in home now)) (list_any (λ h. h == home) homes) e) [ inl lt ↦ (let some_now = ltb-true 0 (times_in home now) lt in absurd (omega (arith, some_now, none))) | inr any ↦ any ]

abbrev Stays : Chains → Chains → ℕ → Type 0
Stays old now home = 0 < times_in home old → 0 < times_in home now

-- what becomes of cells that a cut left out
record LeftOut (homes : List ℕ) (cells left : ℕ → Option Cell) : Type 0 where
  pub same : (home : ℕ) → list_any (λ h. h == home) homes ≡ false → left home ≡ cells home
  pub none : (home : ℕ) (cell : Cell) → list_any (λ h. h == home) homes ≡ true → left home ≡ Some cell → cell.copied ≡ true

stays_same : (homes : List ℕ) (cells left : ℕ → Option Cell) → LeftOut homes cells left → (old now : Chains) → Leaves homes old now → (home : ℕ) → Stays old now home → left home ≡ cells home
stays_same homes cells left o old now l home stay = by (list_any (λ h. h == home) homes) refl
  where
    by : (b : Bool) → list_any (λ h. h == home) homes ≡ b → left home ≡ cells home
    by true e = let g = gone_is homes old now home l.left e in let m = stay (g.0) in let z = g.1 in absurd (omega (arith, m, z))
    by false e = o.same home e

gone_out : (homes : List ℕ) (cells : ℕ → Option Cell) → LeftOut homes cells (gone homes cells)
gone_out homes cells = record {
  same = λ home e. ap (λ (b : Bool). cond b None (cells home)) e;
  none = λ home cell e is. absurd (none cell (sym (ap (λ (b : Bool). cond b None (cells home)) e) ∙ is));
}
  where
    none : (cell : Cell) → None ≡ Some cell → ⊥
    none cell e = cc

marked_out : (homes : List ℕ) (cells : ℕ → Option Cell) → LeftOut homes cells (marked homes cells)
marked_out homes cells = record {
  same = λ home e. ap (λ (b : Bool). cond b (option_map (λ (cell : Cell). record cell { copied = true }) (cells home)) (cells home)) e;
  none = λ home cell e is. copied (cells home) cell (sym (ap (λ (b : Bool). cond b (option_map (λ (cell : Cell). record cell { copied = true }) (cells home)) (cells home)) e) ∙ is);
}
  where
    copied : (o : Option Cell) (cell : Cell) → option_map (λ (c : Cell). record c { copied = true }) o ≡ Some cell → cell.copied ≡ true
    copied None cell e = cc
    copied (Some c) cell e = sym (ap (λ (x : Cell). x.copied) (some_is (record c { copied = true }) cell e))

-- a cut at a row, and one in a cell
cut_row : (place to : ℕ) (homes : List ℕ) (cells left : ℕ → Option Cell) → LeftOut homes cells left → (old now : Chains) → Leaves homes old now → SetsPointer (Root place) to cells left (Stays old now)
cut_row place to homes cells left o old now l = record { set = λ home e. absurd (none_home home e); others = λ home stay off. stays_same homes cells left o old now l home stay }

cut_cell : (pointer : Pointer) (to : ℕ) (cell : ℕ × Cell) (homes : List ℕ) (cells left : ℕ → Option Cell) → LeftOut homes cells left → (old now : Chains) → Leaves homes old now → stands_in pointer ≡ Some (cell.0) → Some (cell.1) ≡ option_map (set_in_cell pointer to) (cells (cell.0))
    → SetsPointer pointer to cells (put cell left) (Stays old now)
cut_cell pointer to cell homes cells left o old now l stands is = record {
  set = λ home e.
      let same : cell.0 ≡ home = some_home (cell.0) home (sym stands ∙ e) in
      subst (λ (n : ℕ). put cell left n ≡ option_map (set_in_cell pointer to) (cells n)) same (ap (λ (b : Bool). cond b (Some cell.1) (left (cell.0))) (eq-eqb (cell.0) (cell.0) refl) ∙ is);
  others = λ home stay off. put_off cell left home (λ e. off (stands ∙ ap (λ (n : ℕ). Some n) e)) ∙ stays_same homes cells left o old now l home stay;
}

left_copied : (homes : List ℕ) (cells left : ℕ → Option Cell) → LeftOut homes cells left → (old now : Chains) → Leaves homes old now → (home : ℕ) (cell : Cell) → 0 < times_in home old → times_in home now ≡ 0 → left home ≡ Some cell → cell.copied ≡ true
left_copied homes cells left o old now l home cell m none is = o.none home cell (outside homes old now l home m none) is

-- ---- roots

fits_head : (schema : Schema) (place : ℕ) (cells : ℕ → Option Cell) (rows : List RootRow) (at_row : ℕ) (r : RootRow) (new : Occurrence) (trees : Chains) → belongs schema place new ≡ true → slice_get rows at_row ≡ Some r → row_key_of schema new ≡ r.key
    → roots_rise schema (heads_in trees) ≡ true → (schema.phdam ≡ false → leads_in schema (Root at_row) cells rows ≡ 0) → FitsAsRoot schema place cells rows (Root at_row) new trees
fits_head schema place cells rows at_row r new trees own there key rise single = record {
  belongs = own;
  at_head = λ k q e is. key ∙ ap (λ (x : RootRow). x.key) (some_row r q (sym there ∙ ap (slice_get rows) (ap place_of e) ∙ is));
  behind = λ prior cell e is. absurd (off prior e);
  rising = rise;
  chained = λ prior e. absurd (off prior e);
  single = single;
}
  where
    some_row : (a b : RootRow) → Some a ≡ Some b → a ≡ b
    some_row a b e = cc

    place_of : Pointer → ℕ
    place_of (Behind p) = 0
    place_of (Below a p) = p
    place_of (Root p) = p

    is_root : Pointer → Bool
    is_root (Behind p) = false
    is_root (Below a p) = false
    is_root (Root p) = true

    off : (p : ℕ) → Root at_row ≡ Behind p → ⊥
    off p e = true≢false (ap is_root e)

fits_behind : (schema : Schema) (place : ℕ) (cells : ℕ → Option Cell) (rows : List RootRow) (prior : ℕ) (cell : Cell) (new : Occurrence) (trees : Chains) → belongs schema place new ≡ true → cells prior ≡ Some cell
    → row_key_of schema new ≡ row_key_of schema (segment_in prior cell) → roots_rise schema (heads_in trees) ≡ true → schema.phdam ≡ true → FitsAsRoot schema place cells rows (Behind prior) new trees
fits_behind schema place cells rows prior cell new trees own there key rise chained = record {
  belongs = own;
  at_head = λ k q e is. absurd (off k e);
  behind = λ p c e is.
      let same : prior ≡ p = some_home prior p (ap stands_in e) in
      key ∙ (λ i. row_key_of schema (segment_in (same i) (some_is cell c (sym there ∙ ap cells same ∙ is) i)));
  rising = rise;
  chained = λ p e. chained;
  single = λ e. absurd (true≢false (sym chained ∙ e));
}
  where
    is_behind : Pointer → Bool
    is_behind (Behind p) = true
    is_behind (Below a p) = false
    is_behind (Root p) = false

    off : (k : ℕ) → Behind prior ≡ Root k → ⊥
    off k e = true≢false (ap is_behind e)

side_of : (schema : Schema) (place : ℕ) (cells : ℕ → Option Cell) (rows : List RootRow) (trees : Chains) → IsWalked schema place cells rows trees → list_all (λ row. nat_lt 0 row.home) rows ≡ true → IsSideOf schema place cells rows trees
side_of schema place cells rows trees w used = record { walked = w; rows_are_used = used }

no_root : ◌≡◌ {A = ℕ} 2 1 → ⊥
no_root e = absurd (omega (arith, e))

apart_16 : (home n : ℕ) → n ≡ 0 → 0 < n → ⊥
apart_16 home n e m = absurd (omega (arith, e, m))

abbrev cell_16 : ℕ → Cell
cell_16 twin = (cell_at_home 16 1 twin (32 ∷ 112 ∷ []) (codes "001aa")).1

abbrev homes : List RootRow → List ℕ
homes rows = map (λ (r : RootRow). r.home) rows

pub make_sides : ChangedSides → ChangesMakeSides
unfolding here
make_sides changed =
    let w = sides.phidam_side.walked in
    let v = sides.phdam_side.walked in
    record {
      first_child =
          let now : ℕ → Option Cell = put (cell_at_home 96 1 0 (128 ∷ 0 ∷ []) (codes "700bb")) (put (cell_at_home 128 2 0 (0 ∷ []) (codes "05zz")) phidam_cells) in
          side_of phidam 0 now two_rows (with_segment (Below 96 0) (at 128 2 (codes "05zz")) 1 two_trees)
          (changed.inserts phidam 0 phidam_cells now two_rows two_trees (Below 96 0) (at 128 2 (codes "05zz")) w
          (in_below 96 0 ((cell_at_home 96 1 0 (0 ∷ 0 ∷ []) (codes "700bb")).1) (seen false phidam_cells) (homes two_rows) two_trees (some (times_in 96 two_trees) refl) refl (some 2 refl)) (some 128 refl) refl refl (λ e. absurd (no_root e)) refl
          (sets_two (Below 96 0) 128 (cell_at_home 96 1 0 (128 ∷ 0 ∷ []) (codes "700bb")) (cell_at_home 128 2 0 (0 ∷ []) (codes "05zz")) phidam_cells refl refl refl)) refl;
      behind_twin =
          let now : ℕ → Option Cell = put (cell_at_home 80 2 160 (0 ∷ []) (codes "01yy")) (put (cell_at_home 160 2 0 (0 ∷ []) (codes "09ww")) phidam_cells) in
          side_of phidam 0 now two_rows (with_segment (Behind 80) (at 160 2 (codes "09ww")) 1 two_trees)
          (changed.inserts phidam 0 phidam_cells now two_rows two_trees (Behind 80) (at 160 2 (codes "09ww")) w (in_behind 80 (seen false phidam_cells) (homes two_rows) two_trees (some (times_in 80 two_trees) refl)) (some 160 refl) refl refl
          (λ e. absurd (no_root e)) refl (sets_two (Behind 80) 160 (cell_at_home 80 2 160 (0 ∷ []) (codes "01yy")) (cell_at_home 160 2 0 (0 ∷ []) (codes "09ww")) phidam_cells refl refl refl)) refl;
      new_root =
          let now : ℕ → Option Cell = put (cell_at_home 176 1 0 (0 ∷ 0 ∷ []) (codes "500ee")) phidam_cells in
          let rows : List RootRow = row (codes "001") 16 ∷ row (codes "500") 0 ∷ row (codes "700") 96 ∷ [] in
          side_of phidam 0 now (row (codes "001") 16 ∷ row (codes "500") 176 ∷ row (codes "700") 96 ∷ []) (with_segment (Root 1) (at 176 1 (codes "500ee")) 2 (with_row 1 two_trees))
          (changed.inserts phidam 0 phidam_cells now rows (with_row 1 two_trees) (Root 1) (at 176 1 (codes "500ee")) (changed.row_comes phidam 0 phidam_cells two_rows two_trees 1 (codes "500") w (omega arith))
          (in_root 1 (seen false phidam_cells) (homes rows) (with_row 1 two_trees) (ltb-true 1 3 refl)) (some 176 refl) refl refl
          (λ e. fits_head phidam 0 phidam_cells rows 1 (row (codes "500") 0) (at 176 1 (codes "500ee")) (with_segment (Root 1) (at 176 1 (codes "500ee")) 2 (with_row 1 two_trees)) refl refl refl refl (λ _. refl)) refl
          (sets_row 1 176 (cell_at_home 176 1 0 (0 ∷ 0 ∷ []) (codes "500ee")) phidam_cells refl)) refl;
      behind_root =
          let now : ℕ → Option Cell = put (cell_at_home 16 1 176 (32 ∷ 112 ∷ []) (codes "001aa")) (put (cell_at_home 176 1 96 (0 ∷ 0 ∷ []) (codes "300ff")) phdam_cells) in
          side_of phdam 0 now one_row (with_segment (Behind 16) (at 176 1 (codes "300ff")) 2 one_tree)
          (changed.inserts phdam 0 phdam_cells now one_row one_tree (Behind 16) (at 176 1 (codes "300ff")) v (in_behind 16 (seen true phdam_cells) (homes one_row) one_tree (some (times_in 16 one_tree) refl)) (some 176 refl) refl refl
          (λ e. fits_behind phdam 0 phdam_cells one_row 16 (cell_16 96) (at 176 1 (codes "300ff")) (with_segment (Behind 16) (at 176 1 (codes "300ff")) 2 one_tree) refl refl refl refl refl) refl
          (sets_two (Behind 16) 176 (cell_at_home 16 1 176 (32 ∷ 112 ∷ []) (codes "001aa")) (cell_at_home 176 1 96 (0 ∷ 0 ∷ []) (codes "300ff")) phdam_cells refl refl refl)) refl;
      before_roots =
          let now : ℕ → Option Cell = put (cell_at_home 176 1 16 (0 ∷ 0 ∷ []) (codes "  1hh")) phdam_cells in
          side_of phdam 0 now (anchor_row 1 176 ∷ []) (with_segment (Root 0) (at 176 1 (codes "  1hh")) 2 one_tree)
          (changed.inserts phdam 0 phdam_cells now one_row one_tree (Root 0) (at 176 1 (codes "  1hh")) v (in_root 0 (seen true phdam_cells) (homes one_row) one_tree (some 1 refl)) (some 176 refl) refl refl
          (λ e. fits_head phdam 0 phdam_cells one_row 0 (anchor_row 1 16) (at 176 1 (codes "  1hh")) (with_segment (Root 0) (at 176 1 (codes "  1hh")) 2 one_tree) refl refl refl refl (λ f. absurd (true≢false f))) refl
          (sets_row 0 176 (cell_at_home 176 1 16 (0 ∷ 0 ∷ []) (codes "  1hh")) phdam_cells refl)) refl;
      new_anchor =
          let now : ℕ → Option Cell = put (cell_at_home 176 1 0 (0 ∷ 0 ∷ []) (codes "000kk")) phdam_cells in
          let rows : List RootRow = anchor_row 0 0 ∷ one_row in
          side_of phdam 0 now (anchor_row 0 176 ∷ one_row) (with_segment (Root 0) (at 176 1 (codes "000kk")) 2 (with_row 0 one_tree))
          (changed.inserts phdam 0 phdam_cells now rows (with_row 0 one_tree) (Root 0) (at 176 1 (codes "000kk")) (changed.row_comes phdam 0 phdam_cells one_row one_tree 0 (0 ∷ 0 ∷ 0 ∷ 0 ∷ []) v (omega arith))
          (in_root 0 (seen true phdam_cells) (homes rows) (with_row 0 one_tree) (some 2 refl)) (some 176 refl) refl refl
          (λ e. fits_head phdam 0 phdam_cells rows 0 (anchor_row 0 0) (at 176 1 (codes "000kk")) (with_segment (Root 0) (at 176 1 (codes "000kk")) 2 (with_row 0 one_tree)) refl refl refl refl (λ f. absurd (true≢false f))) refl
          (sets_row 0 176 (cell_at_home 176 1 0 (0 ∷ 0 ∷ []) (codes "000kk")) phdam_cells refl)) refl;
      cut_child =
          let hs : List ℕ = 32 ∷ 64 ∷ 48 ∷ [] in
          let left : ℕ → Option Cell = gone hs phidam_cells in
          let cell : ℕ × Cell = cell_at_home 16 1 144 (80 ∷ 112 ∷ []) (codes "001aa") in
          let result : Chains = without_segment (Below 16 0) two_trees in
          let l : Leaves hs two_trees result = record { left = refl; others = refl } in
          side_of phidam 0 (put cell left) two_rows result
          (changed.cuts phidam 0 phidam_cells (put cell left) two_rows two_trees (Below 16 0) ((cell_at_home 32 2 80 (64 ∷ []) (codes "01xx")).1) w
          (in_below 16 0 ((cell_at_home 16 1 0 (32 ∷ 112 ∷ []) (codes "001aa")).1) (seen false phidam_cells) (homes two_rows) two_trees (some (times_in 16 two_trees) refl) refl (some 2 refl)) (some 32 refl) refl
          (cut_cell (Below 16 0) 80 cell hs phidam_cells left (gone_out hs phidam_cells) two_trees result l refl refl)
          (λ home c m none is. left_copied hs phidam_cells left (gone_out hs phidam_cells) two_trees result l home c m none (sym (put_off cell left home (λ e. apart_16 home (times_in home result) none (subst (λ (n : ℕ). 0 < times_in n result) e (some (times_in 16 result) refl)))) ∙ is))) refl;
      cut_root =
          let hs : List ℕ = 96 ∷ [] in
          let left : ℕ → Option Cell = gone hs phidam_cells in
          let result : Chains = without_segment (Root 1) two_trees in
          let l : Leaves hs two_trees result = record { left = refl; others = refl } in
          side_of phidam 0 left (row (codes "001") 16 ∷ []) (without_row 1 result)
          (changed.row_goes phidam 0 left (row (codes "001") 16 ∷ row (codes "700") 0 ∷ []) result 1 (row (codes "700") 0)
          (changed.cuts phidam 0 phidam_cells left two_rows two_trees (Root 1) ((cell_at_home 96 1 0 (0 ∷ 0 ∷ []) (codes "700bb")).1) w (in_root 1 (seen false phidam_cells) (homes two_rows) two_trees (ltb-true 1 2 refl)) (some 96 refl) refl
          (cut_row 1 0 hs phidam_cells left (gone_out hs phidam_cells) two_trees result l) (λ home c m none is. left_copied hs phidam_cells left (gone_out hs phidam_cells) two_trees result l home c m none is)) refl refl) refl;
      copied =
          let hs : List ℕ = 16 ∷ 32 ∷ 64 ∷ 48 ∷ 80 ∷ 112 ∷ [] in
          let left : ℕ → Option Cell = marked hs phdam_cells in
          let result : Chains = without_segment (Root 0) one_tree in
          let l : Leaves hs one_tree result = record { left = refl; others = refl } in
          side_of phdam 0 left (anchor_row 1 96 ∷ []) result
          (changed.cuts phdam 0 phdam_cells left one_row one_tree (Root 0) (cell_16 96) v (in_root 0 (seen true phdam_cells) (homes one_row) one_tree (some 1 refl)) (some 16 refl) refl
          (cut_row 0 96 hs phdam_cells left (marked_out hs phdam_cells) one_tree result l) (λ home c m none is. left_copied hs phdam_cells left (marked_out hs phdam_cells) one_tree result l home c m none is)) refl;
      replaced =
          let cell : ℕ × Cell = cell_at_home 16 1 144 (32 ∷ 112 ∷ []) (codes "001zz") in
          side_of phidam 0 (put cell phidam_cells) two_rows (with_content_at 16 (codes "001zz") two_trees)
          (changed.replaces phidam 0 phidam_cells (put cell phidam_cells) two_rows two_trees 16 (codes "001zz") w refl (λ other off. put_off cell phidam_cells other (λ e. off (sym e)))
          (λ c is one. subst (λ (q : Cell). key_of phidam (segment_in 16 (set_content (codes "001zz") q)) ≡ key_of phidam (segment_in 16 q)) (some_is (cell_16 144) c is) refl)) refl;
    }

pub moved : ChangedSides → IsSideOf phidam 0 (marked (16 ∷ 32 ∷ 64 ∷ 48 ∷ 80 ∷ 112 ∷ []) phidam_cells) (row (codes "700") 96 ∷ []) (without_row 0 (without_segment (Root 0) two_trees))
unfolding here
moved changed =
    let w = sides.phidam_side.walked in
    let hs : List ℕ = 16 ∷ 32 ∷ 64 ∷ 48 ∷ 80 ∷ 112 ∷ [] in
    let left : ℕ → Option Cell = marked hs phidam_cells in
    let result : Chains = without_segment (Root 0) two_trees in
    let l : Leaves hs two_trees result = record { left = refl; others = refl } in
    side_of phidam 0 left (row (codes "700") 96 ∷ []) (without_row 0 result)
    (changed.row_goes phidam 0 left (row (codes "001") 0 ∷ row (codes "700") 96 ∷ []) result 0 (row (codes "001") 0)
    (changed.cuts phidam 0 phidam_cells left two_rows two_trees (Root 0) (cell_16 0) w (in_root 0 (seen false phidam_cells) (homes two_rows) two_trees (some 2 refl)) (some 16 refl) refl
    (cut_row 0 0 hs phidam_cells left (marked_out hs phidam_cells) two_trees result l) (λ home c m none is. left_copied hs phidam_cells left (marked_out hs phidam_cells) two_trees result l home c m none is)) refl refl) refl

pub make_forests : ChangedSides → ChangesOfOneSide → FirstChildrenAreInserted → FirstRootsAreInserted → LaterRootsAreInserted → EntriesHangInRecords → SidesAreForests → SidesMakeForests
unfolding here
make_forests changed one_side first_children first_roots later_roots hang forests =
    let all : AreAllSides phidam (output ∷ input ∷ []) = ((make_sides changed).cut_root, (moved changed, tt)) in
    let order : AreSidesInOrder phidam (output ∷ input ∷ []) = record { each = all; twins = refl; order = refl } in
    let cells : ℕ → Option Cell = seen false input.cells in
    let first = first_children phidam cells (96 ∷ []) (chain r7 no_chain) 96 0 ((cell_at_home 96 1 0 (0 ∷ 0 ∷ []) (codes "700bb")).1) (at 128 2 (codes "05zz")) 1
    (records_of phidam 0 input.cells input.rows (chain r7 no_chain) (moved changed).walked)
    (in_below 96 0 ((cell_at_home 96 1 0 (0 ∷ 0 ∷ []) (codes "700bb")).1) cells (96 ∷ []) (chain r7 no_chain) (some (times_in 96 (chain r7 no_chain)) refl) refl (some 2 refl)) refl refl refl refl (λ cell some_there is. absurd (none some_there)) in
    record {
      in_order = order;
      forest = forests phidam (output ∷ input ∷ []) order refl refl;
      disordered = refl;
      no_forest = refl;
      twins_fall = refl;
      no_twins = refl;
      grown_list = one_side.child phidam (output ∷ []) [] input grown (name_at 96) (at 128 2 (codes "05zz")) (record { sides = all; names = refl }) refl (some 2 refl) first;
      shorter_list = one_side.cut phidam [] (input ∷ []) output shorter (name_at 32) (record { sides = all; names = refl }) refl refl;
      root_list = first_roots phidam (with_row 1 two_trees) 1 (at 176 1 (codes "500ee")) 2 refl (ltb-true 1 3 refl) refl refl;
      entries = refl;
      hang = hang phidam [] (input ∷ []) output by_g all refl;
      before_list =
          first_children phidam (seen false phidam_cells) (homes two_rows) two_trees 16 0 (cell_16 0) (at 128 2 (codes "00qq")) 1 (records_of phidam 0 phidam_cells two_rows two_trees (sides.phidam_side.walked))
          (in_below 16 0 (cell_16 0) (seen false phidam_cells) (homes two_rows) two_trees (some (times_in 16 two_trees) refl) refl (some 2 refl)) refl refl refl refl
          (λ cell _ is. subst (λ (q : Cell). stays_behind phidam (at 128 2 (codes "00qq")) (segment_in 32 q) ≡ true) (some_is ((cell_at_home 32 2 80 (64 ∷ []) (codes "01xx")).1) cell is) refl);
      stays = refl;
      goes = refl;
      behind_list = later_roots phdam (seen true phdam_cells) (16 ∷ []) one_tree 16 (cell_16 96) (at 176 1 (codes "300ff")) 2
          (records_of phdam 0 phdam_cells one_row one_tree (sides.phdam_side.walked)) (some (times_in 16 one_tree) refl) refl refl refl refl;
      own_key = refl;
      other_key = refl;
      above = refl;
    }
  where
    none : 0 < 0 → ⊥
    none h = absurd (omega (arith, h))
