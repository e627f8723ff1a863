-- A span that was cut out: its cells are those of the tree to which the pointer led.
use Rattle.std.proofs.Common.{◌≡◌, ◌≢◌, ℕ, zero, suc, ◌+◌, ◌<◌, ◌≤◌, ◌==◌, ◌||◌, nat_lt, Bool, true, false, cond, List, [], ◌∷◌, length, Option, None, Some, ◌⊎◌, inl, inr, refl, sym, ap, subst, ◌∙◌, arith}
use Rattle.std.specs.Prelude.{slice_get, take, drop, option_and_then, IsSome, ⊤}
use Rattle.std.specs.List.{list_all, prefix_len, remove}
use Rattle.std.specs.Option.{option_map}
use Rattle.std.proofs.lemmas.Bool.{and_parts, and_from}
use Rattle.std.proofs.lemmas.List.{take-append-drop}
use Rattle.hal_base.specs.declared.pages.SetId.{SetId}
use Rattle.hal_base.specs.ShelfCalls.{ShelfView, SameShelf}
use Rattle.hal_schema.specs.declared.schema.Schema.{Schema}
use Rattle.hal_schema.specs.declared.schema.SegType.{SegType}
use Rattle.hal_schema.specs.Facts.{SchemasAreKept}
use Rattle.segment_blocks.specs.declared.tile.Cell.{Cell}
use Rattle.free_space.specs.declared.side.SideCells.{SideCells}
use Rattle.free_space.specs.Side.{lettered}
use Rattle.free_space.specs.SideCalls.{Finds, IsTold, StaysOpenOn, Turns, cells_of}
use Rattle.free_space.specs.SideLaws.{IsApart, NoneAtZero}
use Rattle.record_walk.specs.Tree.{Occurrence, Twins, no_segment, segment, Chains, no_chain, chain, first_of, cell_of, Hangs, HangIn, here, times, times_in}
use Rattle.record_walk.specs.Changes.{stands_in, set_in_cell, leads_to}
use Rattle.record_walk.specs.Listing.{Placed, list_of, list_in}
use Rattle.record_walk.specs.Pointers.{Pointer, Behind, Below, Root, with_chain, at_home, in_home, behind_first, without_segment}
use Rattle.record_walk.specs.Roots.{without_row, RowsComeAndGo}
use Rattle.record_walk.specs.Side.{RootRow, alone, seen, IsWalked, IsSideOf}
use Rattle.record_walk.specs.SideChanges.{ChangedSides, SetsPointer, IsInSide, leads_in, set_home, set_in_root_rows}
use Rattle.record_walk.specs.Spans.{AreRecords, IsIn, CutsAreSpans, lies_below, span_at, without_span_at}
use Rattle.record_walk.proofs.Hanging.{changes_outside_leave}
use Rattle.record_walk.proofs.Homes.{here_at, here_off, here_itself, at_or_off}
use Rattle.record_walk.proofs.Splitting.{ChainIn}
use Rattle.record_walk.proofs.OnLists.{count, count_append, counted_in, deepens, chain_of}
use Rattle.record_walk.proofs.KeptRecords.{met_of}
use Rattle.record_tree.specs.declared.descent.Fate.{Fate}
use Rattle.record_tree.specs.declared.descent.Fate.TheVariants.{Hole, Marked}
use Rattle.record_tree.specs.declared.place.Place.{Place}
use Rattle.record_tree.specs.declared.records.Records.{Records}
use Rattle.record_tree.specs.Changing.{ChangesSide}
use Rattle.record_tree.specs.Cutting.{Cuts, CutsCells, LeadsTo, ReadsForSpan, has_home}
use Rattle.record_tree.specs.Descending.{CanHangAt, ChangesCells, EndsSpan, EndsSpanAt, HangsAt, Parts, PartsFrom, ReadsSpanTwice, fate_of, rows_without, size, size_in}
use Rattle.record_tree.specs.Sides.{part_number, root_set, root_shape, root_rows, letters_of, shapes_of}
use Rattle.record_tree.specs.Standing.{IsOfSide, StandsForRecords, Walks, cells_seen, rows_seen}
use Rattle.record_tree.specs.Finding.{first_child}
use Rattle.record_tree.specs.Placing.{pointer_from}
use Rattle.record_tree.proofs.CellFrames.{told_same, told_before, told_first, cells_as}
use Rattle.record_tree.proofs.Descending.{seen_of, alone_copied, alone_children}
use Rattle.record_tree.proofs.Downward.{holds_same}
use Rattle.record_tree.proofs.Frames.{roots_apart}
use Rattle.record_tree.proofs.Leading.{homes, records_of}
use Rattle.record_tree.proofs.Seen.{some_is}
use Rattle.record_tree.proofs.Sizes.{changed_length, length_span, sized}
use Rattle.record_tree.proofs.Staying.{set_beside}

-- ---- the segment in whose cell a pointer stands stays

either_part : (a b : ℕ) → 0 < a + b → (0 < a) ⊎ (0 < b)
either_part a b h = by a refl
  where
    by : (n : ℕ) → a ≡ n → (0 < a) ⊎ (0 < b)
    by zero e = inr (omega (arith, h, e))
    by (suc n) e = inl (omega (arith, e))

mutual
  still_met : (home : ℕ) (under : Chains → Chains) (later : Twins → Twins) (twins : Twins) → 0 < times home twins → 0 < times home (at_home home (λ s below next. segment s (under below) (later next)) twins)
  still_met home under later no_segment m = absurd (omega (arith, m))
  still_met home under later (segment s below next) m = by (s.home == home) refl (λ k. still_met_in home under later below k) (λ k. still_met home under later next k)
    where
      edit : Occurrence → Chains → Twins → Twins
      edit s below next = segment s (under below) (later next)

      by : (b : Bool) → (s.home == home) ≡ b → (0 < times_in home below → 0 < times_in home (in_home home (λ s below next. segment s (under below) (later next)) below))
          → (0 < times home next → 0 < times home (at_home home (λ s below next. segment s (under below) (later next)) next))
          → 0 < times home (cond b (segment s (under below) (later next)) (segment s (in_home home (λ s below next. segment s (under below) (later next)) below) (at_home home (λ s below next. segment s (under below) (later next)) next)))
      by true e low high = let one = here_at home s e in omega (arith, one)
      by false e low high =
          let off = here_off home s e in
          parts (either_part (times_in home below) (times home next) (omega (arith, m, off)))
        where
          parts : (0 < times_in home below) ⊎ (0 < times home next) → 0 < times home (segment s (in_home home (λ s below next. segment s (under below) (later next)) below) (at_home home (λ s below next. segment s (under below) (later next)) next))
          parts (inl k) = let l = low k in omega (arith, l)
          parts (inr k) = let l = high k in omega (arith, l)

  still_met_in : (home : ℕ) (under : Chains → Chains) (later : Twins → Twins) (chains : Chains) → 0 < times_in home chains → 0 < times_in home (in_home home (λ s below next. segment s (under below) (later next)) chains)
  still_met_in home under later no_chain m = absurd (omega (arith, m))
  still_met_in home under later (chain twins more) m = parts (λ k. still_met home under later twins k) (λ k. still_met_in home under later more k) (either_part (times home twins) (times_in home more) m)
    where
      parts : (0 < times home twins → 0 < times home (at_home home (λ s below next. segment s (under below) (later next)) twins)) → (0 < times_in home more → 0 < times_in home (in_home home (λ s below next. segment s (under below) (later next)) more))
          → (0 < times home twins) ⊎ (0 < times_in home more) → 0 < times home (at_home home (λ s below next. segment s (under below) (later next)) twins) + times_in home (in_home home (λ s below next. segment s (under below) (later next)) more)
      parts first rest (inl k) = let l = first k in omega (arith, l)
      parts first rest (inr k) = let l = rest k in omega (arith, l)

holder_met : (pointer : Pointer) (cells : ℕ → Option Cell) (firsts : List ℕ) (trees : Chains) → IsIn pointer cells firsts trees → (home : ℕ) → stands_in pointer ≡ Some home → 0 < times_in home (without_segment pointer trees)
holder_met (Behind prior) cells firsts trees within home e =
    let same : prior ≡ home = some_is prior home e in
    subst (λ (h : ℕ). 0 < times_in h (without_segment (Behind prior) trees)) same (still_met_in prior (λ below. below) behind_first trees (within.met prior refl))
holder_met (Below above place) cells firsts trees within home e =
    let same : above ≡ home = some_is above home e in
    subst (λ (h : ℕ). 0 < times_in h (without_segment (Below above place) trees)) same (still_met_in above (with_chain place behind_first) (λ next. next) trees (within.met above refl))
holder_met (Root place) cells firsts trees within home e = absurd (let none : None ≡ Some home = e in cc)

-- ---- the tree to which a pointer leads, and its span

pub record CutTree (schema : Schema) (cells : ℕ → Option Cell) (pointer : Pointer) (at : ℕ) (trees : Chains) : Type 0 where
  pub s : Occurrence
  pub below : Chains
  pub next : Twins
  pub home : s.home ≡ at
  pub stands : cells at ≡ Some (cell_of s below next)
  pub hang : HangIn cells below
  pub met : (home : ℕ) → times_in home trees ≡ (here home s + times_in home below) + times_in home (without_segment pointer trees)
  pub spanned : (home : ℕ) → count home (span_at schema.types (list_in None trees) at) ≡ here home s + times_in home below
  pub many : length (span_at schema.types (list_in None trees) at) ≡ 1 + size_in below

-- a span and the list without it have the rows of the list
count_taken : (home n : ℕ) (list : List Placed) → count home (take n list) + count home (drop n list) ≡ count home list
count_taken home n list = sym (count_append home (take n list) (drop n list)) ∙ ap (count home) (take-append-drop n list)

count_span : (home : ℕ) (types : List SegType) (list : List Placed) (at : ℕ) → count home (span_at types list at) + count home (without_span_at types list at) ≡ count home list
unfolding count
count_span home types [] at = refl
count_span home types (p ∷ list) at = by (p.home == at) (count_taken home (prefix_len (lies_below types p) list) list) (count_span home types list at)
  where
    by : (b : Bool) → count home (take (prefix_len (lies_below types p) list) list) + count home (drop (prefix_len (lies_below types p) list) list) ≡ count home list
        → count home (span_at types list at) + count home (without_span_at types list at) ≡ count home list
        → count home (cond b (p ∷ take (prefix_len (lies_below types p) list) list) (span_at types list at)) + count home (cond b (drop (prefix_len (lies_below types p) list) list) (p ∷ without_span_at types list at)) ≡ cond (p.home == home) 1 0 + count home list
    by true taken rest = omega (arith, taken)
    by false taken rest = omega (arith, rest)

cut_tree : SchemasAreKept → CutsAreSpans → (schema : Schema) (cells : ℕ → Option Cell) (firsts : List ℕ) (trees : Chains) → AreRecords schema cells firsts trees → (pointer : Pointer) → IsIn pointer cells firsts trees → (at : ℕ) → leads_to pointer cells firsts ≡ at → at ≢ 0
    → CutTree schema cells pointer at trees
cut_tree kept spans schema cells firsts trees r pointer within at leads some = by (chain_of schema (deepens kept schema) cells firsts trees r pointer within behind_first)
  where
    types : List SegType
    types = schema.types

    rest : Chains
    rest = without_segment pointer trees

    by : ChainIn types cells (leads_to pointer cells firsts) behind_first (list_in None trees) (list_in None (without_segment pointer trees)) → CutTree schema cells pointer at trees
    by x = of x.twins refl
      where
        of : (twins : Twins) → x.twins ≡ twins → CutTree schema cells pointer at trees
        of no_segment e = absurd (some (sym (sym (ap first_of e) ∙ x.led ∙ leads)))
        of (segment s below next) e = record {
          s = s;
          below = below;
          next = next;
          home = home;
          stands = ap cells (sym home) ∙ hangs.1;
          hang = hangs.2;
          met = met;
          spanned = λ h.
              let m = met h in
              let parts = count_span h types (list_in None trees) at in
              let all = counted_in h None trees in
              let kept = counted_in h None rest ∙ ap (count h) (spans schema cells firsts trees pointer r within (omega (arith, leads, some)) ∙ ap (without_span_at types (list_in None trees)) leads) in
              omega (arith, m, parts, all, kept);
          many =
              let parts = length_span types (list_in None trees) at in
              let kept = ap (λ (l : List Placed). length l) (spans schema cells firsts trees pointer r within (omega (arith, leads, some)) ∙ ap (without_span_at types (list_in None trees)) leads) in
              let was = ap (λ (l : List Placed). length l) x.was in
              let is = ap (λ (l : List Placed). length l) x.is in
              let both = changed_length x.front x.back (list_of x.parent x.twins) (list_of x.parent (behind_first x.twins)) in
              let old = sized x.parent x.twins ∙ ap size e in
              let now = sized x.parent (behind_first x.twins) ∙ ap (λ (u : Twins). size (behind_first u)) e in
              omega (arith, parts, kept, was, is, both, old, now);
        }
          where
            home : s.home ≡ at
            home = sym (ap first_of e) ∙ x.led ∙ leads

            hangs : Hangs cells (segment s below next)
            hangs = subst (λ (u : Twins). Hangs cells u) e x.hangs

            met : (h : ℕ) → times_in h trees ≡ (here h s + times_in h below) + times_in h rest
            met h =
                let m = (met_of types cells (leads_to pointer cells firsts) behind_first trees rest x h).same in
                let a = ap (λ (u : Twins). times h u) e in
                let b = ap (λ (u : Twins). times h (behind_first u)) e in
                omega (arith, m, a, b)

-- ---- homes of the span

some_home : (home : ℕ) (list : List Placed) → has_home list home ≡ true → 0 < count home list
unfolding count
some_home home [] e = absurd (let wrong : false ≡ true = e in cc)
some_home home (p ∷ list) e = by (p.home == home) e (some_home home list)
  where
    by : (b : Bool) → (b || has_home list home) ≡ true → (has_home list home ≡ true → 0 < count home list) → 0 < cond b 1 0 + count home list
    by true f rest = omega arith
    by false f rest = let k = rest f in omega (arith, k)

no_home : (home : ℕ) (list : List Placed) → has_home list home ≡ false → count home list ≡ 0
unfolding count
no_home home [] e = refl
no_home home (p ∷ list) e = by (p.home == home) e (no_home home list)
  where
    by : (b : Bool) → (b || has_home list home) ≡ false → (has_home list home ≡ false → count home list ≡ 0) → cond b 1 0 + count home list ≡ 0
    by true f rest = absurd (let wrong : true ≡ false = f in cc)
    by false f rest = let k = rest f in omega (arith, k)

-- ---- a pointer was set past a row

pub record Passed (schema : Schema) (pointer : Pointer) (at : ℕ) (cut : Cell) (old mid : ℕ → Option Cell) (rows : List RootRow) (trees : Chains) : Type 0 where
  pub kind : schema.phdam ≡ false
  pub tree : CutTree schema (seen schema.phdam old) pointer at trees
  pub stands : old at ≡ Some cut
  pub within : IsInSide schema pointer old rows trees
  pub sets : SetsPointer pointer (alone cut).twin old mid (λ _. ⊤)
  pub once : (home : ℕ) → times_in home trees ≤ 1

abbrev span : {schema : Schema} {pointer : Pointer} {at : ℕ} {cut : Cell} {old mid : ℕ → Option Cell} {rows : List RootRow} {trees : Chains} → Passed schema pointer at cut old mid rows trees → ℕ → ℕ
span p home = here home p.tree.s + times_in home p.tree.below

-- the cell in which the pointer stands is none of the span
off_span : (schema : Schema) (pointer : Pointer) (at : ℕ) (cut : Cell) (old mid : ℕ → Option Cell) (rows : List RootRow) (trees : Chains) (p : Passed schema pointer at cut old mid rows trees) (home : ℕ) → stands_in pointer ≡ Some home → span p home ≡ 0
off_span schema pointer at cut old mid rows trees p home e =
    let there = holder_met pointer (seen schema.phdam old) (homes rows) trees p.within home e in
    let m = p.tree.met home in
    let o = p.once home in
    omega (arith, there, m, o)

stays_between : (schema : Schema) (pointer : Pointer) (at : ℕ) (cut : Cell) (old mid : ℕ → Option Cell) (rows : List RootRow) (trees : Chains) (p : Passed schema pointer at cut old mid rows trees) (home : ℕ) → 0 < span p home → mid home ≡ old home
stays_between schema pointer at cut old mid rows trees p home m = p.sets.others home tt (λ e. let z = off_span schema pointer at cut old mid rows trees p home e in omega (arith, z, m))

cut_is : (schema : Schema) (pointer : Pointer) (at : ℕ) (cut : Cell) (old mid : ℕ → Option Cell) (rows : List RootRow) (trees : Chains) (p : Passed schema pointer at cut old mid rows trees) → alone cut ≡ cell_of p.tree.s p.tree.below p.tree.next
cut_is schema pointer at cut old mid rows trees p =
    let x = seen_of old at (cell_of p.tree.s p.tree.below p.tree.next) (subst (λ (b : Bool). seen b old at ≡ Some (cell_of p.tree.s p.tree.below p.tree.next)) p.kind p.tree.stands) in
    ap alone (some_is cut x.cell (sym p.stands ∙ x.is)) ∙ x.same

own_here : (schema : Schema) (pointer : Pointer) (at : ℕ) (cut : Cell) (old mid : ℕ → Option Cell) (rows : List RootRow) (trees : Chains) (p : Passed schema pointer at cut old mid rows trees) → here at p.tree.s ≡ 1
own_here schema pointer at cut old mid rows trees p = ap (λ (n : ℕ). here n p.tree.s) (sym p.tree.home) ∙ here_itself p.tree.s

pub hangs_below : (schema : Schema) (pointer : Pointer) (at : ℕ) (cut : Cell) (old mid : ℕ → Option Cell) (rows : List RootRow) (trees : Chains) (p : Passed schema pointer at cut old mid rows trees) → HangsAt mid at p.tree.below
hangs_below schema pointer at cut old mid rows trees p =
    let own = own_here schema pointer at cut old mid rows trees p in
    let is = cut_is schema pointer at cut old mid rows trees p in
    let stay : (home : ℕ) → 0 < span p home → mid home ≡ old home = stays_between schema pointer at cut old mid rows trees p in
    record {
      cell = cut;
      stands = stay at (omega (arith, own)) ∙ p.stands;
      uncopied = sym (alone_copied cut) ∙ ap (λ (c : Cell). c.copied) is;
      pend = record {
        hang = changes_outside_leave (seen false old) (seen false mid) p.tree.below (subst (λ (b : Bool). HangIn (seen b old) p.tree.below) p.kind p.tree.hang) (λ home m. ap (option_map alone) (stay home (omega (arith, m))));
        firsts = sym (ap (λ (c : Cell). c.children) is) ∙ alone_children cut;
        once = λ home. let m = p.tree.met home in let o = p.once home in omega (arith, m, o);
      };
      apart = let m = p.tree.met at in let o = p.once at in omega (arith, m, o, own);
    }

-- ---- and what hung from it got its fate

pub record Cutout (schema : Schema) (fate : Fate) (pointer : Pointer) (at : ℕ) (cut : Cell) (old mid new : ℕ → Option Cell) (rows : List RootRow) (trees : Chains) : Type 0 where
  pub passed : Passed schema pointer at cut old mid rows trees
  pub ends : EndsSpan (fate_of fate) at passed.tree.below mid new

cell_ended : (schema : Schema) (fate : Fate) (pointer : Pointer) (at : ℕ) (cut : Cell) (old mid new : ℕ → Option Cell) (rows : List RootRow) (trees : Chains) (c : Cutout schema fate pointer at cut old mid new rows trees) (home : ℕ) → 0 < span c.passed home
    → new home ≡ option_and_then (fate_of fate) (old home)
cell_ended schema fate pointer at cut old mid new rows trees c home m = by (at_or_off home p.tree.s) ∙ ap (option_and_then (fate_of fate)) (stays_between schema pointer at cut old mid rows trees p home m)
  where
    p : Passed schema pointer at cut old mid rows trees
    p = c.passed

    by : ((p.tree.s.home ≡ home) × (here home p.tree.s ≡ 1)) ⊎ (here home p.tree.s ≡ 0) → new home ≡ option_and_then (fate_of fate) (mid home)
    by (inl (is, one)) = let e : at ≡ home = sym p.tree.home ∙ is in subst (λ (h : ℕ). new h ≡ option_and_then (fate_of fate) (mid h)) e c.ends.top
    by (inr off) = c.ends.ended home (omega (arith, off, m))

cell_stays : (schema : Schema) (fate : Fate) (pointer : Pointer) (at : ℕ) (cut : Cell) (old mid new : ℕ → Option Cell) (rows : List RootRow) (trees : Chains) (c : Cutout schema fate pointer at cut old mid new rows trees) (home : ℕ) → span c.passed home ≡ 0 → new home ≡ mid home
cell_stays schema fate pointer at cut old mid new rows trees c home z =
    let own = own_here schema pointer at cut old mid rows trees c.passed in
    c.ends.elsewhere home (λ e. let k : here at c.passed.tree.s ≡ here home c.passed.tree.s = ap (λ (h : ℕ). here h c.passed.tree.s) (sym e) in omega (arith, own, k, z)) (omega (arith, z))

pub cells_cut : (schema : Schema) (fate : Fate) (pointer shown : Pointer) (at : ℕ) (cut : Cell) (old mid new : ℕ → Option Cell) (rows : List RootRow) (trees : Chains) → Cutout schema fate pointer at cut old mid new rows trees → stands_in shown ≡ stands_in pointer
    → SetsPointer shown (alone cut).twin old mid (λ _. ⊤) → CutsCells (fate_of fate) shown (span_at schema.types (list_in None trees) at) cut old new
cells_cut schema fate pointer shown at cut old mid new rows trees c same sets = record {
  ended = λ home e. let k = some_home home list e in let n = c.passed.tree.spanned home in cell_ended schema fate pointer at cut old mid new rows trees c home (omega (arith, k, n));
  passed = record {
    set = λ home e. cell_stays schema fate pointer at cut old mid new rows trees c home (off_span schema pointer at cut old mid rows trees c.passed home (sym same ∙ e)) ∙ sets.set home e;
    others = λ home e off. let k = no_home home list e in let n = c.passed.tree.spanned home in cell_stays schema fate pointer at cut old mid new rows trees c home (omega (arith, k, n)) ∙ sets.others home tt off;
  };
}
  where
    list : List Placed
    list = span_at schema.types (list_in None trees) at

-- no cell is left uncopied by its fate
fate_copied : (fate : Fate) (o : Option Cell) (cell : Cell) → option_and_then (fate_of fate) o ≡ Some cell → cell.copied ≡ true
fate_copied fate None cell e = absurd (let none : None ≡ Some cell = e in cc)
fate_copied Hole (Some old) cell e = absurd (let none : None ≡ Some cell = e in cc)
fate_copied Marked (Some old) cell e = let same = some_is (record old { copied = true }) cell e in ap (λ (c : Cell). c.copied) (sym same)

pub cut_walked : ChangedSides → (schema : Schema) (place : ℕ) (fate : Fate) (pointer : Pointer) (at : ℕ) (cut : Cell) (old mid new : ℕ → Option Cell) (rows : List RootRow) (trees : Chains) → Cutout schema fate pointer at cut old mid new rows trees → at ≢ 0
    → leads_in schema pointer old rows ≡ at → IsWalked schema place old rows trees → IsWalked schema place new (set_in_root_rows pointer (alone cut).twin rows) (without_segment pointer trees)
cut_walked law schema place fate pointer at cut old mid new rows trees c some leads w =
    subst (λ (n : ℕ). IsWalked schema place new (set_in_root_rows pointer n rows) (without_segment pointer trees)) (sym twin)
    (law.cuts schema place old new rows trees pointer seen_cell w p.within (omega (arith, leads, some)) (ap (seen schema.phdam old) leads ∙ p.tree.stands)
    (record {
      set = λ home e. cell_stays schema fate pointer at cut old mid new rows trees c home (off_span schema pointer at cut old mid rows trees p home e) ∙ subst (λ (n : ℕ). mid home ≡ option_map (set_in_cell pointer n) (old home)) twin (p.sets.set home e);
      others = λ home stay off. cell_stays schema fate pointer at cut old mid new rows trees c home (not_cut home stay (times_in home trees) refl) ∙ p.sets.others home tt off;
    })
    (λ home cell m none is. let n = p.tree.met home in fate_copied fate (old home) cell (sym (cell_ended schema fate pointer at cut old mid new rows trees c home (omega (arith, n, m, none))) ∙ is)))
  where
    p : Passed schema pointer at cut old mid rows trees
    p = c.passed

    seen_cell : Cell
    seen_cell = cell_of p.tree.s p.tree.below p.tree.next

    twin : (alone cut).twin ≡ first_of p.tree.next
    twin = ap (λ (k : Cell). k.twin) (cut_is schema pointer at cut old mid rows trees p)

    not_cut : (home : ℕ) → (0 < times_in home trees → 0 < times_in home (without_segment pointer trees)) → (n : ℕ) → times_in home trees ≡ n → span p home ≡ 0
    not_cut home stay zero e = let m = p.tree.met home in omega (arith, m, e)
    not_cut home stay (suc n) e = let k = stay (omega (arith, e)) in let m = p.tree.met home in let o = p.once home in omega (arith, m, o, k)

-- ---- the row of a root that is cut out goes

pub record After (schema : Schema) (place : ℕ) (now : ℕ → Option Cell) (rows : List RootRow) (list : List Placed) : Type 0 where
  pub trees : Chains
  pub side : IsSideOf schema place now rows trees
  pub same : list_in None trees ≡ list

abbrev used : List RootRow → Bool
used rows = list_all (λ (row : RootRow). nat_lt 0 row.home) rows

removed_used : (rows : List RootRow) (k : ℕ) → used rows ≡ true → used (remove rows k) ≡ true
removed_used [] zero e = refl
removed_used [] (suc k) e = refl
removed_used (row ∷ rows) zero e = (and_parts (nat_lt 0 row.home) (used rows) e).1
removed_used (row ∷ rows) (suc k) e = let a = and_parts (nat_lt 0 row.home) (used rows) e in and_from (nat_lt 0 row.home) (used (remove rows k)) a.0 (removed_used rows k a.1)

removed_set : (rows : List RootRow) (k to : ℕ) → remove (set_home k to rows) k ≡ remove rows k
removed_set [] zero to = refl
removed_set [] (suc k) to = refl
removed_set (row ∷ rows) zero to = refl
removed_set (row ∷ rows) (suc k) to = ap (λ (l : List RootRow). row ∷ l) (removed_set rows k to)

record EmptyRow (rows : List RootRow) (k : ℕ) : Type 0 where
  pub row : RootRow
  pub at : slice_get rows k ≡ Some row
  pub none : row.home ≡ 0
  pub home_at : slice_get (homes rows) k ≡ Some 0

empty_row : (rows : List RootRow) (k : ℕ) → k < length (homes rows) → EmptyRow (set_home k 0 rows) k
empty_row [] k lt = absurd (omega (arith, lt))
empty_row (row ∷ rows) zero lt = record { row = record row { home = 0 }; at = refl; none = refl; home_at = refl }
empty_row (row ∷ rows) (suc k) lt = let e = empty_row rows k (omega (arith, lt)) in record { row = e.row; at = e.at; none = e.none; home_at = e.home_at }

pub after_cut : ChangedSides → RowsComeAndGo → (schema : Schema) (place : ℕ) (now : ℕ → Option Cell) (rows later : List RootRow) (trees : Chains) (pointer : Pointer) (twin : ℕ) → ((k : ℕ) → pointer ≡ Root k → twin ≡ 0) → ((k : ℕ) → pointer ≡ Root k → k < length (homes rows))
    → later ≡ rows_without pointer rows → used rows ≡ true → IsWalked schema place now (set_in_root_rows pointer twin rows) (without_segment pointer trees) → After schema place now later (list_in None (without_segment pointer trees))
after_cut law go schema place now rows later trees (Behind prior) twin single lt is all w = record {
  trees = without_segment (Behind prior) trees;
  side = subst (λ (l : List RootRow). IsSideOf schema place now l (without_segment (Behind prior) trees)) (sym is) (record { walked = w; rows_are_used = all });
  same = refl;
}
after_cut law go schema place now rows later trees (Below above k) twin single lt is all w = record {
  trees = without_segment (Below above k) trees;
  side = subst (λ (l : List RootRow). IsSideOf schema place now l (without_segment (Below above k) trees)) (sym is) (record { walked = w; rows_are_used = all });
  same = refl;
}
after_cut law go schema place now rows later trees (Root k) twin single lt is all w =
    let tree : Chains = without_segment (Root k) trees in
    let v : IsWalked schema place now (set_home k 0 rows) tree = subst (λ (n : ℕ). IsWalked schema place now (set_home k n rows) tree) (single k refl) w in
    let e = empty_row rows k (lt k refl) in
    record {
      trees = without_row k tree;
      side = subst (λ (l : List RootRow). IsSideOf schema place now l (without_row k tree)) (removed_set rows k 0 ∙ sym is)
          (record {
            walked = law.row_goes schema place now (set_home k 0 rows) tree k e.row v e.at e.none;
            rows_are_used = ap used (removed_set rows k 0) ∙ removed_used rows k all;
          });
      same = (go.go schema (seen schema.phdam now) (homes (set_home k 0 rows)) tree k (records_of schema place now (set_home k 0 rows) tree v) e.home_at).list;
    }

-- ---- on the shelf

-- what is seen of a side that was only read
pub walks_same : (records : Records) (old new : ShelfView) → SameShelf old new → (trees : Chains) → Walks records old trees → Walks records new trees
walks_same records old new same trees walks = record {
  told = told_same records.cells old new same walks.told;
  side = subst (λ (l : List RootRow). IsSideOf records.schema records.place (cells_seen records new) l trees) (sym (ap (root_rows records.roots.shape) (same.pages records.roots.set)))
      (subst (λ (f : ℕ → Option Cell). IsSideOf records.schema records.place f (rows_seen records old) trees) (sym (cells_as records.cells old new same)) walks.side);
}

-- the pointer to a row was set past it
passed_of : SchemasAreKept → CutsAreSpans → (records now : Records) (shown : Pointer) (at : ℕ) (cell : Cell) (old mid : ShelfView) → StandsForRecords records old → at ≢ 0 → (parts : PartsFrom records now shown at cell old mid) (trees : Chains) (walks : Walks records old trees)
    → cells_seen records old at ≡ Some cell → Passed records.schema (parts.parts trees walks).pointer at cell (cells_seen records old) (cells_seen records mid) (rows_seen records old) trees
passed_of kept spans records now shown at cell old mid stands some parts trees walks is =
    let p = parts.parts trees walks in
    let w = walks.side.walked in
    record {
      kind = stands.of.kind;
      tree = cut_tree kept spans records.schema (seen records.schema.phdam (cells_seen records old)) (homes (rows_seen records old)) trees (records_of records.schema records.place (cells_seen records old) (rows_seen records old) trees w) p.pointer p.within at p.leads some;
      stands = is;
      within = p.within;
      sets = p.sets;
      once = w.once;
    }

-- so its cells can be gone through
pub can_hang : SchemasAreKept → CutsAreSpans → (records now : Records) (shown : Pointer) (at : ℕ) (cell : Cell) (old mid : ShelfView) → StandsForRecords records old → (IsTold records.cells old → at ≢ 0) → PartsFrom records now shown at cell old mid
    → (IsTold records.cells old → cells_seen records old at ≡ Some cell) → (IsTold records.cells mid → IsTold records.cells old) → IsTold now.cells mid → CanHangAt (cells_of now.cells mid) at
can_hang kept spans records now shown at cell old mid stands some parts fact back told =
    let was : IsTold records.cells old = back (subst (λ (c : SideCells). IsTold c mid) parts.same_cells told) in
    let side = stands.side was in
    let walks : Walks records old (side.0) = record { told = was; side = side.1 } in
    let p = passed_of kept spans records now shown at cell old mid stands (some was) parts (side.0) walks (fact was) in
    subst (λ (c : SideCells). CanHangAt (cells_of c mid) at) (sym parts.same_cells)
    (p.tree.below, hangs_below records.schema (parts.parts (side.0) walks).pointer at cell (cells_seen records old) (cells_seen records mid) (rows_seen records old) (side.0) p)

-- the side is that of the definition still
of_side_as : (records now : Records) → IsOfSide records → now.schema ≡ records.schema → now.place ≡ records.place → now.first ≡ records.first → now.cells.first ≡ records.cells.first → now.cells.letters ≡ records.cells.letters → now.cells.shapes ≡ records.cells.shapes
    → now.roots.set ≡ records.roots.set → now.roots.shape ≡ records.roots.shape → IsOfSide now
of_side_as records now of schema place first cells letters shapes set shape = record {
  part = ap (λ (f : SetId). f.part) first ∙ of.part ∙ sym (ap (λ (s : Schema). part_number s now.place) schema ∙ ap (part_number records.schema) place);
  first = cells ∙ of.first ∙ sym first;
  letters = letters ∙ of.letters ∙ sym (ap letters_of schema);
  shapes = shapes ∙ of.shapes ∙ sym (ap shapes_of schema);
  roots = set ∙ of.roots ∙ sym (ap root_set first);
  shape = shape ∙ of.shape ∙ sym (ap root_shape schema);
  kind = ap (λ (s : Schema). s.phdam) schema ∙ of.kind;
}

-- the object with other cells
abbrev pub with_cells : Records → SideCells → Records
with_cells records cells = record records { cells = cells }

pub record CutFacts (records parted : Records) (cells : SideCells) (place : Place) (at : ℕ) (fate : Fate) (cell : Cell) (old mid new : ShelfView) : Type 0 where
  pub stands : StandsForRecords records old
  pub some : IsTold records.cells old → at ≢ 0
  pub fact : IsTold records.cells old → cells_seen records old at ≡ Some cell
  pub parts : PartsFrom records parted (pointer_from records.schema cell.code place.parent place.prior) at cell old mid
  pub stays : StaysOpenOn parted.cells cells new
  pub ends : Turns parted.cells cells mid new (EndsSpanAt (fate_of fate) at)
  pub row_pages : new.pages parted.roots.set ≡ mid.pages parted.roots.set
  pub row_places : new.places parted.roots.set ≡ mid.places parted.roots.set
  pub back : IsTold parted.cells new → IsTold records.cells old

-- what was told and done, in the words of the walk
record CutDone (records parted : Records) (cells : SideCells) (place : Place) (at : ℕ) (fate : Fate) (cell : Cell) (old new : ShelfView) (trees : Chains) : Type 0 where
  pub told : IsTold cells new
  pub after : After records.schema records.place (cells_of cells new) (root_rows parted.roots.shape (new.pages parted.roots.set)) (without_span_at records.schema.types (list_in None trees) at)
  pub cut : CutsCells (fate_of fate) (pointer_from records.schema cell.code place.parent place.prior) (span_at records.schema.types (list_in None trees) at) cell (cells_seen records old) (cells_of cells new)

cut_by : SchemasAreKept → CutsAreSpans → ChangedSides → RowsComeAndGo → (records parted : Records) (cells : SideCells) (place : Place) (at : ℕ) (fate : Fate) (cell : Cell) (old mid new : ShelfView) → CutFacts records parted cells place at fate cell old mid new
    → (trees : Chains) → Walks records old trees → CutDone records parted cells place at fate cell old new trees
cut_by kept spans law go records parted cells place at fate cell old mid new f trees walks = record {
  told = ended.0;
  after = record {
    trees = after.trees;
    side = after.side;
    same = after.same ∙ spans schema (seen schema.phdam before) (homes rows) trees p.pointer (records_of schema records.place before rows trees w) p.within (omega (arith, leads, some)) ∙ ap (without_span_at schema.types (list_in None trees)) p.leads;
  };
  cut = cells_cut schema fate p.pointer shown at cell before between later rows trees cutout p.holder p.sets_shown;
}
  where
    schema : Schema
    schema = records.schema

    shown : Pointer
    shown = pointer_from records.schema cell.code place.parent place.prior

    before : ℕ → Option Cell
    before = cells_seen records old

    between : ℕ → Option Cell
    between = cells_seen records mid

    later : ℕ → Option Cell
    later = cells_of cells new

    rows : List RootRow
    rows = rows_seen records old

    w : IsWalked schema records.place before rows trees
    w = walks.side.walked

    some : at ≢ 0
    some = f.some walks.told

    p : Parts schema shown at (alone cell).twin before between rows (rows_seen parted mid) trees
    p = f.parts.parts trees walks

    leads : leads_in schema p.pointer before rows ≡ at
    leads = p.leads

    passed : Passed schema p.pointer at cell before between rows trees
    passed = passed_of kept spans records parted shown at cell old mid f.stands some f.parts trees walks (f.fact walks.told)

    ended : IsTold cells new × EndsSpanAt (fate_of fate) at between later
    ended = subst (λ (c : SideCells). Turns c cells mid new (EndsSpanAt (fate_of fate) at)) f.parts.same_cells f.ends (f.parts.told walks.told)

    cutout : Cutout schema fate p.pointer at cell before between later rows trees
    cutout = record { passed = passed; ends = ended.1 passed.tree.below (hangs_below schema p.pointer at cell before between rows trees passed) }

    after : After schema records.place later (root_rows parted.roots.shape (new.pages parted.roots.set)) (list_in None (without_segment p.pointer trees))
    after = after_cut law go schema records.place later rows (root_rows parted.roots.shape (new.pages parted.roots.set)) trees p.pointer (alone cell).twin p.single (λ k e. p.within.row k e) (ap (root_rows parted.roots.shape) f.row_pages ∙ p.rows_are)
        walks.side.rows_are_used (cut_walked law schema records.place fate p.pointer at cell before between later rows trees cutout some p.leads w)

pub cut_done : SchemasAreKept → CutsAreSpans → ChangedSides → RowsComeAndGo → (records parted : Records) (cells : SideCells) (place : Place) (at : ℕ) (fate : Fate) (cell : Cell) (old mid new : ShelfView) → CutFacts records parted cells place at fate cell old mid new
    → Cuts (fate_of fate) records (with_cells parted cells) place at old new
cut_done kept spans law go records parted cells place at fate cell old mid new f = record {
  stays = record {
    schema = f.parts.schema;
    place = f.parts.place;
    first = f.parts.first;
    stands = record {
      of = of_side_as records now f.stands.of f.parts.schema f.parts.place f.parts.first (f.stays.first ∙ ap (λ (c : SideCells). c.first) f.parts.same_cells) (f.stays.letters ∙ ap (λ (c : SideCells). c.letters) f.parts.same_cells)
          (f.stays.shapes ∙ ap (λ (c : SideCells). c.shapes) f.parts.same_cells) f.parts.set f.parts.shape;
      cells = f.stays.stands;
      roots = set_beside parted.roots mid new f.parts.roots f.row_pages f.row_places;
      side = λ told.
          let was : IsTold records.cells old = f.back (subst (λ (s : SetId). IsSome (new.pages s)) f.stays.first told) in
          let side = f.stands.side was in
          let d = done (side.0) (record { told = was; side = side.1 }) in
          (d.after.trees, as_now d.after.trees d.after.side);
    };
  };
  list = λ trees walks.
      let d = done trees walks in
      record { trees = d.after.trees; walks = record { told = d.told; side = as_now d.after.trees d.after.side }; leads = d.after.same };
  cells = λ trees other walks is.
      let d = done trees walks in
      subst (λ (c : Cell). CutsCells (fate_of fate) (pointer_from records.schema c.code place.parent place.prior) (span_at records.schema.types (list_in None trees) at) c (cells_seen records old) (cells_seen now new)) (some_is cell other (sym (f.fact walks.told) ∙ is)) d.cut;
}
  where
    now : Records
    now = with_cells parted cells

    done : (trees : Chains) → Walks records old trees → CutDone records parted cells place at fate cell old new trees
    done trees walks = cut_by kept spans law go records parted cells place at fate cell old mid new f trees walks

    as_now : (trees : Chains) → IsSideOf records.schema records.place (cells_of cells new) (root_rows parted.roots.shape (new.pages parted.roots.set)) trees → IsSideOf now.schema now.place (cells_seen now new) (rows_seen now new) trees
    as_now trees side =
        subst (λ (s : Schema). IsSideOf s now.place (cells_seen now new) (rows_seen now new) trees) (sym f.parts.schema) (subst (λ (n : ℕ). IsSideOf records.schema n (cells_seen now new) (rows_seen now new) trees) (sym f.parts.place) side)

-- ---- the whole call

pub leads_same : (records : Records) (old mid : ShelfView) (place : Place) (at : ℕ) → SameShelf old mid → LeadsTo records old place at → LeadsTo records mid place at
leads_same records old mid place at same leads = record {
  row = holds_same records.cells old mid at (λ cell. (cell.copied ≡ false) × (place.parent ≡ None → cell.code ≡ 1)) same leads.row;
  twin = λ above prior e f. holds_same records.cells old mid prior (λ cell. (cell.copied ≡ false) × ((cell.code ≢ 1) × (cell.twin ≡ at))) same (leads.twin above prior e f);
  child = λ above own e f there. holds_same records.cells old mid above (λ cell. (cell.copied ≡ false) × (first_child records.schema own.code cell ≡ at)) same
      (leads.child above own e f (ap (λ (c : ℕ → Option Cell). c at) (sym (cells_as records.cells old mid same)) ∙ there));
}

pub found_same : (cells : SideCells) (old mid : ShelfView) (at : ℕ) (cell : Cell) → SameShelf old mid → Finds cells old at (Some cell) → Finds cells mid at (Some cell)
found_same cells old mid at cell same found told = ap (λ (c : ℕ → Option Cell). c at) (cells_as cells old mid same) ∙ found (told_before cells old mid same told)

pub cuts_same : (fate : Cell → Option Cell) (records now : Records) (place : Place) (at : ℕ) (old mid later : ShelfView) → SameShelf old mid → Cuts fate records now place at mid later → Cuts fate records now place at old later
cuts_same fate records now place at old mid later same cuts = record {
  stays = cuts.stays;
  list = λ trees walks. cuts.list trees (walks_same records old mid same trees walks);
  cells = λ trees cell walks is.
      subst (λ (c : ℕ → Option Cell). CutsCells fate (pointer_from records.schema cell.code place.parent place.prior) (span_at records.schema.types (list_in None trees) at) cell c (cells_seen now later)) (cells_as records.cells old mid same)
      (cuts.cells trees cell (walks_same records old mid same trees walks) (ap (λ (c : ℕ → Option Cell). c at) (cells_as records.cells old mid same) ∙ is));
}

pub told_back_side : {s f : Type 0} (records : Records) (old new : ShelfView) → ChangesSide 0 records s f old new → (set : SetId) → IsSome (new.pages set) → IsSome (old.pages set)
told_back_side records old new changes set told = by (old.pages set) refl
  where
    by : (o : Option (List (List ℕ))) → old.pages set ≡ o → IsSome o
    by None is = subst (λ (p : Option (List (List ℕ))). IsSome p) (changes.untold set is) told
    by (Some pages) is = refl

pub rows_apart : (records parted : Records) (shelf : ShelfView) → StandsForRecords records shelf → parted.cells ≡ records.cells → parted.roots.set ≡ records.roots.set → IsApart parted.cells parted.roots.set
rows_apart records parted shelf stands cells set = λ k below e.
    roots_apart records.cells.first k stands.cells.first below (ap (λ (c : SideCells). lettered c.first k) (sym cells) ∙ e ∙ set ∙ stands.of.roots ∙ ap root_set (sym stands.of.first))

pub facts_of : {s t f h : Type 0} (records parted : Records) (cells : SideCells) (place : Place) (at : ℕ) (fate : Fate) (cell : Cell) (old mid new : ShelfView) → NoneAtZero → StandsForRecords records old → Finds records.cells old at (Some cell)
    → PartsFrom records parted (pointer_from records.schema cell.code place.parent place.prior) at cell old mid → ChangesSide 0 records s f old mid → StaysOpenOn parted.cells cells new → ChangesCells parted.cells t h mid new
    → Turns parted.cells cells mid new (EndsSpanAt (fate_of fate) at) → CutFacts records parted cells place at fate cell old mid new
facts_of records parted cells place at fate cell old mid new law stands found parts side stays leaves ends = record {
  stands = stands;
  some = λ told. law records.cells old at cell stands.cells (found told);
  fact = found;
  parts = parts;
  stays = stays;
  ends = ends;
  row_pages = leaves.pages parted.roots.set (rows_apart records parted old stands parts.same_cells parts.set);
  row_places = leaves.places parted.roots.set;
  back = λ told. subst (λ (c : SideCells). IsSome (old.pages c.first)) parts.same_cells (told_back_side records old mid side parted.cells.first (told_first parted.cells mid new leaves parted.cells.first told));
}

-- ---- what it costs

-- it met a fault before the way down
pub cut_begun : (records : Records) (at : ℕ) (old new : ShelfView) → new.fetches ≤ old.fetches + 3 → ReadsForSpan records at old new
cut_begun records at old new few trees walks = omega (arith, few)

pub cut_few : SchemasAreKept → CutsAreSpans → (records now : Records) (shown : Pointer) (at : ℕ) (cell : Cell) (first old mid new : ShelfView) → SameShelf first old → StandsForRecords records old → (IsTold records.cells old → at ≢ 0) → PartsFrom records now shown at cell old mid
    → Finds records.cells old at (Some cell) → old.fetches ≤ first.fetches + 1 → mid.fetches ≤ old.fetches + 2 → ReadsSpanTwice now.cells at mid new → ReadsForSpan records at first new
cut_few kept spans records now shown at cell first old mid new same stands some parts found one two rest trees walks =
    let walked = walks_same records first old same trees walks in
    let p = passed_of kept spans records now shown at cell old mid stands (some walked.told) parts trees walked (found walked.told) in
    let all = subst (λ (c : SideCells). ReadsSpanTwice c at mid new) parts.same_cells rest (parts.told walked.told) p.tree.below
    (hangs_below records.schema (parts.parts trees walked).pointer at cell (cells_seen records old) (cells_seen records mid) (rows_seen records old) trees p) in
    let many = p.tree.many in
    omega (arith, one, two, all, many)
