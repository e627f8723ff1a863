-- Roots are found by the rows of the root set.
use Rattle.std.proofs.Common.{◌≡◌, ℕ, suc, ◌<◌, ◌==◌, nat_lt, Bool, true, false, cond, List, [], ◌∷◌, map, length, Option, None, Some, refl, sym, ap, subst, ◌∙◌, arith}
use Rattle.std.specs.Prelude.{slice_index, find, IfSome, IsSome}
use Rattle.std.specs.Int.{w32, from_be_bytes}
use Rattle.std.specs.List.{list_all}
use Rattle.std.specs.Option.{option_map, option_map_or}
use Rattle.std.specs.Ordering.{is_lt}
use Rattle.std.specs.Str.{bytes_eq}
use Rattle.std.specs.declared.cmp.Ordering.{Ordering}
use Rattle.std.proofs.lemmas.Bool.{and_parts, ltb-true, eqb-true, false≢true}
use Rattle.hal_base.specs.declared.pages.SetId.{SetId}
use Rattle.hal_base.specs.ShelfCalls.{ShelfView, SameShelf}
use Rattle.hal_schema.specs.declared.schema.Schema.{Schema}
use Rattle.hal_schema.specs.Keys.{key_cmp}
use Rattle.hal_schema.specs.Roots.{partition_of, root_cmp}
use Rattle.segment_blocks.specs.declared.tile.Cell.{Cell}
use Rattle.keyed_sets.specs.declared.row.RowShape.{RowShape}
use Rattle.keyed_sets.specs.declared.set.KeyedSet.{KeyedSet}
use Rattle.keyed_sets.specs.Layout.{Row, is_below}
use Rattle.keyed_sets.specs.Map.{lookup, first_above, next_after, rows_of}
use Rattle.record_walk.specs.Tree.{Chains}
use Rattle.record_walk.specs.Pointers.{Below, Root}
use Rattle.record_walk.specs.ByKey.{RootsGoByRows}
use Rattle.record_walk.specs.Leads.{PointersLeadOn}
use Rattle.record_walk.specs.Orders.{RootsGoByKey}
use Rattle.record_walk.specs.Side.{RootRow, seen}
use Rattle.record_walk.specs.Spans.{IsIn}
use Rattle.record_tree.specs.declared.records.Records.{Records}
use Rattle.record_tree.specs.Sides.{root_row, root_rows}
use Rattle.record_tree.specs.Standing.{StandsForRecords, Walks, HoldsRow, cells_seen, rows_seen}
use Rattle.record_tree.specs.Finding.{FindsRoot, BelongsTo, is_key, is_behind}
use Rattle.record_tree.proofs.Seen.{some_is}
use Rattle.record_tree.proofs.Staying.{records_same}
use Rattle.record_tree.proofs.Leading.{led, homes}

-- ---- rows that are found

pub found_row : (test : List ℕ → Bool) (rows : List Row) → find (λ (r : RootRow). test r.key) (map root_row rows) ≡ option_map root_row (find (λ (row : Row). test (row.0)) rows)
found_row test [] = refl
found_row test (row ∷ rows) = by (test (row.0)) (found_row test rows)
  where
    by : (b : Bool) → find (λ (r : RootRow). test r.key) (map root_row rows) ≡ option_map root_row (find (λ (row : Row). test (row.0)) rows)
        → cond b (Some (root_row row)) (find (λ (r : RootRow). test r.key) (map root_row rows)) ≡ option_map root_row (cond b (Some row) (find (λ (row : Row). test (row.0)) rows))
    by true e = refl
    by false e = e

pub looked_up : (key : List ℕ) (rows : List Row) → lookup key rows ≡ option_map (λ (row : Row). row.1) (find (λ (row : Row). is_key key (row.0)) rows)
looked_up key [] = refl
looked_up key (row ∷ rows) = by (bytes_eq (row.0) key) (looked_up key rows)
  where
    by : (b : Bool) → lookup key rows ≡ option_map (λ (r : Row). r.1) (find (λ (r : Row). is_key key (r.0)) rows) → cond b (Some (row.1)) (lookup key rows) ≡ option_map (λ (r : Row). r.1) (cond b (Some row) (find (λ (r : Row). is_key key (r.0)) rows))
    by true e = refl
    by false e = e

record FoundAt (rows : List RootRow) (row : RootRow) : Type 0 where
  pub k : ℕ
  pub within : k < length rows
  pub home : slice_index (homes rows) k ≡ row.home
  pub passes : (test : RootRow → Bool) → list_all test rows ≡ true → test row ≡ true

found_at : (test : RootRow → Bool) (rows : List RootRow) (row : RootRow) → find test rows ≡ Some row → FoundAt rows row
found_at test [] row e = let none : None ≡ Some row = e in cc
found_at test (r ∷ rows) row e = by (test r) refl (found_at test rows row)
  where
    by : (b : Bool) → test r ≡ b → (find test rows ≡ Some row → FoundAt rows row) → FoundAt (r ∷ rows) row
    by true is rest =
        let same : r ≡ row = some_is r row (sym (ap (λ (v : Bool). cond v (Some r) (find test rows)) is) ∙ e) in
        record { k = 0; within = omega arith; home = ap (λ (x : RootRow). x.home) same; passes = λ p all. ap p (sym same) ∙ (and_parts (p r) (list_all p rows) all).0 }
    by false is rest =
        let f = rest (sym (ap (λ (v : Bool). cond v (Some r) (find test rows)) is) ∙ e) in
        let lt = f.within in
        record { k = suc f.k; within = omega (arith, lt); home = f.home; passes = λ p all. f.passes p (and_parts (p r) (list_all p rows) all).1 }

-- ---- a root

pub if_some : {X : Type 0} (o : Option X) (P : X → Type 0) → ((x : X) → o ≡ Some x → P x) → IfSome o P
if_some None P holds = tt
if_some (Some x) P holds = holds x refl

-- pages of all sets are told or those of none
abbrev pub Alike : ShelfView → Type 0
Alike shelf = (set other : SetId) → shelf.pages set ≡ None → shelf.pages other ≡ None

pub told_pages : (first roots : SetId) (shelf : ShelfView) → Alike shelf → IsSome (shelf.pages first) → (pages : List (List ℕ)) × (shelf.pages roots ≡ Some pages)
told_pages first roots shelf alike told = by (shelf.pages roots) refl
  where
    by : (o : Option (List (List ℕ))) → shelf.pages roots ≡ o → (pages : List (List ℕ)) × (shelf.pages roots ≡ Some pages)
    by None is = absurd (false≢true (subst (λ (o : Option (List (List ℕ))). IsSome o) (alike roots first is) told))
    by (Some pages) is = (pages, is)

pub in_row : (cells : ℕ → Option Cell) (firsts : List ℕ) (trees : Chains) (k : ℕ) → k < length firsts → IsIn (Root k) cells firsts trees
in_row cells firsts trees k lt = record {
  met = λ home e. absurd (let wrong : None ≡ Some home = e in cc);
  child = λ above place cell e. absurd (let wrong : Root k ≡ Below above place = e in cc);
  row = λ place e. let same : k ≡ place = cc in subst (λ (n : ℕ). n < length firsts) same lt;
}

pub length_homes : (rows : List RootRow) → length (homes rows) ≡ length rows
length_homes [] = refl
length_homes (row ∷ rows) = ap suc (length_homes rows)

pub root_found : RootsGoByRows → PointersLeadOn → (records : Records) (shelf : ShelfView) → StandsForRecords records shelf → Alike shelf → (test : List ℕ → Bool) (found : Option ℕ)
    → ((trees : Chains) (pages : List (List ℕ)) → Walks records shelf trees → shelf.pages records.roots.set ≡ Some pages → found ≡ option_map (λ (row : Row). from_be_bytes w32 (row.1)) (find (λ (row : Row). test (row.0)) (rows_of records.roots.shape pages)))
    → FindsRoot records shelf test found
root_found rows_law lead_law records shelf stands alike test found fact = record {
  is = λ trees walks. of_rows trees walks ∙ sym ((rows_law records.schema records.place (cells_seen records shelf) (rows_seen records shelf) trees stands.of.kind walks.side).found test);
  row = if_some found (λ home. HoldsRow records shelf home (λ cell. cell.code ≡ 1)) (λ home e told.
      let side = stands.side told in
      let trees : Chains = side.0 in
      let walks : Walks records shelf trees = record { told = told; side = side.1 } in
      let (row, there, at_home) = map_some (find (λ (r : RootRow). test r.key) (rows_seen records shelf)) home (sym (of_rows trees walks) ∙ e) in
      let f = found_at (λ (r : RootRow). test r.key) (rows_seen records shelf) row there in
      let used = ltb-true 0 row.home (f.passes (λ (r : RootRow). nat_lt 0 r.home) walks.side.rows_are_used) in
      let many = length_homes (rows_seen records shelf) in
      let lt = f.within in
      let l = led lead_law records shelf trees walks (Root f.k) home 1 (in_row (seen records.schema.phdam (cells_seen records shelf)) (homes (rows_seen records shelf)) trees f.k (omega (arith, many, lt))) (f.home ∙ at_home) (omega (arith, used, at_home)) refl in
      (l.cell, l.stands, (l.uncopied, l.code_is)));
}
  where
    rows_are : (o : Option (List (List ℕ))) (pages : List (List ℕ)) → o ≡ Some pages → root_rows records.roots.shape o ≡ map root_row (rows_of records.roots.shape pages)
    rows_are o pages is = ap (root_rows records.roots.shape) is

    homes_of_map : (o : Option Row) → option_map (λ (r : RootRow). r.home) (option_map root_row o) ≡ option_map (λ (row : Row). from_be_bytes w32 (row.1)) o
    homes_of_map None = refl
    homes_of_map (Some row) = refl

    of_rows : (trees : Chains) → Walks records shelf trees → found ≡ option_map (λ (r : RootRow). r.home) (find (λ (r : RootRow). test r.key) (rows_seen records shelf))
    of_rows trees walks =
        let (pages, is) = told_pages records.cells.first records.roots.set shelf alike walks.told in
        fact trees pages walks is ∙ sym (homes_of_map (find (λ (row : Row). test (row.0)) (rows_of records.roots.shape pages)))
        ∙ ap (option_map (λ (r : RootRow). r.home)) (sym (found_row test (rows_of records.roots.shape pages)))
        ∙ ap (λ (l : List RootRow). option_map (λ (r : RootRow). r.home) (find (λ (r : RootRow). test r.key) l)) (sym (rows_are (shelf.pages records.roots.set) pages is))

    map_some : (o : Option RootRow) (home : ℕ) → option_map (λ (r : RootRow). r.home) o ≡ Some home → (row : RootRow) × (o ≡ Some row) × (row.home ≡ home)
    map_some None home e = absurd (let none : None ≡ Some home = e in cc)
    map_some (Some row) home e = (row, refl, some_is row.home home e)

-- ---- the object stays

pub kept_roots : (records : Records) (roots : KeyedSet) (old new : ShelfView) → StandsForRecords records old → roots ≡ records.roots → SameShelf old new
    → (◌≡◌ {A = Records} (record records { roots = roots }) records) × StandsForRecords (record records { roots = roots }) new
kept_roots records roots old new stands same shelf =
    let is : ◌≡◌ {A = Records} (record records { roots = roots }) records = ap (λ (r : KeyedSet). record records { roots = r }) same in
    (is, subst (λ (r : Records). StandsForRecords r new) (sym is) (records_same records old new stands shelf))

-- ---- the rows behind a key

pub first_of_all : (rows : List Row) → next_after None rows ≡ find (λ (row : Row). true) rows
first_of_all [] = refl
first_of_all (row ∷ rows) = refl

pub above_is : (schema : Schema) (place : ℕ) (key : List ℕ) → RootsGoByKey → schema.phdam ≡ false → BelongsTo schema place key → (rows : List Row)
    → list_all (λ (r : RootRow). option_map_or (λ p. p == place) (partition_of schema r.key) false) (map root_row rows) ≡ true → first_above key rows ≡ find (λ (row : Row). is_behind schema (Some key) (row.0)) rows
above_is schema place key law kind belongs [] all = refl
above_is schema place key law kind belongs (row ∷ rows) all =
    let a = and_parts (option_map_or (λ p. p == place) (partition_of schema (row.0)) false) (list_all (λ (r : RootRow). option_map_or (λ p. p == place) (partition_of schema r.key) false) (map root_row rows)) all in
    let same : root_cmp schema key (row.0) ≡ key_cmp key (row.0) = law schema key (row.0) kind (belongs ∙ sym (of_test (partition_of schema (row.0)) a.0)) in
    ap (λ (o : Option Row). cond (is_below key (row.0)) (Some row) o) (above_is schema place key law kind belongs rows a.1)
    ∙ ap (λ (o : Ordering). cond (is_lt o) (Some row) (find (λ (r : Row). is_behind schema (Some key) (r.0)) rows)) (sym same)
  where
    of_test : (o : Option ℕ) → option_map_or (λ p. p == place) o false ≡ true → o ≡ Some place
    of_test None e = let wrong : false ≡ true = e in cc
    of_test (Some p) e = ap (λ (n : ℕ). Some n) (eqb-true p place e)

-- ---- what was read

pub if_at : {X : Type 0} (o : Option X) (x : X) (P : X → Type 0) → o ≡ Some x → IfSome o P → P x
if_at {X} o x P is holds = subst (λ (p : Option X). IfSome p P) is holds

pub body_found : (key : List ℕ) (told : Option (List (List ℕ))) (shape : RowShape) (body : Option (List ℕ)) → IfSome told (λ pages. body ≡ lookup key (rows_of shape pages)) → (pages : List (List ℕ)) → told ≡ Some pages
    → option_map (from_be_bytes w32) body ≡ option_map (λ (row : Row). from_be_bytes w32 (row.1)) (find (λ (row : Row). is_key key (row.0)) (rows_of shape pages))
body_found key told shape body fact pages is =
    ap (option_map (from_be_bytes w32)) (if_at told pages (λ pages. body ≡ lookup key (rows_of shape pages)) is fact ∙ looked_up key (rows_of shape pages))
    ∙ twice (find (λ (row : Row). is_key key (row.0)) (rows_of shape pages))
  where
    twice : (o : Option Row) → option_map (from_be_bytes w32) (option_map (λ (row : Row). row.1) o) ≡ option_map (λ (row : Row). from_be_bytes w32 (row.1)) o
    twice None = refl
    twice (Some row) = refl

pub next_found : RootsGoByKey → RootsGoByRows → (records : Records) (shelf : ShelfView) → StandsForRecords records shelf → (key : Option (List ℕ)) → IfSome key (BelongsTo records.schema records.place) → (row : Option Row)
    → IfSome (shelf.pages records.roots.set) (λ pages. row ≡ next_after key (rows_of records.roots.shape pages)) → (trees : Chains) (pages : List (List ℕ)) → Walks records shelf trees → shelf.pages records.roots.set ≡ Some pages
    → row ≡ find (λ (r : Row). is_behind records.schema key (r.0)) (rows_of records.roots.shape pages)
next_found by_key by_rows records shelf stands key belongs row fact trees pages walks is =
    if_at (shelf.pages records.roots.set) pages (λ pages. row ≡ next_after key (rows_of records.roots.shape pages)) is fact ∙ by key belongs
  where
    rows : List Row
    rows = rows_of records.roots.shape pages

    all : list_all (λ (r : RootRow). option_map_or (λ p. p == records.place) (partition_of records.schema r.key) false) (map root_row rows) ≡ true
    all = subst (λ (l : List RootRow). list_all (λ (r : RootRow). option_map_or (λ p. p == records.place) (partition_of records.schema r.key) false) l ≡ true) (ap (root_rows records.roots.shape) is)
        (by_rows records.schema records.place (cells_seen records shelf) (rows_seen records shelf) trees stands.of.kind walks.side).belong

    by : (k : Option (List ℕ)) → IfSome k (BelongsTo records.schema records.place) → next_after k rows ≡ find (λ (r : Row). is_behind records.schema k (r.0)) rows
    by None b = first_of_all rows
    by (Some k) b = above_is records.schema records.place k by_key stands.of.kind b rows all
