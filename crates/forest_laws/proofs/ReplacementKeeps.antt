-- Replacing a row's content keeps a forest.
use Rattle.std.proofs.Common.{◌≡◌, ℕ, ◌==◌, Bool, true, false, not, cond, ◌&&◌, ◌||◌, List, [], ◌∷◌, ◌++◌, map, Option, Some, None, ◌⊎◌, inl, inr, refl, sym, ap, subst, ◌∙◌}
use Rattle.std.specs.Prelude.{find, flat_map, filter_map, filter, is_none, is_some}
use Rattle.std.specs.List.{list_all, slice_get, cons_option}
use Rattle.std.specs.Option.{option_map_or}
use Rattle.std.specs.Ordering.{is_le, is_lt}
use Rattle.std.specs.Str.{bytes_eq}
use Rattle.std.proofs.lemmas.Bool.{and_parts, and_from, or_cases, not-true, both_ways, true≢false}
use Rattle.std.proofs.lemmas.List.{map-append}
use Rattle.std.proofs.lemmas.List.Folds.{list_all-map}
use Rattle.std.proofs.lemmas.Slice.Eq.{bytes_eq-Decides}
use Rattle.hal_base.specs.declared.place.Ilk.{Ilk}
use Rattle.hal_schema.specs.declared.row.Row.{Row}
use Rattle.hal_schema.specs.declared.schema.SegType.{SegType}
use Rattle.hal_schema.specs.declared.schema.IndexDef.{IndexDef}
use Rattle.hal_schema.specs.declared.schema.Schema.{Schema}
use Rattle.hal_schema.specs.SegType.{portion}
use Rattle.hal_schema.specs.Roots.{root_cmp, partition_of}
use Rattle.hal_schema.specs.Keys.{key_cmp}
use Rattle.hal_schema.specs.Row.{same_name, are_twins, row_level, row_key}
use Rattle.hal_schema.specs.Paths.{path_with, path_after, with_paths, paths_of, concatenated_key}
use Rattle.hal_schema.specs.Entry.{Entry, entry_of, entries_of, entries_by_row, is_taken}
use Rattle.hal_schema.specs.Forest.{all_pairs, names_apart, has_length, is_path, is_selected, in_type_order, in_twin_order, has_unique_key, keys_apart, entries_differ, is_forest}
use Rattle.hal_schema.specs.Span.{with_content, replaced, keeps_freely, may_replace, may_be_replaced}
use Rattle.forest_laws.specs.Keeping.{ReplacementKeeps}
use Rattle.forest_laws.proofs.Lists.{found, find_at, find_none, all_parts, all_append, all_weaker, all_both, all_without, pairs_at, pairs_with, pairs_without}
use Rattle.forest_laws.proofs.Names.{others_behind}
use Rattle.forest_laws.proofs.Carried.{with_append}
use Rattle.forest_laws.proofs.Parents.{Parts, parts_of, forest_from}
use Rattle.forest_laws.proofs.NewRow.{all_rows}
use Rattle.forest_laws.proofs.InsertionKeeps.{none_passes}
use Rattle.forest_laws.proofs.EntriesByRow.{bytes_turned, pairs_in_order, untaken, entries_append, own_key, is_source, entry_at, entry_named, entry_with}
use Rattle.forest_laws.proofs.Replacing.{renewed, renewed_key, renewed_level, renewed_name, renewed_code, both, with_mapped, path_renewed, others_stay, other_stays, others_renewed, this_renewed}

none_found : {X : Type 0} (p : X → Bool) (xs : List X) → find p xs ≡ None → list_all (λ x. not (p x)) xs ≡ true
none_found p xs h = none_passes p xs (ap is_none h)

-- an item for one that the tests can't tell from it
all_swap : {X : Type 0} (p : X → Bool) (xs ys : List X) (x y : X) → list_all p (xs ++ x ∷ ys) ≡ true → p y ≡ true → list_all p (xs ++ y ∷ ys) ≡ true
all_swap p xs ys x y h one =
    let a = all_parts p xs (x ∷ ys) h in
    all_append p xs (y ∷ ys) a.0 (and_from (p y) (list_all p ys) one (and_parts (p x) (list_all p ys) a.1).1)

pairs_swap : {X : Type 0} (t : X → X → Bool) (xs ys : List X) (x y : X) → ((a : X) → t a x ≡ t a y) → ((a : X) → t x a ≡ t y a) → all_pairs t (xs ++ x ∷ ys) ≡ true → all_pairs t (xs ++ y ∷ ys) ≡ true
pairs_swap t xs ys x y before behind h =
    let p = pairs_at t xs ys x h in
    pairs_with t xs ys y (pairs_without t xs (x ∷ []) ys h) (all_weaker (λ a. t a x) (λ a. t a y) (λ a e. sym (before a) ∙ e) xs p.before)
    (all_weaker (t x) (t y) (λ a e. sym (behind a) ∙ e) ys p.behind)

-- ---- entries

-- what an entry of a row is, whatever its content
pub data Shape (types : List SegType) (index : IndexDef) (path : List Row) (row : Row) : Type 0 where
  NoEntry : ((content : List ℕ) → entry_of types index path (with_content row content) ≡ None) → Shape types index path row
  HasEntry : (target : Ilk) (root : List ℕ) → ((content : List ℕ) → entry_of types index path (with_content row content) ≡ Some (record { key = own_key types index path content; target = target; root = root })) → Shape types index path row

shape_by : (types : List SegType) (index : IndexDef) (path : List Row) (row : Row) (target root : Option Row) → find (λ r. r.code == index.target) path ≡ target → slice_get path 0 ≡ root → Shape types index path row
shape_by types index path row None root e f = NoEntry (λ content. ap (λ (o : Option Row). entry_with types (own_key types index path content) o (slice_get path 0)) e)
shape_by types index path row (Some t) None e f =
    NoEntry (λ content. ap (λ (o : Option Row). entry_with types (own_key types index path content) o (slice_get path 0)) e ∙ ap (λ (o : Option Row). entry_with types (own_key types index path content) (Some t) o) f)
shape_by types index path row (Some t) (Some r) e f =
    HasEntry t.name (row_key types r)
    (λ content. ap (λ (o : Option Row). entry_with types (own_key types index path content) o (slice_get path 0)) e ∙ ap (λ (o : Option Row). entry_with types (own_key types index path content) (Some t) o) f)

pub shape_of : (types : List SegType) (index : IndexDef) (path : List Row) (row : Row) → Shape types index path row
shape_of types index path row = shape_by types index path row (find (λ r. r.code == index.target) path) (slice_get path 0) refl refl

-- through a change of the rows that keeps their names, codes and keys an entry is the same
pub record Same (types : List SegType) (g : Row → Row) : Type 0 where
  pub name : (r : Row) → (g r).name ≡ r.name
  pub code : (r : Row) → (g r).code ≡ r.code
  pub key : (r : Row) → row_key types (g r) ≡ row_key types r

keys_mapped : (types : List SegType) (g : Row → Row) → Same types g → (path : List Row) → concatenated_key types (map g path) ≡ concatenated_key types path
keys_mapped types g same [] = refl
keys_mapped types g same (row ∷ path) = ap (λ k. k ++ concatenated_key types (map g path)) (same.key row) ∙ ap (λ k. row_key types row ++ k) (keys_mapped types g same path)

found_mapped : (types : List SegType) (index : IndexDef) (g : Row → Row) → Same types g → (key : List ℕ) (root : Option Row) (path : List Row)
    → entry_with types key (find (λ r. r.code == index.target) (map g path)) root ≡ entry_with types key (find (λ r. r.code == index.target) path) root
found_mapped types index g same key root [] = refl
found_mapped types index g same key root (row ∷ path) = by (row.code == index.target) refl (found_mapped types index g same key root path)
  where
    rooted : (r : Option Row) (a b : Ilk) → a ≡ b → entry_named types key a r ≡ entry_named types key b r
    rooted r a b e = ap (λ (n : Ilk). entry_named types key n r) e

    by : (b : Bool) → (row.code == index.target) ≡ b → entry_with types key (find (λ r. r.code == index.target) (map g path)) root ≡ entry_with types key (find (λ r. r.code == index.target) path) root
        → entry_with types key (find (λ r. r.code == index.target) (g row ∷ map g path)) root ≡ entry_with types key (find (λ r. r.code == index.target) (row ∷ path)) root
    by true e rest =
        ap (λ b. entry_with types key (cond b (Some (g row)) (find (λ r. r.code == index.target) (map g path))) root) (ap (λ n. n == index.target) (same.code row) ∙ e)
        ∙ rooted root (g row).name row.name (same.name row)
        ∙ sym (ap (λ b. entry_with types key (cond b (Some row) (find (λ r. r.code == index.target) path)) root) e)
    by false e rest =
        ap (λ b. entry_with types key (cond b (Some (g row)) (find (λ r. r.code == index.target) (map g path))) root) (ap (λ n. n == index.target) (same.code row) ∙ e)
        ∙ rest ∙ sym (ap (λ b. entry_with types key (cond b (Some row) (find (λ r. r.code == index.target) path)) root) e)

root_mapped : (types : List SegType) (g : Row → Row) → Same types g → (key : List ℕ) (target : Option Row) (path : List Row) → entry_with types key target (slice_get (map g path) 0) ≡ entry_with types key target (slice_get path 0)
root_mapped types g same key target [] = refl
root_mapped types g same key None (row ∷ path) = refl
root_mapped types g same key (Some t) (row ∷ path) = ap (λ (k : List ℕ). Some (record { key = key; target = t.name; root = k })) (same.key row)

entry_mapped : (types : List SegType) (index : IndexDef) (g : Row → Row) → Same types g → (path : List Row) (row : Row) → entry_of types index (map g path) row ≡ entry_of types index path row
entry_mapped types index g same path row =
    let key = own_key types index path row.content in
    ap (λ (k : List ℕ). entry_with types (flat_map (λ f. portion f.start f.bytes row.content) index.search ++ flat_map (λ f. portion f.start f.bytes k) index.subseq) (find (λ r. r.code == index.target) (map g path)) (slice_get (map g path) 0)) (keys_mapped types g same path)
    ∙ root_mapped types g same key (find (λ r. r.code == index.target) (map g path)) path ∙ found_mapped types index g same key (slice_get path 0) path

-- rows that stay keep their entries
entries_stay : (types : List SegType) (index : IndexDef) (g : Row → Row) → Same types g → (t : Row → Bool) → ((r : Row) → t r ≡ true → g r ≡ r) → (paths : List (List Row × Row)) → list_all (λ p. t p.1) paths ≡ true
    → entries_by_row types index (map (both g) paths) ≡ entries_by_row types index paths
entries_stay types index g same t stays [] h = refl
entries_stay types index g same t stays (p ∷ paths) h =
    let a = and_parts (t p.1) (list_all (λ p. t p.1) paths) h in
    let rest = entries_stay types index g same t stays paths a.1 in
    let one : entry_of types index (map g p.0) (g p.1) ≡ entry_of types index p.0 p.1 = ap (λ (r : Row). entry_of types index (map g p.0) r) (stays p.1 a.0) ∙ entry_mapped types index g same p.0 p.1 in
    by (p.1.code == index.source) refl one rest
  where
    by : (b : Bool) → (p.1.code == index.source) ≡ b → entry_of types index (map g p.0) (g p.1) ≡ entry_of types index p.0 p.1 → entries_by_row types index (map (both g) paths) ≡ entries_by_row types index paths
        → entries_by_row types index (both g p ∷ map (both g) paths) ≡ entries_by_row types index (p ∷ paths)
    by true e one rest =
        ap (λ b. filter_map (entry_at types index) (cond b (both g p ∷ filter (is_source index) (map (both g) paths)) (filter (is_source index) (map (both g) paths)))) (ap (λ n. n == index.source) (same.code p.1) ∙ e)
        ∙ ap (λ (o : Option Entry). cons_option o (entries_by_row types index (map (both g) paths))) one ∙ ap (λ (l : List Entry). cons_option (entry_of types index p.0 p.1) l) rest
        ∙ sym (ap (λ b. filter_map (entry_at types index) (cond b (p ∷ filter (is_source index) paths) (filter (is_source index) paths))) e)
    by false e one rest =
        ap (λ b. filter_map (entry_at types index) (cond b (both g p ∷ filter (is_source index) (map (both g) paths)) (filter (is_source index) (map (both g) paths)))) (ap (λ n. n == index.source) (same.code p.1) ∙ e)
        ∙ rest ∙ sym (ap (λ b. filter_map (entry_at types index) (cond b (p ∷ filter (is_source index) paths) (filter (is_source index) paths))) e)

-- the sources beside the replaced row, before and after
pub record PathsRenewed (types : List SegType) (old rows : List Row) (path : List Row) (row new : Row) (g : Row → Row) : Type 0 where
  pub front : List (List Row × Row)
  pub back : List (List Row × Row)
  pub before : paths_of types old ≡ front ++ (path, row) ∷ back
  pub after : paths_of types rows ≡ map (both g) front ++ (map g path, new) ∷ map (both g) back

-- another key for the entry in the middle, which is the old one or no other's
rekeyed : (types : List SegType) (front back : List Entry) (old new : Entry) → all_pairs keys_apart (front ++ old ∷ back) ≡ true → (bytes_eq new.key old.key ≡ true) ⊎ (list_all (λ (e : Entry). not (bytes_eq new.key e.key)) (front ++ old ∷ back) ≡ true)
    → all_pairs keys_apart (front ++ new ∷ back) ≡ true
rekeyed types front back old new h (inl same) =
    let e : new.key ≡ old.key = (bytes_eq-Decides new.key old.key).0 same in
    pairs_swap keys_apart front back old new (λ a. ap (λ k. not (bytes_eq a.key k)) (sym e)) (λ a. ap (λ k. not (bytes_eq k a.key)) (sym e)) h
rekeyed types front back old new h (inr free) =
    let test : Entry → Bool = λ e. not (bytes_eq new.key e.key) in
    let all = all_parts test front back (all_without test front (old ∷ []) back free) in
    pairs_with keys_apart front back new (pairs_without keys_apart front (old ∷ []) back h)
    (all_weaker test (λ e. keys_apart e new) (λ e o. ap not (bytes_turned e.key new.key) ∙ o) front all.0) all.1

-- a row that is no source, or gets no entry, adds none
no_entry : (types : List SegType) (index : IndexDef) (p : List Row × Row) (b : List (List Row × Row)) → ((p.1.code == index.source) ≡ false) ⊎ (entry_of types index p.0 p.1 ≡ None) → entries_by_row types index (p ∷ b) ≡ entries_by_row types index b
no_entry types index p b (inl other) = ap (λ t. filter_map (entry_at types index) (cond t (p ∷ filter (is_source index) b) (filter (is_source index) b))) other
no_entry types index p b (inr none) = by (p.1.code == index.source)
  where
    by : (t : Bool) → filter_map (entry_at types index) (cond t (p ∷ filter (is_source index) b) (filter (is_source index) b)) ≡ entries_by_row types index b
    by true = ap (λ o. cons_option o (entries_by_row types index b)) none
    by false = refl

one_entry : (types : List SegType) (index : IndexDef) (p : List Row × Row) (b : List (List Row × Row)) (entry : Entry) → (p.1.code == index.source) ≡ true → entry_of types index p.0 p.1 ≡ Some entry → entries_by_row types index (p ∷ b) ≡ entry ∷ entries_by_row types index b
one_entry types index p b entry source is =
    ap (λ t. filter_map (entry_at types index) (cond t (p ∷ filter (is_source index) b) (filter (is_source index) b))) source ∙ ap (λ o. cons_option o (entries_by_row types index b)) is

pub record Renewal (types : List SegType) (old rows : List Row) (path : List Row) (row : Row) (content : List ℕ) (g : Row → Row) : Type 0 where
  pub same : Same types g
  pub paths : PathsRenewed types old rows path row (with_content row content) g
  pub front_stays : (index : IndexDef) → entries_by_row types index (map (both g) paths.front) ≡ entries_by_row types index paths.front
  pub back_stays : (index : IndexDef) → entries_by_row types index (map (both g) paths.back) ≡ entries_by_row types index paths.back

index_renewed : (types : List SegType) (old rows : List Row) (path : List Row) (row : Row) (content : List ℕ) (g : Row → Row) (index : IndexDef) → Renewal types old rows path row content g → entries_differ types old index ≡ true → keeps_freely types old content path row index ≡ true → entries_differ types rows index ≡ true
index_renewed types old rows path row content g index r differ free = by (row.code == index.source) refl (shape_of types index path row)
  where
    entries : List (List Row × Row) → List Entry
    entries = entries_by_row types index

    new : Row
    new = with_content row content

    raw : entries_by_row types index (paths_of types old) ≡ entries_by_row types index r.paths.front ++ entries_by_row types index ((path, row) ∷ r.paths.back)
    raw = ap (entries_by_row types index) r.paths.before ∙ entries_append types index r.paths.front ((path, row) ∷ r.paths.back)

    were : all_pairs keys_apart (entries_by_row types index r.paths.front ++ entries_by_row types index ((path, row) ∷ r.paths.back)) ≡ true
    were = sym (ap (all_pairs keys_apart) raw) ∙ sym (pairs_in_order (entries_by_row types index (paths_of types old))) ∙ differ

    are : entries_by_row types index (paths_of types rows) ≡ entries_by_row types index r.paths.front ++ entries_by_row types index ((map g path, with_content row content) ∷ map (both g) r.paths.back)
    are = ap (entries_by_row types index) r.paths.after ∙ entries_append types index (map (both g) r.paths.front) ((map g path, with_content row content) ∷ map (both g) r.paths.back)
        ∙ ap (λ (l : List Entry). l ++ entries_by_row types index ((map g path, with_content row content) ∷ map (both g) r.paths.back)) (r.front_stays index)

    goal : all_pairs keys_apart (entries_by_row types index r.paths.front ++ entries_by_row types index ((map g path, with_content row content) ∷ map (both g) r.paths.back)) ≡ true → entries_differ types rows index ≡ true
    goal h = pairs_in_order (entries_by_row types index (paths_of types rows)) ∙ ap (all_pairs keys_apart) are ∙ h

    none : ((row.code == index.source) ≡ false) ⊎ (entry_of types index path row ≡ None) → ((row.code == index.source) ≡ false) ⊎ (entry_of types index (map g path) (with_content row content) ≡ None) → entries_differ types rows index ≡ true
    none was is =
        let before : entries_by_row types index ((path, row) ∷ r.paths.back) ≡ entries_by_row types index r.paths.back = no_entry types index (path, row) r.paths.back was in
        let after : entries_by_row types index ((map g path, with_content row content) ∷ map (both g) r.paths.back) ≡ entries_by_row types index r.paths.back =
        no_entry types index (map g path, with_content row content) (map (both g) r.paths.back) is ∙ r.back_stays index in
        goal (ap (λ (l : List Entry). all_pairs keys_apart (entries_by_row types index r.paths.front ++ l)) (after ∙ sym before) ∙ were)

    own : List ℕ
    own = own_key types index path content

    keeps : (row.code == index.source) ≡ true → (bytes_eq (own_key types index path content) (own_key types index path row.content) ≡ true) ⊎ (list_all (λ (e : Entry). not (bytes_eq (own_key types index path content) e.key)) (entries_by_row types index (paths_of types old)) ≡ true)
    keeps source =
        let old_key = own_key types index path row.content in
        let new_key = own_key types index path content in
        elim (or_cases (not (row.code == index.source)) (bytes_eq new_key old_key || not (is_taken new_key (entries_of types index old))) free) [
          | inl other ↦ absurd (both_ways (row.code == index.source) (not-true (row.code == index.source) other) source)
          | inr h ↦ elim (or_cases (bytes_eq new_key old_key) (not (is_taken new_key (entries_of types index old))) h) [
            | inl same ↦ inl same
            | inr fresh ↦ inr (untaken new_key (entries_by_row types index (paths_of types old)) fresh)
          ]
        ]

    by : (b : Bool) → (row.code == index.source) ≡ b → Shape types index path row → entries_differ types rows index ≡ true
    by false e shape = none (inl e) (inl e)
    by true e (NoEntry f) = none (inr (f row.content)) (inr (entry_mapped types index g r.same path (with_content row content) ∙ f content))
    by true e (HasEntry target root f) =
        let was : Entry = record { key = own_key types index path row.content; target = target; root = root } in
        let is : Entry = record { key = own_key types index path content; target = target; root = root } in
        let before : entries_by_row types index ((path, row) ∷ r.paths.back) ≡ was ∷ entries_by_row types index r.paths.back = one_entry types index (path, row) r.paths.back was e (f row.content) in
        let after : entries_by_row types index ((map g path, with_content row content) ∷ map (both g) r.paths.back) ≡ is ∷ entries_by_row types index r.paths.back =
        one_entry types index (map g path, with_content row content) (map (both g) r.paths.back) is e (entry_mapped types index g r.same path (with_content row content) ∙ f content) ∙ ap (λ (l : List Entry). is ∷ l) (r.back_stays index) in
        let all : entries_by_row types index (paths_of types old) ≡ entries_by_row types index r.paths.front ++ was ∷ entries_by_row types index r.paths.back = raw ∙ ap (λ (l : List Entry). entries_by_row types index r.paths.front ++ l) before in
        let free_or : (bytes_eq is.key was.key ≡ true) ⊎ (list_all (λ (o : Entry). not (bytes_eq is.key o.key)) (entries_by_row types index r.paths.front ++ was ∷ entries_by_row types index r.paths.back) ≡ true) =
        elim (keeps e) [ inl s ↦ inl s | inr h ↦ inr (sym (ap (list_all (λ (o : Entry). not (bytes_eq (own_key types index path content) o.key))) all) ∙ h) ] in
        goal
        (ap (λ (l : List Entry). all_pairs keys_apart (entries_by_row types index r.paths.front ++ l)) after
        ∙ rekeyed types (entries_by_row types index r.paths.front) (entries_by_row types index r.paths.back) was is (sym (ap (λ (l : List Entry). all_pairs keys_apart (entries_by_row types index r.paths.front ++ l)) before) ∙ were) free_or)

-- ---- the whole forest

-- the replaced row among the rows, and what its new content is held to
pub record Replaced (schema : Schema) (rows : List Row) (name : Ilk) (content : List ℕ) : Type 0 where
  pub front : List Row
  pub row : Row
  pub back : List Row
  pub split : rows ≡ front ++ row ∷ back
  pub named : same_name row.name name ≡ true
  pub others : list_all (λ r. not (same_name r.name name)) front ≡ true
  pub may : may_replace schema rows content (path_with (row_level schema.types) (path_after (row_level schema.types) [] front) row) row ≡ true

named_row : (schema : Schema) (rows : List Row) (name : Ilk) (content : List ℕ) (o : Option Row) → find (λ (r : Row). same_name r.name name) rows ≡ o → may_be_replaced schema rows name content ≡ true → Replaced schema rows name content
named_row schema rows name content None e h =
    let test : List Row × Row → Bool = λ p. same_name p.1.name name in
    let none : find test (paths_of schema.types rows) ≡ None =
    find_none test (paths_of schema.types rows) (all_rows (row_level schema.types) (λ r. not (same_name r.name name)) [] rows ∙ none_found (λ (r : Row). same_name r.name name) rows e) in
    absurd (true≢false (sym h ∙ ap (λ (o : Option (List Row × Row)). option_map_or (λ p. may_replace schema rows content p.0 p.1) o false) none))
named_row schema rows name content (Some row) e h =
    let level = row_level schema.types in
    let f = found (λ (r : Row). same_name r.name name) rows row e in
    let test : List Row × Row → Bool = λ p. same_name p.1.name name in
    let path = path_with level (path_after level [] f.front) row in
    let here : find test (paths_of schema.types rows) ≡ Some (path, row) =
    ap (λ (l : List Row). find test (paths_of schema.types l)) f.split ∙ ap (find test) (with_append level [] f.front (row ∷ f.behind))
    ∙ find_at test (with_paths level [] f.front) (path, row) (with_paths level path f.behind) (all_rows level (λ r. not (same_name r.name name)) [] f.front ∙ f.none) f.passes in
    record {
      front = f.front;
      row = row;
      back = f.behind;
      split = f.split;
      named = f.passes;
      others = f.none;
      may = sym (ap (λ (o : Option (List Row × Row)). option_map_or (λ p. may_replace schema rows content p.0 p.1) o false) here) ∙ h;
    }

same_renewed : (types : List SegType) (name : Ilk) (content : List ℕ) → Same types (renewed types name content)
same_renewed types name content = record { name = renewed_name types name content; code = renewed_code types name content; key = renewed_key types name content }

renewal : (schema : Schema) (rows : List Row) (name : Ilk) (content : List ℕ) → Parts schema rows → (r : Replaced schema rows name content) → bytes_eq (row_key schema.types (with_content r.row content)) (row_key schema.types r.row) ≡ true
    → Renewal schema.types rows (r.front ++ with_content r.row content ∷ r.back) (path_with (row_level schema.types) (path_after (row_level schema.types) [] r.front) r.row) r.row content (renewed schema.types name content)
renewal schema rows name content parts r key =
    let types = schema.types in
    let level = row_level types in
    let g = renewed types name content in
    let new = with_content r.row content in
    let above = path_after level [] r.front in
    let path = path_with level above r.row in
    let first = with_paths level [] r.front in
    let last = with_paths level path r.back in
    let before : paths_of types rows ≡ first ++ (path, r.row) ∷ last = ap (paths_of types) r.split ∙ with_append level [] r.front (r.row ∷ r.back) in
    let behind = others_behind r.front r.back r.row name (subst (λ (l : List Row). all_pairs names_apart l ≡ true) r.split parts.named) r.named in
    let renewed_rows : map g rows ≡ r.front ++ new ∷ r.back =
    ap (map g) r.split ∙ map-append g r.front (r.row ∷ r.back) ∙ ap (λ (l : List Row). l ++ g r.row ∷ map g r.back) (others_renewed types name content r.front r.others)
    ∙ ap (λ (x : Row). r.front ++ x ∷ map g r.back) (this_renewed types name content r.row r.named key) ∙ ap (λ (l : List Row). r.front ++ new ∷ l) (others_renewed types name content r.back behind) in
    let after : paths_of types (r.front ++ new ∷ r.back) ≡ map (both g) first ++ (map g path, new) ∷ map (both g) last =
    ap (paths_of types) (sym renewed_rows) ∙ with_mapped level g (renewed_level types name content) [] rows ∙ ap (map (both g)) before ∙ map-append (both g) first ((path, r.row) ∷ last)
    ∙ ap (λ (x : Row). map (both g) first ++ (map g path, x) ∷ map (both g) last) (this_renewed types name content r.row r.named key) in
    let other : Row → Bool = λ x. not (same_name x.name name) in
    record {
      same = same_renewed types name content;
      paths = record { front = first; back = last; before = before; after = after };
      front_stays = λ index. entries_stay types index g (same_renewed types name content) other (λ x h. other_stays types name content x h) first (all_rows level other [] r.front ∙ r.others);
      back_stays = λ index. entries_stay types index g (same_renewed types name content) other (λ x h. other_stays types name content x h) last (all_rows level other path r.back ∙ behind);
    }

replaced_rows : (rows : List Row) (front back : List Row) (row : Row) (name : Ilk) (content : List ℕ) → rows ≡ front ++ row ∷ back → same_name row.name name ≡ true → list_all (λ r. not (same_name r.name name)) front ≡ true → list_all (λ r. not (same_name r.name name)) back ≡ true
    → replaced rows name content ≡ front ++ with_content row content ∷ back
replaced_rows rows front back row name content split named before behind =
    let f : Row → Row = λ r. cond (same_name r.name name) (with_content r content) r in
    ap (λ (l : List Row). replaced l name content) split ∙ map-append f front (row ∷ back) ∙ ap (λ (l : List Row). l ++ f row ∷ map f back) (others_stay name content front before)
    ∙ ap (λ b. front ++ cond b (with_content row content) row ∷ map f back) named ∙ ap (λ (l : List Row). front ++ with_content row content ∷ l) (others_stay name content back behind)

-- with the key of one of them as it is
abbrev order_to : Schema → Row → Row → List ℕ → Bool
order_to schema a row key =
    not (are_twins a row) || cond (has_unique_key schema.types a.code) (is_lt (cond (a.code == 1) (root_cmp schema (row_key schema.types a) key) (key_cmp (row_key schema.types a) key))) (is_le (cond (a.code == 1) (root_cmp schema (row_key schema.types a) key) (key_cmp (row_key schema.types a) key)))

abbrev order_of : Schema → Row → List ℕ → Row → Bool
order_of schema row key a =
    not (are_twins row a) || cond (has_unique_key schema.types row.code) (is_lt (cond (row.code == 1) (root_cmp schema key (row_key schema.types a)) (key_cmp key (row_key schema.types a)))) (is_le (cond (row.code == 1) (root_cmp schema key (row_key schema.types a)) (key_cmp key (row_key schema.types a))))

pub replacement_kept : ReplacementKeeps
replacement_kept schema rows name content forest may =
    let types = schema.types in
    let parts = parts_of schema rows forest in
    let r = named_row schema rows name content (find (λ (r : Row). same_name r.name name) rows) refl may in
    let new = with_content r.row content in
    let path = path_with (row_level types) (path_after (row_level types) [] r.front) r.row in
    let a = and_parts (has_length types new && bytes_eq (row_key types new) (row_key types r.row)) (list_all (keeps_freely types rows content path r.row) schema.indexes) r.may in
    let b = and_parts (has_length types new) (bytes_eq (row_key types new) (row_key types r.row)) a.0 in
    let key : row_key types r.row ≡ row_key types new = sym ((bytes_eq-Decides (row_key types new) (row_key types r.row)).0 b.1) in
    let behind = others_behind r.front r.back r.row name (subst (λ (l : List Row). all_pairs names_apart l ≡ true) r.split parts.named) r.named in
    let is = renewal schema rows name content parts r b.1 in
    let P : List Row × Row → Bool = λ p. is_path types None p.0 in
    let g = renewed types name content in
    let mapped : (paths : List (List Row × Row)) → list_all P paths ≡ true → list_all P (map (both g) paths) ≡ true = λ paths h.
    list_all-map P (both g) paths ∙ all_weaker P (λ p. P (both g p)) (λ p e. path_renewed types name content p.0 ∙ e) paths h in
    let old = all_parts P is.paths.front ((path, r.row) ∷ is.paths.back) (sym (ap (list_all P) is.paths.before) ∙ parts.placed) in
    let last = and_parts (P (path, r.row)) (list_all P is.paths.back) old.1 in
    subst (λ (l : List Row). is_forest schema l ≡ true) (sym (replaced_rows rows r.front r.back r.row name content r.split r.named r.others behind))
    (forest_from schema (r.front ++ new ∷ r.back)
    (record {
      named = pairs_swap names_apart r.front r.back r.row new (λ x. refl) (λ x. refl) (subst (λ (l : List Row). all_pairs names_apart l ≡ true) r.split parts.named);
      long = all_swap (has_length types) r.front r.back r.row new (subst (λ (l : List Row). list_all (has_length types) l ≡ true) r.split parts.long) b.0;
      placed = ap (list_all P) is.paths.after
          ∙ all_append P (map (both g) is.paths.front) ((map g path, new) ∷ map (both g) is.paths.back) (mapped is.paths.front old.0)
          (and_from (P (map g path, new)) (list_all P (map (both g) is.paths.back)) (path_renewed types name content path ∙ last.0) (mapped is.paths.back last.1));
      types = pairs_swap in_type_order r.front r.back r.row new (λ x. refl) (λ x. refl) (subst (λ (l : List Row). all_pairs in_type_order l ≡ true) r.split parts.types);
      twins = pairs_swap (in_twin_order schema) r.front r.back r.row new (λ x. ap (order_to schema x r.row) key) (λ x. ap (λ k. order_of schema r.row k x) key) (subst (λ (l : List Row). all_pairs (in_twin_order schema) l ≡ true) r.split parts.twins);
      selected = pairs_selected schema r.front r.back r.row content key (subst (λ (l : List Row). list_all (is_selected schema) l ≡ true) r.split parts.selected);
      indexed = all_both (entries_differ types rows) (keeps_freely types rows content path r.row) (entries_differ types (r.front ++ new ∷ r.back))
          (λ index d f. index_renewed types rows (r.front ++ new ∷ r.back) path r.row content g index is d f) schema.indexes parts.indexed a.1;
    }))
  where
    pairs_selected : (schema : Schema) (front back : List Row) (row : Row) (content : List ℕ) → row_key schema.types row ≡ row_key schema.types (with_content row content) → list_all (is_selected schema) (front ++ row ∷ back) ≡ true → list_all (is_selected schema) (front ++ with_content row content ∷ back) ≡ true
    pairs_selected schema front back row content key h =
        all_swap (is_selected schema) front back row (with_content row content) h
        (sym (ap (λ k. not (row.code == 1) || is_some (partition_of schema k)) key) ∙ (and_parts (is_selected schema row) (list_all (is_selected schema) back) (all_parts (is_selected schema) front (row ∷ back) h).1).0)
