-- An entry's root is that of the record in which its target stands.
use Rattle.std.proofs.Common.{◌≡◌, ℕ, suc, ◌==◌, Bool, true, false, cond, ◌&&◌, ◌||◌, not, List, [], ◌∷◌, ◌++◌, Option, None, Some, refl, sym, ap, subst, ◌∙◌}
use Rattle.std.specs.Prelude.{filter, map, nat_lt, is_none, option_and_then, unwrap_or, IsTrue}
use Rattle.std.specs.List.{list_all, list_any, slice_get, AllByRecursion, AllZip}
use Rattle.std.specs.Option.{option_map, option_map_or}
use Rattle.std.specs.Ordering.{is_le}
use Rattle.std.specs.Str.{bytes_eq}
use Rattle.std.proofs.lemmas.Bool.{false_from_ne_true, and_parts, and_from, eqb-true}
use Rattle.std.proofs.lemmas.Slice.Eq.{bytes_eq-Decides}
use Rattle.hal_base.specs.declared.place.Ilk.{Ilk}
use Rattle.hal_schema.specs.declared.row.Row.{Row}
use Rattle.hal_schema.specs.declared.schema.IndexDef.{IndexDef}
use Rattle.hal_schema.specs.declared.schema.Schema.{Schema}
use Rattle.hal_schema.specs.declared.schema.SegType.{SegType}
use Rattle.hal_schema.specs.Entry.{Entry, with_entry, in_key_order, entries_by_row, entries_of}
use Rattle.hal_schema.specs.Facts.{SchemasAreKept}
use Rattle.hal_schema.specs.Forest.{is_forest, all_pairs, names_apart, is_child_of, is_path, rows_are_named, rows_are_below_parents, types_rise, twins_rise, keys_are_placed, has_length}
use Rattle.hal_schema.specs.Keys.{key_cmp}
use Rattle.hal_schema.specs.Paths.{path_with, with_paths, paths_of}
use Rattle.hal_schema.specs.Row.{same_name, row_named, is_new_name, is_parent, row_level, row_key}
use Rattle.hal_schema.specs.SegType.{parent_code, is_parent_code}
use Rattle.hal_schema.proofs.RowNames.{name_is, name_itself}
use Rattle.forest_laws.specs.Entries.{IsEntryOf, EntriesAreOfSources}
use Rattle.volume_rules.specs.View.{Segment, name_at}
use Rattle.volume_rules.specs.Target.{Pointer, bears, is_among}
use Rattle.volume_rules.specs.Volume.{IndexRow, Volume, KeepsEntries, pointers_of, pointer_of, entry_in, forest_of}
use Rattle.volume_rules.specs.Hanging.{record_at, root_from, root_of, is_root_of, EntriesHang, PointersHang, GoneAreUnpointed}
use Rattle.volume_rules.proofs.Leading.{at_each}
use Rattle.volume_rules.proofs.Pointing.{borne_at}

not_true : (b : Bool) → not b ≡ true → b ≡ false
not_true true h = cc
not_true false h = refl

-- ---- the paths of a list and the records along it

abbrev is_root : Row → Bool
is_root row = row.code == 1

-- all rows of a path are of the record of its first
abbrev is_of_one : List SegType → List Row → List Row → Bool
is_of_one types all path = option_map_or (λ first. list_all (λ (r : Row). is_root_of types all r.name (row_key types first)) path) (slice_get path 0) true

all_filter : {X : Type 0} (test keep : X → Bool) (xs : List X) → list_all test xs ≡ true → list_all test (filter keep xs) ≡ true
all_filter test keep [] h = refl
all_filter test keep (x ∷ xs) h =
    let p = and_parts (test x) (list_all test xs) h in
    go (keep x) p.0 (all_filter test keep xs p.1)
  where
    go : (b : Bool) → test x ≡ true → list_all test (filter keep xs) ≡ true → list_all test (cond b (x ∷ filter keep xs) (filter keep xs)) ≡ true
    go true a b = and_from (test x) (list_all test (filter keep xs)) a b
    go false a b = b

all_end : {X : Type 0} (test : X → Bool) (xs : List X) (x : X) → list_all test xs ≡ true → test x ≡ true → list_all test (xs ++ x ∷ []) ≡ true
all_end test [] x h a = and_from (test x) true a refl
all_end test (y ∷ xs) x h a = let p = and_parts (test y) (list_all test xs) h in and_from (test y) (list_all test (xs ++ x ∷ [])) p.0 (all_end test xs x p.1 a)

module _ (types : List SegType) (rootless : parent_code types 1 ≡ None) (all : List Row) where
  abbrev level : Row → ℕ
  level = row_level types

  -- a root is no child
  no_child : (above x : Row) → is_root x ≡ true → is_child_of types (Some above) x ≡ false
  no_child above x root = by (is_parent above x) (is_parent_code types above.code x.code) (ap (λ (c : ℕ). is_parent_code types above.code c) (eqb-true x.code 1 root) ∙ ap (λ (o : Option ℕ). option_map_or (λ parent. parent == above.code) o false) rootless)
    where
      by : (p c : Bool) → c ≡ false → (p && c) ≡ false
      by true c e = e
      by false c e = refl

  -- so a path to a root is the root alone
  alone : (f : List Row) (x : Row) → is_root x ≡ true → is_path types None (f ++ x ∷ []) ≡ true → f ≡ []
  alone [] x root h = refl
  alone (a ∷ f) x root h = absurd (below a f (and_parts (is_child_of types None a) (is_path types (Some a) (f ++ x ∷ [])) h).1)
    where
      below : (above : Row) (f : List Row) → is_path types (Some above) (f ++ x ∷ []) ≡ true → ⊥
      below above [] h =
          let c = (and_parts (is_child_of types (Some above) x) true h).0 in
          let no_ = no_child above x root in
          let bad : true ≡ false = sym c ∙ no_ in
          cc
      below above (b ∷ f) h = below b f (and_parts (is_child_of types (Some above) b) (is_path types (Some b) (f ++ x ∷ [])) h).1

  -- what a path so far is: none, or a root of this key and rows that are no roots, all of the record of that root
  record Led (root : List ℕ) (first : Row) (tail : List Row) : Type 0 where
    key : row_key types first ≡ root
    others : list_all (λ r. not (is_root r)) tail ≡ true
    mine : list_all (λ r. is_root_of types all r.name root) (first ∷ tail) ≡ true

  data Path (root : List ℕ) : List Row → Type 0 where
    none_yet : Path root []
    led : (first : Row) (tail : List Row) → Led root first tail → Path root (first ∷ tail)

  of_one : (root : List ℕ) (path : List Row) → Path root path → is_of_one types all path ≡ true
  of_one root path none_yet = refl
  of_one root path (led first tail l) = subst (λ (k : List ℕ). list_all (λ r. is_root_of types all r.name k) (first ∷ tail) ≡ true) (sym l.key) l.mine

  -- the path to a row that is no root goes through the root of its record
  through : (root : List ℕ) (path : List Row) (x : Row) → Path root path → is_root x ≡ false → is_root_of types all x.name root ≡ true → is_path types None (path_with level path x) ≡ true → Path root (path_with level path x)
  through root path x none_yet no_ mine h =
      let c = (and_parts (is_child_of types None x) true h).0 in
      let r = (and_parts (x.code == 1) (is_none x.parent) c).0 in
      let bad : true ≡ false = sym r ∙ no_ in
      cc
  through root path x (led first tail l) no_ mine h = go (nat_lt (level first) (level x)) h
    where
      go : (b : Bool) → is_path types None (cond b (first ∷ filter (λ above. nat_lt (level above) (level x)) tail) (filter (λ above. nat_lt (level above) (level x)) tail) ++ x ∷ []) ≡ true
          → Path root (cond b (first ∷ filter (λ above. nat_lt (level above) (level x)) tail) (filter (λ above. nat_lt (level above) (level x)) tail) ++ x ∷ [])
      go true h =
          let keep : Row → Bool = λ above. nat_lt (level above) (level x) in
          let m = and_parts (is_root_of types all first.name root) (list_all (λ r. is_root_of types all r.name root) tail) l.mine in
          led first (filter keep tail ++ x ∷ [])
          (record {
            key = l.key;
            others = all_end (λ r. not (is_root r)) (filter keep tail) x (all_filter (λ r. not (is_root r)) keep tail l.others) (ap not no_);
            mine = and_from (is_root_of types all first.name root) (list_all (λ r. is_root_of types all r.name root) (filter keep tail ++ x ∷ [])) m.0
                (all_end (λ r. is_root_of types all r.name root) (filter keep tail) x (all_filter (λ r. is_root_of types all r.name root) keep tail m.1) mine);
          })
      go false h = absurd (bad (filter (λ above. nat_lt (level above) (level x)) tail) (all_filter (λ r. not (is_root r)) (λ above. nat_lt (level above) (level x)) tail l.others) h)
        where
          bad : (f : List Row) → list_all (λ r. not (is_root r)) f ≡ true → is_path types None (f ++ x ∷ []) ≡ true → ⊥
          bad [] others h =
              let c = (and_parts (is_child_of types None x) true h).0 in
              let r = (and_parts (x.code == 1) (is_none x.parent) c).0 in
              let no : true ≡ false = sym r ∙ no_ in
              cc
          bad (y ∷ f) others h =
              let c = (and_parts (is_child_of types None y) (is_path types (Some y) (f ++ x ∷ [])) h).0 in
              let r = (and_parts (y.code == 1) (is_none y.parent) c).0 in
              let o = not_true (y.code == 1) (and_parts (not (is_root y)) (list_all (λ r. not (is_root r)) f) others).0 in
              let no : true ≡ false = sym r ∙ o in
              cc

  -- the names of the rows that are left are looked up from here on
  abbrev FromHere : List ℕ → List Row → Type 0
  FromHere root rows = AllByRecursion (λ (r : Row). root_of types all r.name ≡ root_from types root rows r.name) rows

  from_next : (root : List ℕ) (x : Row) (xs rows : List Row) → list_all (names_apart x) rows ≡ true → AllByRecursion (λ (r : Row). root_of types all r.name ≡ root_from types root (x ∷ xs) r.name) rows
      → AllByRecursion (λ (r : Row). root_of types all r.name ≡ root_from types (record_at types root x) xs r.name) rows
  from_next root x xs [] apart h = tt
  from_next root x xs (r ∷ rows) apart h =
      let p = and_parts (names_apart x r) (list_all (names_apart x) rows) apart in
      (h.0 ∙ ap (λ b. cond b (Some (record_at types root x)) (root_from types (record_at types root x) xs r.name)) (not_true (same_name x.name r.name) p.0), from_next root x xs rows p.1 h.1)

  found : (root : List ℕ) (x : Row) (xs : List Row) → root_of types all x.name ≡ root_from types root (x ∷ xs) x.name → is_root_of types all x.name (record_at types root x) ≡ true
  found root x xs h =
      let at : root_of types all x.name ≡ Some (record_at types root x) = h ∙ ap (λ b. cond b (Some (record_at types root x)) (root_from types (record_at types root x) xs x.name)) (name_itself x.name) in
      ap (λ (o : Option (List ℕ)). option_map_or (bytes_eq (record_at types root x)) o false) at ∙ (bytes_eq-Decides (record_at types root x) (record_at types root x)).1 refl

  walk : (rows path : List Row) (root : List ℕ) → all_pairs names_apart rows ≡ true → FromHere root rows → Path root path → list_all (λ (p : List Row × Row). is_path types None p.0) (with_paths level path rows) ≡ true
      → list_all (λ (p : List Row × Row). is_of_one types all p.0) (with_paths level path rows) ≡ true
  walk [] path root apart here p h = refl
  walk (x ∷ xs) path root apart here p h =
      let a = and_parts (list_all (names_apart x) xs) (all_pairs names_apart xs) apart in
      let w = and_parts (is_path types None (path_with level path x)) (list_all (λ (p : List Row × Row). is_path types None p.0) (with_paths level (path_with level path x) xs)) h in
      let mine = found root x xs here.0 in
      let next = now (is_root x) refl mine w.0 in
      and_from (is_of_one types all (path_with level path x)) (list_all (λ (p : List Row × Row). is_of_one types all p.0) (with_paths level (path_with level path x) xs))
      (of_one (record_at types root x) (path_with level path x) next)
      (walk xs (path_with level path x) (record_at types root x) a.1 (from_next root x xs xs a.0 here.1) next w.1)
    where
      now : (b : Bool) → is_root x ≡ b → is_root_of types all x.name (cond b (row_key types x) root) ≡ true → is_path types None (path_with level path x) ≡ true → Path (cond b (row_key types x) root) (path_with level path x)
      now true e mine h =
          let f : filter (λ above. nat_lt (level above) (level x)) path ≡ [] = alone (filter (λ above. nat_lt (level above) (level x)) path) x e h in
          subst (λ (f : List Row). Path (row_key types x) (f ++ x ∷ [])) (sym f)
          (led x [] (record { key = refl; others = refl; mine = and_from (is_root_of types all x.name (row_key types x)) true mine refl }))
      now false e mine h = through root path x p e mine h

-- ---- entries

-- a name on a path passes what each name of the path passes
named_passes : (kind : Row → Bool) (test : Ilk → Bool) (name : Ilk) (path : List Row) → list_any (λ (r : Row). kind r && same_name r.name name) path ≡ true → list_all (λ (r : Row). test r.name) path ≡ true → test name ≡ true
named_passes kind test name [] h all = cc
named_passes kind test name (r ∷ path) h all =
    let a = and_parts (test r.name) (list_all (λ (r : Row). test r.name) path) all in
    go (kind r && same_name r.name name) refl h a.0 (λ h. named_passes kind test name path h a.1)
  where
    go : (b : Bool) → (kind r && same_name r.name name) ≡ b → (b || list_any (λ (r : Row). kind r && same_name r.name name) path) ≡ true → test r.name ≡ true
        → (list_any (λ (r : Row). kind r && same_name r.name name) path ≡ true → test name ≡ true) → test name ≡ true
    go true e h first more = ap test (sym (name_is r.name name (and_parts (kind r) (same_name r.name name) e).1)) ∙ first
    go false e h first more = more h

hangs_of : (types : List SegType) (rows : List Row) (index : IndexDef) (p : List Row × Row) (e : Entry) → IsEntryOf types index p e → is_of_one types rows p.0 ≡ true → is_root_of types rows e.target e.root ≡ true
hangs_of types rows index p e is one =
    let first = is.root.0 in
    let all : list_all (λ (r : Row). is_root_of types rows r.name (row_key types first)) p.0 ≡ true =
    sym (ap (λ (o : Option Row). option_map_or (λ first. list_all (λ (r : Row). is_root_of types rows r.name (row_key types first)) p.0) o true) is.root.1) ∙ one in
    subst (λ (k : List ℕ). is_root_of types rows e.target k ≡ true) is.root.2
    (named_passes (λ row. row.code == index.target) (λ name. is_root_of types rows name (row_key types first)) e.target p.0 is.target all)

each_hangs : (types : List SegType) (rows : List Row) (index : IndexDef) (ps : List (List Row × Row)) (es : List Entry) → AllZip (IsEntryOf types index) ps es → list_all (λ (p : List Row × Row). is_of_one types rows p.0) ps ≡ true
    → list_all (λ (e : Entry). is_root_of types rows e.target e.root) es ≡ true
each_hangs types rows index [] [] z h = refl
each_hangs types rows index [] (e ∷ es) z h = absurd z
each_hangs types rows index (p ∷ ps) [] z h = absurd z
each_hangs types rows index (p ∷ ps) (e ∷ es) z h =
    let a = and_parts (is_of_one types rows p.0) (list_all (λ (p : List Row × Row). is_of_one types rows p.0) ps) h in
    and_from (is_root_of types rows e.target e.root) (list_all (λ (e : Entry). is_root_of types rows e.target e.root) es) (hangs_of types rows index p e z.0 a.0) (each_hangs types rows index ps es z.1 a.1)

all_with : (test : Entry → Bool) (entry : Entry) (entries : List Entry) → test entry ≡ true → list_all test entries ≡ true → list_all test (with_entry entry entries) ≡ true
all_with test entry [] a h = and_from (test entry) true a refl
all_with test entry (e ∷ entries) a h =
    let p = and_parts (test e) (list_all test entries) h in
    go (is_le (key_cmp entry.key e.key)) (and_from (test e) (list_all test (with_entry entry entries)) p.0 (all_with test entry entries a p.1))
  where
    go : (b : Bool) → list_all test (e ∷ with_entry entry entries) ≡ true → list_all test (cond b (entry ∷ e ∷ entries) (e ∷ with_entry entry entries)) ≡ true
    go true more = and_from (test entry) (list_all test (e ∷ entries)) a h
    go false more = more

all_in_order : (test : Entry → Bool) (entries : List Entry) → list_all test entries ≡ true → list_all test (in_key_order entries) ≡ true
all_in_order test [] h = refl
all_in_order test (e ∷ entries) h = let p = and_parts (test e) (list_all test entries) h in all_with test e (in_key_order entries) p.0 (all_in_order test entries p.1)

looked_up : (types : List SegType) (all rows : List Row) → AllByRecursion (λ (r : Row). root_of types all r.name ≡ root_from types [] all r.name) rows
looked_up types all [] = tt
looked_up types all (r ∷ rows) = (refl, looked_up types all rows)

pub entries_hang : SchemasAreKept → EntriesAreOfSources → EntriesHang
entries_hang kept sources schema rows place index forest at =
    let types = schema.types in
    let f4 = and_parts (rows_are_named types rows && rows_are_below_parents types rows && types_rise rows && twins_rise schema rows) (keys_are_placed schema rows) forest in
    let f3 = and_parts (rows_are_named types rows && rows_are_below_parents types rows && types_rise rows) (twins_rise schema rows) f4.0 in
    let f2 = and_parts (rows_are_named types rows && rows_are_below_parents types rows) (types_rise rows) f3.0 in
    let f1 = and_parts (rows_are_named types rows) (rows_are_below_parents types rows) f2.0 in
    let apart = (and_parts (all_pairs names_apart rows) (list_all (has_length types) rows) f1.0).0 in
    let ones = walk types (kept schema).root rows rows [] [] apart (looked_up types rows rows) none_yet f1.1 in
    all_in_order (λ (e : Entry). is_root_of types rows e.target e.root) (entries_by_row types index (paths_of types rows))
    (each_hangs types rows index (filter (λ (p : List Row × Row). p.1.code == index.source) (paths_of types rows)) (entries_by_row types index (paths_of types rows)) (sources schema rows place index forest at)
    (all_filter (λ (p : List Row × Row). is_of_one types rows p.0) (λ (p : List Row × Row). p.1.code == index.source) (paths_of types rows) ones))

-- ---- pointers

all_both : {X : Type 0} (test : X → Bool) (xs ys : List X) → list_all test xs ≡ true → list_all test ys ≡ true → list_all test (xs ++ ys) ≡ true
all_both test [] ys a b = b
all_both test (x ∷ xs) ys a b = let p = and_parts (test x) (list_all test xs) a in and_from (test x) (list_all test (xs ++ ys)) p.0 (all_both test xs ys p.1 b)

module _ (types : List SegType) (rows : List Row) where
  abbrev entry_hangs : Entry → Bool
  entry_hangs e = is_root_of types rows e.target e.root

  abbrev pointer_hangs : Pointer → Bool
  pointer_hangs p = is_root_of types rows p.eps.name p.root

  of_index : (code : ℕ) (list : List IndexRow) → list_all entry_hangs (map entry_in list) ≡ true → list_all pointer_hangs (map (pointer_of code) list) ≡ true
  of_index code [] h = refl
  of_index code (r ∷ list) h = let p = and_parts (entry_hangs (entry_in r)) (list_all entry_hangs (map entry_in list)) h in and_from (pointer_hangs (pointer_of code r)) (list_all pointer_hangs (map (pointer_of code) list)) p.0 (of_index code list p.1)

  of_indexes : (indexes : List IndexDef) (lists : List (List IndexRow)) → ((place : ℕ) (index : IndexDef) → slice_get indexes place ≡ Some index → list_all entry_hangs (entries_of types index rows) ≡ true)
      → map {A = List IndexRow} {B = List Entry} (λ list. map entry_in list) lists ≡ map {A = IndexDef} {B = List Entry} (λ index. entries_of types index rows) indexes → list_all pointer_hangs (pointers_of indexes lists) ≡ true
  of_indexes [] lists each those = refl
  of_indexes (index ∷ indexes) [] each those = refl
  of_indexes (index ∷ indexes) (list ∷ lists) each those =
      let first : map entry_in list ≡ entries_of types index rows = cc in
      let more : map {A = List IndexRow} {B = List Entry} (λ list. map entry_in list) lists ≡ map {A = IndexDef} {B = List Entry} (λ index. entries_of types index rows) indexes = cc in
      all_both pointer_hangs (map (pointer_of index.target) list) (pointers_of indexes lists) (of_index index.target list (ap (list_all entry_hangs) first ∙ each 0 index refl))
      (of_indexes indexes lists (λ place i at. each (suc place) i at) more)

-- each pointer's root is that of its target's record
hangs_at : SchemasAreKept → EntriesAreOfSources → (schema : Schema) (volume : Volume) → IsTrue (is_forest schema (forest_of volume)) → KeepsEntries schema volume
    → (p : Pointer) → is_among (pointers_of schema.indexes volume.indexes) p ≡ true → is_root_of schema.types (forest_of volume) p.eps.name p.root ≡ true
hangs_at kept sources schema volume forest entries p among =
    let types = schema.types in
    let rows = forest_of volume in
    let all = of_indexes types rows schema.indexes volume.indexes (λ place index at. entries_hang kept sources schema rows place index forest at) entries.those in
    at_each (pointer_hangs types rows) (pointers_of schema.indexes volume.indexes) all p among

pub pointers_hang : SchemasAreKept → EntriesAreOfSources → PointersHang
pointers_hang kept sources schema volume view p home forest entries among own =
    let types = schema.types in
    let rows = forest_of volume in
    let b = borne_at view p.eps.name p.code home own in
    let name : name_at view home ≡ Some p.eps.name = ap (option_map (λ (s : Segment). s.name)) b.stands.here ∙ ap {B = Option Ilk} Some b.name_is in
    by (root_of types rows p.eps.name) (hangs_at kept sources schema volume forest entries p among) ∙ ap (λ (o : Option Ilk). unwrap_or (option_and_then (root_of types rows) o) []) (sym name)
  where
    by : (o : Option (List ℕ)) → option_map_or (bytes_eq p.root) o false ≡ true → p.root ≡ unwrap_or o []
    by None h = cc
    by (Some k) h = (bytes_eq-Decides p.root k).0 h

unnamed : (types : List SegType) (before : List ℕ) (rows : List Row) (name : Ilk) → is_new_name rows name ≡ true → root_from types before rows name ≡ None
unnamed types before [] name h = refl
unnamed types before (row ∷ rows) name h = go (same_name row.name name) h (unnamed types (record_at types before row) rows name)
  where
    go : (b : Bool) → is_none (cond b (Some row) (row_named rows name)) ≡ true → (is_new_name rows name ≡ true → root_from types (record_at types before row) rows name ≡ None)
        → cond b (Some (record_at types before row)) (root_from types (record_at types before row) rows name) ≡ None
    go true h more = cc
    go false h more = more h

pub gone_are_unpointed : SchemasAreKept → EntriesAreOfSources → GoneAreUnpointed
gone_are_unpointed kept sources schema volume view p home forest entries among gone =
    false_from_ne_true (bears view p.eps.name p.code home)
    (λ own.
    (let b = borne_at view p.eps.name p.code home own in
    let new : is_new_name (forest_of volume) p.eps.name ≡ true = ap (is_new_name (forest_of volume)) (sym b.name_is) ∙ gone b.s b.stands.here in
    let none : root_of schema.types (forest_of volume) p.eps.name ≡ None = unnamed schema.types [] (forest_of volume) p.eps.name new in
    let bad : false ≡ true = sym (ap (λ (o : Option (List ℕ)). option_map_or (bytes_eq p.root) o false) none) ∙ hangs_at kept sources schema volume forest entries p among in
    cc))
