-- What the entries of an index are.
use Rattle.std.proofs.Common.{◌≡◌, ℕ, ◌+◌, ◌==◌, Bool, true, false, cond, ◌&&◌, ◌||◌, List, [], ◌∷◌, ◌++◌, map, reverse, Option, Some, refl, sym, ap, subst, ◌∙◌, arith}
use Rattle.std.specs.Prelude.{count_by, sum_by, filter, filter_map, find}
use Rattle.std.specs.List.{list_any, slice_get, AllByRecursion, AllZip, cons_option}
use Rattle.std.specs.Ordering.{is_le, ordering_reverse}
use Rattle.std.specs.declared.cmp.Ordering.{Ordering}
use Rattle.std.specs.declared.cmp.Ordering.TheVariants.{Less, Equal, Greater}
use Rattle.std.proofs.lemmas.Bool.{and_parts, and_from, or_left, or_right, eqb-true}
use Rattle.std.proofs.lemmas.Cmp.{nat_list_cmp_total}
use Rattle.std.proofs.lemmas.Grind.{reverse_onto}
use Rattle.std.proofs.lemmas.List.Folds.{list_any-append}
use Rattle.std.proofs.lemmas.List.Sums.{sum_by-append}
use Rattle.hal_schema.specs.declared.row.Row.{Row}
use Rattle.hal_schema.specs.declared.schema.IndexDef.{IndexDef}
use Rattle.hal_schema.specs.declared.schema.SegType.{SegType}
use Rattle.hal_schema.specs.declared.schema.Schema.{Schema}
use Rattle.hal_schema.specs.SegType.{parent_code, ancestry}
use Rattle.hal_schema.specs.Row.{same_name, row_level, row_key}
use Rattle.hal_schema.specs.Paths.{path_after, paths_of}
use Rattle.hal_schema.specs.Keys.{key_cmp}
use Rattle.hal_schema.specs.Entry.{Entry, entry_of, entries_by_row, with_entry, in_key_order}
use Rattle.hal_schema.specs.Lawful.{all_rise, is_below_first}
use Rattle.hal_schema.specs.Facts.{KeepsIndex, SchemasAreKept}
use Rattle.forest_laws.specs.Entries.{IsEntryOf, EntriesAreOfSources, EntriesAreInKeyOrder}
use Rattle.hal_schema.proofs.RowNames.{name_from}
use Rattle.forest_laws.proofs.Carried.{above_in}
use Rattle.forest_laws.proofs.Parents.{Parts, parts_of, path_among}
use Rattle.forest_laws.proofs.PathLaws.{each_path, path_codes}
use Rattle.forest_laws.proofs.EntriesByRow.{entry_at, entry_with, own_key}

-- ---- in the order of their keys

le_turned : (a b : List ℕ) → is_le (key_cmp a b) ≡ false → is_le (key_cmp b a) ≡ true
le_turned a b h = by (key_cmp a b) refl h (nat_list_cmp_total.antisymm b a)
  where
    by : (o : Ordering) → key_cmp a b ≡ o → is_le o ≡ false → key_cmp b a ≡ ordering_reverse (key_cmp a b) → is_le (key_cmp b a) ≡ true
    by Less e h t = cc
    by Equal e h t = cc
    by Greater e h t = ap is_le (t ∙ ap ordering_reverse e)

abbrev rises : Entry → Entry → Bool
rises a b = is_le (key_cmp a.key b.key)

-- the first of a list with one entry more is that entry or the first
first_with : (x entry : Entry) (entries : List Entry) → rises x entry ≡ true → is_below_first rises x entries ≡ true → is_below_first rises x (with_entry entry entries) ≡ true
first_with x entry [] a b = a
first_with x entry (e ∷ entries) a b = by (rises entry e)
  where
    by : (t : Bool) → is_below_first rises x (cond t (entry ∷ e ∷ entries) (e ∷ with_entry entry entries)) ≡ true
    by true = a
    by false = b

rise_with : (entry : Entry) (entries : List Entry) → all_rise rises entries ≡ true → all_rise rises (with_entry entry entries) ≡ true
rise_with entry [] h = refl
rise_with entry (e ∷ entries) h = by (rises entry e) refl (rise_with entry entries (and_parts (is_below_first rises e entries) (all_rise rises entries) h).1)
  where
    by : (t : Bool) → rises entry e ≡ t → all_rise rises (with_entry entry entries) ≡ true → all_rise rises (cond t (entry ∷ e ∷ entries) (e ∷ with_entry entry entries)) ≡ true
    by true le rest = and_from (rises entry e) (all_rise rises (e ∷ entries)) le h
    by false gt rest =
        and_from (is_below_first rises e (with_entry entry entries)) (all_rise rises (with_entry entry entries))
        (first_with e entry entries (le_turned entry.key e.key gt) (and_parts (is_below_first rises e entries) (all_rise rises entries) h).0) rest

rise_in_order : (entries : List Entry) → all_rise rises (in_key_order entries) ≡ true
rise_in_order [] = refl
rise_in_order (e ∷ entries) = rise_with e (in_key_order entries) (rise_in_order entries)

count_first : (test : Entry → Bool) (e : Entry) (entries : List Entry) → count_by test (e ∷ entries) ≡ cond (test e) 1 0 + count_by test entries
count_first test e entries =
    let f : Entry → ℕ = λ e. cond (test e) 1 0 in
    sum_by-append f (e ∷ []) entries ∙ (let s : sum_by f (e ∷ []) + sum_by f entries ≡ f e + sum_by f entries = omega arith in s)

count_with : (test : Entry → Bool) (entry : Entry) (entries : List Entry) → count_by test (with_entry entry entries) ≡ count_by test (entry ∷ entries)
count_with test entry [] = refl
count_with test entry (e ∷ entries) = by (rises entry e) (count_with test entry entries)
  where
    by : (t : Bool) → count_by test (with_entry entry entries) ≡ count_by test (entry ∷ entries) → count_by test (cond t (entry ∷ e ∷ entries) (e ∷ with_entry entry entries)) ≡ count_by test (entry ∷ e ∷ entries)
    by true rest = refl
    by false rest =
        let a = count_first test e (with_entry entry entries) in
        let b = count_first test entry entries in
        let c = count_first test entry (e ∷ entries) in
        let d = count_first test e entries in
        omega (arith, rest, a, b, c, d)

count_in_order : (test : Entry → Bool) (entries : List Entry) → count_by test (in_key_order entries) ≡ count_by test entries
count_in_order test [] = refl
count_in_order test (e ∷ entries) =
    let a = count_with test e (in_key_order entries) in
    let b = count_first test e (in_key_order entries) in
    let c = count_first test e entries in
    let d = count_in_order test entries in
    omega (arith, a, b, c, d)

pub entries_are_in_key_order : EntriesAreInKeyOrder
entries_are_in_key_order types index rows = record {
  those = λ test. count_in_order test (entries_by_row types index (paths_of types rows));
  rise = rise_in_order (entries_by_row types index (paths_of types rows));
}

-- ---- one a source

-- a path of a forest: it ends at its row, and its codes are the ancestry
abbrev IsWhole : (ℕ → List ℕ) → List Row × Row → Type 0
IsWhole up p = ((above : List Row) × (p.0 ≡ above ++ p.1 ∷ [])) × (reverse (map (λ (row : Row). row.code) p.0) ≡ up p.1.code)

any_turned : (n : ℕ) (xs : List ℕ) → list_any (λ c. c == n) (reverse xs) ≡ true → list_any (λ c. c == n) xs ≡ true
any_turned n [] h = h
any_turned n (x ∷ xs) h = by (list_any (λ c. c == n) (reverse xs)) refl (any_turned n xs) (sym (ap (list_any (λ c. c == n)) (reverse_onto xs x []) ∙ list_any-append (λ c. c == n) (reverse xs) (x ∷ [])) ∙ h)
  where
    by : (b : Bool) → list_any (λ c. c == n) (reverse xs) ≡ b → (list_any (λ c. c == n) (reverse xs) ≡ true → list_any (λ c. c == n) xs ≡ true) → (list_any (λ c. c == n) (reverse xs) || ((x == n) || false)) ≡ true → list_any (λ c. c == n) (x ∷ xs) ≡ true
    by true e rest k = or_right (x == n) (list_any (λ c. c == n) xs) (rest e)
    by false e rest k = or_left (x == n) (list_any (λ c. c == n) xs) (alone (x == n) (sym (ap (λ b. b || ((x == n) || false)) e) ∙ k))
      where
        alone : (b : Bool) → (b || false) ≡ true → b ≡ true
        alone true h = refl
        alone false h = h

-- the row of a code on a path, with its name
pub record OnPath (code : ℕ) (path : List Row) : Type 0 where
  pub row : Row
  pub found : find (λ r. r.code == code) path ≡ Some row
  pub named : list_any (λ r. r.code == code && same_name r.name row.name) path ≡ true

on_path : (code : ℕ) (path : List Row) → list_any (λ c. c == code) (map (λ (row : Row). row.code) path) ≡ true → OnPath code path
on_path code [] h = cc
on_path code (r ∷ path) h = by (r.code == code) refl h (on_path code path)
  where
    by : (b : Bool) → (r.code == code) ≡ b → (b || list_any (λ c. c == code) (map (λ (row : Row). row.code) path)) ≡ true → (list_any (λ c. c == code) (map (λ (row : Row). row.code) path) ≡ true → OnPath code path) → OnPath code (r ∷ path)
    by true e h rest = record {
      row = r;
      found = ap (λ b. cond b (Some r) (find (λ r. r.code == code) path)) e;
      named = or_left (r.code == code && same_name r.name r.name) (list_any (λ q. q.code == code && same_name q.name r.name) path) (and_from (r.code == code) (same_name r.name r.name) e (name_from r.name r.name refl));
    }
    by false e h rest =
        let o = rest h in
        record {
          row = o.row;
          found = ap (λ b. cond b (Some r) (find (λ r. r.code == code) path)) e ∙ o.found;
          named = or_right (r.code == code && same_name r.name o.row.name) (list_any (λ q. q.code == code && same_name q.name o.row.name) path) o.named;
        }

first_of_path : (above : List Row) (row : Row) → (r : Row) × (slice_get (above ++ row ∷ []) 0 ≡ Some r)
first_of_path [] row = (row, refl)
first_of_path (a ∷ above) row = (a, refl)

-- a source has its entry
pub record Made (types : List SegType) (index : IndexDef) (p : List Row × Row) : Type 0 where
  pub entry : Entry
  pub made : entry_of types index p.0 p.1 ≡ Some entry
  pub is : IsEntryOf types index p entry

made_of : (schema : Schema) (index : IndexDef) (t : SegType) → KeepsIndex schema.types index t → (p : List Row × Row) → IsWhole (ancestry (parent_code schema.types)) p → p.1.code ≡ index.source → Made schema.types index p
made_of schema index t keeps p whole source =
    let types = schema.types in
    let up = ancestry (parent_code types) in
    let codes = map (λ (row : Row). row.code) p.0 in
    let among : list_any (λ c. c == index.target) (reverse codes) ≡ true = ap (list_any (λ c. c == index.target)) (whole.1 ∙ ap up source) ∙ keeps.target in
    let o = on_path index.target p.0 (any_turned index.target codes among) in
    let f = first_of_path whole.0.0 p.1 in
    let root : slice_get p.0 0 ≡ Some f.0 = ap (λ (l : List Row). slice_get l 0) whole.0.1 ∙ f.1 in
    let key = own_key types index p.0 p.1.content in
    let entry : Entry = record { key = key; target = o.row.name; root = row_key types f.0 } in
    record {
      entry = entry;
      made = ap (λ (target : Option Row). entry_with types key target (slice_get p.0 0)) o.found ∙ ap (λ (root : Option Row). entry_with types key (Some o.row) root) root;
      is = record { key = refl; target = o.named; root = (f.0, root, refl) };
    }

sources : (schema : Schema) (index : IndexDef) (t : SegType) → KeepsIndex schema.types index t → (paths : List (List Row × Row)) → AllByRecursion (IsWhole (ancestry (parent_code schema.types))) paths
    → AllZip (IsEntryOf schema.types index) (filter (λ (p : List Row × Row). p.1.code == index.source) paths) (entries_by_row schema.types index paths)
sources schema index t keeps [] whole = tt
sources schema index t keeps (p ∷ paths) whole = by (p.1.code == index.source) refl (sources schema index t keeps paths whole.1)
  where
    types : List SegType
    types = schema.types

    later : List (List Row × Row)
    later = filter (λ (p : List Row × Row). p.1.code == index.source) paths

    by : (b : Bool) → (p.1.code == index.source) ≡ b → AllZip (IsEntryOf schema.types index) (filter (λ (p : List Row × Row). p.1.code == index.source) paths) (entries_by_row schema.types index paths)
        → AllZip (IsEntryOf schema.types index) (cond b (p ∷ filter (λ (p : List Row × Row). p.1.code == index.source) paths) (filter (λ (p : List Row × Row). p.1.code == index.source) paths))
        (filter_map (entry_at schema.types index) (cond b (p ∷ filter (λ (p : List Row × Row). p.1.code == index.source) paths) (filter (λ (p : List Row × Row). p.1.code == index.source) paths)))
    by true e rest =
        let m = made_of schema index t keeps p whole.0 (eqb-true p.1.code index.source e) in
        subst (λ (o : Option Entry). AllZip (IsEntryOf schema.types index) (p ∷ filter (λ (p : List Row × Row). p.1.code == index.source) paths) (cons_option o (entries_by_row schema.types index paths))) (sym m.made) (m.is, rest)
    by false e rest = rest

pub entries_are_of_sources : SchemasAreKept → EntriesAreOfSources
entries_are_of_sources kept schema rows place index forest at =
    let level = row_level schema.types in
    let parts = parts_of schema rows forest in
    let keeps = (kept schema).indexes place index at in
    sources schema index keeps.0 keeps.1 (paths_of schema.types rows)
    (each_path level (IsWhole (ancestry (parent_code schema.types))) [] rows
    (λ front row back e.
    ((above_in level (path_after level [] front) row, refl), path_codes schema (kept schema) (above_in level (path_after level [] front) row) row (path_among schema front back row (subst (Parts schema) e parts)))))
