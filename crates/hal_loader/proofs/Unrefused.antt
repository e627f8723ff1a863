-- A row of a forest breaks no rule behind those before it: so its rows load again.
use Rattle.std.proofs.Common.{◌≡◌, ℕ, ◌+◌, ◌≤◌, ◌==◌, nat_lt, nat_le, Bool, true, false, not, cond, ◌&&◌, ◌||◌, List, [], ◌∷◌, ◌++◌, length, map, reverse, Option, Some, None, ◌⊎◌, inl, inr, refl, sym, ap, subst, ◌∙◌, arith}
use Rattle.std.specs.Prelude.{codes, filter, filter_map, find, is_none, is_some, option_and_then}
use Rattle.std.specs.Cmp.{IsTotalOrder}
use Rattle.std.specs.List.{cons_option, list_all, list_any, last_or, slice_get, AllByRecursion}
use Rattle.std.specs.Option.{option_map_or}
use Rattle.std.specs.Ordering.{ordering_reverse, ordering_then, nat_cmp, is_lt, is_le, is_eq}
use Rattle.std.specs.Str.{bytes_eq}
use Rattle.std.specs.declared.cmp.Ordering.{Ordering}
use Rattle.std.specs.declared.cmp.Ordering.TheVariants.{Less, Equal, Greater}
use Rattle.std.proofs.lemmas.Bool.{and_parts, and_from, and_right, not-true, not_from_false, true≢false, eqb-true, eq-eqb, ltb-true, ltb-false, leb-true}
use Rattle.std.proofs.lemmas.Cmp.{nat_list_cmp_total}
use Rattle.std.proofs.lemmas.Grind.{reverse_onto}
use Rattle.std.proofs.lemmas.List.{append_assoc, append-nil}
use Rattle.std.proofs.lemmas.List.Folds.{list_any-append}
use Rattle.hal_base.specs.declared.place.Ilk.{Ilk}
use Rattle.hal_schema.specs.declared.row.Row.{Row}
use Rattle.hal_schema.specs.declared.schema.IndexDef.{IndexDef}
use Rattle.hal_schema.specs.declared.schema.PartDef.{PartDef}
use Rattle.hal_schema.specs.declared.schema.Schema.{Schema}
use Rattle.hal_schema.specs.declared.schema.SegType.{SegType}
use Rattle.hal_schema.specs.Entry.{Entry, entries_by_row, entries_of, entry_key, entry_of, is_taken}
use Rattle.hal_schema.specs.Facts.{IsKept, SchemasAreKept}
use Rattle.hal_schema.specs.Forest.{all_pairs, entries_differ, has_unique_key, in_twin_order, in_type_order, is_selected, keys_apart, may_follow, names_apart, twin_cmp}
use Rattle.hal_schema.specs.Insertion.{enters_freely, has_free_key, new_path}
use Rattle.hal_schema.specs.Keys.{key_cmp}
use Rattle.hal_schema.specs.Lawful.{all_rise, fields_are_kept, index_is_kept}
use Rattle.hal_schema.specs.Paths.{concatenated_key, path_with, paths_of, with_paths}
use Rattle.hal_schema.specs.Roots.{anchor_of, anchor_place, partition_place, root_cmp}
use Rattle.hal_schema.specs.Row.{are_twins, is_new_name, row_key, row_level, same_name, same_parent}
use Rattle.hal_schema.specs.SegType.{ancestry, entry_bytes, parent_code, type_of}
use Rattle.forest_laws.specs.Paths.{PathsAreAncestries}
use Rattle.forest_laws.proofs.Carried.{after_append, with_append}
use Rattle.forest_laws.proofs.EntriesByRow.{all_in_order, bytes_turned, entries_append, own_key, pairs_in_order}
use Rattle.forest_laws.proofs.Lists.{all_both, all_middle, all_weaker, find_none, pairs_at}
use Rattle.forest_laws.proofs.Parents.{Parts, child_parent, parts_of}
use Rattle.hal_loader.specs.Laws.{SaysRow, UnloadedRowsAreSaid, UnloadedRowsLoadAgain}
use Rattle.hal_loader.specs.Loading.{AreLoaded, Loads, Taken, begin, stands_after, stands_after_all}
use Rattle.hal_loader.specs.Placing.{coming, first_name, goes_by_key, leaves_blocks, load_need, with_name}
use Rattle.hal_loader.specs.Refusals.{Standing, first_that_holds, is_below_last, is_later_sibling, row_refusals, row_said, text_refusals, twins_of}
use Rattle.hal_loader.specs.Unloading.{fields_said}
use Rattle.hal_loader.proofs.AtEnd.{loaded_last}
use Rattle.hal_loader.proofs.Judgements.{first_none}
use Rattle.hal_loader.proofs.Newest.{any_none}
use Rattle.hal_loader.proofs.Placings.{said_is}
use Rattle.hal_loader.proofs.Reloadings.{IsTop, IsChild, above_in_path, above_of, left_by, new_path_is, parent_is_first, parent_path_is, turned_push}
use Rattle.hal_loader.proofs.Takings.{entries_named, follow_le, partitions_up}

-- ---- the order of roots and that of their keys

number_less : (m n : ℕ) → m ≤ n → (o : Ordering) → o ≡ Less → ordering_then (nat_cmp m n) o ≡ Less
number_less m n le o h = by (nat_lt m n) (m == n) refl refl
  where
    by : (b c : Bool) → nat_lt m n ≡ b → (m == n) ≡ c → ordering_then (cond b Less (cond c Equal Greater)) o ≡ Less
    by true c e f = refl
    by false true e f = h
    by false false e f =
        let ge = ltb-false m n e in
        let same : m ≡ n = omega (arith, le, ge) in
        let no : true ≡ false = sym (eq-eqb m n same) ∙ f in cc no

root_less : (schema : Schema) (a b : List ℕ) → schema.phdam ≡ false → key_cmp a b ≡ Less → root_cmp schema a b ≡ Less
root_less schema a b plain e =
    let anchors : (key : List ℕ) → anchor_place schema key ≡ 0 = λ key. ap (λ (b : Bool). cond b (option_map_or (λ (part : PartDef). anchor_of part.anchors key) (slice_get schema.parts (partition_place schema key)) 0) 0) plain in
    let inner : ordering_then (nat_cmp (anchor_place schema a) (anchor_place schema b)) (key_cmp a b) ≡ Less =
    number_less (anchor_place schema a) (anchor_place schema b) (let x = anchors a in let y = anchors b in let n : anchor_place schema a ≤ anchor_place schema b = omega (arith, x, y) in n) (key_cmp a b) e in
    number_less (partition_place schema a) (partition_place schema b) (partitions_up schema a b e) (ordering_then (nat_cmp (anchor_place schema a) (anchor_place schema b)) (key_cmp a b)) inner

le_not_lt : (R : List ℕ → List ℕ → Ordering) → IsTotalOrder R → (a b : List ℕ) → is_le (R a b) ≡ true → is_lt (R b a) ≡ false
le_not_lt R t a b h = by (R b a) refl
  where
    by : (o : Ordering) → R b a ≡ o → is_lt o ≡ false
    by Less e = let g : R a b ≡ Greater = t.antisymm a b ∙ ap ordering_reverse e in let no : false ≡ true = sym (ap is_le g) ∙ h in cc no
    by Equal e = refl
    by Greater e = refl

is_less : (o : Ordering) → is_lt o ≡ true → o ≡ Less
is_less Less h = refl
is_less Equal h = cc h
is_less Greater h = cc h

root_not_lt : (schema : Schema) → IsTotalOrder (root_cmp schema) → (a b : List ℕ) → schema.phdam ≡ false → is_le (root_cmp schema a b) ≡ true → is_lt (key_cmp b a) ≡ false
root_not_lt schema total a b plain h = by (is_lt (key_cmp b a)) refl
  where
    by : (c : Bool) → is_lt (key_cmp b a) ≡ c → c ≡ false
    by true e =
        let less = root_less schema b a plain (is_less (key_cmp b a) e) in
        let no : true ≡ false = sym (ap is_lt less) ∙ le_not_lt (root_cmp schema) total a b h in cc no
    by false e = refl

-- ---- rule by rule

abbrev pub Rows : Schema → List Row → Row → List Row → Type 0
Rows schema done row more = Parts schema (done ++ row ∷ more)

no_lost_parent : (schema : Schema) (done : List Row) (row : Row) → IsKept schema → IsTop schema done row ⊎ IsChild schema done row → (is_some (parent_code schema.types row.code) && is_none row.parent) ≡ false
no_lost_parent schema done row k (inl top) = ap (λ (c : ℕ). is_some (parent_code schema.types c) && is_none row.parent) top.code ∙ ap (λ (o : Option ℕ). is_some o && is_none row.parent) k.root
no_lost_parent schema done row k (inr c) = and_right (is_some (parent_code schema.types row.code)) (is_none row.parent) (ap (λ (o : Option Ilk). is_none o) (child_parent schema.types c.parent row c.child))

no_later : (schema : Schema) (done more : List Row) (row : Row) → Rows schema done row more → list_any (is_later_sibling row) done ≡ false
no_later schema done more row parts = any_none (is_later_sibling row) done (all_weaker (λ r. in_type_order r row) (λ r. not (is_later_sibling row r)) each done (pairs_at in_type_order done more row parts.types).before)
  where
    each : (r : Row) → in_type_order r row ≡ true → not (is_later_sibling row r) ≡ true
    each r h = by (same_parent r.parent row.parent) h
      where
        by : (b : Bool) → (not b || nat_le r.code row.code) ≡ true → not (b && nat_lt row.code r.code) ≡ true
        by false e = refl
        by true e = let le = leb-true r.code row.code e in not_from_false (nat_lt row.code r.code) (not_lt (nat_lt row.code r.code) refl le)
          where
            not_lt : (c : Bool) → nat_lt row.code r.code ≡ c → r.code ≤ row.code → c ≡ false
            not_lt true f le = let lt = ltb-true row.code r.code f in absurd (omega (arith, lt, le))
            not_lt false f le = refl

of_kept : (t q : Row → Bool) (xs : List Row) → list_all (λ x. not (t x) || q x) xs ≡ true → list_all q (filter t xs) ≡ true
of_kept t q [] h = refl
of_kept t q (x ∷ xs) h = let a = and_parts (not (t x) || q x) (list_all (λ x. not (t x) || q x) xs) h in by (t x) a.0 (of_kept t q xs a.1)
  where
    by : (b : Bool) → (not b || q x) ≡ true → list_all q (filter t xs) ≡ true → list_all q (cond b (x ∷ filter t xs) (filter t xs)) ≡ true
    by true e go = and_from (q x) (list_all q (filter t xs)) e go
    by false e go = go

last_none : (below : Row → Bool) (o : Option Row) (ts : List Row) → option_map_or below o false ≡ false → list_all (λ t. not (below t)) ts ≡ true → option_map_or below (last_or o ts) false ≡ false
last_none below o [] e h = e
last_none below o (t ∷ ts) e h = let a = and_parts (not (below t)) (list_all (λ t. not (below t)) ts) h in last_none below (Some t) ts (not-true (below t) a.0) a.1

no_lower : (schema : Schema) → IsTotalOrder (root_cmp schema) → (done more : List Row) (row : Row) → Rows schema done row more → (not (goes_by_key schema row) && is_below_last schema.types done row) ≡ false
no_lower schema total done more row parts = by (goes_by_key schema row) refl
  where
    below : Row → Bool
    below t = is_lt (key_cmp (row_key schema.types row) (row_key schema.types t))

    plain : (p r : Bool) → (p && r) ≡ false → r ≡ true → p ≡ false
    plain true true e f = cc e
    plain true false e f = cc f
    plain false r e f = refl

    twin : goes_by_key schema row ≡ false → (t : Row) → are_twins t row ≡ true → may_follow schema t row ≡ true → is_lt (key_cmp (row_key schema.types row) (row_key schema.types t)) ≡ false
    twin g t twins follows = at (t.code == 1) refl (follow_le (has_unique_key schema.types t.code) (twin_cmp schema t row) follows)
      where
        code : t.code ≡ row.code
        code = eqb-true t.code row.code (and_parts (t.code == row.code) (same_parent t.parent row.parent) twins).0

        at : (b : Bool) → (t.code == 1) ≡ b → is_le (cond b (root_cmp schema (row_key schema.types t) (row_key schema.types row)) (key_cmp (row_key schema.types t) (row_key schema.types row))) ≡ true
            → is_lt (key_cmp (row_key schema.types row) (row_key schema.types t)) ≡ false
        at true e le = root_not_lt schema total (row_key schema.types t) (row_key schema.types row) (plain schema.phdam (row.code == 1) g (ap (λ (c : ℕ). c == 1) (sym code) ∙ e)) le
        at false e le = le_not_lt key_cmp nat_list_cmp_total (row_key schema.types t) (row_key schema.types row) le

    each : goes_by_key schema row ≡ false → (t : Row) → in_twin_order schema t row ≡ true → (not (are_twins t row) || not (is_lt (key_cmp (row_key schema.types row) (row_key schema.types t)))) ≡ true
    each g t h = at (are_twins t row) refl h
      where
        at : (b : Bool) → are_twins t row ≡ b → (not b || may_follow schema t row) ≡ true → (not b || not (is_lt (key_cmp (row_key schema.types row) (row_key schema.types t)))) ≡ true
        at true e f = not_from_false (is_lt (key_cmp (row_key schema.types row) (row_key schema.types t))) (twin g t e f)
        at false e f = refl

    by : (g : Bool) → goes_by_key schema row ≡ g → (not g && is_below_last schema.types done row) ≡ false
    by true e = refl
    by false e =
        last_none (λ t. is_lt (key_cmp (row_key schema.types row) (row_key schema.types t))) None (twins_of done row) refl
        (of_kept (λ t. are_twins t row) (λ t. not (is_lt (key_cmp (row_key schema.types row) (row_key schema.types t)))) done
        (all_weaker (λ r. in_twin_order schema r row) (λ t. not (are_twins t row) || not (is_lt (key_cmp (row_key schema.types row) (row_key schema.types t)))) (each e) done
        (pairs_at (in_twin_order schema) done more row parts.twins).before))

no_twin_key : (schema : Schema) (done more : List Row) (row : Row) → Rows schema done row more → has_free_key schema done row ≡ true
no_twin_key schema done more row parts = by (has_unique_key schema.types row.code) refl
  where
    less_apart : (o : Ordering) → is_lt o ≡ true → not (is_eq o) ≡ true
    less_apart Less h = refl
    less_apart Equal h = cc h
    less_apart Greater h = cc h

    each : has_unique_key schema.types row.code ≡ true → (r : Row) → in_twin_order schema r row ≡ true → not (are_twins r row && is_eq (twin_cmp schema r row)) ≡ true
    each unique r h = at (are_twins r row) refl h
      where
        at : (b : Bool) → are_twins r row ≡ b → (not b || may_follow schema r row) ≡ true → not (b && is_eq (twin_cmp schema r row)) ≡ true
        at false e f = refl
        at true e f =
            let code : r.code ≡ row.code = eqb-true r.code row.code (and_parts (r.code == row.code) (same_parent r.parent row.parent) e).0 in
            less_apart (twin_cmp schema r row) (sym (ap (λ (u : Bool). cond u (is_lt (twin_cmp schema r row)) (is_le (twin_cmp schema r row))) (ap (has_unique_key schema.types) code ∙ unique)) ∙ f)

    by : (u : Bool) → has_unique_key schema.types row.code ≡ u → (not u || list_all (λ r. not (are_twins r row && is_eq (twin_cmp schema r row))) done) ≡ true
    by false e = refl
    by true e = all_weaker (λ r. in_twin_order schema r row) (λ r. not (are_twins r row && is_eq (twin_cmp schema r row))) (each e) done (pairs_at (in_twin_order schema) done more row parts.twins).before

-- ---- entries

any_turned : (p : ℕ → Bool) (xs : List ℕ) → list_any p (reverse xs) ≡ list_any p xs
any_turned p [] = refl
any_turned p (x ∷ xs) =
    ap (list_any p) (reverse_onto xs x []) ∙ list_any-append p (reverse xs) (x ∷ []) ∙ ap (λ (b : Bool). b || (p x || false)) (any_turned p xs) ∙ swap (list_any p xs) (p x)
  where
    swap : (a b : Bool) → (a || (b || false)) ≡ (b || a)
    swap true true = refl
    swap true false = refl
    swap false true = refl
    swap false false = refl

any_mapped : (p : ℕ → Bool) (rows : List Row) → list_any p (map (λ (r : Row). r.code) rows) ≡ list_any (λ (r : Row). p r.code) rows
any_mapped p [] = refl
any_mapped p (r ∷ rows) = ap (λ (b : Bool). p r.code || b) (any_mapped p rows)

all_by_middle : {X : Type 0} (P : X → Type 0) (xs ys : List X) (x : X) → AllByRecursion P (xs ++ x ∷ ys) → P x
all_by_middle P [] ys x h = h.0
all_by_middle P (y ∷ xs) ys x h = all_by_middle P xs ys x h.1

none_any : (p : Entry → Bool) (es : List Entry) → not (list_any p es) ≡ list_all (λ e. not (p e)) es
none_any p [] = refl
none_any p (e ∷ es) = by (p e) (none_any p es)
  where
    by : (b : Bool) → not (list_any p es) ≡ list_all (λ e. not (p e)) es → not (b || list_any p es) ≡ (not b && list_all (λ e. not (p e)) es)
    by true go = refl
    by false go = go

-- a source has an entry of its own key
record Own (types : List SegType) (index : IndexDef) (path : List Row) (row : Row) : Type 0 where
  entry : Entry
  made : entry_of types index path row ≡ Some entry
  key : entry.key ≡ own_key types index path row.content

none_there : (code : ℕ) (xs : List Row) → find (λ (r : Row). r.code == code) xs ≡ None → list_any (λ (r : Row). r.code == code) xs ≡ false
none_there code [] e = refl
none_there code (y ∷ ys) e = at (y.code == code) e (none_there code ys)
  where
    at : (b : Bool) → cond b (Some y) (find (λ (r : Row). r.code == code) ys) ≡ None → (find (λ (r : Row). r.code == code) ys ≡ None → list_any (λ (r : Row). r.code == code) ys ≡ false) → (b || list_any (λ (r : Row). r.code == code) ys) ≡ false
    at true f go = cc f
    at false f go = go f

own_entry : (types : List SegType) (index : IndexDef) (path : List Row) (row : Row) → list_any (λ (r : Row). r.code == index.target) path ≡ true → Own types index path row
own_entry types index [] row h = cc h
own_entry types index (x ∷ path) row h = by (find (λ (r : Row). r.code == index.target) (x ∷ path)) refl
  where
    by : (o : Option Row) → find (λ (r : Row). r.code == index.target) (x ∷ path) ≡ o → Own types index (x ∷ path) row
    by None e = absurd (true≢false (sym h ∙ none_there index.target (x ∷ path) e))
    by (Some target) e = record {
      entry = record { key = own_key types index (x ∷ path) row.content; target = target.name; root = row_key types x };
      made = ap (λ (o : Option Row). option_and_then (λ (t : Row). let f : Entry = record { key = own_key types index (x ∷ path) row.content; target = t.name; root = row_key types x } in Some f) o) e;
      key = refl;
    }

free_entry : (schema : Schema) (done more : List Row) (row : Row) (path : List Row) → path ≡ path_with (row_level schema.types) (left_by schema done) row → new_path schema.types done row ≡ path
    → reverse (map (λ (r : Row). r.code) path) ≡ ancestry (parent_code schema.types) row.code
    → (index : IndexDef) → entries_differ schema.types (done ++ row ∷ more) index ≡ true → index_is_kept schema.types index ≡ true → enters_freely schema.types done row index ≡ true
free_entry schema done more row path is new codes_are index differ kept = by (row.code == index.source) refl
  where
    types : List SegType
    types = schema.types

    lv : Row → ℕ
    lv = row_level schema.types

    on_path : row.code ≡ index.source → list_any (λ (r : Row). r.code == index.target) path ≡ true
    on_path source =
        let a = and_parts (list_any (λ code. code == index.target) (ancestry (parent_code schema.types) index.source) && nat_le 1 (length index.search) && nat_le (length index.search) 5 && option_map_or (fields_are_kept schema.types index) (type_of schema.types index.source) false) (nat_le (entry_bytes index) 240) kept in
        let b = and_parts (list_any (λ code. code == index.target) (ancestry (parent_code schema.types) index.source) && nat_le 1 (length index.search) && nat_le (length index.search) 5) (option_map_or (fields_are_kept schema.types index) (type_of schema.types index.source) false) a.0 in
        let c = and_parts (list_any (λ code. code == index.target) (ancestry (parent_code schema.types) index.source) && nat_le 1 (length index.search)) (nat_le (length index.search) 5) b.0 in
        let d = and_parts (list_any (λ code. code == index.target) (ancestry (parent_code schema.types) index.source)) (nat_le 1 (length index.search)) c.0 in
        sym (any_mapped (λ code. code == index.target) path) ∙ sym (any_turned (λ code. code == index.target) (map (λ (r : Row). r.code) path))
        ∙ ap (list_any (λ code. code == index.target)) (codes_are ∙ ap (ancestry (parent_code schema.types)) source) ∙ d.0

    untaken : (o : Own schema.types index path row) → (row.code == index.source) ≡ true → not (is_taken (own_key schema.types index path row.content) (entries_of schema.types index done)) ≡ true
    untaken o source =
        let rest = with_paths (row_level schema.types) path more in
        let paths : paths_of schema.types (done ++ row ∷ more) ≡ paths_of schema.types done ++ (path, row) ∷ with_paths (row_level schema.types) path more =
        with_append (row_level schema.types) [] done (row ∷ more) ∙ ap (λ (l : List Row). paths_of schema.types done ++ (l, row) ∷ with_paths (row_level schema.types) l more) (sym is) in
        let here : entries_by_row schema.types index ((path, row) ∷ rest) ≡ o.entry ∷ entries_by_row schema.types index rest =
        ap (λ (b : Bool). filter_map (λ (p : List Row × Row). entry_of schema.types index p.0 p.1) (cond b ((path, row) ∷ filter (λ (p : List Row × Row). p.1.code == index.source) rest) (filter (λ (p : List Row × Row). p.1.code == index.source) rest))) source
        ∙ ap (λ (e : Option Entry). cons_option e (entries_by_row schema.types index rest)) o.made in
        let all : all_pairs keys_apart (entries_by_row schema.types index (paths_of schema.types done) ++ o.entry ∷ entries_by_row schema.types index rest) ≡ true =
        ap (all_pairs keys_apart) (ap (λ (l : List Entry). entries_by_row schema.types index (paths_of schema.types done) ++ l) (sym here) ∙ sym (entries_append schema.types index (paths_of schema.types done) ((path, row) ∷ rest)) ∙ ap (entries_by_row schema.types index) (sym paths))
        ∙ sym (pairs_in_order (entries_by_row schema.types index (paths_of schema.types (done ++ row ∷ more)))) ∙ differ in
        let before = (pairs_at keys_apart (entries_by_row schema.types index (paths_of schema.types done)) (entries_by_row schema.types index rest) o.entry all).before in
        none_any (λ (e : Entry). bytes_eq (own_key schema.types index path row.content) e.key) (entries_of schema.types index done)
        ∙ all_in_order (λ (e : Entry). not (bytes_eq (own_key schema.types index path row.content) e.key)) (entries_by_row schema.types index (paths_of schema.types done))
        ∙ all_weaker (λ (e : Entry). keys_apart e o.entry) (λ (e : Entry). not (bytes_eq (own_key schema.types index path row.content) e.key))
        (λ e h. ap (λ (k : List ℕ). not (bytes_eq k e.key)) (sym o.key) ∙ ap not (bytes_turned o.entry.key e.key) ∙ h) (entries_by_row schema.types index (paths_of schema.types done)) before

    by : (b : Bool) → (row.code == index.source) ≡ b → (not b || option_map_or (λ (key : List ℕ). not (is_taken key (entries_of schema.types index done))) (entry_key index row.content (concatenated_key schema.types (new_path schema.types done row))) true) ≡ true
    by false e = refl
    by true e =
        ap (λ (l : List Row). not (is_taken (own_key schema.types index l row.content) (entries_of schema.types index done))) new
        ∙ untaken (own_entry schema.types index path row (on_path (eqb-true row.code index.source e))) e

-- ---- all rules

at_most_one : (b : Bool) → cond b 1 0 ≤ 1
at_most_one true = omega arith
at_most_one false = omega arith

abbrev pub owned : Schema → List Row → ℕ → Standing
owned schema done free = record { rows = done; path = reverse (left_by schema done); free = free }

pub room_alone : (schema : Schema) → IsKept schema → IsTotalOrder (root_cmp schema) → (done more : List Row) (row : Row) (free : ℕ) → Rows schema done row more
    → AllByRecursion (λ (p : List Row × Row). reverse (map (λ (r : Row). r.code) p.0) ≡ ancestry (parent_code schema.types) p.1.code) (paths_of schema.types (done ++ row ∷ more))
    → first_that_holds (row_refusals schema done free (coming row.parent row.code row.content)) ≡ first_that_holds ((nat_lt free (load_need schema done (coming row.parent row.code row.content)), codes "+R") ∷ [])
room_alone schema k total done more row free parts ancestries =
    let is = above_of schema done more row k parts in
    let new : Row = coming row.parent row.code row.content in
    let path : List Row = path_with (row_level schema.types) (left_by schema done) row in
    let codes_are : reverse (map (λ (r : Row). r.code) (path_with (row_level schema.types) (left_by schema done) row)) ≡ ancestry (parent_code schema.types) row.code =
    all_by_middle (λ (p : List Row × Row). reverse (map (λ (r : Row). r.code) p.0) ≡ ancestry (parent_code schema.types) p.1.code) (paths_of schema.types done) (with_paths (row_level schema.types) path more) (path, row)
    (subst (λ (l : List (List Row × Row)). AllByRecursion (λ (p : List Row × Row). reverse (map (λ (r : Row). r.code) p.0) ≡ ancestry (parent_code schema.types) p.1.code) l) (with_append (row_level schema.types) [] done (row ∷ more)) ancestries) in
    let kept = (and_parts (list_all (index_is_kept schema.types) schema.indexes) (all_rise (λ i j. nat_le i.target j.target) schema.indexes) schema.kept_indexes).0 in
    let entries : list_all (enters_freely schema.types done row) schema.indexes ≡ true =
    all_both (entries_differ schema.types (done ++ row ∷ more)) (index_is_kept schema.types) (enters_freely schema.types done row)
    (free_entry schema done more row path refl (new_path_is schema done row is) codes_are) schema.indexes parts.indexed kept in
    let enter : list_all (enters_freely schema.types done (coming row.parent row.code row.content)) schema.indexes ≡ true = sym (entries_named schema.types done new row.name schema.indexes) ∙ entries in
    let chosen = all_middle (is_selected schema) done more row parts.selected in
    let lost = no_lost_parent schema done row k is in
    let later = no_later schema done more row parts in
    let lower = no_lower schema total done more row parts in
    let twice = ap not (no_twin_key schema done more row parts) in
    let high = ap not chosen in
    let taken = ap not enter in
    λ i. first_that_holds ((lost i, codes "LD") ∷ (later i, codes "LE") ∷ (lower i, codes "LC") ∷ (twice i, codes "LB") ∷ (high i, codes "FM") ∷ (taken i, codes "NI") ∷ (nat_lt free (load_need schema done new), codes "+R") ∷ [])

no_rule : (schema : Schema) → IsKept schema → IsTotalOrder (root_cmp schema) → (done more : List Row) (row : Row) (free : ℕ) → Rows schema done row more
    → AllByRecursion (λ (p : List Row × Row). reverse (map (λ (r : Row). r.code) p.0) ≡ ancestry (parent_code schema.types) p.1.code) (paths_of schema.types (done ++ row ∷ more))
    → 3 + length schema.indexes ≤ free → first_that_holds (row_refusals schema done free (coming row.parent row.code row.content)) ≡ None
no_rule schema k total done more row free parts ancestries room =
    let new : Row = coming row.parent row.code row.content in
    let one = at_most_one (option_map_or (λ root. leaves_blocks schema (row_key schema.types root)) (slice_get (new_path schema.types done new) 0) false) in
    let need : load_need schema done (coming row.parent row.code row.content) ≤ free = omega (arith, one, room) in
    room_alone schema k total done more row free parts ancestries
    ∙ ap (λ (b : Bool). first_that_holds ((b, codes "+R") ∷ [])) (not_below free (load_need schema done new) need)
  where
    not_below : (a b : ℕ) → b ≤ a → nat_lt a b ≡ false
    not_below a b le = by (nat_lt a b) refl
      where
        by : (c : Bool) → nat_lt a b ≡ c → c ≡ false
        by true e = let lt = ltb-true a b e in absurd (omega (arith, lt, le))
        by false e = refl

-- ---- one row after another

new_name : (done more : List Row) (row : Row) → all_pairs names_apart (done ++ row ∷ more) ≡ true → is_new_name done row.name ≡ true
new_name done more row apart = ap (λ (o : Option Row). is_none o) (find_none (λ (r : Row). same_name r.name row.name) done (pairs_at names_apart done more row apart).before)

pub record Next (schema : Schema) (free : ℕ) (done : List Row) (row : Row) : Type 0 where
  pub loads : Loads schema (owned schema done free) (fields_said schema.types row) (record { row = row; free = free })
  pub after : stands_after schema (owned schema done free) (record { row = row; free = free }) ≡ owned schema (done ++ row ∷ []) free

pub next : (schema : Schema) → IsKept schema → IsTotalOrder (root_cmp schema) → (done more : List Row) (row : Row) (free : ℕ) → Rows schema done row more
    → AllByRecursion (λ (p : List Row × Row). reverse (map (λ (r : Row). r.code) p.0) ≡ ancestry (parent_code schema.types) p.1.code) (paths_of schema.types (done ++ row ∷ more))
    → 3 + length schema.indexes ≤ free → SaysRow schema.types row → Next schema free done row
next schema k total done more row free parts ancestries room says =
    let is = above_of schema done more row k parts in
    let up = parent_path_is schema done row k is in
    let said : row_said schema.types (reverse (left_by schema done)) (fields_said schema.types row) ≡ coming row.parent row.code row.content =
    said_is schema.types (reverse (left_by schema done)) (fields_said schema.types row) row.code row.content says.code says.content
    ∙ ap (λ (l : List Row). coming (first_name l) row.code row.content) up ∙ ap (λ (o : Option Ilk). coming o row.code row.content) (parent_is_first schema done row is) in
    record {
      loads = record {
        kept = first_none (text_refusals schema.types (fields_said schema.types row)) (row_refusals schema done free (row_said schema.types (reverse (left_by schema done)) (fields_said schema.types row))) says.kept
            ∙ ap (λ (r : Row). first_that_holds (row_refusals schema done free r)) said ∙ no_rule schema k total done more row free parts ancestries room;
        said = ap (λ (r : Row). with_name r row.name) (sym said);
        new = new_name done more row parts.named;
        need = omega arith;
      };
      after = (λ i. record {
        rows = loaded_last schema done more row k parts is i;
        path = (ap (λ (l : List Row). row ∷ l) up ∙ sym (ap (λ (l : List Row). reverse l) (after_append (row_level schema.types) [] done (row ∷ [])) ∙ turned_push (above_in_path schema done row) row)) i;
        free = free;
      });
    }

abbrev as_taken : ℕ → Row → Taken
as_taken free row = record { row = row; free = free }

record Again (schema : Schema) (free : ℕ) (done more : List Row) : Type 0 where
  loaded : AreLoaded schema (owned schema done free) (map (fields_said schema.types) more) (map (as_taken free) more)
  rows : (stands_after_all schema (owned schema done free) (map (as_taken free) more)).rows ≡ done ++ more

again : (schema : Schema) → IsKept schema → IsTotalOrder (root_cmp schema) → (done more : List Row) (free : ℕ) → Parts schema (done ++ more)
    → AllByRecursion (λ (p : List Row × Row). reverse (map (λ (r : Row). r.code) p.0) ≡ ancestry (parent_code schema.types) p.1.code) (paths_of schema.types (done ++ more))
    → 3 + length schema.indexes ≤ free → AllByRecursion (SaysRow schema.types) more → Again schema free done more
again schema k total done [] free parts ancestries room says = record { loaded = tt; rows = sym (append-nil done) }
again schema k total done (row ∷ more) free parts ancestries room says =
    let n = next schema k total done more row free parts ancestries room says.0 in
    let e : (done ++ row ∷ []) ++ more ≡ done ++ row ∷ more = append_assoc done (row ∷ []) more in
    let go = again schema k total (done ++ row ∷ []) more free (subst (Parts schema) (sym e) parts)
    (subst (λ (l : List Row). AllByRecursion (λ (p : List Row × Row). reverse (map (λ (r : Row). r.code) p.0) ≡ ancestry (parent_code schema.types) p.1.code) (paths_of schema.types l)) (sym e) ancestries) room says.1 in
    record {
      loaded = (n.loads, subst (λ (at : Standing). AreLoaded schema at (map (fields_said schema.types) more) (map (as_taken free) more)) (sym n.after) go.loaded);
      rows = ap (λ (at : Standing). (stands_after_all schema at (map (as_taken free) more)).rows) n.after ∙ go.rows ∙ e;
    }

pub loads_again : SchemasAreKept → ((schema : Schema) → IsTotalOrder (root_cmp schema)) → PathsAreAncestries → UnloadedRowsAreSaid → UnloadedRowsLoadAgain
loads_again kept total ancestries said schema rows free forest bytes room =
    let parts = parts_of schema rows forest in
    let text = said schema rows parts.long bytes in
    let go = again schema (kept schema) (total schema) [] rows free parts (ancestries schema rows forest) room text.says in
    record {
      taken = map (as_taken free) rows;
      loaded = subst (λ (l : List (List (List ℕ))). AreLoaded schema (begin free) l (map (as_taken free) rows)) (sym text.records) go.loaded;
      same = go.rows;
    }
