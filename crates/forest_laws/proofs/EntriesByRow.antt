-- The entries of an index where a row comes in, goes out, or has new content.
use Rattle.std.proofs.Common.{◌≡◌, ℕ, ◌==◌, Bool, true, false, not, cond, ◌&&◌, ◌||◌, List, [], ◌∷◌, ◌++◌, Option, Some, None, refl, sym, ap, ◌∙◌}
use Rattle.std.specs.Prelude.{filter, filter_map, find, flat_map, option_and_then}
use Rattle.std.specs.List.{list_all, list_any, slice_get, cons_option}
use Rattle.std.specs.Option.{option_map_or}
use Rattle.std.specs.Ordering.{is_le}
use Rattle.std.specs.Str.{bytes_eq}
use Rattle.std.proofs.lemmas.Bool.Decides.{same_from_decides}
use Rattle.std.proofs.lemmas.List.Elements.{filter-append, filter_map-append}
use Rattle.std.proofs.lemmas.Slice.Eq.{bytes_eq-Decides}
use Rattle.hal_base.specs.declared.place.Ilk.{Ilk}
use Rattle.hal_schema.specs.declared.row.Row.{Row}
use Rattle.hal_schema.specs.declared.schema.SegType.{SegType}
use Rattle.hal_schema.specs.declared.schema.IndexDef.{IndexDef}
use Rattle.hal_schema.specs.SegType.{portion}
use Rattle.hal_schema.specs.Row.{row_key}
use Rattle.hal_schema.specs.Paths.{concatenated_key}
use Rattle.hal_schema.specs.Keys.{key_cmp}
use Rattle.hal_schema.specs.Entry.{Entry, entry_of, entries_by_row, with_entry, in_key_order, is_taken}
use Rattle.hal_schema.specs.Forest.{all_pairs, keys_apart}

-- ---- in the order of their keys

pub bytes_turned : (a b : List ℕ) → bytes_eq a b ≡ bytes_eq b a
bytes_turned a b =
    let d = bytes_eq-Decides b a in
    same_from_decides {P = a ≡ b} (bytes_eq a b) (bytes_eq b a) (bytes_eq-Decides a b) (λ h. sym (d.0 h), λ e. d.1 (sym e))

pub apart_turned : (a b : Entry) → keys_apart a b ≡ keys_apart b a
apart_turned a b = ap not (bytes_turned a.key b.key)

first_two : (a b c : Bool) → (a && (b && c)) ≡ (b && (a && c))
first_two true true c = refl
first_two true false c = refl
first_two false true c = refl
first_two false false c = refl

all_with_entry : (p : Entry → Bool) (entry : Entry) (entries : List Entry) → list_all p (with_entry entry entries) ≡ (p entry && list_all p entries)
all_with_entry p entry [] = refl
all_with_entry p entry (e ∷ entries) = by (is_le (key_cmp entry.key e.key)) (all_with_entry p entry entries)
  where
    by : (b : Bool) → list_all p (with_entry entry entries) ≡ (p entry && list_all p entries) → list_all p (cond b (entry ∷ e ∷ entries) (e ∷ with_entry entry entries)) ≡ (p entry && list_all p (e ∷ entries))
    by true rest = refl
    by false rest = ap (λ b. p e && b) rest ∙ first_two (p e) (p entry) (list_all p entries)

pub all_in_order : (p : Entry → Bool) (entries : List Entry) → list_all p (in_key_order entries) ≡ list_all p entries
all_in_order p [] = refl
all_in_order p (e ∷ entries) = all_with_entry p e (in_key_order entries) ∙ ap (λ b. p e && b) (all_in_order p entries)

crossed : (a b c d : Bool) → ((a && b) && (c && d)) ≡ ((a && c) && (b && d))
crossed true true c d = refl
crossed true false true d = refl
crossed true false false d = refl
crossed false b c d = refl

pairs_with_entry : (t : Entry → Entry → Bool) → ((a b : Entry) → t a b ≡ t b a) → (entry : Entry) (entries : List Entry) → all_pairs t (with_entry entry entries) ≡ (list_all (t entry) entries && all_pairs t entries)
pairs_with_entry t turned entry [] = refl
pairs_with_entry t turned entry (e ∷ entries) = by (is_le (key_cmp entry.key e.key)) (pairs_with_entry t turned entry entries)
  where
    by : (b : Bool) → all_pairs t (with_entry entry entries) ≡ (list_all (t entry) entries && all_pairs t entries) → all_pairs t (cond b (entry ∷ e ∷ entries) (e ∷ with_entry entry entries)) ≡ (list_all (t entry) (e ∷ entries) && all_pairs t (e ∷ entries))
    by true rest = refl
    by false rest =
        ap (λ b. b && all_pairs t (with_entry entry entries)) (all_with_entry (t e) entry entries) ∙ ap (λ b. (t e entry && list_all (t e) entries) && b) rest
        ∙ ap (λ b. (b && list_all (t e) entries) && (list_all (t entry) entries && all_pairs t entries)) (turned e entry)
        ∙ crossed (t entry e) (list_all (t e) entries) (list_all (t entry) entries) (all_pairs t entries)

pub pairs_in_order : (entries : List Entry) → all_pairs keys_apart (in_key_order entries) ≡ all_pairs keys_apart entries
pairs_in_order [] = refl
pairs_in_order (e ∷ entries) =
    pairs_with_entry keys_apart apart_turned e (in_key_order entries)
    ∙ ap (λ b. b && all_pairs keys_apart (in_key_order entries)) (all_in_order (keys_apart e) entries) ∙ ap (λ b. list_all (keys_apart e) entries && b) (pairs_in_order entries)

none_any : {X : Type 0} (p : X → Bool) (xs : List X) → not (list_any p xs) ≡ list_all (λ x. not (p x)) xs
none_any p [] = refl
none_any p (x ∷ xs) = by (p x) (none_any p xs)
  where
    by : (b : Bool) → not (list_any p xs) ≡ list_all (λ x. not (p x)) xs → not (b || list_any p xs) ≡ (not b && list_all (λ x. not (p x)) xs)
    by true rest = refl
    by false rest = rest

-- a key that no entry has
pub untaken : (key : List ℕ) (entries : List Entry) → not (is_taken key (in_key_order entries)) ≡ true → list_all (λ (e : Entry). not (bytes_eq key e.key)) entries ≡ true
untaken key entries h =
    sym (all_in_order (λ (e : Entry). not (bytes_eq key e.key)) entries) ∙ sym (none_any (λ (e : Entry). bytes_eq key e.key) (in_key_order entries)) ∙ h

-- ---- row by row

abbrev pub entry_at : List SegType → IndexDef → List Row × Row → Option Entry
entry_at types index p = entry_of types index p.0 p.1

abbrev pub is_source : IndexDef → List Row × Row → Bool
is_source index p = p.1.code == index.source

pub entries_append : (types : List SegType) (index : IndexDef) (a b : List (List Row × Row)) → entries_by_row types index (a ++ b) ≡ entries_by_row types index a ++ entries_by_row types index b
entries_append types index a b =
    ap (filter_map (entry_at types index)) (filter-append (is_source index) a b) ∙ filter_map-append (entry_at types index) (filter (is_source index) a) (filter (is_source index) b)

-- a row that is no source, or gets no entry, adds none; any other one
pub data Adds (types : List SegType) (index : IndexDef) (p : List Row × Row) : Type 0 where
  Nothing : ((b : List (List Row × Row)) → entries_by_row types index (p ∷ b) ≡ entries_by_row types index b) → Adds types index p
  One : (entry : Entry) → is_source index p ≡ true → entry_at types index p ≡ Some entry → ((b : List (List Row × Row)) → entries_by_row types index (p ∷ b) ≡ entry ∷ entries_by_row types index b) → Adds types index p

adds_source : (types : List SegType) (index : IndexDef) (p : List Row × Row) (o : Option Entry) → is_source index p ≡ true → entry_at types index p ≡ o → Adds types index p
adds_source types index p None source e =
    Nothing (λ b. ap (λ t. filter_map (entry_at types index) (cond t (p ∷ filter (is_source index) b) (filter (is_source index) b))) source ∙ ap (λ o. cons_option o (entries_by_row types index b)) e)
adds_source types index p (Some entry) source e =
    One entry source e
    (λ b. ap (λ t. filter_map (entry_at types index) (cond t (p ∷ filter (is_source index) b) (filter (is_source index) b))) source ∙ ap (λ o. cons_option o (entries_by_row types index b)) e)

pub adds : (types : List SegType) (index : IndexDef) (p : List Row × Row) → Adds types index p
adds types index p = by (is_source index p) refl
  where
    by : (b : Bool) → is_source index p ≡ b → Adds types index p
    by true e = adds_source types index p (entry_at types index p) e refl
    by false e = Nothing (λ b. ap (λ t. filter_map (entry_at types index) (cond t (p ∷ filter (is_source index) b) (filter (is_source index) b))) e)

-- the key of an entry
abbrev pub own_key : List SegType → IndexDef → List Row → List ℕ → List ℕ
own_key types index path content = flat_map (λ f. portion f.start f.bytes content) index.search ++ flat_map (λ f. portion f.start f.bytes (concatenated_key types path)) index.subseq

pub entry_has_key : (types : List SegType) (index : IndexDef) (path : List Row) (row : Row) (entry : Entry) → entry_of types index path row ≡ Some entry → entry.key ≡ own_key types index path row.content
entry_has_key types index path row entry h = by (find (λ r. r.code == index.target) path) (slice_get path 0) h
  where
    by : (target root : Option Row)
        → option_and_then (λ (target : Row). option_and_then (λ (root : Row). Some (record { key = own_key types index path row.content; target = target.name; root = row_key types root })) root) target ≡ Some entry
        → entry.key ≡ own_key types index path row.content
    by None root h = cc
    by (Some target) None h = cc
    by (Some target) (Some root) h =
        let made : Entry = record { key = own_key types index path row.content; target = target.name; root = row_key types root } in
        ap (λ (o : Option Entry). option_map_or (λ e. e.key) o []) (sym h)

-- the entry of a key, by its target and the first of its path
abbrev pub entry_named : List SegType → List ℕ → Ilk → Option Row → Option Entry
entry_named types key name root = option_and_then (λ (r : Row). Some (record { key = key; target = name; root = row_key types r })) root

abbrev pub entry_with : List SegType → List ℕ → Option Row → Option Row → Option Entry
entry_with types key target root = option_and_then (λ (t : Row). option_and_then (λ (r : Row). Some (record { key = key; target = t.name; root = row_key types r })) root) target
