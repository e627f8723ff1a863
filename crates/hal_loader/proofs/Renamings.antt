-- A load looks at no name but to find a parent: over rows under other names it refuses the same, and puts a row in the same place.
use Rattle.std.proofs.Common.{◌≡◌, ℕ, zero, suc, ◌+◌, ◌-◌, ◌==◌, nat_lt, Bool, true, false, not, cond, ◌&&◌, ◌||◌, List, [], ◌∷◌, ◌++◌, length, drop, map, reverse, Option, Some, None, refl, sym, ap, ◌∙◌}
use Rattle.std.specs.Prelude.{codes, filter, filter_map, find, flat_map, is_none, is_some, option_and_then, if◌then◌else◌}
use Rattle.std.specs.List.{cons_option, list_all, list_any, last_or, prefix_len, slice_get}
use Rattle.std.specs.Option.{option_map, option_map_or}
use Rattle.std.specs.Ordering.{is_lt, is_le, is_eq}
use Rattle.std.specs.Str.{bytes_eq}
use Rattle.std.proofs.lemmas.Bool.{true≢false}
use Rattle.std.proofs.lemmas.Grind.{flat_map-append, reverse_onto}
use Rattle.std.proofs.lemmas.List.{map-append}
use Rattle.std.proofs.lemmas.Option.{slice_get-map}
use Rattle.hal_base.specs.declared.place.Ilk.{Ilk}
use Rattle.hal_schema.specs.declared.row.Row.{Row}
use Rattle.hal_schema.specs.declared.schema.IndexDef.{IndexDef}
use Rattle.hal_schema.specs.declared.schema.Schema.{Schema}
use Rattle.hal_schema.specs.declared.schema.SegType.{SegType}
use Rattle.hal_schema.specs.Entry.{Entry, entries_by_row, entries_of, entry_of, in_key_order, is_taken, with_entry}
use Rattle.hal_schema.specs.Forest.{has_unique_key, is_selected, twin_cmp}
use Rattle.hal_schema.specs.Insertion.{enters_freely, has_free_key, new_path, through_last}
use Rattle.hal_schema.specs.Keys.{key_cmp}
use Rattle.hal_schema.specs.Paths.{concatenated_key, path_with, paths_of, with_paths}
use Rattle.hal_schema.specs.Row.{are_twins, row_key, row_level, same_name, same_parent}
use Rattle.hal_schema.specs.SegType.{parent_code, portion}
use Rattle.hal_schema.proofs.RowNames.{name_is, name_itself, name_from}
use Rattle.hal_loader.specs.Laws.{renamed}
use Rattle.hal_loader.specs.Placing.{coming, first_name, goes_by_key, is_of, leaves_blocks, loads_behind, load_need, load_place, parent_path}
use Rattle.hal_loader.specs.Refusals.{is_below_last, is_later_sibling, row_refusals, twins_of}

-- ---- other names that stay apart

pub record StayApart (f : Ilk → Ilk) : Type 0 where
  pub same : (a b : Ilk) → same_name (f a) (f b) ≡ same_name a b

abbrev pub swapped : Ilk → Ilk → Ilk → Ilk
swapped a b n = if same_name n a then b else if same_name n b then a else n

twice : (a b n : Ilk) → swapped a b (swapped a b n) ≡ n
twice a b n = by (same_name n a) (same_name n b) refl refl
  where
    back : (c : Bool) → same_name b a ≡ c → n ≡ a → cond c b (cond (same_name b b) a b) ≡ n
    back true e f = name_is b a e ∙ sym f
    back false e f = ap (λ (t : Bool). cond t a b) (name_itself b) ∙ sym f

    by : (c d : Bool) → same_name n a ≡ c → same_name n b ≡ d → swapped a b (cond c b (cond d a n)) ≡ n
    by true d e f = back (same_name b a) refl (name_is n a e)
    by false true e f = ap (λ (t : Bool). cond t b (cond (same_name a b) a a)) (name_itself a) ∙ sym (name_is n b f)
    by false false e f = ap (λ (t : Bool). cond t b (cond (same_name n b) a n)) e ∙ ap (λ (t : Bool). cond t a n) f

pub swaps : (f : Ilk → Ilk) (a b : Ilk) → StayApart f → StayApart (λ n. swapped a b (f n))
swaps f a b s = record { same = λ x y. by x y (same_name (f x) (f y)) refl ∙ s.same x y }
  where
    by : (x y : Ilk) (c : Bool) → same_name (f x) (f y) ≡ c → same_name (swapped a b (f x)) (swapped a b (f y)) ≡ same_name (f x) (f y)
    by x y true e = name_from (swapped a b (f x)) (swapped a b (f y)) (ap (swapped a b) (name_is (f x) (f y) e)) ∙ sym e
    by x y false e = no (same_name (swapped a b (f x)) (swapped a b (f y))) refl ∙ sym e
      where
        no : (d : Bool) → same_name (swapped a b (f x)) (swapped a b (f y)) ≡ d → d ≡ false
        no true g =
            let same : f x ≡ f y = sym (twice a b (f x)) ∙ ap (swapped a b) (name_is (swapped a b (f x)) (swapped a b (f y)) g) ∙ twice a b (f y) in
            absurd (true≢false (sym (name_from (f x) (f y) same) ∙ e))
        no false g = refl

-- ---- parents and twins

parents_same : (f : Ilk → Ilk) → StayApart f → (a b : Option Ilk) → same_parent (option_map f a) (option_map f b) ≡ same_parent a b
parents_same f s None None = refl
parents_same f s None (Some b) = refl
parents_same f s (Some a) None = refl
parents_same f s (Some a) (Some b) = s.same a b

parent_same : (f : Ilk → Ilk) → StayApart f → (n : Ilk) (o : Option Ilk) → option_map_or (same_name (f n)) (option_map f o) false ≡ option_map_or (same_name n) o false
parent_same f s n None = refl
parent_same f s n (Some p) = s.same n p

-- ---- lists, one item to one

any_map : {X Y : Type 0} (t : Y → Bool) (g : X → Y) (xs : List X) → list_any t (map g xs) ≡ list_any (λ x. t (g x)) xs
any_map t g [] = refl
any_map t g (x ∷ xs) = ap (λ b. t (g x) || b) (any_map t g xs)

pub all_map : {X Y : Type 0} (t : Y → Bool) (g : X → Y) (xs : List X) → list_all t (map g xs) ≡ list_all (λ x. t (g x)) xs
all_map t g [] = refl
all_map t g (x ∷ xs) = ap (λ b. t (g x) && b) (all_map t g xs)

kept_map : {X Y : Type 0} (t : Y → Bool) (g : X → Y) (xs : List X) → filter t (map g xs) ≡ map g (filter (λ x. t (g x)) xs)
kept_map t g [] = refl
kept_map {X} {Y} t g (x ∷ xs) = by (t (g x)) (kept_map t g xs)
  where
    by : (b : Bool) → filter t (map g xs) ≡ map g (filter (λ x. t (g x)) xs) → cond b (g x ∷ filter t (map g xs)) (filter t (map g xs)) ≡ map g (cond b (x ∷ filter (λ x. t (g x)) xs) (filter (λ x. t (g x)) xs))
    by true e = ap (λ l. g x ∷ l) e
    by false e = e

found_map : {X Y : Type 0} (t : Y → Bool) (g : X → Y) (xs : List X) → find t (map g xs) ≡ option_map g (find (λ x. t (g x)) xs)
found_map t g [] = refl
found_map {X} {Y} t g (x ∷ xs) = by (t (g x)) (found_map t g xs)
  where
    by : (b : Bool) → find t (map g xs) ≡ option_map g (find (λ x. t (g x)) xs) → cond b (Some (g x)) (find t (map g xs)) ≡ option_map g (cond b (Some x) (find (λ x. t (g x)) xs))
    by true e = refl
    by false e = e

last_map : {X Y : Type 0} (g : X → Y) (o : Option X) (xs : List X) → last_or (option_map g o) (map g xs) ≡ option_map g (last_or o xs)
last_map g o [] = refl
last_map g o (x ∷ xs) = last_map g (Some x) xs

front_map : (p : Row → Bool) (g : Row → Row) (xs : List Row) → prefix_len p (map g xs) ≡ prefix_len (λ x. p (g x)) xs
front_map p g [] = refl
front_map p g (x ∷ xs) = ap (λ (n : ℕ). cond (p (g x)) (1 + n) 0) (front_map p g xs)

turned_map : (g : Row → Row) (xs : List Row) → reverse (map g xs) ≡ map g (reverse xs)
turned_map g [] = refl
turned_map g (x ∷ xs) =
    reverse_onto (map g xs) (g x) [] ∙ ap (λ (l : List Row). l ++ g x ∷ []) (turned_map g xs) ∙ sym (map-append g (reverse xs) (x ∷ [])) ∙ ap (map g) (sym (reverse_onto xs x []))

dropped_map : (g : Row → Row) (n : ℕ) (xs : List Row) → drop n (map g xs) ≡ map g (drop n xs)
dropped_map g zero xs = refl
dropped_map g (suc n) [] = refl
dropped_map g (suc n) (x ∷ xs) = dropped_map g n xs

long_map : (g : Row → Row) (xs : List Row) → length (map g xs) ≡ length xs
long_map g [] = refl
long_map g (x ∷ xs) = ap suc (long_map g xs)

keys_map : (types : List SegType) (f : Ilk → Ilk) (path : List Row) → concatenated_key types (map (renamed f) path) ≡ concatenated_key types path
keys_map types f [] = refl
keys_map types f (r ∷ path) = ap (λ (k : List ℕ). row_key types r ++ k) (keys_map types f path)

-- ---- entries

any_with : (t : Entry → Bool) (e : Entry) (es : List Entry) → list_any t (with_entry e es) ≡ (t e || list_any t es)
any_with t e [] = refl
any_with t e (g ∷ es) = by (is_le (key_cmp e.key g.key)) (any_with t e es)
  where
    swap : (a b c : Bool) → (a || (b || c)) ≡ (b || (a || c))
    swap true true c = refl
    swap true false c = refl
    swap false b c = refl

    by : (b : Bool) → list_any t (with_entry e es) ≡ (t e || list_any t es) → list_any t (cond b (e ∷ g ∷ es) (g ∷ with_entry e es)) ≡ (t e || (t g || list_any t es))
    by true go = refl
    by false go = ap (λ b. t g || b) go ∙ swap (t g) (t e) (list_any t es)

any_in_order : (t : Entry → Bool) (es : List Entry) → list_any t (in_key_order es) ≡ list_any t es
any_in_order t [] = refl
any_in_order t (e ∷ es) = any_with t e (in_key_order es) ∙ ap (λ b. t e || b) (any_in_order t es)

abbrev moved : (Ilk → Ilk) → Entry → Entry
moved f e = record e { target = f e.target }

abbrev both : (Ilk → Ilk) → List Row × Row → List Row × Row
both f p = (map (renamed f) p.0, renamed f p.1)

entry_moved : (types : List SegType) (f : Ilk → Ilk) (index : IndexDef) (path : List Row) (row : Row) → entry_of types index (map (renamed f) path) (renamed f row) ≡ option_map (moved f) (entry_of types index path row)
entry_moved types f index path row =
    (λ i. option_and_then (λ (target : Row). option_and_then (λ (root : Row). let e : Entry = record { key = flat_map (λ g. portion g.start g.bytes row.content) index.search ++ flat_map (λ g. portion g.start g.bytes (keys_map types f path i)) index.subseq; target = target.name; root = row_key types root } in Some e)
    (slice_get-map (renamed f) path 0 i)) (found_map (λ (r : Row). r.code == index.target) (renamed f) path i))
    ∙ made (flat_map (λ g. portion g.start g.bytes row.content) index.search ++ flat_map (λ g. portion g.start g.bytes (concatenated_key types path)) index.subseq) (find (λ (r : Row). r.code == index.target) path) (slice_get path 0)
  where
    made : (own : List ℕ) (o s : Option Row)
        → option_and_then (λ (target : Row). option_and_then (λ (root : Row). let e : Entry = record { key = own; target = target.name; root = row_key types root } in Some e) (option_map (renamed f) s)) (option_map (renamed f) o)
        ≡ option_map (moved f) (option_and_then (λ (target : Row). option_and_then (λ (root : Row). let e : Entry = record { key = own; target = target.name; root = row_key types root } in Some e) s) o)
    made own None s = refl
    made own (Some target) None = refl
    made own (Some target) (Some root) = refl

any_entries : (types : List SegType) (f : Ilk → Ilk) (index : IndexDef) (t : Entry → Bool) → ((e : Entry) → t (moved f e) ≡ t e) → (ps : List (List Row × Row))
    → list_any t (entries_by_row types index (map (both f) ps)) ≡ list_any t (entries_by_row types index ps)
any_entries types f index t same [] = refl
any_entries types f index t same (p ∷ ps) = by (p.1.code == index.source) (any_entries types f index t same ps)
  where
    one : (o : Option Entry) → list_any t (entries_by_row types index (map (both f) ps)) ≡ list_any t (entries_by_row types index ps)
        → list_any t (cons_option (option_map (moved f) o) (entries_by_row types index (map (both f) ps))) ≡ list_any t (cons_option o (entries_by_row types index ps))
    one None go = go
    one (Some e) go = λ i. same e i || go i

    by : (b : Bool) → list_any t (entries_by_row types index (map (both f) ps)) ≡ list_any t (entries_by_row types index ps)
        → list_any t (filter_map (λ (q : List Row × Row). entry_of types index q.0 q.1) (cond b (both f p ∷ filter (λ (q : List Row × Row). q.1.code == index.source) (map (both f) ps)) (filter (λ (q : List Row × Row). q.1.code == index.source) (map (both f) ps))))
        ≡ list_any t (filter_map (λ (q : List Row × Row). entry_of types index q.0 q.1) (cond b (p ∷ filter (λ (q : List Row × Row). q.1.code == index.source) ps) (filter (λ (q : List Row × Row). q.1.code == index.source) ps)))
    by true go = ap (λ (o : Option Entry). list_any t (cons_option o (entries_by_row types index (map (both f) ps)))) (entry_moved types f index p.0 p.1) ∙ one (entry_of types index p.0 p.1) go
    by false go = go

-- ---- paths

path_map : (lv : Row → ℕ) (f : Ilk → Ilk) → ((r : Row) → lv (renamed f r) ≡ lv r) → (path : List Row) (x : Row) → path_with lv (map (renamed f) path) (renamed f x) ≡ map (renamed f) (path_with lv path x)
path_map lv f same path x =
    ap (λ (l : List Row). l ++ renamed f x ∷ []) (kept_map (λ r. nat_lt (lv r) (lv (renamed f x))) (renamed f) path ∙ ap (λ (t : Row → Bool). map (renamed f) (filter t path)) (λ i r. nat_lt (same r i) (same x i)))
    ∙ sym (map-append (renamed f) (filter (λ r. nat_lt (lv r) (lv x)) path) (x ∷ []))

paths_map : (types : List SegType) (f : Ilk → Ilk) (path rows : List Row) → with_paths (row_level types) (map (renamed f) path) (map (renamed f) rows) ≡ map (both f) (with_paths (row_level types) path rows)
paths_map types f path [] = refl
paths_map types f path (x ∷ rows) =
    ap (λ (l : List Row). (l, renamed f x) ∷ with_paths (row_level types) l (map (renamed f) rows)) (path_map (row_level types) f (λ r. refl) path x)
    ∙ ap (λ (ps : List (List Row × Row)). (map (renamed f) (path_with (row_level types) path x), renamed f x) ∷ ps) (paths_map types f (path_with (row_level types) path x) rows)

-- the path of a new row's parent
abbrev above_new : List SegType → List Row → Option Ilk → List Row
above_new types rows p = option_map_or (λ (q : List Row × Row). q.0) (find (λ (q : List Row × Row). option_map_or (same_name q.1.name) p false) (paths_of types rows)) []

above_map : (types : List SegType) (f : Ilk → Ilk) → StayApart f → (rows : List Row) (p : Option Ilk) → above_new types (map (renamed f) rows) (option_map f p) ≡ map (renamed f) (above_new types rows p)
above_map types f s rows p =
    ap (λ (ps : List (List Row × Row)). option_map_or (λ (q : List Row × Row). q.0) (find (λ (q : List Row × Row). option_map_or (same_name q.1.name) (option_map f p) false) ps) []) (paths_map types f [] rows)
    ∙ ap (λ (o : Option (List Row × Row)). option_map_or (λ (q : List Row × Row). q.0) o [])
    (found_map (λ (q : List Row × Row). option_map_or (same_name q.1.name) (option_map f p) false) (both f) (paths_of types rows)
    ∙ ap (λ (t : List Row × Row → Bool). option_map (both f) (find t (paths_of types rows))) (λ i q. parent_same f s q.1.name p i))
    ∙ first (find (λ (q : List Row × Row). option_map_or (same_name q.1.name) p false) (paths_of types rows))
  where
    first : (o : Option (List Row × Row)) → option_map_or (λ (q : List Row × Row). q.0) (option_map (both f) o) [] ≡ map (renamed f) (option_map_or (λ (q : List Row × Row). q.0) o [])
    first None = refl
    first (Some q) = refl

enters_same : (types : List SegType) (f : Ilk → Ilk) → StayApart f → (rows : List Row) (p : Option Ilk) (code : ℕ) (content : List ℕ) (index : IndexDef)
    → enters_freely types (map (renamed f) rows) (coming (option_map f p) code content) index ≡ enters_freely types rows (coming p code content) index
enters_same types f s rows p code content index =
    (λ i. not (code == index.source) || not (is_taken (flat_map (λ g. portion g.start g.bytes content) index.search ++ flat_map (λ g. portion g.start g.bytes (keys i)) index.subseq) (entries_of types index (map (renamed f) rows))))
    ∙ ap (λ (b : Bool). not (code == index.source) || not b) (taken (flat_map (λ g. portion g.start g.bytes content) index.search ++ flat_map (λ g. portion g.start g.bytes (concatenated_key types (new_path types rows (coming p code content)))) index.subseq))
  where
    keys : concatenated_key types (new_path types (map (renamed f) rows) (coming (option_map f p) code content)) ≡ concatenated_key types (new_path types rows (coming p code content))
    keys = flat_map-append (row_key types) (above_new types (map (renamed f) rows) (option_map f p)) (coming (option_map f p) code content ∷ [])
        ∙ ap (λ (k : List ℕ). k ++ (row_key types (coming p code content) ++ [])) (ap (concatenated_key types) (above_map types f s rows p) ∙ keys_map types f (above_new types rows p))
        ∙ sym (flat_map-append (row_key types) (above_new types rows p) (coming p code content ∷ []))

    taken : (key : List ℕ) → is_taken key (entries_of types index (map (renamed f) rows)) ≡ is_taken key (entries_of types index rows)
    taken key =
        any_in_order (λ (e : Entry). bytes_eq key e.key) (entries_by_row types index (paths_of types (map (renamed f) rows)))
        ∙ ap (λ (ps : List (List Row × Row)). list_any (λ (e : Entry). bytes_eq key e.key) (entries_by_row types index ps)) (paths_map types f [] rows)
        ∙ any_entries types f index (λ (e : Entry). bytes_eq key e.key) (λ e. refl) (paths_of types rows)
        ∙ sym (any_in_order (λ (e : Entry). bytes_eq key e.key) (entries_by_row types index (paths_of types rows)))

-- ---- the table of refusals, and the place

need_same : (schema : Schema) (f : Ilk → Ilk) → StayApart f → (rows : List Row) (p : Option Ilk) (code : ℕ) (content : List ℕ)
    → load_need schema (map (renamed f) rows) (coming (option_map f p) code content) ≡ load_need schema rows (coming p code content)
need_same schema f s rows p code content =
    ap (λ (b : Bool). 2 + length schema.indexes + cond b 1 0)
    (ap (λ (l : List Row). option_map_or (λ root. leaves_blocks schema (row_key schema.types root)) (slice_get (l ++ coming (option_map f p) code content ∷ []) 0) false) (above_map schema.types f s rows p)
    ∙ first (above_new schema.types rows p))
  where
    first : (l : List Row) → option_map_or (λ root. leaves_blocks schema (row_key schema.types root)) (slice_get (map (renamed f) l ++ coming (option_map f p) code content ∷ []) 0) false
        ≡ option_map_or (λ root. leaves_blocks schema (row_key schema.types root)) (slice_get (l ++ coming p code content ∷ []) 0) false
    first [] = refl
    first (r ∷ l) = refl

below_same : (schema : Schema) (f : Ilk → Ilk) → StayApart f → (rows : List Row) (p : Option Ilk) (code : ℕ) (content : List ℕ)
    → is_below_last schema.types (map (renamed f) rows) (coming (option_map f p) code content) ≡ is_below_last schema.types rows (coming p code content)
below_same schema f s rows p code content =
    ap (λ (l : List Row). option_map_or (λ twin. is_lt (key_cmp (row_key schema.types (coming p code content)) (row_key schema.types twin))) (last_or None l) false)
    (kept_map (λ r. are_twins r (coming (option_map f p) code content)) (renamed f) rows ∙ ap (λ (t : Row → Bool). map (renamed f) (filter t rows)) (λ i r. r.code == code && parents_same f s r.parent p i))
    ∙ ap (λ (o : Option Row). option_map_or (λ twin. is_lt (key_cmp (row_key schema.types (coming p code content)) (row_key schema.types twin))) o false) (last_map (renamed f) None (twins_of rows (coming p code content)))
    ∙ one (last_or None (twins_of rows (coming p code content)))
  where
    one : (o : Option Row) → option_map_or (λ twin. is_lt (key_cmp (row_key schema.types (coming p code content)) (row_key schema.types twin))) (option_map (renamed f) o) false
        ≡ option_map_or (λ twin. is_lt (key_cmp (row_key schema.types (coming p code content)) (row_key schema.types twin))) o false
    one None = refl
    one (Some r) = refl

lost_same : (f : Ilk → Ilk) (p : Option Ilk) → is_none (option_map f p) ≡ is_none p
lost_same f None = refl
lost_same f (Some n) = refl

pub refused_same : (schema : Schema) (f : Ilk → Ilk) → StayApart f → (rows : List Row) (free : ℕ) (p : Option Ilk) (code : ℕ) (content : List ℕ)
    → row_refusals schema (map (renamed f) rows) free (coming (option_map f p) code content) ≡ row_refusals schema rows free (coming p code content)
refused_same schema f s rows free p code content =
    let later : list_any (is_later_sibling (coming (option_map f p) code content)) (map (renamed f) rows) ≡ list_any (is_later_sibling (coming p code content)) rows =
    any_map (is_later_sibling (coming (option_map f p) code content)) (renamed f) rows ∙ ap (λ (t : Row → Bool). list_any t rows) (λ i r. parents_same f s r.parent p i && nat_lt code r.code) in
    let lower = below_same schema f s rows p code content in
    let key : has_free_key schema (map (renamed f) rows) (coming (option_map f p) code content) ≡ has_free_key schema rows (coming p code content) =
    ap (λ (b : Bool). not (has_unique_key schema.types code) || b)
    (all_map (λ r. not (are_twins r (coming (option_map f p) code content) && is_eq (twin_cmp schema r (coming (option_map f p) code content)))) (renamed f) rows
    ∙ ap (λ (t : Row → Bool). list_all t rows) (λ i r. not ((r.code == code && parents_same f s r.parent p i) && is_eq (twin_cmp schema r (coming p code content))))) in
    let enter : list_all (enters_freely schema.types (map (renamed f) rows) (coming (option_map f p) code content)) schema.indexes ≡ list_all (enters_freely schema.types rows (coming p code content)) schema.indexes =
    ap (λ (t : IndexDef → Bool). list_all t schema.indexes) (λ i index. enters_same schema.types f s rows p code content index i) in
    let need = need_same schema f s rows p code content in
    λ i. (is_some (parent_code schema.types code) && lost_same f p i, codes "LD")
    ∷ (later i, codes "LE")
    ∷ (not (goes_by_key schema (coming p code content)) && lower i, codes "LC")
    ∷ (not (key i), codes "LB")
    ∷ (not (is_selected schema (coming p code content)), codes "FM")
    ∷ (not (enter i), codes "NI")
    ∷ (nat_lt free (need i), codes "+R") ∷ []

pub place_same : (schema : Schema) (f : Ilk → Ilk) → StayApart f → (rows : List Row) (p : Option Ilk) (code : ℕ) (content : List ℕ)
    → load_place schema (map (renamed f) rows) (coming (option_map f p) code content) ≡ load_place schema rows (coming p code content)
place_same schema f s rows p code content =
    ap (λ (k : ℕ). k + prefix_len (λ row. nat_lt (row_level schema.types (coming p code content)) (row_level schema.types row)) (drop k (map (renamed f) rows))) through
    ∙ ap (λ (n : ℕ). k + n) (ap (prefix_len (λ row. nat_lt (row_level schema.types (coming p code content)) (row_level schema.types row))) (dropped_map (renamed f) k rows)
    ∙ front_map (λ row. nat_lt (row_level schema.types (coming p code content)) (row_level schema.types row)) (renamed f) (drop k rows))
  where
    k : ℕ
    k = through_last (loads_behind schema (coming p code content)) rows

    test : (r : Row) → loads_behind schema (coming (option_map f p) code content) (renamed f r) ≡ loads_behind schema (coming p code content) r
    test r = λ i. parent_same f s r.name p i || (parents_same f s r.parent p i && nat_lt r.code code) || ((r.code == code && parents_same f s r.parent p i) && (not (goes_by_key schema (coming p code content)) || is_lt (twin_cmp schema r (coming p code content))))

    through : through_last (loads_behind schema (coming (option_map f p) code content)) (map (renamed f) rows) ≡ through_last (loads_behind schema (coming p code content)) rows
    through = λ i. long_map (renamed f) rows i - (ap (prefix_len (λ r. not (loads_behind schema (coming (option_map f p) code content) r))) (turned_map (renamed f) rows)
        ∙ front_map (λ r. not (loads_behind schema (coming (option_map f p) code content) r)) (renamed f) (reverse rows) ∙ ap (λ (t : Row → Bool). prefix_len t (reverse rows)) (λ j r. not (test r j))) i

pub parent_path_same : (types : List SegType) (f : Ilk → Ilk) (code : ℕ) (path : List Row) → parent_path types (map (renamed f) path) code ≡ map (renamed f) (parent_path types path code)
parent_path_same types f code [] = refl
parent_path_same types f code (r ∷ path) = by (is_of (parent_code types code) r.code) (parent_path_same types f code path)
  where
    by : (b : Bool) → parent_path types (map (renamed f) path) code ≡ map (renamed f) (parent_path types path code)
        → cond b (map (renamed f) (r ∷ path)) (parent_path types (map (renamed f) path) code) ≡ map (renamed f) (cond b (r ∷ path) (parent_path types path code))
    by true go = refl
    by false go = go

pub first_same : (f : Ilk → Ilk) (path : List Row) → first_name (map (renamed f) path) ≡ option_map f (first_name path)
first_same f [] = refl
first_same f (r ∷ path) = refl
