-- Steps over lists, from what is left of them.
use Rattle.std.proofs.Common.{◌≡◌, ℕ, zero, suc, ◌+◌, ◌-◌, ◌<◌, ◌≤◌, ◌==◌, nat_le, Bool, true, false, not, cond, ◌&&◌, ◌||◌, List, [], ◌∷◌, ◌++◌, length, take, drop, insert, map, reverse, Bor, get_or, Option, None, Some, Result, Ok, Err, refl, sym, ap, subst, ◌∙◌, arith, add-one, drop-cons}
use Rattle.std.specs.Prelude.{filter, filter_map, find, flat_map, is_none, is_some, option_and_then, OnErr, OnOk}
use Rattle.std.specs.List.{cons_option, list_all, list_any, prefix_len, slice_get, suffix_len}
use Rattle.std.specs.Option.{option_map_or}
use Rattle.std.specs.Ordering.{is_le}
use Rattle.std.specs.Str.{bytes_eq}
use Rattle.std.proofs.lemmas.Bool.{and_parts, and_from, eqb-true, eq-eqb, leb-true, le-leb, true≢false}
use Rattle.std.proofs.lemmas.Grind.{reverse_onto}
use Rattle.std.proofs.lemmas.List.{length-append, take-append-drop}
use Rattle.std.proofs.lemmas.List.Folds.{list_all-append, list_any-append}
use Rattle.std.proofs.lemmas.List.Sums.{suffix_len-le-length}
use Rattle.hal_base.specs.declared.outcome.Memory.{Memory}
use Rattle.hal_base.specs.declared.place.Ilk.{Ilk}
use Rattle.hal_schema.specs.declared.row.Row.{Row}
use Rattle.hal_schema.specs.declared.schema.IndexDef.{IndexDef}
use Rattle.hal_schema.specs.declared.schema.PartDef.{PartDef}
use Rattle.hal_schema.specs.declared.schema.Schema.{Schema}
use Rattle.hal_schema.specs.declared.schema.SegType.{SegType}
use Rattle.hal_schema.specs.Entry.{Entry, entry_key, entry_of, entries_by_row, entries_of, in_key_order, is_taken, with_entry}
use Rattle.hal_schema.specs.Insertion.{through_last}
use Rattle.hal_schema.specs.Keys.{key_cmp}
use Rattle.hal_schema.specs.Paths.{path_with, paths_of, with_paths, concatenated_key}
use Rattle.hal_schema.specs.Roots.{partition_of}
use Rattle.hal_schema.specs.Row.{is_new_name, is_parent, row_key, row_level, same_name}
use Rattle.hal_schema.specs.SegType.{portion}
use Rattle.hal_loader.specs.Placing.{leaves_blocks}
use Rattle.load_rows.specs.Listed.{names_are_up_to}

pub left_is : {X : Type 0} (xs : List X) (i : ℕ) (x : X) → i < length xs → x ≡ get_or xs i x → drop i xs ≡ x ∷ drop (i + 1) xs
left_is xs i x h e = drop-cons xs i x h ∙ ap (λ y. y ∷ drop (suc i) xs) (sym e) ∙ ap (λ n. x ∷ drop n xs) (sym (add-one i))

-- ---- the first row with a path that passes

pub find_step : (t : List Row × Row → Bool) (level : Row → ℕ) (path new rows : List Row) (i : ℕ) (row : Row) → drop i rows ≡ row ∷ drop (i + 1) rows → new ≡ path_with level path row
    → find t (with_paths level path (drop i rows)) ≡ cond (t (new, row)) (Some (new, row)) (find t (with_paths level new (drop (i + 1) rows)))
find_step t level path new rows i row e p =
    ap (λ (rs : List Row). find t (with_paths level path rs)) e ∙ ap (λ (q : List Row). cond (t (q, row)) (Some (q, row)) (find t (with_paths level q (drop (i + 1) rows)))) (sym p)

-- ---- entries

any_with : (t : Entry → Bool) (e : Entry) (es : List Entry) → list_any t (with_entry e es) ≡ (t e || list_any t es)
any_with t e [] = refl
any_with t e (f ∷ es) = by (is_le (key_cmp e.key f.key)) (any_with t e es)
  where
    swap : (a b c : Bool) → (a || (b || c)) ≡ (b || (a || c))
    swap true true c = refl
    swap true false c = refl
    swap false b c = refl

    by : (b : Bool) → list_any t (with_entry e es) ≡ (t e || list_any t es) → list_any t (cond b (e ∷ f ∷ es) (f ∷ with_entry e es)) ≡ (t e || (t f || list_any t es))
    by true go = refl
    by false go = ap (λ b. t f || b) go ∙ swap (t f) (t e) (list_any t es)

pub any_in_order : (t : Entry → Bool) (es : List Entry) → list_any t (in_key_order es) ≡ list_any t es
any_in_order t [] = refl
any_in_order t (e ∷ es) = any_with t e (in_key_order es) ∙ ap (λ b. t e || b) (any_in_order t es)

cons_parts : {X : Type 0} (o : Option X) (rest : List X) → cons_option o rest ≡ cons_option o [] ++ rest
cons_parts None rest = refl
cons_parts (Some x) rest = refl

entries_parts : (types : List SegType) (index : IndexDef) (p : List Row × Row) (ps : List (List Row × Row))
    → entries_by_row types index (p ∷ ps) ≡ entries_by_row types index (p ∷ []) ++ entries_by_row types index ps
entries_parts types index p ps = by (p.1.code == index.source)
  where
    by : (b : Bool) → filter_map (λ (q : List Row × Row). entry_of types index q.0 q.1) (cond b (p ∷ filter (λ q. q.1.code == index.source) ps) (filter (λ q. q.1.code == index.source) ps))
        ≡ filter_map (λ (q : List Row × Row). entry_of types index q.0 q.1) (cond b (p ∷ []) []) ++ entries_by_row types index ps
    by true = cons_parts (entry_of types index p.0 p.1) (entries_by_row types index ps)
    by false = refl

pub any_step : (t : Entry → Bool) (types : List SegType) (index : IndexDef) (level : Row → ℕ) (path new rows : List Row) (i : ℕ) (row : Row) → drop i rows ≡ row ∷ drop (i + 1) rows → new ≡ path_with level path row
    → list_any t (entries_by_row types index (with_paths level path (drop i rows)))
    ≡ (list_any t (entries_by_row types index ((new, row) ∷ [])) || list_any t (entries_by_row types index (with_paths level new (drop (i + 1) rows))))
any_step t types index level path new rows i row e p =
    ap (λ (rs : List Row). list_any t (entries_by_row types index (with_paths level path rs))) e
    ∙ ap (λ (q : List Row). list_any t (entries_by_row types index ((q, row) ∷ with_paths level q (drop (i + 1) rows)))) (sym p)
    ∙ ap (list_any t) (entries_parts types index (new, row) (with_paths level new (drop (i + 1) rows)))
    ∙ list_any-append t (entries_by_row types index ((new, row) ∷ [])) (entries_by_row types index (with_paths level new (drop (i + 1) rows)))

any_find : {X : Type 0} (t : X → Bool) (xs : List X) → list_any t xs ≡ is_some (find t xs)
any_find t [] = refl
any_find {X} t (x ∷ xs) = by (t x) (any_find t xs)
  where
    by : (b : Bool) → list_any t xs ≡ is_some (find t xs) → (b || list_any t xs) ≡ is_some (cond b (Some x) (find t xs))
    by true go = refl
    by false go = go

or_false : (b : Bool) → (b || false) ≡ b
or_false true = refl
or_false false = refl

-- the key of a row's entry
abbrev pub own : List SegType → IndexDef → List Row → Row → List ℕ
own types index path row = flat_map (λ f. portion f.start f.bytes row.content) index.search ++ flat_map (λ f. portion f.start f.bytes (concatenated_key types path)) index.subseq

pub own_key : (types : List SegType) (index : IndexDef) (path : List Row) (row : Row) (key : List ℕ) → entry_key index row.content (concatenated_key types path) ≡ Some key → own types index path row ≡ key
own_key types index path row key e = cc e

-- whether the entry of one row has a key
pub one_taken : (types : List SegType) (index : IndexDef) (path : List Row) (row : Row) (key : List ℕ)
    → list_any (λ (e : Entry). bytes_eq key e.key) (entries_by_row types index ((path, row) ∷ []))
    ≡ ((row.code == index.source && list_any (λ (r : Row). r.code == index.target) path)
    && bytes_eq key (flat_map (λ f. portion f.start f.bytes row.content) index.search ++ flat_map (λ f. portion f.start f.bytes (concatenated_key types path)) index.subseq))
one_taken types index path row key = by (row.code == index.source) path
  where
    target : (r : Row) (p : List Row) (o : Option Row)
        → list_any (λ (e : Entry). bytes_eq key e.key) (cons_option (option_and_then (λ (above : Row). option_and_then (λ (root : Row). let e : Entry = record { key = flat_map (λ f. portion f.start f.bytes row.content) index.search ++ flat_map (λ f. portion f.start f.bytes (concatenated_key types (r ∷ p))) index.subseq; target = above.name; root = row_key types root } in Some e) (Some r)) o) [])
        ≡ (is_some o && bytes_eq key (flat_map (λ f. portion f.start f.bytes row.content) index.search ++ flat_map (λ f. portion f.start f.bytes (concatenated_key types (r ∷ p))) index.subseq))
    target r p None = refl
    target r p (Some above) = or_false (bytes_eq key (flat_map (λ f. portion f.start f.bytes row.content) index.search ++ flat_map (λ f. portion f.start f.bytes (concatenated_key types (r ∷ p))) index.subseq))

    by : (b : Bool) (p : List Row)
        → list_any (λ (e : Entry). bytes_eq key e.key) (filter_map (λ (q : List Row × Row). entry_of types index q.0 q.1) (cond b ((p, row) ∷ []) []))
        ≡ ((b && list_any (λ (r : Row). r.code == index.target) p) && bytes_eq key (flat_map (λ f. portion f.start f.bytes row.content) index.search ++ flat_map (λ f. portion f.start f.bytes (concatenated_key types p)) index.subseq))
    by false p = refl
    by true [] = refl
    by true (r ∷ p) = target r p (find (λ (x : Row). x.code == index.target) (r ∷ p))
        ∙ ap (λ (c : Bool). c && bytes_eq key (flat_map (λ f. portion f.start f.bytes row.content) index.search ++ flat_map (λ f. portion f.start f.bytes (concatenated_key types (r ∷ p))) index.subseq)) (sym (any_find (λ (x : Row). x.code == index.target) (r ∷ p)))

-- ---- blocks left empty

pub none_left : (schema : Schema) (key : List ℕ) → list_any (λ (part : PartDef). not (part.fbff == 0)) schema.parts ≡ false → leaves_blocks schema key ≡ false
none_left schema key h = by (partition_of schema key)
  where
    at : (parts : List PartDef) (i : ℕ) → list_any (λ (part : PartDef). not (part.fbff == 0)) parts ≡ false → option_map_or (λ (part : PartDef). not (part.fbff == 0)) (slice_get parts i) false ≡ false
    at [] i e = refl
    at (part ∷ parts) zero e = first (not (part.fbff == 0)) (list_any (λ (part : PartDef). not (part.fbff == 0)) parts) e
      where
        first : (a b : Bool) → (a || b) ≡ false → a ≡ false
        first true b f = cc f
        first false b f = refl
    at (part ∷ parts) (suc i) e = at parts i (second (not (part.fbff == 0)) (list_any (λ (part : PartDef). not (part.fbff == 0)) parts) e)
      where
        second : (a b : Bool) → (a || b) ≡ false → b ≡ false
        second true b f = cc f
        second false b f = f

    by : (o : Option ℕ) → option_map_or (λ (part : PartDef). not (part.fbff == 0)) (option_and_then (slice_get schema.parts) o) false ≡ false
    by None = refl
    by (Some i) = at schema.parts i h

pub none_left_for : (schema : Schema) (o : Option Row) → list_any (λ (part : PartDef). not (part.fbff == 0)) schema.parts ≡ false
    → option_map_or (λ root. leaves_blocks schema (row_key schema.types root)) o false ≡ false
none_left_for schema None h = refl
none_left_for schema (Some root) h = none_left schema (row_key schema.types root) h

-- ---- through the last that passes, from the end

suffix_push : (q : Row → Bool) (xs : List Row) (x : Row) → suffix_len q (xs ++ x ∷ []) ≡ cond (q x) (1 + suffix_len q xs) 0
suffix_push q xs x = ap (prefix_len q) (turned xs)
  where
    turned : (ys : List Row) → reverse (ys ++ x ∷ []) ≡ x ∷ reverse ys
    turned [] = refl
    turned (y ∷ ys) = reverse_onto (ys ++ x ∷ []) y [] ∙ ap (λ (l : List Row). l ++ y ∷ []) (turned ys) ∙ ap (λ (l : List Row). x ∷ l) (sym (reverse_onto ys y []))

pub through_push : (test : Row → Bool) (xs : List Row) (x : Row) → through_last test (xs ++ x ∷ []) ≡ cond (test x) (length (xs ++ x ∷ [])) (through_last test xs)
through_push test xs x = by (test x) (suffix_push (λ (r : Row). not (test r)) xs x)
  where
    by : (b : Bool) → suffix_len (λ (r : Row). not (test r)) (xs ++ x ∷ []) ≡ cond (not b) (1 + suffix_len (λ (r : Row). not (test r)) xs) 0
        → length (xs ++ x ∷ []) - suffix_len (λ (r : Row). not (test r)) (xs ++ x ∷ []) ≡ cond b (length (xs ++ x ∷ [])) (length xs - suffix_len (λ (r : Row). not (test r)) xs)
    by true e = omega (arith, e)
    by false e =
        let n : length (xs ++ x ∷ []) ≡ length xs + 1 = length-append xs (x ∷ []) in
        let m : suffix_len (λ (r : Row). not (test r)) (xs ++ x ∷ []) ≡ 1 + suffix_len (λ (r : Row). not (test r)) xs = e in
        omega (arith, n, m)

-- ---- names that count up

fresh : (rows : List Row) (named : ℕ) → names_are_up_to named rows ≡ true → is_new_name rows (record { addr = named + 1; part = 1; number = 1 }) ≡ true
fresh [] named h = refl
fresh (row ∷ rows) named h = let a = and_parts (nat_le row.name.addr named) (names_are_up_to named rows) h in by (row.name.addr == named + 1) refl (fresh rows named a.1) (leb-true row.name.addr named a.0)
  where
    by : (b : Bool) → (row.name.addr == named + 1) ≡ b → is_new_name rows (record { addr = named + 1; part = 1; number = 1 }) ≡ true → row.name.addr ≤ named
        → is_none (cond (b && row.name.part == 1 && row.name.number == 1) (Some row) (find (λ (r : Row). same_name r.name (record { addr = named + 1; part = 1; number = 1 })) rows)) ≡ true
    by true e go le = let n = eqb-true row.name.addr (named + 1) e in absurd (omega (arith, n, le))
    by false e go le = go

pub is_fresh : (rows : List Row) (named : ℕ) → names_are_up_to named rows ≡ true → is_new_name rows (record { addr = named + 1; part = 1; number = 1 }) ≡ true
is_fresh rows named h = fresh rows named h

pub named_more : (rows : List Row) (named : ℕ) → names_are_up_to named rows ≡ true → names_are_up_to (named + 1) rows ≡ true
named_more [] named h = refl
named_more (row ∷ rows) named h =
    let a = and_parts (nat_le row.name.addr named) (names_are_up_to named rows) h in
    let le = leb-true row.name.addr named a.0 in
    and_from (nat_le row.name.addr (named + 1)) (names_are_up_to (named + 1) rows) (le-leb row.name.addr (named + 1) (omega (arith, le))) (named_more rows named a.1)

pub named_inserted : (rows : List Row) (k named : ℕ) (row : Row) → names_are_up_to named rows ≡ true → row.name.addr ≤ named → names_are_up_to named (insert rows k row) ≡ true
named_inserted rows k named row h le =
    let both = and_parts (names_are_up_to named (take k rows)) (names_are_up_to named (drop k rows))
    (sym (list_all-append (λ (r : Row). nat_le r.name.addr named) (take k rows) (drop k rows)) ∙ ap (names_are_up_to named) (take-append-drop k rows) ∙ h) in
    list_all-append (λ (r : Row). nat_le r.name.addr named) (take k rows) (row ∷ drop k rows)
    ∙ and_from (names_are_up_to named (take k rows)) (names_are_up_to named (row ∷ drop k rows)) both.0
    (and_from (nat_le row.name.addr named) (names_are_up_to named (drop k rows)) (le-leb row.name.addr named le) both.1)

-- ---- the first of a path

pub first_of_map : (path : List (Bor Row)) (root : Bor Row) → Some root ≡ slice_get path 0 → Some root.now ≡ slice_get (map (λ (r : Bor Row). r.now) path) 0
first_of_map [] root e = cc e
first_of_map (r ∷ path) root e = let is : root ≡ r = cc e in ap (λ (b : Bor Row). Some b.now) is

-- ---- a row more from the end

pub take_last : (rows : List Row) (after : ℕ) (x : Row) → 0 < after → after ≤ length rows → x ≡ get_or rows (after - 1) x → take after rows ≡ take (after - 1) rows ++ x ∷ []
take_last rows after x some within is =
    let n : after ≡ suc (after - 1) = omega (arith, some) in
    ap (λ (k : ℕ). take k rows) n ∙ at rows (after - 1) (omega (arith, some, within)) is
  where
    at : (xs : List Row) (i : ℕ) → i < length xs → x ≡ get_or xs i x → take (suc i) xs ≡ take i xs ++ x ∷ []
    at [] i lt e = absurd (omega (arith, lt))
    at (y ∷ xs) zero lt e = ap (λ (r : Row). r ∷ []) (sym e)
    at (y ∷ xs) (suc i) lt e = ap (λ (l : List Row). y ∷ l) (at xs i (omega (arith, lt)) e)

pub through_here : (test : Row → Bool) (rows : List Row) (after : ℕ) (x : Row) → 0 < after → after ≤ length rows → x ≡ get_or rows (after - 1) x → test x ≡ true
    → through_last test rows ≡ through_last test (take after rows) → after ≡ through_last test rows
through_here test rows after x some within is passes e =
    let f : through_last test (take after rows) ≡ length (take (after - 1) rows ++ x ∷ []) =
    ap (through_last test) (take_last rows after x some within is) ∙ through_push test (take (after - 1) rows) x ∙ ap (λ (b : Bool). cond b (length (take (after - 1) rows ++ x ∷ [])) (through_last test (take (after - 1) rows))) passes in
    let long : length (take (after - 1) rows ++ x ∷ []) ≡ length (take after rows) = ap length (sym (take_last rows after x some within is)) in
    let all : length (take after rows) ≡ after = length_taken rows after within in
    sym (e ∙ f ∙ long ∙ all)
  where
    length_taken : (xs : List Row) (n : ℕ) → n ≤ length xs → length (take n xs) ≡ n
    length_taken xs zero le = refl
    length_taken [] (suc n) le = absurd (omega (arith, le))
    length_taken (y ∷ xs) (suc n) le = ap suc (length_taken xs n (omega (arith, le)))

pub through_before : (test : Row → Bool) (rows : List Row) (after : ℕ) (x : Row) → 0 < after → after ≤ length rows → x ≡ get_or rows (after - 1) x → test x ≡ false
    → through_last test rows ≡ through_last test (take after rows) → through_last test rows ≡ through_last test (take (after - 1) rows)
through_before test rows after x some within is fails e =
    e ∙ ap (through_last test) (take_last rows after x some within is) ∙ through_push test (take (after - 1) rows) x
    ∙ ap (λ (b : Bool). cond b (length (take (after - 1) rows ++ x ∷ [])) (through_last test (take (after - 1) rows))) fails

-- ---- a root is below no row

pub none_above_root : (types : List SegType) (rows : List Row) (new : Row) → new.parent ≡ None → find (λ (p : List Row × Row). is_parent p.1 new) (paths_of types rows) ≡ None
none_above_root types rows new e = none [] rows
  where
    none : (path rest : List Row) → find (λ (p : List Row × Row). is_parent p.1 new) (with_paths (row_level types) path rest) ≡ None
    none path [] = refl
    none path (r ∷ rest) =
        ap (λ (o : Option Ilk). cond (option_map_or (same_name r.name) o false) (Some (path_with (row_level types) path r, r)) (find (λ (p : List Row × Row). is_parent p.1 new) (with_paths (row_level types) (path_with (row_level types) path r) rest))) e
        ∙ none (path_with (row_level types) path r) rest

pub none_is : (o : Option Ilk) → is_some o ≡ false → o ≡ None
none_is None h = refl
none_is (Some x) h = cc h

-- what putting a row leaves has names up to the next one, with the row or without
pub put_keeps : (rows new : List Row) (place named : ℕ) (row : Row) (result : Result (Unit {0}) Memory) → names_are_up_to named rows ≡ true
    → OnOk result (new ≡ insert rows place (record row { name = record { addr = named + 1; part = 1; number = 1 } })) → OnErr result (new ≡ rows) → names_are_up_to (named + 1) new ≡ true
put_keeps rows new place named row (Ok done) h ok err =
    ap (names_are_up_to (named + 1)) ok ∙ named_inserted rows place (named + 1) (record row { name = record { addr = named + 1; part = 1; number = 1 } }) (named_more rows named h) (omega arith)
put_keeps rows new place named row (Err why) h ok err = ap (names_are_up_to (named + 1)) err ∙ named_more rows named h
