-- The places of rows, and the elements of the plain view at them.
use Rattle.std.proofs.Common.{◌≡◌, ℕ, zero, suc, ◌+◌, ◌-◌, ◌<◌, ◌≤◌, ◌==◌, min, nat_le, nat_lt, Bool, true, false, not, cond, ◌&&◌, List, [], ◌∷◌, ◌++◌, length, take, drop, get_or, Option, None, Some, refl, sym, ap, ◌∙◌, arith}
use Rattle.std.specs.Prelude.{filter, find, is_none}
use Rattle.std.specs.Option.{option_map_or}
use Rattle.std.specs.List.{last_or, list_all, position_or_len, prefix_len, slice_get}
use Rattle.std.specs.Str.{bytes_eq}
use Rattle.std.proofs.lemmas.Bool.{and_parts, and_from, eqb-true, eq-eqb, ltb-true, ltb-false, lt-ltb, not-true, false_from_ne_true, true≢false}
use Rattle.std.proofs.lemmas.List.{append-nil, append_assoc, drop_min}
use Rattle.std.proofs.Math.Seq.{take-length}
use Rattle.std.proofs.lemmas.List.Elements.{filter-append}
use Rattle.hal_base.specs.declared.place.Ilk.{Ilk}
use Rattle.hal_schema.specs.declared.row.Row.{Row}
use Rattle.hal_schema.specs.declared.schema.Schema.{Schema}
use Rattle.hal_schema.specs.declared.schema.SegType.{SegType}
use Rattle.hal_schema.specs.Forest.{has_length, is_forest, is_path}
use Rattle.hal_schema.specs.Insertion.{through_last}
use Rattle.hal_schema.specs.Paths.{concatenated_key, path_after, path_with, paths_of, with_paths}
use Rattle.hal_schema.specs.SegType.{ancestry_within, key_in, level_of, parent_code}
use Rattle.hal_schema.specs.Row.{row_key, row_level}
use Rattle.position_state.specs.declared.session.Anchor.{Anchor}
use Rattle.position_state.specs.declared.session.Anchor.TheVariants.{Front, At}
use Rattle.position_state.specs.declared.spot.Spot.{Spot}
use Rattle.position_state.specs.View.{all_before, before, behind, is_at, plain_element}
use Rattle.position_state.specs.Looks.{above, first_behind, found_at, last_before, past, root_of_key}
use Rattle.position_state.specs.Places.{have_levels, is_of_row, is_root_of, rows_before, rows_through}
use Rattle.position_state.proofs.Changing.{length_taken, take_last, through_push}
use Rattle.position_state.proofs.Cuts.{last_in_two}
use Rattle.position_state.proofs.Deleting.{forest_names, forest_paths, level_of_row}
use Rattle.position_state.proofs.Shown.{shown}

-- ---- lists

get_behind : {X : Type 0} (k : ℕ) (xs : List X) (i : ℕ) → slice_get (drop k xs) i ≡ slice_get xs (k + i)
get_behind zero xs i = let e : zero + i ≡ i = omega arith in ap (slice_get xs) (sym e)
get_behind (suc k) [] i = refl
get_behind (suc k) (x ∷ xs) i = let e : suc k + i ≡ suc (k + i) = omega arith in get_behind k xs i ∙ ap (slice_get (x ∷ xs)) (sym e)

none_past : {X : Type 0} (xs : List X) (n : ℕ) → length xs ≤ n → slice_get xs n ≡ None
none_past [] n le = refl
none_past (x ∷ xs) zero le = absurd (omega (arith, le))
none_past (x ∷ xs) (suc n) le = none_past xs n (omega (arith, le))

find_at : (t : Spot → Bool) (xs : List Spot) → find t xs ≡ slice_get xs (position_or_len t xs)
find_at t [] = refl
find_at t (x ∷ xs) = by (t x) (find_at t xs)
  where
    by : (b : Bool) → find t xs ≡ slice_get xs (position_or_len t xs) → cond b (Some x) (find t xs) ≡ slice_get (x ∷ xs) (cond (not b) (1 + position_or_len t xs) 0)
    by true e = refl
    by false e = let n : 1 + position_or_len t xs ≡ suc (position_or_len t xs) = omega arith in e ∙ ap (slice_get (x ∷ xs)) (sym n)

last_taken : (o : Option Spot) (xs : List Spot) (n : ℕ) → n < length xs → last_or o (take (suc n) xs) ≡ slice_get xs n
last_taken o [] n lt = absurd (omega (arith, lt))
last_taken o (x ∷ xs) zero lt = refl
last_taken o (x ∷ xs) (suc n) lt = last_taken (Some x) xs n (omega (arith, lt))

all_prefix : {X : Type 0} (xs : List X) → prefix_len (λ (x : X). true) xs ≡ length xs
all_prefix [] = refl
all_prefix {X} (x ∷ xs) = let e : 1 + prefix_len (λ (y : X). true) xs ≡ suc (prefix_len (λ (y : X). true) xs) = omega arith in e ∙ ap suc (all_prefix xs)

-- ---- rows and their elements, one by one

prefix_shown : (p : Spot → Bool) (q : Row → Bool) (types : List SegType) → ((path : List Row) (row : Row) → p (plain_element types path row) ≡ q row) → (path rows : List Row)
    → prefix_len p (shown types path rows) ≡ prefix_len q rows
prefix_shown p q types same path [] = refl
prefix_shown p q types same path (row ∷ rows) =
    let next : List Row = path_with (row_level types) path row in
    ap (λ b. cond b (1 + prefix_len p (shown types next rows)) 0) (same next row) ∙ ap (λ n. cond (q row) (1 + n) 0) (prefix_shown p q types same next rows)

prefix_dropped : (p : Spot → Bool) (q : Row → Bool) (types : List SegType) → ((path : List Row) (row : Row) → p (plain_element types path row) ≡ q row) → (k : ℕ) (path rows : List Row)
    → prefix_len p (drop k (shown types path rows)) ≡ prefix_len q (drop k rows)
prefix_dropped p q types same zero path rows = prefix_shown p q types same path rows
prefix_dropped p q types same (suc k) path [] = refl
prefix_dropped p q types same (suc k) path (row ∷ rows) = prefix_dropped p q types same k (path_with (row_level types) path row) rows

length_shown : (types : List SegType) (path rows : List Row) → length (shown types path rows) ≡ length rows
length_shown types path [] = refl
length_shown types path (row ∷ rows) = ap suc (length_shown types (path_with (row_level types) path row) rows)

-- the element of a row, with the path that the rows before it leave
abbrev element_at : List SegType → List Row → List Row → ℕ → Row → Spot
element_at types path rows n row = plain_element types (path_with (row_level types) (path_after (row_level types) path (take n rows)) row) row

record RowAt (types : List SegType) (path rows : List Row) (n : ℕ) : Type 0 where
  row : Row
  taken : take (suc n) rows ≡ take n rows ++ row ∷ []
  more : take (suc n) (shown types path rows) ≡ take n (shown types path rows) ++ element_at types path rows n row ∷ []
  got : slice_get (shown types path rows) n ≡ Some (element_at types path rows n row)

row_at : (types : List SegType) (path rows : List Row) (n : ℕ) → n < length rows → RowAt types path rows n
row_at types path [] n lt = absurd (omega (arith, lt))
row_at types path (row ∷ rows) zero lt = record { row = row; taken = refl; more = refl; got = refl }
row_at types path (row ∷ rows) (suc n) lt =
    let next : List Row = path_with (row_level types) path row in
    let r = row_at types next rows n (omega (arith, lt)) in
    record { row = r.row; taken = ap (λ l. row ∷ l) r.taken; more = ap (λ l. plain_element types next row ∷ l) r.more; got = r.got }

pub spot_at : (types : List SegType) (path rows : List Row) (n : ℕ) (row : Row) → n < length rows → row ≡ get_or rows n row → slice_get (shown types path rows) n ≡ Some (element_at types path rows n row)
spot_at types path [] n row lt e = absurd (omega (arith, lt))
spot_at types path (r ∷ rows) zero row lt e = ap (λ (x : Row). Some (plain_element types (path_with (row_level types) path x) x)) (sym e)
spot_at types path (r ∷ rows) (suc n) row lt e = spot_at types (path_with (row_level types) path r) rows n row (omega (arith, lt)) e

pub spot_past : (types : List SegType) (rows : List Row) (n : ℕ) → length rows ≤ n → slice_get (shown types [] rows) n ≡ None
spot_past types rows n le = let long = length_shown types [] rows in none_past (shown types [] rows) n (omega (arith, long, le))

pub last_counted : (types : List SegType) (rows : List Row) (count : ℕ) → 0 < count → count ≤ length rows → slice_get (shown types [] rows) (count - 1) ≡ last_or None (take count (shown types [] rows))
last_counted types rows count some le =
    let n : count ≡ suc (count - 1) = omega (arith, some) in
    let long = length_shown types [] rows in
    sym (ap (λ k. last_or None (take k (shown types [] rows))) n ∙ last_taken None (shown types [] rows) (count - 1) (omega (arith, long, some, le)))

-- ---- before a place, and behind it

position_shown : (types : List SegType) (name : Ilk) (root : List ℕ) (entry : Option (List ℕ)) (path rows : List Row)
    → position_or_len (is_at (At name root entry)) (shown types path rows) ≡ position_or_len (is_of_row (At name root entry)) rows
position_shown types name root entry path rows =
    prefix_shown (λ s. not (is_at (At name root entry) s)) (λ r. not (is_of_row (At name root entry) r)) types (λ p r. refl) path rows

all_before_is : (at : Anchor) (view : List Spot) → all_before at view ≡ take (position_or_len (is_at at) view) view
all_before_is at [] = refl
all_before_is at (spot ∷ view) = by (is_at at spot) (all_before_is at view)
  where
    by : (b : Bool) → all_before at view ≡ take (position_or_len (is_at at) view) view
        → cond b [] (spot ∷ all_before at view) ≡ take (cond (not b) (1 + position_or_len (is_at at) view) 0) (spot ∷ view)
    by true e = refl
    by false e =
        let n : 1 + position_or_len (is_at at) view ≡ suc (position_or_len (is_at at) view) = omega arith in
        ap (λ v. spot ∷ v) e ∙ ap (λ k. take k (spot ∷ view)) (sym n)

before_rows : (types : List SegType) (at : Anchor) (rows : List Row) → before at (shown types [] rows) ≡ take (rows_before at rows) (shown types [] rows)
before_rows types Front rows = refl
before_rows types (At name root entry) rows =
    all_before_is (At name root entry) (shown types [] rows) ∙ ap (λ n. take n (shown types [] rows)) (position_shown types name root entry [] rows)

behind_rows : (types : List SegType) (at : Anchor) (rows : List Row) → behind at (shown types [] rows) ≡ drop (rows_through at rows) (shown types [] rows)
behind_rows types Front rows = refl
behind_rows types (At name root entry) rows =
    let view : List Spot = shown types [] rows in
    let n : ℕ = position_or_len (is_of_row (At name root entry)) rows + 1 in
    ap (λ k. drop (k + 1) view) (position_shown types name root entry [] rows) ∙ sym (drop_min n view) ∙ ap (λ k. drop (min n k) view) (length_shown types [] rows)

-- ---- the looks

pub after_is : (types : List SegType) (at : Anchor) (rows : List Row) → slice_get (shown types [] rows) (rows_through at rows) ≡ first_behind at (shown types [] rows)
after_is types at rows =
    let n : rows_through at rows + 0 ≡ rows_through at rows = omega arith in
    sym (ap (λ v. slice_get v 0) (behind_rows types at rows) ∙ get_behind (rows_through at rows) (shown types [] rows) 0 ∙ ap (slice_get (shown types [] rows)) n)

pub before_is : (types : List SegType) (at : Anchor) (rows : List Row) → last_or None (take (rows_before at rows) (shown types [] rows)) ≡ last_before at (shown types [] rows)
before_is types at rows = ap (last_or None) (sym (before_rows types at rows))

pub past_is : (types : List SegType) (spot : Spot) (rows : List Row) (from : ℕ) → from ≡ rows_through spot.at rows
    → slice_get (shown types [] rows) (from + position_or_len (λ row. nat_le (row_level types row) spot.level) (drop from rows)) ≡ past spot (shown types [] rows)
past_is types spot rows from e =
    let view : List Spot = shown types [] rows in
    sym (ap (find (λ (s : Spot). nat_le s.level spot.level)) (behind_rows types spot.at rows ∙ ap (λ k. drop k view) (sym e))
    ∙ find_at (λ (s : Spot). nat_le s.level spot.level) (drop from view)
    ∙ get_behind from view (position_or_len (λ (s : Spot). nat_le s.level spot.level) (drop from view))
    ∙ ap (λ n. slice_get view (from + n)) (prefix_dropped (λ s. not (nat_le s.level spot.level)) (λ r. not (nat_le (row_level types r) spot.level)) types (λ p r. refl) from [] rows))

pub here_is : (types : List SegType) (at : Anchor) (rows : List Row) → slice_get (shown types [] rows) (position_or_len (is_of_row at) rows) ≡ found_at at (shown types [] rows)
here_is types Front rows = let all = all_prefix rows in spot_past types rows (position_or_len (is_of_row Front) rows) (omega (arith, all))
here_is types (At name root entry) rows =
    sym (find_at (is_at (At name root entry)) (shown types [] rows) ∙ ap (slice_get (shown types [] rows)) (position_shown types name root entry [] rows))

-- ---- levels

pub levels_of : (types : List SegType) (rows : List Row) → list_all (has_length types) rows ≡ true → have_levels types rows ≡ true
levels_of types [] h = refl
levels_of types (row ∷ rows) h =
    let a = and_parts (has_length types row) (list_all (has_length types) rows) h in
    and_from (nat_lt 0 (row_level types row)) (have_levels types rows) (lt-ltb 0 (row_level types row) (level_of_row types row a.0)) (levels_of types rows a.1)

pub forest_levels : (schema : Schema) (rows : List Row) → is_forest schema rows ≡ true → have_levels schema.types rows ≡ true
forest_levels schema rows h = levels_of schema.types rows (forest_names schema rows h).1

pub levels_taken : (types : List SegType) (rows : List Row) (n : ℕ) → have_levels types rows ≡ true → have_levels types (take n rows) ≡ true
levels_taken types rows zero h = refl
levels_taken types [] (suc n) h = refl
levels_taken types (row ∷ rows) (suc n) h =
    let a = and_parts (nat_lt 0 (row_level types row)) (have_levels types rows) h in
    and_from (nat_lt 0 (row_level types row)) (have_levels types (take n rows)) a.0 (levels_taken types rows n a.1)

none_above_root : (types : List SegType) (path : List Row) (level : ℕ) → level ≤ 1 → have_levels types path ≡ true → filter (λ r. nat_lt (row_level types r) level) path ≡ []
none_above_root types [] level le h = refl
none_above_root types (row ∷ path) level le h =
    let a = and_parts (nat_lt 0 (row_level types row)) (have_levels types path) h in
    let up : 0 < row_level types row = ltb-true 0 (row_level types row) a.0 in
    ap (λ b. cond b (row ∷ filter (λ r. nat_lt (row_level types r) level) path) (filter (λ r. nat_lt (row_level types r) level) path))
    (false_from_ne_true (nat_lt (row_level types row) level) (λ t. let lt = ltb-true (row_level types row) level t in absurd (omega (arith, lt, up, le))))
    ∙ none_above_root types path level le a.1

levels_next : (types : List SegType) (path : List Row) (row : Row) → have_levels types path ≡ true → nat_lt 0 (row_level types row) ≡ true → have_levels types (path_with (row_level types) path row) ≡ true
levels_next types [] row h r = and_from (nat_lt 0 (row_level types row)) true r refl
levels_next types (above ∷ path) row h r =
    let a = and_parts (nat_lt 0 (row_level types above)) (have_levels types path) h in
    by (nat_lt (row_level types above) (row_level types row)) a.0 (levels_next types path row a.1 r)
  where
    kept : List Row
    kept = filter (λ x. nat_lt (row_level types x) (row_level types row)) path

    by : (b : Bool) → nat_lt 0 (row_level types above) ≡ true → have_levels types (kept ++ row ∷ []) ≡ true → have_levels types (cond b (above ∷ kept) kept ++ row ∷ []) ≡ true
    by true one rest = and_from (nat_lt 0 (row_level types above)) (have_levels types (kept ++ row ∷ [])) one rest
    by false one rest = rest

-- the root type stands on level 1
root_level : (types : List SegType) (row : Row) → row.code ≡ 1 → row_level types row ≡ 1
root_level types row e = ap (level_of types) e ∙ by (parent_code types 1)
  where
    by : (o : Option ℕ) → length (1 ∷ option_map_or (ancestry_within 0 (parent_code types)) o []) ≡ 1
    by None = refl
    by (Some parent) = refl

-- the root of a key: where each row has a level and stands below its parents, no row stands above one of level 1, and only roots stand there
root_shown : (types : List SegType) (key : List ℕ) (path rows : List Row) → have_levels types path ≡ true → have_levels types rows ≡ true
    → list_all (λ (p : List Row × Row). is_path types None p.0) (with_paths (row_level types) path rows) ≡ true
    → position_or_len (λ (s : Spot). s.level == 1 && bytes_eq s.key key) (shown types path rows) ≡ position_or_len (is_root_of types key) rows
root_shown types key path [] h k l = refl
root_shown types key path (row ∷ rows) h k l =
    let a = and_parts (nat_lt 0 (row_level types row)) (have_levels types rows) k in
    let next : List Row = path_with (row_level types) path row in
    let b = and_parts (is_path types None next) (list_all (λ (p : List Row × Row). is_path types None p.0) (with_paths (row_level types) next rows)) l in
    ap (λ b. cond (not b) (1 + position_or_len (λ (s : Spot). s.level == 1 && bytes_eq s.key key) (shown types next rows)) 0) (same (row.code == 1) refl b.0)
    ∙ ap (λ n. cond (not (is_root_of types key row)) (1 + n) 0) (root_shown types key next rows (levels_next types path row h a.0) a.1 b.1)
  where
    alone : row_level types row ≡ 1 → path_with (row_level types) path row ≡ row ∷ []
    alone one = ap (λ (p : List Row). p ++ row ∷ []) (none_above_root types path (row_level types row) (omega (arith, one)) h)

    coded : row_level types row ≡ 1 → is_path types None (path_with (row_level types) path row) ≡ true → (row.code == 1) ≡ true
    coded one p =
        let q : is_path types None (row ∷ []) ≡ true = ap (is_path types None) (sym (alone one)) ∙ p in
        (and_parts (row.code == 1) (is_none row.parent) (and_parts (row.code == 1 && is_none row.parent) true q).0).0

    same : (b : Bool) → (row.code == 1) ≡ b → is_path types None (path_with (row_level types) path row) ≡ true
        → (row_level types row == 1 && bytes_eq (concatenated_key types (path_with (row_level types) path row)) key) ≡ is_root_of types key row
    same true e p =
        let code = eqb-true row.code 1 e in
        let one = root_level types row code in
        ap (λ (b : Bool). b && bytes_eq (concatenated_key types (path_with (row_level types) path row)) key) (eq-eqb (row_level types row) 1 one ∙ sym e)
        ∙ ap (λ (p : List Row). row.code == 1 && bytes_eq (concatenated_key types p) key) (alone one)
        ∙ ap (λ k. row.code == 1 && bytes_eq k key) (append-nil (row_key types row) ∙ ap (λ c. key_in types c row.content) code)
    same false e p =
        ap (λ b. b && bytes_eq (concatenated_key types (path_with (row_level types) path row)) key)
        (false_from_ne_true (row_level types row == 1) (λ t. true≢false (sym (coded (eqb-true (row_level types row) 1 t) p) ∙ e)))
        ∙ ap (λ b. b && bytes_eq (key_in types 1 row.content) key) (sym e)

pub root_is : (schema : Schema) (key : List ℕ) (rows : List Row) → is_forest schema rows ≡ true
    → slice_get (shown schema.types [] rows) (position_or_len (is_root_of schema.types key) rows) ≡ root_of_key key (shown schema.types [] rows)
root_is schema key rows h =
    sym (find_at (λ (s : Spot). s.level == 1 && bytes_eq s.key key) (shown schema.types [] rows)
    ∙ ap (slice_get (shown schema.types [] rows)) (root_shown schema.types key [] rows refl (forest_levels schema rows h) (forest_paths schema rows h)))

-- ---- the last row of a higher level

through_step : (t : Spot → Bool) (u : Row → Bool) (types : List SegType) (path rows : List Row) (n : ℕ) (r : RowAt types path rows n) → n < length rows
    → t (element_at types path rows n r.row) ≡ u r.row
    → last_or None (filter t (take n (shown types path rows))) ≡ last_or None (take (through_last u (take n rows)) (shown types path rows))
    → last_or None (filter t (take (suc n) (shown types path rows))) ≡ last_or None (take (through_last u (take (suc n) rows)) (shown types path rows))
through_step t u types path rows n r lt same go =
    ap (λ xs. last_or None (filter t xs)) r.more ∙ last_in_two t (take n view) (element ∷ []) None
    ∙ ap (λ b. last_or (last_or None (filter t (take n view))) (cond b (element ∷ []) [])) same
    ∙ by (u r.row)
    ∙ sym (ap (λ k. last_or None (take k view)) (ap (through_last u) r.taken ∙ through_push u (take n rows) r.row))
  where
    view : List Spot
    view = shown types path rows

    element : Spot
    element = element_at types path rows n r.row

    long : length (take n rows ++ r.row ∷ []) ≡ suc n
    long = ap length (sym r.taken) ∙ length_taken rows (suc n) (omega (arith, lt))

    by : (b : Bool) → last_or (last_or None (filter t (take n view))) (cond b (element ∷ []) []) ≡ last_or None (take (cond b (length (take n rows ++ r.row ∷ [])) (through_last u (take n rows))) view)
    by true = let all = length_shown types path rows in sym (ap (λ k. last_or None (take k view)) long ∙ last_taken None view n (omega (arith, all, lt)) ∙ r.got)
    by false = go

through_shown : (t : Spot → Bool) (u : Row → Bool) (types : List SegType) → ((path : List Row) (row : Row) → t (plain_element types path row) ≡ u row) → (path rows : List Row) (n : ℕ) → n ≤ length rows
    → last_or None (filter t (take n (shown types path rows))) ≡ last_or None (take (through_last u (take n rows)) (shown types path rows))
through_shown t u types same path rows zero le = refl
through_shown t u types same path rows (suc n) le =
    let lt : n < length rows = omega (arith, le) in
    let r = row_at types path rows n lt in
    through_step t u types path rows n r lt (same (path_with (row_level types) (path_after (row_level types) path (take n rows)) r.row) r.row)
    (through_shown t u types same path rows n (omega (arith, le)))

pub above_is : (types : List SegType) (spot : Spot) (rows : List Row) (before : ℕ) → before ≡ rows_before spot.at rows → before ≤ length rows
    → last_or None (take (through_last (λ row. nat_lt (row_level types row) spot.level) (take before rows)) (shown types [] rows)) ≡ above spot (shown types [] rows)
above_is types spot rows before e le =
    let view : List Spot = shown types [] rows in
    sym (ap (λ v. last_or None (filter (λ (s : Spot). nat_lt s.level spot.level) v)) (before_rows types spot.at rows ∙ ap (λ k. take k view) (sym e))
    ∙ through_shown (λ s. nat_lt s.level spot.level) (λ r. nat_lt (row_level types r) spot.level) types (λ p r. refl) [] rows before le)

through_none : (test : Row → Bool) (rows : List Row) (n : ℕ) → n ≤ length rows → list_all (λ r. not (test r)) rows ≡ true → through_last test (take n rows) ≡ 0
through_none test rows zero le h = refl
through_none test rows (suc n) le h =
    let r = row_at [] [] rows n (omega (arith, le)) in
    ap (through_last test) r.taken ∙ through_push test (take n rows) r.row
    ∙ ap (λ b. cond b (length (take n rows ++ r.row ∷ [])) (through_last test (take n rows))) (not-true (test r.row) (at rows n r.row r.taken (omega (arith, le)) h))
    ∙ through_none test rows n (omega (arith, le)) h
  where
    at : (xs : List Row) (i : ℕ) (x : Row) → take (suc i) xs ≡ take i xs ++ x ∷ [] → i < length xs → list_all (λ r. not (test r)) xs ≡ true → not (test x) ≡ true
    at [] i x e lt h = absurd (omega (arith, lt))
    at (y ∷ xs) zero x e lt h =
        let same : y ≡ x = cc e in
        ap (λ z. not (test z)) (sym same) ∙ (and_parts (not (test y)) (list_all (λ r. not (test r)) xs) h).0
    at (y ∷ xs) (suc i) x e lt h =
        let rest : take (suc i) xs ≡ take i xs ++ x ∷ [] = cc e in
        at xs i x rest (omega (arith, lt)) (and_parts (not (test y)) (list_all (λ r. not (test r)) xs) h).1

none_higher : (types : List SegType) (rows : List Row) (level : ℕ) → level ≤ 1 → have_levels types rows ≡ true → list_all (λ r. not (nat_lt (row_level types r) level)) rows ≡ true
none_higher types [] level le h = refl
none_higher types (row ∷ rows) level le h =
    let a = and_parts (nat_lt 0 (row_level types row)) (have_levels types rows) h in
    let up : 0 < row_level types row = ltb-true 0 (row_level types row) a.0 in
    and_from (not (nat_lt (row_level types row) level)) (list_all (λ r. not (nat_lt (row_level types r) level)) rows)
    (ap not (false_from_ne_true (nat_lt (row_level types row) level) (λ t. let lt = ltb-true (row_level types row) level t in absurd (omega (arith, lt, up, le)))))
    (none_higher types rows level le a.1)

-- no row is above level 1
pub none_above_one : (types : List SegType) (rows : List Row) (level : ℕ) → level ≤ 1 → have_levels types rows ≡ true → 0 ≡ through_last (λ row. nat_lt (row_level types row) level) rows
none_above_one types rows level le h =
    let all : take (length rows) rows ≡ rows = take-length rows in
    sym (ap (through_last (λ (row : Row). nat_lt (row_level types row) level)) (sym all)
    ∙ through_none (λ row. nat_lt (row_level types row) level) rows (length rows) (omega arith) (none_higher types rows level le h))

-- ---- the path to a row, from its end

after_push : (level : Row → ℕ) (path xs : List Row) (x : Row) → path_after level path (xs ++ x ∷ []) ≡ path_with level (path_after level path xs) x
after_push level path [] x = refl
after_push level path (y ∷ ys) x = after_push level (path_with level path y) ys x

filter_weaker : (p q : Row → Bool) → ((x : Row) → q x ≡ true → p x ≡ true) → (xs : List Row) → filter p (filter q xs) ≡ filter q xs
filter_weaker p q w [] = refl
filter_weaker p q w (x ∷ xs) = by (q x) refl (filter_weaker p q w xs)
  where
    by : (b : Bool) → q x ≡ b → filter p (filter q xs) ≡ filter q xs → filter p (cond b (x ∷ filter q xs) (filter q xs)) ≡ cond b (x ∷ filter q xs) (filter q xs)
    by true e go = ap (λ b. cond b (x ∷ filter p (filter q xs)) (filter p (filter q xs))) (w x e) ∙ ap (λ l. x ∷ l) go
    by false e go = go

filter_stronger : (p q : Row → Bool) → ((x : Row) → p x ≡ true → q x ≡ true) → (xs : List Row) → filter p (filter q xs) ≡ filter p xs
filter_stronger p q w [] = refl
filter_stronger p q w (x ∷ xs) = by (q x) (p x) refl refl (filter_stronger p q w xs)
  where
    by : (b c : Bool) → q x ≡ b → p x ≡ c → filter p (filter q xs) ≡ filter p xs
        → filter p (cond b (x ∷ filter q xs) (filter q xs)) ≡ cond c (x ∷ filter p xs) (filter p xs)
    by true true e f go = ap (λ b. cond b (x ∷ filter p (filter q xs)) (filter p (filter q xs))) f ∙ ap (λ l. x ∷ l) go
    by true false e f go = ap (λ b. cond b (x ∷ filter p (filter q xs)) (filter p (filter q xs))) f ∙ go
    by false true e f go = absurd (true≢false (sym (w x f) ∙ e))
    by false false e f go = go

-- what is above a level on the path that rows leave, is the path that the rows leave up to the last that is above that level
pub climbs : (types : List SegType) (level : ℕ) (rows : List Row) (n : ℕ) → n ≤ length rows
    → filter (λ r. nat_lt (row_level types r) level) (path_after (row_level types) [] (take n rows))
    ≡ path_after (row_level types) [] (take (through_last (λ r. nat_lt (row_level types r) level) (take n rows)) rows)
climbs types level rows zero le = refl
climbs types level rows (suc n) le =
    let r = row_at types [] rows n (omega (arith, le)) in
    step r.row r.taken (climbs types level rows n (omega (arith, le)))
  where
    above : Row → Bool
    above r = nat_lt (row_level types r) level

    done : List Row
    done = path_after (row_level types) [] (take n rows)

    step : (x : Row) → take (suc n) rows ≡ take n rows ++ x ∷ [] → filter above done ≡ path_after (row_level types) [] (take (through_last above (take n rows)) rows)
        → filter above (path_after (row_level types) [] (take (suc n) rows)) ≡ path_after (row_level types) [] (take (through_last above (take (suc n) rows)) rows)
    step x e go =
        ap (λ xs. filter above (path_after (row_level types) [] xs)) e ∙ ap (filter above) (after_push (row_level types) [] (take n rows) x)
        ∙ filter-append above (filter (λ r. nat_lt (row_level types r) (row_level types x)) done) (x ∷ [])
        ∙ by (above x) refl
        ∙ sym (ap (λ k. path_after (row_level types) [] (take k rows)) (ap (through_last above) e ∙ through_push above (take n rows) x))
      where
        long : length (take n rows ++ x ∷ []) ≡ suc n
        long = ap length (sym e) ∙ length_taken rows (suc n) le

        by : (b : Bool) → above x ≡ b → filter above (filter (λ r. nat_lt (row_level types r) (row_level types x)) done) ++ cond b (x ∷ []) []
            ≡ path_after (row_level types) [] (take (cond b (length (take n rows ++ x ∷ [])) (through_last above (take n rows))) rows)
        by true f =
            let lt = ltb-true (row_level types x) level f in
            ap (λ xs. xs ++ x ∷ []) (filter_weaker above (λ r. nat_lt (row_level types r) (row_level types x))
            (λ r h. let le = ltb-true (row_level types r) (row_level types x) h in lt-ltb (row_level types r) level (omega (arith, le, lt))) done)
            ∙ sym (after_push (row_level types) [] (take n rows) x) ∙ ap (path_after (row_level types) []) (sym e)
            ∙ ap (λ k. path_after (row_level types) [] (take k rows)) (sym long)
        by false f =
            append-nil (filter above (filter (λ r. nat_lt (row_level types r) (row_level types x)) done))
            ∙ filter_stronger above (λ r. nat_lt (row_level types r) (row_level types x))
            (λ r h. let up = ltb-true (row_level types r) level h in
            let flat : level ≤ row_level types x = ltb-false (row_level types x) level f in
            lt-ltb (row_level types r) (row_level types x) (omega (arith, up, flat))) done
            ∙ go

-- the path to a row is what is above it on the path that the rows before it leave, and what was made of it from its end
abbrev pub IsMade : List SegType → List Row → ℕ → Row → ℕ → List Row → Type 0
IsMade types rows place row left made =
    path_with (row_level types) (path_after (row_level types) [] (take place rows)) row ≡ path_after (row_level types) [] (take left rows) ++ made

pub made_first : (types : List SegType) (rows : List Row) (place left : ℕ) (row : Row) (made : List Row) → place ≤ length rows
    → left ≡ through_last (λ r. nat_lt (row_level types r) (row_level types row)) (take place rows) → made ≡ row ∷ [] → IsMade types rows place row left made
made_first types rows place left row made le e m =
    ap (λ xs. xs ++ row ∷ []) (climbs types (row_level types row) rows place le ∙ ap (λ k. path_after (row_level types) [] (take k rows)) (sym e))
    ∙ ap (λ (xs : List Row). path_after (row_level types) [] (take left rows) ++ xs) (sym m)

pub made_more : (types : List SegType) (rows : List Row) (place left next : ℕ) (row above : Row) (made more : List Row) → IsMade types rows place row left made → 0 < left → left ≤ length rows
    → above ≡ get_or rows (left - 1) above → next ≡ through_last (λ r. nat_lt (row_level types r) (row_level types above)) (take (left - 1) rows) → more ≡ above ∷ made
    → IsMade types rows place row next more
made_more types rows place left next row above made more is some le at e m =
    is
    ∙ ap (λ (xs : List Row). path_after (row_level types) [] xs ++ made) (take_last rows left above some le at)
    ∙ ap (λ xs. xs ++ made) (after_push (row_level types) [] (take (left - 1) rows) above
    ∙ ap (λ xs. xs ++ above ∷ []) (climbs types (row_level types above) rows (left - 1) (omega (arith, le)) ∙ ap (λ k. path_after (row_level types) [] (take k rows)) (sym e)))
    ∙ append_assoc (path_after (row_level types) [] (take next rows)) (above ∷ []) made
    ∙ ap (λ (xs : List Row). path_after (row_level types) [] (take next rows) ++ xs) (sym m)
