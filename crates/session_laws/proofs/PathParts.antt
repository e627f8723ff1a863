-- Paths by levels where a part of a list comes or goes: those of the other rows are the same.
use Rattle.std.proofs.Common.{◌≡◌, ℕ, suc, ◌+◌, ◌<◌, ◌≤◌, Bool, true, false, not, cond, List, [], ◌∷◌, ◌++◌, take, drop, refl, sym, ap, subst, ◌∙◌, arith, append_assoc}
use Rattle.std.specs.Prelude.{nat_lt, filter}
use Rattle.std.specs.List.{list_all, prefix_len}
use Rattle.std.proofs.lemmas.Bool.{and_parts, and_from, not-true, lt-ltb, le-ltb, ltb-true, ltb-false}
use Rattle.std.proofs.lemmas.List.{append-nil, drop-drop, take-append-drop}
use Rattle.std.proofs.lemmas.List.Elements.{filter-append}
use Rattle.hal_base.specs.declared.place.Ilk.{Ilk}
use Rattle.hal_schema.specs.declared.row.Row.{Row}
use Rattle.hal_schema.specs.declared.schema.Schema.{Schema}
use Rattle.hal_schema.specs.declared.schema.SegType.{SegType}
use Rattle.hal_schema.specs.Row.{same_name, row_level}
use Rattle.hal_schema.specs.Paths.{path_with, path_after, with_paths}
use Rattle.hal_schema.specs.Insertion.{inserted, insertion_place, through_last, stands_before}
use Rattle.hal_schema.specs.Span.{is_deeper, without_span}

abbrev pub OnPath : Type 0
OnPath = List Row × Row

pub append_paths : (types : List SegType) (path front back : List Row)
    → with_paths (row_level types) path (front ++ back) ≡ with_paths (row_level types) path front ++ with_paths (row_level types) (path_after (row_level types) path front) back
append_paths types path [] back = refl
append_paths types path (row ∷ front) back = ap (λ ps. (path_with (row_level types) path row, row) ∷ ps) (append_paths types (path_with (row_level types) path row) front back)

-- ---- the rows from the front on that are deeper

record Deeper (types : List SegType) (level : ℕ) (rows : List Row) : Type 0 where
  below : List Row
  rest : List Row
  is : rows ≡ below ++ rest
  dropped : drop (prefix_len (λ row. nat_lt level (row_level types row)) rows) rows ≡ rest
  deep : list_all (λ row. nat_lt level (row_level types row)) below ≡ true
  stop : (row : Row) (more : List Row) → rest ≡ row ∷ more → nat_lt level (row_level types row) ≡ false

head_is : (row other : Row) (rows more : List Row) → row ∷ rows ≡ other ∷ more → row ≡ other
head_is row other rows more e = cc

deeper_of : (types : List SegType) (level : ℕ) (rows : List Row) → Deeper types level rows
deeper_of types level [] = record { below = []; rest = []; is = refl; dropped = refl; deep = refl; stop = λ row more e. absurd (empty row more e) }
  where
    empty : (row : Row) (more : List Row) → [] ≡ row ∷ more → ⊥
    empty row more e = cc
deeper_of types level (row ∷ rows) = by (nat_lt level (row_level types row)) refl (deeper_of types level rows)
  where
    deeper : Row → Bool
    deeper r = nat_lt level (row_level types r)

    drop_one : (n : ℕ) → drop (1 + n) (row ∷ rows) ≡ drop n rows
    drop_one n = let e : 1 + n ≡ suc n = omega arith in ap (λ k. drop k (row ∷ rows)) e

    by : (b : Bool) → deeper row ≡ b → Deeper types level rows → Deeper types level (row ∷ rows)
    by true e r = record {
      below = row ∷ r.below;
      rest = r.rest;
      is = ap (λ rs. row ∷ rs) r.is;
      dropped = ap (λ b. drop (cond b (1 + prefix_len deeper rows) 0) (row ∷ rows)) e ∙ drop_one (prefix_len deeper rows) ∙ r.dropped;
      deep = and_from (deeper row) (list_all deeper r.below) e r.deep;
      stop = r.stop;
    }
    by false e r = record {
      below = [];
      rest = row ∷ rows;
      is = refl;
      dropped = ap (λ b. drop (cond b (1 + prefix_len deeper rows) 0) (row ∷ rows)) e;
      deep = refl;
      stop = λ other more h. subst (λ (x : Row). deeper x ≡ false) (head_is row other rows more h) e;
    }

-- ---- what is deeper is passed over

-- a path of what is above a level, and then of what isn't
record Above (types : List SegType) (level : ℕ) (top path : List Row) : Type 0 where
  more : List Row
  is : path ≡ top ++ more
  deep : list_all (λ row. not (nat_lt (row_level types row) level)) more ≡ true

higher : List SegType → ℕ → List Row → List Row
higher types level path = filter (λ row. nat_lt (row_level types row) level) path

filter_keeps : (types : List SegType) (level lower : ℕ) (path : List Row) → level < lower → higher types lower (higher types level path) ≡ higher types level path
unfolding higher
filter_keeps types level lower [] lt = refl
filter_keeps types level lower (row ∷ path) lt = by (nat_lt (row_level types row) level) refl (filter_keeps types level lower path lt)
  where
    by : (b : Bool) → nat_lt (row_level types row) level ≡ b → higher types lower (higher types level path) ≡ higher types level path
        → higher types lower (cond b (row ∷ higher types level path) (higher types level path)) ≡ cond b (row ∷ higher types level path) (higher types level path)
    by true e rest =
        let low : row_level types row < lower = omega (arith, ltb-true (row_level types row) level e, lt) in
        ap (λ b. cond b (row ∷ higher types lower (higher types level path)) (higher types lower (higher types level path))) (lt-ltb (row_level types row) lower low) ∙ ap (λ rs. row ∷ rs) rest
    by false e rest = rest

filter_twice : (types : List SegType) (level upper : ℕ) (path : List Row) → upper ≤ level → higher types upper (higher types level path) ≡ higher types upper path
unfolding higher
filter_twice types level upper [] le = refl
filter_twice types level upper (row ∷ path) le = by (nat_lt (row_level types row) level) refl (filter_twice types level upper path le)
  where
    by : (b : Bool) → nat_lt (row_level types row) level ≡ b → higher types upper (higher types level path) ≡ higher types upper path
        → higher types upper (cond b (row ∷ higher types level path) (higher types level path)) ≡ cond (nat_lt (row_level types row) upper) (row ∷ higher types upper path) (higher types upper path)
    by true e rest = ap (λ rs. cond (nat_lt (row_level types row) upper) (row ∷ rs) rs) rest
    by false e rest =
        let high : upper ≤ row_level types row = omega (arith, ltb-false (row_level types row) level e, le) in
        rest ∙ ap (λ b. cond b (row ∷ higher types upper path) (higher types upper path)) (sym (le-ltb (row_level types row) upper high))

filter_none : (types : List SegType) (level upper : ℕ) (more : List Row) → upper ≤ level → list_all (λ row. not (nat_lt (row_level types row) level)) more ≡ true → higher types upper more ≡ []
unfolding higher
filter_none types level upper [] le h = refl
filter_none types level upper (row ∷ more) le h =
    let a = and_parts (not (nat_lt (row_level types row) level)) (list_all (λ r. not (nat_lt (row_level types r) level)) more) h in
    let high : upper ≤ row_level types row = omega (arith, ltb-false (row_level types row) level (not-true (nat_lt (row_level types row) level) a.0), le) in
    ap (λ b. cond b (row ∷ higher types upper more) (higher types upper more)) (le-ltb (row_level types row) upper high) ∙ filter_none types level upper more le a.1

filter_deep : (types : List SegType) (level lower : ℕ) (more : List Row) → list_all (λ row. not (nat_lt (row_level types row) level)) more ≡ true
    → list_all (λ row. not (nat_lt (row_level types row) level)) (higher types lower more) ≡ true
unfolding higher
filter_deep types level lower [] h = refl
filter_deep types level lower (row ∷ more) h =
    let a = and_parts (not (nat_lt (row_level types row) level)) (list_all (λ r. not (nat_lt (row_level types r) level)) more) h in
    by (nat_lt (row_level types row) lower) a.0 (filter_deep types level lower more a.1)
  where
    test : Row → Bool
    test r = not (nat_lt (row_level types r) level)

    by : (b : Bool) → test row ≡ true → list_all test (higher types lower more) ≡ true → list_all test (cond b (row ∷ higher types lower more) (higher types lower more)) ≡ true
    by true one rest = and_from (test row) (list_all test (higher types lower more)) one rest
    by false one rest = rest

all_one : (test : Row → Bool) (rows : List Row) (row : Row) → list_all test rows ≡ true → test row ≡ true → list_all test (rows ++ row ∷ []) ≡ true
all_one test [] row h one = and_from (test row) true one refl
all_one test (r ∷ rows) row h one =
    let a = and_parts (test r) (list_all test rows) h in and_from (test r) (list_all test (rows ++ row ∷ [])) a.0 (all_one test rows row a.1 one)

above_after : (types : List SegType) (level : ℕ) (top path below : List Row) → Above types level (higher types level top) path → list_all (λ row. nat_lt level (row_level types row)) below ≡ true
    → Above types level (higher types level top) (path_after (row_level types) path below)
unfolding higher
above_after types level top path [] a h = a
above_after types level top path (row ∷ below) a h =
    let p = and_parts (nat_lt level (row_level types row)) (list_all (λ r. nat_lt level (row_level types r)) below) h in
    let lt : level < row_level types row = ltb-true level (row_level types row) p.0 in
    let lv = row_level types row in
    above_after types level top (path_with (row_level types) path row) below
    (record {
      more = higher types lv a.more ++ row ∷ [];
      is = ap (λ rs. higher types lv rs ++ row ∷ []) a.is
          ∙ ap (λ rs. rs ++ row ∷ []) (filter-append (λ r. nat_lt (row_level types r) lv) (higher types level top) a.more ∙ ap (λ rs. rs ++ higher types lv a.more) (filter_keeps types level lv top lt))
          ∙ append_assoc (higher types level top) (higher types lv a.more) (row ∷ []);
      deep = all_one (λ r. not (nat_lt (row_level types r) level)) (higher types lv a.more) row (filter_deep types level lv a.more a.deep) (ap not (le-ltb (row_level types row) level (omega (arith, lt))));
    }) p.1

pass_over : (types : List SegType) (path : List Row) (row : Row) (below rest : List Row) → list_all (λ r. nat_lt (row_level types row) (row_level types r)) below ≡ true
    → ((r : Row) (more : List Row) → rest ≡ r ∷ more → nat_lt (row_level types row) (row_level types r) ≡ false)
    → with_paths (row_level types) (path_after (row_level types) (path_with (row_level types) path row) below) rest ≡ with_paths (row_level types) path rest
unfolding higher
pass_over types path row below [] h stop = refl
pass_over types path row below (r ∷ rest) h stop =
    ap (λ p. (p, r) ∷ with_paths (row_level types) p rest)
    (ap (λ rs. rs ++ r ∷ [])
    (ap (λ rs. higher types (row_level types r) rs) a.is
    ∙ filter-append (λ x. nat_lt (row_level types x) (row_level types r)) (higher types level path) a.more
    ∙ ap (λ rs. higher types (row_level types r) (higher types level path) ++ rs) (filter_none types level (row_level types r) a.more le a.deep)
    ∙ append-nil (higher types (row_level types r) (higher types level path))
    ∙ filter_twice types level (row_level types r) path le))
  where
    level : ℕ
    level = row_level types row

    le : row_level types r ≤ level
    le = ltb-false level (row_level types r) (stop r rest refl)

    a : Above types level (higher types level path) (path_after (row_level types) (path_with (row_level types) path row) below)
    a = above_after types level path (path_with (row_level types) path row) below
        (record { more = row ∷ []; is = refl; deep = and_from (not (nat_lt (row_level types row) level)) true (ap not (le-ltb (row_level types row) level (omega arith))) refl }) h

-- ---- the paths of two lists, of which one has a part more

pub record PathParts (types : List SegType) (path large small : List Row) : Type 0 where
  pub front : List OnPath
  pub part : List OnPath
  pub back : List OnPath
  pub large_is : with_paths (row_level types) path large ≡ front ++ (part ++ back)
  pub small_is : with_paths (row_level types) path small ≡ front ++ back

pub cut_parts : (types : List SegType) (name : Ilk) (path rows : List Row) → PathParts types path rows (without_span types rows name)
cut_parts types name path [] = record { front = []; part = []; back = []; large_is = refl; small_is = refl }
cut_parts types name path (row ∷ rows) = by (same_name row.name name) (cut_parts types name (path_with (row_level types) path row) rows)
  where
    next : List Row
    next = path_with (row_level types) path row

    left : List Row
    left = drop (prefix_len (is_deeper types row) rows) rows

    by : (b : Bool) → PathParts types next rows (without_span types rows name) → PathParts types path (row ∷ rows) (cond b left (row ∷ without_span types rows name))
    by true r =
        let d = deeper_of types (row_level types row) rows in
        record {
          front = [];
          part = (next, row) ∷ with_paths (row_level types) next d.below;
          back = with_paths (row_level types) path d.rest;
          large_is = ap (λ ps. (next, row) ∷ ps)
              (ap (λ rs. with_paths (row_level types) next rs) d.is ∙ append_paths types next d.below d.rest
              ∙ ap (λ ps. with_paths (row_level types) next d.below ++ ps) (pass_over types path row d.below d.rest d.deep d.stop));
          small_is = ap (λ rs. with_paths (row_level types) path rs) d.dropped;
        }
    by false r = record {
      front = (next, row) ∷ r.front;
      part = r.part;
      back = r.back;
      large_is = ap (λ ps. (next, row) ∷ ps) r.large_is;
      small_is = ap (λ ps. (next, row) ∷ ps) r.small_is;
    }

pub insert_parts : (schema : Schema) (rows : List Row) (new : Row) → PathParts schema.types [] (inserted schema rows new) rows
insert_parts schema rows new =
    let types = schema.types in
    let n = insertion_place schema rows new in
    let after = through_last (stands_before schema new) rows in
    let d = deeper_of types (row_level types new) (drop after rows) in
    let path = path_after (row_level types) [] (take n rows) in
    let rest : drop n rows ≡ d.rest = sym (dropped after (prefix_len (λ row. nat_lt (row_level types new) (row_level types row)) (drop after rows))) ∙ d.dropped in
    let same = append_paths types [] (take n rows) (drop n rows) in
    record {
      front = with_paths (row_level types) [] (take n rows);
      part = (path_with (row_level types) path new, new) ∷ [];
      back = with_paths (row_level types) path (drop n rows);
      large_is = append_paths types [] (take n rows) (new ∷ drop n rows)
          ∙ ap (λ ps. with_paths (row_level types) [] (take n rows) ++ (path_with (row_level types) path new, new) ∷ ps)
          (pass_over types path new [] (drop n rows) refl (λ r more e. d.stop r more (sym rest ∙ e)));
      small_is = ap (λ rs. with_paths (row_level types) [] rs) (sym (take-append-drop n rows)) ∙ same;
    }
  where
    dropped : (after more : ℕ) → drop more (drop after rows) ≡ drop (after + more) rows
    dropped after more = drop-drop more after rows

-- a new row stands with its path between the rows before its place and those behind
pub insert_path : (schema : Schema) (rows : List Row) (new : Row)
    → (let n = insertion_place schema rows new in let path = path_after (row_level schema.types) [] (take n rows) in let next = path_with (row_level schema.types) path new in
    with_paths (row_level schema.types) [] (inserted schema rows new) ≡ with_paths (row_level schema.types) [] (take n rows) ++ (next, new) ∷ with_paths (row_level schema.types) next (drop n rows))
insert_path schema rows new = append_paths schema.types [] (take (insertion_place schema rows new) rows) (new ∷ drop (insertion_place schema rows new) rows)
