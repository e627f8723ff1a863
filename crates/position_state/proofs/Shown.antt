-- The plain view of a list: by what names its elements are known, and what the deletion of a row takes out of it.
use Rattle.std.proofs.Common.{◌≡◌, ℕ, suc, ◌+◌, ◌<◌, ◌≤◌, Bool, true, false, not, cond, ◌&&◌, ◌||◌, List, [], ◌∷◌, ◌++◌, map, drop, None, Some, refl, sym, ap, subst, ◌∙◌, arith}
use Rattle.std.specs.Prelude.{nat_lt, filter, is_none}
use Rattle.std.specs.List.{list_all, list_any, prefix_len}
use Rattle.std.specs.Str.{bytes_eq}
use Rattle.std.proofs.lemmas.Bool.{true≢false, and_parts, and_from, or_from, not-true, lt-ltb, ltb-true, false_from_ne_true}
use Rattle.std.proofs.lemmas.Slice.Eq.{bytes_eq-Decides}
use Rattle.hal_base.specs.declared.place.Ilk.{Ilk}
use Rattle.hal_schema.specs.declared.row.Row.{Row}
use Rattle.hal_schema.specs.declared.schema.SegType.{SegType}
use Rattle.hal_schema.specs.Row.{same_name, row_named, is_new_name, row_level, row_key}
use Rattle.hal_schema.specs.Paths.{path_with, with_paths}
use Rattle.hal_schema.specs.Span.{without_span}
use Rattle.hal_schema.specs.Forest.{all_pairs, names_apart}
use Rattle.hal_schema.proofs.RowNames.{name_is, name_from}
use Rattle.position_state.specs.declared.session.Anchor.TheVariants.{At}
use Rattle.position_state.specs.declared.spot.Spot.{Spot}
use Rattle.position_state.specs.View.{root_key_of, plain_element, is_at, root_named}
use Rattle.position_state.proofs.Cuts.{whole, stops}
use Rattle.position_state.proofs.Apart.{apart}

-- ---- names

pub name_sym : (a b : Ilk) → same_name a b ≡ same_name b a
name_sym a b = by (same_name a b) refl
  where
    by : (c : Bool) → same_name a b ≡ c → c ≡ same_name b a
    by true h = sym (name_from b a (sym (name_is a b h)))
    by false h = sym (false_from_ne_true (same_name b a) (λ t. true≢false (sym (name_from a b (sym (name_is b a t))) ∙ h)))

pub and_true : (b : Bool) → (b && true) ≡ b
and_true true = refl
and_true false = refl

-- the elements of rows, behind a path
abbrev pub shown : List SegType → List Row → List Row → List Spot
shown types path rows = map (λ p. plain_element types p.0 p.1) (with_paths (row_level types) path rows)

at_row : (other : Ilk) (root : List ℕ) (types : List SegType) (path : List Row) (row : Row) → is_at (At other root None) (plain_element types path row) ≡ same_name other row.name
at_row other root types path row = and_true (same_name other row.name)

-- an element of a name is there exactly where a row of it is
pub any_at : (types : List SegType) (other : Ilk) (root : List ℕ) (path rows : List Row) → list_any (is_at (At other root None)) (shown types path rows) ≡ list_any (λ row. same_name other row.name) rows
any_at types other root path [] = refl
any_at types other root path (row ∷ rows) =
    let next : List Row = path_with (row_level types) path row in
    ap (λ b. b || list_any (is_at (At other root None)) (shown types next rows)) (at_row other root types next row)
    ∙ ap (λ b. same_name other row.name || b) (any_at types other root next rows)

pub any_named : (rows : List Row) (name : Ilk) → is_new_name rows name ≡ not (list_any (λ row. same_name name row.name) rows)
any_named [] name = refl
any_named (row ∷ rows) name =
    by (same_name row.name name) (any_named rows name) ∙ ap (λ b. not (b || list_any (λ r. same_name name r.name) rows)) (name_sym row.name name)
  where
    by : (b : Bool) → is_new_name rows name ≡ not (list_any (λ r. same_name name r.name) rows)
        → is_none (cond b (Some row) (row_named rows name)) ≡ not (b || list_any (λ r. same_name name r.name) rows)
    by true rest = refl
    by false rest = rest

pub any_new : (types : List SegType) (name : Ilk) (root : List ℕ) (path rows : List Row) → is_new_name rows name ≡ not (list_any (is_at (At name root None)) (shown types path rows))
any_new types name root path rows = any_named rows name ∙ ap not (sym (any_at types name root path rows))

each_apart : (types : List SegType) (above : List Row) (one : Row) (path rows : List Row) → list_all (names_apart one) rows ≡ true
    → list_all (apart (plain_element types above one)) (shown types path rows) ≡ true
each_apart types above one path [] h = refl
each_apart types above one path (row ∷ rows) h =
    let a = and_parts (names_apart one row) (list_all (names_apart one) rows) h in
    let next : List Row = path_with (row_level types) path row in
    let e = not-true (same_name one.name row.name) a.0 in
    and_from (apart (plain_element types above one) (plain_element types next row)) (list_all (apart (plain_element types above one)) (shown types next rows))
    (and_from (not (is_at (At one.name (root_key_of types above) None) (plain_element types next row))) (not (is_at (At row.name (root_key_of types next) None) (plain_element types above one)))
    (ap not (at_row one.name (root_key_of types above) types next row ∙ e))
    (ap not (at_row row.name (root_key_of types next) types above one ∙ name_sym row.name one.name ∙ e)))
    (each_apart types above one next rows a.1)

pub shown_apart : (types : List SegType) (path rows : List Row) → all_pairs names_apart rows ≡ true → all_pairs apart (shown types path rows) ≡ true
shown_apart types path [] h = refl
shown_apart types path (row ∷ rows) h =
    let a = and_parts (list_all (names_apart row) rows) (all_pairs names_apart rows) h in
    let next : List Row = path_with (row_level types) path row in
    and_from (list_all (apart (plain_element types next row)) (shown types next rows)) (all_pairs apart (shown types next rows))
    (each_apart types next row next rows a.0) (shown_apart types next rows a.1)

-- ---- the deeper rows behind one

-- a path that begins with a row of at most this level
record Head (types : List SegType) (level : ℕ) (path : List Row) : Type 0 where
  root : Row
  more : List Row
  is : path ≡ root ∷ more
  high : row_level types root ≤ level

head_of : (types : List SegType) (path : List Row) (row : Row) → Head types (row_level types row) (path_with (row_level types) path row)
head_of types [] row = record { root = row; more = []; is = refl; high = omega arith }
head_of types (above ∷ path) row = by (nat_lt (row_level types above) (row_level types row)) refl (head_of types path row)
  where
    kept : List Row
    kept = filter (λ r. nat_lt (row_level types r) (row_level types row)) path

    by : (b : Bool) → nat_lt (row_level types above) (row_level types row) ≡ b → Head types (row_level types row) (kept ++ row ∷ [])
        → Head types (row_level types row) (cond b (above ∷ kept) kept ++ row ∷ [])
    by true e rest = record { root = above; more = kept ++ row ∷ []; is = refl; high = omega (arith, ltb-true (row_level types above) (row_level types row) e) }
    by false e rest = rest

-- the elements of rows behind a row: those that are deeper, and the rest
record Below (types : List SegType) (level : ℕ) (root : List ℕ) (path rows : List Row) : Type 0 where
  below : List Spot
  rest : List Spot
  is : shown types path rows ≡ below ++ rest
  deep : list_all (λ x. nat_lt level x.level) below ≡ true
  stop : stops level rest ≡ true
  roots : list_all (λ x. bytes_eq (root_named x.at) root) below ≡ true
  left : (other : Ilk) (named : List ℕ)
      → list_any (is_at (At other named None)) rest ≡ list_any (λ row. same_name other row.name) (drop (prefix_len (λ row. nat_lt level (row_level types row)) rows) rows)

drop_one : (n : ℕ) (row : Row) (rows : List Row) → drop (1 + n) (row ∷ rows) ≡ drop n rows
drop_one n row rows = let e : 1 + n ≡ suc n = omega arith in ap (λ k. drop k (row ∷ rows)) e

below_of : (types : List SegType) (level : ℕ) (root : Row) (more rows : List Row) → row_level types root ≤ level → Below types level (row_key types root) (root ∷ more) rows
below_of types level root more [] le = record { below = []; rest = []; is = refl; deep = refl; stop = refl; roots = refl; left = λ other named. refl }
below_of types level root more (row ∷ rows) le = by (nat_lt level (row_level types row)) refl (λ others. below_of types level root others rows le)
  where
    next : List Row
    next = path_with (row_level types) (root ∷ more) row

    kept : List Row
    kept = filter (λ r. nat_lt (row_level types r) (row_level types row)) more

    deeper : Row → Bool
    deeper r = nat_lt level (row_level types r)

    by : (b : Bool) → deeper row ≡ b → ((others : List Row) → Below types level (row_key types root) (root ∷ others) rows)
        → Below types level (row_key types root) (root ∷ more) (row ∷ rows)
    by true e behind =
        let lt : row_level types root < row_level types row = omega (arith, ltb-true level (row_level types row) e, le) in
        let same : next ≡ root ∷ (kept ++ row ∷ []) = ap (λ b. cond b (root ∷ kept) kept ++ row ∷ []) (lt-ltb (row_level types root) (row_level types row) lt) in
        let rest = behind (kept ++ row ∷ []) in
        record {
          below = plain_element types next row ∷ rest.below;
          rest = rest.rest;
          is = ap (λ p. plain_element types next row ∷ shown types p rows) same ∙ ap (λ xs. plain_element types next row ∷ xs) rest.is;
          deep = and_from (deeper row) (list_all (λ x. nat_lt level x.level) rest.below) e rest.deep;
          stop = rest.stop;
          roots = and_from (bytes_eq (root_key_of types next) (row_key types root)) (list_all (λ x. bytes_eq (root_named x.at) (row_key types root)) rest.below)
              ((bytes_eq-Decides (root_key_of types next) (row_key types root)).1 (ap (root_key_of types) same)) rest.roots;
          left = λ other named. rest.left other named
              ∙ ap (λ rs. list_any (λ r. same_name other r.name) rs) (sym (drop_one (prefix_len deeper rows) row rows))
              ∙ ap (λ b. list_any (λ r. same_name other r.name) (drop (cond b (1 + prefix_len deeper rows) 0) (row ∷ rows))) (sym e);
        }
    by false e behind = record {
      below = [];
      rest = shown types (root ∷ more) (row ∷ rows);
      is = refl;
      deep = refl;
      stop = ap not e;
      roots = refl;
      left = λ other named. any_at types other named (root ∷ more) (row ∷ rows)
          ∙ ap (λ b. list_any (λ r. same_name other r.name) (drop (cond b (1 + prefix_len deeper rows) 0) (row ∷ rows))) (sym e);
    }

-- ---- what a deletion takes out of a view

pub record CutOut (types : List SegType) (path rows : List Row) (name : Ilk) : Type 0 where
  pub front : List Spot
  pub d : Spot
  pub below : List Spot
  pub rest : List Spot
  pub root : List ℕ
  pub is : shown types path rows ≡ whole front d below rest
  pub at : d.at ≡ At name root None
  pub first : list_any (is_at (At name root None)) front ≡ false
  pub deep : list_all (λ x. nat_lt d.level x.level) below ≡ true
  pub stop : stops d.level rest ≡ true
  pub roots : list_all (λ x. bytes_eq (root_named x.at) root) below ≡ true
  pub left : (other : Ilk) (named : List ℕ) → list_any (is_at (At other named None)) (front ++ rest) ≡ list_any (λ row. same_name other row.name) (without_span types rows name)

pub cut_out : (types : List SegType) (name : Ilk) (path rows : List Row) → is_new_name rows name ≡ false → CutOut types path rows name
cut_out types name path [] h = absurd (true≢false h)
cut_out types name path (row ∷ rows) h = by (same_name row.name name) refl h (cut_out types name next rows)
  where
    next : List Row
    next = path_with (row_level types) path row

    by : (b : Bool) → same_name row.name name ≡ b → is_none (cond b (Some row) (row_named rows name)) ≡ false → (is_new_name rows name ≡ false → CutOut types next rows name)
        → CutOut types path (row ∷ rows) name
    by true e h rest =
        let head = head_of types path row in
        let b = below_of types (row_level types row) head.root head.more rows head.high in
        let key : row_key types head.root ≡ root_key_of types next = sym (ap (root_key_of types) head.is) in
        record {
          front = [];
          d = plain_element types next row;
          below = b.below;
          rest = b.rest;
          root = root_key_of types next;
          is = ap (λ p. plain_element types next row ∷ shown types p rows) head.is ∙ ap (λ xs. plain_element types next row ∷ xs) b.is;
          at = ap (λ n. At n (root_key_of types next) None) (name_is row.name name e);
          first = refl;
          deep = b.deep;
          stop = b.stop;
          roots = subst (λ (k : List ℕ). list_all (λ x. bytes_eq (root_named x.at) k) b.below ≡ true) key b.roots;
          left = λ other named. b.left other named
              ∙ ap (λ c. list_any (λ r. same_name other r.name) (cond c (drop (prefix_len (λ r. nat_lt (row_level types row) (row_level types r)) rows) rows) (row ∷ without_span types rows name))) (sym e);
        }
    by false e h rest =
        let r = rest h in
        record {
          front = plain_element types next row ∷ r.front;
          d = r.d;
          below = r.below;
          rest = r.rest;
          root = r.root;
          is = ap (λ xs. plain_element types next row ∷ xs) r.is;
          at = r.at;
          first = or_from (is_at (At name r.root None) (plain_element types next row)) (list_any (is_at (At name r.root None)) r.front)
              (at_row name r.root types next row ∙ name_sym name row.name ∙ e) r.first;
          deep = r.deep;
          stop = r.stop;
          roots = r.roots;
          left = λ other named. ap (λ b. b || list_any (is_at (At other named None)) (r.front ++ r.rest)) (at_row other named types next row)
              ∙ ap (λ b. same_name other row.name || b) (r.left other named)
              ∙ ap (λ c. list_any (λ x. same_name other x.name) (cond c (drop (prefix_len (λ x. nat_lt (row_level types row) (row_level types x)) rows) rows) (row ∷ without_span types rows name))) (sym e);
        }
