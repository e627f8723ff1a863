-- What a deletion leaves of places in the plain view of a forest.
use Rattle.std.proofs.Common.{◌==◌, length, ◌≡◌, ℕ, zero, suc, ◌<◌, ◌≤◌, Bool, true, false, not, cond, ◌&&◌, ◌||◌, List, [], ◌∷◌, ◌++◌, Option, None, Some, refl, sym, ap, subst, ◌∙◌, arith}
use Rattle.std.specs.Prelude.{nat_lt, filter, find, is_none, IfSome}
use Rattle.std.specs.List.{list_all, list_any, last_or, AllByRecursion}
use Rattle.std.specs.Option.{option_map_or}
use Rattle.std.specs.Str.{bytes_eq}
use Rattle.std.proofs.lemmas.Bool.{true≢false, and_parts, and_from, or_right, not-true, le-ltb, lt-ltb, ltb-true}
use Rattle.std.proofs.lemmas.List.{append-nil}
use Rattle.std.proofs.lemmas.Slice.Eq.{bytes_eq-Decides}
use Rattle.hal_base.specs.declared.place.Ilk.{Ilk}
use Rattle.hal_schema.specs.declared.row.Row.{Row}
use Rattle.hal_schema.specs.declared.schema.Schema.{Schema}
use Rattle.hal_schema.specs.declared.schema.SegType.{SegType}
use Rattle.hal_schema.specs.SegType.{type_of, level_of}
use Rattle.hal_schema.specs.Row.{same_name, row_named, row_level, is_new_name}
use Rattle.hal_schema.specs.Paths.{path_with, paths_of, with_paths}
use Rattle.hal_schema.specs.Span.{without_span}
use Rattle.hal_schema.specs.Forest.{all_pairs, has_length, names_apart, rows_are_named, rows_are_below_parents, types_rise, twins_rise, keys_are_placed, is_forest, is_path}
use Rattle.hal_schema.proofs.RowNames.{name_is, name_itself}
use Rattle.position_state.specs.declared.session.Anchor.{Anchor}
use Rattle.position_state.specs.declared.session.Anchor.TheVariants.{Front, At}
use Rattle.position_state.specs.declared.spot.Spot.{Spot}
use Rattle.position_state.specs.View.{root_key_of, plain_element, same_place, is_at, before, all_before, all_up_to, root_named, is_place_of}
use Rattle.position_state.specs.Looks.{above, last_before}
use Rattle.position_state.specs.Keep.{kept_anchor}
use Rattle.position_state.specs.AfterChange.{is_gone, is_row_at}
use Rattle.position_state.proofs.KeepLaws.{found_any, place_found, last_passes, last_kept}
use Rattle.position_state.proofs.Cuts.{before_all, before_behind, up_to_in, up_to_behind, all_found, last_in_two, none_pass, whole, is_left, Region, region, Parts, is_stay, up_from, climbed}
use Rattle.position_state.proofs.Cuts.Region.{InFront, IsIt, InBelow, InRest}
use Rattle.position_state.proofs.Apart.{apart, parts_gone, parts_left, last_is_found}
use Rattle.position_state.proofs.Shown.{name_sym, and_true, shown, any_at, any_named, shown_apart, CutOut, cut_out}

-- ---- what a forest has

pub forest_names : (schema : Schema) (rows : List Row) → is_forest schema rows ≡ true → (all_pairs names_apart rows ≡ true) × (list_all (has_length schema.types) rows ≡ true)
forest_names schema rows h =
    let named : Bool = rows_are_named schema.types rows in
    let below : Bool = rows_are_below_parents schema.types rows in
    let a = and_parts (named && below && types_rise rows && twins_rise schema rows) (keys_are_placed schema rows) h in
    let b = and_parts (named && below && types_rise rows) (twins_rise schema rows) a.0 in
    let c = and_parts (named && below) (types_rise rows) b.0 in
    let d = and_parts named below c.0 in
    and_parts (all_pairs names_apart rows) (list_all (has_length schema.types) rows) d.0

-- each path of a forest is one by parents
pub forest_paths : (schema : Schema) (rows : List Row) → is_forest schema rows ≡ true → list_all (λ p. is_path schema.types None p.0) (paths_of schema.types rows) ≡ true
forest_paths schema rows h =
    let named : Bool = rows_are_named schema.types rows in
    let below : Bool = rows_are_below_parents schema.types rows in
    let a = and_parts (named && below && types_rise rows && twins_rise schema rows) (keys_are_placed schema rows) h in
    let b = and_parts (named && below && types_rise rows) (twins_rise schema rows) a.0 in
    let c = and_parts (named && below) (types_rise rows) b.0 in
    (and_parts named below c.0).1

-- a row of a type stands on some level
pub level_of_row : (types : List SegType) (row : Row) → has_length types row ≡ true → 0 < row_level types row
level_of_row types row h = by row.code h
  where
    by : (code : ℕ) → option_map_or (λ (t : SegType). length row.content == t.bytes) (type_of types code) false ≡ true → 0 < level_of types code
    by zero h = absurd (true≢false (sym h))
    by (suc place) h = omega arith

pub shown_high : (types : List SegType) (path rows : List Row) → list_all (has_length types) rows ≡ true → list_all (λ x. nat_lt 0 x.level) (shown types path rows) ≡ true
shown_high types path [] h = refl
shown_high types path (row ∷ rows) h =
    let a = and_parts (has_length types row) (list_all (has_length types) rows) h in
    let next : List Row = path_with (row_level types) path row in
    and_from (nat_lt 0 (row_level types row)) (list_all (λ x. nat_lt 0 x.level) (shown types next rows))
    (lt-ltb 0 (row_level types row) (level_of_row types row a.0)) (shown_high types next rows a.1)

-- ---- what is found in the plain view

pub record IsPlain (s : Spot) : Type 0 where
  pub name : Ilk
  pub root : List ℕ
  pub is : s.at ≡ At name root None

pub found_plain : (types : List SegType) (p : Spot → Bool) (path rows : List Row) (s : Spot) → find p (shown types path rows) ≡ Some s → IsPlain s
found_plain types p path [] s f = absurd (true≢false (ap is_none f))
found_plain types p path (row ∷ rows) s f = by (p (plain_element types next row)) (found_plain types p next rows s) f
  where
    next : List Row
    next = path_with (row_level types) path row

    by : (b : Bool) → (find p (shown types next rows) ≡ Some s → IsPlain s) → cond b (Some (plain_element types next row)) (find p (shown types next rows)) ≡ Some s → IsPlain s
    by true rest e = record { name = row.name; root = root_key_of types next; is = sym (ap (λ o. option_map_or (λ (y : Spot). y.at) o Front) e) }
    by false rest e = rest e

-- the level that a look shows is that of the row of the name
pub found_level : (types : List SegType) (name : Ilk) (root : List ℕ) (path rows : List Row) (s : Spot) → find (is_at (At name root None)) (shown types path rows) ≡ Some s
    → option_map_or (row_level types) (row_named rows name) 0 ≡ s.level
found_level types name root path [] s f = absurd (true≢false (ap is_none f))
found_level types name root path (row ∷ rows) s f =
    ap (λ b. option_map_or (row_level types) (cond b (Some row) (row_named rows name)) 0) (name_sym row.name name)
    ∙ by (same_name name row.name) (found_level types name root next rows s)
    (ap (λ b. cond b (Some (plain_element types next row)) (find (is_at (At name root None)) (shown types next rows))) (sym (and_true (same_name name row.name))) ∙ f)
  where
    next : List Row
    next = path_with (row_level types) path row

    by : (b : Bool) → (find (is_at (At name root None)) (shown types next rows) ≡ Some s → option_map_or (row_level types) (row_named rows name) 0 ≡ s.level)
        → cond b (Some (plain_element types next row)) (find (is_at (At name root None)) (shown types next rows)) ≡ Some s
        → option_map_or (row_level types) (cond b (Some row) (row_named rows name)) 0 ≡ s.level
    by true rest e = ap (λ o. option_map_or (λ (y : Spot). y.level) o 0) e
    by false rest e = rest e

-- a row under a root is found at its place
pub record FoundAt (view : List Spot) (name : Ilk) (root : List ℕ) : Type 0 where
  pub spot : Spot
  pub found : find (is_at (At name root None)) view ≡ Some spot
  pub at : At name root None ≡ spot.at

none_later : (types : List SegType) (name : Ilk) (root : List ℕ) (row : Row) (path rows : List Row) → same_name row.name name ≡ true → list_all (names_apart row) rows ≡ true
    → list_any (λ p. same_name p.1.name name && bytes_eq (root_key_of types p.0) root) (with_paths (row_level types) path rows) ≡ false
none_later types name root row path [] e h = refl
none_later types name root row path (other ∷ rows) e h =
    let a = and_parts (names_apart row other) (list_all (names_apart row) rows) h in
    let next : List Row = path_with (row_level types) path other in
    let differs : same_name other.name name ≡ false = name_sym other.name name ∙ ap (λ n. same_name n other.name) (sym (name_is row.name name e)) ∙ not-true (same_name row.name other.name) a.0 in
    ap (λ b. b && bytes_eq (root_key_of types next) root || list_any (λ p. same_name p.1.name name && bytes_eq (root_key_of types p.0) root) (with_paths (row_level types) next rows)) differs
    ∙ none_later types name root row next rows e a.1

pub under_found : (types : List SegType) (name : Ilk) (root : List ℕ) (path rows : List Row) → all_pairs names_apart rows ≡ true
    → list_any (λ p. same_name p.1.name name && bytes_eq (root_key_of types p.0) root) (with_paths (row_level types) path rows) ≡ true → FoundAt (shown types path rows) name root
under_found types name root path [] h u = absurd (true≢false (sym u))
under_found types name root path (row ∷ rows) h u =
    let a = and_parts (list_all (names_apart row) rows) (all_pairs names_apart rows) h in
    by (same_name row.name name) refl a.0 (under_found types name root next rows a.1) u
  where
    next : List Row
    next = path_with (row_level types) path row

    later : Bool
    later = list_any (λ p. same_name p.1.name name && bytes_eq (root_key_of types p.0) root) (with_paths (row_level types) next rows)

    seen : (b : Bool) → same_name row.name name ≡ b → is_at (At name root None) (plain_element types next row) ≡ b
    seen b e = and_true (same_name name row.name) ∙ name_sym name row.name ∙ e

    one : same_name row.name name ≡ true → list_all (names_apart row) rows ≡ true → (c : Bool) → bytes_eq (root_key_of types next) root ≡ c → (c || later) ≡ true → FoundAt (shown types path (row ∷ rows)) name root
    one e h true k u = record {
      spot = plain_element types next row;
      found = ap (λ b. cond b (Some (plain_element types next row)) (find (is_at (At name root None)) (shown types next rows))) (seen true e);
      at = λ i. At (sym (name_is row.name name e) i) (sym ((bytes_eq-Decides (root_key_of types next) root).0 k) i) None;
    }
    one e h false k u = absurd (true≢false (sym u ∙ none_later types name root row next rows e h))

    by : (b : Bool) → same_name row.name name ≡ b → list_all (names_apart row) rows ≡ true → (later ≡ true → FoundAt (shown types next rows) name root)
        → (b && bytes_eq (root_key_of types next) root || later) ≡ true → FoundAt (shown types path (row ∷ rows)) name root
    by true e h rest u = one e h (bytes_eq (root_key_of types next) root) refl u
    by false e h rest u =
        let r = rest u in
        record { spot = r.spot; found = ap (λ b. cond b (Some (plain_element types next row)) (find (is_at (At name root None)) (shown types next rows))) (seen false e) ∙ r.found; at = r.at }

-- the front aside, an element's place has a row and no entry
pub place_plain : (types : List SegType) (rows : List Row) (name : Ilk) (root : List ℕ) (entry : Option (List ℕ)) → is_place_of (shown types [] rows) (At name root entry) ≡ true
    → (entry ≡ None) × FoundAt (shown types [] rows) name root
place_plain types rows name root entry h = by (place_found (shown types [] rows) name root entry h)
  where
    none_of : Anchor → Option (List ℕ)
    none_of Front = None
    none_of (At name root entry) = entry

    by : (s : Spot) × (find (is_at (At name root entry)) (shown types [] rows) ≡ Some s) × (At name root entry ≡ s.at) → (entry ≡ None) × FoundAt (shown types [] rows) name root
    by (s, f, e) =
        let p = found_plain types (is_at (At name root entry)) [] rows s f in
        let differs : entry ≡ None = ap none_of (e ∙ p.is) in (
          differs,
          record {
            spot = s;
            found = subst (λ (o : Option (List ℕ)). find (is_at (At name root o)) (shown types [] rows) ≡ Some s) differs f;
            at = subst (λ (o : Option (List ℕ)). At name root o ≡ s.at) differs e;
          },
        )

-- ---- the deletion of a row of a forest

pub record Deletion (types : List SegType) (rows : List Row) (name : Ilk) : Type 0 where
  pub c : CutOut types [] rows name
  pub parts : Parts c.front c.d c.below c.rest
  pub each : all_pairs apart (shown types [] rows) ≡ true
  pub high : list_all (λ x. nat_lt 0 x.level) (shown types [] rows) ≡ true
  pub names : all_pairs names_apart rows ≡ true

pub deletion : (schema : Schema) (rows : List Row) (name : Ilk) → is_forest schema rows ≡ true → is_new_name rows name ≡ false → Deletion schema.types rows name
deletion schema rows name h n =
    let f = forest_names schema rows h in
    let c = cut_out schema.types name [] rows n in
    let each = shown_apart schema.types [] rows f.0 in
    let left = parts_left c.front c.rest in
    record {
      c = c;
      parts = record {
        deep = c.deep;
        stop = c.stop;
        gone = parts_gone c.front c.below c.rest c.d (subst (λ (xs : List Spot). all_pairs apart xs ≡ true) c.is each);
        left_front = left.0;
        left_rest = left.1;
      };
      each = each;
      high = shown_high schema.types [] rows f.1;
      names = f.0;
    }

left_named : (types : List SegType) (rows : List Row) (name other : Ilk) (root : List ℕ) (x : Deletion types rows name)
    → is_new_name (without_span types rows name) other ≡ not (list_any (is_at (At other root None)) (x.c.front ++ x.c.rest))
left_named types rows name other root x = any_named (without_span types rows name) other ∙ ap not (sym (x.c.left other root))

-- an element is gone exactly where it isn't among those that stay
gone_is : (types : List SegType) (rows : List Row) (name : Ilk) (x : Deletion types rows name) (s : Spot) → IsPlain s
    → is_gone (without_span types rows name) s.at ≡ not (is_left x.c.front x.c.rest s)
gone_is types rows name x s p =
    subst (λ (a : Anchor). is_gone (without_span types rows name) a ≡ not (list_any (is_at a) (x.c.front ++ x.c.rest))) (sym p.is) (left_named types rows name p.name p.root x)

-- the deleted row is gone
pub name_gone : (types : List SegType) (rows : List Row) (name : Ilk) → Deletion types rows name → is_new_name (without_span types rows name) name ≡ true
name_gone types rows name x =
    left_named types rows name name x.c.root x
    ∙ subst (λ (a : Anchor). not (list_any (is_at a) (x.c.front ++ x.c.rest)) ≡ true) x.c.at
    (and_parts (not (is_left x.c.front x.c.rest x.c.d)) (list_all (λ y. not (is_left x.c.front x.c.rest y)) x.c.below) x.parts.gone).0

region_of : (types : List SegType) (rows : List Row) (name : Ilk) (x : Deletion types rows name) (s : Spot) → find (is_at s.at) (shown types [] rows) ≡ Some s → Region x.c.front x.c.d x.c.below x.c.rest s
region_of types rows name x s f =
    region x.c.front x.c.below x.c.rest x.c.d s (subst (λ (xs : List Spot). find (is_at s.at) xs ≡ Some s) x.c.is f)

not_it : (types : List SegType) (rows : List Row) (name : Ilk) (x : Deletion types rows name) (s : Spot) → IsPlain s → (b : Bool) → is_row_at name s.at ≡ b → is_at s.at x.c.d ≡ b
not_it types rows name x s p b h =
    ap (λ a. is_at a x.c.d) p.is ∙ ap (λ a. same_place (At p.name p.root None) a) x.c.at
    ∙ and_true (same_name p.name name) ∙ name_sym p.name name ∙ sym (ap (is_row_at name) p.is) ∙ h

-- ---- up the path

before_is : (view : List Spot) (s : Spot) → IsPlain s → above s view ≡ up_from s view
before_is view s p = ap (λ xs. last_or None (filter (λ (x : Spot). nat_lt x.level s.level) xs)) (subst (λ (a : Anchor). before a view ≡ all_before a view) (sym p.is) refl)

above_left : (types : List SegType) (rows : List Row) (name : Ilk) (x : Deletion types rows name) (s : Spot) → find (is_at s.at) (shown types [] rows) ≡ Some s → IsPlain s → is_row_at name s.at ≡ false
    → option_map_or (is_left x.c.front x.c.rest) (above s (shown types [] rows)) true ≡ is_left x.c.front x.c.rest s
above_left types rows name x s f p differs =
    ap (λ o. option_map_or (is_left x.c.front x.c.rest) o true) (before_is (shown types [] rows) s p ∙ ap (λ xs. up_from s xs) x.c.is)
    ∙ climbed x.c.front x.c.below x.c.rest x.c.d s x.parts (region_of types rows name x s f) (not_it types rows name x s p false differs)

-- where nothing is above an element that isn't the deleted row's, it stays
pub none_above : (types : List SegType) (rows : List Row) (name : Ilk) (x : Deletion types rows name) (s : Spot) → find (is_at s.at) (shown types [] rows) ≡ Some s → is_row_at name s.at ≡ false
    → above s (shown types [] rows) ≡ None → is_gone (without_span types rows name) s.at ≡ false
none_above types rows name x s f differs e =
    let p = found_plain types (is_at s.at) [] rows s f in
    gone_is types rows name x s p ∙ ap not (sym (above_left types rows name x s f p differs) ∙ ap (λ o. option_map_or (is_left x.c.front x.c.rest) o true) e)

-- the element above goes exactly where this one goes, is found, and stands higher
pub record StepsUp (types : List SegType) (rows : List Row) (name : Ilk) (s up : Spot) : Type 0 where
  pub found : find (is_at up.at) (shown types [] rows) ≡ Some up
  pub same : is_gone (without_span types rows name) up.at ≡ is_gone (without_span types rows name) s.at
  pub higher : up.level < s.level

pub one_above : (types : List SegType) (rows : List Row) (name : Ilk) (x : Deletion types rows name) (s up : Spot) → find (is_at s.at) (shown types [] rows) ≡ Some s → is_row_at name s.at ≡ false
    → above s (shown types [] rows) ≡ Some up → StepsUp types rows name s up
one_above types rows name x s up f differs e =
    let view : List Spot = shown types [] rows in
    let low : Spot → Bool = λ y. nat_lt y.level s.level in
    let p = found_plain types (is_at s.at) [] rows s f in
    let up_is : up_from s view ≡ Some up = sym (before_is view s p) ∙ e in
    let found : find (is_at up.at) view ≡ Some up = subst (λ (o : Option Spot). IfSome o (λ u. find (is_at u.at) view ≡ Some u)) up_is (last_is_found view low s.at x.each) in
    record {
      found = found;
      same = gone_is types rows name x up (found_plain types (is_at up.at) [] rows up found)
          ∙ ap not (sym (ap (λ o. option_map_or (is_left x.c.front x.c.rest) o true) e) ∙ above_left types rows name x s f p differs)
          ∙ sym (gone_is types rows name x s p);
      higher = ltb-true up.level s.level (subst (λ (o : Option Spot). option_map_or low o true ≡ true) up_is (last_passes low (all_before s.at view) None refl));
    }

-- an element of the highest level stays, where it isn't the deleted row's
none_higher : (n : ℕ) (xs : List Spot) → n ≤ 1 → list_all (λ x. nat_lt 0 x.level) xs ≡ true → list_all (λ x. not (nat_lt x.level n)) xs ≡ true
none_higher n [] le h = refl
none_higher n (x ∷ xs) le h =
    let a = and_parts (nat_lt 0 x.level) (list_all (λ y. nat_lt 0 y.level) xs) h in
    let up : n ≤ x.level = omega (arith, ltb-true 0 x.level a.0, le) in
    and_from (not (nat_lt x.level n)) (list_all (λ y. not (nat_lt y.level n)) xs) (ap not (le-ltb x.level n up)) (none_higher n xs le a.1)

pub at_highest : (types : List SegType) (rows : List Row) (name : Ilk) (x : Deletion types rows name) (s : Spot) → find (is_at s.at) (shown types [] rows) ≡ Some s → is_row_at name s.at ≡ false
    → s.level ≤ 1 → is_gone (without_span types rows name) s.at ≡ false
at_highest types rows name x s f differs le =
    let view : List Spot = shown types [] rows in
    none_above types rows name x s f differs
    (before_is view s (found_plain types (is_at s.at) [] rows s f)
    ∙ ap (λ xs. last_or None xs) (none_pass (λ y. nat_lt y.level s.level) (all_before s.at view) (none_higher s.level (all_before s.at view) le (before_all (λ y. nat_lt 0 y.level) s.at view x.high))))

-- ---- under which root

any_root : (name : Ilk) (one other : List ℕ) (xs : List Spot) → list_any (is_at (At name one None)) xs ≡ list_any (is_at (At name other None)) xs
any_root name one other [] = refl
any_root name one other (x ∷ xs) =
    ap (λ b. b || list_any (is_at (At name one None)) xs) (by x.at) ∙ ap (λ b. is_at (At name other None) x || b) (any_root name one other xs)
  where
    by : (a : Anchor) → same_place (At name one None) a ≡ same_place (At name other None) a
    by Front = refl
    by (At n r e) = refl

-- the deleted row stands under the root that a deletion names
pub root_is : (types : List SegType) (rows : List Row) (name : Ilk) (root : List ℕ) (x : Deletion types rows name) → FoundAt (shown types [] rows) name root → root ≡ x.c.root
root_is types rows name root x t = by (region_of types rows name x t.spot (subst (λ (a : Anchor). find (is_at a) (shown types [] rows) ≡ Some t.spot) t.at t.found))
  where
    root_of : Anchor → List ℕ
    root_of Front = []
    root_of (At n r e) = r

    is_it : is_at t.spot.at x.c.d ≡ true
    is_it = ap (λ a. is_at a x.c.d) (sym t.at) ∙ ap (λ a. same_place (At name root None) a) x.c.at ∙ and_true (same_name name name) ∙ name_itself name

    by : Region x.c.front x.c.d x.c.below x.c.rest t.spot → root ≡ x.c.root
    by (InFront a) =
        absurd (true≢false (sym a ∙ ap (λ p. list_any (is_at p) x.c.front) (sym t.at) ∙ any_root name root x.c.root x.c.front ∙ x.c.first))
    by (IsIt a b e) = ap root_of (t.at ∙ ap (λ (s : Spot). s.at) e ∙ x.c.at)
    by (InBelow a b f) = absurd (true≢false (sym is_it ∙ b))
    by (InRest a b c f) = absurd (true≢false (sym is_it ∙ b))

-- a row under another root stays
pub far_stays : (types : List SegType) (rows : List Row) (name other : Ilk) (root key : List ℕ) → Deletion types rows name
    → FoundAt (shown types [] rows) name root → FoundAt (shown types [] rows) other key → (key ≡ root → ⊥) → is_new_name (without_span types rows name) other ≡ false
far_stays types rows name other root key x t s differs =
    left_named types rows name other key x ∙ ap (λ a. not (list_any (is_at a) (x.c.front ++ x.c.rest))) s.at
    ∙ ap not (by (region_of types rows name x s.spot (subst (λ (a : Anchor). find (is_at a) (shown types [] rows) ≡ Some s.spot) s.at s.found)))
  where
    same : root ≡ x.c.root
    same = root_is types rows name root x t

    by : Region x.c.front x.c.d x.c.below x.c.rest s.spot → is_left x.c.front x.c.rest s.spot ≡ true
    by (InFront a) = is_stay x.c.front x.c.below x.c.rest x.c.d s.spot x.parts (InFront a)
    by (IsIt a b e) = absurd (differs (ap root_named (s.at ∙ ap (λ (y : Spot). y.at) e ∙ x.c.at) ∙ sym same))
    by (InBelow a b f) =
        absurd (differs (ap root_named s.at ∙ (bytes_eq-Decides (root_named s.spot.at) x.c.root).0 (all_found (is_at s.spot.at) (λ y. bytes_eq (root_named y.at) x.c.root) x.c.below s.spot x.c.roots f) ∙ sym same))
    by (InRest a b c f) = is_stay x.c.front x.c.below x.c.rest x.c.d s.spot x.parts (InRest a b c f)

-- ---- the position

-- a place whose row is in a list of other rows stays
pub anchor_stays : (types : List SegType) (rows new : List Row) (at : Anchor) → is_place_of (shown types [] rows) at ≡ true → is_gone new at ≡ false
    → kept_anchor (shown types [] rows) (shown types [] new) at ≡ at
anchor_stays types rows new Front h k = refl
anchor_stays types rows new (At name root entry) h k = by (place_found (shown types [] rows) name root entry h)
  where
    there : Spot → Bool
    there spot = list_any (is_at spot.at) (shown types [] new)

    is_there : list_any (is_at (At name root None)) (shown types [] new) ≡ true
    is_there = any_at types name root [] new ∙ flip (list_any (λ row. same_name name row.name) new) (sym (any_named new name) ∙ k)
      where
        flip : (b : Bool) → not b ≡ false → b ≡ true
        flip true e = refl
        flip false e = absurd (true≢false e)

    by : (s : Spot) × (find (is_at (At name root entry)) (shown types [] rows) ≡ Some s) × (At name root entry ≡ s.at)
        → kept_anchor (shown types [] rows) (shown types [] new) (At name root entry) ≡ At name root entry
    by (s, f, e) =
        let plain = place_plain types rows name root entry h in
        let at : At name root None ≡ s.at = subst (λ (o : Option (List ℕ)). At name root o ≡ s.at) plain.0 e in
        ap (λ o. option_map_or (λ (spot : Spot). spot.at) o Front)
        (last_kept there (At name root entry) (shown types [] rows) None s f (ap (λ a. list_any (is_at a) (shown types [] new)) (sym at) ∙ is_there))
        ∙ sym e

-- each element is in the new view exactly where it is left
each_there : (types : List SegType) (left : Spot → Bool) (new path rows : List Row)
    → ((other : Ilk) (root : List ℕ) (s : Spot) → s.at ≡ At other root None → left s ≡ list_any (λ row. same_name other row.name) new)
    → AllByRecursion (λ (s : Spot). list_any (is_at s.at) (shown types [] new) ≡ left s) (shown types path rows)
each_there types left new path [] h = tt
each_there types left new path (row ∷ rows) h =
    let next : List Row = path_with (row_level types) path row in
    (any_at types row.name (root_key_of types next) [] new ∙ sym (h row.name (root_key_of types next) (plain_element types next row) refl), each_there types left new next rows h)

each_parts : (P : Spot → Type 0) (xs ys : List Spot) → AllByRecursion P (xs ++ ys) → AllByRecursion P xs × AllByRecursion P ys
each_parts P [] ys h = (tt, h)
each_parts P (x ∷ xs) ys h = let r = each_parts P xs ys h.1 in ((h.0, r.0), r.1)

filter_all : (p q : Spot → Bool) (xs : List Spot) → AllByRecursion (λ s. p s ≡ q s) xs → list_all q xs ≡ true → filter p xs ≡ xs
filter_all p q [] h k = refl
filter_all p q (x ∷ xs) h k =
    let a = and_parts (q x) (list_all q xs) k in
    ap (λ b. cond b (x ∷ filter p xs) (filter p xs)) (h.0 ∙ a.0) ∙ ap (λ ys. x ∷ ys) (filter_all p q xs h.1 a.1)

filter_none_up_to : (p q : Spot → Bool) (at : Anchor) (xs : List Spot) → AllByRecursion (λ s. p s ≡ q s) xs → list_all (λ s. not (q s)) xs ≡ true → filter p (all_up_to at xs) ≡ []
filter_none_up_to p q at [] h k = refl
filter_none_up_to p q at (x ∷ xs) h k =
    let a = and_parts (not (q x)) (list_all (λ s. not (q s)) xs) k in
    ap (λ b. cond b (x ∷ filter p (cond (is_at at x) [] (all_up_to at xs))) (filter p (cond (is_at at x) [] (all_up_to at xs)))) (h.0 ∙ not-true (q x) a.0)
    ∙ by (is_at at x) (filter_none_up_to p q at xs h.1 a.1)
  where
    by : (b : Bool) → filter p (all_up_to at xs) ≡ [] → filter p (cond b [] (all_up_to at xs)) ≡ []
    by true e = refl
    by false e = e

-- the last element before the deleted row's
pub before_cut : (types : List SegType) (rows : List Row) (name : Ilk) (root : List ℕ) (x : Deletion types rows name) → last_before (At name root None) (shown types [] rows) ≡ last_or None x.c.front
before_cut types rows name root x =
    ap (λ xs. last_or None (all_before (At name root None) xs)) x.c.is
    ∙ ap (λ xs. last_or None xs)
    (before_behind (At name root None) x.c.front (x.c.d ∷ (x.c.below ++ x.c.rest)) (any_root name root x.c.root x.c.front ∙ x.c.first)
    ∙ ap (λ b. x.c.front ++ cond b [] (x.c.d ∷ all_before (At name root None) (x.c.below ++ x.c.rest))) is_it ∙ append-nil x.c.front)
  where
    is_it : is_at (At name root None) x.c.d ≡ true
    is_it = ap (λ a. same_place (At name root None) a) x.c.at ∙ and_true (same_name name name) ∙ name_itself name

-- a position in what goes moves to the last element before it
pub anchor_moves : (types : List SegType) (rows : List Row) (name : Ilk) (root : List ℕ) (x : Deletion types rows name) (at : Anchor) → is_place_of (shown types [] rows) at ≡ true
    → is_gone (without_span types rows name) at ≡ true
    → kept_anchor (shown types [] rows) (shown types [] (without_span types rows name)) at ≡ option_map_or (λ (spot : Spot). spot.at) (last_before (At name root None) (shown types [] rows)) Front
anchor_moves types rows name root x Front h k = absurd (true≢false (sym k))
anchor_moves types rows name root x (At other key entry) h k = by (place_plain types rows other key entry h)
  where
    view : List Spot
    view = shown types [] rows

    new : List Row
    new = without_span types rows name

    there : Spot → Bool
    there spot = list_any (is_at spot.at) (shown types [] new)

    left : Spot → Bool
    left s = is_left x.c.front x.c.rest s

    each : AllByRecursion (λ (s : Spot). there s ≡ left s) (whole x.c.front x.c.d x.c.below x.c.rest)
    each = subst (λ (xs : List Spot). AllByRecursion (λ (s : Spot). there s ≡ left s) xs) x.c.is
        (each_there types left new [] rows (λ n r s e. ap (λ a. list_any (is_at a) (x.c.front ++ x.c.rest)) e ∙ x.c.left n r))

    moved : list_any (is_at (At other key None)) x.c.front ≡ false → list_any (is_at (At other key None)) (x.c.d ∷ x.c.below) ≡ true
        → option_map_or (λ (spot : Spot). spot.at) (last_or None (filter there (all_up_to (At other key None) view))) Front
        ≡ option_map_or (λ (spot : Spot). spot.at) (last_before (At name root None) view) Front
    moved a b =
        let parts = each_parts (λ (s : Spot). there s ≡ left s) x.c.front ((x.c.d ∷ x.c.below) ++ x.c.rest) each in
        let cut = (each_parts (λ (s : Spot). there s ≡ left s) (x.c.d ∷ x.c.below) x.c.rest parts.1).0 in
        ap (λ o. option_map_or (λ (spot : Spot). spot.at) o Front)
        (ap (λ xs. last_or None (filter there (all_up_to (At other key None) xs))) x.c.is
        ∙ ap (λ xs. last_or None (filter there xs))
        (up_to_behind (At other key None) x.c.front ((x.c.d ∷ x.c.below) ++ x.c.rest) a ∙ ap (λ xs. x.c.front ++ xs) (up_to_in (At other key None) (x.c.d ∷ x.c.below) x.c.rest b))
        ∙ last_in_two there x.c.front (all_up_to (At other key None) (x.c.d ∷ x.c.below)) None
        ∙ ap (λ xs. last_or (last_or None (filter there x.c.front)) xs) (filter_none_up_to there left (At other key None) (x.c.d ∷ x.c.below) cut x.parts.gone)
        ∙ ap (λ xs. last_or None xs) (filter_all there left x.c.front parts.0 x.parts.left_front)
        ∙ sym (before_cut types rows name root x))

    in_cut : (s : Spot) → At other key None ≡ s.at → is_left x.c.front x.c.rest s ≡ false → Region x.c.front x.c.d x.c.below x.c.rest s
        → option_map_or (λ (spot : Spot). spot.at) (last_or None (filter there (all_up_to (At other key None) view))) Front
        ≡ option_map_or (λ (spot : Spot). spot.at) (last_before (At name root None) view) Front
    in_cut s e differs (InFront a) = absurd (true≢false (sym (is_stay x.c.front x.c.below x.c.rest x.c.d s x.parts (InFront a)) ∙ differs))
    in_cut s e differs (IsIt a b same) =
        moved (ap (λ p. list_any (is_at p) x.c.front) e ∙ a) (ap (λ c. c || list_any (is_at (At other key None)) x.c.below) (ap (λ p. is_at p x.c.d) e ∙ b))
    in_cut s e differs (InBelow a b f) =
        moved (ap (λ p. list_any (is_at p) x.c.front) e ∙ a)
        (or_right (is_at (At other key None) x.c.d) (list_any (is_at (At other key None)) x.c.below) (ap (λ p. list_any (is_at p) x.c.below) e ∙ found_any (is_at s.at) x.c.below s f))
    in_cut s e differs (InRest a b c f) = absurd (true≢false (sym (is_stay x.c.front x.c.below x.c.rest x.c.d s x.parts (InRest a b c f)) ∙ differs))

    by : (entry ≡ None) × FoundAt view other key
        → kept_anchor view (shown types [] new) (At other key entry) ≡ option_map_or (λ (spot : Spot). spot.at) (last_before (At name root None) view) Front
    by (plain, s) =
        ap (λ o. option_map_or (λ (spot : Spot). spot.at) (last_or None (filter there (all_up_to (At other key o) view))) Front) plain
        ∙ in_cut s.spot s.at
        (not-true (is_left x.c.front x.c.rest s.spot) (ap (λ a. not (list_any (is_at a) (x.c.front ++ x.c.rest))) (sym s.at) ∙ sym (left_named types rows name other key x) ∙ k))
        (region_of types rows name x s.spot (subst (λ (a : Anchor). find (is_at a) view ≡ Some s.spot) s.at s.found))
