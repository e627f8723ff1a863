-- In the view of rows whose names differ each element is found at its own place.
use Rattle.std.proofs.Common.{◌≡◌, ℕ, suc, ◌+◌, ◌==◌, Bool, true, false, not, cond, ◌&&◌, List, [], ◌∷◌, ◌++◌, map, drop, Option, None, Some, refl, sym, ap, ◌∙◌, arith}
use Rattle.std.specs.Prelude.{find}
use Rattle.std.specs.List.{list_all, list_any, position_or_len, after_first}
use Rattle.std.specs.Option.{option_map_or}
use Rattle.std.specs.Str.{bytes_eq}
use Rattle.std.proofs.lemmas.Bool.{true≢false, and_parts, and_from, or_from, eq-eqb, not-true, false_from_ne_true}
use Rattle.std.proofs.lemmas.Slice.Eq.{bytes_eq-Decides}
use Rattle.hal_base.specs.declared.place.Ilk.{Ilk}
use Rattle.hal_schema.specs.declared.row.Row.{Row}
use Rattle.hal_schema.specs.declared.schema.Schema.{Schema}
use Rattle.hal_schema.specs.declared.schema.SegType.{SegType}
use Rattle.hal_schema.specs.SegType.{level_of}
use Rattle.hal_schema.specs.Row.{same_name, row_level}
use Rattle.hal_schema.specs.Paths.{path_with, with_paths}
use Rattle.hal_schema.specs.Forest.{all_pairs, names_apart, is_forest, rows_are_named, rows_are_below_parents, types_rise, twins_rise, keys_are_placed, has_length}
use Rattle.hal_schema.proofs.RowNames.{name_is, name_from, name_itself}
use Rattle.position_state.specs.declared.session.Anchor.{Anchor}
use Rattle.position_state.specs.declared.session.Anchor.TheVariants.{Front, At}
use Rattle.position_state.specs.declared.spot.Spot.{Spot}
use Rattle.position_state.specs.View.{root_key_of, plain_element, view_of, is_at, same_place, same_entry, all_before, before, behind, is_place_of, root_named}
use Rattle.position_state.specs.Looks.{found_at}
use Rattle.view_laws.specs.Views.{PlacesDiffer, PlacesAreNamed, LevelsAreOfTypes}

and_true : (b : Bool) → (b && true) ≡ b
and_true true = refl
and_true false = refl

-- the elements of rows, behind a path
abbrev shown : List SegType → List Row → List Row → List Spot
shown types path rows = map (λ p. plain_element types p.0 p.1) (with_paths (row_level types) path rows)

-- names that are apart one way are so the other way
apart_back : (a b : Row) → names_apart a b ≡ true → same_name b.name a.name ≡ false
apart_back a b h = false_from_ne_true (same_name b.name a.name) (λ t. true≢false (sym (name_from a.name b.name (sym (name_is b.name a.name t))) ∙ not-true (same_name a.name b.name) h))

-- no element of later rows has the place of an earlier one
later_apart : (types : List SegType) (above : List Row) (one : Row) (path rows : List Row) (front rest : List Spot) (s : Spot) → list_all (names_apart one) rows ≡ true
    → shown types path rows ≡ front ++ s ∷ rest → is_at s.at (plain_element types above one) ≡ false
later_apart types above one path [] [] rest s h e = cc
later_apart types above one path [] (x ∷ front) rest s h e = cc
later_apart types above one path (row ∷ rows) [] rest s h e =
    let x : Spot = plain_element types (path_with (row_level types) path row) row in
    let first : x ≡ s = cc in
    ap (λ (t : Spot). is_at t.at (plain_element types above one)) (sym first) ∙ and_true (same_name row.name one.name) ∙ apart_back one row (and_parts (names_apart one row) (list_all (names_apart one) rows) h).0
later_apart types above one path (row ∷ rows) (x ∷ front) rest s h e =
    let next : List Row = path_with (row_level types) path row in
    let tail : shown types next rows ≡ front ++ s ∷ rest = cc in
    later_apart types above one next rows front rest s (and_parts (names_apart one row) (list_all (names_apart one) rows) h).1 tail

after_here : {X : Type 0} (p : X → Bool) (x : X) (xs : List X) → p x ≡ true → after_first p (x ∷ xs) ≡ xs
after_here p x xs h = ap (λ b. drop (cond (not b) (1 + position_or_len p xs) 0 + 1) (x ∷ xs)) h

after_later : {X : Type 0} (p : X → Bool) (x : X) (xs : List X) → p x ≡ false → after_first p (x ∷ xs) ≡ after_first p xs
after_later p x xs h =
    let e : 1 + position_or_len p xs + 1 ≡ suc (position_or_len p xs + 1) = omega arith in
    ap (λ b. drop (cond (not b) (1 + position_or_len p xs) 0 + 1) (x ∷ xs)) h ∙ ap (λ n. drop n (x ∷ xs)) e

-- no element of later rows has the place of this one
none_later : (types : List SegType) (above : List Row) (one : Row) (path rows : List Row) → list_all (names_apart one) rows ≡ true
    → list_any (is_at (plain_element types above one).at) (shown types path rows) ≡ false
none_later types above one path [] h = refl
none_later types above one path (row ∷ rows) h =
    let next : List Row = path_with (row_level types) path row in
    let a = and_parts (names_apart one row) (list_all (names_apart one) rows) h in
    or_from (is_at (plain_element types above one).at (plain_element types next row)) (list_any (is_at (plain_element types above one).at) (shown types next rows))
    (and_true (same_name one.name row.name) ∙ not-true (same_name one.name row.name) a.0) (none_later types above one next rows a.1)

record Placed (view front : List Spot) (s : Spot) (rest : List Spot) : Type 0 where
  name : Ilk
  root : List ℕ
  is : s.at ≡ At name root None
  precedes : all_before s.at view ≡ front
  alone : list_any (is_at s.at) rest ≡ false
  follows : after_first (is_at s.at) view ≡ rest
  found : find (is_at s.at) view ≡ Some s

placed : (types : List SegType) (path rows : List Row) (front rest : List Spot) (s : Spot) → all_pairs names_apart rows ≡ true → shown types path rows ≡ front ++ s ∷ rest
    → Placed (shown types path rows) front s rest
placed types path [] [] rest s h e = absurd (let no : ⊥ = cc in no)
placed types path [] (x ∷ front) rest s h e = absurd (let no : ⊥ = cc in no)
placed types path (row ∷ rows) [] rest s h e =
    let next : List Row = path_with (row_level types) path row in
    let x : Spot = plain_element types next row in
    let first : x ≡ s = cc in
    let tail : shown types next rows ≡ rest = cc in
    let a = and_parts (list_all (names_apart row) rows) (all_pairs names_apart rows) h in
    let here : is_at s.at x ≡ true = ap (λ (t : Spot). is_at t.at x) (sym first) ∙ and_true (same_name row.name row.name) ∙ name_itself row.name in
    record {
      name = row.name;
      root = root_key_of types next;
      is = ap (λ (t : Spot). t.at) (sym first);
      precedes = ap (λ b. cond b [] (x ∷ all_before s.at (shown types next rows))) here;
      alone = ap (λ (t : Spot). list_any (is_at t.at) rest) (sym first) ∙ ap (list_any (is_at x.at)) (sym tail) ∙ none_later types next row next rows a.0;
      follows = after_here (is_at s.at) x (shown types next rows) here ∙ tail;
      found = ap (λ b. cond b (Some x) (find (is_at s.at) (shown types next rows))) here ∙ ap (λ (t : Spot). Some t) first;
    }
placed types path (row ∷ rows) (y ∷ front) rest s h e =
    let next : List Row = path_with (row_level types) path row in
    let x : Spot = plain_element types next row in
    let first : x ≡ y = cc in
    let tail : shown types next rows ≡ front ++ s ∷ rest = cc in
    let a = and_parts (list_all (names_apart row) rows) (all_pairs names_apart rows) h in
    let off : is_at s.at x ≡ false = later_apart types next row next rows front rest s a.0 tail in
    let r = placed types next rows front rest s a.1 tail in
    record {
      name = r.name;
      root = r.root;
      is = r.is;
      precedes = ap (λ b. cond b [] (x ∷ all_before s.at (shown types next rows))) off ∙ ap (λ (ys : List Spot). x ∷ ys) r.precedes
          ∙ ap (λ (t : Spot). t ∷ front) first;
      alone = r.alone;
      follows = after_later (is_at s.at) x (shown types next rows) off ∙ r.follows;
      found = ap (λ b. cond b (Some x) (find (is_at s.at) (shown types next rows))) off ∙ r.found;
    }

names_differ : (schema : Schema) (rows : List Row) → is_forest schema rows ≡ true → all_pairs names_apart rows ≡ true
names_differ schema rows h =
    let a = and_parts (rows_are_named schema.types rows && rows_are_below_parents schema.types rows && types_rise rows && twins_rise schema rows) (keys_are_placed schema rows) h in
    let b = and_parts (rows_are_named schema.types rows && rows_are_below_parents schema.types rows && types_rise rows) (twins_rise schema rows) a.0 in
    let d = and_parts (rows_are_named schema.types rows && rows_are_below_parents schema.types rows) (types_rise rows) b.0 in
    let f = and_parts (rows_are_named schema.types rows) (rows_are_below_parents schema.types rows) d.0 in
    (and_parts (all_pairs names_apart rows) (list_all (has_length schema.types) rows) f.0).0

pub places_differ : PlacesDiffer
places_differ schema rows front rest spot h e =
    let view : List Spot = view_of schema None rows in
    let p = placed schema.types [] rows front rest spot (names_differ schema rows h) e in
    let at : Anchor = At p.name p.root None in
    let found : find (is_at at) view ≡ Some spot = ap (λ a. find (is_at a) view) (sym p.is) ∙ p.found in
    record {
      precedes = ap (λ a. before a view) p.is ∙ ap (λ a. all_before a view) (sym p.is) ∙ p.precedes;
      alone = p.alone;
      follows = ap (λ a. behind a view) p.is ∙ ap (λ a. after_first (is_at a) view) (sym p.is) ∙ p.follows;
      found = ap (λ a. found_at a view) p.is ∙ found;
      place = ap (is_place_of view) p.is ∙ ap (λ o. option_map_or (λ (s : Spot). bytes_eq p.root (root_named s.at)) o false) found
          ∙ (bytes_eq-Decides p.root (root_named spot.at)).1 (ap root_named (sym p.is));
    }

entry_itself : (a b : Option (List ℕ)) → same_entry a b ≡ true → b ≡ a
entry_itself None None h = refl
entry_itself None (Some y) h = absurd (let no : ⊥ = cc in no)
entry_itself (Some x) None h = absurd (let no : ⊥ = cc in no)
entry_itself (Some x) (Some y) h = ap (λ k. Some k) (sym ((bytes_eq-Decides x y).0 h))

at_itself : (at spot : Anchor) (name : Ilk) (root : List ℕ) (entry : Option (List ℕ)) → at ≡ At name root entry → same_place at spot ≡ true → bytes_eq root (root_named spot) ≡ true → spot ≡ at
at_itself at Front name root entry e h k = absurd (let no : same_place (At name root entry) Front ≡ true = ap (λ a. same_place a Front) (sym e) ∙ h in let none : ⊥ = cc in none)
at_itself at (At other key more) name root entry e h k =
    let a = and_parts (same_name name other) (same_entry entry more) (ap (λ a. same_place a (At other key more)) (sym e) ∙ h) in
    let n : name ≡ other = name_is name other a.0 in
    let r : root ≡ key = (bytes_eq-Decides root key).0 k in
    let m : more ≡ entry = entry_itself entry more a.1 in
    cc

find_passes : (test : Spot → Bool) (xs : List Spot) (s : Spot) → find test xs ≡ Some s → test s ≡ true
find_passes test [] s e = absurd (let no : ⊥ = cc in no)
find_passes test (x ∷ xs) s e = by (test x) refl (find_passes test xs s) e
  where
    by : (b : Bool) → test x ≡ b → (find test xs ≡ Some s → test s ≡ true) → cond b (Some x) (find test xs) ≡ Some s → test s ≡ true
    by true h rest k = let same : x ≡ s = cc in ap test (sym same) ∙ h
    by false h rest k = rest k

pub places_are_named : PlacesAreNamed
places_are_named schema rows Front spot h e = absurd (let no : ⊥ = cc in no)
places_are_named schema rows (At name root entry) spot h e =
    at_itself (At name root entry) spot.at name root entry refl (find_passes (is_at (At name root entry)) (view_of schema None rows) spot e)
    (ap (λ o. option_map_or (λ (s : Spot). bytes_eq root (root_named s.at)) o false) (sym e) ∙ h)

levels : (types : List SegType) (path rows : List Row) → list_all (λ (spot : Spot). spot.level == level_of types spot.code) (shown types path rows) ≡ true
levels types path [] = refl
levels types path (row ∷ rows) =
    let next : List Row = path_with (row_level types) path row in
    and_from (row_level types row == level_of types row.code) (list_all (λ (spot : Spot). spot.level == level_of types spot.code) (shown types next rows)) (eq-eqb (row_level types row) (row_level types row) refl) (levels types next rows)

pub levels_are_of_types : LevelsAreOfTypes
levels_are_of_types schema rows = levels schema.types [] rows
