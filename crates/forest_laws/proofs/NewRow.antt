-- A new row where it is inserted: its parent stands before it, and its path is its parent's and itself.
use Rattle.std.proofs.Common.{◌≡◌, ℕ, ◌<◌, ◌==◌, nat_lt, Bool, true, false, not, cond, ◌&&◌, ◌||◌, List, [], ◌∷◌, ◌++◌, Option, Some, None, ◌⊎◌, inl, inr, refl, sym, ap, subst, ◌∙◌, arith}
use Rattle.std.specs.Prelude.{find, is_none}
use Rattle.std.specs.List.{list_all}
use Rattle.std.specs.Option.{option_map_or}
use Rattle.std.proofs.lemmas.Bool.{and_parts, and_from, or_cases, or_left, eqb-true, ltb-true, le-ltb, not-true, not_from_false, both_ways}
use Rattle.std.proofs.lemmas.List.{append_assoc}
use Rattle.hal_base.specs.declared.place.Ilk.{Ilk}
use Rattle.hal_schema.specs.declared.row.Row.{Row}
use Rattle.hal_schema.specs.declared.schema.SegType.{SegType}
use Rattle.hal_schema.specs.declared.schema.Schema.{Schema}
use Rattle.hal_schema.specs.SegType.{is_parent_code, level_of}
use Rattle.hal_schema.specs.Row.{same_name, same_parent, is_parent, are_twins, row_level, is_new_name}
use Rattle.hal_schema.specs.Paths.{path_with, path_after, with_paths, paths_of}
use Rattle.hal_schema.specs.Forest.{all_pairs, names_apart, has_length, is_child_of, is_path, is_selected, twin_cmp}
use Rattle.hal_schema.specs.Insertion.{is_twin_before, is_lower_child, stands_before, goes_before, is_first, new_path, has_parent_in, has_free_key, enters_freely, may_be_inserted}
use Rattle.hal_schema.specs.Facts.{IsKept}
use Rattle.forest_laws.proofs.Lists.{Among, among_passes, among_append, among_left, among_middle, all_parts, all_append, all_weaker, all_each, pairs_at, found, find_at, find_none}
use Rattle.forest_laws.proofs.Names.{parent_is, parents_are, none_is, twins_are, same_some, one_of_name, apart_names}
use Rattle.forest_laws.proofs.Carried.{above_in, not_above, is_above, after_append, with_append, no_trace, path_above}
use Rattle.forest_laws.proofs.Parents.{Parts, IsRootRow, ParentOf, parent_before, child_level, child_parent, row_known, path_among, path_grows}
use Rattle.forest_laws.proofs.Place.{Behind, Placed}

-- what a new row is, part by part
pub record IsNew (schema : Schema) (rows : List Row) (new : Row) : Type 0 where
  pub long : has_length schema.types new ≡ true
  pub fresh : is_new_name rows new.name ≡ true
  pub parent : has_parent_in schema.types rows new ≡ true
  pub free : has_free_key schema rows new ≡ true
  pub selected : is_selected schema new ≡ true
  pub indexes : list_all (enters_freely schema.types rows new) schema.indexes ≡ true

pub new_parts : (schema : Schema) (rows : List Row) (new : Row) → may_be_inserted schema rows new ≡ true → IsNew schema rows new
new_parts schema rows new h =
    let types = schema.types in
    let a = and_parts (has_length types new && is_new_name rows new.name && has_parent_in types rows new && has_free_key schema rows new && is_selected schema new) (list_all (enters_freely types rows new) schema.indexes) h in
    let b = and_parts (has_length types new && is_new_name rows new.name && has_parent_in types rows new && has_free_key schema rows new) (is_selected schema new) a.0 in
    let c = and_parts (has_length types new && is_new_name rows new.name && has_parent_in types rows new) (has_free_key schema rows new) b.0 in
    let d = and_parts (has_length types new && is_new_name rows new.name) (has_parent_in types rows new) c.0 in
    let e = and_parts (has_length types new) (is_new_name rows new.name) d.0 in
    record { long = e.0; fresh = e.1; parent = d.1; free = c.1; selected = b.1; indexes = a.1 }

-- a new row is a root, or a child of a row
abbrev pub NewUnder : List SegType → List Row → Row → Type 0
NewUnder types rows new = IsRootRow new ⊎ ((p : Row) × Among p rows × (is_child_of types (Some p) new ≡ true))

found_among : (types : List SegType) (rows : List Row) (new : Row) (o : Option Row) → find (λ row. is_parent row new) rows ≡ o → option_map_or (λ above. is_parent_code types above.code new.code) o false ≡ true → NewUnder types rows new
found_among types rows new None e h = cc
found_among types rows new (Some p) e h =
    let f = found (λ row. is_parent row new) rows p e in
    inr (p, subst (λ (l : List Row). Among p l) (sym f.split) (among_middle p f.front f.behind), and_from (is_parent p new) (is_parent_code types p.code new.code) f.passes h)

pub new_under : (types : List SegType) (rows : List Row) (new : Row) → has_parent_in types rows new ≡ true → NewUnder types rows new
new_under types rows new h = by (new.code == 1) refl h
  where
    by : (b : Bool) → (new.code == 1) ≡ b → cond b (is_none new.parent) (option_map_or (λ above. is_parent_code types above.code new.code) (find (λ row. is_parent row new) rows) false) ≡ true → NewUnder types rows new
    by true e h = inl (eqb-true new.code 1 e, none_is new.parent h)
    by false e h = found_among types rows new (find (λ row. is_parent row new) rows) refl h

-- the rows up to the place end with the new row's parent, and rows of which none is above the new one
pub record UnderAt (schema : Schema) (front : List Row) (new : Row) : Type 0 where
  pub head : List Row
  pub above : Row
  pub between : List Row
  pub split : front ≡ head ++ above ∷ between
  pub child : is_child_of schema.types (Some above) new ≡ true
  pub low : list_all (not_above (row_level schema.types) new) between ≡ true

deeper_low : (level : Row → ℕ) (new : Row) (rows : List Row) → list_all (is_above level new) rows ≡ true → list_all (not_above level new) rows ≡ true
deeper_low level new rows h =
    all_weaker (is_above level new) (not_above level new) (λ y e. let l = ltb-true (level new) (level y) e in not_from_false (nat_lt (level y) (level new)) (le-ltb (level y) (level new) (omega arith))) rows h

-- behind the parent itself
under_parent : (schema : Schema) (rows front back : List Row) (new p : Row) → Parts schema rows → rows ≡ front ++ back → (b : Behind schema new front) → Among p rows → is_child_of schema.types (Some p) new ≡ true → is_parent b.last new ≡ true → UnderAt schema front new
under_parent schema rows front back new p parts split b among child parent =
    let x = b.last in
    let named : x.name ≡ p.name = same_some x.name p.name (sym (parent_is x new parent) ∙ child_parent schema.types p new child) in
    let here : Among x rows = subst (λ (l : List Row). Among x l) (sym (split ∙ ap (λ (l : List Row). l ++ back) b.split)) (among_left x (b.head ++ x ∷ b.tail) back (among_middle x b.head b.tail)) in
    let same : x ≡ p = one_of_name rows x p parts.named here among named in
    record {
      head = b.head;
      above = x;
      between = b.tail;
      split = b.split;
      child = subst (λ (r : Row). is_child_of schema.types (Some r) new ≡ true) (sym same) child;
      low = deeper_low (row_level schema.types) new b.tail b.deeper;
    }

-- behind a child of the parent
under_kept : (schema : Schema) (rows front back : List Row) (new p : Row) → IsKept schema → Parts schema rows → rows ≡ front ++ back → (b : Behind schema new front) → Among p rows → is_child_of schema.types (Some p) new ≡ true → b.last.parent ≡ new.parent
    → ParentOf schema b.head b.last → UnderAt schema front new
under_kept schema rows front back new p kept parts split b among child sibling of =
    let level = row_level schema.types in
    let x = b.last in
    let q = of.above in
    let k = of.kept in
    let named : q.name ≡ p.name = same_some q.name p.name (sym (child_parent schema.types q x of.child) ∙ sibling ∙ child_parent schema.types p new child) in
    let all : rows ≡ (k.front ++ q ∷ k.behind) ++ (x ∷ (b.tail ++ back)) =
    split ∙ ap (λ (l : List Row). l ++ back) b.split ∙ append_assoc b.head (x ∷ b.tail) back ∙ ap (λ (l : List Row). l ++ (x ∷ (b.tail ++ back))) k.split in
    let here : Among q rows = subst (λ (l : List Row). Among q l) (sym all) (among_left q (k.front ++ q ∷ k.behind) (x ∷ (b.tail ++ back)) (among_middle q k.front k.behind)) in
    let same : q ≡ p = one_of_name rows q p parts.named here among named in
    let under : is_child_of schema.types (Some q) new ≡ true = subst (λ (r : Row). is_child_of schema.types (Some r) new ≡ true) (sym same) child in
    let deep = child_level schema kept q new under in
    let beside = child_level schema kept q x of.child in
    let low : (y : Row) → level q < level y → not_above level new y ≡ true = λ y l. not_from_false (nat_lt (level y) (level new)) (le-ltb (level y) (level new) (omega (arith, deep, l))) in
    record {
      head = k.front;
      above = q;
      between = k.behind ++ x ∷ b.tail;
      split = b.split ∙ ap (λ (l : List Row). l ++ x ∷ b.tail) k.split ∙ append_assoc k.front (q ∷ k.behind) (x ∷ b.tail);
      child = under;
      low = all_append (not_above level new) k.behind (x ∷ b.tail)
          (all_weaker (is_above level q) (not_above level new) (λ y e. low y (ltb-true (level q) (level y) e)) k.behind k.deeper)
          (and_from (not_above level new x) (list_all (not_above level new) b.tail) (low x (omega (arith, beside))) (deeper_low level new b.tail b.deeper));
    }

-- a row that must stand before the new one is its parent, or a child of that parent
pub stands_as : (schema : Schema) (new row : Row) → stands_before schema new row ≡ true → (is_parent row new ≡ true) ⊎ ((row.parent ≡ new.parent) × ((row.code < new.code) ⊎ (is_twin_before schema new row ≡ true)))
stands_as schema new row h =
    elim (or_cases (is_parent row new || is_lower_child new row) (is_twin_before schema new row) h) [
      | inl a ↦ elim (or_cases (is_parent row new) (is_lower_child new row) a) [
        | inl parent ↦ inl parent
        | inr lower ↦
            let b = and_parts (same_parent row.parent new.parent) (nat_lt row.code new.code) lower in
            inr (parents_are row.parent new.parent b.0, inl (ltb-true row.code new.code b.1))
      ]
      | inr twin ↦
          let b = and_parts (are_twins row new) (goes_before (is_first schema new.code) (twin_cmp schema row new)) twin in
          inr ((twins_are row new b.0).1, inr twin)
    ]

under_behind : (schema : Schema) (rows front back : List Row) (new p : Row) → IsKept schema → Parts schema rows → rows ≡ front ++ back → Behind schema new front → Among p rows → is_child_of schema.types (Some p) new ≡ true → UnderAt schema front new
under_behind schema rows front back new p kept parts split b among child = by (stands_as schema new b.last b.stands)
  where
    all : rows ≡ b.head ++ b.last ∷ (b.tail ++ back)
    all = split ∙ ap (λ (l : List Row). l ++ back) b.split ∙ append_assoc b.head (b.last ∷ b.tail) back

    beside : b.last.parent ≡ new.parent → IsRootRow b.last ⊎ ParentOf schema b.head b.last → UnderAt schema front new
    beside sibling (inl root) = let e = child_parent schema.types p new child in let f = root.1 in cc
    beside sibling (inr of) = under_kept schema rows front back new p kept parts split b among child sibling of

    by : (is_parent b.last new ≡ true) ⊎ ((b.last.parent ≡ new.parent) × ((b.last.code < new.code) ⊎ (is_twin_before schema new b.last ≡ true))) → UnderAt schema front new
    by (inl parent) = under_parent schema rows front back new p parts split b among child parent
    by (inr sibling) = beside sibling.0 (parent_before schema b.head (b.tail ++ back) b.last (subst (Parts schema) all parts))

pub under_at : (schema : Schema) (rows : List Row) (new p : Row) → IsKept schema → Parts schema rows → (place : Placed schema rows new) → Among p rows → is_child_of schema.types (Some p) new ≡ true → UnderAt schema place.front new
under_at schema rows new p kept parts place among child = by place.last
  where
    parent : is_parent p new ≡ true
    parent = (and_parts (is_parent p new) (is_parent_code schema.types p.code new.code) child).0

    stands : stands_before schema new p ≡ true
    stands = or_left (is_parent p new || is_lower_child new p) (is_twin_before schema new p) (or_left (is_parent p new) (is_lower_child new p) parent)

    before : Among p place.front ⊎ Among p place.back → Among p place.front
    before (inl a) = a
    before (inr b) = absurd (both_ways (stands_before schema new p) (not-true (stands_before schema new p) (among_passes (λ row. not (stands_before schema new row)) p place.back b place.behind)) stands)

    by : Behind schema new place.front ⊎ (list_all (is_above (row_level schema.types) new) place.front ≡ true) → UnderAt schema place.front new
    by (inl b) = under_behind schema rows place.front place.back new p kept parts place.split b among child
    by (inr deeper) =
        let level = row_level schema.types in
        let here = before (among_append p place.front place.back (subst (λ (l : List Row). Among p l) place.split among)) in
        let l = ltb-true (level new) (level p) (among_passes (is_above level new) p place.front here deeper) in
        let deep = child_level schema kept p new child in
        absurd (omega (arith, l, deep))

-- ---- the path

pub record NewPath (schema : Schema) (rows front : List Row) (new : Row) : Type 0 where
  pub is : path_with (row_level schema.types) (path_after (row_level schema.types) [] front) new ≡ new_path schema.types rows new
  pub path : is_path schema.types None (new_path schema.types rows new) ≡ true

-- a test of the rows is one of the rows with their paths
pub all_rows : (level : Row → ℕ) (t : Row → Bool) (path rows : List Row) → list_all (λ (p : List Row × Row). t p.1) (with_paths level path rows) ≡ list_all t rows
all_rows level t path [] = refl
all_rows level t path (row ∷ rows) = ap (λ b. t row && b) (all_rows level t (path_with level path row) rows)

root_path : (schema : Schema) (rows front back : List Row) (new : Row) → IsKept schema → Parts schema rows → rows ≡ front ++ back → IsRootRow new → NewPath schema rows front new
root_path schema rows front back new kept parts split root =
    let types = schema.types in
    let level = row_level types in
    let one : level new ≡ 1 = ap (level_of types) root.0 ∙ kept.root_level in
    let low : list_all (not_above level new) front ≡ true =
    all_weaker (has_length types) (not_above level new) (λ y h. let z = kept.has_level y.code (row_known types y h) in not_from_false (nat_lt (level y) (level new)) (le-ltb (level y) (level new) (omega (arith, one, z)))) front
    (all_parts (has_length types) front back (subst (λ (l : List Row). list_all (has_length types) l ≡ true) split parts.long)).0 in
    let alone : path_with level (path_after level [] front) new ≡ new ∷ [] = ap (λ (l : List Row). l ++ new ∷ []) (no_trace level new [] front low) in
    let test : List Row × Row → Bool = λ p. is_parent p.1 new in
    let nobody : (r : Row) → not (is_parent r new) ≡ true = λ r. not_from_false (is_parent r new) (ap (λ (o : Option Ilk). option_map_or (same_name r.name) o false) root.1) in
    let none : find test (paths_of types rows) ≡ None =
    find_none test (paths_of types rows) (all_rows level (λ r. not (is_parent r new)) [] rows ∙ all_each (λ r. not (is_parent r new)) nobody rows) in
    let is : new ∷ [] ≡ new_path types rows new = ap (λ (o : Option (List Row × Row)). option_map_or (λ p. p.0) o [] ++ new ∷ []) (sym none) in
    let child : is_child_of types None new ≡ true = and_from (new.code == 1) (is_none new.parent) (ap (λ n. n == 1) root.0) (ap (λ (o : Option Ilk). is_none o) root.1) in
    record { is = alone ∙ is; path = subst (λ (l : List Row). is_path types None l ≡ true) is (and_from (is_child_of types None new) true child refl) }

child_path : (schema : Schema) (rows front back : List Row) (new : Row) → IsKept schema → Parts schema rows → rows ≡ front ++ back → UnderAt schema front new → NewPath schema rows front new
child_path schema rows front back new kept parts split u =
    let types = schema.types in
    let level = row_level types in
    let p = u.above in
    let rest = u.between ++ back in
    let all : rows ≡ u.head ++ p ∷ rest = split ∙ ap (λ (l : List Row). l ++ back) u.split ∙ append_assoc u.head (p ∷ u.between) back in
    let path = path_with level (path_after level [] u.head) p in
    let deep = child_level schema kept p new u.child in
    let kept_path : path_with level (path_after level [] front) new ≡ path ++ new ∷ [] =
    ap (λ (l : List Row). path_with level (path_after level [] l) new) u.split
    ∙ ap (λ (l : List Row). path_with level l new) (after_append level [] u.head (p ∷ u.between))
    ∙ ap (λ (l : List Row). l ++ new ∷ []) (no_trace level new path u.between u.low ∙ path_above level (path_after level [] u.head) p new (omega (arith, deep))) in
    let test : List Row × Row → Bool = λ q. is_parent q.1 new in
    let parent = (and_parts (is_parent p new) (is_parent_code types p.code new.code) u.child).0 in
    let other : (r : Row) → names_apart r p ≡ true → not (is_parent r new) ≡ true = λ r apart.
    not_from_false (is_parent r new) (fails r apart (is_parent r new) refl parent) in
    let none : list_all (λ q. not (test q)) (with_paths level [] u.head) ≡ true =
    all_rows level (λ r. not (is_parent r new)) [] u.head
    ∙ all_weaker (λ r. names_apart r p) (λ r. not (is_parent r new)) other u.head (before_names u.head rest p (subst (λ (l : List Row). all_pairs names_apart l ≡ true) all parts.named)) in
    let here : find test (paths_of types rows) ≡ Some (path, p) =
    ap (λ (l : List Row). find test (paths_of types l)) all ∙ ap (find test) (with_append level [] u.head (p ∷ rest)) ∙ find_at test (with_paths level [] u.head) (path, p) (with_paths level path rest) none parent in
    let is : path ++ new ∷ [] ≡ new_path types rows new = ap (λ (o : Option (List Row × Row)). option_map_or (λ p. p.0) o [] ++ new ∷ []) (sym here) in
    record {
      is = kept_path ∙ is;
      path = subst (λ (l : List Row). is_path types None l ≡ true) is (path_grows types None (above_in level (path_after level [] u.head) p) p new (path_among schema u.head rest p (subst (Parts schema) all parts)) u.child);
    }
  where
    fails : (r : Row) → names_apart r u.above ≡ true → (b : Bool) → is_parent r new ≡ b → is_parent u.above new ≡ true → b ≡ false
    fails r apart true e parent = absurd (apart_names r u.above apart (same_some r.name u.above.name (sym (parent_is r new e) ∙ parent_is u.above new parent)))
    fails r apart false e parent = refl

    before_names : (front behind : List Row) (p : Row) → all_pairs names_apart (front ++ p ∷ behind) ≡ true → list_all (λ r. names_apart r p) front ≡ true
    before_names front behind p h = (pairs_at names_apart front behind p h).before

pub new_path_at : (schema : Schema) (rows : List Row) (new : Row) → IsKept schema → Parts schema rows → (place : Placed schema rows new) → has_parent_in schema.types rows new ≡ true → NewPath schema rows place.front new
new_path_at schema rows new kept parts place h = by (new_under schema.types rows new h)
  where
    by : NewUnder schema.types rows new → NewPath schema rows place.front new
    by (inl root) = root_path schema rows place.front place.back new kept parts place.split root
    by (inr under) = child_path schema rows place.front place.back new kept parts place.split (under_at schema rows new under.0 kept parts place under.1 under.2)
