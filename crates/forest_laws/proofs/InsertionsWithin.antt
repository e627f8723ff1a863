-- What is inserted into one of several lists.
use Rattle.std.proofs.Common.{◌≡◌, suc, ◌+◌, ◌<◌, ◌≤◌, ◌==◌, nat_lt, Bool, true, false, ◌||◌, not, cond, List, [], ◌∷◌, ◌++◌, length, drop, ◌⊎◌, inl, inr, Some, None, refl, sym, ap, subst, ◌∙◌, arith}
use Rattle.std.specs.Cmp.{IsTotalOrder}
use Rattle.std.specs.List.{list_all, prefix_len, slice_get}
use Rattle.std.specs.Option.{option_map_or}
use Rattle.std.specs.Ordering.{is_lt, ordering_reverse}
use Rattle.std.specs.declared.cmp.Ordering.{Ordering}
use Rattle.std.specs.declared.cmp.Ordering.TheVariants.{Less, Equal, Greater}
use Rattle.std.proofs.lemmas.Bool.{and_parts, and_from, eq-eqb, or_left, or_right, lt-ltb, ltb-true}
use Rattle.std.proofs.lemmas.List.{append_assoc, length-append}
use Rattle.hal_schema.specs.declared.row.Row.{Row}
use Rattle.hal_schema.specs.declared.schema.Schema.{Schema}
use Rattle.hal_schema.specs.SegType.{level_of}
use Rattle.hal_schema.specs.Keys.{key_cmp}
use Rattle.hal_schema.specs.Row.{is_parent, are_twins, row_level, row_key}
use Rattle.hal_schema.specs.Roots.{root_cmp}
use Rattle.hal_schema.specs.Forest.{has_length, twin_cmp}
use Rattle.hal_schema.specs.Insertion.{goes_before, is_first, is_twin_before, is_lower_child, stands_before, through_last, insertion_place, inserted}
use Rattle.hal_schema.specs.Facts.{IsKept, SchemasAreKept}
use Rattle.forest_laws.specs.Joining.{roots_rise, joined, ComesWithin, InsertionsStayWithin}
use Rattle.forest_laws.proofs.Lists.{Among, among_passes, all_among, among_left, among_right, among_middle, SplitAt, among_split, all_append, all_middle, LastOf, NoneOf, last_of, front_of}
use Rattle.forest_laws.proofs.Names.{parent_is, parent_from, same_some, twins_are, twins_from}
use Rattle.forest_laws.proofs.NewRow.{NewUnder, new_under, stands_as}
use Rattle.forest_laws.proofs.Parents.{Below, IsRootRow, ParentOf, parent_in, child_level, child_parent, row_known}
use Rattle.forest_laws.proofs.Place.{inserted_at}
use Rattle.forest_laws.proofs.Sequences.{HasParent, parent_among, first_root}
use Rattle.forest_laws.proofs.Within.{Three, three_of, parted, apart_names_of}

-- ---- the place of an insertion, from the last row that must stand before

contradicts : {P : Type 0} (b : Bool) → b ≡ true → not b ≡ true → P
contradicts true h k = cc
contradicts false h k = cc

-- the last that passes stands at one place
one_last : (test : Row → Bool) (front : List Row) (last : Row) (behind front' : List Row) (last' : Row) (behind' : List Row) → front ++ last ∷ behind ≡ front' ++ last' ∷ behind'
    → test last ≡ true → list_all (λ x. not (test x)) behind ≡ true → test last' ≡ true → list_all (λ x. not (test x)) behind' ≡ true → length front' ≡ length front
one_last test [] last behind [] last' behind' e p n p' n' = refl
one_last test [] last behind (y ∷ front') last' behind' e p n p' n' =
    let rest : behind ≡ front' ++ last' ∷ behind' = ap (λ (l : List Row). drop 1 l) e in
    contradicts (test last') p' (all_middle (λ x. not (test x)) front' behind' last' (subst (λ (b : List Row). list_all (λ x. not (test x)) b ≡ true) rest n))
one_last test (x ∷ front) last behind [] last' behind' e p n p' n' =
    let rest : front ++ last ∷ behind ≡ behind' = ap (λ (l : List Row). drop 1 l) e in
    contradicts (test last) p (all_middle (λ x. not (test x)) front behind last (subst (λ (b : List Row). list_all (λ x. not (test x)) b ≡ true) (sym rest) n'))
one_last test (x ∷ front) last behind (y ∷ front') last' behind' e p n p' n' =
    ap (λ k. suc k) (one_last test front last behind front' last' behind' (ap (λ (l : List Row). drop 1 l) e) p n p' n')

last_through : (test : Row → Bool) (front : List Row) (last : Row) (behind : List Row) → test last ≡ true → list_all (λ x. not (test x)) behind ≡ true → through_last test (front ++ last ∷ behind) ≡ suc (length front)
last_through test front last behind passes none = by (last_of test (front ++ last ∷ behind))
  where
    by : LastOf test (front ++ last ∷ behind) ⊎ NoneOf test (front ++ last ∷ behind) → through_last test (front ++ last ∷ behind) ≡ suc (length front)
    by (inl l) = l.through ∙ ap (λ k. suc k) (one_last test front last behind l.front l.last l.behind l.split passes none l.passes l.none)
    by (inr n) = contradicts (test last) passes (all_middle (λ x. not (test x)) front behind last n.none)

drop_past : (front : List Row) (last : Row) (behind : List Row) → drop (suc (length front)) (front ++ last ∷ behind) ≡ behind
drop_past [] last behind = refl
drop_past (x ∷ front) last behind = drop_past front last behind

-- what of a list passes ends with it
prefix_ends : (test : Row → Bool) (rows back : List Row) → ((y : Row) (more : List Row) → back ≡ y ∷ more → test y ≡ false) → prefix_len test (rows ++ back) ≡ prefix_len test rows
prefix_ends test [] [] stops = refl
prefix_ends test [] (y ∷ back) stops = ap (λ (b : Bool). cond b (1 + prefix_len test back) 0) (stops y back refl)
prefix_ends test (r ∷ rows) back stops = by (test r) (prefix_ends test rows back stops)
  where
    by : (b : Bool) → prefix_len test (rows ++ back) ≡ prefix_len test rows → cond b (1 + prefix_len test (rows ++ back)) 0 ≡ cond b (1 + prefix_len test rows) 0
    by true rest = ap (λ n. 1 + n) rest
    by false rest = refl

prefix_all : (test : Row → Bool) (rows : List Row) → list_all test rows ≡ true → prefix_len test rows ≡ length rows
prefix_all test [] h = refl
prefix_all test (r ∷ rows) h =
    let p = and_parts (test r) (list_all test rows) h in
    let rest = prefix_all test rows p.1 in
    ap (λ (b : Bool). cond b (1 + prefix_len test rows) 0) p.0 ∙ (let s : 1 + prefix_len test rows ≡ suc (length rows) = omega (arith, rest) in s)

module _ (schema : Schema) (new : Row) where
  place_from : (rows front : List Row) (last : Row) (behind : List Row) → rows ≡ front ++ last ∷ behind → stands_before schema new last ≡ true → list_all (λ x. not (stands_before schema new x)) behind ≡ true
      → insertion_place schema rows new ≡ suc (length front) + prefix_len (λ row. nat_lt (row_level schema.types new) (row_level schema.types row)) behind
  place_from rows front last behind split passes none =
      ap (λ (r : List Row). insertion_place schema r new) split
      ∙ ap (λ n. n + prefix_len (λ row. nat_lt (row_level schema.types new) (row_level schema.types row)) (drop n (front ++ last ∷ behind))) (last_through (stands_before schema new) front last behind passes none)
      ∙ ap (λ (l : List Row). suc (length front) + prefix_len (λ row. nat_lt (row_level schema.types new) (row_level schema.types row)) l) (drop_past front last behind)

  place_none : (rows : List Row) → list_all (λ x. not (stands_before schema new x)) rows ≡ true → insertion_place schema rows new ≡ prefix_len (λ row. nat_lt (row_level schema.types new) (row_level schema.types row)) rows
  place_none rows none = by (last_of (stands_before schema new) rows)
    where
      by : LastOf (stands_before schema new) rows ⊎ NoneOf (stands_before schema new) rows → insertion_place schema rows new ≡ prefix_len (λ row. nat_lt (row_level schema.types new) (row_level schema.types row)) rows
      by (inl l) =
          contradicts (stands_before schema new l.last) l.passes
          (all_middle (λ x. not (stands_before schema new x)) l.front l.behind l.last (subst (λ (b : List Row). list_all (λ x. not (stands_before schema new x)) b ≡ true) l.split none))
      by (inr n) =
          ap (λ k. k + prefix_len (λ row. nat_lt (row_level schema.types new) (row_level schema.types row)) (drop k rows)) n.through
          ∙ (let s : 0 + prefix_len (λ row. nat_lt (row_level schema.types new) (row_level schema.types row)) rows ≡ prefix_len (λ row. nat_lt (row_level schema.types new) (row_level schema.types row)) rows = omega arith in s)

-- ---- the rows around

lower_root : (schema : Schema) (a b : Row) → a.code ≡ 1 → b.code ≡ 1 → roots_rise schema a b ≡ true → is_lt (root_cmp schema (row_key schema.types a) (row_key schema.types b)) ≡ true
lower_root schema a b e f h = asked (a.code == 1) (b.code == 1) (is_lt (root_cmp schema (row_key schema.types a) (row_key schema.types b))) (eq-eqb a.code 1 e) (eq-eqb b.code 1 f) h
  where
    asked : (p q t : Bool) → p ≡ true → q ≡ true → (not p || not q || t) ≡ true → t ≡ true
    asked true true t e f h = h
    asked false q t e f h = cc
    asked true false t e f h = cc

module _ (schema : Schema) (kept : IsKept schema) (roots : IsTotalOrder (root_cmp schema)) (new : Row) (long : has_length schema.types new ≡ true) where
  level_some : 1 ≤ row_level schema.types new
  level_some = kept.has_level new.code (row_known schema.types new long)

  -- no row is deeper than the new one that is a root
  root_ends : (rows : List Row) → Below schema rows → (y : Row) (more : List Row) → rows ≡ y ∷ more → nat_lt (row_level schema.types new) (row_level schema.types y) ≡ false
  root_ends rows below y more e =
      let root = first_root schema y more (subst (Below schema) e below) in
      let one : row_level schema.types y ≡ 1 = ap (level_of schema.types) root.0 ∙ kept.root_level in
      let some = level_some in
      false_if (nat_lt (row_level schema.types new) (row_level schema.types y)) (λ t. let l = ltb-true (row_level schema.types new) (row_level schema.types y) t in absurd (omega (arith, l, one, some)))
    where
      false_if : (b : Bool) → (b ≡ true → ⊥) → b ≡ false
      false_if true h = absurd (h refl)
      false_if false h = refl

  -- of two lists, one behind the other, each begins with a root
  both_end : (part back : List Row) → Below schema part → Below schema back → (y : Row) (more : List Row) → part ++ back ≡ y ∷ more → nat_lt (row_level schema.types new) (row_level schema.types y) ≡ false
  both_end [] back below under y more e = root_ends back under y more e
  both_end (x ∷ part) back below under y more e =
      let same : x ≡ y = ap (λ (l : List Row). option_map_or (λ z. z) (slice_get l 0) x) e in
      ap (λ (z : Row). nat_lt (row_level schema.types new) (row_level schema.types z)) (sym same) ∙ root_ends (x ∷ part) below x part refl

  -- where the new row is a root: a root before it stands before it, any other is deeper, and none behind it stands before it
  module _ (is_root : IsRootRow new) where
    root_stands : (row : Row) → IsRootRow row → roots_rise schema row new ≡ true → stands_before schema new row ≡ true
    root_stands row root rise =
        or_right (is_parent row new || is_lower_child new row) (is_twin_before schema new row)
        (and_from (are_twins row new) (goes_before (is_first schema new.code) (twin_cmp schema row new)) (twins_from row new (root.0 ∙ sym is_root.0) (root.1 ∙ sym is_root.1))
        (subst (λ (b : Bool). goes_before (is_first schema new.code) (cond b (root_cmp schema (row_key schema.types row) (row_key schema.types new)) (key_cmp (row_key schema.types row) (row_key schema.types new))) ≡ true)
        (sym (eq-eqb row.code 1 root.0)) (less (root_cmp schema (row_key schema.types row) (row_key schema.types new)) (lower_root schema row new root.0 is_root.0 rise))))
      where
        less : (o : Ordering) → is_lt o ≡ true → goes_before (is_first schema new.code) o ≡ true
        less Less h = refl
        less Equal h = cc
        less Greater h = cc

    -- none of the rows behind it stands before it
    none_stands : (row : Row) → 0 < row.code → roots_rise schema new row ≡ true → stands_before schema new row ≡ true → ⊥
    none_stands row known rise h = by (stands_as schema new row h)
      where
        greater : (o : Ordering) → is_lt o ≡ true → goes_before (is_first schema new.code) (ordering_reverse o) ≡ true → ⊥
        greater Less h k = cc
        greater Equal h k = cc
        greater Greater h k = cc

        by : (is_parent row new ≡ true) ⊎ ((row.parent ≡ new.parent) × ((row.code < new.code) ⊎ (is_twin_before schema new row ≡ true))) → ⊥
        by (inl parent) = let no_ : None ≡ Some row.name = sym is_root.1 ∙ parent_is row new parent in cc
        by (inr (e, inl less)) = let one = is_root.0 in absurd (omega (arith, less, one, known))
        by (inr (e, inr twin)) =
            let a = and_parts (are_twins row new) (goes_before (is_first schema new.code) (twin_cmp schema row new)) twin in
            let code : row.code ≡ 1 = (twins_are row new a.0).0 ∙ is_root.0 in
            greater (root_cmp schema (row_key schema.types new) (row_key schema.types row)) (lower_root schema new row is_root.0 code rise)
            (subst (λ (o : Ordering). goes_before (is_first schema new.code) o ≡ true) (roots.antisymm (row_key schema.types row) (row_key schema.types new))
            (subst (λ (b : Bool). goes_before (is_first schema new.code) (cond b (root_cmp schema (row_key schema.types row) (row_key schema.types new)) (key_cmp (row_key schema.types row) (row_key schema.types new))) ≡ true)
            (eq-eqb row.code 1 code) a.1))

    -- a row before it is a root or deeper
    stands_or_deeper : (rows : List Row) → Below schema rows → list_all (has_length schema.types) rows ≡ true → (row : Row) → Among row rows
        → IsRootRow row ⊎ (nat_lt (row_level schema.types new) (row_level schema.types row) ≡ true)
    stands_or_deeper rows below longs row among = let s = among_split row rows among in by s (parent_in schema s.front s.behind row (subst (Below schema) s.split below))
      where
        by : (s : SplitAt row rows) → IsRootRow row ⊎ ParentOf schema s.front row → IsRootRow row ⊎ (nat_lt (row_level schema.types new) (row_level schema.types row) ≡ true)
        by s (inl root) = inl root
        by s (inr p) =
            let above_among : Among p.above rows =
            subst (Among p.above) (sym s.split) (among_left p.above s.front (row ∷ s.behind) (subst (Among p.above) (sym p.kept.split) (among_middle p.above p.kept.front p.kept.behind))) in
            let some = kept.has_level p.above.code (row_known schema.types p.above (among_passes (has_length schema.types) p.above rows above_among longs)) in
            let level = child_level schema kept p.above row p.child in
            let one : row_level schema.types new ≡ 1 = ap (level_of schema.types) is_root.0 ∙ kept.root_level in
            inr (lt-ltb (row_level schema.types new) (row_level schema.types row) (omega (arith, some, level, one)))

    -- behind a list of which each root is lower, and before one of which none stands before it
    place_behind : (front rest : List Row) → Below schema front → list_all (has_length schema.types) front ≡ true → list_all (λ a. roots_rise schema a new) front ≡ true
        → list_all (λ x. not (stands_before schema new x)) rest ≡ true
        → ((y : Row) (more : List Row) → rest ≡ y ∷ more → nat_lt (row_level schema.types new) (row_level schema.types y) ≡ false)
        → insertion_place schema (front ++ rest) new ≡ length front
    place_behind front rest below longs rise none stops = by (last_of (stands_before schema new) front)
      where
        deeper : Row → Bool
        deeper row = nat_lt (row_level schema.types new) (row_level schema.types row)

        deep : (l : LastOf (stands_before schema new) front) → list_all deeper l.behind ≡ true
        deep l = all_among deeper l.behind
            (λ row on.
            (let among : Among row front = subst (Among row) (sym l.split) (among_right row l.front (l.last ∷ l.behind) (inr on)) in
            elim (stands_or_deeper front below longs row among) [
              | inl root ↦
                  contradicts (stands_before schema new row) (root_stands row root (among_passes (λ a. roots_rise schema a new) row front among rise))
                  (among_passes (λ x. not (stands_before schema new x)) row l.behind on l.none)
              | inr d ↦ d
            ]))

        nothing : (front : List Row) → Below schema front → list_all (λ a. roots_rise schema a new) front ≡ true → list_all (λ x. not (stands_before schema new x)) front ≡ true
            → insertion_place schema (front ++ rest) new ≡ length front
        nothing [] below rise n = place_none schema new rest none ∙ prefix_ends deeper [] rest stops
        nothing (y ∷ front) below rise n =
            contradicts (stands_before schema new y) (root_stands y (first_root schema y front below) (and_parts (roots_rise schema y new) (list_all (λ a. roots_rise schema a new) front) rise).0)
            (and_parts (not (stands_before schema new y)) (list_all (λ x. not (stands_before schema new x)) front) n).0

        by : LastOf (stands_before schema new) front ⊎ NoneOf (stands_before schema new) front → insertion_place schema (front ++ rest) new ≡ length front
        by (inr n) = nothing front below rise n.none
        by (inl l) =
            let place = place_from schema new (front ++ rest) l.front l.last (l.behind ++ rest) (ap (λ (f : List Row). f ++ rest) l.split ∙ append_assoc l.front (l.last ∷ l.behind) rest) l.passes
            (all_append (λ x. not (stands_before schema new x)) l.behind rest l.none none) in
            let ending = prefix_ends deeper l.behind rest stops ∙ prefix_all deeper l.behind (deep l) in
            let size : length front ≡ length l.front + length (l.last ∷ l.behind) = ap (λ (f : List Row). length f) l.split ∙ length-append l.front (l.last ∷ l.behind) in
            omega (arith, place, ending, size)

-- a row of other lists than that of the new one's parent doesn't stand before it
module _ (schema : Schema) (new p : Row) (under : new.parent ≡ Some p.name) (rows : List Row) (below : Below schema rows) (apart : (y : Row) → Among y rows → y.name ≡ p.name → ⊥) where
  other_list : (row : Row) → Among row rows → stands_before schema new row ≡ true → ⊥
  other_list row among h = by (stands_as schema new row h) (parent_among schema rows below row among)
    where
      by : (is_parent row new ≡ true) ⊎ ((row.parent ≡ new.parent) × ((row.code < new.code) ⊎ (is_twin_before schema new row ≡ true))) → HasParent rows row → ⊥
      by (inl parent) up = apart row among (same_some row.name p.name (sym (parent_is row new parent) ∙ under))
      by (inr (e, which)) (inl root) = let no_ : None ≡ Some p.name = sym root.1 ∙ e ∙ under in cc
      by (inr (e, which)) (inr q) = apart q.0 q.1 (same_some q.0.name p.name (sym q.2 ∙ e ∙ under))

not_so : (b : Bool) → (b ≡ true → ⊥) → not b ≡ true
not_so true h = absurd (h refl)
not_so false h = refl

module _ (schema : Schema) (kept : IsKept schema) (roots : IsTotalOrder (root_cmp schema)) (front part back : List Row) (new : Row) (t : Three schema front part back)
    (comes : ComesWithin schema front part back new) where
  stops : (y : Row) (more : List Row) → back ≡ y ∷ more → nat_lt (row_level schema.types new) (row_level schema.types y) ≡ false
  stops = root_ends schema kept roots new comes.long back t.last.below

  -- behind a row of the part
  in_part : LastOf (stands_before schema new) part → list_all (λ x. not (stands_before schema new x)) back ≡ true → inserted schema (front ++ (part ++ back)) new ≡ front ++ (inserted schema part new ++ back)
  in_part l none =
      let f = front_of (λ row. nat_lt (row_level schema.types new) (row_level schema.types row)) l.behind in
      let fr = l.front ++ l.last ∷ f.passing in
      let split : part ≡ fr ++ f.rest = l.split ∙ ap (λ (b : List Row). l.front ++ l.last ∷ b) f.split ∙ sym (append_assoc l.front (l.last ∷ f.passing) f.rest) in
      let size : length fr ≡ length l.front + length (l.last ∷ f.passing) = length-append l.front (l.last ∷ f.passing) in
      let long = f.long in
      let place = place_from schema new part l.front l.last l.behind l.split l.passes l.none in
      let at : insertion_place schema part new ≡ length fr = omega (arith, place, long, size) in
      let whole : front ++ (part ++ back) ≡ (front ++ fr) ++ (f.rest ++ back) =
      ap (λ (p : List Row). front ++ (p ++ back)) split ∙ ap (λ (p : List Row). front ++ p) (append_assoc fr f.rest back) ∙ sym (append_assoc front fr (f.rest ++ back)) in
      let last_split : front ++ (part ++ back) ≡ (front ++ l.front) ++ l.last ∷ (l.behind ++ back) =
      ap (λ (p : List Row). front ++ (p ++ back)) l.split ∙ ap (λ (p : List Row). front ++ p) (append_assoc l.front (l.last ∷ l.behind) back) ∙ sym (append_assoc front l.front (l.last ∷ (l.behind ++ back))) in
      let place_all = place_from schema new (front ++ (part ++ back)) (front ++ l.front) l.last (l.behind ++ back) last_split l.passes (all_append (λ x. not (stands_before schema new x)) l.behind back l.none none) in
      let ending = prefix_ends (λ row. nat_lt (row_level schema.types new) (row_level schema.types row)) l.behind back stops in
      let first = length-append front l.front in
      let all = length-append front fr in
      let at_all : insertion_place schema (front ++ (part ++ back)) new ≡ length (front ++ fr) = omega (arith, place_all, ending, long, size, first, all) in
      inserted_at schema (front ++ (part ++ back)) (front ++ fr) (f.rest ++ back) new whole at_all
      ∙ append_assoc front fr (new ∷ (f.rest ++ back))
      ∙ ap (λ (p : List Row). front ++ p) (sym (append_assoc fr (new ∷ f.rest) back))
      ∙ ap (λ (p : List Row). front ++ (p ++ back)) (sym (inserted_at schema part fr f.rest new split at))

  -- a root before all of the part
  at_front : IsRootRow new → list_all (λ x. not (stands_before schema new x)) part ≡ true → list_all (λ x. not (stands_before schema new x)) back ≡ true
      → inserted schema (front ++ (part ++ back)) new ≡ front ++ (inserted schema part new ++ back)
  at_front root none_part none_back =
      let place = place_none schema new part none_part ∙ prefix_ends (λ row. nat_lt (row_level schema.types new) (row_level schema.types row)) [] part (root_ends schema kept roots new comes.long part t.middle.below) in
      let at = inserted_at schema part [] part new refl place in
      let place_all =
      place_behind schema kept roots new comes.long root front (part ++ back) t.first.below t.first.long comes.behind_front
      (all_append (λ x. not (stands_before schema new x)) part back none_part none_back) (both_end schema kept roots new comes.long part back t.middle.below t.last.below) in
      inserted_at schema (front ++ (part ++ back)) front (part ++ back) new refl place_all ∙ ap (λ (p : List Row). front ++ (p ++ back)) (sym at)

  within : NewUnder schema.types part new → inserted schema (front ++ (part ++ back)) new ≡ front ++ (inserted schema part new ++ back)
  within (inl root) =
      elim (last_of (stands_before schema new) part) [ inl l ↦ in_part l none | inr n ↦ at_front root n.none none ]
    where
      none : list_all (λ x. not (stands_before schema new x)) back ≡ true
      none =
          all_among (λ x. not (stands_before schema new x)) back
          (λ x at. not_so (stands_before schema new x)
          (none_stands schema kept roots new comes.long root x (row_known schema.types x (among_passes (has_length schema.types) x back at t.last.long)) (among_passes (roots_rise schema new) x back at comes.before_back)))
  within (inr (p, among, child)) =
      elim (last_of (stands_before schema new) part) [
        | inl l ↦ in_part l none
        | inr n ↦
            contradicts (stands_before schema new p)
            (or_left (is_parent p new || is_lower_child new p) (is_twin_before schema new p) (or_left (is_parent p new) (is_lower_child new p) (parent_from p new (child_parent schema.types p new child))))
            (among_passes (λ x. not (stands_before schema new x)) p part among n.none)
      ]
    where
      none : list_all (λ x. not (stands_before schema new x)) back ≡ true
      none =
          all_among (λ x. not (stands_before schema new x)) back
          (λ x at. not_so (stands_before schema new x)
          (other_list schema new p (child_parent schema.types p new child) back t.last.below (λ y on e. apart_names_of schema part back t.middle_last p y among on (sym e)) x at))

pub insertions_stay_within : SchemasAreKept → ((schema : Schema) → IsTotalOrder (root_cmp schema)) → InsertionsStayWithin
insertions_stay_within kept roots schema before part after new order comes =
    ap (λ (l : List Row). inserted schema l new) (parted before part after)
    ∙ within schema (kept schema) (roots schema) (joined before) part (joined after) new (three_of schema (kept schema) before part after order) comes (new_under schema.types part new comes.parent)
    ∙ sym (parted before (inserted schema part new) after)
