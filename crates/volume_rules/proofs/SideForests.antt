-- The sides of a volume are a forest.
use Rattle.std.proofs.Common.{◌≡◌, ℕ, zero, suc, ◌+◌, ◌<◌, ◌==◌, Bool, true, false, ◌&&◌, ◌||◌, cond, not, List, [], ◌∷◌, ◌++◌, map, length, Option, None, Some, refl, sym, ap, subst, ◌∙◌, arith}
use Rattle.std.specs.Prelude.{flat_map, unwrap_or}
use Rattle.std.specs.List.{list_all, list_any, slice_get}
use Rattle.std.specs.Option.{option_map_or}
use Rattle.std.specs.Ordering.{nat_cmp, is_le, is_lt, ordering_then, ordering_reverse}
use Rattle.std.specs.declared.cmp.Ordering.{Ordering}
use Rattle.std.specs.declared.cmp.Ordering.TheVariants.{Less, Equal, Greater}
use Rattle.std.proofs.lemmas.Bool.{and_parts, and_from, eqb-true, eq-eqb, ltb-true, ltb-false, lt-ltb, le-ltb, or_left, or_right}
use Rattle.std.proofs.lemmas.Cmp.{nat_list_cmp_total}
use Rattle.std.proofs.lemmas.List.{map-append, append_assoc, append-nil}
use Rattle.std.proofs.lemmas.List.Folds.{list_all-append}
use Rattle.hal_base.specs.declared.place.Cursor.{Cursor}
use Rattle.hal_base.specs.declared.place.Cursor.TheVariants.{Front, At, Anchors}
use Rattle.hal_schema.specs.declared.row.Row.{Row}
use Rattle.hal_schema.specs.declared.schema.PartDef.{PartDef}
use Rattle.hal_schema.specs.declared.schema.Schema.{Schema}
use Rattle.hal_schema.specs.Forest.{all_pairs, names_apart}
use Rattle.hal_schema.specs.Insertion.{inserted}
use Rattle.hal_schema.specs.Keys.{key_cmp}
use Rattle.hal_schema.specs.Lawful.{all_differ}
use Rattle.hal_schema.specs.Span.{without_span, replaced}
use Rattle.hal_schema.specs.Roots.{anchor_of, anchor_place, partition_of, partition_place, root_cmp}
use Rattle.hal_schema.specs.Row.{same_name, row_key}
use Rattle.hal_schema.proofs.RowNames.{name_is}
use Rattle.forest_laws.specs.Joining.{is_in_sequence, roots_rise, stand_apart, is_before, joined, StandInOrder, OrdersJoin, SequencesJoin, ForestsAreSequences, ChangesStayWithin, InsertionsStayWithin}
use Rattle.volume_rules.specs.View.{Home, Homed, Segment, View, Stands, is_moving, has_passed, segment_key}
use Rattle.volume_rules.specs.Volume.{stands_in, walked, forest_of}
use Rattle.volume_rules.specs.SideForest.{side_at, sides_in, sides_of, has_its_cursor, KeepsSides, SidesAreAForest, SidesActAlike}
use Rattle.volume_rules.proofs.SidesKept.{Words, at_row}

-- ---- the order of roots

place_is : (schema : Schema) (place : ℕ) (key : List ℕ) → option_map_or (λ (p : ℕ). p == place) (partition_of schema key) false ≡ true → partition_place schema key ≡ place
place_is schema place key h = by (partition_of schema key) h
  where
    by : (o : Option ℕ) → option_map_or (λ (p : ℕ). p == place) o false ≡ true → unwrap_or o (length schema.parts) ≡ place
    by None h = cc
    by (Some p) h = eqb-true p place h

less_is : (a b : ℕ) → a < b → nat_cmp a b ≡ Less
less_is a b h = ap (λ (t : Bool). cond t Less (cond (a == b) Equal Greater)) (lt-ltb a b h)

equal_is : (a b : ℕ) → a ≡ b → nat_cmp a b ≡ Equal
equal_is a b e = ap (λ (t : Bool). cond t Less (cond (a == b) Equal Greater)) (le-ltb a b (omega (arith, e))) ∙ ap (λ (t : Bool). cond t Equal Greater) (eq-eqb a b e)

-- of two places
lower_place : (schema : Schema) (a b : List ℕ) → partition_place schema a < partition_place schema b → is_lt (root_cmp schema a b) ≡ true
lower_place schema a b h = ap (λ (o : Ordering). is_lt (ordering_then o (ordering_then (nat_cmp (anchor_place schema a) (anchor_place schema b)) (key_cmp a b)))) (less_is (partition_place schema a) (partition_place schema b) h)

lower_anchor : (schema : Schema) (a b : List ℕ) → partition_place schema a ≡ partition_place schema b → anchor_place schema a < anchor_place schema b → is_lt (root_cmp schema a b) ≡ true
lower_anchor schema a b e h =
    ap (λ (o : Ordering). is_lt (ordering_then o (ordering_then (nat_cmp (anchor_place schema a) (anchor_place schema b)) (key_cmp a b)))) (equal_is (partition_place schema a) (partition_place schema b) e)
    ∙ ap (λ (o : Ordering). is_lt (ordering_then o (key_cmp a b))) (less_is (anchor_place schema a) (anchor_place schema b) h)

lower_key : (schema : Schema) (a b : List ℕ) → partition_place schema a ≡ partition_place schema b → anchor_place schema a ≡ anchor_place schema b → key_cmp a b ≡ Less → is_lt (root_cmp schema a b) ≡ true
lower_key schema a b e f h =
    ap (λ (o : Ordering). is_lt (ordering_then o (ordering_then (nat_cmp (anchor_place schema a) (anchor_place schema b)) (key_cmp a b)))) (equal_is (partition_place schema a) (partition_place schema b) e)
    ∙ ap (λ (o : Ordering). is_lt (ordering_then o (key_cmp a b))) (equal_is (anchor_place schema a) (anchor_place schema b) f)
    ∙ ap (λ (o : Ordering). is_lt o) h

-- a key at or before a key, and one behind it
between : (a last b : List ℕ) → is_le (key_cmp a last) ≡ true → is_le (key_cmp b last) ≡ false → key_cmp a b ≡ Less
between a last b h k = by (key_cmp a last) refl h
  where
    behind : (o : Ordering) → key_cmp b last ≡ o → is_le o ≡ false → key_cmp last b ≡ Less
    behind Less e k = cc
    behind Equal e k = cc
    behind Greater e k = nat_list_cmp_total.antisymm last b ∙ ap ordering_reverse e

    by : (o : Ordering) → key_cmp a last ≡ o → is_le o ≡ true → key_cmp a b ≡ Less
    by Less e h = nat_list_cmp_total.trans a last b e (behind (key_cmp b last) refl k)
    by Equal e h = nat_list_cmp_total.congr a last b e ∙ behind (key_cmp b last) refl k
    by Greater e h = cc

-- ---- within a partition

-- the anchor of a key of the partition at a place
anchor_is : (schema : Schema) (place : ℕ) (part : PartDef) → slice_get schema.parts place ≡ Some part → (key : List ℕ) → partition_place schema key ≡ place
    → anchor_place schema key ≡ cond schema.phdam (anchor_of part.anchors key) 0
anchor_is schema place part defined key at =
    ap (λ (o : Option PartDef). cond schema.phdam (option_map_or (λ (p : PartDef). anchor_of p.anchors key) o 0) 0) (ap (slice_get schema.parts) at ∙ defined)

-- what has been passed is before what hasn't
passed_before : (schema : Schema) (place : ℕ) (part : PartDef) → slice_get schema.parts place ≡ Some part → (cursor : Cursor) → has_its_cursor schema.phdam cursor ≡ true → (a b : List ℕ)
    → partition_place schema a ≡ place → partition_place schema b ≡ place → has_passed part.anchors cursor a ≡ true → has_passed part.anchors cursor b ≡ false → is_lt (root_cmp schema a b) ≡ true
passed_before schema place part defined cursor kind a b at bt p q = by cursor (schema.phdam) refl kind p q
  where
    by : (c : Cursor) (phdam : Bool) → schema.phdam ≡ phdam → has_its_cursor schema.phdam c ≡ true → has_passed part.anchors c a ≡ true → has_passed part.anchors c b ≡ false → is_lt (root_cmp schema a b) ≡ true
    by Front phdam e kind p q = cc
    by (At last) true e kind p q = let no_ : not true ≡ true = sym (ap not e) ∙ kind in cc
    by (At last) false e kind p q =
        let zero_at : (key : List ℕ) → partition_place schema key ≡ place → anchor_place schema key ≡ 0 = λ key k. anchor_is schema place part defined key k ∙ ap (λ (t : Bool). cond t (anchor_of part.anchors key) 0) e in
        lower_key schema a b (at ∙ sym bt) (zero_at a at ∙ sym (zero_at b bt)) (between a last b p q)
    by (Anchors done) true e kind p q =
        let at_anchor : (key : List ℕ) → partition_place schema key ≡ place → anchor_place schema key ≡ anchor_of part.anchors key =
        λ key k. anchor_is schema place part defined key k ∙ ap (λ (t : Bool). cond t (anchor_of part.anchors key) 0) e in
        let l = ltb-true (anchor_of part.anchors a) done p in
        let h = ltb-false (anchor_of part.anchors b) done q in
        let x = at_anchor a at in
        let y = at_anchor b bt in
        lower_anchor schema a b (at ∙ sym bt) (omega (arith, l, h, x, y))
    by (Anchors done) false e kind p q = let no_ : false ≡ true = sym e ∙ kind in cc

-- what is known of a row of a side
record OfPart (schema : Schema) (place : ℕ) (view : View) (number : ℕ) (row : Row) : Type 0 where
  home : Home
  at : home.number ≡ number
  s : Segment
  stands : Stands view home s
  words : Words row s

side_rows : (schema : Schema) (place : ℕ) (view : View) → KeepsSides schema place view → (number : ℕ) (test : Row → Bool) → ((row : Row) → OfPart schema place view number row → test row ≡ true)
    → (rows : List Homed) → list_all (stands_in view number) rows ≡ true → list_all test (map (λ (r : Homed). r.row) rows) ≡ true
side_rows schema place view kept number test each [] h = refl
side_rows schema place view kept number test each (r ∷ rows) h =
    let p = and_parts (stands_in view number r) (list_all (stands_in view number) rows) h in
    let a = at_row view number r.addr r p.0 refl in
    and_from (test r.row) (list_all test (map (λ (r : Homed). r.row) rows))
    (each r.row (record { home = record { number = number; addr = r.addr }; at = refl; s = a.s; stands = record { here = a.here; uncopied = a.words.uncopied }; words = a.words }))
    (side_rows schema place view kept number test each rows p.1)

key_of : (schema : Schema) (row : Row) (s : Segment) → Words row s → segment_key schema.types s ≡ row_key schema.types row
key_of schema row s w = λ i. row_key schema.types (record { name = s.name; code = w.code i; parent = None; content = w.content i })

root_place : (schema : Schema) (place : ℕ) (view : View) → KeepsSides schema place view → (number : ℕ) (row : Row) → OfPart schema place view number row → row.code ≡ 1 → partition_place schema (row_key schema.types row) ≡ place
root_place schema place view kept number row o root =
    place_is schema place (row_key schema.types row)
    (subst (λ (k : List ℕ). option_map_or (λ (p : ℕ). p == place) (partition_of schema k) false ≡ true) (key_of schema row o.s o.words) (kept.rule7.belong o.home o.s o.stands (o.words.code ∙ root)))

name_part : (schema : Schema) (place : ℕ) (view : View) → KeepsSides schema place view → (number : ℕ) (row : Row) → OfPart schema place view number row → row.name.part ≡ view.part.number
name_part schema place view kept number row o = ap (λ n. n.part) (sym o.words.name) ∙ kept.rule6.part o.home o.s o.stands ∙ kept.numbered

apart_if : (a b : Row) → (a.name ≡ b.name → ⊥) → names_apart a b ≡ true
apart_if a b h = by (same_name a.name b.name) refl
  where
    by : (t : Bool) → same_name a.name b.name ≡ t → not t ≡ true
    by false e = refl
    by true e = absurd (h (name_is a.name b.name e))

rise_if : (schema : Schema) (a b : Row) → (a.code ≡ 1 → b.code ≡ 1 → is_lt (root_cmp schema (row_key schema.types a) (row_key schema.types b)) ≡ true) → roots_rise schema a b ≡ true
rise_if schema a b h = by (a.code == 1) (b.code == 1) refl refl
  where
    by : (p q : Bool) → (a.code == 1) ≡ p → (b.code == 1) ≡ q → (not p || not q || is_lt (root_cmp schema (row_key schema.types a) (row_key schema.types b))) ≡ true
    by false q e f = refl
    by true false e f = refl
    by true true e f = h (eqb-true a.code 1 e) (eqb-true b.code 1 f)

module _ (schema : Schema) (place : ℕ) (view : View) (kept : KeepsSides schema place view) where
  -- a row of the output before one of the input
  output_first : is_moving view.state ≡ true → (a b : Row) → OfPart schema place view (view.state.number + 1) a → OfPart schema place view view.state.number b → stand_apart schema a b ≡ true
  output_first moving a b o i =
      and_from (names_apart a b) (roots_rise schema a b)
      (apart_if a b (λ e.
      (let homes : o.home ≡ i.home = kept.rule6.distinct o.home i.home o.s i.s o.stands i.stands (o.words.name ∙ e ∙ sym i.words.name) in
      let numbers = ap (λ (h : Home). h.number) homes in
      let x = o.at in
      let y = i.at in
      absurd (omega (arith, numbers, x, y)))))
      (rise_if schema a b (λ one other.
      passed_before schema place view.part kept.defined view.state.cursor kept.cursor (row_key schema.types a) (row_key schema.types b)
      (root_place schema place view kept (view.state.number + 1) a o one) (root_place schema place view kept view.state.number b i other)
      (subst (λ (k : List ℕ). has_passed view.part.anchors view.state.cursor k ≡ true) (key_of schema a o.s o.words) (kept.rule10.output o.home o.s moving o.at o.stands.here (o.words.code ∙ one)))
      (subst (λ (k : List ℕ). has_passed view.part.anchors view.state.cursor k ≡ false) (key_of schema b i.s i.words) (kept.rule10.input i.home i.s moving i.at i.stands (i.words.code ∙ other)))))

  each_row : (number : ℕ) (test : Row → Bool) → ((row : Row) → OfPart schema place view number row → test row ≡ true) → list_all test (side_at view number) ≡ true
  each_row number test h = side_rows schema place view kept number test h (view.rows number) (kept.rows.stand number)

  within : StandInOrder schema (sides_in view)
  within = record { each = kept.sequence; apart = by (is_moving view.state) refl }
    where
      first_before : is_moving view.state ≡ true → is_before schema (side_at view (view.state.number + 1)) (side_at view view.state.number) ≡ true
      first_before moving =
          each_row (view.state.number + 1) (λ a. list_all (stand_apart schema a) (side_at view view.state.number))
          (λ a o. each_row view.state.number (stand_apart schema a) (λ b i. output_first moving a b o i))

      by : (m : Bool) → is_moving view.state ≡ m → all_pairs (is_before schema) (cond m (side_at view (view.state.number + 1) ∷ side_at view view.state.number ∷ []) (side_at view view.state.number ∷ [])) ≡ true
      by false e = refl
      by true e =
          and_from (is_before schema (side_at view (view.state.number + 1)) (side_at view view.state.number) && true) (true && true)
          (and_from (is_before schema (side_at view (view.state.number + 1)) (side_at view view.state.number)) true (first_before e) refl) refl

  -- what holds of each side of a partition
  each_side : (test : List Row → Bool) → ((number : ℕ) → test (side_at view number) ≡ true) → list_all test (sides_in view) ≡ true
  each_side test h = by (is_moving view.state)
    where
      by : (m : Bool) → list_all test (cond m (side_at view (view.state.number + 1) ∷ side_at view view.state.number ∷ []) (side_at view view.state.number ∷ [])) ≡ true
      by false = and_from (test (side_at view view.state.number)) true (h view.state.number) refl
      by true =
          and_from (test (side_at view (view.state.number + 1))) (test (side_at view view.state.number) && true) (h (view.state.number + 1))
          (and_from (test (side_at view view.state.number)) true (h view.state.number) refl)

-- ---- across partitions

-- two partitions of the definition have two numbers
same_numbers : (x : PartDef) (parts : List PartDef) (j : ℕ) (q : PartDef) → slice_get parts j ≡ Some q → x.number ≡ q.number → list_any (λ n. x.number == n) (map (λ (p : PartDef). p.number) parts) ≡ true
same_numbers x [] j q at e = cc
same_numbers x (y ∷ parts) zero q at e =
    let same : y ≡ q = ap (λ (o : Option PartDef). option_map_or (λ p. p) o y) at in
    or_left (x.number == y.number) (list_any (λ n. x.number == n) (map (λ (p : PartDef). p.number) parts)) (eq-eqb x.number y.number (e ∙ ap (λ (p : PartDef). p.number) (sym same)))
same_numbers x (y ∷ parts) (suc j) q at e = or_right (x.number == y.number) (list_any (λ n. x.number == n) (map (λ (p : PartDef). p.number) parts)) (same_numbers x parts j q at e)

parts_apart : (parts : List PartDef) → all_differ (λ (m n : ℕ). m == n) (map (λ (p : PartDef). p.number) parts) ≡ true → (i j : ℕ) (p q : PartDef) → i < j → slice_get parts i ≡ Some p → slice_get parts j ≡ Some q → p.number ≡ q.number → ⊥
parts_apart [] differ i j p q less at bt e = cc
parts_apart (x ∷ parts) differ zero zero p q less at bt e = absurd (omega (arith, less))
parts_apart (x ∷ parts) differ (suc i) zero p q less at bt e = absurd (omega (arith, less))
parts_apart (x ∷ parts) differ zero (suc j) p q less at bt e =
    let same : x ≡ p = ap (λ (o : Option PartDef). option_map_or (λ p. p) o x) at in
    let d = and_parts (not (list_any (λ n. x.number == n) (map (λ (p : PartDef). p.number) parts))) (all_differ (λ (m n : ℕ). m == n) (map (λ (p : PartDef). p.number) parts)) differ in
    both (list_any (λ n. x.number == n) (map (λ (p : PartDef). p.number) parts)) d.0 (same_numbers x parts j q bt (ap (λ (p : PartDef). p.number) same ∙ e))
  where
    both : (b : Bool) → not b ≡ true → b ≡ true → ⊥
    both true h k = cc
    both false h k = cc
parts_apart (x ∷ parts) differ (suc i) (suc j) p q less at bt e =
    let d = and_parts (not (list_any (λ n. x.number == n) (map (λ (p : PartDef). p.number) parts))) (all_differ (λ (m n : ℕ). m == n) (map (λ (p : PartDef). p.number) parts)) differ in
    parts_apart parts d.1 i j p q (omega (arith, less)) at bt e

module _ (schema : Schema) (i j : ℕ) (less : i < j) (one other : View) (a_kept : KeepsSides schema i one) (b_kept : KeepsSides schema j other) (differ : one.part.number ≡ other.part.number → ⊥) where
  rows_apart : (m n : ℕ) (a b : Row) → OfPart schema i one m a → OfPart schema j other n b → stand_apart schema a b ≡ true
  rows_apart m n a b o p =
      and_from (names_apart a b) (roots_rise schema a b)
      (apart_if a b (λ e. differ (sym (name_part schema i one a_kept m a o) ∙ ap (λ k. k.part) e ∙ name_part schema j other b_kept n b p)))
      (rise_if schema a b (λ f g.
      (let x = root_place schema i one a_kept m a o f in
      let y = root_place schema j other b_kept n b p g in
      lower_place schema (row_key schema.types a) (row_key schema.types b) (omega (arith, less, x, y)))))

  sides_apart : list_all (λ rows. list_all (is_before schema rows) (sides_in other)) (sides_in one) ≡ true
  sides_apart =
      each_side schema i one a_kept (λ rows. list_all (is_before schema rows) (sides_in other))
      (λ m. each_side schema j other b_kept (is_before schema (side_at one m))
      (λ n. each_row schema i one a_kept m (λ a. list_all (stand_apart schema a) (side_at other n))
      (λ a o. each_row schema j other b_kept n (stand_apart schema a) (λ b p. rows_apart m n a b o p))))

-- the partitions from a place on
abbrev KeptFrom : Schema → ℕ → List View → Type 0
KeptFrom schema k views = (i place : ℕ) (view : View) → place ≡ k + i → slice_get views i ≡ Some view → KeepsSides schema place view

both_all : (p q : List Row → Bool) (xs : List (List Row)) → list_all p xs ≡ true → list_all q xs ≡ true → list_all (λ x. p x && q x) xs ≡ true
both_all p q [] h k = refl
both_all p q (x ∷ xs) h k =
    let a = and_parts (p x) (list_all p xs) h in
    let b = and_parts (q x) (list_all q xs) k in
    and_from (p x && q x) (list_all (λ x. p x && q x) xs) (and_from (p x) (q x) a.0 b.0) (both_all p q xs a.1 b.1)

rest_from : (schema : Schema) (k : ℕ) (view : View) (views : List View) → KeptFrom schema k (view ∷ views) → KeptFrom schema (k + 1) views
rest_from schema k view views kept i place v at here = kept (suc i) place v (omega (arith, at)) here

across : (schema : Schema) (i : ℕ) (view : View) → KeepsSides schema i view → (views : List View) (k : ℕ) → i < k → KeptFrom schema k views
    → list_all (λ rows. list_all (is_before schema rows) (flat_map sides_in views)) (sides_in view) ≡ true
across schema i view kept [] k less each = each_side schema i view kept (λ rows. list_all (is_before schema rows) []) (λ n. refl)
across schema i view kept (v ∷ views) k less each =
    let here = each 0 k v (omega arith) refl in
    let apart : view.part.number ≡ v.part.number → ⊥ = λ e. parts_apart schema.parts schema.part_numbers i k view.part v.part less kept.defined here.defined e in
    (λ t. list_all (λ rows. list_all-append (is_before schema rows) (sides_in v) (flat_map sides_in views) t) (sides_in view))
    ∙ both_all (λ rows. list_all (is_before schema rows) (sides_in v)) (λ rows. list_all (is_before schema rows) (flat_map sides_in views)) (sides_in view)
    (sides_apart schema i k less view v kept here apart) (across schema i view kept views (k + 1) (omega (arith, less)) (rest_from schema k v views each))

order_from : OrdersJoin → (schema : Schema) (views : List View) (k : ℕ) → KeptFrom schema k views → StandInOrder schema (flat_map sides_in views)
order_from orders schema [] k each = record { each = refl; apart = refl }
order_from orders schema (v ∷ views) k each =
    let here = each 0 k v (omega arith) refl in
    orders schema (sides_in v) (flat_map sides_in views) (within schema k v here) (order_from orders schema views (k + 1) (rest_from schema k v views each))
    (across schema k v here views (k + 1) (omega arith) (rest_from schema k v views each))

-- ---- the list

joined_append : (front back : List (List Row)) → joined (front ++ back) ≡ joined front ++ joined back
joined_append [] back = refl
joined_append (rows ∷ front) back = ap (λ (l : List Row). rows ++ l) (joined_append front back) ∙ sym (append_assoc rows (joined front) (joined back))

side_list : (view : View) → map (λ (r : Homed). r.row) (walked view) ≡ joined (sides_in view)
side_list view = by (is_moving view.state)
  where
    by : (m : Bool) → map (λ (r : Homed). r.row) (cond m (view.rows (view.state.number + 1)) [] ++ view.rows view.state.number)
        ≡ joined (cond m (side_at view (view.state.number + 1) ∷ side_at view view.state.number ∷ []) (side_at view view.state.number ∷ []))
    by true =
        map-append (λ (r : Homed). r.row) (view.rows (view.state.number + 1)) (view.rows view.state.number)
        ∙ ap (λ (l : List Row). side_at view (view.state.number + 1) ++ l) (sym (append-nil (side_at view view.state.number)))
    by false = sym (append-nil (side_at view view.state.number))

list_is : (views : List View) → flat_map (λ view. map (λ (r : Homed). r.row) (walked view)) views ≡ joined (flat_map sides_in views)
list_is [] = refl
list_is (v ∷ views) = (let a = side_list v in let b = list_is views in λ i. a i ++ b i) ∙ sym (joined_append (sides_in v) (flat_map sides_in views))

pub sides_are_a_forest : OrdersJoin → SequencesJoin → ForestsAreSequences → SidesAreAForest
sides_are_a_forest orders sequences forests schema volume kept =
    let order = order_from orders schema volume.parts 0 (λ i place view at here. kept place view (let same : place ≡ i = omega (arith, at) in ap (slice_get volume.parts) same ∙ here)) in
    let list = list_is volume.parts in
    record {
      order = order;
      list = list;
      forest = λ entries. (forests schema (forest_of volume)).sequence (subst (λ (l : List Row). is_in_sequence schema l ≡ true) (sym list) (sequences schema (sides_of volume) order)) entries;
    }

pub sides_act_alike : SidesAreAForest → ChangesStayWithin → InsertionsStayWithin → SidesActAlike
sides_act_alike sides changes insertions schema volume now before side after kept =
    let stand = sides schema volume kept in
    let order : (one : sides_of volume ≡ before ++ side ∷ after) → StandInOrder schema (before ++ side ∷ after) = λ one. subst (StandInOrder schema) one stand.order in
    let list : (one : sides_of volume ≡ before ++ side ∷ after) → forest_of volume ≡ joined (before ++ side ∷ after) = λ one. stand.list ∙ ap joined one in
    record {
      inserts = λ new one comes. list_is now.parts ∙ ap joined one.is ∙ sym (insertions schema before side after new (order one.was) comes) ∙ ap (λ (l : List Row). inserted schema l new) (sym (list one.was));
      cuts = λ name one old.
          list_is now.parts ∙ ap joined one.is ∙ sym (changes schema before side after name (order one.was) old).cut ∙ ap (λ (l : List Row). without_span schema.types l name) (sym (list one.was));
      replaces = λ name content one old.
          list_is now.parts ∙ ap joined one.is ∙ sym ((changes schema before side after name (order one.was) old).replaced content) ∙ ap (λ (l : List Row). replaced l name content) (sym (list one.was));
    }
