-- Taking a lawful row keeps a forest.
use Rattle.std.proofs.Common.{◌≡◌, ℕ, zero, suc, ◌+◌, ◌-◌, ◌≤◌, ◌==◌, nat_lt, Bool, true, false, not, cond, ◌&&◌, ◌||◌, List, [], ◌∷◌, ◌++◌, length, drop, insert, Option, Some, None, refl, sym, ap, ◌∙◌, arith}
use Rattle.std.specs.Prelude.{filter, find, unwrap_or, position, ⊤}
use Rattle.std.specs.Cmp.{IsTotalOrder, tied_itself}
use Rattle.std.specs.List.{list_all, last_or, prefix_len, suffix_len, slice_get, position_or_len}
use Rattle.std.specs.Option.{option_map, option_map_or}
use Rattle.std.specs.Ordering.{ordering_reverse, ordering_then, nat_cmp, is_lt, is_le, is_eq}
use Rattle.std.specs.declared.cmp.Ordering.{Ordering}
use Rattle.std.specs.declared.cmp.Ordering.TheVariants.{Less, Equal, Greater}
use Rattle.std.proofs.lemmas.Bool.{and_parts, and_from, eqb-true, eq-eqb, ltb-false, not-true}
use Rattle.std.proofs.lemmas.Cmp.{alike_right, nat_list_cmp_total}
use Rattle.std.proofs.lemmas.Grind.{flat_map-append}
use Rattle.std.proofs.lemmas.List.Sums.{prefix_len-le-length}
use Rattle.std.proofs.lemmas.Map.Text.{is_eq-slice_cmp}
use Rattle.std.proofs.lemmas.Option.{slice_get-map}
use Rattle.hal_base.specs.declared.place.Ilk.{Ilk}
use Rattle.hal_schema.specs.declared.row.Row.{Row}
use Rattle.hal_schema.specs.declared.schema.IndexDef.{IndexDef}
use Rattle.hal_schema.specs.declared.schema.PartDef.{PartDef}
use Rattle.hal_schema.specs.declared.schema.Schema.{Schema}
use Rattle.hal_schema.specs.declared.schema.SegType.{SegType}
use Rattle.hal_schema.specs.Entry.{entries_of, entry_key, is_taken}
use Rattle.hal_schema.specs.Facts.{IsKept, SchemasAreKept}
use Rattle.hal_schema.specs.Forest.{all_pairs, has_length, has_unique_key, in_twin_order, may_follow, is_selected, twin_cmp, twins_rise, rows_are_named, rows_are_below_parents, types_rise, keys_are_placed, is_forest}
use Rattle.hal_schema.specs.Insertion.{is_first, goes_before, is_lower_child, stands_before, through_last, insertion_place, inserted, has_parent_in, has_free_key, enters_freely, may_be_inserted}
use Rattle.hal_schema.specs.Keys.{key_cmp}
use Rattle.hal_schema.specs.Paths.{concatenated_key, paths_of}
use Rattle.hal_schema.specs.Roots.{anchor_of, partition_place, anchor_place, root_cmp}
use Rattle.hal_schema.specs.Row.{same_parent, is_parent, are_twins, is_new_name, row_level, row_key}
use Rattle.forest_laws.specs.Keeping.{InsertionKeeps}
use Rattle.hal_loader.specs.Laws.{TakingKeeps}
use Rattle.hal_loader.specs.Placing.{with_name, goes_by_key, loads_behind, load_place}
use Rattle.hal_loader.specs.Refusals.{twins_of, is_below_last, may_be_taken}
use Rattle.hal_loader.proofs.Judgements.{unique_root}
use Rattle.hal_loader.proofs.KeyOrder.{same_key}
use Rattle.hal_loader.proofs.LastTwins.{last_type, last_schema, level_row, twins_cmp, forest_last, may_last}
use Rattle.hal_loader.proofs.Lists.{suffix_cons}
use Rattle.hal_loader.proofs.Newest.{either, same_parent_is, same_parent_from}

-- ---- tests of each two

all_kept : {X : Type 0} (p t : X → Bool) (xs : List X) → list_all p xs ≡ true → list_all p (filter t xs) ≡ true
all_kept p t [] h = refl
all_kept {X} p t (x ∷ xs) h = let a = and_parts (p x) (list_all p xs) h in by (t x) a.0 (all_kept p t xs a.1)
  where
    by : (b : Bool) → p x ≡ true → list_all p (filter t xs) ≡ true → list_all p (cond b (x ∷ filter t xs) (filter t xs)) ≡ true
    by true one go = and_from (p x) (list_all p (filter t xs)) one go
    by false one go = go

pairs_kept : {X : Type 0} (p : X → X → Bool) (t : X → Bool) (xs : List X) → all_pairs p xs ≡ true → all_pairs p (filter t xs) ≡ true
pairs_kept p t [] h = refl
pairs_kept {X} p t (x ∷ xs) h = let a = and_parts (list_all (p x) xs) (all_pairs p xs) h in by (t x) (all_kept (p x) t xs a.0) (pairs_kept p t xs a.1)
  where
    by : (b : Bool) → list_all (p x) (filter t xs) ≡ true → all_pairs p (filter t xs) ≡ true → all_pairs p (cond b (x ∷ filter t xs) (filter t xs)) ≡ true
    by true one go = and_from (list_all (p x) (filter t xs)) (all_pairs p (filter t xs)) one go
    by false one go = go

all_of_kept : {X : Type 0} (t : X → Bool) (xs : List X) → list_all t (filter t xs) ≡ true
all_of_kept t [] = refl
all_of_kept {X} t (x ∷ xs) = by (t x) refl (all_of_kept t xs)
  where
    by : (b : Bool) → t x ≡ b → list_all t (filter t xs) ≡ true → list_all t (cond b (x ∷ filter t xs) (filter t xs)) ≡ true
    by true e go = and_from (t x) (list_all t (filter t xs)) e go
    by false e go = go

all_or_not : {X : Type 0} (t q : X → Bool) (xs : List X) → list_all q (filter t xs) ≡ true → list_all (λ x. not (t x) || q x) xs ≡ true
all_or_not t q [] h = refl
all_or_not {X} t q (x ∷ xs) h = by (t x) h (all_or_not t q xs)
  where
    by : (b : Bool) → list_all q (cond b (x ∷ filter t xs) (filter t xs)) ≡ true → (list_all q (filter t xs) ≡ true → list_all (λ x. not (t x) || q x) xs ≡ true)
        → ((not b || q x) && list_all (λ x. not (t x) || q x) xs) ≡ true
    by true f go = let a = and_parts (q x) (list_all q (filter t xs)) f in and_from (q x) (list_all (λ x. not (t x) || q x) xs) a.0 (go a.1)
    by false f go = go f

-- ---- the order of roots in PHIDAM is that of their keys

first_place : (p : PartDef → Bool) (parts : List PartDef) → unwrap_or (position p parts) (length parts) ≡ position_or_len p parts
first_place p parts = by (nat_lt (position_or_len p parts) (length parts)) refl
  where
    by : (b : Bool) → nat_lt (position_or_len p parts) (length parts) ≡ b → unwrap_or (cond b (Some (position_or_len p parts)) None) (length parts) ≡ position_or_len p parts
    by true e = refl
    by false e =
        let le = ltb-false (position_or_len p parts) (length parts) e in
        let up = prefix_len-le-length (λ x. not (p x)) parts in
        let same : length parts ≡ position_or_len p parts = omega (arith, le, up) in same

place_up : (p q : PartDef → Bool) (parts : List PartDef) → ((part : PartDef) → q part ≡ true → p part ≡ true) → position_or_len p parts ≤ position_or_len q parts
place_up p q [] w = omega arith
place_up p q (part ∷ parts) w = by (p part) (q part) (w part) (place_up p q parts w)
  where
    by : (b c : Bool) → (c ≡ true → b ≡ true) → position_or_len p parts ≤ position_or_len q parts
        → cond (not b) (1 + position_or_len p parts) 0 ≤ cond (not c) (1 + position_or_len q parts) 0
    by true c e go = let n : 0 ≤ cond (not c) (1 + position_or_len q parts) 0 = omega arith in n
    by false true e go = let h : false ≡ true = e refl in cc h
    by false false e go = let n : 1 + position_or_len p parts ≤ 1 + position_or_len q parts = omega (arith, go) in n

key_up : (a b high : List ℕ) → key_cmp a b ≡ Less → is_le (key_cmp b high) ≡ true → is_le (key_cmp a high) ≡ true
key_up a b high less le = by (key_cmp b high) refl le
  where
    o : IsTotalOrder key_cmp
    o = nat_list_cmp_total

    by : (c : Ordering) → key_cmp b high ≡ c → is_le c ≡ true → is_le (key_cmp a high) ≡ true
    by Less e h = ap is_le (o.trans a b high less e)
    by Equal e h = ap is_le (sym (alike_right o b high a e) ∙ less)
    by Greater e h = cc h

pub partitions_up : (schema : Schema) (a b : List ℕ) → key_cmp a b ≡ Less → partition_place schema a ≤ partition_place schema b
partitions_up schema a b less =
    let at : List ℕ → PartDef → Bool = λ key part. is_le (key_cmp key part.high) in
    let up = place_up (at a) (at b) schema.parts (λ part h. key_up a b part.high less h) in
    let e = first_place (at a) schema.parts in
    let f = first_place (at b) schema.parts in
    omega (arith, up, e, f)

number_le : (m n : ℕ) → m ≤ n → (o : Ordering) → is_le o ≡ true → is_le (ordering_then (nat_cmp m n) o) ≡ true
number_le m n le o h = by (nat_lt m n) (m == n) refl refl
  where
    by : (b c : Bool) → nat_lt m n ≡ b → (m == n) ≡ c → is_le (ordering_then (cond b Less (cond c Equal Greater)) o) ≡ true
    by true c e f = refl
    by false true e f = h
    by false false e f =
        let ge = ltb-false m n e in
        let same : m ≡ n = omega (arith, le, ge) in
        let no : true ≡ false = sym (eq-eqb m n same) ∙ f in cc no

root_le : (schema : Schema) → IsTotalOrder (root_cmp schema) → (a b : List ℕ) → schema.phdam ≡ false → is_le (key_cmp a b) ≡ true → is_le (root_cmp schema a b) ≡ true
root_le schema total a b plain le = by (key_cmp a b) refl le
  where
    anchors : (key : List ℕ) → anchor_place schema key ≡ 0
    anchors key = ap (λ (b : Bool). cond b (option_map_or (λ (part : PartDef). anchor_of part.anchors key) (slice_get schema.parts (partition_place schema key)) 0) 0) plain

    by : (o : Ordering) → key_cmp a b ≡ o → is_le o ≡ true → is_le (root_cmp schema a b) ≡ true
    by Less e h =
        let inner : is_le (ordering_then (nat_cmp (anchor_place schema a) (anchor_place schema b)) (key_cmp a b)) ≡ true =
        number_le (anchor_place schema a) (anchor_place schema b) (let x = anchors a in let y = anchors b in let n : anchor_place schema a ≤ anchor_place schema b = omega (arith, x, y) in n) (key_cmp a b) (ap is_le e) in
        number_le (partition_place schema a) (partition_place schema b) (partitions_up schema a b e) (ordering_then (nat_cmp (anchor_place schema a) (anchor_place schema b)) (key_cmp a b)) inner
    by Equal e h =
        let same : a ≡ b = same_key a b (sym (is_eq-slice_cmp a b) ∙ ap is_eq e) in
        ap is_le (ap (λ (k : List ℕ). root_cmp schema a k) (sym same) ∙ tied_itself total a)
    by Greater e h = cc h

-- ---- no twin is above the new row

abbrev order_at : Schema → ℕ → List ℕ → List ℕ → Ordering
order_at schema code a b = cond (code == 1) (root_cmp schema a b) (key_cmp a b)

order_by : (b : Bool) (R S : List ℕ → List ℕ → Ordering) → IsTotalOrder R → IsTotalOrder S → IsTotalOrder (λ x y. cond b (R x y) (S x y))
order_by true R S r s = record { antisymm = r.antisymm; trans = r.trans; congr = r.congr }
order_by false R S r s = record { antisymm = s.antisymm; trans = s.trans; congr = s.congr }

le_trans : (R : List ℕ → List ℕ → Ordering) → IsTotalOrder R → (x y z : List ℕ) (o p : Ordering) → R x y ≡ o → R y z ≡ p → is_le o ≡ true → is_le p ≡ true → is_le (R x z) ≡ true
le_trans R t x y z Less Less e f a b = ap is_le (t.trans x y z e f)
le_trans R t x y z Less Equal e f a b = ap is_le (sym (alike_right t y z x f) ∙ e)
le_trans R t x y z Less Greater e f a b = cc b
le_trans R t x y z Equal p e f a b = ap is_le (t.congr x y z e ∙ f) ∙ b
le_trans R t x y z Greater p e f a b = cc a

pub follow_le : (u : Bool) (o : Ordering) → cond u (is_lt o) (is_le o) ≡ true → is_le o ≡ true
follow_le true Less h = refl
follow_le true Equal h = cc h
follow_le true Greater h = cc h
follow_le false o h = h

not_lt_le : (a b : List ℕ) → is_lt (key_cmp b a) ≡ false → is_le (key_cmp a b) ≡ true
not_lt_le a b h = ap is_le (o.antisymm a b) ∙ by (key_cmp b a) h
  where
    o : IsTotalOrder key_cmp
    o = nat_list_cmp_total

    by : (c : Ordering) → is_lt c ≡ false → is_le (ordering_reverse c) ≡ true
    by Less k = cc k
    by Equal k = refl
    by Greater k = refl

-- the last twin is not above it
last_le : (schema : Schema) → IsTotalOrder (root_cmp schema) → (new x : Row) → goes_by_key schema new ≡ false → are_twins x new ≡ true
    → is_lt (key_cmp (row_key schema.types new) (row_key schema.types x)) ≡ false → is_le (twin_cmp schema x new) ≡ true
last_le schema total new x plain twins h = by (x.code == 1) refl
  where
    le : is_le (key_cmp (row_key schema.types x) (row_key schema.types new)) ≡ true
    le = not_lt_le (row_key schema.types x) (row_key schema.types new) h

    code : x.code ≡ new.code
    code = eqb-true x.code new.code (and_parts (x.code == new.code) (same_parent x.parent new.parent) twins).0

    not_root : (p r : Bool) → (p && r) ≡ false → r ≡ true → p ≡ false
    not_root true true e f = cc e
    not_root true false e f = cc f
    not_root false r e f = refl

    by : (b : Bool) → (x.code == 1) ≡ b → is_le (cond b (root_cmp schema (row_key schema.types x) (row_key schema.types new)) (key_cmp (row_key schema.types x) (row_key schema.types new))) ≡ true
    by true e = root_le schema total (row_key schema.types x) (row_key schema.types new) (not_root schema.phdam (new.code == 1) plain (ap (λ (c : ℕ). c == 1) (sym code) ∙ e)) le
    by false e = le

chain : (schema : Schema) → IsTotalOrder (root_cmp schema) → (new : Row) → goes_by_key schema new ≡ false → (ts : List Row) → list_all (λ r. are_twins r new) ts ≡ true → all_pairs (in_twin_order schema) ts ≡ true
    → option_map_or (λ twin. is_lt (key_cmp (row_key schema.types new) (row_key schema.types twin))) (last_or None ts) false ≡ false
    → list_all (λ r. is_le (twin_cmp schema r new)) ts ≡ true
chain schema total new plain [] twins order last = refl
chain schema total new plain (x ∷ []) twins order last =
    and_from (is_le (twin_cmp schema x new)) true (last_le schema total new x plain (and_parts (are_twins x new) true twins).0 last) refl
chain schema total new plain (x ∷ y ∷ ts) twins order last =
    let t = and_parts (are_twins x new) (list_all (λ r. are_twins r new) (y ∷ ts)) twins in
    let u = and_parts (are_twins y new) (list_all (λ r. are_twins r new) ts) t.1 in
    let o = and_parts (list_all (in_twin_order schema x) (y ∷ ts)) (all_pairs (in_twin_order schema) (y ∷ ts)) order in
    let p = and_parts (in_twin_order schema x y) (list_all (in_twin_order schema x) ts) o.0 in
    let go = chain schema total new plain (y ∷ ts) t.1 o.1 last in
    let near = and_parts (is_le (twin_cmp schema y new)) (list_all (λ r. is_le (twin_cmp schema r new)) ts) go in
    let tx = and_parts (x.code == new.code) (same_parent x.parent new.parent) t.0 in
    let ty = and_parts (y.code == new.code) (same_parent y.parent new.parent) u.0 in
    let code : x.code ≡ y.code = eqb-true x.code new.code tx.0 ∙ sym (eqb-true y.code new.code ty.0) in
    let parent : x.parent ≡ y.parent = same_parent_is x.parent new.parent tx.1 ∙ sym (same_parent_is y.parent new.parent ty.1) in
    let both : are_twins x y ≡ true = and_from (x.code == y.code) (same_parent x.parent y.parent) (eq-eqb x.code y.code code) (same_parent_from x.parent y.parent parent) in
    let follows = follow_le (has_unique_key schema.types x.code) (twin_cmp schema x y) (either (are_twins x y) (may_follow schema x y) p.0 both) in
    let order_x : IsTotalOrder (order_at schema x.code) = order_by (x.code == 1) (root_cmp schema) key_cmp total nat_list_cmp_total in
    let up : is_le (order_at schema x.code (row_key schema.types y) (row_key schema.types new)) ≡ true =
    ap (λ (c : ℕ). is_le (order_at schema c (row_key schema.types y) (row_key schema.types new))) code ∙ near.0 in
    and_from (is_le (twin_cmp schema x new)) (list_all (λ r. is_le (twin_cmp schema r new)) (y ∷ ts))
    (le_trans (order_at schema x.code) order_x (row_key schema.types x) (row_key schema.types y) (row_key schema.types new) (twin_cmp schema x y) (order_at schema x.code (row_key schema.types y) (row_key schema.types new)) refl refl follows up) go

-- ---- a load is an insertion where twins of equal keys stand last

abbrev Agree : (Row → Bool) → (Row → Bool) → List Row → Type 0
Agree p q [] = ⊤
Agree p q (r ∷ rows) = (p r ≡ q r) × Agree p q rows

suffix_same : (p q : Row → Bool) (rows : List Row) → Agree p q rows → suffix_len (λ r. not (p r)) rows ≡ suffix_len (λ r. not (q r)) rows
suffix_same p q [] h = refl
suffix_same p q (r ∷ rows) h =
    suffix_cons (λ r. not (p r)) r rows
    ∙ (λ i. cond (suffix_same p q rows h.1 i == length rows) (length rows + cond (not (h.0 i)) 1 0) (suffix_same p q rows h.1 i))
    ∙ sym (suffix_cons (λ r. not (q r)) r rows)

agree : (p q : Row → Bool) (t u : Row → Bool) → ((r : Row) → t r ≡ true → u r ≡ true → p r ≡ q r) → (rows : List Row) → list_all t rows ≡ true → list_all u rows ≡ true → Agree p q rows
agree p q t u w [] a b = tt
agree p q t u w (r ∷ rows) a b =
    let c = and_parts (t r) (list_all t rows) a in
    let d = and_parts (u r) (list_all u rows) b in
    (w r c.0 d.0, agree p q t u w rows c.1 d.1)

not_first : (schema : Schema) (code : ℕ) → is_first (last_schema schema) code ≡ false
not_first schema zero = refl
not_first schema (suc place) = ap (λ (o : Option SegType). option_map_or (λ (t : SegType). t.first) o false) (slice_get-map last_type schema.types place) ∙ by (slice_get schema.types place)
  where
    by : (o : Option SegType) → option_map_or (λ (t : SegType). t.first) (option_map last_type o) false ≡ false
    by None = refl
    by (Some t) = refl

same_side : (t g : Bool) (o : Ordering) → (not g || not (t && is_eq o)) ≡ true → (g || (not t || is_le o)) ≡ true → (t && (not g || is_lt o)) ≡ (t && goes_before false o)
same_side false g o a b = refl
same_side true true Less a b = refl
same_side true true Equal a b = cc a
same_side true true Greater a b = refl
same_side true false Less a b = refl
same_side true false Equal a b = refl
same_side true false Greater a b = cc b

all_true : (rows : List Row) → list_all (λ r. true) rows ≡ true
all_true [] = refl
all_true (r ∷ rows) = all_true rows

-- what a taker asks of a row, part by part
record Asked (schema : Schema) (rows : List Row) (row : Row) : Type 0 where
  parent : has_parent_in schema.types rows row ≡ true
  last : (not (goes_by_key schema row) && is_below_last schema.types rows row) ≡ false
  free : has_free_key schema rows row ≡ true
  chosen : is_selected schema row ≡ true

asked : (schema : Schema) (rows : List Row) (row : Row) → may_be_taken schema rows row ≡ true → Asked schema rows row
asked schema rows row h =
    let under = not (goes_by_key schema row) && is_below_last schema.types rows row in
    let a = and_parts (has_parent_in schema.types rows row && not under && has_free_key schema rows row) (is_selected schema row) h in
    let b = and_parts (has_parent_in schema.types rows row && not under) (has_free_key schema rows row) a.0 in
    let c = and_parts (has_parent_in schema.types rows row) (not under) b.0 in
    record { parent = c.0; last = not-true under c.1; free = b.1; chosen = a.1 }

no_tie : (schema : Schema) (rows : List Row) (new : Row) → IsKept schema → has_free_key schema rows new ≡ true
    → list_all (λ r. not (goes_by_key schema new) || not (are_twins r new && is_eq (twin_cmp schema r new))) rows ≡ true
no_tie schema rows new kept free = by schema.phdam (new.code == 1) refl
  where
    by : (p r : Bool) → (new.code == 1) ≡ r → list_all (λ x. not (p && r) || not (are_twins x new && is_eq (twin_cmp schema x new))) rows ≡ true
    by true true e =
        let unique : has_unique_key schema.types new.code ≡ true = ap (has_unique_key schema.types) (eqb-true new.code 1 e) ∙ unique_root schema kept in
        either (has_unique_key schema.types new.code) (list_all (λ x. not (are_twins x new && is_eq (twin_cmp schema x new))) rows) free unique
    by true false e = all_true rows
    by false r e = all_true rows

none_above : (schema : Schema) (rows : List Row) (new : Row) → IsTotalOrder (root_cmp schema) → all_pairs (in_twin_order schema) rows ≡ true
    → (not (goes_by_key schema new) && is_below_last schema.types rows new) ≡ false
    → list_all (λ r. goes_by_key schema new || (not (are_twins r new) || is_le (twin_cmp schema r new))) rows ≡ true
none_above schema rows new total order last = by (goes_by_key schema new) refl last
  where
    by : (g : Bool) → goes_by_key schema new ≡ g → (not g && is_below_last schema.types rows new) ≡ false
        → list_all (λ r. g || (not (are_twins r new) || is_le (twin_cmp schema r new))) rows ≡ true
    by true e h = all_true rows
    by false e h =
        all_or_not (λ r. are_twins r new) (λ r. is_le (twin_cmp schema r new)) rows
        (chain schema total new e (twins_of rows new) (all_of_kept (λ r. are_twins r new) rows) (pairs_kept (in_twin_order schema) (λ r. are_twins r new) rows order) h)

behind_same : (schema : Schema) (rows : List Row) (new : Row) → IsKept schema → IsTotalOrder (root_cmp schema) → all_pairs (in_twin_order schema) rows ≡ true → Asked schema rows new
    → Agree (loads_behind schema new) (stands_before (last_schema schema) new) rows
behind_same schema rows new kept total order a =
    agree (loads_behind schema new) (stands_before (last_schema schema) new)
    (λ r. not (goes_by_key schema new) || not (are_twins r new && is_eq (twin_cmp schema r new))) (λ r. goes_by_key schema new || (not (are_twins r new) || is_le (twin_cmp schema r new)))
    each rows (no_tie schema rows new kept a.free) (none_above schema rows new total order a.last)
  where
    each : (r : Row) → (not (goes_by_key schema new) || not (are_twins r new && is_eq (twin_cmp schema r new))) ≡ true
        → (goes_by_key schema new || (not (are_twins r new) || is_le (twin_cmp schema r new))) ≡ true → loads_behind schema new r ≡ stands_before (last_schema schema) new r
    each r x y = ap (λ (b : Bool). is_parent r new || is_lower_child new r || b)
        (same_side (are_twins r new) (goes_by_key schema new) (twin_cmp schema r new) x y
        ∙ ap (λ (f : Bool). are_twins r new && goes_before f (twin_cmp schema r new)) (sym (not_first schema new.code))
        ∙ ap (λ (c : Row → Row → Ordering). are_twins r new && goes_before (is_first (last_schema schema) new.code) (c r new)) (sym (twins_cmp schema)))

place_same : (schema : Schema) (rows : List Row) (new : Row) → Agree (loads_behind schema new) (stands_before (last_schema schema) new) rows
    → load_place schema rows new ≡ insertion_place (last_schema schema) rows new
place_same schema rows new same =
    let after : ℕ = through_last (stands_before (last_schema schema) new) rows in
    let e : through_last (loads_behind schema new) rows ≡ through_last (stands_before (last_schema schema) new) rows = ap (λ n. length rows - n) (suffix_same (loads_behind schema new) (stands_before (last_schema schema) new) rows same) in
    ap (λ k. k + prefix_len (λ row. nat_lt (row_level schema.types new) (row_level schema.types row)) (drop k rows)) e
    ∙ ap (λ (l : Row → ℕ). through_last (stands_before (last_schema schema) new) rows + prefix_len (λ row. nat_lt (l new) (l row)) (drop (through_last (stands_before (last_schema schema) new) rows) rows)) (sym (level_row schema.types))

-- no test looks at the new row's name
pub entries_named : (types : List SegType) (rows : List Row) (row : Row) (name : Ilk) (indexes : List IndexDef)
    → list_all (enters_freely types rows (with_name row name)) indexes ≡ list_all (enters_freely types rows row) indexes
entries_named types rows row name indexes = ap (λ (f : IndexDef → Bool). list_all f indexes) (λ i index. each index i)
  where
    above : List Row
    above = option_map_or (λ (p : List Row × Row). p.0) (find (λ (p : List Row × Row). is_parent p.1 row) (paths_of types rows)) []

    keys : concatenated_key types (above ++ with_name row name ∷ []) ≡ concatenated_key types (above ++ row ∷ [])
    keys = flat_map-append (row_key types) above (with_name row name ∷ []) ∙ sym (flat_map-append (row_key types) above (row ∷ []))

    each : (index : IndexDef) → enters_freely types rows (with_name row name) index ≡ enters_freely types rows row index
    each index = ap (λ (k : List ℕ). not (row.code == index.source) || option_map_or (λ key. not (is_taken key (entries_of types index rows))) (entry_key index row.content k) true) keys

pub taking_kept : SchemasAreKept → InsertionKeeps → ((schema : Schema) → IsTotalOrder (root_cmp schema)) → TakingKeeps
taking_kept kept inserting total schema rows row name forest comes =
    let new = with_name row name in
    let a = asked schema rows row comes.fits in
    let b : Asked schema rows (with_name row name) = record { parent = a.parent; last = a.last; free = a.free; chosen = a.chosen } in
    let order = (and_parts (rows_are_named schema.types rows && rows_are_below_parents schema.types rows && types_rise rows) (twins_rise schema rows)
    (and_parts (rows_are_named schema.types rows && rows_are_below_parents schema.types rows && types_rise rows && twins_rise schema rows) (keys_are_placed schema rows) forest).0).1 in
    let same = behind_same schema rows new (kept schema) (total schema) order b in
    let entries : list_all (enters_freely schema.types rows (with_name row name)) schema.indexes ≡ true = entries_named schema.types rows row name schema.indexes ∙ comes.entries in
    let may : may_be_inserted schema rows (with_name row name) ≡ true =
    and_from (has_length schema.types new && is_new_name rows name && has_parent_in schema.types rows new && has_free_key schema rows new && is_selected schema new) (list_all (enters_freely schema.types rows new) schema.indexes)
    (and_from (has_length schema.types new && is_new_name rows name && has_parent_in schema.types rows new && has_free_key schema rows new) (is_selected schema new)
    (and_from (has_length schema.types new && is_new_name rows name && has_parent_in schema.types rows new) (has_free_key schema rows new)
    (and_from (has_length schema.types new && is_new_name rows name) (has_parent_in schema.types rows new)
    (and_from (has_length schema.types new) (is_new_name rows name) comes.long comes.new) a.parent) a.free) a.chosen) entries in
    let is : is_forest (last_schema schema) (inserted (last_schema schema) rows (with_name row name)) ≡ true =
    inserting (last_schema schema) rows new (forest_last schema rows ∙ forest) (may_last schema rows new ∙ may) in
    ap (λ (k : ℕ). is_forest schema (insert rows k new)) (place_same schema rows new same) ∙ sym (forest_last schema (inserted (last_schema schema) rows new)) ∙ is
