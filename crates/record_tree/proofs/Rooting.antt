-- A stored root to which a row of the root set leads.
use Rattle.std.proofs.Common.{◌≡◌, ℕ, zero, suc, ◌<◌, ◌≤◌, ◌==◌, nat_lt, Bool, true, false, cond, List, [], ◌∷◌, ◌++◌, map, length, insert, Option, None, Some, refl, sym, ap, subst, ◌∙◌, arith, if◌then◌else◌, ⊎_elim}
use Rattle.std.specs.Prelude.{slice_get, slice_index, Contains}
use Rattle.std.specs.List.{list_all}
use Rattle.std.specs.Option.{option_map_or}
use Rattle.std.specs.Ordering.{is_lt}
use Rattle.std.specs.Str.{bytes_eq}
use Rattle.std.proofs.lemmas.Bool.{and_parts, and_from, eqb-true, false≢true}
use Rattle.std.proofs.lemmas.Slice.Eq.{bytes_eq-Decides}
use Rattle.hal_schema.specs.declared.schema.Schema.{Schema}
use Rattle.hal_schema.specs.Forest.{all_pairs}
use Rattle.hal_schema.specs.Roots.{partition_of, anchor_place, root_cmp}
use Rattle.std.specs.Int.{w32, to_be_bytes}
use Rattle.keyed_sets.specs.Layout.{Row, is_below}
use Rattle.keyed_sets.specs.Map.{RowsRise, lookup, with_row}
use Rattle.keyed_sets.proofs.Keys.{not_below}
use Rattle.record_walk.specs.Tree.{Occurrence, Chains, no_chain, chain}
use Rattle.record_walk.specs.Pointers.{Root, with_segment}
use Rattle.record_walk.specs.Orders.{RootsGoByKey}
use Rattle.record_walk.specs.Roots.{with_row as with_chain_row}
use Rattle.record_walk.specs.Side.{RootRow, heads_of, heads_in, key_of, row_key_of, are_keyed, belongs, roots_rise}
use Rattle.record_walk.specs.SideChanges.{set_home}
use Rattle.record_tree.specs.Sides.{root_row}

-- ---- the row's place

abbrev pub row_place : Row → List Row → ℕ
row_place row [] = 0
row_place row (next ∷ rows) = if is_below (next.0) (row.0) then suc (row_place row rows) else 0

-- no row has the key
absent_head : (key : List ℕ) (next : Row) (rows : List Row) → lookup key (next ∷ rows) ≡ None → bytes_eq (next.0) key ≡ false
absent_head key next rows none = by (bytes_eq (next.0) key) none
  where
    by : (b : Bool) → (if b then Some (next.1) else lookup key rows) ≡ None → b ≡ false
    by true e = let wrong : Some (next.1) ≡ None = e in cc
    by false e = refl

absent_rest : (key : List ℕ) (next : Row) (rows : List Row) → lookup key (next ∷ rows) ≡ None → lookup key rows ≡ None
absent_rest key next rows none = by (bytes_eq (next.0) key) none
  where
    by : (b : Bool) → (if b then Some (next.1) else lookup key rows) ≡ None → lookup key rows ≡ None
    by true e = let wrong : Some (next.1) ≡ None = e in cc
    by false e = e

-- so it is below the first row that isn't below it
above_absent : (key : List ℕ) (next : Row) (rows : List Row) → lookup key (next ∷ rows) ≡ None → is_below (next.0) key ≡ false → is_below key (next.0) ≡ true
above_absent key next rows none behind =
    ⊎_elim (λ same. absurd (false≢true (sym (absent_head key next rows none) ∙ (bytes_eq-Decides (next.0) key).1 same))) (λ above. above) (not_below (next.0) key behind)

-- at a row of another key, what comes there
with_row_at : (row next : Row) (rows : List Row) → lookup (row.0) (next ∷ rows) ≡ None
    → with_row row (next ∷ rows) ≡ (if is_below (next.0) (row.0) then next ∷ with_row row rows else row ∷ next ∷ rows)
with_row_at row next rows none = by (is_below (next.0) (row.0)) refl
  where
    by : (b : Bool) → is_below (next.0) (row.0) ≡ b → cond b (next ∷ with_row row rows) (cond (is_below (row.0) (next.0)) (row ∷ next ∷ rows) (row ∷ rows)) ≡ cond b (next ∷ with_row row rows) (row ∷ next ∷ rows)
    by true e = refl
    by false e = ap (λ (c : Bool). cond c (row ∷ next ∷ rows) (row ∷ rows)) (above_absent (row.0) next rows none e)

pub row_placed : (row : Row) (rows : List Row) → lookup (row.0) rows ≡ None → map root_row (with_row row rows) ≡ insert (map root_row rows) (row_place row rows) (root_row row)
row_placed row [] none = refl
row_placed row (next ∷ rows) none = ap (map root_row) (with_row_at row next rows none) ∙ by (is_below (next.0) (row.0)) (row_placed row rows (absent_rest (row.0) next rows none))
  where
    by : (b : Bool) → map root_row (with_row row rows) ≡ insert (map root_row rows) (row_place row rows) (root_row row) → map root_row (cond b (next ∷ with_row row rows) (row ∷ next ∷ rows)) ≡ insert (map root_row (next ∷ rows)) (cond b (suc (row_place row rows)) 0) (root_row row)
    by true rest = ap (λ (l : List RootRow). root_row next ∷ l) rest
    by false rest = refl

pub place_within : (row : Row) (rows : List Row) → row_place row rows ≤ length (map root_row rows)
place_within row [] = omega arith
place_within row (next ∷ rows) = by (is_below (next.0) (row.0)) (place_within row rows)
  where
    by : (b : Bool) → row_place row rows ≤ length (map root_row rows) → cond b (suc (row_place row rows)) 0 ≤ suc (length (map root_row rows))
    by true le = omega (arith, le)
    by false le = omega arith

-- ---- the roots in order

-- the chains with a root that came at a place of its own
abbrev pub rooted : Occurrence → ℕ → ℕ → Chains → Chains
rooted new kinds k trees = with_segment (Root k) new kinds (with_chain_row k trees)

all_append : {X : Type 0} (test : X → Bool) (xs ys : List X) → list_all test xs ≡ true → list_all test ys ≡ true → list_all test (xs ++ ys) ≡ true
all_append test [] ys one two = two
all_append test (x ∷ xs) ys one two = let p = and_parts (test x) (list_all test xs) one in and_from (test x) (list_all test (xs ++ ys)) p.0 (all_append test xs ys p.1 two)

all_front : {X : Type 0} (test : X → Bool) (xs ys : List X) → list_all test (xs ++ ys) ≡ true → (list_all test xs ≡ true) × (list_all test ys ≡ true)
all_front test [] ys all = (refl, all)
all_front test (x ∷ xs) ys all =
    let p = and_parts (test x) (list_all test (xs ++ ys)) all in
    let q = all_front test xs ys p.1 in
    (and_from (test x) (list_all test xs) p.0 q.0, q.1)

all_rooted : (test : Occurrence → Bool) (new : Occurrence) (kinds k : ℕ) (trees : Chains) → test new ≡ true → list_all test (heads_in trees) ≡ true → list_all test (heads_in (rooted new kinds k trees)) ≡ true
all_rooted test new kinds zero trees own all = and_from (test new) (list_all test (heads_in trees)) own all
all_rooted test new kinds (suc k) no_chain own all = refl
all_rooted test new kinds (suc k) (chain twins more) own all =
    let p = all_front test (heads_of twins) (heads_in more) all in
    all_append test (heads_of twins) (heads_in (rooted new kinds k more)) p.0 (all_rooted test new kinds k more own p.1)

-- heads before others, where a root comes to these
rise_before : (test : Occurrence → Occurrence → Bool) (heads : List Occurrence) (new : Occurrence) (kinds k : ℕ) (more : Chains) → list_all (λ a. test a new) heads ≡ true → all_pairs test (heads ++ heads_in more) ≡ true
    → all_pairs test (heads_in (rooted new kinds k more)) ≡ true → all_pairs test (heads ++ heads_in (rooted new kinds k more)) ≡ true
rise_before test [] new kinds k more below pairs rise = rise
rise_before test (a ∷ heads) new kinds k more below pairs rise =
    let b = and_parts (test a new) (list_all (λ x. test x new) heads) below in
    let p = and_parts (list_all (test a) (heads ++ heads_in more)) (all_pairs test (heads ++ heads_in more)) pairs in
    let q = all_front (test a) heads (heads_in more) p.0 in
    and_from (list_all (test a) (heads ++ heads_in (rooted new kinds k more))) (all_pairs test (heads ++ heads_in (rooted new kinds k more)))
    (all_append (test a) heads (heads_in (rooted new kinds k more)) q.0 (all_rooted (test a) new kinds k more b.0 q.1)) (rise_before test heads new kinds k more b.1 p.1 rise)

pairs_behind : (test : Occurrence → Occurrence → Bool) (heads others : List Occurrence) → all_pairs test (heads ++ others) ≡ true → all_pairs test others ≡ true
pairs_behind test [] others all = all
pairs_behind test (a ∷ heads) others all = pairs_behind test heads others (and_parts (list_all (test a) (heads ++ others)) (all_pairs test (heads ++ others)) all).1

-- in PHIDAM a root's row stands under the root's key
pub own_key : (schema : Schema) (root : Occurrence) → schema.phdam ≡ false → row_key_of schema root ≡ key_of schema root
own_key schema root kind = ap (λ (b : Bool). if b then to_be_bytes w32 (anchor_place schema (key_of schema root)) else key_of schema root) kind

-- roots of one partition stand in the order of their keys
before_by_key : RootsGoByKey → (schema : Schema) (place : ℕ) (a b : Occurrence) → schema.phdam ≡ false → belongs schema place a ≡ true → belongs schema place b ≡ true → is_below (key_of schema a) (key_of schema b) ≡ true
    → is_lt (root_cmp schema (key_of schema a) (key_of schema b)) ≡ true
before_by_key law schema place a b kind one two below =
    ap is_lt (law schema (key_of schema a) (key_of schema b) kind (of_test (partition_of schema (key_of schema a)) one ∙ sym (of_test (partition_of schema (key_of schema b)) two))) ∙ below
  where
    of_test : (o : Option ℕ) → option_map_or (λ p. p == place) o false ≡ true → o ≡ Some place
    of_test None e = let wrong : false ≡ true = e in cc
    of_test (Some p) e = ap (λ (n : ℕ). Some n) (eqb-true p place e)

-- the heads of a chain have the key of its row
heads_all : (schema : Schema) (place : ℕ) (key : List ℕ) (test : Occurrence → Bool) → schema.phdam ≡ false → ((a : Occurrence) → key_of schema a ≡ key → belongs schema place a ≡ true → test a ≡ true) → (heads : List Occurrence)
    → list_all (λ root. bytes_eq (row_key_of schema root) key) heads ≡ true → list_all (belongs schema place) heads ≡ true → list_all test heads ≡ true
heads_all schema place key test kind to [] keyed within = refl
heads_all schema place key test kind to (a ∷ heads) keyed within =
    let k = and_parts (bytes_eq (row_key_of schema a) key) (list_all (λ root. bytes_eq (row_key_of schema root) key) heads) keyed in
    let w = and_parts (belongs schema place a) (list_all (belongs schema place) heads) within in
    and_from (test a) (list_all test heads) (to a (sym (own_key schema a kind) ∙ (bytes_eq-Decides (row_key_of schema a) key).0 k.0) w.0) (heads_all schema place key test kind to heads k.1 w.1)

all_above : RootsGoByKey → (schema : Schema) (place : ℕ) (new : Occurrence) → schema.phdam ≡ false → belongs schema place new ≡ true → (rows : List Row) (trees : Chains) → are_keyed schema (map root_row rows) trees ≡ true
    → list_all (belongs schema place) (heads_in trees) ≡ true → ((y : Row) → Contains rows y → is_below (key_of schema new) (y.0) ≡ true) → list_all (λ b. is_lt (root_cmp schema (key_of schema new) (key_of schema b))) (heads_in trees) ≡ true
all_above law schema place new kind own [] no_chain keyed within above = refl
all_above law schema place new kind own [] (chain twins more) keyed within above = absurd (false≢true keyed)
all_above law schema place new kind own (row ∷ rows) no_chain keyed within above = refl
all_above law schema place new kind own (row ∷ rows) (chain twins more) keyed within above =
    let k = and_parts (list_all (λ root. bytes_eq (row_key_of schema root) (row.0)) (heads_of twins)) (are_keyed schema (map root_row rows) more) keyed in
    let w = all_front (belongs schema place) (heads_of twins) (heads_in more) within in
    let test : Occurrence → Bool = λ b. is_lt (root_cmp schema (key_of schema new) (key_of schema b)) in
    all_append test (heads_of twins) (heads_in more)
    (heads_all schema place (row.0) test kind (λ a same of. before_by_key law schema place new a kind own of (subst (λ (l : List ℕ). is_below (key_of schema new) l ≡ true) (sym same) (above row (0, omega arith, refl)))) (heads_of twins) k.0 w.0)
    (all_above law schema place new kind own rows more k.1 w.1 (λ y c. above y (suc (c.0), (let lt = c.1 in omega (arith, lt)), c.2)))

pub rooted_rise : RootsGoByKey → (schema : Schema) (place : ℕ) (new : Occurrence) (kinds : ℕ) (row : Row) → schema.phdam ≡ false → key_of schema new ≡ row.0 → belongs schema place new ≡ true → (rows : List Row) (trees : Chains)
    → lookup (row.0) rows ≡ None → RowsRise (with_row row rows) → are_keyed schema (map root_row rows) trees ≡ true → list_all (belongs schema place) (heads_in trees) ≡ true → roots_rise schema (heads_in trees) ≡ true
    → roots_rise schema (heads_in (rooted new kinds (row_place row rows) trees)) ≡ true
rooted_rise law schema place new kinds row kind key own [] no_chain none rise keyed within roots = refl
rooted_rise law schema place new kinds row kind key own [] (chain twins more) none rise keyed within roots = absurd (false≢true keyed)
rooted_rise law schema place new kinds row kind key own (next ∷ rows) no_chain none rise keyed within roots = absurd (false≢true keyed)
rooted_rise law schema place new kinds row kind key own (next ∷ rows) (chain twins more) none rise keyed within roots =
    let k = and_parts (list_all (λ root. bytes_eq (row_key_of schema root) (next.0)) (heads_of twins)) (are_keyed schema (map root_row rows) more) keyed in
    let w = all_front (belongs schema place) (heads_of twins) (heads_in more) within in
    by (is_below (next.0) (row.0)) refl (subst (λ (l : List Row). RowsRise l) (with_row_at row next rows none) rise) k.0 w.0
    (λ rises. rooted_rise law schema place new kinds row kind key own rows more (absent_rest (row.0) next rows none) rises k.1 w.1
    (pairs_behind (λ a b. is_lt (root_cmp schema (key_of schema a) (key_of schema b))) (heads_of twins) (heads_in more) roots))
  where
    by : (b : Bool) → is_below (next.0) (row.0) ≡ b → RowsRise (cond b (next ∷ with_row row rows) (row ∷ next ∷ rows)) → list_all (λ root. bytes_eq (row_key_of schema root) (next.0)) (heads_of twins) ≡ true
        → list_all (belongs schema place) (heads_of twins) ≡ true → (RowsRise (with_row row rows) → roots_rise schema (heads_in (rooted new kinds (row_place row rows) more)) ≡ true)
        → roots_rise schema (heads_in (rooted new kinds (cond b (suc (row_place row rows)) 0) (chain twins more))) ≡ true
    by true e rises k w rest =
        rise_before (λ a b. is_lt (root_cmp schema (key_of schema a) (key_of schema b))) (heads_of twins) new kinds (row_place row rows) more
        (heads_all schema place (next.0) (λ a. is_lt (root_cmp schema (key_of schema a) (key_of schema new))) kind
        (λ a same of. before_by_key law schema place a new kind of own (ap (λ (l : List ℕ). is_below l (key_of schema new)) same ∙ ap (is_below (next.0)) key ∙ e)) (heads_of twins) k w)
        roots (rest (rises.1))
    by false e rises k w rest =
        and_from (list_all (λ b. is_lt (root_cmp schema (key_of schema new) (key_of schema b))) (heads_in (chain twins more))) (roots_rise schema (heads_in (chain twins more)))
        (all_above law schema place new kind own (next ∷ rows) (chain twins more) keyed within (λ y c. ap (λ (l : List ℕ). is_below l (y.0)) key ∙ rises.0 y c)) roots

-- ---- a row that came

pub insert_at : (rows : List RootRow) (k : ℕ) (row : RootRow) → k ≤ length rows → slice_get (insert rows k row) k ≡ Some row
insert_at rows zero row le = refl
insert_at [] (suc k) row le = absurd (omega (arith, le))
insert_at (r ∷ rows) (suc k) row le = insert_at rows k row (omega (arith, le))

pub insert_leads : (rows : List RootRow) (k : ℕ) (row : RootRow) → k ≤ length rows → slice_index (map (λ (r : RootRow). r.home) (insert rows k row)) k ≡ row.home
insert_leads rows zero row le = refl
insert_leads [] (suc k) row le = absurd (omega (arith, le))
insert_leads (r ∷ rows) (suc k) row le = insert_leads rows k row (omega (arith, le))

pub insert_set : (rows : List RootRow) (k at : ℕ) (row : RootRow) → k ≤ length rows → set_home k at (insert rows k row) ≡ insert rows k (record row { home = at })
insert_set rows zero at row le = refl
insert_set [] (suc k) at row le = absurd (omega (arith, le))
insert_set (r ∷ rows) (suc k) at row le = ap (λ (l : List RootRow). r ∷ l) (insert_set rows k at row (omega (arith, le)))

pub insert_homes : (rows : List RootRow) (k : ℕ) (row : RootRow) → map (λ (r : RootRow). r.home) (insert rows k row) ≡ insert (map (λ (r : RootRow). r.home) rows) k row.home
insert_homes rows zero row = refl
insert_homes [] (suc k) row = refl
insert_homes (r ∷ rows) (suc k) row = ap (λ (l : List ℕ). r.home ∷ l) (insert_homes rows k row)

pub insert_used : (rows : List RootRow) (k : ℕ) (row : RootRow) → list_all (λ (r : RootRow). nat_lt 0 r.home) rows ≡ true → nat_lt 0 row.home ≡ true → list_all (λ (r : RootRow). nat_lt 0 r.home) (insert rows k row) ≡ true
insert_used rows zero row all own = and_from (nat_lt 0 row.home) (list_all (λ (r : RootRow). nat_lt 0 r.home) rows) own all
insert_used [] (suc k) row all own = and_from (nat_lt 0 row.home) true own refl
insert_used (r ∷ rows) (suc k) row all own =
    let p = and_parts (nat_lt 0 r.home) (list_all (λ (x : RootRow). nat_lt 0 x.home) rows) all in
    and_from (nat_lt 0 r.home) (list_all (λ (x : RootRow). nat_lt 0 x.home) (insert rows k row)) p.0 (insert_used rows k row p.1 own)

pub insert_longer : (rows : List RootRow) (k : ℕ) (row : RootRow) → k ≤ length rows → k < length (insert rows k row)
insert_longer rows zero row le = omega arith
insert_longer [] (suc k) row le = absurd (omega (arith, le))
insert_longer (r ∷ rows) (suc k) row le = let further = insert_longer rows k row (omega (arith, le)) in omega (arith, further)
