-- A table of pages without the data sets that states leave behind.
use Rattle.std.proofs.Common.{◌≡◌, ◌∙◌, ⊎_elim, inl, inr, None, reverse, slice_get, ℕ, zero, suc, ◌+◌, ◌<◌, ◌≤◌, ◌==◌, Bool, true, false, ◌&&◌, ◌||◌, not, cond, nat_le, nat_lt, List, [], ◌∷◌, length, map, drop, get_or, Option, Some, slice_set, refl, sym, ap, subst, arith}
use Rattle.std.specs.Prelude.{◌⊎◌, All, IfNone, IfSome, IsSomeAnd, filter}
use Rattle.std.proofs.lemmas.Option.{same_Some, slice_get-get_or}
use Rattle.data_set_pairs.specs.Kept.{last_free, last_pages}
use Rattle.data_set_pairs.specs.Row.{KeepsNumber, RaisesNumber}
use Rattle.data_set_pairs.specs.Shelf.{blocks_at, view}
use Rattle.data_set_pairs.specs.Volume.{IsLaidOut}
use Rattle.data_set_pairs.proofs.SameNumber.{same_stands}
use Rattle.data_set_pairs.proofs.Staged.{row_staged}
use Rattle.std.specs.List.{list_any}
use Rattle.std.specs.List.Sorted.{IsStrictlyIncreasing}
use Rattle.std.specs.Option.{option_map}
use Rattle.std.proofs.lemmas.Bool.{and_parts, and_from, cases_lt, eq-eqb, eqb-true, false≢true, le-leb, leb-true, lt-ltb, ltb-true, true≢false}
use Rattle.std.proofs.lemmas.List.Elements.{All-filter, All-tail}
use Rattle.std.proofs.lemmas.List.Folds.{Any-from_list_any, list_any_at, list_any_none}
use Rattle.std.proofs.lemmas.List.Kept.{IsNonDecreasingBy-filter}
use Rattle.hal_base.specs.Pages.{rises_from}
use Rattle.hal_base.specs.StoreCalls.{StoreView}
use Rattle.hal_base.specs.declared.pages.SetId.{SetId}
use Rattle.hal_base.specs.declared.place.PartState.{PartState}
use Rattle.volume_image.specs.Header.{kind_in, set_in, is_free, is_left, is_live}
use Rattle.volume_image.specs.Pages.{same_set}
use Rattle.data_set_pairs.specs.declared.place.PagePlace.{PagePlace}
use Rattle.data_set_pairs.specs.declared.table.Table.{Table}
use Rattle.data_set_pairs.specs.Table.{HasPlace, IsBetween, IsTable, set_rank, is_page_of, pages_of, places_of}
use Rattle.data_set_pairs.specs.Image.{are_known, is_held, is_taken, page_at, taken_pages, free_blocks, TableStands}
use Rattle.data_set_pairs.specs.Leaving.{LeavesBehind, LeavesOut, TakesOut}
use Rattle.data_set_pairs.proofs.Falling.{any_blocks}
use Rattle.data_set_pairs.proofs.FreeSteps.{rises_above}
use Rattle.data_set_pairs.proofs.Numbering.{same_any}
use Rattle.data_set_pairs.proofs.ScanSteps.{free_not_taken, known_held, taken_if_live}
use Rattle.data_set_pairs.proofs.ScanTable.{free_rises}
use Rattle.data_set_pairs.proofs.Stepping.{left_set, or_left, or_map, or_right}
use Rattle.data_set_pairs.proofs.TableSteps.{own_set, set_is}

-- ---- rising lists

pub rises : (low : ℕ) (xs : List ℕ) → IsStrictlyIncreasing xs → (0 < length xs → low ≤ get_or xs 0 0) → rises_from low xs ≡ true
rises low [] up from = refl
rises low (x ∷ xs) up from = and_from (nat_le low x) (rises_from (x + 1) xs) (le-leb low x (from (omega arith))) (rises (x + 1) xs (λ k lt. next k (up (suc k) (omega (arith, lt)))) (λ lt. let second = up 0 (omega (arith, lt)) in omega (arith, second)))
  where
    next : (k : ℕ) → get_or xs k 0 < get_or (x ∷ xs) (suc k + 1) 0 → get_or xs k 0 < get_or xs (k + 1) 0
    next k below = let e : suc k + 1 ≡ suc (k + 1) = omega arith in subst (λ (m : ℕ). get_or xs k 0 < get_or (x ∷ xs) m 0) e below

not_there : (low b : ℕ) (xs : List ℕ) → rises_from low xs ≡ true → b < low → list_any (λ n. n == b) xs ≡ false
not_there low b xs rise lt = by (list_any (λ n. n == b) xs) refl
  where
    by : (t : Bool) → list_any (λ n. n == b) xs ≡ t → list_any (λ n. n == b) xs ≡ false
    by false is = is
    by true is = absurd (omega (arith, lt, rises_above low b xs rise is))

-- two lists that rise and have the same numbers
pub same_rising : (low : ℕ) (xs ys : List ℕ) → rises_from low xs ≡ true → rises_from low ys ≡ true → ((b : ℕ) → list_any (λ n. n == b) xs ≡ list_any (λ n. n == b) ys) → xs ≡ ys
same_rising low [] [] one two same = refl
same_rising low [] (y ∷ ys) one two same = absurd (false≢true (same y ∙ ap (λ (b : Bool). b || list_any (λ n. n == y) ys) (eq-eqb y y refl)))
same_rising low (x ∷ xs) [] one two same = absurd (false≢true (sym (same x) ∙ ap (λ (b : Bool). b || list_any (λ n. n == x) xs) (eq-eqb x x refl)))
same_rising low (x ∷ xs) (y ∷ ys) one two same =
    let first = and_parts (nat_le low x) (rises_from (x + 1) xs) one in
    let second = and_parts (nat_le low y) (rises_from (y + 1) ys) two in
    let above : rises_from y (y ∷ ys) ≡ true = and_from (nat_le y y) (rises_from (y + 1) ys) (le-leb y y (omega arith)) second.1 in
    let over : rises_from x (x ∷ xs) ≡ true = and_from (nat_le x x) (rises_from (x + 1) xs) (le-leb x x (omega arith)) first.1 in
    let down = rises_above y x (y ∷ ys) above (sym (same x) ∙ or_left (x == x) (list_any (λ n. n == x) xs) (eq-eqb x x refl)) in
    let up = rises_above x y (x ∷ xs) over (same y ∙ or_left (y == y) (list_any (λ n. n == y) ys) (eq-eqb y y refl)) in
    let at : x ≡ y = omega (arith, down, up) in
    let rest = same_rising (x + 1) xs ys first.1 (subst (λ (n : ℕ). rises_from (n + 1) ys ≡ true) (sym at) second.1) (λ b. tail b (x == b) refl (not_there (x + 1) b xs first.1) (not_there (y + 1) b ys second.1) at (same b)) in
    ap (λ (n : ℕ). n ∷ xs) at ∙ ap (λ (l : List ℕ). y ∷ l) rest
  where
    tail : (b : ℕ) (t : Bool) → (x == b) ≡ t → (b < x + 1 → list_any (λ n. n == b) xs ≡ false) → (b < y + 1 → list_any (λ n. n == b) ys ≡ false) → x ≡ y → (x == b || list_any (λ n. n == b) xs) ≡ (y == b || list_any (λ n. n == b) ys) → list_any (λ n. n == b) xs ≡ list_any (λ n. n == b) ys
    tail b true is left right at same = let here = eqb-true x b is in left (omega (arith, here)) ∙ sym (right (omega (arith, here, at)))
    tail b false is left right at same = sym (ap (λ (t : Bool). t || list_any (λ n. n == b) xs) is) ∙ same ∙ ap (λ (t : Bool). t || list_any (λ n. n == b) ys) (sym (ap (λ (n : ℕ). n == b) at) ∙ is)

-- ---- the blocks that come free

abbrev Further : List PartState → List PartState → Type 0
Further states changed = (set : SetId) → is_left states set ≡ true → is_left changed set ≡ true

free_here : (indexes : ℕ) (states changed : List PartState) (b : List ℕ) → Further states changed → is_held indexes states b ≡ true → is_free changed b ≡ (is_free states b || (is_taken indexes states b && is_left changed (set_in b)))
free_here indexes states changed b further held = by (is_free states b) refl held (kind_in b == 0) refl
  where
    by : (f : Bool) → is_free states b ≡ f → (f || is_taken indexes states b) ≡ true → (k : Bool) → (kind_in b == 0) ≡ k → is_free changed b ≡ (is_free states b || (is_taken indexes states b && is_left changed (set_in b)))
    by true is held k kind = or_map (kind_in b == 0) (is_left states (set_in b)) (kind_in b == 0) (is_left changed (set_in b)) (λ at. at) (further (set_in b)) is ∙ sym (or_left (is_free states b) (is_taken indexes states b && is_left changed (set_in b)) is)
    by false is held true kind = absurd (true≢false (sym (or_left (kind_in b == 0) (is_left states (set_in b)) kind) ∙ is))
    by false is held false kind = ap (λ (k : Bool). k || is_left changed (set_in b)) kind ∙ sym (ap (λ (t : Bool). t && is_left changed (set_in b)) held) ∙ sym (ap (λ (f : Bool). f || (is_taken indexes states b && is_left changed (set_in b))) is)

or_swap : (a b c : Bool) → (a || (b || c)) ≡ (b || (a || c))
or_swap true true c = refl
or_swap true false c = refl
or_swap false b c = refl

or_assoc : (a b c : Bool) → (a || (b || c)) ≡ ((a || b) || c)
or_assoc true b c = refl
or_assoc false b c = refl

free_if : (f t l : Bool) (n : ℕ) (p : PagePlace) (more rest : List ℕ) (pages : List PagePlace) (test : ℕ → Bool) (gone : PagePlace → Bool) → (f ≡ true → t ≡ false) → (f || t) ≡ true → gone p ≡ (l && test n) → list_any test more ≡ (list_any test rest || list_any gone pages)
    → list_any test (cond (f || (t && l)) (n ∷ more) more) ≡ (list_any test (cond f (n ∷ rest) rest) || list_any gone (cond t (p ∷ pages) pages))
free_if true true l n p more rest pages test gone never held is ih = absurd (true≢false (never refl))
free_if true false l n p more rest pages test gone never held is ih = ap (λ (b : Bool). test n || b) ih ∙ or_assoc (test n) (list_any test rest) (list_any gone pages)
free_if false true true n p more rest pages test gone never held is ih = ap (λ (b : Bool). test n || b) ih ∙ or_swap (test n) (list_any test rest) (list_any gone pages) ∙ ap (λ (b : Bool). list_any test rest || (b || list_any gone pages)) (sym is)
free_if false true false n p more rest pages test gone never held is ih = ih ∙ ap (λ (b : Bool). list_any test rest || (b || list_any gone pages)) (sym is)
free_if false false l n p more rest pages test gone never held is ih = absurd (false≢true held)

free_left : (indexes : ℕ) (states changed : List PartState) (n : ℕ) (blocks : List (List ℕ)) (test : ℕ → Bool) → Further states changed → All (λ b. is_held indexes states b ≡ true) blocks → list_any test (free_blocks changed n blocks) ≡ (list_any test (free_blocks states n blocks) || list_any (λ p. is_left changed p.set && test p.block) (taken_pages indexes states n blocks))
free_left indexes states changed n [] test further held = refl
free_left indexes states changed n (b ∷ bs) test further held =
    let here = held 0 b (omega arith) in
    let rest = free_left indexes states changed (n + 1) bs test further (All-tail (λ (b : List ℕ). is_held indexes states b ≡ true) b bs held) in
    ap (λ (f : Bool). list_any test (cond f (n ∷ free_blocks changed (n + 1) bs) (free_blocks changed (n + 1) bs))) (free_here indexes states changed b further here)
    ∙ free_if (is_free states b) (is_taken indexes states b) (is_left changed (set_in b)) n (page_at n b) (free_blocks changed (n + 1) bs) (free_blocks states (n + 1) bs) (taken_pages indexes states (n + 1) bs) test (λ p. is_left changed p.set && test p.block) (free_not_taken indexes states b) here refl rest

-- ---- the pages that stay

taken_here : (indexes : ℕ) (states changed : List PartState) (b : List ℕ) → Further states changed → is_held indexes states b ≡ true → (is_free changed b || is_live indexes changed b) ≡ true → is_taken indexes changed b ≡ (is_taken indexes states b && not (is_left changed (set_in b)))
taken_here indexes states changed b further held known = by (is_left changed (set_in b)) refl (kind_in b == 0) refl
  where
    none : (a : Bool) → (a && false) ≡ false
    none true = refl
    none false = refl

    one : (a : Bool) → (a && true) ≡ a
    one true = refl
    one false = refl

    was : (l : Bool) → is_left states (set_in b) ≡ l → is_left changed (set_in b) ≡ false → (kind_in b == 0) ≡ false → is_taken indexes states b ≡ true
    was true is stays kind = absurd (true≢false (sym (further (set_in b) is) ∙ stays))
    was false is stays kind = sym (ap (λ (f : Bool). f || is_taken indexes states b) (ap (λ (k : Bool). k || is_left states (set_in b)) kind ∙ is)) ∙ held

    by : (l : Bool) → is_left changed (set_in b) ≡ l → (k : Bool) → (kind_in b == 0) ≡ k → is_taken indexes changed b ≡ (is_taken indexes states b && not (is_left changed (set_in b)))
    by true is k kind = free_not_taken indexes changed b (or_right (kind_in b == 0) (is_left changed (set_in b)) is) ∙ sym (ap (λ (l : Bool). is_taken indexes states b && not l) is ∙ none (is_taken indexes states b))
    by false is true kind =
        free_not_taken indexes changed b (or_left (kind_in b == 0) (is_left changed (set_in b)) kind) ∙ sym (ap (λ (t : Bool). t && not (is_left changed (set_in b))) (free_not_taken indexes states b (or_left (kind_in b == 0) (is_left states (set_in b)) kind)))
    by false is false kind =
        let held_free : is_free changed b ≡ false = ap (λ (k : Bool). k || is_left changed (set_in b)) kind ∙ is in
        taken_if_live indexes changed b (sym (ap (λ (f : Bool). f || is_live indexes changed b) held_free) ∙ known)
        ∙ sym (ap (λ (l : Bool). is_taken indexes states b && not l) is ∙ one (is_taken indexes states b) ∙ was (is_left states (set_in b)) refl is kind)

filter_if : (q : PagePlace → Bool) (t : Bool) (p : PagePlace) (ps : List PagePlace) → filter q (cond t (p ∷ ps) ps) ≡ cond (t && q p) (p ∷ filter q ps) (filter q ps)
filter_if q true p ps = refl
filter_if q false p ps = refl

taken_left : (indexes : ℕ) (states changed : List PartState) (n : ℕ) (blocks : List (List ℕ)) → Further states changed → All (λ b. is_held indexes states b ≡ true) blocks → are_known indexes changed blocks ≡ true → taken_pages indexes changed n blocks ≡ filter (λ p. not (is_left changed p.set)) (taken_pages indexes states n blocks)
taken_left indexes states changed n [] further held known = refl
taken_left indexes states changed n (b ∷ bs) further held known =
    let parts = and_parts (is_free changed b || is_live indexes changed b) (are_known indexes changed bs) known in
    let rest = taken_left indexes states changed (n + 1) bs further (All-tail (λ (b : List ℕ). is_held indexes states b ≡ true) b bs held) parts.1 in
    ap (λ (t : Bool). cond t (page_at n b ∷ taken_pages indexes changed (n + 1) bs) (taken_pages indexes changed (n + 1) bs)) (taken_here indexes states changed b further (held 0 b (omega arith)) parts.0)
    ∙ ap (λ (ps : List PagePlace). cond (is_taken indexes states b && not (is_left changed (set_in b))) (page_at n b ∷ ps) ps) rest
    ∙ sym (filter_if (λ p. not (is_left changed p.set)) (is_taken indexes states b) (page_at n b) (taken_pages indexes states (n + 1) bs))

filter_twice : (q test : PagePlace → Bool) (ps : List PagePlace) → filter test (filter q ps) ≡ filter (λ p. q p && test p) ps
filter_twice q test [] = refl
filter_twice q test (p ∷ ps) = filter_if test (q p) p (filter q ps) ∙ ap (λ (l : List PagePlace). cond (q p && test p) (p ∷ l) l) (filter_twice q test ps)

-- the pages of a data set: all of them, or none where it is left behind
pages_if : (e l : Bool) (set : SetId) (left : SetId → Bool) (p : PagePlace) (rest own : List PagePlace) → same_set p.set set ≡ e → (e ≡ true → left p.set ≡ left set) → rest ≡ cond (left set) [] own → cond (not (left p.set) && e) (p ∷ rest) rest ≡ cond (left set) [] (cond e (p ∷ own) own)
pages_if true l set left p rest own is same ih = by (left set) refl (same refl ∙ refl)
  where
    by : (b : Bool) → left set ≡ b → left p.set ≡ left set → cond (not (left p.set) && true) (p ∷ rest) rest ≡ cond (left set) [] (p ∷ own)
    by true at here = ap (λ (b : Bool). cond (not b && true) (p ∷ rest) rest) (here ∙ at) ∙ ih ∙ ap (λ (b : Bool). cond b [] own) at ∙ sym (ap (λ (b : Bool). cond b [] (p ∷ own)) at)
    by false at here = ap (λ (b : Bool). cond (not b && true) (p ∷ rest) rest) (here ∙ at) ∙ ap (λ (r : List PagePlace). p ∷ r) (ih ∙ ap (λ (b : Bool). cond b [] own) at) ∙ sym (ap (λ (b : Bool). cond b [] (p ∷ own)) at)
pages_if false l set left p rest own is same ih = ap (λ (b : Bool). cond b (p ∷ rest) rest) (off (not (left p.set))) ∙ ih
  where
    off : (b : Bool) → (b && false) ≡ false
    off true = refl
    off false = refl

pub pages_left : (states : List PartState) (set : SetId) (pages : List PagePlace) → pages_of set (filter (λ p. not (is_left states p.set)) pages) ≡ cond (is_left states set) [] (pages_of set pages)
pages_left states set pages = filter_twice (λ p. not (is_left states p.set)) (is_page_of set) pages ∙ all pages
  where
    nothing : (b : Bool) (none : List PagePlace) → none ≡ [] → none ≡ cond b [] none
    nothing true none is = is
    nothing false none is = refl

    all : (ps : List PagePlace) → filter (λ p. not (is_left states p.set) && is_page_of set p) ps ≡ cond (is_left states set) [] (pages_of set ps)
    all [] = nothing (is_left states set) [] refl
    all (p ∷ ps) = pages_if (same_set p.set set) true set (is_left states) p (filter (λ p. not (is_left states p.set) && is_page_of set p) ps) (pages_of set ps) refl (λ e. ap (is_left states) (set_is p.set set e)) (all ps)

-- ---- the table

between : (control number n : ℕ) → (nat_le control n && nat_lt n number) ≡ true → IsBetween control number n
between control number n is = let parts = and_parts (nat_le control n) (nat_lt n number) is in record { from = leb-true control n parts.0; to = ltb-true n number parts.1 }

is_between : (control number n : ℕ) → IsBetween control number n → not (nat_le control n && nat_lt n number) ≡ false
is_between control number n is = ap not (and_from (nat_le control n) (nat_lt n number) (le-leb control n is.from) (lt-ltb n number is.to))

left_within : (control number : ℕ) (states : List PartState) (pages more : List PagePlace) (free left : List ℕ) → IsTable control number pages free → LeavesOut states pages free more left → All (IsBetween control number) left
left_within control number states pages more free left table out k d lt = by (nat_le control (get_or left k d) && nat_lt (get_or left k d) number) refl
  where
    outside : ℕ → Bool
    outside n = not (nat_le control n && nat_lt n number)

    zero_right : (a b : Bool) → b ≡ false → (a && b) ≡ false
    zero_right true b is = is
    zero_right false b is = refl

    none : list_any outside left ≡ false
    none = out.same outside ∙ ap (λ (b : Bool). b || list_any (λ p. is_left states p.set && outside p.block) pages) (list_any_none outside free (λ i e low. is_between control number (get_or free i e) (table.free_within i e low)))
        ∙ list_any_none (λ p. is_left states p.set && outside p.block) pages (λ i e low. zero_right (is_left states (get_or pages i e).set) (outside (get_or pages i e).block) (is_between control number (get_or pages i e).block (table.within i e low)))

    by : (b : Bool) → (nat_le control (get_or left k d) && nat_lt (get_or left k d) number) ≡ b → IsBetween control number (get_or left k d)
    by true is = between control number (get_or left k d) is
    by false is = absurd (true≢false (sym (list_any_at outside left k d lt (ap not is)) ∙ none))

pub table_out : (control number : ℕ) (states : List PartState) (pages more : List PagePlace) (free left : List ℕ) → IsTable control number pages free → LeavesOut states pages free more left → IsTable control number more left
table_out control number states pages more free left table out = subst (λ (l : List PagePlace). IsTable control number l left) (sym out.kept) (record {
  order = IsNonDecreasingBy-filter (λ (p : PagePlace). set_rank p.set) q pages table.order;
  run = λ set n d lt. by set n d (is_left states set) refl lt;
  small = All-filter q (λ (p : PagePlace). HasPlace p.set) pages table.small;
  within = All-filter q (λ (p : PagePlace). IsBetween control number p.block) pages table.within;
  rise = rises control left out.rise (λ lt. (left_within control number states pages more free left table out 0 0 lt).from);
  free_within = left_within control number states pages more free left table out;
  every = omega (arith, out.few, table.every, ap length out.kept);
})
  where
    q : PagePlace → Bool
    q p = not (is_left states p.set)

    by : (set : SetId) (n : ℕ) (d : PagePlace) (b : Bool) → is_left states set ≡ b → n < length (pages_of set (filter q pages)) → (get_or (pages_of set (filter q pages)) n d).page ≡ n
    by set n d true is lt = absurd (omega (arith, lt, ap length (pages_left states set pages ∙ ap (λ (b : Bool). cond b [] (pages_of set pages)) is)))
    by set n d false is lt =
        let same : pages_of set (filter q pages) ≡ pages_of set pages = pages_left states set pages ∙ ap (λ (b : Bool). cond b [] (pages_of set pages)) is in
        ap (λ (l : List PagePlace). (get_or l n d).page) same ∙ table.run set n d (omega (arith, lt, ap length same))

pub stands_out : (indexes control number : ℕ) (states changed : List PartState) (pages more : List PagePlace) (free left : List ℕ) (list : List (List ℕ)) → Further states changed → IsTable control number pages free → LeavesOut changed pages free more left → are_known indexes changed (drop control list) ≡ true → TableStands indexes states control pages free list → TableStands indexes changed control more left list
stands_out indexes control number states changed pages more free left list further table out known stands = record {
  taken = λ test.
      ap (λ (l : List PagePlace). length (filter test l)) out.kept ∙ ap length (filter_twice q test pages) ∙ stands.taken (λ p. q p && test p)
      ∙ sym (ap length (filter_twice q test (taken_pages indexes states control (drop control list)))) ∙ sym (ap (λ (l : List PagePlace). length (filter test l)) (taken_left indexes states changed control (drop control list) further stands.held known));
  left = same_rising control left (free_blocks changed control (drop control list)) (table_out control number changed pages more free left table out).rise (free_rises changed control (drop control list)) (λ b.
      out.same (λ n. n == b) ∙ ap (λ (l : List ℕ). list_any (λ n. n == b) l || list_any (λ p. is_left changed p.set && p.block == b) pages) stands.left
      ∙ ap (λ (t : Bool). list_any (λ n. n == b) (free_blocks states control (drop control list)) || t) (sym (same_any (λ p. is_left changed p.set && p.block == b) (taken_pages indexes states control (drop control list)) pages stands.taken))
      ∙ sym (free_left indexes states changed control (drop control list) (λ n. n == b) further stands.held));
  held = known_held indexes changed (drop control list) known;
}
  where
    q : PagePlace → Bool
    q p = not (is_left changed p.set)

-- ---- the table that a change leaves: the same, the one without what is left behind, or one that was read anew

pub raises_or_not : (states : List PartState) (place : ℕ) (s : PartState) → place < length states → RaisesNumber states place s ⊎ (RaisesNumber states place s → ⊥)
raises_or_not states place s lt = by (s.part == (get_or states place s).part && nat_lt (get_or states place s).number s.number) refl
  where
    at : slice_get states place ≡ Some (get_or states place s)
    at = slice_get-get_or states place s lt

    by : (b : Bool) → (s.part == (get_or states place s).part && nat_lt (get_or states place s).number s.number) ≡ b → RaisesNumber states place s ⊎ (RaisesNumber states place s → ⊥)
    by true is =
        let parts = and_parts (s.part == (get_or states place s).part) (nat_lt (get_or states place s).number s.number) is in
        inl (record { old = get_or states place s; is = at; part = eqb-true s.part (get_or states place s).part parts.0; above = ltb-true (get_or states place s).number s.number parts.1 })
    by false is = inr (λ r.
        let same : get_or states place s ≡ r.old = same_Some (get_or states place s) r.old (sym at ∙ r.is) in
        let part : s.part ≡ (get_or states place s).part = r.part ∙ sym (ap (λ (o : PartState). o.part) same) in
        let above : (get_or states place s).number < s.number = omega (arith, r.above, ap (λ (o : PartState). o.number) same) in
        true≢false (sym (and_from (s.part == (get_or states place s).part) (nat_lt (get_or states place s).number s.number) (eq-eqb s.part (get_or states place s).part part) (lt-ltb (get_or states place s).number s.number above)) ∙ is))

pub table_left : (control number : ℕ) (changed : List PartState) (R : Type 0) (o : Option Table) (now : Table) → IsTable control number now.pages.items (reverse now.free.items) → R ⊎ (R → ⊥) → (R → IsSomeAnd o (TakesOut changed now)) → ((R → ⊥) → IfSome o (λ t. IsTable control number t.pages.items (reverse t.free.items)))
    → IsTable control number (last_pages o now) (reverse (last_free o now))
table_left control number changed R None now is raises out anew = is
table_left control number changed R (Some t) now is raises out anew = ⊎_elim (λ r. table_out control number changed now.pages.items t.pages.items (reverse now.free.items) (reverse t.free.items) is (out r)) anew raises

pub stands_left : (indexes control number : ℕ) (states changed : List PartState) (place : ℕ) (s : PartState) (o : Option Table) (now : Table) (told : Option (List (List ℕ))) → changed ≡ slice_set states place s
    → IsTable control number now.pages.items (reverse now.free.items) → ((list : List (List ℕ)) → told ≡ Some list → IsLaidOut indexes control number states now.pages.items (reverse now.free.items) list)
    → IfSome told (λ list. are_known indexes (slice_set states place s) (drop control list) ≡ true) → IfNone o (KeepsNumber states place s) → RaisesNumber states place s ⊎ (RaisesNumber states place s → ⊥) → (RaisesNumber states place s → IsSomeAnd o (TakesOut changed now))
    → ((RaisesNumber states place s → ⊥) → IfSome o (λ t. IfSome told (TableStands indexes changed control t.pages.items (reverse t.free.items)))) → IfSome told (TableStands indexes changed control (last_pages o now) (reverse (last_free o now)))
stands_left indexes control number states changed place s o now None set is laid known keeps raises out anew = tt
stands_left indexes control number states changed place s None now (Some list) set is laid known keeps raises out anew =
    subst (λ (l : List PartState). TableStands indexes l control now.pages.items (reverse now.free.items) list) (sym set)
    (same_stands indexes control states place s now.pages.items (reverse now.free.items) list keeps known (laid list refl).table)
stands_left indexes control number states changed place s (Some t) now (Some list) set is laid known keeps raises out anew =
    ⊎_elim (λ r. stands_out indexes control number states changed now.pages.items t.pages.items (reverse now.free.items) (reverse t.free.items) list (λ at left. ap (λ (l : List PartState). is_left l at) set ∙ left_set states place r.old s at r.is r.part (omega (arith, r.above)) left) is (out r) (ap (λ (l : List PartState). are_known indexes l (drop control list)) set ∙ known) (laid list refl).table) anew raises

any_weaker : (f g : PagePlace → Bool) (ps : List PagePlace) → ((p : PagePlace) → f p ≡ true → g p ≡ true) → list_any f ps ≡ true → list_any g ps ≡ true
any_weaker f g [] so any = absurd (false≢true any)
any_weaker f g (p ∷ ps) so any = or_map (f p) (list_any f ps) (g p) (list_any g ps) (so p) (any_weaker f g ps so) any

places_left : (states : List PartState) (set : SetId) (pages more : List PagePlace) → more ≡ filter (λ p. not (is_left states p.set)) pages → places_of set more ≡ cond (is_left states set) [] (places_of set pages)
places_left states set pages more kept = ap (places_of set) kept ∙ ap (map (λ (p : PagePlace). p.block)) (pages_left states set pages) ∙ over (is_left states set) (pages_of set pages)
  where
    over : (b : Bool) (ps : List PagePlace) → map (λ (p : PagePlace). p.block) (cond b [] ps) ≡ cond b [] (map (λ (p : PagePlace). p.block) ps)
    over true ps = refl
    over false ps = refl

or_other : (a b : Bool) → (a || b) ≡ true → a ≡ false → b ≡ true
or_other true b is wrong = absurd (true≢false wrong)
or_other false b is wrong = is

pub leaves_behind : (indexes control number : ℕ) (states changed : List PartState) (now new : Table) (a b : StoreView) (k : ℕ) (x : List ℕ) → IsTable control number now.pages.items (reverse now.free.items) → TakesOut changed now new → k < control → b.list ≡ option_map (λ list. slice_set list k x) a.list → LeavesBehind changed (view indexes states now a) (view indexes changed new b)
leaves_behind indexes control number states changed now new a b k x table out low staged = record {
  places = λ set. places_left changed set now.pages.items new.pages.items out.kept;
  pages = λ set stays.
      ap (λ (l : List ℕ). option_map (blocks_at l) b.list) (places_left changed set now.pages.items new.pages.items out.kept ∙ ap (λ (t : Bool). cond t [] (places_of set now.pages.items)) (off (is_left changed set) stays))
      ∙ row_staged control number now.pages.items (reverse now.free.items) a.list b.list set k x table low staged;
  free = λ block any. out.same (λ n. n == block) ∙ or_left (list_any (λ n. n == block) (reverse now.free.items)) (list_any (λ p. is_left changed p.set && p.block == block) now.pages.items) any;
  freed = λ set block left any. out.same (λ n. n == block) ∙ or_right (list_any (λ n. n == block) (reverse now.free.items)) (list_any (λ p. is_left changed p.set && p.block == block) now.pages.items)
      (any_weaker (λ p. is_page_of set p && p.block == block) (λ p. is_left changed p.set && p.block == block) now.pages.items (λ p is. let parts = and_parts (is_page_of set p) (p.block == block) is in and_from (is_left changed p.set) (p.block == block) (ap (is_left changed) (set_is p.set set parts.0) ∙ left) parts.1) (sym (any_blocks (λ n. n == block) (is_page_of set) now.pages.items) ∙ any));
  only = λ block any none.
      let found = Any-from_list_any (λ (p : PagePlace). is_left changed p.set && p.block == block) now.pages.items (or_other (list_any (λ n. n == block) (reverse now.free.items)) (list_any (λ p. is_left changed p.set && p.block == block) now.pages.items) (sym (out.same (λ n. n == block)) ∙ any) none) in
      let parts = and_parts (is_left changed found.1.set) (found.1.block == block) found.4 in (
        found.1.set,
        parts.0,
        any_blocks (λ n. n == block) (is_page_of found.1.set) now.pages.items
            ∙ list_any_at (λ p. is_page_of found.1.set p && p.block == block) now.pages.items found.0 found.1 found.2 (ap (λ (p : PagePlace). is_page_of found.1.set p && p.block == block) found.3 ∙ and_from (is_page_of found.1.set found.1) (found.1.block == block) (own_set found.1.set) parts.1),
      );
}
  where
    off : (t : Bool) → not t ≡ true → t ≡ false
    off true is = absurd (false≢true is)
    off false is = refl
