-- Which blocks are free, and which are live, where a partition goes on to another state.
use Rattle.std.proofs.Common.{◌≡◌, ◌∙◌, ℕ, zero, suc, ◌+◌, ◌≤◌, ◌==◌, Bool, true, false, ◌&&◌, ◌||◌, not, cond, nat_lt, List, [], ◌∷◌, length, map, slice_get, slice_set, Some, refl, sym, ap, arith}
use Rattle.std.specs.List.{list_any}
use Rattle.std.proofs.lemmas.Bool.{and_parts, and_from, eq-eqb, eqb-true, false≢true, lt-ltb, ltb-true, true≢false}
use Rattle.std.proofs.lemmas.Option.{none-some, same_Some}
use Rattle.hal_base.specs.declared.pages.SetId.{SetId}
use Rattle.hal_base.specs.declared.place.PartState.{PartState}
use Rattle.volume_image.specs.Header.{kind_in, set_in, page_in, has_set, is_of, is_of_side, is_index_set, is_free, is_left, is_live, is_live_set, leaves_behind, other_side, says_no_more}
use Rattle.volume_image.specs.Pages.{is_in_set, same_set, set_blocks}
use Rattle.data_set_pairs.specs.Image.{are_known, AreNumbered}
use Rattle.data_set_pairs.specs.Row.{GoesOn, Switches}
use Rattle.data_set_pairs.proofs.TableSteps.{set_is}

-- what is left behind stays so, and what is live is live still or left behind
pub record IsStep (indexes : ℕ) (states changed : List PartState) : Type 0 where
  pub left : (set : SetId) → is_left states set ≡ true → is_left changed set ≡ true
  pub live : (kind : ℕ) (set : SetId) → is_live_set indexes states kind set ≡ true → is_left changed set ≡ false → is_live_set indexes changed kind set ≡ true

pub or_right : (a b : Bool) → b ≡ true → (a || b) ≡ true
or_right true b is = refl
or_right false b is = is

pub or_left : (a b : Bool) → a ≡ true → (a || b) ≡ true
or_left true b is = refl
or_left false b is = absurd (false≢true is)

pub or_map : (a b c d : Bool) → (a ≡ true → c ≡ true) → (b ≡ true → d ≡ true) → (a || b) ≡ true → (c || d) ≡ true
or_map true b c d first second is = or_left c d (first refl)
or_map false b c d first second is = or_right c d (second is)

any_set : (f : PartState → Bool) (xs : List PartState) (k : ℕ) (old s : PartState) → slice_get xs k ≡ Some old → (f old ≡ true → f s ≡ true) → list_any f xs ≡ true → list_any f (slice_set xs k s) ≡ true
any_set f [] k old s is so any = absurd (none-some old is)
any_set f (x ∷ xs) zero old s is so any = or_map (f x) (list_any f xs) (f s) (list_any f xs) (λ at. so (ap f (sym (same_Some x old is)) ∙ at)) (λ more. more) any
any_set f (x ∷ xs) (suc k) old s is so any = or_map (f x) (list_any f xs) (f x) (list_any f (slice_set xs k s)) (λ at. at) (λ more. any_set f xs k old s is so more) any

pub left_set : (states : List PartState) (place : ℕ) (old s : PartState) (set : SetId) → slice_get states place ≡ Some old → s.part ≡ old.part → old.number ≤ s.number → is_left states set ≡ true → is_left (slice_set states place s) set ≡ true
left_set states place old s set is part up left =
    let parts = and_parts (not (set.letter == 76)) (list_any (leaves_behind set) states) left in
    and_from (not (set.letter == 76)) (list_any (leaves_behind set) (slice_set states place s)) parts.0 (any_set (leaves_behind set) states place old s is so parts.1)
  where
    so : leaves_behind set old ≡ true → leaves_behind set s ≡ true
    so behind =
        let both = and_parts (old.part == set.part) (nat_lt set.number old.number) behind in
        let low = ltb-true set.number old.number both.1 in
        and_from (s.part == set.part) (nat_lt set.number s.number) (ap (λ (p : ℕ). p == set.part) part ∙ both.0) (lt-ltb set.number s.number (omega (arith, low, up)))

live_set : (indexes : ℕ) (states : List PartState) (place : ℕ) (old s : PartState) (kind : ℕ) (set : SetId) → slice_get states place ≡ Some old → (is_of set old ≡ true → is_of set s ≡ true) → is_live_set indexes states kind set ≡ true → is_live_set indexes (slice_set states place s) kind set ≡ true
live_set indexes states place old s kind set is so live = or_map (list_any (is_of set) states) (kind == 2 && is_index_set indexes set) (list_any (is_of set) (slice_set states place s)) (kind == 2 && is_index_set indexes set) (any_set (is_of set) states place old s is so) (λ index. index) live

-- ---- a state of the same number and side

goes_if : (l z a n o i j : Bool) → (j ≡ true → i ≡ true) → cond l z (a || not i && n && o) ≡ true → cond l z (a || not j && n && o) ≡ true
goes_if true z a n o i j idle is = is
goes_if false z true n o i j idle is = refl
goes_if false z false n o true j idle is = absurd (false≢true is)
goes_if false z false n o false true idle is = absurd (false≢true (idle refl))
goes_if false z false n o false false idle is = is

pub goes_on : (indexes : ℕ) (states : List PartState) (place : ℕ) (s : PartState) → GoesOn states place s → IsStep indexes states (slice_set states place s)
goes_on indexes states place s t = record {
  left = λ set. left_set states place t.old s set t.is t.part (omega (arith, t.number));
  live = λ kind set live kept. live_set indexes states place t.old s kind set t.is (of set) live;
}
  where
    of : (set : SetId) → is_of set t.old ≡ true → is_of set s ≡ true
    of set is =
        let both = and_parts (t.old.part == set.part) (has_set t.old set) is in
        let number : has_set t.old set ≡ cond (set.letter == 76) (set.number == 0) (set.number == s.number && is_of_side t.old.side set.letter || not (t.old.state == 73) && set.number == s.number + 1 && is_of_side (other_side t.old.side) set.letter) = ap (λ (n : ℕ). cond (set.letter == 76) (set.number == 0) (set.number == n && is_of_side t.old.side set.letter || not (t.old.state == 73) && set.number == n + 1 && is_of_side (other_side t.old.side) set.letter)) (sym t.number) in
        let side : has_set t.old set ≡ cond (set.letter == 76) (set.number == 0) (set.number == s.number && is_of_side s.side set.letter || not (t.old.state == 73) && set.number == s.number + 1 && is_of_side (other_side s.side) set.letter) = number ∙ ap (λ (k : ℕ). cond (set.letter == 76) (set.number == 0) (set.number == s.number && is_of_side k set.letter || not (t.old.state == 73) && set.number == s.number + 1 && is_of_side (other_side k) set.letter)) (sym t.side) in
        and_from (s.part == set.part) (has_set s set) (ap (λ (p : ℕ). p == set.part) t.part ∙ both.0)
        (goes_if (set.letter == 76) (set.number == 0) (set.number == s.number && is_of_side s.side set.letter) (set.number == s.number + 1) (is_of_side (other_side s.side) set.letter) (t.old.state == 73) (s.state == 73) (λ idle. eq-eqb t.old.state 73 (t.idle (eqb-true s.state 73 idle))) (sym side ∙ both.1))

-- ---- the next number and the other side

switch_if : (l z a n o m p : Bool) (more : Bool) → (a ≡ true → l ≡ false → ⊥) → (n ≡ true → m ≡ true) → (o ≡ true → p ≡ true) → (i : Bool) → cond l z (a || not i && n && o) ≡ true → cond l z (m && p || more) ≡ true
switch_if true z a n o m p more gone next side i is = is
switch_if false z true n o m p more gone next side i is = absurd (gone refl refl)
switch_if false z false n o m p more gone next side i is =
    let parts = and_parts (not i && n) o is in
    let first = and_parts (not i) n parts.0 in
    or_left (m && p) more (and_from m p (next first.1) (side parts.1))

pub switches : (indexes : ℕ) (states : List PartState) (place : ℕ) (s : PartState) → Switches states place s → IsStep indexes states (slice_set states place s)
switches indexes states place s t = record {
  left = λ set. left_set states place t.old s set t.is t.part (omega (arith, t.number));
  live = λ kind set live kept. live_set indexes states place t.old s kind set t.is (of set kept) live;
}
  where
    has : (xs : List PartState) (k : ℕ) (old : PartState) (f : PartState → Bool) → slice_get xs k ≡ Some old → f s ≡ true → list_any f (slice_set xs k s) ≡ true
    has [] k old f is at = absurd (none-some old is)
    has (x ∷ xs) zero old f is at = or_left (f s) (list_any f xs) at
    has (x ∷ xs) (suc k) old f is at = or_right (f x) (list_any f (slice_set xs k s)) (has xs k old f is at)

    of : (set : SetId) → is_left (slice_set states place s) set ≡ false → is_of set t.old ≡ true → is_of set s ≡ true
    of set kept is =
        let both = and_parts (t.old.part == set.part) (has_set t.old set) is in
        let part : (s.part == set.part) ≡ true = ap (λ (p : ℕ). p == set.part) t.part ∙ both.0 in
        and_from (s.part == set.part) (has_set s set) part
        (switch_if (set.letter == 76) (set.number == 0) (set.number == t.old.number && is_of_side t.old.side set.letter) (set.number == t.old.number + 1) (is_of_side (other_side t.old.side) set.letter) (set.number == s.number) (is_of_side s.side set.letter) (not (s.state == 73) && set.number == s.number + 1 && is_of_side (other_side s.side) set.letter)
        (λ old letter.
        let number = eqb-true set.number t.old.number (and_parts (set.number == t.old.number) (is_of_side t.old.side set.letter) old).0 in
        let behind : leaves_behind set s ≡ true = and_from (s.part == set.part) (nat_lt set.number s.number) part (lt-ltb set.number s.number (omega (arith, number, t.number))) in
        true≢false (sym (and_from (not (set.letter == 76)) (list_any (leaves_behind set) (slice_set states place s)) (ap not letter) (has states place t.old (leaves_behind set) t.is behind)) ∙ kept))
        (λ next. eq-eqb set.number s.number (eqb-true set.number (t.old.number + 1) next ∙ sym t.number))
        (λ side. ap (λ (k : ℕ). is_of_side k set.letter) t.side ∙ side)
        (t.old.state == 73) both.1)

-- ---- the blocks

free_step : (indexes : ℕ) (states changed : List PartState) (b : List ℕ) → IsStep indexes states changed → is_free states b ≡ true → is_free changed b ≡ true
free_step indexes states changed b step free = or_map (kind_in b == 0) (is_left states (set_in b)) (kind_in b == 0) (is_left changed (set_in b)) (λ at. at) (step.left (set_in b)) free

-- a block that was live is so still, or is left behind
live_step : (indexes : ℕ) (states changed : List PartState) (b : List ℕ) → IsStep indexes states changed → is_live indexes states b ≡ true → is_free changed b ≡ false → is_live indexes changed b ≡ true
live_step indexes states changed b step live held =
    let all = and_parts (not (is_free states b) && (kind_in b == 1 || kind_in b == 2) && is_live_set indexes states (kind_in b) (set_in b)) (says_no_more b) live in
    let set = and_parts (not (is_free states b) && (kind_in b == 1 || kind_in b == 2)) (is_live_set indexes states (kind_in b) (set_in b)) all.0 in
    let kind = and_parts (not (is_free states b)) (kind_in b == 1 || kind_in b == 2) set.0 in
    let kept = not_or (kind_in b == 0) (is_left changed (set_in b)) held in
    and_from (not (is_free changed b) && (kind_in b == 1 || kind_in b == 2) && is_live_set indexes changed (kind_in b) (set_in b)) (says_no_more b)
    (and_from (not (is_free changed b) && (kind_in b == 1 || kind_in b == 2)) (is_live_set indexes changed (kind_in b) (set_in b)) (and_from (not (is_free changed b)) (kind_in b == 1 || kind_in b == 2) (ap not held) kind.1) (step.live (kind_in b) (set_in b) set.1 kept)) all.1
  where
    not_or : (a b : Bool) → (a || b) ≡ false → b ≡ false
    not_or true b is = absurd (true≢false is)
    not_or false b is = is

known_here : (indexes : ℕ) (states changed : List PartState) (b : List ℕ) → IsStep indexes states changed → (is_free states b || is_live indexes states b) ≡ true → (is_free changed b || is_live indexes changed b) ≡ true
known_here indexes states changed b step known = by (is_free changed b) refl
  where
    from : (f : Bool) → is_free states b ≡ f → is_free changed b ≡ false → (f || is_live indexes states b) ≡ true → is_live indexes changed b ≡ true
    from true is held known = absurd (true≢false (sym (free_step indexes states changed b step is) ∙ held))
    from false is held known = live_step indexes states changed b step known held

    by : (f : Bool) → is_free changed b ≡ f → (is_free changed b || is_live indexes changed b) ≡ true
    by true is = or_left (is_free changed b) (is_live indexes changed b) is
    by false is = or_right (is_free changed b) (is_live indexes changed b) (from (is_free states b) refl is known)

pub known_step : (indexes : ℕ) (states changed : List PartState) (blocks : List (List ℕ)) → IsStep indexes states changed → are_known indexes states blocks ≡ true → are_known indexes changed blocks ≡ true
known_step indexes states changed [] step known = refl
known_step indexes states changed (b ∷ bs) step known =
    let parts = and_parts (is_free states b || is_live indexes states b) (are_known indexes states bs) known in
    and_from (is_free changed b || is_live indexes changed b) (are_known indexes changed bs) (known_here indexes states changed b step parts.0) (known_step indexes states changed bs step parts.1)

-- a block of a data set that isn't left behind is one of its blocks still, and no other block is
same_here : (indexes : ℕ) (states changed : List PartState) (set : SetId) (b : List ℕ) → IsStep indexes states changed → is_left changed set ≡ false → (is_free states b || is_live indexes states b) ≡ true → is_in_set indexes changed set b ≡ is_in_set indexes states set b
same_here indexes states changed set b step kept known = by (same_set (set_in b) set) refl (is_free states b) refl known
  where
    by : (e : Bool) → same_set (set_in b) set ≡ e → (f : Bool) → is_free states b ≡ f → (f || is_live indexes states b) ≡ true → is_in_set indexes changed set b ≡ is_in_set indexes states set b
    by false e f is known = none (is_live indexes changed b) (same_set (set_in b) set) e ∙ sym (none (is_live indexes states b) (same_set (set_in b) set) e)
      where
        none : (a b : Bool) → b ≡ false → (a && b) ≡ false
        none true b is = is
        none false b is = refl
    by true e true is known = ap (λ (l : Bool). l && same_set (set_in b) set) (dead changed (free_step indexes states changed b step is) ∙ sym (dead states is))
      where
        dead : (states : List PartState) → is_free states b ≡ true → is_live indexes states b ≡ false
        dead states free = ap (λ (f : Bool). not f && (kind_in b == 1 || kind_in b == 2) && is_live_set indexes states (kind_in b) (set_in b) && says_no_more b) free
    by true e false is known = ap (λ (l : Bool). l && same_set (set_in b) set) (live_step indexes states changed b step known (held (kind_in b == 0) refl) ∙ sym known)
      where
        held : (z : Bool) → (kind_in b == 0) ≡ z → is_free changed b ≡ false
        held true z = absurd (true≢false (sym (or_left (kind_in b == 0) (is_left states (set_in b)) z) ∙ is))
        held false z = ap (λ (k : Bool). k || is_left changed (set_in b)) z ∙ ap (is_left changed) (set_is (set_in b) set e) ∙ kept

same_blocks : (indexes : ℕ) (states changed : List PartState) (set : SetId) (blocks : List (List ℕ)) → IsStep indexes states changed → is_left changed set ≡ false → are_known indexes states blocks ≡ true → set_blocks indexes changed set blocks ≡ set_blocks indexes states set blocks
same_blocks indexes states changed set [] step kept known = refl
same_blocks indexes states changed set (b ∷ bs) step kept known =
    let parts = and_parts (is_free states b || is_live indexes states b) (are_known indexes states bs) known in
    ap (λ (t : Bool). cond t (b ∷ set_blocks indexes changed set bs) (set_blocks indexes changed set bs)) (same_here indexes states changed set b step kept parts.0)
    ∙ ap (λ (l : List (List ℕ)). cond (is_in_set indexes states set b) (b ∷ l) l) (same_blocks indexes states changed set bs step kept parts.1)

-- a data set that is left behind has no blocks
no_blocks : (indexes : ℕ) (changed : List PartState) (set : SetId) (blocks : List (List ℕ)) → is_left changed set ≡ true → set_blocks indexes changed set blocks ≡ []
no_blocks indexes changed set [] left = refl
no_blocks indexes changed set (b ∷ bs) left = ap (λ (t : Bool). cond t (b ∷ set_blocks indexes changed set bs) (set_blocks indexes changed set bs)) (none (same_set (set_in b) set) refl) ∙ no_blocks indexes changed set bs left
  where
    off : (l : Bool) → l ≡ true → (not l && (kind_in b == 1 || kind_in b == 2) && is_live_set indexes changed (kind_in b) (set_in b) && says_no_more b && same_set (set_in b) set) ≡ false
    off true is = refl
    off false is = absurd (false≢true is)

    zero_right : (a b : Bool) → b ≡ false → (a && b) ≡ false
    zero_right true b is = is
    zero_right false b is = refl

    none : (e : Bool) → same_set (set_in b) set ≡ e → is_in_set indexes changed set b ≡ false
    none true e = off (is_free changed b) (or_right (kind_in b == 0) (is_left changed (set_in b)) (ap (is_left changed) (set_is (set_in b) set e) ∙ left))
    none false e = zero_right (is_live indexes changed b) (same_set (set_in b) set) e

pub numbered_step : (indexes : ℕ) (states changed : List PartState) (blocks : List (List ℕ)) → IsStep indexes states changed → are_known indexes states blocks ≡ true → AreNumbered indexes states blocks → AreNumbered indexes changed blocks
numbered_step indexes states changed blocks step known numbered set n lt = by (is_left changed set) refl
  where
    by : (l : Bool) → is_left changed set ≡ l → list_any (λ page. page == n) (map page_in (set_blocks indexes changed set blocks)) ≡ true
    by true is = absurd (omega (arith, lt, ap length (no_blocks indexes changed set blocks is)))
    by false is =
        let same = same_blocks indexes states changed set blocks step is known in
        ap (λ (l : List (List ℕ)). list_any (λ page. page == n) (map page_in l)) same ∙ numbered set n (omega (arith, lt, ap length same))
