-- Where the pages of one data set stand in a table that is in order: side by side.
use Rattle.std.proofs.Common.{◌≡◌, ◌∙◌, ⊎_elim, ℕ, zero, suc, ◌+◌, ◌-◌, ◌<◌, ◌≤◌, Bool, true, false, cond, ◌&&◌, ◌==◌, List, [], ◌∷◌, ◌++◌, length, length-append, length-drop, take, drop, get_or, None, Some, nat_le, refl, sym, ap, subst, arith, slice_get}
use Rattle.std.specs.Prelude.{All}
use Rattle.std.specs.Option.{option_map}
use Rattle.std.specs.List.Sorted.{IsNonDecreasingBy, IsPartitionPoint}
use Rattle.std.proofs.lemmas.Bool.{cases_lt, and_parts, and_from, eqb-true, eq-eqb, leb-true, leb-false, true≢false}
use Rattle.std.proofs.lemmas.List.{get_or-drop, get_or-take, get_or_append_left, append-nil, take-append-drop, length-take, length-map}
use Rattle.std.proofs.lemmas.List.Elements.{All-head, All-tail, All-take, filter-append, filter_passes}
use Rattle.std.proofs.lemmas.List.Sums.{length-filter, count_by-le-length}
use Rattle.std.proofs.lemmas.List.Sorted.{IsNonDecreasingBy-drop, IsNonDecreasingBy-take}
use Rattle.std.proofs.lemmas.Option.{slice_get-map, slice_get-get_or, slice_get_past}
use Rattle.hal_base.specs.declared.pages.SetId.{SetId}
use Rattle.volume_image.specs.Pages.{same_set}
use Rattle.data_set_pairs.specs.declared.place.PagePlace.{PagePlace}
use Rattle.data_set_pairs.specs.Table.{set_rank, is_page_of, pages_of, places_of, RunFromZero, HasPlace, IsFront}

pub same_by_rank : (a b : SetId) → HasPlace a → HasPlace b → set_rank a ≡ set_rank b → same_set a b ≡ true
same_by_rank a b low high is =
    let part : a.part ≡ b.part = omega (arith, is, low.number, low.letter, high.number, high.letter) in
    let number : a.number ≡ b.number = omega (arith, is, part, low.letter, high.letter) in
    let letter : a.letter ≡ b.letter = omega (arith, is, part, number) in
    and_from (a.part == b.part && a.number == b.number) (a.letter == b.letter) (and_from (a.part == b.part) (a.number == b.number) (eq-eqb a.part b.part part) (eq-eqb a.number b.number number)) (eq-eqb a.letter b.letter letter)

pub rank_of_same : (a b : SetId) → same_set a b ≡ true → set_rank a ≡ set_rank b
rank_of_same a b is =
    let one = and_parts (a.part == b.part && a.number == b.number) (a.letter == b.letter) is in
    let two = and_parts (a.part == b.part) (a.number == b.number) one.0 in
    let part = eqb-true a.part b.part two.0 in
    let number = eqb-true a.number b.number two.1 in
    let letter = eqb-true a.letter b.letter one.1 in
    omega (arith, part, number, letter)

pub apart_by_rank : (a b : SetId) → (set_rank a ≡ set_rank b → ⊥) → same_set a b ≡ false
apart_by_rank a b apart = by (same_set a b) refl
  where
    by : (t : Bool) → same_set a b ≡ t → same_set a b ≡ false
    by true is = absurd (apart (rank_of_same a b is))
    by false is = is

pub all_pages : (set : SetId) (pages : List PagePlace) → All (λ p. same_set p.set set ≡ true) pages → pages_of set pages ≡ pages
all_pages set [] all = refl
all_pages set (p ∷ ps) all =
    ap (λ (b : Bool). cond b (p ∷ pages_of set ps) (pages_of set ps)) (All-head (λ (p : PagePlace). same_set p.set set ≡ true) p ps all)
    ∙ ap (λ (l : List PagePlace). p ∷ l) (all_pages set ps (All-tail (λ (p : PagePlace). same_set p.set set ≡ true) p ps all))

pub no_pages : (set : SetId) (pages : List PagePlace) → All (λ p. same_set p.set set ≡ false) pages → pages_of set pages ≡ []
no_pages set [] all = refl
no_pages set (p ∷ ps) all =
    ap (λ (b : Bool). cond b (p ∷ pages_of set ps) (pages_of set ps)) (All-head (λ (p : PagePlace). same_set p.set set ≡ false) p ps all)
    ∙ no_pages set ps (All-tail (λ (p : PagePlace). same_set p.set set ≡ false) p ps all)

pub few_pages : (set : SetId) (pages : List PagePlace) → length (pages_of set pages) ≤ length pages
few_pages set pages = omega (arith, length-filter (is_page_of set) pages, count_by-le-length (is_page_of set) pages)

some_if : (b : Bool) (p : PagePlace) (rest : List PagePlace) → 0 < length rest → 0 < length (cond b (p ∷ rest) rest)
some_if true p rest lt = omega arith
some_if false p rest lt = lt

pub some_page : (set : SetId) (pages : List PagePlace) (k : ℕ) (d : PagePlace) → k < length pages → same_set (get_or pages k d).set set ≡ true → 0 < length (pages_of set pages)
some_page set [] k d lt is = absurd (omega (arith, lt))
some_page set (p ∷ ps) zero d lt is = subst (λ (b : Bool). 0 < length (cond b (p ∷ pages_of set ps) (pages_of set ps))) (sym is) (omega arith)
some_page set (p ∷ ps) (suc k) d lt is = some_if (same_set p.set set) p (pages_of set ps) (some_page set ps k d (omega (arith, lt)) is)

-- among pages of which none is of a later data set, those of the data set are the last ones
pub last_pages : (set : SetId) (pages : List PagePlace) → HasPlace set → All (λ p. HasPlace p.set) pages → IsNonDecreasingBy (λ p. set_rank p.set) pages → All (λ p. set_rank p.set ≤ set_rank set) pages → pages_of set pages ≡ drop (length pages - length (pages_of set pages)) pages
last_pages set [] place small order last = refl
last_pages set (p ∷ ps) place small order last = by (same_set p.set set) refl (last_pages set ps place (All-tail (λ (q : PagePlace). HasPlace q.set) p ps small) (IsNonDecreasingBy-drop (λ (q : PagePlace). set_rank q.set) 1 (p ∷ ps) order) (All-tail (λ (q : PagePlace). set_rank q.set ≤ set_rank set) p ps last))
  where
    each : same_set p.set set ≡ true → All (λ q. same_set q.set set ≡ true) (p ∷ ps)
    each is k d lt =
        let from : set_rank p.set ≤ set_rank (get_or (p ∷ ps) k d).set = order 0 k d (omega arith) lt in
        let to : set_rank (get_or (p ∷ ps) k d).set ≤ set_rank set = last k d lt in
        let same : set_rank p.set ≡ set_rank set = rank_of_same p.set set is in
        same_by_rank (get_or (p ∷ ps) k d).set set (small k d lt) place (omega (arith, from, to, same))

    by : (b : Bool) → same_set p.set set ≡ b → pages_of set ps ≡ drop (length ps - length (pages_of set ps)) ps → pages_of set (p ∷ ps) ≡ drop (length (p ∷ ps) - length (pages_of set (p ∷ ps))) (p ∷ ps)
    by true is rest =
        let all : pages_of set (p ∷ ps) ≡ p ∷ ps = all_pages set (p ∷ ps) (each is) in
        let none : length (p ∷ ps) - length (pages_of set (p ∷ ps)) ≡ 0 = omega (arith, ap length all) in
        all ∙ sym (ap (λ (n : ℕ). drop n (p ∷ ps)) none)
    by false is rest =
        let past : pages_of set (p ∷ ps) ≡ pages_of set ps = ap (λ (b : Bool). cond b (p ∷ pages_of set ps) (pages_of set ps)) is in
        let step : length (p ∷ ps) - length (pages_of set (p ∷ ps)) ≡ suc (length ps - length (pages_of set ps)) = omega (arith, ap length past, few_pages set ps) in
        past ∙ rest ∙ sym (ap (λ (n : ℕ). drop n (p ∷ ps)) step)

-- the nth page of the data set, counted from the end
pub nth_page : (set : SetId) (pages : List PagePlace) (n : ℕ) (d : PagePlace) → HasPlace set → All (λ p. HasPlace p.set) pages → IsNonDecreasingBy (λ p. set_rank p.set) pages → All (λ p. set_rank p.set ≤ set_rank set) pages → get_or (pages_of set pages) n d ≡ get_or pages (length pages - length (pages_of set pages) + n) d
nth_page set pages n d place small order last =
    ap (λ (l : List PagePlace). get_or l n d) (last_pages set pages place small order last)
    ∙ get_or-drop (length pages - length (pages_of set pages)) pages n d

-- how many there are is told by the last page
pub count_last : (set : SetId) (pages : List PagePlace) (d : PagePlace) → HasPlace set → All (λ p. HasPlace p.set) pages → IsNonDecreasingBy (λ p. set_rank p.set) pages → All (λ p. set_rank p.set ≤ set_rank set) pages → RunFromZero pages → 0 < length pages → same_set (get_or pages (length pages - 1) d).set set ≡ true → (get_or pages (length pages - 1) d).page + 1 ≡ length (pages_of set pages)
count_last set pages d place small order last run some is =
    let many = some_page set pages (length pages - 1) d (omega (arith, some)) is in
    let few = few_pages set pages in
    let at : length pages - length (pages_of set pages) + (length (pages_of set pages) - 1) ≡ length pages - 1 = omega (arith, many, few) in
    let here : get_or (pages_of set pages) (length (pages_of set pages) - 1) d ≡ get_or pages (length pages - 1) d = nth_page set pages (length (pages_of set pages) - 1) d place small order last ∙ ap (λ (i : ℕ). get_or pages i d) at in
    let page : (get_or (pages_of set pages) (length (pages_of set pages) - 1) d).page ≡ length (pages_of set pages) - 1 = run set (length (pages_of set pages) - 1) d (omega (arith, many)) in
    let same : (get_or pages (length pages - 1) d).page ≡ length (pages_of set pages) - 1 = sym (ap (λ (p : PagePlace). p.page) here) ∙ page in
    omega (arith, same, many)

pub count_none : (set : SetId) (pages : List PagePlace) (d : PagePlace) → HasPlace set → All (λ p. HasPlace p.set) pages → IsNonDecreasingBy (λ p. set_rank p.set) pages → All (λ p. set_rank p.set ≤ set_rank set) pages → same_set (get_or pages (length pages - 1) d).set set ≡ false → 0 ≡ length (pages_of set pages)
count_none set pages d place small order last is = ⊎_elim (λ lt. absurd (no lt)) (λ le. omega (arith, le)) (cases_lt 0 (length (pages_of set pages)))
  where
    no : 0 < length (pages_of set pages) → ⊥
    no many =
        let few = few_pages set pages in
        let at : length pages - length (pages_of set pages) + (length (pages_of set pages) - 1) ≡ length pages - 1 = omega (arith, many, few) in
        let here : get_or (pages_of set pages) (length (pages_of set pages) - 1) d ≡ get_or pages (length pages - 1) d = nth_page set pages (length (pages_of set pages) - 1) d place small order last ∙ ap (λ (i : ℕ). get_or pages i d) at in
        let passes : same_set (get_or (pages_of set pages) (length (pages_of set pages) - 1) d).set set ≡ true = filter_passes (is_page_of set) pages (length (pages_of set pages) - 1) d (omega (arith, many)) in
        true≢false (sym passes ∙ ap (λ (p : PagePlace). same_set p.set set) here ∙ is)

-- a table in two parts, of which the second has only later data sets
pub pages_in_front : (set : SetId) (pages : List PagePlace) (end : ℕ) → ((k : ℕ) (d : PagePlace) → end ≤ k → k < length pages → set_rank set < set_rank (get_or pages k d).set) → pages_of set pages ≡ pages_of set (take end pages)
pages_in_front set pages end past =
    sym (ap (pages_of set) (take-append-drop end pages))
    ∙ filter-append (is_page_of set) (take end pages) (drop end pages)
    ∙ ap (λ (l : List PagePlace). pages_of set (take end pages) ++ l) (no_pages set (drop end pages) none)
    ∙ append-nil (pages_of set (take end pages))
  where
    none : All (λ p. same_set p.set set ≡ false) (drop end pages)
    none k d lt =
        let at = get_or-drop end pages k d in
        let within : end + k < length pages = omega (arith, lt, length-drop_is) in
        let later = past (end + k) d (omega arith) within in
        let rank : set_rank (get_or (drop end pages) k d).set ≡ set_rank (get_or pages (end + k) d).set = ap (λ (p : PagePlace). set_rank p.set) at in
        apart_by_rank (get_or (drop end pages) k d).set set (λ is. omega (arith, is, rank, later))
      where
        length-drop_is : length (drop end pages) ≡ length pages - end
        length-drop_is = length-drop end pages

-- the pages of a front of the table stand as they do in all of it
pub run_front : (pages : List PagePlace) (end : ℕ) → RunFromZero pages → RunFromZero (take end pages)
run_front pages end run set n d lt =
    let parts : pages_of set pages ≡ pages_of set (take end pages) ++ pages_of set (drop end pages) = sym (ap (pages_of set) (take-append-drop end pages)) ∙ filter-append (is_page_of set) (take end pages) (drop end pages) in
    let same : get_or (pages_of set (take end pages)) n d ≡ get_or (pages_of set pages) n d = sym (ap (λ (l : List PagePlace). get_or l n d) parts ∙ get_or_append_left (pages_of set (take end pages)) (pages_of set (drop end pages)) d n lt) in
    let more : n < length (pages_of set pages) = omega (arith, lt, ap length parts, length-append (pages_of set (take end pages)) (pages_of set (drop end pages))) in
    ap (λ (p : PagePlace). p.page) same ∙ run set n d more

pub parts_by_rank : (pages : List PagePlace) (rank end : ℕ) → IsPartitionPoint (λ p. nat_le (set_rank p.set) rank ≡ true) (λ p. nat_le (set_rank p.set) rank ≡ false) pages end → IsPartitionPoint (λ p. set_rank p.set ≤ rank) (λ p. rank < set_rank p.set) pages end
parts_by_rank pages rank end parts =
    (λ k d low high. leb-true (set_rank (get_or pages k d).set) rank (parts.0 k d low high), λ k d low high. leb-false (set_rank (get_or pages k d).set) rank (parts.1 k d low high))

pub front_last : (set : SetId) (pages : List PagePlace) (end : ℕ) → IsFront set pages end → All (λ p. set_rank p.set ≤ set_rank set) (take end pages)
front_last set pages end front k d lt =
    let low : k < end = omega (arith, lt, length-take end pages) in
    subst (λ (p : PagePlace). set_rank p.set ≤ set_rank set) (sym (get_or-take end pages k d low)) (front.parts.0 k d (omega arith) low)

pub front_pages : (set : SetId) (pages : List PagePlace) (end : ℕ) → IsFront set pages end → pages_of set pages ≡ pages_of set (take end pages)
front_pages set pages end front = pages_in_front set pages end (λ k d low high. front.parts.1 k d low high)

-- the nth block of a data set
pub place_at : (set : SetId) (pages : List PagePlace) (end count n : ℕ) (d : PagePlace) → HasPlace set → All (λ p. HasPlace p.set) pages → IsNonDecreasingBy (λ p. set_rank p.set) pages → IsFront set pages end → count ≡ length (pages_of set (take end pages)) → n < count → (count ≤ end) × (Some (get_or pages (end - count + n) d).block ≡ slice_get (places_of set pages) n)
place_at set pages end count n d place small order front many lt =
    let all : length (take end pages) ≡ end = omega (arith, length-take end pages, front.within) in
    let few = few_pages set (take end pages) in
    let le : count ≤ end = omega (arith, many, all, few) in
    let nth = nth_page set (take end pages) n d place (All-take (λ (p : PagePlace). HasPlace p.set) end pages small) (IsNonDecreasingBy-take (λ (p : PagePlace). set_rank p.set) end pages order) (front_last set pages end front) in
    let at : length (take end pages) - length (pages_of set (take end pages)) + n ≡ end - count + n = omega (arith, all, many) in
    let there : get_or (pages_of set (take end pages)) n d ≡ get_or pages (end - count + n) d = nth ∙ ap (λ (i : ℕ). get_or (take end pages) i d) at ∙ get_or-take end pages (end - count + n) d (omega (arith, lt, le)) in
    let got : slice_get (pages_of set pages) n ≡ Some (get_or pages (end - count + n) d) = ap (λ (l : List PagePlace). slice_get l n) (front_pages set pages end front) ∙ slice_get-get_or (pages_of set (take end pages)) n d (omega (arith, lt, many)) ∙ ap Some there in
    (le, sym (slice_get-map (λ (p : PagePlace). p.block) (pages_of set pages) n ∙ ap (option_map (λ (p : PagePlace). p.block)) got))

pub no_place : (set : SetId) (pages : List PagePlace) (end count n : ℕ) → IsFront set pages end → count ≡ length (pages_of set (take end pages)) → count ≤ n → None ≡ slice_get (places_of set pages) n
no_place set pages end count n front many le =
    sym (slice_get_past (places_of set pages) n (omega (arith, length-map (pages_of set pages) (λ (p : PagePlace). p.block), ap length (front_pages set pages end front), many, le)))

pub set_is : (a b : SetId) → same_set a b ≡ true → a ≡ b
set_is a b is =
    let one = and_parts (a.part == b.part && a.number == b.number) (a.letter == b.letter) is in
    let two = and_parts (a.part == b.part) (a.number == b.number) one.0 in
    by (eqb-true a.part b.part two.0) (eqb-true a.number b.number two.1) (eqb-true a.letter b.letter one.1)
  where
    by : a.part ≡ b.part → a.number ≡ b.number → a.letter ≡ b.letter → a ≡ b
    by p n l = ap (λ (x : ℕ). record { part = x; number = a.number; letter = a.letter }) p ∙ ap (λ (x : ℕ). record { part = b.part; number = x; letter = a.letter }) n ∙ ap (λ (x : ℕ). record { part = b.part; number = b.number; letter = x }) l

pub own_set : (set : SetId) → same_set set set ≡ true
own_set set = and_from (set.part == set.part && set.number == set.number) (set.letter == set.letter) (and_from (set.part == set.part) (set.number == set.number) (eq-eqb set.part set.part refl) (eq-eqb set.number set.number refl)) (eq-eqb set.letter set.letter refl)
