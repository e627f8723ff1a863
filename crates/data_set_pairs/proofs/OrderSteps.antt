-- A table that is in order of pages, gone through from its front.
use Rattle.std.proofs.Common.{◌≡◌, ◌∙◌, ⊎_elim, ℕ, suc, ◌+◌, ◌*◌, ◌^◌, ◌<◌, ◌≤◌, Bool, true, false, cond, List, [], ◌∷◌, ◌++◌, length, length-append, take, drop, get_or, refl, sym, ap, arith}
use Rattle.std.specs.Prelude.{All}
use Rattle.std.specs.List.Sorted.{IsNonDecreasingBy}
use Rattle.std.proofs.lemmas.Bool.{cases_lt}
use Rattle.std.proofs.lemmas.List.{get_or-take, get_or_append_left, append-nil, get_or_default, take-append-drop, length-take}
use Rattle.std.proofs.lemmas.List.Elements.{filter-append, filter_more}
use Rattle.std.proofs.Math.Seq.{get_or-append_seam, drop-cons}
use Rattle.hal_base.specs.declared.pages.SetId.{SetId}
use Rattle.volume_image.specs.Pages.{same_set}
use Rattle.data_set_pairs.specs.declared.place.PagePlace.{PagePlace}
use Rattle.data_set_pairs.specs.Table.{set_rank, page_rank, is_page_of, pages_of, RunFromZero}
use Rattle.data_set_pairs.proofs.TableSteps.{set_is, own_set}

-- pages in order are in the order of their data sets
quotient : (a b p q : ℕ) → a * 65536 + p ≤ b * 65536 + q → p < 65536 → q < 65536 → a ≤ b
quotient a b p q le low high = omega (arith, le, low, high)

pub sets_in_order : (pages : List PagePlace) → All (λ p. p.page < 2 ^ 16) pages → IsNonDecreasingBy page_rank pages → IsNonDecreasingBy (λ p. set_rank p.set) pages
sets_in_order pages small order i j d le lt =
    quotient (set_rank (get_or pages i d).set) (set_rank (get_or pages j d).set) (get_or pages i d).page (get_or pages j d).page (order i j d le lt) (small i d (omega (arith, le, lt))) (small j d lt)

pub run_none : (pages : List PagePlace) → RunFromZero (take 0 pages)
run_none pages set n d lt = absurd (omega (arith, lt))

-- the next page has the next number of its data set
pub run_more : (pages : List PagePlace) (i : ℕ) (x : PagePlace) → i < length pages → x ≡ get_or pages i x → RunFromZero (take i pages) → x.page ≡ length (pages_of x.set (take i pages)) → RunFromZero (take (i + 1) pages)
run_more pages i x lt is run page set n d within = by (same_set x.set set) refl
  where
    front : List PagePlace
    front = pages_of set (take i pages)

    more : pages_of set (take (i + 1) pages) ≡ pages_of set (take i pages) ++ cond (same_set x.set set) (x ∷ []) []
    more = filter_more (is_page_of set) pages i x lt ∙ ap (λ (y : PagePlace). pages_of set (take i pages) ++ cond (same_set y.set set) (y ∷ []) []) (sym is)

    old : (l : List PagePlace) → pages_of set (take (i + 1) pages) ≡ pages_of set (take i pages) ++ l → n < length (pages_of set (take i pages)) → (get_or (pages_of set (take (i + 1) pages)) n d).page ≡ n
    old l both low = ap (λ (l : List PagePlace). (get_or l n d).page) both ∙ ap (λ (p : PagePlace). p.page) (get_or_append_left (pages_of set (take i pages)) l d n low) ∙ run set n d low

    new : same_set x.set set ≡ true → pages_of set (take (i + 1) pages) ≡ pages_of set (take i pages) ++ x ∷ [] → length (pages_of set (take i pages)) ≤ n → (get_or (pages_of set (take (i + 1) pages)) n d).page ≡ n
    new same both high =
        let many : length (pages_of set (take (i + 1) pages)) ≡ length (pages_of set (take i pages)) + 1 = ap length both ∙ length-append (pages_of set (take i pages)) (x ∷ []) in
        let at : n ≡ length (pages_of set (take i pages)) = omega (arith, within, many, high) in
        let its : x.page ≡ length (pages_of set (take i pages)) = page ∙ ap (λ (s : SetId). length (pages_of s (take i pages))) (set_is x.set set same) in
        ap (λ (l : List PagePlace). (get_or l n d).page) both ∙ ap (λ (k : ℕ). (get_or (pages_of set (take i pages) ++ x ∷ []) k d).page) at ∙ ap (λ (p : PagePlace). p.page) (get_or-append_seam (pages_of set (take i pages)) x [] d) ∙ its ∙ sym at

    by : (b : Bool) → same_set x.set set ≡ b → (get_or (pages_of set (take (i + 1) pages)) n d).page ≡ n
    by true same =
        let both : pages_of set (take (i + 1) pages) ≡ pages_of set (take i pages) ++ x ∷ [] = more ∙ ap (λ (b : Bool). pages_of set (take i pages) ++ cond b (x ∷ []) []) same in
        ⊎_elim (λ low. old (x ∷ []) both low) (λ high. new same both high) (cases_lt n (length (pages_of set (take i pages))))
    by false same =
        let both : pages_of set (take (i + 1) pages) ≡ pages_of set (take i pages) ++ [] = more ∙ ap (λ (b : Bool). pages_of set (take i pages) ++ cond b (x ∷ []) []) same in
        old [] both (omega (arith, within, ap length (both ∙ append-nil (pages_of set (take i pages)))))

-- it has another one
pub run_not : (pages : List PagePlace) (i : ℕ) (x : PagePlace) → i < length pages → x ≡ get_or pages i x → (x.page ≡ length (pages_of x.set (take i pages)) → ⊥) → RunFromZero pages → ⊥
run_not pages i x lt is other run =
    let rest = pages_of x.set (drop (suc i) pages) in
    let tail : drop i pages ≡ x ∷ drop (suc i) pages = drop-cons pages i x lt ∙ ap (λ (y : PagePlace). y ∷ drop (suc i) pages) (sym is) in
    let here : pages_of x.set (drop i pages) ≡ x ∷ pages_of x.set (drop (suc i) pages) = ap (pages_of x.set) tail ∙ ap (λ (b : Bool). cond b (x ∷ pages_of x.set (drop (suc i) pages)) (pages_of x.set (drop (suc i) pages))) (own_set x.set) in
    let parts : pages_of x.set pages ≡ pages_of x.set (take i pages) ++ x ∷ pages_of x.set (drop (suc i) pages) =
    sym (ap (pages_of x.set) (take-append-drop i pages)) ∙ filter-append (is_page_of x.set) (take i pages) (drop i pages) ∙ ap (λ (l : List PagePlace). pages_of x.set (take i pages) ++ l) here in
    let n = length (pages_of x.set (take i pages)) in
    let many : length (pages_of x.set (take i pages)) < length (pages_of x.set pages) = omega (arith, ap length parts, length-append (pages_of x.set (take i pages)) (x ∷ pages_of x.set (drop (suc i) pages))) in
    let at : get_or (pages_of x.set pages) (length (pages_of x.set (take i pages))) x ≡ x = ap (λ (l : List PagePlace). get_or l (length (pages_of x.set (take i pages))) x) parts ∙ get_or-append_seam (pages_of x.set (take i pages)) x (pages_of x.set (drop (suc i) pages)) x in
    other (sym (ap (λ (p : PagePlace). p.page) at) ∙ run x.set (length (pages_of x.set (take i pages))) x many)

-- what the data set of a page counts in front of it
pub in_front : (pages : List PagePlace) (i : ℕ) (x : PagePlace) → i < length pages → x ≡ get_or pages i x → IsNonDecreasingBy (λ p. set_rank p.set) pages → All (λ p. set_rank p.set ≤ set_rank x.set) (take i pages)
in_front pages i x lt is order k d below =
    let low : k < i = omega (arith, below, length-take i pages) in
    let same : (get_or (take i pages) k d) ≡ get_or pages k d = get_or-take i pages k d low in
    let up = order k i x (omega (arith, low)) lt in
    let from : get_or pages k d ≡ get_or pages k x = get_or_default pages k d x (omega (arith, low, lt)) in
    omega (arith, up, ap (λ (p : PagePlace). set_rank p.set) (same ∙ from), ap (λ (p : PagePlace). set_rank p.set) is)
