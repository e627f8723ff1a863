-- Each data block that isn't free is the page that its head names.
use Rattle.std.proofs.Common.{◌≡◌, ◌∙◌, ℕ, zero, suc, ◌+◌, ◌-◌, ◌<◌, ◌≤◌, ◌==◌, Bool, true, false, ◌&&◌, ◌||◌, cond, List, [], ◌∷◌, length, length-drop, drop, get_or, Some, slice_get, refl, sym, ap, subst, arith}
use Rattle.std.specs.Prelude.{All, filter}
use Rattle.std.specs.List.{list_all, list_any}
use Rattle.std.specs.Option.{option_map}
use Rattle.std.proofs.lemmas.Bool.{and_parts, and_from, eq-eqb, eqb-true}
use Rattle.std.proofs.lemmas.List.Folds.{Any-from_list_any}
use Rattle.std.proofs.lemmas.Option.{slice_get-map, slice_get-get_or, slice_get_within, get_or_from_slice_get}
use Rattle.hal_base.specs.declared.pages.SetId.{SetId}
use Rattle.hal_base.specs.declared.place.PartState.{PartState}
use Rattle.volume_image.specs.Header.{set_in, page_in, is_free, says_no_more}
use Rattle.volume_image.specs.Pages.{same_set}
use Rattle.data_set_pairs.specs.declared.place.PagePlace.{PagePlace}
use Rattle.data_set_pairs.specs.Table.{IsTable, is_page_of, pages_of, places_of}
use Rattle.data_set_pairs.specs.Image.{are_quiet, is_taken, page_at, taken_pages}
use Rattle.data_set_pairs.specs.Shelf.{blocks_at}
use Rattle.data_set_pairs.specs.Volume.{IsLaidOut}
use Rattle.data_set_pairs.proofs.Falling.{any_filter}
use Rattle.data_set_pairs.proofs.TableSteps.{own_set}
use Rattle.data_set_pairs.proofs.Numbering.{same_any}
use Rattle.data_set_pairs.proofs.Staging.{data_at}

pub all_from : {X : Type 0} (p : X → Bool) (xs : List X) (d : X) → ((k : ℕ) → k < length xs → p (get_or xs k d) ≡ true) → list_all p xs ≡ true
all_from p [] d each = refl
all_from p (x ∷ xs) d each = and_from (p x) (list_all p xs) (each 0 (omega arith)) (all_from p xs d (λ k lt. each (suc k) (omega (arith, lt))))

or_right : (a b : Bool) → b ≡ true → (a || b) ≡ true
or_right true b is = refl
or_right false b is = is

-- a block that is taken is one of the pages
taken_any : (indexes : ℕ) (states : List PartState) (n j : ℕ) (blocks : List (List ℕ)) (test : PagePlace → Bool) → j < length blocks → is_taken indexes states (get_or blocks j []) ≡ true → test (page_at (n + j) (get_or blocks j [])) ≡ true → list_any test (taken_pages indexes states n blocks) ≡ true
taken_any indexes states n j [] test lt taken pass = absurd (omega (arith, lt))
taken_any indexes states n zero (b ∷ bs) test lt taken pass =
    let here : n + 0 ≡ n = omega arith in
    let is : test (page_at n b) ≡ true = ap (λ (k : ℕ). test (page_at k b)) (sym here) ∙ pass in
    ap (λ (t : Bool). list_any test (cond t (page_at n b ∷ taken_pages indexes states (n + 1) bs) (taken_pages indexes states (n + 1) bs))) taken ∙ ap (λ (t : Bool). t || list_any test (taken_pages indexes states (n + 1) bs)) is
taken_any indexes states n (suc j) (b ∷ bs) test lt taken pass =
    let next : n + suc j ≡ n + 1 + j = omega arith in
    further (is_taken indexes states b) (taken_any indexes states (n + 1) j bs test (omega (arith, lt)) taken (ap (λ (k : ℕ). test (page_at k (get_or bs j []))) (sym next) ∙ pass))
  where
    further : (t : Bool) → list_any test (taken_pages indexes states (n + 1) bs) ≡ true → list_any test (cond t (page_at n b ∷ taken_pages indexes states (n + 1) bs) (taken_pages indexes states (n + 1) bs)) ≡ true
    further true any = or_right (test (page_at n b)) (list_any test (taken_pages indexes states (n + 1) bs)) any
    further false any = any

-- the page that is named by the head of a taken block
named_page : (set : SetId) (n k : ℕ) (pages : List PagePlace) → ((m : ℕ) (d : PagePlace) → m < length (pages_of set pages) → (get_or (pages_of set pages) m d).page ≡ m) → list_any (λ p. p.page == n && p.block == k) (pages_of set pages) ≡ true → slice_get (places_of set pages) n ≡ Some k
named_page set n k pages run any =
    let found = Any-from_list_any (λ (p : PagePlace). p.page == n && p.block == k) (pages_of set pages) any in
    let here : get_or (pages_of set pages) found.0 found.1 ≡ found.1 = found.3 in
    let parts = and_parts (found.1.page == n) (found.1.block == k) found.4 in
    let at : found.0 ≡ n = sym (run found.0 found.1 found.2) ∙ ap (λ (p : PagePlace). p.page) here ∙ eqb-true found.1.page n parts.0 in
    ap (slice_get (places_of set pages)) (sym at) ∙ slice_get-map (λ (p : PagePlace). p.block) (pages_of set pages) found.0
    ∙ ap (option_map (λ (p : PagePlace). p.block)) (slice_get-get_or (pages_of set pages) found.0 found.1 found.2)
    ∙ ap Some (ap (λ (p : PagePlace). p.block) here ∙ eqb-true found.1.block k parts.1)

pub its_page : (indexes control number : ℕ) (states : List PartState) (pages : List PagePlace) (free : List ℕ) (list : List (List ℕ)) (k : ℕ) → IsTable control number pages free → IsLaidOut indexes control number states pages free list → control ≤ k → k < length list → is_free states (get_or list k []) ≡ false → slice_get (places_of (set_in (get_or list k [])) pages) (page_in (get_or list k [])) ≡ Some k
its_page indexes control number states pages free list k table laid low high held = named_page set n k pages (table.run set) in_pages
  where
    set : SetId
    set = set_in (get_or list k [])

    n : ℕ
    n = page_in (get_or list k [])

    test : PagePlace → Bool
    test p = is_page_of set p && (p.page == n && p.block == k)

    within : k - control < length (drop control list)
    within = omega (arith, length-drop control list, low, high)

    at : get_or (drop control list) (k - control) [] ≡ get_or list k []
    at = data_at list control k low

    taken : is_taken indexes states (get_or (drop control list) (k - control) []) ≡ true
    taken =
        let known = laid.table.held (k - control) [] within in
        sym (ap (λ (f : Bool). f || is_taken indexes states (get_or (drop control list) (k - control) [])) (ap (is_free states) at ∙ held)) ∙ known

    pass : test (page_at (control + (k - control)) (get_or (drop control list) (k - control) [])) ≡ true
    pass =
        let sum : control + (k - control) ≡ k = omega (arith, low) in
        ap (λ (b : List ℕ). test (page_at (control + (k - control)) b)) at ∙ ap (λ (m : ℕ). test (page_at m (get_or list k []))) sum
        ∙ and_from (same_set set set) (n == n && k == k) (own_set set) (and_from (n == n) (k == k) (eq-eqb n n refl) (eq-eqb k k refl))

    in_pages : list_any (λ p. p.page == n && p.block == k) (pages_of set pages) ≡ true
    in_pages =
        any_filter (is_page_of set) (λ (p : PagePlace). p.page == n && p.block == k) pages
        ∙ sym (same_any test (taken_pages indexes states control (drop control list)) pages laid.table.taken)
        ∙ taken_any indexes states control (k - control) (drop control list) test within taken pass

-- a data block that isn't free has what each page of its data set has
pub page_has : (P : SetId → List ℕ → Type 0) (indexes control number : ℕ) (states : List PartState) (pages : List PagePlace) (free : List ℕ) (list : List (List ℕ)) (k : ℕ) → IsTable control number pages free → IsLaidOut indexes control number states pages free list
    → ((set : SetId) → All (P set) (blocks_at (places_of set pages) list)) → control ≤ k → k < length list → is_free states (get_or list k []) ≡ false → P (set_in (get_or list k [])) (get_or list k [])
page_has P indexes control number states pages free list k table laid each low high held =
    let found = its_page indexes control number states pages free list k table laid low high held in
    let page : slice_get (blocks_at places list) n ≡ Some (get_or list k []) = slice_get-map (λ (i : ℕ). get_or list i []) places n ∙ ap (option_map (λ (i : ℕ). get_or list i [])) found in
    subst (P set) (get_or_from_slice_get (blocks_at places list) n (get_or list k []) [] page) (each set n [] (slice_get_within (blocks_at places list) n (get_or list k []) page))
  where
    set : SetId
    set = set_in (get_or list k [])

    n : ℕ
    n = page_in (get_or list k [])

    places : List ℕ
    places = places_of set pages

-- while each page says no more than a head may, each data block that isn't free does so
pub quiet_pages : (indexes control number : ℕ) (states : List PartState) (pages : List PagePlace) (free : List ℕ) (list : List (List ℕ)) → IsTable control number pages free → IsLaidOut indexes control number states pages free list → ((set : SetId) → All (λ page. says_no_more page ≡ true) (blocks_at (places_of set pages) list)) → are_quiet states (drop control list) ≡ true
quiet_pages indexes control number states pages free list table laid quiet = all_from (λ (b : List ℕ). is_free states b || says_no_more b) (drop control list) [] (λ k lt. here k lt (is_free states (get_or (drop control list) k [])) refl)
  where
    here : (k : ℕ) → k < length (drop control list) → (f : Bool) → is_free states (get_or (drop control list) k []) ≡ f → (is_free states (get_or (drop control list) k []) || says_no_more (get_or (drop control list) k [])) ≡ true
    here k lt true is = ap (λ (f : Bool). f || says_no_more (get_or (drop control list) k [])) is
    here k lt false is =
        let back : control + k - control ≡ k = omega arith in
        let at : get_or (drop control list) k [] ≡ get_or list (control + k) [] = ap (λ (j : ℕ). get_or (drop control list) j []) (sym back) ∙ data_at list control (control + k) (omega arith) in
        let says : says_no_more (get_or list (control + k) []) ≡ true =
        page_has (λ set page. says_no_more page ≡ true) indexes control number states pages free list (control + k) table laid quiet (omega arith) (omega (arith, lt, length-drop control list)) (ap (is_free states) (sym at) ∙ is) in
        ap (λ (f : Bool). f || says_no_more (get_or (drop control list) k [])) is ∙ ap says_no_more at ∙ says
