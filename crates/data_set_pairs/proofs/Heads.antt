-- The heads of the blocks at which a table's pages stand.
use Rattle.std.proofs.Common.{◌≡◌, ◌∙◌, ℕ, suc, ◌+◌, ◌-◌, ◌<◌, Bool, true, false, cond, List, [], ◌∷◌, length, drop, get_or, Some, nat_le, slice_get, refl, sym, ap, subst, arith}
use Rattle.std.specs.Prelude.{◌&&◌, ◌==◌, not, All}
use Rattle.std.specs.Option.{option_map}
use Rattle.std.proofs.lemmas.Bool.{and_parts, and_from, eqb-true, eq-eqb, le-leb, leb-true, true≢false}
use Rattle.std.proofs.lemmas.List.{get_or-drop, length-map}
use Rattle.std.proofs.lemmas.List.Elements.{All-nil, All-cons, All-weaker, All-filter, filter_passes}
use Rattle.std.proofs.lemmas.List.Folds.{list_any_at, list_any_none}
use Rattle.std.proofs.lemmas.Option.{slice_get-map, slice_get-get_or, slice_get_within, same_Some}
use Rattle.hal_base.specs.declared.pages.SetId.{SetId}
use Rattle.hal_base.specs.declared.place.PartState.{PartState}
use Rattle.volume_image.specs.Header.{set_in, page_in}
use Rattle.volume_image.specs.Pages.{same_set}
use Rattle.data_set_pairs.specs.declared.place.PagePlace.{PagePlace}
use Rattle.data_set_pairs.specs.Table.{is_page_of, pages_of, places_of, RunFromZero}
use Rattle.data_set_pairs.specs.Image.{is_taken, page_at, taken_pages, IsPage, SamePages, TableStands}
use Rattle.data_set_pairs.proofs.TableSteps.{set_is, own_set}
use Rattle.data_set_pairs.proofs.Numbering.{same_any}

-- a block that is taken, with the head of this page
abbrev pub head_is : ℕ → List PartState → List ℕ → PagePlace → Bool
head_is indexes states block p = is_taken indexes states block && same_set (set_in block) p.set && page_in block == p.page

-- at the page's place, counted from block n
abbrev head_at : ℕ → List PartState → ℕ → List (List ℕ) → PagePlace → Bool
head_at indexes states n blocks p = nat_le n p.block && head_is indexes states (get_or blocks (p.block - n) []) p

own_head : (indexes : ℕ) (states : List PartState) (n : ℕ) (b : List ℕ) (bs : List (List ℕ)) → is_taken indexes states b ≡ true → head_at indexes states n (b ∷ bs) (page_at n b) ≡ true
own_head indexes states n b bs taken =
    let none : n - n ≡ 0 = omega arith in
    let head : head_is indexes states b (page_at n b) ≡ true = and_from (is_taken indexes states b && same_set (set_in b) (set_in b)) (page_in b == page_in b) (and_from (is_taken indexes states b) (same_set (set_in b) (set_in b)) taken (own_set (set_in b))) (eq-eqb (page_in b) (page_in b) refl) in
    and_from (nat_le n n) (head_is indexes states (get_or (b ∷ bs) (n - n) []) (page_at n b)) (le-leb n n (omega arith)) (ap (λ (k : ℕ). head_is indexes states (get_or (b ∷ bs) k []) (page_at n b)) none ∙ head)

next_head : (indexes : ℕ) (states : List PartState) (n : ℕ) (b : List ℕ) (bs : List (List ℕ)) (p : PagePlace) → head_at indexes states (n + 1) bs p ≡ true → head_at indexes states n (b ∷ bs) p ≡ true
next_head indexes states n b bs p is =
    let parts = and_parts (nat_le (n + 1) p.block) (head_is indexes states (get_or bs (p.block - (n + 1)) []) p) is in
    let from = leb-true (n + 1) p.block parts.0 in
    let step : p.block - n ≡ suc (p.block - (n + 1)) = omega (arith, from) in
    and_from (nat_le n p.block) (head_is indexes states (get_or (b ∷ bs) (p.block - n) []) p) (le-leb n p.block (omega (arith, from))) (ap (λ (k : ℕ). head_is indexes states (get_or (b ∷ bs) k []) p) step ∙ parts.1)

taken_heads : (indexes : ℕ) (states : List PartState) (n : ℕ) (blocks : List (List ℕ)) → All (λ p. head_at indexes states n blocks p ≡ true) (taken_pages indexes states n blocks)
taken_heads indexes states n [] = All-nil (λ (p : PagePlace). head_at indexes states n [] p ≡ true)
taken_heads indexes states n (b ∷ bs) = by (is_taken indexes states b) refl (taken_heads indexes states (n + 1) bs)
  where
    by : (t : Bool) → is_taken indexes states b ≡ t → All (λ p. head_at indexes states (n + 1) bs p ≡ true) (taken_pages indexes states (n + 1) bs) → All (λ p. head_at indexes states n (b ∷ bs) p ≡ true) (taken_pages indexes states n (b ∷ bs))
    by true is rest =
        subst (λ (t : Bool). All (λ p. head_at indexes states n (b ∷ bs) p ≡ true) (cond t (page_at n b ∷ taken_pages indexes states (n + 1) bs) (taken_pages indexes states (n + 1) bs))) (sym is)
        (All-cons (λ (p : PagePlace). head_at indexes states n (b ∷ bs) p ≡ true) (page_at n b) (taken_pages indexes states (n + 1) bs) (own_head indexes states n b bs is) (All-weaker (λ (p : PagePlace). head_at indexes states (n + 1) bs p ≡ true) (λ (p : PagePlace). head_at indexes states n (b ∷ bs) p ≡ true) (next_head indexes states n b bs) (taken_pages indexes states (n + 1) bs) rest))
    by false is rest =
        subst (λ (t : Bool). All (λ p. head_at indexes states n (b ∷ bs) p ≡ true) (cond t (page_at n b ∷ taken_pages indexes states (n + 1) bs) (taken_pages indexes states (n + 1) bs))) (sym is)
        (All-weaker (λ (p : PagePlace). head_at indexes states (n + 1) bs p ≡ true) (λ (p : PagePlace). head_at indexes states n (b ∷ bs) p ≡ true) (next_head indexes states n b bs) (taken_pages indexes states (n + 1) bs) rest)

pub same_all : (test : PagePlace → Bool) (ps qs : List PagePlace) → SamePages ps qs → All (λ p. test p ≡ true) ps → All (λ p. test p ≡ true) qs
same_all test ps qs same all k d lt = by (test (get_or qs k d)) refl
  where
    other : PagePlace → Bool
    other p = not (test p)

    by : (b : Bool) → test (get_or qs k d) ≡ b → test (get_or qs k d) ≡ true
    by true is = is
    by false is = absurd (true≢false (sym (list_any_at (λ p. not (test p)) qs k d lt (ap not is)) ∙ sym (same_any (λ p. not (test p)) ps qs same) ∙ list_any_none (λ p. not (test p)) ps (λ i e below. ap not (all i e below))))

table_heads : (indexes : ℕ) (states : List PartState) (control : ℕ) (pages : List PagePlace) (free : List ℕ) (list : List (List ℕ)) → TableStands indexes states control pages free list → All (λ p. head_at indexes states control (drop control list) p ≡ true) pages
table_heads indexes states control pages free list table = same_all (head_at indexes states control (drop control list)) (taken_pages indexes states control (drop control list)) pages table.taken (taken_heads indexes states control (drop control list))

pub place_page : (indexes : ℕ) (states : List PartState) (control : ℕ) (pages : List PagePlace) (free : List ℕ) (list : List (List ℕ)) (set : SetId) (n k : ℕ) → TableStands indexes states control pages free list → RunFromZero pages → slice_get (places_of set pages) n ≡ Some k → IsPage indexes states set n (get_or list k [])
place_page indexes states control pages free list set n k table run got =
    let none : PagePlace = record { set = set; page = 0; block = 0 } in
    let within : n < length (pages_of set pages) = omega (arith, slice_get_within (places_of set pages) n k got, length-map (pages_of set pages) (λ (p : PagePlace). p.block)) in
    let p : PagePlace = get_or (pages_of set pages) n none in
    let at : (get_or (pages_of set pages) n none).block ≡ k = same_Some (get_or (pages_of set pages) n none).block k (sym (slice_get-map (λ (p : PagePlace). p.block) (pages_of set pages) n ∙ ap (option_map (λ (p : PagePlace). p.block)) (slice_get-get_or (pages_of set pages) n none within)) ∙ got) in
    let head = All-filter (is_page_of set) (λ (p : PagePlace). head_at indexes states control (drop control list) p ≡ true) pages (table_heads indexes states control pages free list table) n none within in
    let parts = and_parts (nat_le control (get_or (pages_of set pages) n none).block) (head_is indexes states (get_or (drop control list) ((get_or (pages_of set pages) n none).block - control) []) (get_or (pages_of set pages) n none)) head in
    let from = leb-true control (get_or (pages_of set pages) n none).block parts.0 in
    let sum : control + ((get_or (pages_of set pages) n none).block - control) ≡ k = omega (arith, from, at) in
    let here : get_or (drop control list) ((get_or (pages_of set pages) n none).block - control) [] ≡ get_or list k [] = get_or-drop control list ((get_or (pages_of set pages) n none).block - control) [] ∙ ap (λ (i : ℕ). get_or list i []) sum in
    let is : head_is indexes states (get_or list k []) (get_or (pages_of set pages) n none) ≡ true = ap (λ (b : List ℕ). head_is indexes states b (get_or (pages_of set pages) n none)) (sym here) ∙ parts.1 in
    let one = and_parts (is_taken indexes states (get_or list k []) && same_set (set_in (get_or list k [])) (get_or (pages_of set pages) n none).set) (page_in (get_or list k []) == (get_or (pages_of set pages) n none).page) is in
    let two = and_parts (is_taken indexes states (get_or list k [])) (same_set (set_in (get_or list k [])) (get_or (pages_of set pages) n none).set) one.0 in
    record {
      taken = two.0;
      set_is = set_is (set_in (get_or list k [])) (get_or (pages_of set pages) n none).set two.1 ∙ set_is (get_or (pages_of set pages) n none).set set (filter_passes (is_page_of set) pages n none within);
      page_is = eqb-true (page_in (get_or list k [])) (get_or (pages_of set pages) n none).page one.1 ∙ run set n none within;
    }
