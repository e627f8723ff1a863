-- Rule 2 of a table's pages and of the blocks that it was read from.
use Rattle.std.proofs.Common.{◌≡◌, ◌∙◌, ℕ, ◌+◌, ◌<◌, Bool, true, false, cond, List, [], ◌∷◌, length, drop, map, reverse, get_or, Option, None, Some, nat_lt, refl, sym, ap, arith}
use Rattle.std.specs.Prelude.{◌&&◌, ◌||◌, ◌==◌, IfSome, filter}
use Rattle.std.proofs.Common.{inr}
use Rattle.std.specs.List.{list_any}
use Rattle.std.specs.List.Sorted.{IsNonDecreasingBy, IsPermutation}
use Rattle.std.proofs.lemmas.Bool.{and_parts, eq-eqb, lt-ltb}
use Rattle.std.proofs.lemmas.List.{length-map}
use Rattle.std.proofs.lemmas.List.Elements.{filter_passes}
use Rattle.std.proofs.lemmas.List.Folds.{list_any_at}
use Rattle.std.proofs.lemmas.List.Sums.{length-filter}
use Rattle.std.proofs.lemmas.List.Kept.{IsNonDecreasingBy-filter}
use Rattle.std.proofs.lemmas.List.Sorted.{sum_by-IsPermutation}
use Rattle.hal_base.specs.declared.pages.SetId.{SetId}
use Rattle.hal_base.specs.declared.place.PartState.{PartState}
use Rattle.volume_image.specs.Header.{set_in, page_in, is_free, is_live, says_no_more}
use Rattle.volume_image.specs.Pages.{same_set, set_blocks}
use Rattle.data_set_pairs.specs.declared.place.PagePlace.{PagePlace}
use Rattle.data_set_pairs.specs.Table.{set_rank, page_rank, is_page_of, pages_of, RunFromZero}
use Rattle.data_set_pairs.specs.Image.{is_taken, page_at, taken_pages, are_known, AreNumbered, HasScanned, BreaksRule, SamePages, TableStands, free_blocks}
use Rattle.data_set_pairs.proofs.TableSteps.{set_is}
use Rattle.data_set_pairs.proofs.Covering.{Covers, own_place}
use Rattle.data_set_pairs.proofs.ScanSteps.{taken_if_live, free_not_taken, known_held}
use Rattle.data_set_pairs.proofs.ScanTable.{told_known, same_pages}

-- a block that is free or live is live where it is taken
pub live_as_taken : (indexes : ℕ) (states : List PartState) (b : List ℕ) → (is_free states b || is_live indexes states b) ≡ true → is_live indexes states b ≡ is_taken indexes states b
live_as_taken indexes states b known = by (is_free states b) refl
  where
    by : (f : Bool) → is_free states b ≡ f → is_live indexes states b ≡ is_taken indexes states b
    by true free = ap (λ (t : Bool). t && says_no_more b) (free_not_taken indexes states b free) ∙ sym (free_not_taken indexes states b free)
    by false free =
        let live : is_live indexes states b ≡ true = sym (ap (λ (t : Bool). t || is_live indexes states b) free) ∙ known in
        live ∙ sym (taken_if_live indexes states b live)

numbers_if : (taken same : Bool) (p : PagePlace) (b : List ℕ) (ps qs : List PagePlace) (bs : List (List ℕ)) (set : SetId) → same ≡ same_set p.set set → p.page ≡ page_in b → qs ≡ pages_of set ps → map (λ p. p.page) qs ≡ map page_in bs → map (λ p. p.page) (pages_of set (cond taken (p ∷ ps) ps)) ≡ map page_in (cond (taken && same) (b ∷ bs) bs)
numbers_if false same p b ps qs bs set is page rest ih = sym (ap (map (λ (p : PagePlace). p.page)) rest) ∙ ih
numbers_if true true p b ps qs bs set is page rest ih =
    sym (ap (λ (t : Bool). map (λ (p : PagePlace). p.page) (cond t (p ∷ pages_of set ps) (pages_of set ps))) is)
    ∙ ap (λ (n : ℕ). n ∷ map (λ (p : PagePlace). p.page) (pages_of set ps)) page
    ∙ ap (λ (l : List ℕ). page_in b ∷ l) (sym (ap (map (λ (p : PagePlace). p.page)) rest) ∙ ih)
numbers_if true false p b ps qs bs set is page rest ih =
    sym (ap (λ (t : Bool). map (λ (p : PagePlace). p.page) (cond t (p ∷ pages_of set ps) (pages_of set ps))) is)
    ∙ sym (ap (map (λ (p : PagePlace). p.page)) rest) ∙ ih

-- the page numbers of a data set, by the table and by the blocks
pub set_numbers : (indexes : ℕ) (states : List PartState) (set : SetId) (n : ℕ) (blocks : List (List ℕ)) → are_known indexes states blocks ≡ true → map (λ p. p.page) (pages_of set (taken_pages indexes states n blocks)) ≡ map page_in (set_blocks indexes states set blocks)
set_numbers indexes states set n [] known = refl
set_numbers indexes states set n (b ∷ bs) known =
    let parts = and_parts (is_free states b || is_live indexes states b) (are_known indexes states bs) known in
    let live = live_as_taken indexes states b parts.0 in
    numbers_if (is_taken indexes states b) (same_set (set_in b) set) (page_at n b) b (taken_pages indexes states (n + 1) bs) (pages_of set (taken_pages indexes states (n + 1) bs)) (set_blocks indexes states set bs) set refl refl refl (set_numbers indexes states set (n + 1) bs parts.1)
    ∙ sym (ap (λ (t : Bool). map page_in (cond (t && same_set (set_in b) set) (b ∷ set_blocks indexes states set bs) (set_blocks indexes states set bs))) live)

pub same_if_permuted : (ps qs : List PagePlace) → IsPermutation ps qs → SamePages ps qs
same_if_permuted ps qs same test = length-filter test qs ∙ sum_by-IsPermutation (λ p. cond (test p) 1 0) ps qs same ∙ sym (length-filter test ps)

-- whether a page passes a test is told by how many do
any_count_if : (b : Bool) (p : PagePlace) (rest : List PagePlace) (more : Bool) → more ≡ nat_lt 0 (length rest) → (b || more) ≡ nat_lt 0 (length (cond b (p ∷ rest) rest))
any_count_if true p rest more is = sym (lt-ltb 0 (length (p ∷ rest)) (omega arith))
any_count_if false p rest more is = is

any_count : (test : PagePlace → Bool) (ps : List PagePlace) → list_any test ps ≡ nat_lt 0 (length (filter test ps))
any_count test [] = refl
any_count test (p ∷ ps) = any_count_if (test p) p (filter test ps) (list_any test ps) (any_count test ps)

pub same_any : (test : PagePlace → Bool) (ps qs : List PagePlace) → SamePages ps qs → list_any test ps ≡ list_any test qs
same_any test ps qs same = any_count test ps ∙ sym (ap (nat_lt 0) (same test)) ∙ sym (any_count test qs)

any_if : (b : Bool) (set : SetId) (n : ℕ) (p : PagePlace) (ps : List PagePlace) → list_any (λ m. m == n) (map (λ p. p.page) (pages_of set ps)) ≡ list_any (λ p. is_page_of set p && p.page == n) ps → list_any (λ m. m == n) (map (λ p. p.page) (cond b (p ∷ pages_of set ps) (pages_of set ps))) ≡ (b && p.page == n || list_any (λ p. is_page_of set p && p.page == n) ps)
any_if true set n p ps rest = ap (λ (b : Bool). p.page == n || b) rest
any_if false set n p ps rest = rest

any_number : (set : SetId) (n : ℕ) (ps : List PagePlace) → list_any (λ m. m == n) (map (λ p. p.page) (pages_of set ps)) ≡ list_any (λ p. is_page_of set p && p.page == n) ps
any_number set n [] = refl
any_number set n (p ∷ ps) = any_if (is_page_of set p) set n p ps (any_number set n ps)

any_map : (n : ℕ) (ps : List PagePlace) → list_any (λ m. m == n) (map (λ p. p.page) ps) ≡ list_any (λ p. p.page == n) ps
any_map n [] = refl
any_map n (p ∷ ps) = ap (λ (b : Bool). p.page == n || b) (any_map n ps)

-- the same of the table's pages in order and of the blocks
has_number : (indexes : ℕ) (states : List PartState) (set : SetId) (at n : ℕ) (blocks : List (List ℕ)) (sorted : List PagePlace) → are_known indexes states blocks ≡ true → SamePages (taken_pages indexes states at blocks) sorted → list_any (λ m. m == n) (map page_in (set_blocks indexes states set blocks)) ≡ list_any (λ p. p.page == n) (pages_of set sorted)
has_number indexes states set at n blocks sorted known same =
    sym (ap (list_any (λ (m : ℕ). m == n)) (set_numbers indexes states set at blocks known))
    ∙ any_number set n (taken_pages indexes states at blocks)
    ∙ same_any (λ (p : PagePlace). is_page_of set p && p.page == n) (taken_pages indexes states at blocks) sorted same
    ∙ sym (any_number set n sorted)
    ∙ any_map n (pages_of set sorted)

pub set_count : (indexes : ℕ) (states : List PartState) (set : SetId) (at : ℕ) (blocks : List (List ℕ)) (sorted : List PagePlace) → are_known indexes states blocks ≡ true → SamePages (taken_pages indexes states at blocks) sorted → length (set_blocks indexes states set blocks) ≡ length (pages_of set sorted)
set_count indexes states set at blocks sorted known same =
    let left = length-map (set_blocks indexes states set blocks) page_in in
    let right = length-map (pages_of set (taken_pages indexes states at blocks)) (λ (p : PagePlace). p.page) in
    let both = ap length (set_numbers indexes states set at blocks known) in
    omega (arith, left, right, both, same (is_page_of set))

pub numbered_if_run : (indexes : ℕ) (states : List PartState) (at : ℕ) (blocks : List (List ℕ)) (sorted : List PagePlace) → are_known indexes states blocks ≡ true → SamePages (taken_pages indexes states at blocks) sorted → RunFromZero sorted → AreNumbered indexes states blocks
numbered_if_run indexes states at blocks sorted known same run set n lt =
    let within : n < length (pages_of set sorted) = omega (arith, lt, set_count indexes states set at blocks sorted known same) in
    let none : PagePlace = record { set = set; page = 0; block = 0 } in
    has_number indexes states set at n blocks sorted known same
    ∙ list_any_at (λ (p : PagePlace). p.page == n) (pages_of set sorted) n none within (eq-eqb (get_or (pages_of set sorted) n none).page n (run set n none within))

-- pages of one data set that are in order are in the order of their numbers
numbers_in_order : (set : SetId) (sorted : List PagePlace) → IsNonDecreasingBy page_rank sorted → IsNonDecreasingBy (λ p. p.page) (pages_of set sorted)
numbers_in_order set sorted order i j d le lt =
    let up = IsNonDecreasingBy-filter page_rank (is_page_of set) sorted order i j d le lt in
    let low = set_is (get_or (pages_of set sorted) i d).set set (filter_passes (is_page_of set) sorted i d (omega (arith, le, lt))) in
    let high = set_is (get_or (pages_of set sorted) j d).set set (filter_passes (is_page_of set) sorted j d lt) in
    omega (arith, up, ap set_rank low, ap set_rank high)

pub run_if_numbered : (indexes : ℕ) (states : List PartState) (at : ℕ) (blocks : List (List ℕ)) (sorted : List PagePlace) → are_known indexes states blocks ≡ true → SamePages (taken_pages indexes states at blocks) sorted → IsNonDecreasingBy page_rank sorted → AreNumbered indexes states blocks → RunFromZero sorted
run_if_numbered indexes states at blocks sorted known same order numbered set n d lt = own_place (pages_of set sorted) (numbers_in_order set sorted order) covers n d lt
  where
    covers : Covers (pages_of set sorted)
    covers m within =
        let less : m < length (set_blocks indexes states set blocks) = omega (arith, within, set_count indexes states set at blocks sorted known same) in
        sym (has_number indexes states set at m blocks sorted known same) ∙ numbered set m less

-- what the check of the order came to
pub told_numbered : (indexes : ℕ) (states : List PartState) (control number : ℕ) (told : Option (List (List ℕ))) (pages sorted : List PagePlace) (free : List ℕ) → HasScanned indexes states control number told pages free → IsPermutation pages sorted → RunFromZero sorted → IfSome told (λ list. AreNumbered indexes states (drop control list))
told_numbered indexes states control number None pages sorted free scan same run = tt
told_numbered indexes states control number (Some list) pages sorted free scan same run =
    let is = scan.told list refl in
    numbered_if_run indexes states control (drop control list) sorted (told_known indexes states control number (Some list) pages free scan) (same_if_permuted (taken_pages indexes states control (drop control list)) sorted (same_pages indexes states control number (Some list) pages sorted free scan same (drop control list) (scan.scanned.taken ∙ ap (taken_pages indexes states control) (sym is)))) run

pub told_broken : (indexes : ℕ) (states : List PartState) (control number rule : ℕ) (told : Option (List (List ℕ))) (pages sorted : List PagePlace) (free : List ℕ) → rule ≡ 2 → HasScanned indexes states control number told pages free → IsPermutation pages sorted → IsNonDecreasingBy page_rank sorted → (RunFromZero sorted → ⊥) → IfSome told (λ list. BreaksRule indexes states (drop control list) rule)
told_broken indexes states control number rule None pages sorted free two scan same order gap = tt
told_broken indexes states control number rule (Some list) pages sorted free two scan same order gap =
    let is = scan.told list refl in
    let known = told_known indexes states control number (Some list) pages free scan in
    inr (two, known, λ numbered. gap (run_if_numbered indexes states control (drop control list) sorted known (same_if_permuted (taken_pages indexes states control (drop control list)) sorted (same_pages indexes states control number (Some list) pages sorted free scan same (drop control list) (scan.scanned.taken ∙ ap (taken_pages indexes states control) (sym is)))) order numbered))

pub table_stands : (indexes : ℕ) (states : List PartState) (control number : ℕ) (told : Option (List (List ℕ))) (pages sorted : List PagePlace) (free : List ℕ) → HasScanned indexes states control number told pages free → IsPermutation pages sorted → IfSome told (TableStands indexes states control sorted (reverse free))
table_stands indexes states control number None pages sorted free scan same = tt
table_stands indexes states control number (Some list) pages sorted free scan same =
    let is = scan.told list refl in
    record {
      taken = same_if_permuted (taken_pages indexes states control (drop control list)) sorted (same_pages indexes states control number (Some list) pages sorted free scan same (drop control list) (scan.scanned.taken ∙ ap (taken_pages indexes states control) (sym is)));
      left = scan.scanned.left ∙ ap (free_blocks states control) (sym is);
      held = known_held indexes states (drop control list) (ap (are_known indexes states) is ∙ scan.scanned.known);
    }
