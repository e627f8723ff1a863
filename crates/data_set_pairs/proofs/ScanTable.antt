-- What a table that was read from all data blocks says, once its pages are put in order.
use Rattle.std.proofs.Common.{◌≡◌, ◌∙◌, ℕ, suc, ◌+◌, ◌^◌, ◌<◌, Bool, true, false, cond, List, [], ◌∷◌, length, drop, reverse, Option, None, Some, nat_le, refl, sym, ap, subst, arith}
use Rattle.std.specs.Prelude.{◌||◌, not, All, IfSome, IsTrue}
use Rattle.std.specs.List.Sorted.{IsNonDecreasingBy, IsPermutation}
use Rattle.std.proofs.lemmas.Bool.{and_parts, and_from, le-leb}
use Rattle.std.proofs.lemmas.List.{length-reverse}
use Rattle.std.proofs.lemmas.List.Elements.{All-nil, All-cons, All-weaker}
use Rattle.std.proofs.lemmas.List.Sorted.{All-permutation, IsPermutation-sym, IsPermutation-trans, IsPermutation-reverse, length_permutation}
use Rattle.hal_base.specs.Pages.{rises_from}
use Rattle.hal_base.specs.declared.place.PartState.{PartState}
use Rattle.volume_image.specs.Header.{is_free, is_live}
use Rattle.data_set_pairs.specs.declared.place.PagePlace.{PagePlace}
use Rattle.data_set_pairs.specs.Table.{page_rank, RunFromZero, HasPlace, IsBetween, IsTable}
use Rattle.data_set_pairs.specs.ShelfLaw.{rise_weaker}
use Rattle.data_set_pairs.specs.Image.{is_taken, page_at, taken_pages, free_blocks, are_known, IsScanned, HasScanned}
use Rattle.data_set_pairs.proofs.OrderSteps.{sets_in_order}
use Rattle.data_set_pairs.proofs.ScanSteps.{taken_if_live, free_not_taken}

-- the numbers of the blocks
within_if : (b : Bool) (low high : ℕ) (p : PagePlace) (ps : List PagePlace) → IsBetween low high p.block → All (λ p. IsBetween low high p.block) ps → All (λ p. IsBetween low high p.block) (cond b (p ∷ ps) ps)
within_if true low high p ps one rest = All-cons (λ (p : PagePlace). IsBetween low high p.block) p ps one rest
within_if false low high p ps one rest = rest

pub taken_within : (indexes : ℕ) (states : List PartState) (n : ℕ) (blocks : List (List ℕ)) → All (λ p. IsBetween n (n + length blocks) p.block) (taken_pages indexes states n blocks)
taken_within indexes states n [] = All-nil (λ (p : PagePlace). IsBetween n (n + 0) p.block)
taken_within indexes states n (b ∷ bs) =
    within_if (is_taken indexes states b) n (n + length (b ∷ bs)) (page_at n b) (taken_pages indexes states (n + 1) bs) (record { from = omega arith; to = omega arith })
    (All-weaker (λ (p : PagePlace). IsBetween (n + 1) (n + 1 + length bs) p.block) (λ (p : PagePlace). IsBetween n (n + length (b ∷ bs)) p.block) (λ p is. record { from = omega (arith, is.from); to = omega (arith, is.to) }) (taken_pages indexes states (n + 1) bs) (taken_within indexes states (n + 1) bs))

free_if : (b : Bool) (low high k : ℕ) (ks : List ℕ) → IsBetween low high k → All (IsBetween low high) ks → All (IsBetween low high) (cond b (k ∷ ks) ks)
free_if true low high k ks one rest = All-cons (IsBetween low high) k ks one rest
free_if false low high k ks one rest = rest

pub free_within : (states : List PartState) (n : ℕ) (blocks : List (List ℕ)) → All (IsBetween n (n + length blocks)) (free_blocks states n blocks)
free_within states n [] = All-nil (IsBetween n (n + 0))
free_within states n (b ∷ bs) =
    free_if (is_free states b) n (n + length (b ∷ bs)) n (free_blocks states (n + 1) bs) (record { from = omega arith; to = omega arith })
    (All-weaker (IsBetween (n + 1) (n + 1 + length bs)) (IsBetween n (n + length (b ∷ bs))) (λ k is. record { from = omega (arith, is.from); to = omega (arith, is.to) }) (free_blocks states (n + 1) bs) (free_within states (n + 1) bs))

rise_if : (b : Bool) (n : ℕ) (ks : List ℕ) → rises_from (n + 1) ks ≡ true → rises_from n (cond b (n ∷ ks) ks) ≡ true
rise_if true n ks rise = and_from (nat_le n n) (rises_from (n + 1) ks) (le-leb n n (omega arith)) rise
rise_if false n ks rise = rise_weaker (n + 1) n ks (omega arith) rise

pub free_rises : (states : List PartState) (n : ℕ) (blocks : List (List ℕ)) → rises_from n (free_blocks states n blocks) ≡ true
free_rises states n [] = refl
free_rises states n (b ∷ bs) = rise_if (is_free states b) n (free_blocks states (n + 1) bs) (free_rises states (n + 1) bs)

-- each block is free or taken, and not both
either : (indexes : ℕ) (states : List PartState) (b : List ℕ) (f : Bool) → is_free states b ≡ f → (is_free states b || is_live indexes states b) ≡ true → is_taken indexes states b ≡ not f
either indexes states b true free known = free_not_taken indexes states b free
either indexes states b false free known = taken_if_live indexes states b (sym (ap (λ (t : Bool). t || is_live indexes states b) free) ∙ known)

count_if : (f : Bool) (p : PagePlace) (ps : List PagePlace) (n : ℕ) (ns : List ℕ) → length (cond (not f) (p ∷ ps) ps) + length (cond f (n ∷ ns) ns) ≡ suc (length ps + length ns)
count_if true p ps n ns = omega arith
count_if false p ps n ns = omega arith

pub count_all : (indexes : ℕ) (states : List PartState) (n : ℕ) (blocks : List (List ℕ)) → are_known indexes states blocks ≡ true → length (taken_pages indexes states n blocks) + length (free_blocks states n blocks) ≡ length blocks
count_all indexes states n [] known = omega arith
count_all indexes states n (b ∷ bs) known =
    let parts = and_parts (is_free states b || is_live indexes states b) (are_known indexes states bs) known in
    let taken = either indexes states b (is_free states b) refl parts.0 in
    let rest = count_all indexes states (n + 1) bs parts.1 in
    ap (λ (t : Bool). length (cond t (page_at n b ∷ taken_pages indexes states (n + 1) bs) (taken_pages indexes states (n + 1) bs)) + length (free_blocks states n (b ∷ bs))) taken
    ∙ count_if (is_free states b) (page_at n b) (taken_pages indexes states (n + 1) bs) n (free_blocks states (n + 1) bs)
    ∙ ap suc rest

-- the table's pages in another order
pub table_made : (indexes : ℕ) (states : List PartState) (control number : ℕ) (told : Option (List (List ℕ))) (pages sorted : List PagePlace) (free : List ℕ) → HasScanned indexes states control number told pages free → IsPermutation pages sorted → IsNonDecreasingBy page_rank sorted → RunFromZero sorted → IsTable control number sorted (reverse free)
table_made indexes states control number told pages sorted free scan same order run = record {
  order = sets_in_order sorted (All-permutation (λ (p : PagePlace). p.page < 2 ^ 16) pages sorted same s.numbers) order;
  run = run;
  small = All-permutation (λ (p : PagePlace). HasPlace p.set) pages sorted same s.small;
  within = All-permutation (λ (p : PagePlace). IsBetween control number p.block) pages sorted same (All-permutation (λ (p : PagePlace). IsBetween control number p.block) (reverse pages) pages (IsPermutation-sym pages (reverse pages) (IsPermutation-reverse pages)) below);
  rise = subst (λ (l : List ℕ). IsTrue (rises_from control l)) (sym s.left) (free_rises states control scan.seen);
  free_within = subst (λ (l : List ℕ). All (IsBetween control number) l) (sym s.left) (All-weaker (IsBetween control (control + length scan.seen)) (IsBetween control number) (λ n is. record { from = is.from; to = omega (arith, is.to, scan.many) }) (free_blocks states control scan.seen) (free_within states control scan.seen));
  every = omega (arith, length_permutation pages sorted same, length-reverse pages, ap length s.taken, ap length s.left, count_all indexes states control scan.seen s.known, scan.many);
}
  where
    s : IsScanned indexes states control scan.seen pages free
    s = scan.scanned

    below : All (λ p. IsBetween control number p.block) (reverse pages)
    below = subst (λ (l : List PagePlace). All (λ p. IsBetween control number p.block) l) (sym s.taken) (All-weaker (λ (p : PagePlace). IsBetween control (control + length scan.seen) p.block) (λ (p : PagePlace). IsBetween control number p.block) (λ p is. record { from = is.from; to = omega (arith, is.to, scan.many) }) (taken_pages indexes states control scan.seen) (taken_within indexes states control scan.seen))

pub same_pages : (indexes : ℕ) (states : List PartState) (control number : ℕ) (told : Option (List (List ℕ))) (pages sorted : List PagePlace) (free : List ℕ) → HasScanned indexes states control number told pages free → IsPermutation pages sorted → (seen : List (List ℕ)) → reverse pages ≡ taken_pages indexes states control seen → IsPermutation (taken_pages indexes states control seen) sorted
same_pages indexes states control number told pages sorted free scan same seen is =
    IsPermutation-trans (taken_pages indexes states control seen) pages sorted (subst (λ (l : List PagePlace). IsPermutation l pages) is (IsPermutation-sym pages (reverse pages) (IsPermutation-reverse pages))) same

pub told_known : (indexes : ℕ) (states : List PartState) (control number : ℕ) (told : Option (List (List ℕ))) (pages : List PagePlace) (free : List ℕ) → HasScanned indexes states control number told pages free → IfSome told (λ list. IsTrue (are_known indexes states (drop control list)))
told_known indexes states control number None pages free scan = tt
told_known indexes states control number (Some list) pages free scan = ap (are_known indexes states) (scan.told list refl) ∙ scan.scanned.known
