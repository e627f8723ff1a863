-- A state with the partition and the reorganization number of the one in its place leaves the table of pages as it is.
use Rattle.std.proofs.Common.{◌≡◌, ◌∙◌, ℕ, zero, suc, ◌+◌, ◌==◌, Bool, true, false, ◌&&◌, ◌||◌, not, cond, nat_lt, List, [], ◌∷◌, length, drop, reverse, slice_get, slice_set, Option, None, Some, IsTrue, subst, refl, sym, ap, arith}
use Rattle.std.specs.Prelude.{filter, All, IfSome, IfNone}
use Rattle.std.proofs.lemmas.List.Elements.{All-tail}
use Rattle.data_set_pairs.proofs.ScanSteps.{known_held}
use Rattle.std.specs.List.{list_any}
use Rattle.std.proofs.lemmas.Bool.{and_parts}
use Rattle.std.proofs.lemmas.Option.{none-some, same_Some}
use Rattle.hal_base.specs.declared.pages.SetId.{SetId}
use Rattle.hal_base.specs.declared.place.PartState.{PartState}
use Rattle.volume_image.specs.Header.{kind_in, set_in, leaves_behind, is_free, is_live, is_live_set, says_no_more}
use Rattle.data_set_pairs.specs.declared.place.PagePlace.{PagePlace}
use Rattle.data_set_pairs.specs.declared.table.Table.{Table}
use Rattle.data_set_pairs.specs.Table.{IsTable}
use Rattle.data_set_pairs.specs.Kept.{last_pages, last_free}
use Rattle.data_set_pairs.specs.Volume.{IsLaidOut}
use Rattle.data_set_pairs.specs.Row.{KeepsNumber}
use Rattle.data_set_pairs.specs.Image.{is_held, is_taken, page_at, taken_pages, free_blocks, are_known, TableStands}

-- ---- the free blocks

same_left : (states : List PartState) (place : ℕ) (old s : PartState) (set : SetId) → slice_get states place ≡ Some old → s.part ≡ old.part → s.number ≡ old.number → list_any (leaves_behind set) (slice_set states place s) ≡ list_any (leaves_behind set) states
same_left [] place old s set e part number = absurd (none-some old e)
same_left (x ∷ states) zero old s set e part number =
    let is : x ≡ old = same_Some x old e in
    let same : leaves_behind set s ≡ leaves_behind set x =
    ap (λ (p : ℕ). p == set.part && nat_lt set.number s.number) part ∙ ap (λ (n : ℕ). old.part == set.part && nat_lt set.number n) number ∙ ap (leaves_behind set) (sym is) in
    ap (λ (b : Bool). b || list_any (leaves_behind set) states) same
same_left (x ∷ states) (suc place) old s set e part number = ap (λ (b : Bool). leaves_behind set x || b) (same_left states place old s set e part number)

same_free : (states : List PartState) (place : ℕ) (s : PartState) (block : List ℕ) → KeepsNumber states place s → is_free (slice_set states place s) block ≡ is_free states block
same_free states place s block k =
    ap (λ (b : Bool). kind_in block == 0 || (not ((set_in block).letter == 76) && b)) (same_left states place k.old s (set_in block) k.is k.part k.number)

same_free_blocks : (states : List PartState) (place : ℕ) (s : PartState) (n : ℕ) (blocks : List (List ℕ)) → KeepsNumber states place s → free_blocks (slice_set states place s) n blocks ≡ free_blocks states n blocks
same_free_blocks states place s n [] k = refl
same_free_blocks states place s n (block ∷ blocks) k =
    let changed = free_blocks (slice_set states place s) (n + 1) blocks in
    ap (λ (b : Bool). cond b (n ∷ changed) changed) (same_free states place s block k) ∙ ap (λ (ns : List ℕ). cond (is_free states block) (n ∷ ns) ns) (same_free_blocks states place s (n + 1) blocks k)

-- ---- the others: each that isn't free is a page

abbrev rest_of : ℕ → List PartState → List ℕ → Bool
rest_of indexes states block = is_live_set indexes states (kind_in block) (set_in block)

abbrev taken_if : ℕ → List PartState → List ℕ → Bool → Bool
taken_if indexes states block free = not free && (kind_in block == 1 || kind_in block == 2) && rest_of indexes states block

same_taken : (indexes : ℕ) (states : List PartState) (place : ℕ) (s : PartState) (block : List ℕ) → KeepsNumber states place s → is_held indexes states block ≡ true
    → (is_free (slice_set states place s) block || is_live indexes (slice_set states place s) block) ≡ true → is_taken indexes (slice_set states place s) block ≡ is_taken indexes states block
same_taken indexes states place s block k old new = by (is_free states block) refl old
  where
    changed : List PartState
    changed = slice_set states place s

    by : (f : Bool) → is_free states block ≡ f → (f || is_taken indexes states block) ≡ true → is_taken indexes changed block ≡ is_taken indexes states block
    by true e h = ap (taken_if indexes changed block) (same_free states place s block k ∙ e) ∙ sym (ap (taken_if indexes states block) e)
    by false e h =
        let free : is_free changed block ≡ false = same_free states place s block k ∙ e in
        let live : is_live indexes changed block ≡ true = sym (ap (λ (b : Bool). b || is_live indexes changed block) free) ∙ new in
        (and_parts (is_taken indexes changed block) (says_no_more block) live).0 ∙ sym h

same_pages : (indexes : ℕ) (states : List PartState) (place : ℕ) (s : PartState) (n : ℕ) (blocks : List (List ℕ)) → KeepsNumber states place s → All (λ b. is_held indexes states b ≡ true) blocks → are_known indexes (slice_set states place s) blocks ≡ true
    → taken_pages indexes (slice_set states place s) n blocks ≡ taken_pages indexes states n blocks
same_pages indexes states place s n [] k old new = refl
same_pages indexes states place s n (block ∷ blocks) k old new =
    let changed = slice_set states place s in
    let was = old 0 block (omega arith) in
    let rest = All-tail (λ (b : List ℕ). is_held indexes states b ≡ true) block blocks old in
    let (is, others) = and_parts (is_free changed block || is_live indexes changed block) (are_known indexes changed blocks) new in
    let pages = taken_pages indexes changed (n + 1) blocks in
    ap (λ (b : Bool). cond b (page_at n block ∷ pages) pages) (same_taken indexes states place s block k was is)
    ∙ ap (λ (ps : List PagePlace). cond (is_taken indexes states block) (page_at n block ∷ ps) ps) (same_pages indexes states place s (n + 1) blocks k rest others)

-- ---- the table

pub same_stands : (indexes control : ℕ) (states : List PartState) (place : ℕ) (s : PartState) (pages : List PagePlace) (free : List ℕ) (list : List (List ℕ)) → KeepsNumber states place s
    → IsTrue (are_known indexes (slice_set states place s) (drop control list)) → TableStands indexes states control pages free list → TableStands indexes (slice_set states place s) control pages free list
same_stands indexes control states place s pages free list k known t = record {
  taken = λ test. t.taken test ∙ ap (λ (ps : List PagePlace). length (filter test ps)) (sym (same_pages indexes states place s control (drop control list) k t.held known));
  left = t.left ∙ sym (same_free_blocks states place s control (drop control list) k);
  held = known_held indexes (slice_set states place s) (drop control list) known;
}
