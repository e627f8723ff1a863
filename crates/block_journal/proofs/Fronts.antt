-- What lies below the first block, and the body behind the last one, while a journal is at work.
use Rattle.std.proofs.Common.{◌≡◌, inl, inr, ⊎_elim, ℕ, zero, suc, ◌+◌, ◌-◌, ◌*◌, ◌<◌, ◌≤◌, false, ◌==◌, List, ◌∷◌, length, get_or, take, drop, refl, sym, ◌∙◌, ap, arith, length-drop}
use Rattle.std.specs.Int.{w32, from_be_bytes}
use Rattle.std.proofs.lemmas.Bool.{cases_lt, true≢false}
use Rattle.std.proofs.lemmas.List.{get_or-take, get_or-drop, length-take-le, ext_get_or}
use Rattle.hal_base.specs.Disk.{Torn}
use Rattle.block_journal.specs.Change.{Change}
use Rattle.block_journal.specs.Body.{HasBody}
use Rattle.block_journal.specs.Front.{HasLawfulGate, KeepsFront}
use Rattle.block_journal.specs.Placing.{AreWhole, SameBut}
use Rattle.block_journal.specs.Redo.{number_at, bytes_at, changes_at, is_open, journal_of, are_changes}
use Rattle.block_journal.proofs.Changes.{outside_below, outside_above}
use Rattle.block_journal.proofs.Images.{bytes_at-same, torn_outside}

pub number_at-ext : (at : ℕ) (x y : List ℕ) → ((i : ℕ) → at ≤ i → get_or x i 0 ≡ get_or y i 0) → number_at at x ≡ number_at at y
unfolding number_at
number_at-ext at x y same = ap (from_be_bytes w32) (bytes_at-same at 4 x y (record { byte = λ i low high. same i low }))

pub changes_at-ext : (at n : ℕ) (x y : List ℕ) → ((i : ℕ) → at ≤ i → get_or x i 0 ≡ get_or y i 0) → changes_at at n x ≡ changes_at at n y
unfolding changes_at
changes_at-ext at zero x y same = refl
changes_at-ext at (suc n) x y same =
    let number : number_at at x ≡ number_at at y = number_at-ext at x y same in
    let content : bytes_at (at + 4) 4096 x ≡ bytes_at (at + 4) 4096 y = bytes_at-same (at + 4) 4096 x y (record { byte = λ i low high. same i (omega (arith, low)) }) in
    let rest = changes_at-ext (at + 4100) n x y (λ i low. same i (omega (arith, low))) in
    (λ i. (number i, content i) ∷ rest i)

pub journal_of-ext : (first count : ℕ) (x y : List ℕ) → ((i : ℕ) → first + 4096 * count ≤ i → get_or x i 0 ≡ get_or y i 0) → journal_of first count x ≡ journal_of first count y
journal_of-ext first count x y same =
    ap (λ (n : ℕ). changes_at (first + 4096 * count + 8) n x) (number_at-ext (first + 4096 * count) x y same)
    ∙ changes_at-ext (first + 4096 * count + 8) (number_at (first + 4096 * count) y) x y (λ i low. same i (omega (arith, low)))

-- an image with the same bytes from the body on has the same body
pub body_ext : (first count : ℕ) (x y : List ℕ) → length x ≤ length y → ((i : ℕ) → first + 4096 * count ≤ i → get_or y i 0 ≡ get_or x i 0) → HasBody first count x → HasBody first count y
body_ext first count x y le same has =
    let many : number_at (first + 4096 * count) y ≡ number_at (first + 4096 * count) x = number_at-ext (first + 4096 * count) y x same in
    record {
      some = omega (arith, has.some, many);
      one = number_at-ext (first + 4096 * count + 4) y x (λ i low. same i (omega (arith, low))) ∙ has.one;
      there = record {
        long = omega (arith, has.there.long, many, le);
        rise = ap (are_changes 0 count) (journal_of-ext first count y x same) ∙ has.there.rise;
      };
    }

take_same : (n : ℕ) (x y : List ℕ) → n ≤ length x → n ≤ length y → ((i : ℕ) → i < n → get_or y i 0 ≡ get_or x i 0) → take n y ≡ take n x
take_same n x y in_x in_y same = ext_get_or 0 (take n y) (take n x) (length-take-le n y in_y ∙ sym (length-take-le n x in_x)) (λ i lt.
    let below : i < n = omega (arith, lt, length-take-le n y in_y) in
    get_or-take n y i 0 below ∙ same i below ∙ sym (get_or-take n x i 0 below))

pub keeps_from : (first count : ℕ) (x y : List ℕ) → 8192 ≤ first → first ≤ length x → length x ≤ length y → ((i : ℕ) → i < first → (i ≡ 4096 → ⊥) → get_or y i 0 ≡ get_or x i 0) → (HasLawfulGate first count x → HasLawfulGate first count y) → KeepsFront first count x y
keeps_from first count x y far in_x le same lawful = record {
  head = take_same 4096 x y (omega (arith, far, in_x)) (omega (arith, far, in_x, le)) (λ i lt. same i (omega (arith, lt, far)) (λ is. omega (arith, is, lt)));
  behind = take_same (first - 4097) (drop 4097 x) (drop 4097 y) (omega (arith, in_x, length-drop 4097 x)) (omega (arith, in_x, le, length-drop 4097 y)) (λ i lt. get_or-drop 4097 y i 0 ∙ same (4097 + i) (omega (arith, lt)) (λ is. omega (arith, is)) ∙ sym (get_or-drop 4097 x i 0));
  no_shorter = le;
  lawful = lawful;
}

module _ (first count : ℕ) (x y : List ℕ) (far : 8192 ≤ first) (long : first + 4096 * count ≤ length x) where
  -- the body is being written, behind a closed gate
  pub body_front : (n : ℕ) → is_open x ≡ false → Torn (first + 4096 * count) n x y → KeepsFront first count x y
  body_front n closed torn =
      let same = torn_outside (first + 4096 * count) n x y long torn in
      let gate_byte : get_or y 4096 0 ≡ get_or x 4096 0 = same.byte 4096 (inl (omega (arith, far))) in
      keeps_from first count x y far (omega (arith, long)) torn.no_shorter (λ i lt ne. same.byte i (inl (omega (arith, lt)))) (λ lawful opened. absurd (true≢false (sym opened ∙ ap (λ (b : ℕ). b == 1) gate_byte ∙ closed)))

  -- the gate is being opened before a body, or closed
  pub gate_front : HasBody first count x → Torn 4096 1 x y → KeepsFront first count x y
  gate_front has torn =
      let same = torn_outside 4096 1 x y (omega (arith, far, long)) torn in
      keeps_from first count x y far (omega (arith, long)) torn.no_shorter (λ i lt ne. same.byte i (⊎_elim (λ below. inl below) (λ above. inr (omega (arith, above, ne))) (cases_lt i 4096)))
      (λ lawful opened. body_ext first count x y torn.no_shorter (λ i low. same.byte i (inr (omega (arith, low, far)))) has)

  -- the blocks are being written to their places
  pub blocks_body : (cs : List Change) → AreWhole count cs → HasBody first count x → SameBut first cs y x → length x ≤ length y → HasBody first count y
  blocks_body cs whole has same le = body_ext first count x y le (λ i low. same.byte i (outside_above first count cs i whole low)) has

  pub blocks_front : (cs : List Change) → AreWhole count cs → HasBody first count x → SameBut first cs y x → length x ≤ length y → KeepsFront first count x y
  blocks_front cs whole has same le = keeps_from first count x y far (omega (arith, long)) le (λ i lt ne. same.byte i (outside_below first cs i lt)) (λ lawful opened. blocks_body cs whole has same le)
