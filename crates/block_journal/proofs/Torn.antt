-- What a stop leaves in each step of a commit: the blocks before it, or the blocks with the changes made.
use Rattle.std.proofs.Common.{◌≡◌, ◌⊎◌, inl, inr, ⊎_elim, ℕ, ◌+◌, ◌*◌, ◌^◌, ◌<◌, ◌≤◌, true, false, ◌==◌, List, [], ◌∷◌, ◌++◌, length, get_or, refl, sym, ◌∙◌, ap, arith, length-append}
use Rattle.std.specs.List.{flat_map}
use Rattle.std.specs.Int.{w32, from_be_bytes, to_be_bytes}
use Rattle.std.proofs.lemmas.List.{get_or_append_left, get_or-append-add}
use Rattle.std.proofs.lemmas.Nat.{from_be_bytes-to_be_bytes_4}
use Rattle.std.proofs.lemmas.Bool.{cases_Bool}
use Rattle.hal_base.specs.Disk.{written, Torn}
use Rattle.block_journal.specs.Change.{Change}
use Rattle.block_journal.specs.Redo.{number_at, blocks_at, changes_at, put_all, is_open, journal_of, redone, change_bytes, body_bytes, are_changes}
use Rattle.block_journal.proofs.Images.{SameOutside, bytes_at-is, torn_outside, written_inside, written_outside, length-written, length-written_le}
use Rattle.block_journal.specs.Body.{HasBody}
use Rattle.block_journal.specs.Placing.{AreWhole}
use Rattle.block_journal.specs.Commit.{CommitMakes}
use Rattle.block_journal.specs.Front.{KeepsFront}
use Rattle.block_journal.specs.Redoing.{IsToRedo, RedoMakes}
use Rattle.block_journal.proofs.Changes.{blocks_at-ext, changes_at-is, length-body}
use Rattle.block_journal.proofs.Fronts.{body_front, gate_front}
use Rattle.block_journal.proofs.Redoing.{redone_open, redone_changes}
use Rattle.block_journal.proofs.Rising.{are_few}
use Rattle.hal_base.proofs.ImageLemmas.{torn_whole}
use Rattle.block_journal.specs.JournalLaw.{are_whole, keeps_then, redone_closed}

gate_same : (x y : List ℕ) → get_or x 4096 0 ≡ get_or y 4096 0 → is_open x ≡ is_open y
gate_same x y same = ap (λ (b : ℕ). b == 1) same

-- what the commit begins with: a whole image with a closed gate, and changes that fit it
pub record Begins (first count : ℕ) (cs : List Change) (x : List ℕ) : Type 0 where
  pub behind : 8192 ≤ first
  pub rise : are_changes 0 count cs ≡ true
  pub some : 1 ≤ length cs
  pub small : count < 2 ^ 32
  pub long : first + 4096 * count ≤ length x
  pub closed : is_open x ≡ false

module _ (first count : ℕ) (cs : List Change) (x : List ℕ) (b : Begins first count cs x) where
  -- the body is being written
  pub body_torn : (n : ℕ) (y : List ℕ) → Torn (first + 4096 * count) n x y → redone first count y ≡ blocks_at first count x
  body_torn n y torn =
      let same = torn_outside (first + 4096 * count) n x y b.long torn in
      redone_closed first count y (gate_same y x (same.byte 4096 (inl (omega (arith, b.behind)))) ∙ b.closed)
      ∙ blocks_at-ext first count y x (record { byte = λ i low high. same.byte i (inl high) })

  staged_outside : SameOutside (first + 4096 * count) (length (body_bytes cs)) (written (first + 4096 * count) (body_bytes cs) x) x
  staged_outside = written_outside (first + 4096 * count) (body_bytes cs) x b.long

  pub long_staged : first + 4096 * count ≤ length (written (first + 4096 * count) (body_bytes cs) x)
  long_staged = omega (arith, b.long, (length-written_le (first + 4096 * count) (body_bytes cs) x b.long).0)

  whole : AreWhole count cs
  whole = are_whole 0 count cs b.rise

  few : length cs ≤ count
  few = omega (arith, are_few 0 count cs (omega arith) b.rise)

  -- an image that has what is staged, from the body on, has the changes in its journal
  module _ (y : List ℕ) (same : (i : ℕ) → first + 4096 * count ≤ i → get_or y i 0 ≡ get_or (written (first + 4096 * count) (body_bytes cs) x) i 0) where
    body_length : length (body_bytes cs) ≡ 8 + length (flat_map change_bytes cs)
    body_length = length-append (to_be_bytes w32 (length cs) ++ to_be_bytes w32 1) (flat_map change_bytes cs)

    in_body : (i : ℕ) → i < length (body_bytes cs) → get_or y (first + 4096 * count + i) 0 ≡ get_or (body_bytes cs) i 0
    in_body i lt = same (first + 4096 * count + i) (omega arith) ∙ written_inside (first + 4096 * count) (body_bytes cs) x i b.long lt

    in_head : (i : ℕ) → i < 8 → get_or y (first + 4096 * count + i) 0 ≡ get_or (to_be_bytes w32 (length cs) ++ to_be_bytes w32 1) i 0
    in_head i lt = in_body i (omega (arith, body_length, lt)) ∙ get_or_append_left (to_be_bytes w32 (length cs) ++ to_be_bytes w32 1) (flat_map change_bytes cs) 0 i (omega (arith, lt))

    count_is : number_at (first + 4096 * count) y ≡ length cs
    unfolding number_at
    count_is =
        ap (from_be_bytes w32) (bytes_at-is (first + 4096 * count) 4 (to_be_bytes w32 (length cs)) y refl (record { byte = λ i lt. in_head i (omega (arith, lt)) ∙ get_or_append_left (to_be_bytes w32 (length cs)) (to_be_bytes w32 1) 0 i (omega (arith, lt)) }))
        ∙ from_be_bytes-to_be_bytes_4 (length cs) (omega (arith, few, b.small))

    one_is : number_at (first + 4096 * count + 4) y ≡ 1
    unfolding number_at
    one_is = ap (from_be_bytes w32) (bytes_at-is (first + 4096 * count + 4) 4 (to_be_bytes w32 1) y refl (record {
      byte = λ i lt.
          ap (λ (k : ℕ). get_or y k 0) (omega arith) ∙ in_head (4 + i) (omega (arith, lt)) ∙ get_or-append-add (to_be_bytes w32 (length cs)) (to_be_bytes w32 1) i 0;
    }))

    in_flat : (i : ℕ) → i < length (flat_map change_bytes cs) → get_or y (first + 4096 * count + 8 + i) 0 ≡ get_or (flat_map change_bytes cs) i 0
    in_flat i lt =
        ap (λ (k : ℕ). get_or y k 0) (omega arith)
        ∙ in_body (8 + i) (omega (arith, body_length, lt))
        ∙ get_or-append-add (to_be_bytes w32 (length cs) ++ to_be_bytes w32 1) (flat_map change_bytes cs) i 0

    journal_is : journal_of first count y ≡ cs
    journal_is = ap (λ (n : ℕ). changes_at (first + 4096 * count + 8) n y) count_is ∙ changes_at-is (first + 4096 * count + 8) count cs y whole (omega (arith, b.small)) (record { byte = in_flat })

    -- and so it has a body
    has_body : length (written (first + 4096 * count) (body_bytes cs) x) ≤ length y → HasBody first count y
    has_body le = record {
      some = omega (arith, count_is, b.some);
      one = one_is;
      there = record {
        long = omega (arith, count_is, le, (length-written_le (first + 4096 * count) (body_bytes cs) x b.long).1, length-body count cs whole);
        rise = ap (are_changes 0 count) journal_is ∙ b.rise;
      };
    }

  in_blocks : (i : ℕ) → first ≤ i → i < first + 4096 * count → get_or (written (first + 4096 * count) (body_bytes cs) x) i 0 ≡ get_or x i 0
  in_blocks i low high = staged_outside.byte i (inl high)

  staged_long : 4096 ≤ length (written (first + 4096 * count) (body_bytes cs) x)
  staged_long = omega (arith, long_staged, b.behind)

  -- the gate is being opened
  pub gate_torn : (y : List ℕ) → Torn 4096 1 (written (first + 4096 * count) (body_bytes cs) x) y → (redone first count y ≡ blocks_at first count x) ⊎ (redone first count y ≡ put_all cs (blocks_at first count x))
  gate_torn y torn = ⊎_elim (λ opened. inr (redone_open first count y opened ∙ (λ i. put_all (journal i) (blocks_same i)))) (λ closed. inl (redone_closed first count y closed ∙ blocks_same)) (cases_Bool (is_open y))
    where
      same : SameOutside 4096 1 y (written (first + 4096 * count) (body_bytes cs) x)
      same = torn_outside 4096 1 (written (first + 4096 * count) (body_bytes cs) x) y staged_long torn

      journal : journal_of first count y ≡ cs
      journal = journal_is y (λ i le. same.byte i (inr (omega (arith, le, b.behind))))

      blocks_same : blocks_at first count y ≡ blocks_at first count x
      blocks_same = blocks_at-ext first count y x (record { byte = λ i low high. same.byte i (inr (omega (arith, low, b.behind))) ∙ in_blocks i low high })

  gated_body : (y : List ℕ) → Torn 4096 1 (written (first + 4096 * count) (body_bytes cs) x) y → HasBody first count y
  gated_body y torn =
      let same = torn_outside 4096 1 (written (first + 4096 * count) (body_bytes cs) x) y staged_long torn in
      has_body y (λ i le. same.byte i (inr (omega (arith, le, b.behind)))) torn.no_shorter

  staged_front : KeepsFront first count x (written (first + 4096 * count) (body_bytes cs) x)
  staged_front = body_front first count x (written (first + 4096 * count) (body_bytes cs) x) b.behind b.long (length (body_bytes cs)) b.closed (torn_whole (first + 4096 * count) (body_bytes cs) x)

  gated_front : (y : List ℕ) → Torn 4096 1 (written (first + 4096 * count) (body_bytes cs) x) y → KeepsFront first count x y
  gated_front y torn = keeps_then staged_front (gate_front first count (written (first + 4096 * count) (body_bytes cs) x) y b.behind long_staged (has_body (written (first + 4096 * count) (body_bytes cs) x) (λ i le. refl) (omega arith)) torn)

  opened_outside : SameOutside 4096 1 (written 4096 (1 ∷ []) (written (first + 4096 * count) (body_bytes cs) x)) (written (first + 4096 * count) (body_bytes cs) x)
  opened_outside = written_outside 4096 (1 ∷ []) (written (first + 4096 * count) (body_bytes cs) x) staged_long

  pub long_opened : first + 4096 * count ≤ length (written 4096 (1 ∷ []) (written (first + 4096 * count) (body_bytes cs) x))
  long_opened = omega (arith, long_staged, b.behind, length-written 4096 (1 ∷ []) (written (first + 4096 * count) (body_bytes cs) x) (omega (arith, long_staged, b.behind)))

  opened_blocks : blocks_at first count (written 4096 (1 ∷ []) (written (first + 4096 * count) (body_bytes cs) x)) ≡ blocks_at first count x
  opened_blocks = blocks_at-ext first count (written 4096 (1 ∷ []) (written (first + 4096 * count) (body_bytes cs) x)) x (record { byte = λ i low high. opened_outside.byte i (inr (omega (arith, low, b.behind))) ∙ in_blocks i low high })

  -- from here on it is an open journal
  pub to_redo : IsToRedo first count cs (written 4096 (1 ∷ []) (written (first + 4096 * count) (body_bytes cs) x))
  to_redo = record {
    long = long_opened;
    opened = ap (λ (b : ℕ). b == 1) (written_inside 4096 (1 ∷ []) (written (first + 4096 * count) (body_bytes cs) x) 0 staged_long (omega arith));
    body = gated_body (written 4096 (1 ∷ []) (written (first + 4096 * count) (body_bytes cs) x)) (torn_whole 4096 (1 ∷ []) (written (first + 4096 * count) (body_bytes cs) x));
    journal = sym (journal_is (written 4096 (1 ∷ []) (written (first + 4096 * count) (body_bytes cs) x)) (λ i le. opened_outside.byte i (inr (omega (arith, le, b.behind)))));
  }

  pub redone_opened : redone first count (written 4096 (1 ∷ []) (written (first + 4096 * count) (body_bytes cs) x)) ≡ put_all cs (blocks_at first count x)
  redone_opened = redone_changes first count cs (written 4096 (1 ∷ []) (written (first + 4096 * count) (body_bytes cs) x)) b.behind whole to_redo ∙ ap (λ (l : List (List ℕ)). put_all cs l) opened_blocks

  opened_front : KeepsFront first count x (written 4096 (1 ∷ []) (written (first + 4096 * count) (body_bytes cs) x))
  opened_front = gated_front (written 4096 (1 ∷ []) (written (first + 4096 * count) (body_bytes cs) x)) (torn_whole 4096 (1 ∷ []) (written (first + 4096 * count) (body_bytes cs) x))

  -- what each step makes
  pub body_makes : (n : ℕ) (y : List ℕ) → Torn (first + 4096 * count) n x y → CommitMakes first count cs x y
  body_makes n y torn = record { either = inl (body_torn n y torn); front = body_front first count x y b.behind b.long n b.closed torn }

  pub gate_makes : (y : List ℕ) → Torn 4096 1 (written (first + 4096 * count) (body_bytes cs) x) y → CommitMakes first count cs x y
  gate_makes y torn = record { either = gate_torn y torn; front = gated_front y torn }

  pub redo_makes : (y : List ℕ) → RedoMakes first count (written 4096 (1 ∷ []) (written (first + 4096 * count) (body_bytes cs) x)) y → CommitMakes first count cs x y
  redo_makes y makes =
      let m = makes.whole long_opened in
      record { either = inr (m.0 ∙ redone_opened); front = keeps_then opened_front m.1 }
