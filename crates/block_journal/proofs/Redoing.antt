-- What a stop leaves while an open journal is redone: images that stand for the same blocks.
use Rattle.std.proofs.Common.{◌≡◌, inr, ⊎_elim, ℕ, ◌+◌, ◌*◌, ◌≤◌, Bool, true, cond, ◌==◌, List, [], ◌∷◌, length, get_or, sym, ◌∙◌, ap, arith}
use Rattle.std.proofs.lemmas.Bool.{cases_Bool}
use Rattle.hal_base.specs.Disk.{written, Torn}
use Rattle.block_journal.specs.Change.{Change}
use Rattle.block_journal.specs.Redo.{blocks_at, put_all, put_image, is_open, journal_of, redone}
use Rattle.block_journal.specs.Commit.{IsSettled}
use Rattle.block_journal.specs.Placing.{AreWhole, SameBut, Places}
use Rattle.block_journal.specs.Redoing.{IsToRedo, RedoMakes}
use Rattle.block_journal.proofs.Fronts.{journal_of-ext, blocks_body, blocks_front, gate_front}
use Rattle.block_journal.proofs.Images.{SameOutside, torn_outside, written_inside, written_outside, length-written}
use Rattle.block_journal.proofs.Changes.{blocks_at-ext, put_all-same, put_all-twice, outside_below, outside_above, length-put_image, blocks_at-put_image, put_image-outside}
use Rattle.block_journal.specs.JournalLaw.{keeps_then, redone_closed}

pub redone_open : (first count : ℕ) (x : List ℕ) → is_open x ≡ true → redone first count x ≡ put_all (journal_of first count x) (blocks_at first count x)
unfolding redone
redone_open first count x opened = ap (λ (b : Bool). cond b (put_all (journal_of first count x) (blocks_at first count x)) (blocks_at first count x)) opened

module _ (first count : ℕ) (cs : List Change) (y : List ℕ) (behind : 8192 ≤ first) (whole : AreWhole count cs) (redo : IsToRedo first count cs y) where
  long : first + 4096 * count ≤ length y
  long = redo.long

  pub redone_changes : redone first count y ≡ put_all cs (blocks_at first count y)
  redone_changes = redone_open first count y redo.opened ∙ ap (λ (l : List Change). put_all l (blocks_at first count y)) (sym redo.journal)

  journal_is : (x : List ℕ) → ((i : ℕ) → first + 4096 * count ≤ i → get_or x i 0 ≡ get_or y i 0) → journal_of first count x ≡ cs
  journal_is x same = journal_of-ext first count x y same ∙ sym redo.journal

  -- the blocks are being written to their places
  pub placing_keeps : (x : List ℕ) → SameBut first cs x y → redone first count x ≡ redone first count y
  placing_keeps x same =
      let gate : is_open x ≡ true = ap (λ (b : ℕ). b == 1) (same.byte 4096 (outside_below first cs 4096 (omega (arith, behind)))) ∙ redo.opened in
      let journal : journal_of first count x ≡ cs = journal_is x (λ i le. same.byte i (outside_above first count cs i whole le)) in
      redone_open first count x gate ∙ ap (λ (l : List Change). put_all l (blocks_at first count x)) journal ∙ put_all-same first count cs x y same ∙ sym redone_changes

  pub long_placed : first + 4096 * count ≤ length (put_image first cs y)
  long_placed = omega (arith, long, length-put_image first count cs y whole long)

  placed_outside : SameBut first cs (put_image first cs y) y
  placed_outside = put_image-outside first count cs y whole long

  placed_blocks : blocks_at first count (put_image first cs y) ≡ put_all cs (blocks_at first count y)
  placed_blocks = blocks_at-put_image first count cs y whole long

  -- the gate is being closed
  pub closing_keeps : (x : List ℕ) → Torn 4096 1 (put_image first cs y) x → redone first count x ≡ redone first count y
  closing_keeps x torn = ⊎_elim (λ opened. still opened) (λ closed. redone_closed first count x closed ∙ blocks_same ∙ sym redone_changes) (cases_Bool (is_open x))
    where
      same : SameOutside 4096 1 x (put_image first cs y)
      same = torn_outside 4096 1 (put_image first cs y) x (omega (arith, long_placed, behind)) torn

      journal : journal_of first count x ≡ cs
      journal = journal_is x (λ i le. same.byte i (inr (omega (arith, le, behind))) ∙ placed_outside.byte i (outside_above first count cs i whole le))

      blocks_same : blocks_at first count x ≡ put_all cs (blocks_at first count y)
      blocks_same = blocks_at-ext first count x (put_image first cs y) (record { byte = λ i low high. same.byte i (inr (omega (arith, low, behind))) }) ∙ placed_blocks

      still : is_open x ≡ true → redone first count x ≡ redone first count y
      still opened =
          redone_open first count x opened
          ∙ ap (λ (l : List Change). put_all l (blocks_at first count x)) journal
          ∙ ap (λ (l : List (List ℕ)). put_all cs l) blocks_same
          ∙ put_all-twice cs (blocks_at first count y)
          ∙ sym redone_changes

  same_long : length y ≤ length (put_image first cs y)
  same_long = omega (arith, length-put_image first count cs y whole long)

  -- in each step the same redo and front
  pub placing_makes : (x : List ℕ) → Places first count cs y x → RedoMakes first count y x
  placing_makes x placed = record {
    whole = λ enough.
        let p = placed enough in
        (placing_keeps x p.0, blocks_front first count y x behind long cs whole redo.body p.0 p.1);
    short = λ less. absurd (omega (arith, less, long));
  }

  pub closing_makes : (x : List ℕ) → Torn 4096 1 (put_image first cs y) x → RedoMakes first count y x
  closing_makes x torn =
      let placed = blocks_front first count y (put_image first cs y) behind long cs whole redo.body placed_outside same_long in
      let body = blocks_body first count y (put_image first cs y) behind long cs whole redo.body placed_outside same_long in
      record {
        whole = λ enough. (closing_keeps x torn, keeps_then placed (gate_front first count (put_image first cs y) x behind long_placed body torn));
        short = λ less. absurd (omega (arith, less, long));
      }

  -- the gate is closed
  pub redo_settled : IsSettled first count (written 4096 (0 ∷ []) (put_image first cs y)) × (blocks_at first count (written 4096 (0 ∷ []) (put_image first cs y)) ≡ redone first count y)
  redo_settled =
      let z : List ℕ = put_image first cs y in
      let within : 4096 ≤ length z = omega (arith, long_placed, behind) in
      let gate : get_or (written 4096 (0 ∷ []) z) 4096 0 ≡ 0 = written_inside 4096 (0 ∷ []) z 0 within (omega arith) in
      let outside = written_outside 4096 (0 ∷ []) z within in (
        record { long = omega (arith, long_placed, behind, length-written 4096 (0 ∷ []) z (omega (arith, long_placed, behind))); closed = ap (λ (b : ℕ). b == 1) gate },
        blocks_at-ext first count (written 4096 (0 ∷ []) z) z (record { byte = λ i low high. outside.byte i (inr (omega (arith, low, behind))) }) ∙ placed_blocks ∙ sym redone_changes,
      )
