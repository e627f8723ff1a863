-- How an opening goes on from step to step.
use Rattle.std.proofs.Common.{◌≡◌, ⊎_elim, ℕ, ◌+◌, ◌*◌, ◌≤◌, List, [], ◌∷◌, length, take, min, get_or, Option, None, Some, option_map, true, false, ◌==◌, refl, sym, ◌∙◌, ap, subst, arith}
use Rattle.std.proofs.lemmas.Option.{none-some, same_Some}
use Rattle.std.proofs.lemmas.Bool.{cases_lt}
use Rattle.std.proofs.lemmas.List.{take_all}
use Rattle.hal_base.specs.Disk.{Torn, written}
use Rattle.hal_base.specs.Stops.{LeavesOnly, TornFrom}
use Rattle.hal_base.proofs.StopLemmas.{leaves-now, leaves-weaken}
use Rattle.block_journal.specs.Change.{Change}
use Rattle.block_journal.specs.Commit.{IsSettled}
use Rattle.block_journal.specs.Device.{Became, MadeFrom, IsExact}
use Rattle.block_journal.specs.Opening.{IsReady, ReadsBlocks}
use Rattle.block_journal.specs.Redo.{blocks_at, redone, is_open, put_image}
use Rattle.block_journal.specs.Redoing.{IsToRedo, IsRedone, SameRedo, RedoMakes, OpensAt}
use Rattle.block_journal.specs.Placing.{AreWhole}
use Rattle.block_journal.specs.Reads.{ReadsBody}
use Rattle.block_journal.specs.Stands.{Stands, told_where}
use Rattle.block_journal.proofs.Changes.{blocks_at-ext}
use Rattle.block_journal.proofs.Made.{Start, made-before, became-so}
use Rattle.block_journal.proofs.Redoing.{redo_settled}
use Rattle.block_journal.specs.JournalLaw.{became-waits, keeps_refl, redone_closed}

nothing_made : (first count : ℕ) (y : List ℕ) → RedoMakes first count y y
nothing_made first count y = record { whole = λ long. (refl, keeps_refl first count y); short = λ less. take_all (length y) y (omega arith) }

pub redo_start : (first count : ℕ) {image : Option (List ℕ)} {outcomes : List ℕ → List ℕ → Type 0} → IsExact image outcomes → Start (RedoMakes first count) image outcomes
redo_start first count exact = record { same = λ y told. nothing_made first count y; exact = exact }

pub redo_waits : (first count : ℕ) {image next : Option (List ℕ)} → next ≡ image → Became (RedoMakes first count) image next
redo_waits first count is = became-waits (λ y told. nothing_made first count y) is

-- the bytes below a write that was done in part
kept_below : (place n : ℕ) (y x : List ℕ) → length y ≤ place → Torn place n y x → take (length y) x ≡ y
kept_below place n y x below torn =
    let least : min place (length y) ≡ length y = omega arith in
    subst (λ (k : ℕ). take k x ≡ y) least (torn.before ∙ take_all place y below)

-- an image that is short is filled up
module _ (first count place n : ℕ) (image : Option (List ℕ)) (is : place + 1 ≡ first + 4096 * count) (short : (y : List ℕ) → image ≡ Some y → length y ≤ place) where
  filled : (y x : List ℕ) → image ≡ Some y → Torn place n y x → RedoMakes first count y x
  filled y x told torn = record {
    whole = λ long. absurd (omega (arith, short y told, long, is));
    short = λ less. kept_below place n y x (short y told) torn;
  }

  pub fill_stops : {a b : ℕ} {past at : ℕ → List ℕ → List ℕ → Type 0} → IsExact image (past a) → LeavesOnly a b past at (TornFrom (past a) place n) → LeavesOnly a b past at (MadeFrom (RedoMakes first count) (past a) image)
  fill_stops exact more = leaves-weaken more (λ x s from. (λ y told. filled y x told (subst (λ (z : List ℕ). Torn place n z x) (exact.only y told from.0 s from.1) from.2), (from.0, from.1)))

  pub fill_told : {last : Option (List ℕ)} → Became (Torn place n) image last → Became (RedoMakes first count) image last
  fill_told more = became-so more filled

-- what may be left of an opening, whose first sync failed or returned
pub opens_never : {a b : ℕ} {past at : ℕ → List ℕ → List ℕ → Type 0} (first count : ℕ) (told : Option (List ℕ)) → LeavesOnly a b past at (past a) → OpensAt first count told a b past at (b + 1)
opens_never first count told only = record {
  later = only.later;
  begun = omega (arith, only.later);
  same = only.same;
  until = λ m x s low high soon left. only.each m x s low high left;
  since = λ m x s low high left. absurd (omega (arith, low, high));
}

pub opens_at : {a b c : ℕ} {past mid at : ℕ → List ℕ → List ℕ → Type 0} (first count : ℕ) (told next : Option (List ℕ)) → next ≡ told → LeavesOnly a b past mid (past a) → IsExact next (mid b) → LeavesOnly b c mid at (MadeFrom (RedoMakes first count) (mid b) next) → OpensAt first count told a c past at b
opens_at {a} {b} {c} {past} {mid} {at} first count told next is so_far exact more = record {
  later = omega (arith, so_far.later, more.later);
  begun = so_far.later;
  same = λ m x s le left. so_far.same m x s le (more.same m x s (omega (arith, le, so_far.later)) left);
  until = λ m x s low high soon left. so_far.each m x s low (omega (arith, soon)) (more.same m x s (omega (arith, soon)) left);
  since = λ m x s low high left. from x s (⊎_elim (λ lt. more.each m x s lt high left) (λ le. made-before (redo_start first count exact) x s (subst (λ (n : ℕ). mid n x s) (omega (arith, low, le)) (more.same m x s le left))) (cases_lt b m));
}
  where
    from : (x s : List ℕ) → MadeFrom (RedoMakes first count) (mid b) next x s → MadeFrom (RedoMakes first count) (past a) told x s
    from x s made = (λ y is_told. made.0 y (is ∙ is_told), (made.1.0, leaves-now so_far (λ x s left. left) made.1.0 s made.1.1))

pub redone_between : {first count : ℕ} {old mid new last : Option (List ℕ)} → mid ≡ old → last ≡ new → IsRedone first count mid new → IsRedone first count old last
redone_between same is done = record { has = λ y told. let h = done.has y (same ∙ told) in (h.0, is ∙ h.1, h.2, h.3, h.4) }

pub filled_redone : {first count : ℕ} {R : List ℕ → List ℕ → Type 0} {old new : Option (List ℕ)} → IsReady first count old new → Became R old new → ((y : List ℕ) → old ≡ Some y → is_open y ≡ false) → IsRedone first count old new
filled_redone {first} {count} ready same closed = record {
  has = λ y told.
      let t = same.told y told in
      let bytes : (i : ℕ) → get_or t.0 i 0 ≡ get_or y i 0 = λ i. ready.same y t.0 told t.1 i in (
        t.0,
        t.1,
        record { long = ready.long t.0 t.1; closed = ap (λ (b : ℕ). b == 1) (bytes 4096) ∙ closed y told },
        blocks_at-ext first count t.0 y (record { byte = λ i low high. bytes i }) ∙ sym (redone_closed first count y (closed y told)),
        λ less. bytes,
      );
}

pub same_redone : {first count : ℕ} {old new : Option (List ℕ)} → IsRedone first count old new → SameRedo first count old new
same_redone {first} {count} done = record { has = λ y told. let h = done.has y told in (h.0, h.1, redone_closed first count h.0 h.2.closed ∙ h.3) }

-- the changes that were read are to be redone
pub read_to_redo : (first count : ℕ) (cs : List Change) (told next : Option (List ℕ)) → ReadsBody first count told cs → ((y : List ℕ) → told ≡ Some y → is_open y ≡ true) → next ≡ told → (y : List ℕ) → next ≡ Some y → IsToRedo first count cs y
read_to_redo first count cs told next reads opened same y is =
    let r = reads.has y (sym same ∙ is) in
    record { long = omega (arith, r.0.there.long); opened = opened y (sym same ∙ is); body = r.0; journal = r.1 }

-- the gate of a redone image is closed
pub redo_done : (first count : ℕ) (cs : List Change) (image last : Option (List ℕ)) → 8192 ≤ first → AreWhole count cs → ((y : List ℕ) → image ≡ Some y → IsToRedo first count cs y) → ((y : List ℕ) → image ≡ Some y → last ≡ Some (written 4096 (0 ∷ []) (put_image first cs y))) → IsRedone first count image last
redo_done first count cs image last behind whole redo is = record {
  has = λ y told.
      let ends = redo_settled first count cs y behind whole (redo y told) in
      (written 4096 (0 ∷ []) (put_image first cs y), is y told, ends.0, ends.1, λ less. absurd (omega (arith, less, (redo y told).long)));
}

-- the blocks that were read stand on the site
pub load_stands : (first count : ℕ) {R : List ℕ → List ℕ → Type 0} (kept : List (List ℕ)) (old mid last : Option (List ℕ)) (outcomes : List ℕ → List ℕ → Type 0) → Became R old mid → IsRedone first count old mid → last ≡ mid → ReadsBlocks first count mid kept → IsExact last outcomes → Stands first count kept last outcomes
load_stands first count kept None mid last outcomes same done is reads exact =
    let none : last ≡ None = is ∙ same.untold refl in
    record { settled = λ z told. absurd (none-some z (sym none ∙ told)); blocks = λ z told. absurd (none-some z (sym none ∙ told)); exact = exact }
load_stands first count kept (Some y) mid last outcomes same done is reads exact =
    let h = done.has y refl in
    let z_is : (z : List ℕ) → last ≡ Some z → h.0 ≡ z = λ z told. same_Some h.0 z (sym (is ∙ h.1) ∙ told) in
    record {
      settled = λ z told. subst (λ (z : List ℕ). IsSettled first count z) (z_is z told) h.2;
      blocks = λ z told. subst (λ (z : List ℕ). blocks_at first count z ≡ kept) (z_is z told) (sym (reads.are h.0 h.1 h.2.long));
      exact = exact;
    }

-- what the journal tells is what the image stood for
pub opened_list : (first count : ℕ) {R : List ℕ → List ℕ → Type 0} (kept : List (List ℕ)) (old new : Option (List ℕ)) (outcomes : List ℕ → List ℕ → Type 0) → Became R old new → IsRedone first count old new → Stands first count kept new outcomes → told_where new kept ≡ option_map (redone first count) old
opened_list first count kept None new outcomes same done stands = ap (λ (i : Option (List ℕ)). told_where i kept) (same.untold refl)
opened_list first count kept (Some y) new outcomes same done stands =
    let h = done.has y refl in
    ap (λ (i : Option (List ℕ)). told_where i kept) h.1 ∙ ap Some (sym (stands.blocks h.0 h.1) ∙ h.3)
