-- Between two calls a stop leaves just what was said, and it may leave the image that reads.
use Rattle.std.specs.Prelude.{◌≡◌, ℕ, ◌*◌, ◌≤◌, true, false, List, [], ◌∷◌, length, Some}
use Rattle.std.proofs.Common.{inl, inr, refl, sym, ◌∙◌, subst, arith}
use Rattle.hal_base.proofs.ImageLemmas.{torn_whole, torn_none}
use Rattle.hal_disk.specs.declared.call.Call.{Call}
use Rattle.hal_disk.specs.declared.call.Call.TheVariants.{Read, Write, Sync, Say}
use Rattle.hal_disk.specs.Record.{seen_by, said_by, MayLeave, LeftAt}

-- no moment is later than the last call's return
pub left_by : (first : List ℕ) (calls : List Call) (moment : ℕ) (image text : List ℕ) → LeftAt first calls moment image text → moment ≤ 2 * length calls
unfolding LeftAt
left_by first [] moment image text left = omega (arith, left.0)
left_by first (call ∷ older) moment image text (inl before) = omega (arith, left_by first older moment image text before)
left_by first (call ∷ older) moment image text (inr (inl within)) = omega (arith, within.0)
left_by first (call ∷ older) moment image text (inr (inr after)) = omega (arith, after.0)

pub said_last : (first : List ℕ) (calls : List Call) (moment : ℕ) (image text : List ℕ) → moment ≡ 2 * length calls → LeftAt first calls moment image text → text ≡ said_by calls
unfolding LeftAt said_by
said_last first [] moment image text now left = left.2
said_last first (call ∷ older) moment image text now (inl before) = absurd (omega (arith, now, left_by first older moment image text before))
said_last first (call ∷ older) moment image text now (inr (inl within)) = absurd (omega (arith, now, within.0))
said_last first (call ∷ older) moment image text now (inr (inr after)) = after.2

pub said_last_is : (first : List ℕ) (calls : List Call) (said image text : List ℕ) → said ≡ said_by calls → LeftAt first calls (2 * length calls) image text → text ≡ said
said_last_is first calls said image text is left = said_last first calls (2 * length calls) image text refl left ∙ sym is

-- what may be left now is what is left at the last moment
pub left_now : (first : List ℕ) (calls : List Call) (image text : List ℕ) → MayLeave first calls image → text ≡ said_by calls → LeftAt first calls (2 * length calls) image text
unfolding LeftAt MayLeave said_by
left_now first [] image text may said = (refl, may, said)
left_now first (call ∷ older) image text may said = inr (inr (omega arith, may, said))

-- what reads is one of the images that may be left
pub seen_left : (first : List ℕ) (calls : List Call) → MayLeave first calls (seen_by first calls)
unfolding MayLeave seen_by
seen_left first [] = refl
seen_left first (Read ∷ older) = seen_left first older
seen_left first (Write at content true ∷ older) = (seen_by first older, seen_left first older, torn_whole at content (seen_by first older))
seen_left first (Write at content false ∷ older) = (seen_by first older, seen_left first older, torn_none at (length content) (seen_by first older))
seen_left first (Sync true ∷ older) = refl
seen_left first (Sync false ∷ older) = seen_left first older
seen_left first (Say text said ∷ older) = seen_left first older

-- so it may leave what reads, with what was said
left_reads : (first : List ℕ) (calls : List Call) → LeftAt first calls (2 * length calls) (seen_by first calls) (said_by calls)
left_reads first calls = left_now first calls (seen_by first calls) (said_by calls) (seen_left first calls) refl

some_is : {x y z : List ℕ} → x ≡ z → Some x ≡ Some y → z ≡ y
some_is same is = cc

pub reads_last : (first : List ℕ) (calls : List Call) {image said reads words : List ℕ} → image ≡ seen_by first calls →
    said ≡ said_by calls → Some image ≡ Some reads → Some said ≡ Some words → LeftAt first calls (2 * length calls) reads words
reads_last first calls {image} {said} {reads} {words} image_is said_is is_image is_said =
    let Left : List ℕ → List ℕ → Type 0 = λ r w. LeftAt first calls (2 * length calls) r w in
    let seen : Left reads (said_by calls) = subst (λ (r : List ℕ). Left r (said_by calls)) (some_is image_is is_image) (left_reads first calls) in
    subst (λ (w : List ℕ). Left reads w) (some_is said_is is_said) seen
