-- What an opening reads.
use Rattle.std.proofs.Common.{◌≡◌, ⊎_elim, ℕ, zero, suc, ◌+◌, ◌-◌, ◌*◌, ◌<◌, ◌≤◌, List, [], ◌∷◌, ◌++◌, length, get_or, ◌==◌, take, drop, replicate, Option, None, Some, option_map, refl, sym, ◌∙◌, ap, subst, arith, length-append, length-drop, append_assoc}
use Rattle.std.proofs.lemmas.Option.{none-some, same_Some}
use Rattle.std.specs.Prelude.{IfSome, All}
use Rattle.std.proofs.lemmas.List.{length-take, take_all, drop_all, append-nil, replicate_more, get_or_append_left, get_or-append_right, get_or-replicate, get_or_past, get_or-take, get_or-drop, length-replicate}
use Rattle.std.proofs.lemmas.Bool.{cases_lt, ne_eqb}
use Rattle.hal_base.specs.Disk.{written}
use Rattle.hal_base.proofs.ImageLemmas.{length-written_max}
use Rattle.block_journal.specs.Redo.{bytes_at, blocks_at, is_open}
use Rattle.block_journal.specs.Opening.{IsReady, ReadsBlock}
use Rattle.block_journal.proofs.Images.{bytes_at-is}

zeros_at : (k i : ℕ) → get_or {A = ℕ} (replicate k 0) i 0 ≡ 0
zeros_at k i = ⊎_elim (λ lt. get_or-replicate {A = ℕ} k i 0 0 lt) (λ le. get_or_past {X = ℕ} (replicate k 0) i 0 (omega (arith, le, length-replicate {A = ℕ} k 0))) (cases_lt i k)

zeros_behind : (k : ℕ) (y : List ℕ) (i : ℕ) → get_or (y ++ replicate k 0) i 0 ≡ get_or y i 0
zeros_behind k y i = ⊎_elim (λ lt. get_or_append_left y (replicate k 0) 0 i lt) (λ le. get_or-append_right y (replicate k 0) (length y) i 0 refl le ∙ zeros_at k (i - length y) ∙ sym (get_or_past y i 0 le)) (cases_lt i (length y))

filled_is : (at : ℕ) (y : List ℕ) → length y ≤ at → written at (0 ∷ []) y ≡ y ++ replicate (at - length y + 1) 0
filled_is at y short =
    (λ i. take_all at y short i ++ replicate (at - length y) 0 ++ (0 ∷ []) ++ drop_all (at + 1) y (omega (arith, short)) i)
    ∙ append-nil (y ++ replicate (at - length y) 0 ++ 0 ∷ [])
    ∙ append_assoc y (replicate (at - length y) 0) (0 ∷ [])
    ∙ ap (λ (l : List ℕ). y ++ l) (replicate_more (at - length y) 0)

-- an image that is filled up reads as it did
pub filled_same : (at : ℕ) (y : List ℕ) (i : ℕ) → length y ≤ at → get_or (written at (0 ∷ []) y) i 0 ≡ get_or y i 0
filled_same at y i short = ap (λ (l : List ℕ). get_or l i 0) (filled_is at y short) ∙ zeros_behind (at - length y + 1) y i

pub ready_filled : (first count at : ℕ) (image final : Option (List ℕ)) → at + 1 ≡ first + 4096 * count → final ≡ option_map (written at (0 ∷ [])) image → ((y : List ℕ) → image ≡ Some y → length y ≤ at) → IsReady first count image final
ready_filled first count at None final at_is is short = record { long = λ z told. absurd (none-some z (sym is ∙ told)); same = λ y z was told i. absurd (none-some z (sym is ∙ told)) }
ready_filled first count at (Some x) final at_is is short = record {
  long = λ z told. subst (λ (z : List ℕ). first + 4096 * count ≤ length z) (same_Some (written at (0 ∷ []) x) z (sym is ∙ told)) (omega (arith, at_is, length-written_max at (0 ∷ []) x));
  same = λ y z was told i.
      ap (λ (l : List ℕ). get_or l i 0) (sym (same_Some (written at (0 ∷ []) x) z (sym is ∙ told))) ∙ filled_same at x i (short x refl) ∙ ap (λ (l : List ℕ). get_or l i 0) (same_Some x y was);
}

-- a read of one byte that gave none
pub short_from : (at n : ℕ) (buf : List ℕ) (image : Option (List ℕ)) (y : List ℕ) → image ≡ Some y → IfSome image (λ bytes. take n buf ≡ take (length buf) (drop at bytes)) → length buf ≡ 1 → n ≤ length buf → (n ≡ 1 → ⊥) → length y ≤ at
short_from at n buf None y told read one within ne = absurd (none-some y told)
short_from at n buf (Some x) y told read one within ne =
    let e = ap length read in
    let x_is : length x ≡ length y = ap length (same_Some x y told) in
    omega (arith, e, length-take n buf, length-take (length buf) (drop at x), length-drop at x, one, within, ne, x_is)

-- a read of a block
pub block_from : (at n : ℕ) (buf : List ℕ) (image : Option (List ℕ)) → IfSome image (λ bytes. take n buf ≡ take (length buf) (drop at bytes)) → length buf ≡ 4096 → n ≤ length buf → ReadsBlock at image buf
block_from at n buf None read long within = record { is = λ y told far. absurd (none-some y told) }
block_from at n buf (Some x) read long within = record { is = λ y told far. subst (λ (y : List ℕ). buf ≡ bytes_at at 4096 y) (same_Some x y told) (block (subst (λ (y : List ℕ). at + 4096 ≤ length y) (sym (same_Some x y told)) far)) }
  where
    block : at + 4096 ≤ length x → buf ≡ bytes_at at 4096 x
    block far =
        let whole : n ≡ length buf = omega (arith, ap length read, length-take n buf, length-take (length buf) (drop at x), length-drop at x, long, within, far) in
        let same : buf ≡ take 4096 (drop at x) = sym (take_all n buf (omega (arith, whole))) ∙ read ∙ ap (λ (k : ℕ). take k (drop at x)) long in
        sym (bytes_at-is at 4096 buf x long (record {
          byte = λ i lt.
              let near : i < 4096 = omega (arith, lt, long) in
              sym (ap (λ (l : List ℕ). get_or l i 0) same ∙ get_or-take 4096 (drop at x) i 0 near ∙ get_or-drop at x i 0);
        }))

blocks_suc : (at n : ℕ) (image : List ℕ) → blocks_at at (suc n) image ≡ blocks_at at n image ++ bytes_at (at + 4096 * n) 4096 image ∷ []
unfolding blocks_at
blocks_suc at zero image = ap (λ (a : ℕ). bytes_at a 4096 image ∷ []) (omega arith)
blocks_suc at (suc n) image =
    ap (λ (l : List (List ℕ)). bytes_at at 4096 image ∷ l) (blocks_suc (at + 4096) n image)
    ∙ ap (λ (a : ℕ). bytes_at at 4096 image ∷ (blocks_at (at + 4096) n image ++ bytes_at a 4096 image ∷ [])) (omega arith)

pub blocks_at-more : (at n : ℕ) (image : List ℕ) → blocks_at at (n + 1) image ≡ blocks_at at n image ++ bytes_at (at + 4096 * n) 4096 image ∷ []
blocks_at-more at n image = ap (λ (k : ℕ). blocks_at at k image) (omega arith) ∙ blocks_suc at n image

pub blocks_none : (at : ℕ) (image : List ℕ) → blocks_at at 0 image ≡ []
unfolding blocks_at
blocks_none at image = refl

-- a read of the gate that gave its byte, and one that gave none
pub gate_byte : (n : ℕ) (buf : List ℕ) (image : Option (List ℕ)) (y : List ℕ) → image ≡ Some y → IfSome image (λ bytes. take n buf ≡ take (length buf) (drop 4096 bytes)) → length buf ≡ 1 → n ≡ 1 → (get_or buf 0 0 == 1) ≡ is_open y
gate_byte n buf None y told read one whole = absurd (none-some y told)
gate_byte n buf (Some x) y told read one whole = ap (λ (b : ℕ). b == 1) (sym (get_or-take n buf 0 0 (omega (arith, whole))) ∙ ap (λ (l : List ℕ). get_or l 0 0) read ∙ get_or-take (length buf) (drop 4096 x) 0 0 (omega (arith, one)) ∙ get_or-drop 4096 x 0 0 ∙ ap (λ (l : List ℕ). get_or l 4096 0) (same_Some x y told))

pub gate_none : (n : ℕ) (buf : List ℕ) (image : Option (List ℕ)) (y : List ℕ) → image ≡ Some y → IfSome image (λ bytes. take n buf ≡ take (length buf) (drop 4096 bytes)) → length buf ≡ 1 → n ≤ length buf → (n ≡ 1 → ⊥) → (n == 1) ≡ is_open y
gate_none n buf image y told read one within ne = ne_eqb n 1 ne ∙ ap (λ (b : ℕ). b == 1) (sym (get_or_past y 4096 0 (short_from 4096 n buf image y told read one within ne)))

-- one block more was read
pub blocks_more : (first k count : ℕ) (told now : Option (List ℕ)) (blocks : List (List ℕ)) (block : List ℕ) → now ≡ told → k < count → ((y : List ℕ) → told ≡ Some y → first + 4096 * count ≤ length y → blocks ≡ blocks_at first k y) → ReadsBlock (first + 4096 * k) now block
    → (y : List ℕ) → told ≡ Some y → first + 4096 * count ≤ length y → blocks ++ block ∷ [] ≡ blocks_at first (k + 1) y
blocks_more first k count told now blocks block same lt so_far read y is long =
    (λ i. so_far y is long i ++ (read.is y (same ∙ is) (omega (arith, lt, long))) i ∷ []) ∙ sym (blocks_at-more first k y)

pub blocks_begin : (first : ℕ) (y : List ℕ) → [] ≡ blocks_at first 0 y
blocks_begin first y = sym (blocks_none first y)

pub whole_more : (blocks : List (List ℕ)) (block : List ℕ) → All (λ block. length block ≡ 4096) blocks → length block ≡ 4096 → All (λ block. length block ≡ 4096) (blocks ++ block ∷ [])
whole_more blocks block each whole k d lt = ⊎_elim
    (λ less. subst (λ (b : List ℕ). length b ≡ 4096) (sym (get_or_append_left blocks (block ∷ []) d k less)) (each k d less))
    (λ le. subst (λ (b : List ℕ). length b ≡ 4096) (sym (last le)) whole)
    (cases_lt k (length blocks))
  where
    last : length blocks ≤ k → get_or (blocks ++ block ∷ []) k d ≡ block
    last le =
        let none : k - length blocks ≡ 0 = omega (arith, le, lt, length-append blocks (block ∷ [])) in
        get_or-append_right blocks (block ∷ []) (length blocks) k d refl le ∙ ap (λ (j : ℕ). get_or (block ∷ []) j d) none
