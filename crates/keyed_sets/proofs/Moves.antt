-- What a move and a write leave of the bytes of a page, part by part.
use Rattle.std.proofs.Common.{◌≡◌, ℕ, ◌+◌, ◌-◌, ◌≤◌, List, ◌++◌, length, take, drop, sym, ap, ◌∙◌, append_assoc, arith}
use Rattle.std.specs.List.{copy_within}
use Rattle.std.proofs.lemmas.List.{length-append, length-take-le, length-drop, drop-drop, take_at, drop_at, drop-append-le}
use Rattle.std.proofs.Math.Seq.{take-append-add}
use Rattle.hal_base.specs.Bytes.{Writes}

-- one write behind another
pub two_writes : (old mid new : List ℕ) (at pos : ℕ) (x y : List ℕ) → at + length x ≤ length old → pos ≡ at + length x → Writes old mid at x → Writes mid new pos y → Writes old new at (x ++ y)
two_writes old mid new at pos x y room place first second =
    let front : List ℕ = take at old ++ x in
    let rest : List ℕ = drop (at + length x) old in
    let size : length front ≡ pos = omega (arith, length-append (take at old) x, length-take-le at old (omega arith)) in
    let kept : take pos mid ≡ front = ap (take pos) first ∙ take_at front rest pos size in
    let left : drop pos mid ≡ rest = ap (drop pos) first ∙ drop_at front rest pos size in
    let sum : (at + length x) + length y ≡ at + length (x ++ y) = omega (arith, length-append x y) in
    let behind : drop (pos + length y) mid ≡ drop (at + length (x ++ y)) old =
    sym (drop-drop (length y) pos mid) ∙ ap (drop (length y)) left ∙ drop-drop (length y) (at + length x) old ∙ ap (λ (n : ℕ). drop n old) sum in
    second
    ∙ ap (λ (z : List ℕ). z ++ y ++ drop (pos + length y) mid) kept
    ∙ ap (λ (z : List ℕ). front ++ y ++ z) behind
    ∙ ap (λ (z : List ℕ). z ++ drop (at + length (x ++ y)) old) (append_assoc (take at old) x y)

-- a write over bytes that stand between others
pub written_between : (old new front was rest bytes : List ℕ) (at : ℕ) → old ≡ front ++ (was ++ rest) → length front ≡ at → length was ≡ length bytes → Writes old new at bytes → new ≡ front ++ (bytes ++ rest)
written_between old new front was rest bytes at is starts same written =
    let kept : take at old ≡ front = ap (take at) is ∙ take_at front (was ++ rest) at starts in
    let behind : drop at old ≡ was ++ rest = ap (drop at) is ∙ drop_at front (was ++ rest) at starts in
    let left : drop (at + length bytes) old ≡ rest = sym (drop-drop (length bytes) at old) ∙ ap (drop (length bytes)) behind ∙ drop_at was rest (length bytes) same in
    written
    ∙ ap (λ (z : List ℕ). z ++ bytes ++ drop (at + length bytes) old) kept
    ∙ ap (λ (z : List ℕ). front ++ bytes ++ z) left
    ∙ append_assoc front bytes rest

-- what stood behind a place moves on, over the front of the rest
pub moved_on : (old new front b rest : List ℕ) (from end size : ℕ) → old ≡ front ++ (b ++ rest) → length front ≡ from → length b ≡ end - from → from ≤ end → size ≤ length rest
    → new ≡ copy_within old from end (from + size) → (gap : List ℕ) × (length gap ≡ size) × (new ≡ front ++ (gap ++ (b ++ drop size rest)))
moved_on old new front b rest from end size is starts long ordered room moved =
    let whole : length old ≡ length front + (length b + length rest) = ap length is ∙ length-append front (b ++ rest) ∙ ap (λ (n : ℕ). length front + n) (length-append b rest) in
    let behind : drop from old ≡ b ++ rest = ap (drop from) is ∙ drop_at front (b ++ rest) from starts in
    let gap : List ℕ = take size (drop from old) in
    let size_of_gap : length gap ≡ size = length-take-le size (drop from old) (omega (arith, length-drop from old)) in
    let first : take (from + size) old ≡ front ++ gap =
    ap (take (from + size)) is ∙ ap (λ (n : ℕ). take (n + size) (front ++ (b ++ rest))) (sym starts) ∙ take-append-add front (b ++ rest) size ∙ ap (λ (z : List ℕ). front ++ take size z) (sym behind) in
    let second : take (end - from) (drop from old) ≡ b = ap (take (end - from)) behind ∙ take_at b rest (end - from) long in
    let sum : from + ((end - from) + size) ≡ (from + size) + (end - from) = omega arith in
    let third : drop ((from + size) + (end - from)) old ≡ drop size rest =
    ap (λ (n : ℕ). drop n old) (sym sum)
    ∙ sym (drop-drop ((end - from) + size) from old)
    ∙ ap (drop ((end - from) + size)) behind
    ∙ sym (drop-drop size (end - from) (b ++ rest))
    ∙ ap (drop size) (drop_at b rest (end - from) long) in (
      gap,
      size_of_gap,
      moved
          ∙ ap (λ (z : List ℕ). z ++ take (end - from) (drop from old) ++ drop ((from + size) + (end - from)) old) first
          ∙ ap (λ (z : List ℕ). (front ++ gap) ++ z ++ drop ((from + size) + (end - from)) old) second
          ∙ ap (λ (z : List ℕ). (front ++ gap) ++ b ++ z) third
          ∙ append_assoc (front ++ gap) b (drop size rest)
          ∙ append_assoc front gap (b ++ drop size rest),
    )

-- what stood behind some bytes moves back over them
pub moved_back : (old new front gone b rest : List ℕ) (from end size : ℕ) → old ≡ front ++ (gone ++ (b ++ rest)) → length front ≡ from → length gone ≡ size → from + size + length b ≡ end
    → new ≡ copy_within old (from + size) end from → (left : List ℕ) × (length left ≡ size) × (new ≡ (front ++ b) ++ (left ++ rest))
moved_back old new front gone b rest from end size is starts sized ends moved =
    let both : List ℕ = gone ++ b in
    let behind : drop from old ≡ gone ++ (b ++ rest) = ap (drop from) is ∙ drop_at front (gone ++ (b ++ rest)) from starts in
    let past : drop (from + size) old ≡ b ++ rest = sym (drop-drop size from old) ∙ ap (drop size) behind ∙ drop_at gone (b ++ rest) size sized in
    let count : ℕ = end - (from + size) in
    let long : length b ≡ count = omega arith in
    let two : length both ≡ size + length b = omega (arith, length-append gone b, sized) in
    let first : take from old ≡ front = ap (take from) is ∙ take_at front (gone ++ (b ++ rest)) from starts in
    let second : take count (drop (from + size) old) ≡ b = ap (take count) past ∙ take_at b rest count long in
    let left : List ℕ = drop count both in
    let third : drop (from + count) old ≡ left ++ rest =
    sym (drop-drop count from old) ∙ ap (drop count) (behind ∙ sym (append_assoc gone b rest)) ∙ drop-append-le count both rest (omega arith) in (
      left,
      omega (arith, length-drop count both, two, long),
      moved
          ∙ ap (λ (z : List ℕ). z ++ take count (drop (from + size) old) ++ drop (from + count) old) first
          ∙ ap (λ (z : List ℕ). front ++ z ++ drop (from + count) old) second
          ∙ ap (λ (z : List ℕ). (front ++ b) ++ z) third,
    )
