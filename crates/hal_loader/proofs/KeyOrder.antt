-- The order of keys.
use Rattle.std.proofs.Common.{◌≡◌, ℕ, true, false, List, refl, sym, ap, ◌∙◌}
use Rattle.std.specs.Cmp.{IsTotalOrder}
use Rattle.std.specs.declared.cmp.Ordering.{Ordering}
use Rattle.std.specs.declared.cmp.Ordering.TheVariants.{Less, Equal, Greater}
use Rattle.std.specs.Ordering.{ordering_reverse, is_lt, is_le, is_eq}
use Rattle.std.specs.Str.{bytes_eq}
use Rattle.std.specs.Cmp.Lexicographic.{bytes_decides}
use Rattle.std.proofs.lemmas.Cmp.{nat_list_cmp_total}
use Rattle.std.proofs.lemmas.Map.Text.{is_eq-slice_cmp}
use Rattle.hal_schema.specs.Keys.{key_cmp}

-- up to p, and n not below p: up to n
pub up_to_next : (r p n : List ℕ) → is_le (key_cmp r p) ≡ true → is_lt (key_cmp n p) ≡ false → is_le (key_cmp r n) ≡ true
up_to_next r p n le not_lt = by (key_cmp r p) (key_cmp n p) refl refl le not_lt
  where
    o : IsTotalOrder key_cmp
    o = nat_list_cmp_total

    by : (a b : Ordering) → key_cmp r p ≡ a → key_cmp n p ≡ b → is_le a ≡ true → is_lt b ≡ false → is_le (key_cmp r n) ≡ true
    by Greater b e f h k = cc h
    by a Less e f h k = cc k
    by Equal Equal e f h k = ap is_le (o.congr r p n e ∙ o.antisymm p n ∙ ap ordering_reverse f)
    by Equal Greater e f h k = ap is_le (o.congr r p n e ∙ o.antisymm p n ∙ ap ordering_reverse f)
    by Less Equal e f h k = ap is_le (o.antisymm r n ∙ ap ordering_reverse (o.congr n p r f) ∙ sym (o.antisymm r p) ∙ e)
    by Less Greater e f h k = ap is_le (o.trans r p n e (o.antisymm p n ∙ ap ordering_reverse f))

-- up to p and not below p: the same
pub same_as_last : (n p : List ℕ) → is_le (key_cmp n p) ≡ true → is_lt (key_cmp n p) ≡ false → bytes_eq n p ≡ true
same_as_last n p le not_lt = sym (is_eq-slice_cmp n p) ∙ by (key_cmp n p) le not_lt
  where
    by : (a : Ordering) → is_le a ≡ true → is_lt a ≡ false → is_eq a ≡ true
    by Less h k = cc k
    by Equal h k = refl
    by Greater h k = cc h

pub same_key : (a b : List ℕ) → bytes_eq a b ≡ true → a ≡ b
same_key a b h = (bytes_decides a b).0 h

pub key_itself : (a : List ℕ) → bytes_eq a a ≡ true
key_itself a = (bytes_decides a a).1 refl

pub up_to_itself : (a : List ℕ) → is_le (key_cmp a a) ≡ true
up_to_itself a = by (key_cmp a a) (is_eq-slice_cmp a a ∙ key_itself a)
  where
    by : (o : Ordering) → is_eq o ≡ true → is_le o ≡ true
    by Less h = cc h
    by Equal h = refl
    by Greater h = cc h
