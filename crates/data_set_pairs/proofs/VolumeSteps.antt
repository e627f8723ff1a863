-- What a volume's table says of the blocks.
use Rattle.std.proofs.Common.{◌≡◌, ◌∙◌, ℕ, suc, ◌+◌, Bool, true, false, cond, List, [], ◌∷◌, length, reverse, drop, Option, None, Some, refl, sym, ap}
use Rattle.std.specs.Prelude.{IfSome, filter}
use Rattle.std.proofs.lemmas.List.{length-reverse}
use Rattle.hal_base.specs.declared.place.PartState.{PartState}
use Rattle.volume_image.specs.Header.{is_free}
use Rattle.data_set_pairs.specs.declared.place.PagePlace.{PagePlace}
use Rattle.data_set_pairs.specs.Image.{free_blocks}
use Rattle.data_set_pairs.specs.Volume.{IsLaidOut}

count_free_if : (b : Bool) (n : ℕ) (ns : List ℕ) (x : List ℕ) (xs : List (List ℕ)) → length ns ≡ length xs → length (cond b (n ∷ ns) ns) ≡ length (cond b (x ∷ xs) xs)
count_free_if true n ns x xs is = ap suc is
count_free_if false n ns x xs is = is

count_free : (states : List PartState) (n : ℕ) (blocks : List (List ℕ)) → length (free_blocks states n blocks) ≡ length (filter (is_free states) blocks)
count_free states n [] = refl
count_free states n (b ∷ bs) = count_free_if (is_free states b) n (free_blocks states (n + 1) bs) b (filter (is_free states) bs) (count_free states (n + 1) bs)

pub free_told : (indexes control number : ℕ) (states : List PartState) (pages : List PagePlace) (free : List ℕ) (told : Option (List (List ℕ))) (count : ℕ) → ((list : List (List ℕ)) → told ≡ Some list → IsLaidOut indexes control number states pages (reverse free) list) → count ≡ length free → IfSome told (λ list. count ≡ length (filter (is_free states) (drop control list)))
free_told indexes control number states pages free None count laid is = tt
free_told indexes control number states pages free (Some list) count laid is =
    is ∙ sym (length-reverse free) ∙ ap length (laid list refl).table.left ∙ count_free states control (drop control list)
