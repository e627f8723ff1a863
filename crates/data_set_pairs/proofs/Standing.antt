-- What a volume holds, as facts of the blocks.
use Rattle.std.proofs.Common.{◌≡◌, ◌∙◌, ℕ, Bool, true, false, List, [], ◌∷◌, length, drop, Option, None, Some, refl, sym, arith}
use Rattle.std.specs.Prelude.{◌&&◌, ◌||◌, All, IfSome}
use Rattle.std.proofs.lemmas.Bool.{and_parts, and_from}
use Rattle.std.proofs.lemmas.List.{length-map}
use Rattle.std.proofs.lemmas.List.Elements.{All-tail}
use Rattle.hal_base.specs.declared.pages.SetId.{SetId}
use Rattle.hal_base.specs.declared.place.PartState.{PartState}
use Rattle.volume_image.specs.Header.{is_free, is_live, says_no_more}
use Rattle.volume_image.specs.Pages.{set_blocks}
use Rattle.data_set_pairs.specs.declared.place.PagePlace.{PagePlace}
use Rattle.data_set_pairs.specs.Table.{IsTable, pages_of, places_of}
use Rattle.data_set_pairs.specs.Image.{are_known, AreNumbered, are_quiet, is_held, is_taken}
use Rattle.data_set_pairs.specs.Volume.{IsLaidOut}
use Rattle.data_set_pairs.proofs.Numbering.{numbered_if_run, set_count}

pub if_told : {P : List (List ℕ) → Type 0} (told : Option (List (List ℕ))) → ((list : List (List ℕ)) → told ≡ Some list → P list) → IfSome told P
if_told None each = tt
if_told (Some list) each = each list refl

pub told_then : {P Q : List (List ℕ) → Type 0} (told : Option (List (List ℕ))) → IfSome told P → ((list : List (List ℕ)) → told ≡ Some list → P list → Q list) → IfSome told Q
told_then None is each = tt
told_then (Some list) is each = each list refl is

known_if : (f t q : Bool) → (f || t) ≡ true → (f || q) ≡ true → (f || (t && q)) ≡ true
known_if true t q held quiet = refl
known_if false t q held quiet = and_from t q held quiet

known_if_quiet : (indexes : ℕ) (states : List PartState) (blocks : List (List ℕ)) → All (λ b. is_held indexes states b ≡ true) blocks → are_quiet states blocks ≡ true → are_known indexes states blocks ≡ true
known_if_quiet indexes states [] held quiet = refl
known_if_quiet indexes states (b ∷ bs) held quiet =
    let parts = and_parts (is_free states b || says_no_more b) (are_quiet states bs) quiet in
    and_from (is_free states b || is_live indexes states b) (are_known indexes states bs) (known_if (is_free states b) (is_taken indexes states b) (says_no_more b) (held 0 b (omega arith)) parts.0) (known_if_quiet indexes states bs (All-tail (λ (b : List ℕ). is_held indexes states b ≡ true) b bs held) parts.1)

pub quiet_known : (indexes control number : ℕ) (states : List PartState) (pages : List PagePlace) (free : List ℕ) (list : List (List ℕ)) → IsLaidOut indexes control number states pages free list → are_quiet states (drop control list) ≡ true → are_known indexes states (drop control list) ≡ true
quiet_known indexes control number states pages free list laid quiet = known_if_quiet indexes states (drop control list) laid.table.held quiet

pub numbered_known : (indexes control number : ℕ) (states : List PartState) (pages : List PagePlace) (free : List ℕ) (list : List (List ℕ)) → IsTable control number pages free → IsLaidOut indexes control number states pages free list → are_known indexes states (drop control list) ≡ true → AreNumbered indexes states (drop control list)
numbered_known indexes control number states pages free list table laid known = numbered_if_run indexes states control (drop control list) pages known laid.table.taken table.run

pub counted_known : (indexes control number : ℕ) (states : List PartState) (pages : List PagePlace) (free : List ℕ) (list : List (List ℕ)) (set : SetId) → IsLaidOut indexes control number states pages free list → are_known indexes states (drop control list) ≡ true → length (set_blocks indexes states set (drop control list)) ≡ length (places_of set pages)
counted_known indexes control number states pages free list set laid known = set_count indexes states set control (drop control list) pages known laid.table.taken ∙ sym (length-map (pages_of set pages) (λ (p : PagePlace). p.block))
