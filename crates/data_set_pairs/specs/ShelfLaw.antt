-- What a shelf promises of its pages and free blocks holds of a volume.
use Rattle.std.proofs.Common.{◌≡◌, ◌∙◌, ℕ, ◌+◌, ◌≤◌, true, List, [], ◌∷◌, length, get_or, Option, None, Some, nat_le, refl, sym, ap, subst, arith}
use Rattle.std.specs.Prelude.{All, IfSome, ◌==◌}
use Rattle.std.specs.List.{list_any}
use Rattle.std.specs.Option.{option_map}
use Rattle.std.proofs.lemmas.Bool.{and_parts, and_from, le-leb, leb-true}
use Rattle.std.proofs.lemmas.List.{length-map}
use Rattle.std.proofs.lemmas.List.Elements.{All-map, All-filter}
use Rattle.std.proofs.lemmas.List.Sums.{length-filter, count_by-le-length}
use Rattle.std.proofs.lemmas.Option.{none-some}
use Rattle.hal_base.specs.Pages.{rises_from}
use Rattle.hal_base.specs.declared.pages.SetId.{SetId}
use Rattle.hal_base.specs.declared.place.PartState.{PartState}
use Rattle.data_set_pairs.specs.declared.place.PagePlace.{PagePlace}
use Rattle.data_set_pairs.specs.Table.{IsBetween, IsTable, is_page_of, pages_of, places_of}
use Rattle.data_set_pairs.specs.Volume.{IsLaidOut}
use Rattle.data_set_pairs.specs.Shelf.{blocks_at, SameControl, FreeStays}

pub rise_weaker : (from low : ℕ) (ns : List ℕ) → low ≤ from → rises_from from ns ≡ true → rises_from low ns ≡ true
rise_weaker from low [] le rise = refl
rise_weaker from low (n ∷ ns) le rise =
    let parts = and_parts (nat_le from n) (rises_from (n + 1) ns) rise in
    and_from (nat_le low n) (rises_from (n + 1) ns) (le-leb low n (omega (arith, le, leb-true from n parts.0))) parts.1

pub free_rise : (control number : ℕ) (pages : List PagePlace) (free : List ℕ) → IsTable control number pages free → rises_from 0 free ≡ true
free_rise control number pages free table = rise_weaker control 0 free (omega arith) table.rise

pub few_pages : (control number : ℕ) (pages : List PagePlace) (free : List ℕ) (set : SetId) → IsTable control number pages free
    → number ≤ control + 65536 → length (places_of set pages) + length free ≤ 65536
few_pages control number pages free set table near =
    omega (arith, length-map (pages_of set pages) (λ (p : PagePlace). p.block), length-filter (is_page_of set) pages, count_by-le-length (is_page_of set) pages, table.every, near)

pub places_within : (control number : ℕ) (pages : List PagePlace) (free : List ℕ) (set : SetId) → IsTable control number pages free → All (IsBetween control number) (places_of set pages)
places_within control number pages free set table =
    All-map (IsBetween control number) (λ (p : PagePlace). p.block) (pages_of set pages) (All-filter (is_page_of set) (λ (p : PagePlace). IsBetween control number p.block) pages table.within)

pub pages_fit : (indexes control number : ℕ) (states : List PartState) (pages : List PagePlace) (free : List ℕ) (set : SetId) (told : Option (List (List ℕ)))
    → IsTable control number pages free → ((list : List (List ℕ)) → told ≡ Some list → IsLaidOut indexes control number states pages free list)
    → IfSome (option_map (blocks_at (places_of set pages)) told) (λ blocks. (length blocks ≡ length (places_of set pages)) × All (λ page. length page ≡ 4096) blocks)
pages_fit indexes control number states pages free set None table laid = tt
pages_fit indexes control number states pages free set (Some list) table laid =
    let at = laid list refl in
    let within = places_within control number pages free set table in (
      length-map (places_of set pages) (λ (n : ℕ). get_or list n []),
      All-map (λ (page : List ℕ). length page ≡ 4096) (λ (n : ℕ). get_or list n []) (places_of set pages)
          (λ k d lt. at.whole (get_or (places_of set pages) k d) [] (omega (arith, (within k d lt).to, at.many))),
    )

-- what is read off blocks is told where they are
pub untold_alike : {X Y Z : Type 0} (f : X → Y) (g : X → Z) (told : Option X) → option_map f told ≡ None → option_map g told ≡ None
untold_alike f g None none = refl
untold_alike f g (Some x) none = absurd (none-some (f x) (sym none))

-- nothing changed
pub free_stays : (before now : List ℕ) (old new : Option (List (List ℕ))) → now ≡ before → new ≡ old → FreeStays before now old new
free_stays before now old new free same = record {
  fewer = λ block any. subst (λ (l : List ℕ). list_any (λ n. n == block) l ≡ true) free any;
  same = λ block any. ap (option_map (λ list. get_or list block [])) same;
}

pub free_then : (a b c : List ℕ) (x y z : Option (List (List ℕ))) → FreeStays a b x y → FreeStays b c y z → FreeStays a c x z
free_then a b c x y z first second = record {
  fewer = λ block any. first.fewer block (second.fewer block any);
  same = λ block any. second.same block any ∙ first.same block (second.fewer block any);
}

pub control_then : (control other : ℕ) (a b c : Option (List (List ℕ))) → other ≡ control → SameControl control a b → SameControl other b c → SameControl control a c
control_then control other a b c is first second = subst (λ (n : ℕ). SameControl n b c) is second ∙ first
