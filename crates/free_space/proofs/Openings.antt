-- Pages that are read one after the other, and what is known of those in front.
use Rattle.std.proofs.Common.{◌≡◌, ℕ, ◌+◌, ◌<◌, inl, inr, List, [], ◌∷◌, ◌++◌, length, map, take, Some, refl, sym, ap, subst, ◌∙◌, arith}
use Rattle.std.specs.Prelude.{slice_get}
use Rattle.std.proofs.lemmas.Bool.{cases_lt}
use Rattle.std.proofs.lemmas.List.{take_more, take_all, map-append}
use Rattle.std.proofs.lemmas.Option.{slice_get_within, get_or_from_slice_get}
use Rattle.hal_base.specs.declared.place.Shape.{Shape}
use Rattle.segment_blocks.specs.Tiling.{IsTiling}
use Rattle.segment_blocks.specs.TilesOf.{tiles_of}
use Rattle.segment_blocks.proofs.TilesOf.{tiling_is}
use Rattle.segment_blocks.specs.declared.space.Space.{Space}
use Rattle.segment_blocks.specs.Space.{space_of}
use Rattle.free_space.specs.Map.{layout_of}
use Rattle.free_space.specs.Store.{Knows}
use Rattle.free_space.specs.Opening.{IsSpaceOf, BreaksAt, FirstBreaksAt}
use Rattle.free_space.proofs.Told.{some_is, layout_push}

-- the first n pages are tiled, and these are their numbers
pub record KnowsFront (shapes : List Shape) (pages : List (List ℕ)) (n : ℕ) (spaces : List Space) : Type 0 where
  pub tiled : (k : ℕ) (page : List ℕ) → k < n → slice_get pages k ≡ Some page → IsTiling shapes page (tiles_of shapes page)
  pub spaces_are : spaces ≡ map space_of (layout_of shapes (take n pages))

pub front_none : (shapes : List Shape) (pages : List (List ℕ)) → KnowsFront shapes pages 0 []
front_none shapes pages = record { tiled = λ k page below among. absurd (omega (arith, below)); spaces_are = refl }

pub front_more : (shapes : List Shape) (pages : List (List ℕ)) (n : ℕ) (spaces : List Space) (space : Space) → KnowsFront shapes pages n spaces → IsSpaceOf shapes pages n space
    → KnowsFront shapes pages (n + 1) (spaces ++ space ∷ [])
front_more shapes pages n spaces space front is =
    let one_more : take (n + 1) pages ≡ take n pages ++ is.page ∷ [] = take_more pages n [] (slice_get_within pages n is.page is.among) ∙ ap (λ (p : List ℕ). take n pages ++ p ∷ []) (get_or_from_slice_get pages n is.page [] is.among) in
    record {
      tiled = λ k page below among. elim (cases_lt k n) [
        | inl before ↦ front.tiled k page before among
        | inr behind ↦ let last : n ≡ k = omega (arith, below, behind) in
            let same : is.page ≡ page = some_is is.page page (sym is.among ∙ ap (slice_get pages) last ∙ among) in
            subst (λ (p : List ℕ). IsTiling shapes p (tiles_of shapes p)) same (subst (IsTiling shapes is.page) (tiling_is shapes is.page is.tiles is.is) is.is)
      ];
      spaces_are = ap (λ (l : List Space). l ++ space ∷ []) front.spaces_are ∙ ap (λ (s : Space). map space_of (layout_of shapes (take n pages)) ++ s ∷ []) is.numbers
          ∙ sym (map-append space_of (layout_of shapes (take n pages)) (is.tiles ∷ []))
          ∙ ap (map space_of) (sym (ap (layout_of shapes) one_more ∙ layout_push shapes (take n pages) is.page is.tiles is.is));
    }

pub front_all : (shapes : List Shape) (pages : List (List ℕ)) (n : ℕ) (spaces : List Space) → KnowsFront shapes pages n spaces → n ≡ length pages → Knows shapes spaces pages
front_all shapes pages n spaces front all = record {
  tiled = λ k page among. front.tiled k page (omega (arith, slice_get_within pages k page among, all)) among;
  spaces_are = front.spaces_are ∙ ap (λ (l : List (List ℕ)). map space_of (layout_of shapes l)) (take_all n pages (omega (arith, all)));
}

pub front_breaks : (shapes : List Shape) (pages : List (List ℕ)) (n offset : ℕ) (spaces : List Space) → KnowsFront shapes pages n spaces → BreaksAt shapes pages n offset → FirstBreaksAt shapes pages n offset
front_breaks shapes pages n offset spaces front breaks = record {
  breaks = breaks;
  before = λ k page below among. (tiles_of shapes page, front.tiled k page below among);
}
