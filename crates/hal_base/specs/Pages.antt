-- Pages of data sets. A page is a block whose head says its kind (1 cells, 2 rows), its data set and its number there.
use Rattle.std.specs.Prelude.{◌≡◌, ℕ, ◌+◌, ◌&&◌, Bool, true, nat_le, ◌==◌, if◌then◌else◌, List, [], ◌∷◌, ◌++◌, take, drop, replicate}
use Rattle.std.specs.Int.{w16, to_be_bytes}
use Rattle.hal_base.specs.declared.pages.SetId.{SetId}

-- the first eight bytes of a page
abbrev pub page_head : ℕ → SetId → ℕ → List ℕ
page_head kind set n = kind ∷ set.letter ∷ to_be_bytes w16 set.part ++ to_be_bytes w16 set.number ++ to_be_bytes w16 n

-- a page without cells, which is one hole of 4,080 bytes, or without rows
abbrev pub empty_page : ℕ → SetId → ℕ → List ℕ
empty_page kind set n = page_head kind set n ++ replicate 8 0 ++ (if kind == 1 then 0 ∷ 0 ∷ 15 ∷ 240 ∷ [] else 0 ∷ 0 ∷ 0 ∷ 0 ∷ []) ++ replicate 4076 0

-- all of the first sixteen bytes but the count of rows
pub record SameHead (old new : List ℕ) : Type 0 where
  pub set : take 8 new ≡ take 8 old
  pub rest : take 6 (drop 10 new) ≡ take 6 (drop 10 old)

-- block numbers that rise
abbrev pub rises_from : ℕ → List ℕ → Bool
rises_from from [] = true
rises_from from (n ∷ more) = nat_le from n && rises_from (n + 1) more

-- what is said of each data set is as it was
abbrev pub SameSets : {X : Type 0} → (SetId → X) → (SetId → X) → Type 0
SameSets old new = (set : SetId) → new set ≡ old set

-- and of each data set but one
abbrev pub SameOthers : {X : Type 0} → SetId → (SetId → X) → (SetId → X) → Type 0
SameOthers changed old new = (set : SetId) → (set ≡ changed → ⊥) → new set ≡ old set
