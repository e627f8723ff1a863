-- What a table of pages says of the data blocks that it was made from.
use Rattle.std.specs.Prelude.{◌≡◌, ◌⊎◌, ℕ, ◌+◌, ◌^◌, ◌<◌, ◌==◌, Bool, false, ◌&&◌, ◌||◌, not, if◌then◌else◌, IsTrue, List, [], ◌∷◌, length, drop, reverse, map, filter, All, Option, Some, IfSome}
use Rattle.std.specs.List.{list_all, list_any}
use Rattle.hal_base.specs.declared.pages.SetId.{SetId}
use Rattle.hal_base.specs.declared.place.PartState.{PartState}
use Rattle.volume_image.specs.Header.{kind_in, set_in, page_in, is_free, is_live, is_live_set, says_no_more}
use Rattle.volume_image.specs.Pages.{set_blocks}
use Rattle.data_set_pairs.specs.declared.place.PagePlace.{PagePlace}
use Rattle.data_set_pairs.specs.Table.{HasPlace}

-- a block that isn't free and has cells or rows of a data set that stands, whatever else its head says
abbrev pub is_taken : ℕ → List PartState → List ℕ → Bool
is_taken indexes states block = not (is_free states block) && (kind_in block == 1 || kind_in block == 2) && is_live_set indexes states (kind_in block) (set_in block)

-- free, or taken
abbrev pub is_held : ℕ → List PartState → List ℕ → Bool
is_held indexes states block = is_free states block || is_taken indexes states block

abbrev pub page_at : ℕ → List ℕ → PagePlace
page_at n block = record { set = set_in block; page = page_in block; block = n }

-- the pages of data blocks of which the first has the number n
abbrev pub taken_pages : ℕ → List PartState → ℕ → List (List ℕ) → List PagePlace
taken_pages indexes states n [] = []
taken_pages indexes states n (block ∷ blocks) = if is_taken indexes states block then page_at n block ∷ taken_pages indexes states (n + 1) blocks else taken_pages indexes states (n + 1) blocks

-- the numbers of the free ones
abbrev pub free_blocks : List PartState → ℕ → List (List ℕ) → List ℕ
free_blocks states n [] = []
free_blocks states n (block ∷ blocks) = if is_free states block then n ∷ free_blocks states (n + 1) blocks else free_blocks states (n + 1) blocks

-- each of the data blocks is free or live
abbrev pub are_known : ℕ → List PartState → List (List ℕ) → Bool
are_known indexes states blocks = list_all (λ block. is_free states block || is_live indexes states block) blocks

-- where the blocks are told, each of the data blocks, which stand behind the control blocks, is free or live
abbrev pub DataKnown : ℕ → ℕ → List PartState → Option (List (List ℕ)) → Type 0
DataKnown indexes control states told = IfSome told (λ list. IsTrue (are_known indexes states (drop control list)))

-- the heads of those that aren't free say no more than a head may
abbrev pub are_quiet : List PartState → List (List ℕ) → Bool
are_quiet states blocks = list_all (λ block. is_free states block || says_no_more block) blocks

abbrev pub HasUnknown : ℕ → List PartState → List (List ℕ) → Type 0
HasUnknown indexes states blocks = are_known indexes states blocks ≡ false

-- the live blocks of each data set have the page numbers from 0 to their count less 1, each once
abbrev pub AreNumbered : ℕ → List PartState → List (List ℕ) → Type 0
AreNumbered indexes states blocks =
    (set : SetId) (n : ℕ) → n < length (set_blocks indexes states set blocks) → IsTrue (list_any (λ page. page == n) (map page_in (set_blocks indexes states set blocks)))

-- and so where the blocks are told
abbrev pub DataNumbered : ℕ → ℕ → List PartState → Option (List (List ℕ)) → Type 0
DataNumbered indexes control states told = IfSome told (λ list. AreNumbered indexes states (drop control list))

-- the data blocks break rule 1 in its part on their heads, or with these in order rule 2
abbrev pub BreaksRule : ℕ → List PartState → List (List ℕ) → ℕ → Type 0
BreaksRule indexes states blocks rule = ((rule ≡ 1) × HasUnknown indexes states blocks) ⊎ ((rule ≡ 2) × IsTrue (are_known indexes states blocks) × (AreNumbered indexes states blocks → ⊥))

-- a table that was filled from the last data block down to block n
pub record IsScanned (indexes : ℕ) (states : List PartState) (n : ℕ) (blocks : List (List ℕ)) (pages : List PagePlace) (free : List ℕ) : Type 0 where
  pub taken : reverse pages ≡ taken_pages indexes states n blocks
  pub left : reverse free ≡ free_blocks states n blocks
  pub known : IsTrue (are_known indexes states blocks)
  pub small : All (λ p. HasPlace p.set) pages
  pub numbers : All (λ p. p.page < 2 ^ 16) pages

-- the same, of blocks that were seen, which are those of the list where it is told
pub record HasScanned (indexes : ℕ) (states : List PartState) (n number : ℕ) (list : Option (List (List ℕ))) (pages : List PagePlace) (free : List ℕ) : Type 0 where
  pub seen : List (List ℕ)
  pub many : length seen + n ≡ number
  pub told : (blocks : List (List ℕ)) → list ≡ Some blocks → drop n blocks ≡ seen
  pub scanned : IsScanned indexes states n seen pages free

-- the same pages, in whatever order: as many pass each test
abbrev pub SamePages : List PagePlace → List PagePlace → Type 0
SamePages xs ys = (test : PagePlace → Bool) → length (filter test ys) ≡ length (filter test xs)

-- the table's pages and free blocks are just those of the data blocks, and each of these is one or the other
pub record TableStands (indexes : ℕ) (states : List PartState) (control : ℕ) (pages : List PagePlace) (free : List ℕ) (blocks : List (List ℕ)) : Type 0 where
  pub taken : SamePages (taken_pages indexes states control (drop control blocks)) pages
  pub left : free ≡ free_blocks states control (drop control blocks)
  pub held : All (λ block. IsTrue (is_held indexes states block)) (drop control blocks)

-- the block of a page of a data set: it is taken, and its head names the page
pub record IsPage (indexes : ℕ) (states : List PartState) (set : SetId) (n : ℕ) (block : List ℕ) : Type 0 where
  pub taken : IsTrue (is_taken indexes states block)
  pub set_is : set_in block ≡ set
  pub page_is : page_in block ≡ n
