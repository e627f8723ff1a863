-- A table of pages: which block each page of each data set stands in, and which blocks are free.
use Rattle.std.specs.Prelude.{◌≡◌, ℕ, ◌+◌, ◌*◌, ◌<◌, ◌≤◌, ◌^◌, IsTrue, Bool, List, length, map, filter, All, slice_index_or}
use Rattle.std.specs.List.Sorted.{IsNonDecreasingBy, IsPartitionPoint}
use Rattle.hal_base.specs.Pages.{rises_from}
use Rattle.hal_base.specs.declared.pages.SetId.{SetId}
use Rattle.volume_image.specs.Pages.{same_set}
use Rattle.data_set_pairs.specs.declared.place.PagePlace.{PagePlace}

-- the order in which data sets stand in a table: by partition, number and letter
abbrev pub set_rank : SetId → ℕ
set_rank set = (set.part * 65536 + set.number) * 256 + set.letter

-- and their pages by page number
abbrev pub page_rank : PagePlace → ℕ
page_rank p = set_rank p.set * 65536 + p.page

abbrev pub is_page_of : SetId → PagePlace → Bool
is_page_of set p = same_set p.set set

abbrev pub pages_of : SetId → List PagePlace → List PagePlace
pages_of set pages = filter (is_page_of set) pages

-- the blocks of a data set, in the order of the table
abbrev pub places_of : SetId → List PagePlace → List ℕ
places_of set pages = map (λ p. p.block) (pages_of set pages)

-- the pages of each data set stand in the order of their numbers, which run from 0 on
abbrev pub RunFromZero : List PagePlace → Type 0
RunFromZero pages = (set : SetId) (n : ℕ) (d : PagePlace) → n < length (pages_of set pages) → (slice_index_or (pages_of set pages) n d).page ≡ n

-- numbers that have a place in a head
pub record HasPlace (set : SetId) : Type 0 where
  pub part : set.part < 2 ^ 16
  pub number : set.number < 2 ^ 16
  pub letter : set.letter < 2 ^ 8

pub record IsBetween (low high n : ℕ) : Type 0 where
  pub from : low ≤ n
  pub to : n < high

-- data sets stand by rank, each with its pages in order; the free blocks rise; no more pages and free blocks than data blocks
pub record IsTable (control number : ℕ) (pages : List PagePlace) (free : List ℕ) : Type 0 where
  pub order : IsNonDecreasingBy (λ p. set_rank p.set) pages
  pub run : RunFromZero pages
  pub small : All (λ p. HasPlace p.set) pages
  pub within : All (λ p. IsBetween control number p.block) pages
  pub rise : IsTrue (rises_from control free)
  pub free_within : All (IsBetween control number) free
  pub every : length pages + length free + control ≤ number

-- where the next page of a data set goes: no later data set stands in front, and only later ones behind
pub record IsFront (set : SetId) (pages : List PagePlace) (end : ℕ) : Type 0 where
  pub within : end ≤ length pages
  pub parts : IsPartitionPoint (λ p. set_rank p.set ≤ set_rank set) (λ p. set_rank set < set_rank p.set) pages end
