-- Which blocks a data set has, and what of soundness speaks of control rows and heads.
use Rattle.std.specs.Prelude.{ℕ, ◌<◌, ◌==◌, Bool, ◌&&◌, ◌||◌, IsTrue, List, length, drop, filter, map}
use Rattle.std.specs.List.{list_all, list_any}
use Rattle.hal_base.specs.declared.pages.SetId.{SetId}
use Rattle.hal_base.specs.declared.place.PartState.{PartState}
use Rattle.hal_schema.specs.declared.schema.Schema.{Schema}
use Rattle.volume_image.specs.Control.{HasStates, control_count}
use Rattle.volume_image.specs.Header.{set_in, page_in, is_free, is_live}

abbrev pub same_set : SetId → SetId → Bool
same_set a b = a.part == b.part && a.number == b.number && a.letter == b.letter

-- a live block of this data set
abbrev pub is_in_set : ℕ → List PartState → SetId → List ℕ → Bool
is_in_set indexes states set block = is_live indexes states block && same_set (set_in block) set

-- each data block is free or live
abbrev pub heads_stand : Schema → List PartState → List (List ℕ) → Bool
heads_stand schema states blocks = list_all (λ block. is_free states block || is_live (length schema.indexes) states block) (drop (control_count schema) blocks)

-- soundness rule 1, in its part on control rows and heads
pub record KeepsRule1 (schema : Schema) (blocks : List (List ℕ)) (states : List PartState) : Type 0 where
  pub rows : HasStates schema blocks states
  pub heads : IsTrue (heads_stand schema states blocks)

-- the live blocks of a data set, in the order of the blocks
abbrev pub set_blocks : ℕ → List PartState → SetId → List (List ℕ) → List (List ℕ)
set_blocks indexes states set blocks = filter (is_in_set indexes states set) blocks

-- soundness rule 2: the live blocks of each data set have the page numbers from 0 to their count less 1, each once
abbrev pub KeepsRule2 : Schema → List (List ℕ) → List PartState → Type 0
KeepsRule2 schema blocks states =
    (set : SetId) (n : ℕ) → n < length (set_blocks (length schema.indexes) states set (drop (control_count schema) blocks))
    → IsTrue (list_any (λ page. page == n) (map page_in (set_blocks (length schema.indexes) states set (drop (control_count schema) blocks))))

-- how many data blocks are free
abbrev pub free_count : Schema → List (List ℕ) → List PartState → ℕ
free_count schema blocks states = length (filter (is_free states) (drop (control_count schema) blocks))
