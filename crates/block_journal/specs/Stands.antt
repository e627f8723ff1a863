-- What a live journal knows of its site, and what it tells of the blocks.
use Rattle.std.specs.Prelude.{◌≡◌, ℕ, nat_le, if◌then◌else◌, List, Option, None, Some}
use Rattle.block_journal.specs.Commit.{IsSettled}
use Rattle.block_journal.specs.Device.{IsExact}
use Rattle.block_journal.specs.Redo.{blocks_at}

-- the image that is told is settled, its blocks are those that are kept, and a stop now leaves it
pub record Stands (first count : ℕ) (kept : List (List ℕ)) (image : Option (List ℕ)) (outcomes : List ℕ → List ℕ → Type 0) : Type 0 where
  pub settled : (bytes : List ℕ) → image ≡ Some bytes → IsSettled first count bytes
  pub blocks : (bytes : List ℕ) → image ≡ Some bytes → blocks_at first count bytes ≡ kept
  pub exact : IsExact image outcomes

-- a list is told where the image is
abbrev pub told_where : Option (List ℕ) → List (List ℕ) → Option (List (List ℕ))
told_where None blocks = None
told_where (Some image) blocks = Some blocks

-- how much may be said, where the site has room for all that is written
abbrev pub say_room : ℕ → Option (ℕ × ℕ) → Option ℕ
say_room needed None = None
say_room needed (Some room) = if nat_le needed room.0 then Some room.1 else None
