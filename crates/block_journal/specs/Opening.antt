-- What an opening reads, and what it makes of an image that ends early.
use Rattle.std.specs.Prelude.{◌≡◌, ℕ, ◌+◌, ◌≤◌, List, length, slice_index, Option, Some}
use Rattle.block_journal.specs.Redo.{bytes_at, blocks_at, journal_start}

-- the image as it was, filled up with zeros where it ended before its last block did
pub record IsReady (first count : ℕ) (old new : Option (List ℕ)) : Type 0 where
  pub long : (image : List ℕ) → new ≡ Some image → journal_start first count ≤ length image
  pub same : (before after : List ℕ) → old ≡ Some before → new ≡ Some after → (i : ℕ) → slice_index after i ≡ slice_index before i

-- the block is that of the image that is told, where it reaches so far
pub record ReadsBlock (at : ℕ) (told : Option (List ℕ)) (block : List ℕ) : Type 0 where
  pub is : (image : List ℕ) → told ≡ Some image → at + 4096 ≤ length image → block ≡ bytes_at at 4096 image

-- so are so many blocks
pub record ReadsBlocks (first count : ℕ) (told : Option (List ℕ)) (blocks : List (List ℕ)) : Type 0 where
  pub are : (image : List ℕ) → told ≡ Some image → journal_start first count ≤ length image → blocks ≡ blocks_at first count image
