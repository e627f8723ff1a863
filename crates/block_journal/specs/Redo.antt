-- What an image stands for: its blocks, after the redo of an open journal. Defined on images alone.
use Rattle.std.specs.Prelude.{ℕ, zero, suc, ◌+◌, ◌*◌, Bool, true, ◌&&◌, ◌==◌, nat_le, nat_lt, if◌then◌else◌, List, [], ◌∷◌, ◌++◌, length, slice_index, slice_set}
use Rattle.std.specs.Int.{w32, from_be_bytes, to_be_bytes}
use Rattle.std.specs.List.{flat_map}
use Rattle.hal_base.specs.Disk.{written}
use Rattle.block_journal.specs.Change.{Change}

-- n bytes of an image from `at` on; bytes past its end are zeros
unfoldable pub bytes_at : ℕ → ℕ → List ℕ → List ℕ
bytes_at at zero image = []
bytes_at at (suc n) image = slice_index image at ∷ bytes_at (at + 1) n image

unfoldable pub number_at : ℕ → List ℕ → ℕ
number_at at image = from_be_bytes w32 (bytes_at at 4 image)

-- so many blocks, one after another
unfoldable pub blocks_at : ℕ → ℕ → List ℕ → List (List ℕ)
blocks_at at zero image = []
blocks_at at (suc n) image = bytes_at at 4096 image ∷ blocks_at (at + 4096) n image

-- so many changes of a journal's body, one after another: a block's number, and its bytes
unfoldable pub changes_at : ℕ → ℕ → List ℕ → List Change
changes_at at zero image = []
changes_at at (suc n) image = (number_at at image, bytes_at (at + 4) 4096 image) ∷ changes_at (at + 4100) n image

-- where the journal's body begins: behind the last block
abbrev pub journal_start : ℕ → ℕ → ℕ
journal_start first count = first + 4096 * count

-- where the gate is, and where it ends
abbrev pub gate : ℕ
gate = 4096

abbrev pub gate_end : ℕ
gate_end = 4097

-- the gate is open
abbrev pub is_open : List ℕ → Bool
is_open image = slice_index image gate == 1

-- the blocks with the changes made, one after another
unfoldable pub put_all : List Change → List (List ℕ) → List (List ℕ)
put_all [] blocks = blocks
put_all (change ∷ changes) blocks = put_all changes (slice_set blocks change.0 change.1)

-- the changes of the journal's body
abbrev pub journal_of : ℕ → ℕ → List ℕ → List Change
journal_of first count image = changes_at (journal_start first count + 8) (number_at (journal_start first count) image) image

-- The blocks that an image stands for: where its gate is open, with the blocks of its journal in their places.
unfoldable pub redone : ℕ → ℕ → List ℕ → List (List ℕ)
redone first count image =
    if is_open image then put_all (journal_of first count image) (blocks_at first count image) else blocks_at first count image

-- the image with the changes' blocks written to their places, one after another
unfoldable pub put_image : ℕ → List Change → List ℕ → List ℕ
put_image first [] image = image
put_image first (change ∷ changes) image = put_image first changes (written (first + 4096 * change.0) change.1 image)

-- the bytes of one change
abbrev pub change_bytes : Change → List ℕ
change_bytes change = to_be_bytes w32 change.0 ++ change.1

-- the bytes of a journal's body
abbrev pub body_bytes : List Change → List ℕ
body_bytes changes = to_be_bytes w32 (length changes) ++ to_be_bytes w32 1 ++ flat_map change_bytes changes

-- the numbers rise from `from` on and are below the count of blocks, and each has a whole block
unfoldable pub are_changes : ℕ → ℕ → List Change → Bool
are_changes from count [] = true
are_changes from count (change ∷ changes) =
    nat_le from change.0 && nat_lt change.0 count && length change.1 == 4096 && are_changes (change.0 + 1) count changes
