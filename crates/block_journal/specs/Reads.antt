-- What the reads of a journal's body give.
use Rattle.std.specs.Prelude.{◌≡◌, ℕ, ◌+◌, ◌<◌, ◌≤◌, Bool, true, false, List, length, Option, None, Some}
use Rattle.block_journal.specs.Change.{Change}
use Rattle.block_journal.specs.Body.{AreThere, HasBody}
use Rattle.block_journal.specs.Redo.{bytes_at, changes_at, number_at, journal_start, journal_of}

-- the bytes stand there in full, or the image that is told ends before them
pub record ReadsWhole (at : ℕ) (told : Option (List ℕ)) (whole : Bool) (bytes : List ℕ) : Type 0 where
  pub is : whole ≡ true → (image : List ℕ) → told ≡ Some image → (at + length bytes ≤ length image) × (bytes ≡ bytes_at at (length bytes) image)
  pub short : whole ≡ false → (image : List ℕ) → told ≡ Some image → length image < at + length bytes

pub record ReadsNumber (at : ℕ) (told : Option (List ℕ)) (number : Option ℕ) : Type 0 where
  pub is : (n : ℕ) → number ≡ Some n → (image : List ℕ) → told ≡ Some image → (at + 4 ≤ length image) × (n ≡ number_at at image)
  pub short : number ≡ None → (image : List ℕ) → told ≡ Some image → length image < at + 4

pub record ReadsChange (at : ℕ) (told : Option (List ℕ)) (change : Option Change) : Type 0 where
  pub is : (c : Change) → change ≡ Some c → (image : List ℕ) → told ≡ Some image →
      (at + 4100 ≤ length image) × (c.0 ≡ number_at at image) × (c.1 ≡ bytes_at (at + 4) 4096 image)
  pub short : change ≡ None → (image : List ℕ) → told ≡ Some image → length image < at + 4100

-- how many changes the body has, by its first eight bytes
pub record ReadsSize (first count : ℕ) (told : Option (List ℕ)) (n : ℕ) : Type 0 where
  pub is : (image : List ℕ) → told ≡ Some image →
      (journal_start first count + 8 ≤ length image) × (n ≡ number_at (journal_start first count) image) × (number_at (journal_start first count + 4) image ≡ 1)
  pub some : 1 ≤ n
  pub few : n ≤ count

-- so many changes stand there in the image that is told, and they are these
abbrev pub ReadsChanges : ℕ → ℕ → ℕ → Option (List ℕ) → List Change → Type 0
ReadsChanges at n count told changes =
    (image : List ℕ) → told ≡ Some image → AreThere at n count image × (changes ≡ changes_at at n image)

-- the image that is told has no body
abbrev pub LacksBody : ℕ → ℕ → Option (List ℕ) → Type 0
LacksBody first count told = (image : List ℕ) → told ≡ Some image → HasBody first count image → ⊥

-- the image that is told has a body, of these changes
pub record ReadsBody (first count : ℕ) (told : Option (List ℕ)) (changes : List Change) : Type 0 where
  pub has : (image : List ℕ) → told ≡ Some image → HasBody first count image × (changes ≡ journal_of first count image)
