-- Lines, and the columns of them that are read.
use Rattle.hal_base.specs.Bytes.{is_printable}
use Rattle.std.specs.Prelude.{◌≡◌, ◌≤◌, ◌-◌, ℕ, zero, suc, ◌&&◌, ◌||◌, Bool, true, false, not, nat_le, ◌==◌, List, [], ◌∷◌, take}
use Rattle.std.specs.List.{list_all, slice_get, after_first}
use Rattle.std.specs.Option.{option_map_or}
use Rattle.dbd_reader.specs.Words.{is_blank}

abbrev pub begins_with : ℕ → List ℕ → Bool
begins_with byte [] = false
begins_with byte (b ∷ rest) = b == byte

-- a note, or nothing but blanks in columns 1 to 72
abbrev pub is_comment : List ℕ → Bool
is_comment line = begins_with 42 line || list_all is_blank (take 72 line)

-- column 72 isn't blank
abbrev pub is_marked : List ℕ → Bool
is_marked line = option_map_or (λ b. not (is_blank b)) (slice_get line 71) false

-- each byte that is read is printable
abbrev pub is_readable : List ℕ → Bool
is_readable line = list_all is_printable (take 72 line)

-- what stands behind so many lines
abbrev pub behind_lines : ℕ → List ℕ → List ℕ
behind_lines zero text = text
behind_lines (suc n) text = after_first (λ b. b == 10) (behind_lines n text)

-- the rest is what stands behind the lines before the line of this number
pub record IsBehind (whole : List ℕ) (number : ℕ) (rest : List ℕ) : Type 0 where
  pub counted : 1 ≤ number
  pub same : rest ≡ behind_lines (number - 1) whole
