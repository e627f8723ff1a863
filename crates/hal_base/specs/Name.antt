-- Names of segments, fields, databases and partitions, as DBD source has them: 1 to 8 bytes.
use Rattle.std.specs.Prelude.{ℕ, ◌-◌, ◌&&◌, ◌||◌, Bool, false, nat_le, ◌==◌, if◌then◌else◌, List, [], ◌∷◌, ◌++◌, length, drop, replicate}
use Rattle.std.specs.List.{list_all}

-- a lower-case letter is taken as its upper-case one, every other byte as it is
abbrev pub upper : ℕ → ℕ
upper b = if nat_le 97 b && nat_le b 122 then b - 32 else b

abbrev pub is_digit : ℕ → Bool
is_digit b = nat_le 48 b && nat_le b 57

-- `A` to `Z`, `#`, `@` and `$`
abbrev pub is_name_letter : ℕ → Bool
is_name_letter b = (nat_le 65 b && nat_le b 90) || b == 35 || b == 64 || b == 36

abbrev pub is_name_byte : ℕ → Bool
is_name_byte b = is_name_letter b || is_digit b

-- 1 to 8 such bytes, the first no digit
abbrev pub is_name : List ℕ → Bool
is_name [] = false
is_name (first ∷ more) = is_name_letter first && list_all is_name_byte more && nat_le (length more) 7

-- `/CK` and 0 to 5 such bytes: a portion of the concatenated key, which a FIELD names as if it were a field
abbrev pub is_portion_name : List ℕ → Bool
is_portion_name (a ∷ b ∷ c ∷ more) = a == 47 && b == 67 && c == 75 && list_all is_name_byte more && nat_le (length more) 5
is_portion_name _ = false

abbrev pub is_field_name : List ℕ → Bool
is_field_name name = is_name name || is_portion_name name

-- eight bytes: the name, then blanks
abbrev pub padded : List ℕ → List ℕ
padded name = name ++ drop (length name) (replicate 8 32)
