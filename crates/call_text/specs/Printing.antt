-- How values are printed.
use Rattle.hal_base.specs.Bytes.{is_printable}
use Rattle.std.specs.Prelude.{ℕ, ◌+◌, ◌/◌, ◌%◌, nat_lt, ◌==◌, if◌then◌else◌, List, [], ◌∷◌, ◌++◌}
use Rattle.std.specs.List.{list_all, flat_map}

-- a quote stands twice
abbrev pub doubled : ℕ → List ℕ
doubled b = if b == 39 then 39 ∷ 39 ∷ [] else b ∷ []

-- 'text'
abbrev pub quoted : List ℕ → List ℕ
quoted bytes = 39 ∷ flat_map doubled bytes ++ 39 ∷ []

-- 0 to 9, then A to F
abbrev pub hex_digit : ℕ → ℕ
hex_digit n = if nat_lt n 10 then 48 + n else 55 + n

abbrev pub hex_pair : ℕ → List ℕ
hex_pair b = hex_digit (b / 16) ∷ hex_digit (b % 16) ∷ []

-- X'hex'
abbrev pub in_hex : List ℕ → List ℕ
in_hex bytes = 88 ∷ 39 ∷ flat_map hex_pair bytes ++ 39 ∷ []

-- as text where all bytes are printable, else in hex
unfoldable pub printed_value : List ℕ → List ℕ
printed_value bytes = if list_all is_printable bytes then quoted bytes else in_hex bytes
