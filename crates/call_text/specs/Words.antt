-- Blanks, words, operators and digits.
use Rattle.hal_base.specs.Numbers.{number_of}
use Rattle.std.specs.Prelude.{ℕ, ◌-◌, ◌&&◌, ◌||◌, Bool, false, nat_le, nat_lt, ◌==◌, if◌then◌else◌, List, [], ◌∷◌, length, drop, codes}
use Rattle.std.specs.List.{list_all, prefix_len}
use Rattle.std.specs.Str.{bytes_eq}
use Rattle.hal_base.specs.Name.{is_name_byte, is_digit, upper}

abbrev pub is_blank : ℕ → Bool
is_blank b = b == 32

-- what stands behind the longest run at the front of bytes that pass
abbrev pub past : (ℕ → Bool) → List ℕ → List ℕ
past test text = drop (prefix_len test text) text

-- a byte of names, in either case
abbrev pub in_word : ℕ → Bool
in_word b = is_name_byte (upper b)

abbrev pub is_letter : ℕ → Bool
is_letter b = nat_le 65 b && nat_le b 90

abbrev pub is_letter_or_digit : ℕ → Bool
is_letter_or_digit b = is_letter b || is_digit b

-- options, functions and codes: 1 to 8 letters or digits
abbrev pub is_word : List ℕ → Bool
is_word word = nat_lt 0 (length word) && nat_le (length word) 8 && list_all is_letter_or_digit word

-- 1 to 1,000 groups, in 1 to 4 digits
abbrev pub is_count : List ℕ → Bool
is_count digits = nat_le (length digits) 4 && nat_le 1 (number_of digits) && nat_le (number_of digits) 1000

-- one digit or more, and nothing else
abbrev pub is_number : List ℕ → Bool
is_number word = nat_lt 0 (length word) && list_all is_digit word

abbrev pub is_hex : ℕ → Bool
is_hex b = (nat_le 48 b && nat_le b 57) || (nat_le 65 (upper b) && nat_le (upper b) 70)

-- 0 to 9, then A to F in either case
abbrev pub hex_value : ℕ → ℕ
hex_value b = if nat_le b 57 then b - 48 else upper b - 55

-- an operator as it is printed: a known one by its kind, any other as it stands
abbrev pub printed_operator : List ℕ → List ℕ
printed_operator op =
    if bytes_eq op (codes "EQ") then codes "="
    else if bytes_eq op (codes "GT") then codes ">"
    else if bytes_eq op (codes "LT") then codes "<"
    else if bytes_eq op (codes "GE") then codes ">="
    else if bytes_eq op (codes "=>") then codes ">="
    else if bytes_eq op (codes "LE") then codes "<="
    else if bytes_eq op (codes "=<") then codes "<="
    else op

-- PCB and REORG are no names of sessions
abbrev pub is_reserved : List ℕ → Bool
is_reserved name = bytes_eq name (codes "PCB") || bytes_eq name (codes "REORG")

abbrev pub begins_with : ℕ → List ℕ → Bool
begins_with byte [] = false
begins_with byte (b ∷ rest) = b == byte

-- nothing but blanks, or a note
abbrev pub is_silent : List ℕ → Bool
is_silent text = list_all is_blank text || begins_with 42 text
