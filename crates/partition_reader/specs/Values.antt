-- What the values of a partition file say, each in the table of a place: 0 is the file itself, the tables of
-- partitions count from 1. Rule 22 is that of a key that is absent and has no default, 23 that of a value that
-- isn't readable.
use Rattle.hal_base.specs.Reading.{◌>>=◌}
use Rattle.std.specs.Prelude.{ℕ, ◌-◌, ◌&&◌, ◌==◌, Bool, false, nat_le, nat_lt, pos, if◌then◌else◌, List, ◌∷◌, length, map, take, drop, slice_index, Option, Some, None, Result, Ok, Err}
use Rattle.std.specs.List.{list_all}
use Rattle.hex.specs.Hex.{decode_of}
use Rattle.hex.specs.declared.error.FromHexError.{FromHexError}
use Rattle.toml.specs.Data.{Data, string, integer, Members, get_member}
use Rattle.hal_base.specs.Name.{is_name, upper}
use Rattle.hal_schema.specs.declared.text_fault.TextFault.{TextFault}
use Rattle.hal_schema.specs.declared.text_fault.TextFault.TheVariants.{Rule}

-- what was read, seen by view
abbrev pub seen : {A B : Type 0} → (A → B) → Result A TextFault → Result B TextFault
seen view (Ok x) = Ok (view x)
seen view (Err fault) = Err fault

-- the value of a key that has no default
abbrev pub present : ℕ → Option Data → Result Data TextFault
present place None = Err (Rule 22 place)
present place (Some value) = Ok value

abbrev pub needed : ℕ → List ℕ → Members → Result Data TextFault
needed place key table = present place (get_member key table)

-- a whole number of 32 bits
unfoldable pub number_in : ℕ → Data → Result ℕ TextFault
number_in place (integer (pos n)) = if nat_lt n 4294967296 then Ok n else Err (Rule 23 place)
number_in place _ = Err (Rule 23 place)

-- a number that counts as 0 where its key is absent
abbrev pub number_or_zero : ℕ → Option Data → Result ℕ TextFault
number_or_zero place None = Ok 0
number_or_zero place (Some value) = number_in place value

abbrev pub optional_number : ℕ → Option Data → Result (Option ℕ) TextFault
optional_number place None = Ok None
optional_number place (Some value) = number_in place value >>= λ number. Ok (Some number)

-- a text that spells a name, in upper or lower case
unfoldable pub name_in : ℕ → Data → Result (List ℕ) TextFault
name_in place (string text) = if is_name (map upper text) then Ok (map upper text) else Err (Rule 23 place)
name_in place _ = Err (Rule 23 place)

abbrev pub is_printable : ℕ → Bool
is_printable b = nat_le 32 b && nat_le b 126

-- `X'` at the front: what follows are hexadecimal digits
abbrev pub begins_hex : List ℕ → Bool
begins_hex (mark ∷ quote ∷ rest) = mark == 88 && quote == 39
begins_hex _ = false

-- what stands before a quote at the end
abbrev pub before_quote : List ℕ → Option (List ℕ)
before_quote text = if nat_lt 0 (length text) && slice_index text (length text - 1) == 39 then Some (take (length text - 1) text) else None

-- the bytes that the digits write, one or more
abbrev pub some_bytes : ℕ → Result (List ℕ) FromHexError → Result (List ℕ) TextFault
some_bytes place (Ok bytes) = if length bytes == 0 then Err (Rule 23 place) else Ok bytes
some_bytes place (Err _) = Err (Rule 23 place)

abbrev pub bytes_in : ℕ → Option (List ℕ) → Result (List ℕ) TextFault
bytes_in place None = Err (Rule 23 place)
bytes_in place (Some digits) = some_bytes place (decode_of digits)

-- the bytes of a high key, as printable text or as `X'digits'`
unfoldable pub key_of : ℕ → List ℕ → Result (List ℕ) TextFault
key_of place text = if begins_hex text then bytes_in place (before_quote (drop 2 text)) else if list_all is_printable text then Ok text else Err (Rule 23 place)

unfoldable pub high_in : ℕ → Data → Result (List ℕ) TextFault
high_in place (string text) = key_of place text
high_in place _ = Err (Rule 23 place)
