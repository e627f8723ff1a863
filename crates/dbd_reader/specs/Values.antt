-- What the values of operands say: 17 is the rule of a value that isn't readable, 18 that of a thing left out by name.
use Rattle.hal_base.specs.Numbers.{number_of}
use Rattle.hal_base.specs.Reading.{◌>>=◌}
use Rattle.std.specs.Prelude.{ℕ, ◌+◌, ◌-◌, ◌*◌, ◌^◌, ◌&&◌, ◌||◌, Bool, true, false, not, nat_le, nat_lt, ◌==◌, if◌then◌else◌, List, [], ◌∷◌, length, map, drop, Option, Some, None, is_some, Result, Ok, Err, codes}
use Rattle.std.specs.List.{list_all, list_any}
use Rattle.std.specs.Str.{bytes_eq}
use Rattle.hal_base.specs.Name.{is_name, is_name_byte, is_portion_name, is_field_name, is_digit, upper}
use Rattle.dbd_reader.specs.declared.value.RmName.{RmName}
use Rattle.dbd_reader.specs.declared.value.KeyedName.{KeyedName}
use Rattle.dbd_reader.specs.declared.value.Child.{Child}
use Rattle.dbd_reader.specs.Operands.{inside, pieces, parts}

unfoldable pub name_value : List ℕ → Result (List ℕ) ℕ
name_value value = if is_name (map upper value) then Ok (map upper value) else Err 17

-- `/SX` and 0 to 5 name bytes: a field that IMS makes of a segment's place
abbrev pub is_system_name : List ℕ → Bool
is_system_name (a ∷ b ∷ c ∷ more) = a == 47 && b == 83 && c == 88 && list_all is_name_byte more && nat_le (length more) 5
is_system_name _ = false

unfoldable pub field_value : List ℕ → Result (List ℕ) ℕ
field_value value = if is_field_name (map upper value) then Ok (map upper value) else if is_system_name (map upper value) then Err 18 else Err 17

abbrev pub is_number : List ℕ → Bool
is_number value = nat_lt 0 (length value) && list_all is_digit value && nat_lt (number_of value) 4294967296

unfoldable pub number_value : List ℕ → Result ℕ ℕ
number_value value = if is_number value then Ok (number_of value) else Err 17

-- PHDAM or PHIDAM
abbrev pub method_of : List ℕ → Option Bool
method_of name = if bytes_eq name (codes "PHDAM") then Some true else if bytes_eq name (codes "PHIDAM") then Some false else None

-- VSAM or OSAM may follow
unfoldable pub access_of : List (List ℕ) → Option Bool
access_of (name ∷ []) = method_of name
access_of (name ∷ access ∷ []) = if bytes_eq access (codes "VSAM") || bytes_eq access (codes "OSAM") then method_of name else None
access_of _ = None

abbrev pub or_access : Option Bool → List (List ℕ) → Result Bool ℕ
or_access (Some phdam) names = Ok phdam
or_access None names = if list_all (λ name. is_name (map upper name)) names then Err 18 else Err 17

unfoldable pub access_value : List ℕ → Result Bool ℕ
access_value value = or_access (access_of (parts value)) (parts value)

-- a number, or nothing
abbrev pub is_optional_number : List ℕ → Bool
is_optional_number value = length value == 0 || is_number value

-- the first number, 1 where there is none
abbrev pub first_number : List (List ℕ) → ℕ
first_number [] = 1
first_number (value ∷ more) = if is_number value then number_of value else 1

unfoldable pub rmname_of : List (List ℕ) → Result RmName ℕ
rmname_of [] = Err 17
rmname_of (name ∷ numbers) = do
  module_name ← name_value name
  if list_all is_optional_number numbers then Ok (record { module_name = module_name; anch = first_number numbers; rbn = first_number (drop 1 numbers) }) else Err 17

-- a list, and no value alone
abbrev pub in_list : Option (List ℕ) → Result (List (List ℕ)) ℕ
in_list None = Err 17
in_list (Some text) = Ok (pieces text)

unfoldable pub rmname_value : List ℕ → Result RmName ℕ
rmname_value value = do
  items ← in_list (inside value)
  rmname_of items

-- SNGL or DBLE: how many pointers to the physical children
abbrev pub is_pointer : List ℕ → Bool
is_pointer word = bytes_eq word (codes "SNGL") || bytes_eq word (codes "DBLE")

unfoldable pub pointed_name : List (List ℕ) → Result (List ℕ) ℕ
pointed_name (name ∷ pointer ∷ []) = if is_pointer pointer then name_value name else Err 17
pointed_name _ = Err 17

-- a physical parent in a list: its name alone, or with its pointer
unfoldable pub is_physical : List (List ℕ) → Bool
is_physical (name ∷ []) = is_name (map upper name)
is_physical (name ∷ pointer ∷ []) = is_name (map upper name) && is_pointer pointer
is_physical _ = false

-- a logical parent: its segment, VIRTUAL or PHYSICAL, and its database
unfoldable pub is_logical : List (List ℕ) → Bool
is_logical (seg ∷ kind ∷ database ∷ []) = is_name (map upper seg) && (bytes_eq kind (codes "VIRTUAL") || bytes_eq kind (codes "PHYSICAL")) && is_name (map upper database)
is_logical _ = false

-- a list of which this holds
abbrev pub in_list_holds : (List (List ℕ) → Bool) → Option (List ℕ) → Bool
in_list_holds test None = false
in_list_holds test (Some text) = test (pieces text)

-- `(p,SNGL)`, `((p,SNGL))`, or a physical and a logical parent, which is left out
unfoldable pub parent_of : List (List ℕ) → Result (List ℕ) ℕ
parent_of (only ∷ []) = in_list (inside only) >>= pointed_name
parent_of (first ∷ second ∷ []) = if in_list_holds is_physical (inside first) && in_list_holds is_logical (inside second) then Err 18 else pointed_name (first ∷ second ∷ [])
parent_of _ = Err 17

abbrev pub parent_in : List ℕ → Option (List ℕ) → Result (List ℕ) ℕ
parent_in value None = name_value value
parent_in value (Some text) = parent_of (pieces text)

-- 0 is no parent
unfoldable pub parent_value : List ℕ → Result (Option (List ℕ)) ℕ
parent_value value = if bytes_eq value (codes "0") then Ok None else (parent_in value (inside value) >>= λ name. Ok (Some name))

-- two numbers, which are left out
unfoldable pub bytes_of : List (List ℕ) → Result ℕ ℕ
bytes_of (only ∷ []) = number_value only
bytes_of (greatest ∷ least ∷ []) = if is_number greatest && is_number least then Err 18 else Err 17
bytes_of _ = Err 17

unfoldable pub bytes_value : List ℕ → Result ℕ ℕ
bytes_value value = bytes_of (parts value)

abbrev pub is_letter : ℕ → Bool
is_letter b = nat_le 65 b && nat_le b 90

abbrev pub are_letters : List ℕ → Bool
are_letters word = list_all is_letter word

-- FIRST, or LAST where it is absent
abbrev pub place_of : List ℕ → Result Bool ℕ
place_of word = if bytes_eq word (codes "FIRST") then Ok true else if length word == 0 || bytes_eq word (codes "LAST") then Ok false else Err 17

unfoldable pub rules_of : List (List ℕ) → Result Bool ℕ
rules_of (letters ∷ []) = if nat_lt 0 (length letters) && are_letters letters then Ok false else Err 17
rules_of (letters ∷ place ∷ []) = if are_letters letters then place_of place else Err 17
rules_of _ = Err 17

unfoldable pub rules_value : List ℕ → Result Bool ℕ
rules_value value = if list_any (λ part. bytes_eq part (codes "HERE")) (parts value) then Err 18 else rules_of (parts value)

unfoldable pub letter_value : List ℕ → Result ℕ ℕ
letter_value (letter ∷ []) = Ok letter
letter_value _ = Err 17

-- SEQ makes a sequence field, U or M a unique one or one that may stand twice
abbrev pub sequence_of : List ℕ → Result ℕ ℕ
sequence_of kind = if bytes_eq kind (codes "U") then Ok 1 else if bytes_eq kind (codes "M") then Ok 2 else Err 17

abbrev pub keyed : List ℕ → List ℕ → ℕ → Result KeyedName ℕ
keyed name word seq = if bytes_eq word (codes "SEQ") then (field_value name >>= λ field. Ok (record { name = field; seq = seq })) else Err 17

unfoldable pub keyed_of : List (List ℕ) → Result KeyedName ℕ
keyed_of (name ∷ word ∷ []) = keyed name word 1
keyed_of (name ∷ word ∷ kind ∷ []) = sequence_of kind >>= keyed name word
keyed_of _ = Err 17

abbrev pub keyed_in : List ℕ → Option (List ℕ) → Result KeyedName ℕ
keyed_in value None = field_value value >>= λ field. Ok (record { name = field; seq = 0 })
keyed_in value (Some text) = keyed_of (pieces text)

unfoldable pub keyed_value : List ℕ → Result KeyedName ℕ
keyed_value value = keyed_in value (inside value)

unfoldable pub child_of : List (List ℕ) → Result Child ℕ
child_of (seg ∷ database ∷ []) = do
  segment ← name_value seg
  name ← name_value database
  Ok (record { seg = segment; name = name })
child_of _ = Err 17

unfoldable pub child_value : List ℕ → Result Child ℕ
child_value value = do
  items ← in_list (inside value)
  child_of items

-- another pointer is left out
unfoldable pub index_value : List ℕ → Result (Unit {0}) ℕ
index_value value = if bytes_eq value (codes "INDX") then Ok tt else if is_name (map upper value) then Err 18 else Err 17

-- the fields of these names
unfoldable pub fields_of : List (List ℕ) → Result (List (List ℕ)) ℕ
fields_of names = if list_any (λ name. is_system_name (map upper name)) names then Err 18 else if list_all (λ name. is_field_name (map upper name)) names then Ok (map (map upper) names) else Err 17

unfoldable pub fields_value : List ℕ → Result (List (List ℕ)) ℕ
fields_value value = fields_of (parts value)

-- at most five
unfoldable pub search_value : List ℕ → Result (List (List ℕ)) ℕ
search_value value = do
  names ← fields_value value
  if nat_lt 5 (length names) then Err 17 else Ok names
