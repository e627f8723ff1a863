-- Operands of a statement: parted by commas, each a keyword, `=` and a value.
use Rattle.std.specs.Prelude.{ℕ, ◌+◌, ◌-◌, ◌&&◌, ◌||◌, Bool, true, false, not, nat_le, ◌==◌, if◌then◌else◌, List, [], ◌∷◌, length, map, take, drop, slice_index, Option, Some, None, option_and_then, find, codes}
use Rattle.std.specs.List.{list_any, onto_first, position_or_len, before_first, after_first}
use Rattle.std.specs.Option.{option_map_or}
use Rattle.std.specs.Str.{bytes_eq}
use Rattle.hal_base.specs.Name.{upper}
use Rattle.dbd_reader.specs.declared.word.Word.{Word}
use Rattle.dbd_reader.specs.declared.word.Word.TheVariants as words
use Rattle.dbd_reader.specs.declared.operand.Operand.{Operand}
use Rattle.dbd_reader.specs.Lines.{begins_with}

-- whether a quote is open behind a byte
abbrev pub quoted_behind : Bool → ℕ → Bool
quoted_behind quoted b = if b == 39 then not quoted else quoted

abbrev pub folded_byte : Bool → ℕ → ℕ
folded_byte quoted b = if quoted then b else upper b

-- lower-case letters outside quotes are taken as upper-case
unfoldable pub folded : Bool → List ℕ → List ℕ
folded quoted [] = []
folded quoted (b ∷ rest) = folded_byte quoted b ∷ folded (quoted_behind quoted b) rest

-- how many parentheses are open behind a byte
abbrev pub depth_behind : ℕ → Bool → ℕ → ℕ
depth_behind depth quoted b = if quoted then depth else if b == 40 then depth + 1 else if b == 41 then depth - 1 else depth

-- a comma outside parentheses and quotes
abbrev pub parts_here : ℕ → Bool → ℕ → Bool
parts_here depth quoted b = b == 44 && depth == 0 && not quoted

-- what stands between such commas, behind so many open parentheses, and an open quote or none
unfoldable pub pieces_from : ℕ → Bool → List ℕ → List (List ℕ)
pieces_from depth quoted [] = [] ∷ []
pieces_from depth quoted (b ∷ rest) = if parts_here depth quoted b then [] ∷ pieces_from depth quoted rest else onto_first b (pieces_from (depth_behind depth quoted b) (quoted_behind quoted b) rest)

abbrev pub pieces : List ℕ → List (List ℕ)
pieces text = pieces_from 0 false text

abbrev pub is_equal_sign : ℕ → Bool
is_equal_sign b = b == 61

-- an LCHILD's POINTER is its PTR
abbrev pub keyword : Word → List ℕ → List ℕ
keyword words.Lchild key = if bytes_eq key (codes "POINTER") then codes "PTR" else key
keyword _ key = key

-- the value is what stands behind the first equal sign
unfoldable pub operand_in : Word → List ℕ → Operand
operand_in word piece = record {
  key = keyword word (before_first is_equal_sign piece);
  value = if position_or_len is_equal_sign piece == length piece then None else Some (after_first is_equal_sign piece);
}

-- the operands of a text, in upper case
unfoldable pub operands_in : Word → List ℕ → List Operand
operands_in word text = if length text == 0 then [] else map (operand_in word) (pieces (folded false text))

-- an operand stands twice
unfoldable pub has_twins : List Operand → Bool
has_twins [] = false
has_twins (o ∷ operands) = list_any (λ p. bytes_eq p.key o.key) operands || has_twins operands

-- the value of the first operand of a keyword
unfoldable pub value_of : List ℕ → List Operand → Option (List ℕ)
value_of key operands = option_and_then (λ o. o.value) (find (λ o. bytes_eq o.key key) operands)

-- what stands in parentheses
unfoldable pub inside : List ℕ → Option (List ℕ)
inside value = if nat_le 2 (length value) && begins_with 40 value && slice_index value (length value - 1) == 41 then Some (take (length value - 2) (drop 1 value)) else None

-- the parts of a list, or the value alone
unfoldable pub parts : List ℕ → List (List ℕ)
parts value = option_map_or pieces (inside value) (value ∷ [])
