-- The canonical partition file of a schema.
use Rattle.std.specs.Prelude.{ℕ, ◌&&◌, ◌||◌, Bool, nat_le, if◌then◌else◌, List, ◌++◌, flat_map, codes, decimal}
use Rattle.std.specs.List.{list_all}
use Rattle.hex.specs.Hex.{encode_upper}
use Rattle.hal_schema.specs.declared.schema.PartDef.{PartDef}
use Rattle.hal_schema.specs.declared.schema.Schema.{Schema}

-- an ASCII letter or digit
abbrev pub is_plain : ℕ → Bool
is_plain b = (nat_le 48 b && nat_le b 57) || (nat_le 65 b && nat_le b 90) || (nat_le 97 b && nat_le b 122)

-- as text where all its bytes are letters and digits, else in hex
abbrev pub high_text : List ℕ → List ℕ
high_text high = if list_all is_plain high then high else codes "X'" ++ encode_upper high ++ codes "'"

-- the lines of a text and of a number
unfoldable pub text_line : List ℕ → List ℕ → List ℕ
text_line key text = key ++ codes " = \"" ++ text ++ codes "\"\n"

unfoldable pub number_line : List ℕ → ℕ → List ℕ
number_line key number = key ++ codes " = " ++ decimal number ++ codes "\n"

unfoldable pub table_line : List ℕ
table_line = codes "[[partition]]\n"

abbrev pub name_lines : PartDef → List ℕ
name_lines p = text_line (codes "name") p.name ++ number_line (codes "number") p.number ++ text_line (codes "high") (high_text p.high)

abbrev pub space_lines : PartDef → List ℕ
space_lines p = number_line (codes "anchors") p.anchors ++ number_line (codes "fbff") p.fbff ++ number_line (codes "fspf") p.fspf

unfoldable pub part_text : PartDef → List ℕ
part_text p = table_line ++ name_lines p ++ space_lines p

-- the partitions in the order of their high keys, as a schema has them
unfoldable pub partitions_text : Schema → List ℕ
partitions_text s = number_line (codes "blocks") s.blocks ++ flat_map part_text s.parts
