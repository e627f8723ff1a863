-- A row as a record of CSV: form T where all its bytes are printable, else X with upper-case digits.
use Rattle.std.specs.Prelude.{ℕ, List, [], ◌∷◌, codes, if◌then◌else◌}
use Rattle.std.specs.List.{list_all}
use Rattle.std.specs.Option.{option_map_or}
use Rattle.csv.specs.Writing.{row_text, default_writer}
use Rattle.hex.specs.Hex.{encode_upper}
use Rattle.hal_base.specs.Bytes.{is_printable}
use Rattle.hal_schema.specs.declared.row.Row.{Row}
use Rattle.hal_schema.specs.declared.schema.SegType.{SegType}
use Rattle.hal_schema.specs.SegType.{type_of}

abbrev pub form_of : List ℕ → List ℕ
form_of content = if list_all is_printable content then codes "T" else codes "X"

abbrev pub value_of : List ℕ → List ℕ
value_of content = if list_all is_printable content then content else encode_upper content

abbrev pub segment_of : List SegType → ℕ → List ℕ
segment_of types code = option_map_or (λ t. t.name) (type_of types code) []

abbrev pub fields_said : List SegType → Row → List (List ℕ)
fields_said types row = segment_of types row.code ∷ form_of row.content ∷ value_of row.content ∷ []

-- with the kit's own quoting: a field stands in quotes where it needs them, and a line feed ends the record
abbrev pub row_line : List SegType → Row → List ℕ
row_line types row = row_text default_writer (fields_said types row)
