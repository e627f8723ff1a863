-- What a text of load rows says. The text is CSV without a header, as the kit's reader of records has it with its own
-- settings; each record has three fields: segment, form and value.
use Rattle.std.specs.Prelude.{ℕ, ◌+◌, ◌-◌, nat_le, ◌&&◌, List, [], ◌++◌, length, map, position, replicate, codes, Option, None, Some, unwrap_or, option_map, option_and_then, Result, Ok, Err, if◌then◌else◌}
use Rattle.std.specs.List.{list_all}
use Rattle.std.specs.Str.{bytes_eq}
use Rattle.csv.specs.Reading.{records, default_config, strip_bom}
use Rattle.csv.specs.Records.{field_at}
use Rattle.hex.specs.Hex.{decode_sized}
use Rattle.hex.specs.declared.error.FromHexError.{FromHexError}
use Rattle.hal_base.specs.Bytes.{is_printable}
use Rattle.hal_base.specs.Name.{is_name, upper}
use Rattle.hal_schema.specs.declared.schema.SegType.{SegType}
use Rattle.hal_schema.specs.SegType.{type_of}

-- the records of a text, in order; an empty line is none, and a last line needs no end
abbrev pub records_of : List ℕ → List (List (List ℕ))
records_of text = records default_config (strip_bom text)

-- a field of a record, empty where the record has no such field
abbrev pub field_of : ℕ → List (List ℕ) → List ℕ
field_of place fields = unwrap_or (field_at fields place) []

-- the name that bytes spell, a lower-case letter taken as its upper-case one
abbrev pub name_said : List ℕ → Option (List ℕ)
name_said text = if is_name (map upper text) then Some (map upper text) else None

-- the code of the segment type that the first field names
abbrev pub code_named : List SegType → List ℕ → Option ℕ
code_named types segment = option_and_then (λ name. option_map (λ place. place + 1) (position (λ t. bytes_eq t.name name) types)) (name_said segment)

-- form T: printable bytes, padded on the right with blanks
abbrev pub text_content : ℕ → List ℕ → Option (List ℕ)
text_content bytes value = if list_all is_printable value && nat_le (length value) bytes then Some (value ++ replicate (bytes - length value) 32) else None

abbrev pub if_decoded : Result (List ℕ) FromHexError → Option (List ℕ)
if_decoded (Ok content) = Some content
if_decoded (Err why) = None

-- form X: hexadecimal digits of just so many bytes
abbrev pub hex_content : ℕ → List ℕ → Option (List ℕ)
hex_content bytes value = if_decoded (decode_sized value bytes)

-- the content that a form and a value say for a type of so many bytes
abbrev pub content_of : ℕ → List ℕ → List ℕ → Option (List ℕ)
content_of bytes form value =
    if bytes_eq form (codes "T") then text_content bytes value else if bytes_eq form (codes "X") then hex_content bytes value else None

abbrev pub code_said : List SegType → List (List ℕ) → Option ℕ
code_said types fields = code_named types (field_of 0 fields)

abbrev pub content_said : List SegType → List (List ℕ) → Option (List ℕ)
content_said types fields =
    option_and_then (λ t. content_of t.bytes (field_of 1 fields) (field_of 2 fields)) (option_and_then (type_of types) (code_said types fields))
