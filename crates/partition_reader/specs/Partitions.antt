-- What a partition file says: the partitions that the table of its TOML says, or the rule and the table that breaks it.
use Rattle.std.specs.Prelude.{ℕ, if◌then◌else◌, List, Option, Some, None, Result, Err}
use Rattle.std.specs.Str.{is_utf8}
use Rattle.toml.specs.Data.{Members}
use Rattle.toml.specs.Parse.{parse_document}
use Rattle.hal_schema.specs.declared.raw.RawParts.{RawParts}
use Rattle.hal_schema.specs.declared.text_fault.TextFault.{TextFault}
use Rattle.hal_schema.specs.declared.text_fault.TextFault.TheVariants.{Rule}
use Rattle.partition_reader.specs.Tables.{parts_of}

-- the table that a text writes in TOML
unfoldable pub toml_of : List ℕ → Option Members
toml_of text = if is_utf8 text then parse_document text else None

-- rule 21 is that of a text that isn't TOML
abbrev pub parts_or : Option Members → Result RawParts TextFault
parts_or None = Err (Rule 21 0)
parts_or (Some members) = parts_of members

unfoldable pub partitions_of : List ℕ → Result RawParts TextFault
partitions_of text = parts_or (toml_of text)
