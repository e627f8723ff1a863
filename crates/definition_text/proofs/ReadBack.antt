-- The canonical partition file reads as the raw definitions of the schema's partitions.
use Rattle.std.proofs.Common.{◌≡◌, Ok}
use Rattle.hal_schema.specs.declared.schema.Schema.{Schema}
use Rattle.definition_printer.specs.Partitions.{partitions_text}
use Rattle.partition_reader.specs.Partitions.{toml_of, partitions_of}
use Rattle.definition_text.specs.Raw.{raw_parts_of}
use Rattle.hal_schema.specs.Facts.{SchemasAreKept}
use Rattle.definition_text.proofs.Printable.{printable}
use Rattle.definition_text.proofs.Ascii.{file_utf8}
use Rattle.definition_text.proofs.FileRun.{file_parsed}
use Rattle.definition_text.proofs.PartValues.{file_back}

pub partitions_read_back : SchemasAreKept → (s : Schema) → partitions_of (partitions_text s) ≡ Ok (raw_parts_of s)
unfolding partitions_of toml_of
partitions_read_back all s =
    let h = printable all s in
    rw (file_utf8 s h, file_parsed s h) (file_back s h)
