-- A text is TOML where it is UTF-8 and the parser takes it.
use Rattle.std.proofs.Common.{◌≡◌, ℕ, Bool, true, false, List, Some, Err, IsUtf8, refl}
use Rattle.std.proofs.lemmas.Str.{IsUtf8-from_is_utf8, is_utf8-from_IsUtf8}
use Rattle.std.specs.Str.{is_utf8}
use Rattle.toml.specs.Data.{Members}
use Rattle.toml.specs.Parse.{parse_document}
use Rattle.hal_schema.specs.declared.text_fault.TextFault.TheVariants.{Rule}
use Rattle.partition_reader.specs.Tables.{parts_of}
use Rattle.partition_reader.specs.Partitions.{toml_of, partitions_of}

is_not : (text : List ℕ) → ¬ (IsUtf8 text) → (b : Bool) → is_utf8 text ≡ b → is_utf8 text ≡ false
is_not text h true e = absurd (h (IsUtf8-from_is_utf8 text e))
is_not text h false e = e

pub no_text : (text : List ℕ) → ¬ (IsUtf8 text) → partitions_of text ≡ Err (Rule 21 0)
unfolding partitions_of toml_of
no_text text h = rw (is_not text h (is_utf8 text) refl) refl

pub a_table : (text : List ℕ) (file : Members) → IsUtf8 text → parse_document text ≡ Some file → partitions_of text ≡ parts_of file
unfolding partitions_of toml_of
a_table text file h read = rw (is_utf8-from_IsUtf8 text h, read) refl
