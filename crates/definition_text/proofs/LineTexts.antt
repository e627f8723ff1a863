-- The lines of a partition file are lines as TOML's printer writes them.
use Rattle.std.proofs.Common.{◌≡◌, ℕ, ◌<◌, ◌^◌, false, pos, List, [], codes, decimal, refl, arith, append_assoc}
use Rattle.std.specs.Prelude.{FitsSigned}
use Rattle.std.specs.Int.{w64}
use Rattle.std.proofs.Math.Facts.{sfits_lit, yes_ltb}
use Rattle.toml_writer.specs.Text.{string_text, key_text}
use Rattle.toml.specs.Data.{string, integer}
use Rattle.toml.specs.Tables.{key_value, array_table}
use Rattle.toml.specs.Text.{IsLineText}
use Rattle.definition_printer.specs.Partitions.{text_line, number_line, table_line}
use Rattle.definition_text.proofs.Quoted.{IsSimple, string_text-simple}

pub text_line-is : (key text : List ℕ) → key_text key ≡ key → IsSimple text → IsLineText false false ([], key) (key_value (string text)) (text_line key text)
unfolding text_line
text_line-is key text plain simple =
    (string_text text, rw (plain, string_text-simple text simple) (simp append_assoc refl), refl)

fits : (n : ℕ) → n < 2 ^ 32 → FitsSigned w64 (pos n)
fits n small =
    let half : n < 2 ^ 63 = omega arith in
    sfits_lit {w = w64} {z = pos n} (yes_ltb half)

pub number_line-is : (key : List ℕ) (number : ℕ) → key_text key ≡ key → number < 2 ^ 32 → IsLineText false false ([], key) (key_value (integer (pos number))) (number_line key number)
unfolding number_line
number_line-is key number plain small =
    (decimal number, rw plain (simp append_assoc refl), (refl, fits number small))

pub table_line-is : IsLineText false false ([], codes "partition") array_table table_line
unfolding table_line key_text
table_line-is = refl
