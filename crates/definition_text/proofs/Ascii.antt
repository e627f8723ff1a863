-- The canonical partition file is ASCII.
use Rattle.std.proofs.Common.{◌≡◌, ℕ, zero, suc, ◌<◌, ◌^◌, Bool, true, nat_lt, List, [], ◌∷◌, ◌++◌, codes, decimal, IsAscii, refl, arith, flat_map}
use Rattle.std.proofs.lemmas.Bool.{and_parts, ltb-true}
use Rattle.std.proofs.lemmas.Bool.Decides.{nat_tests}
use Rattle.std.proofs.lemmas.Fmt.{IsAscii-decimal}
use Rattle.std.proofs.lemmas.Str.{IsAscii-append, IsUtf8-from_ascii, is_utf8-from_IsUtf8}
use Rattle.std.proofs.lemmas.Str.Ascii.{IsAscii-nil}
use Rattle.std.specs.List.{list_all, AllByRecursion}
use Rattle.std.specs.Str.{is_utf8}
use Rattle.hal_schema.specs.declared.schema.PartDef.{PartDef}
use Rattle.hal_schema.specs.declared.schema.Schema.{Schema}
use Rattle.definition_printer.specs.Partitions.{high_text, text_line, number_line, table_line, name_lines, space_lines, part_text, partitions_text}
use Rattle.definition_text.proofs.Printable.{IsPrintable, ArePrintable}
use Rattle.definition_text.proofs.Quoted.{is_simple, IsSimple}
use Rattle.definition_text.proofs.HighText.{all_imply, name_simple, high_simple}

abbrev is_small : ℕ → Bool
is_small b = nat_lt b 128

ascii_from : (s : List ℕ) → list_all is_small s ≡ true → IsAscii s
ascii_from [] h i = IsAscii-nil i
ascii_from (b ∷ s) h zero =
    let (here, more) = and_parts (is_small b) (list_all is_small s) h in
    ltb-true b 128 here
ascii_from (b ∷ s) h (suc i) =
    let (here, more) = and_parts (is_small b) (list_all is_small s) h in
    ascii_from s more i

simple_small : (b : ℕ) → is_simple b ≡ true → is_small b ≡ true
simple_small b h = grind (arith, nat_tests)

simple_ascii : (s : List ℕ) → IsSimple s → IsAscii s
simple_ascii s h = ascii_from s (all_imply is_simple is_small simple_small s h)

text_line-ascii : (key text : List ℕ) → IsAscii key → IsSimple text → IsAscii (text_line key text)
unfolding text_line
text_line-ascii key text k t =
    let opened : IsAscii (key ++ codes " = \"") = IsAscii-append key (codes " = \"") k (ascii_from (codes " = \"") refl) in
    IsAscii-append (key ++ codes " = \"" ++ text) (codes "\"\n") (IsAscii-append (key ++ codes " = \"") text opened (simple_ascii text t)) (ascii_from (codes "\"\n") refl)

number_line-ascii : (key : List ℕ) (number : ℕ) → IsAscii key → number < 2 ^ 32 → IsAscii (number_line key number)
unfolding number_line
number_line-ascii key number k small =
    let wide : number < 2 ^ 64 = omega arith in
    let opened : IsAscii (key ++ codes " = ") = IsAscii-append key (codes " = ") k (ascii_from (codes " = ") refl) in
    IsAscii-append (key ++ codes " = " ++ decimal number) (codes "\n") (IsAscii-append (key ++ codes " = ") (decimal number) opened (IsAscii-decimal number wide)) (ascii_from (codes "\n") refl)

table_line-ascii : IsAscii table_line
unfolding table_line
table_line-ascii = ascii_from (codes "[[partition]]\n") refl

part_ascii : (p : PartDef) → IsPrintable p → IsAscii (part_text p)
unfolding part_text
part_ascii p h =
    let name = text_line-ascii (codes "name") p.name (ascii_from (codes "name") refl) (name_simple p.name h.name) in
    let number = number_line-ascii (codes "number") p.number (ascii_from (codes "number") refl) h.number in
    let high = text_line-ascii (codes "high") (high_text p.high) (ascii_from (codes "high") refl) (high_simple p.high h.bytes) in
    let anchors = number_line-ascii (codes "anchors") p.anchors (ascii_from (codes "anchors") refl) h.anchors in
    let fbff = number_line-ascii (codes "fbff") p.fbff (ascii_from (codes "fbff") refl) h.fbff in
    let fspf = number_line-ascii (codes "fspf") p.fspf (ascii_from (codes "fspf") refl) h.fspf in
    IsAscii-append (table_line ++ name_lines p) (space_lines p)
    (IsAscii-append table_line (name_lines p) table_line-ascii (IsAscii-append (text_line (codes "name") p.name ++ number_line (codes "number") p.number) _ (IsAscii-append (text_line (codes "name") p.name) _ name number) high))
    (IsAscii-append (number_line (codes "anchors") p.anchors ++ number_line (codes "fbff") p.fbff) _ (IsAscii-append (number_line (codes "anchors") p.anchors) _ anchors fbff) fspf)

parts_ascii : (ps : List PartDef) → AllByRecursion IsPrintable ps → IsAscii (flat_map part_text ps)
parts_ascii [] h = IsAscii-nil
parts_ascii (p ∷ ps) h = IsAscii-append (part_text p) (flat_map part_text ps) (part_ascii p h.0) (parts_ascii ps h.1)

pub file_utf8 : (s : Schema) → ArePrintable s → is_utf8 (partitions_text s) ≡ true
unfolding partitions_text
file_utf8 s h =
    is_utf8-from_IsUtf8 _ (IsUtf8-from_ascii _ (IsAscii-append (number_line (codes "blocks") s.blocks) (flat_map part_text s.parts) (number_line-ascii (codes "blocks") s.blocks (ascii_from (codes "blocks") refl) h.0) (parts_ascii s.parts h.1)))
