-- The document that the lines of the canonical partition file make.
use Rattle.std.proofs.Common.{◌≡◌, ℕ, suc, ◌<◌, ◌^◌, pos, List, [], ◌∷◌, ◌++◌, length, codes, flat_map, Some, refl, sym, ap, ◌∙◌, arith}
use Rattle.std.specs.List.{AllByRecursion}
use Rattle.toml_writer.specs.Text.{key_text}
use Rattle.toml.specs.Data.{Data, string, integer, array, table, Items, no_items, item, Members, no_members, member, push_item}
use Rattle.toml.specs.Tables.{value, open_array, Nodes, no_nodes, node, close, Document, Expression, key_value, array_table, at_key, along_dots, along_header, define}
use Rattle.toml.specs.Parse.{skip_bom, parse_document}
use Rattle.toml.proofs.Turns.{document_some}
use Rattle.toml.proofs.ReadLines.{run, AllPrinted}
use Rattle.toml.proofs.ReadValues.{item_join, item_join-none, item_join-push}
use Rattle.hal_schema.specs.declared.schema.PartDef.{PartDef}
use Rattle.hal_schema.specs.declared.schema.Schema.{Schema}
use Rattle.definition_printer.specs.Partitions.{high_text, text_line, number_line, table_line, name_lines, space_lines, part_text, partitions_text}
use Rattle.definition_text.proofs.Printable.{IsPrintable, ArePrintable}
use Rattle.definition_text.proofs.HighText.{name_simple, high_simple}
use Rattle.definition_text.proofs.LineTexts.{text_line-is, number_line-is, table_line-is}
use Rattle.definition_text.proofs.PartValues.{part_members, items_of, members_of}
use Rattle.definition_text.proofs.ReadText.{WritesLines, one_line, more_lines, printed_append, read_text}

abbrev number_pair : List ℕ → ℕ → Expression
number_pair key number = (([], key), key_value (integer (pos number)))

abbrev text_pair : List ℕ → List ℕ → Expression
text_pair key text = (([], key), key_value (string text))

abbrev header_line : Expression
header_line = (([], codes "partition"), array_table)

abbrev name_pairs : PartDef → List Expression
name_pairs p = text_pair (codes "name") p.name ∷ number_pair (codes "number") p.number ∷ text_pair (codes "high") (high_text p.high) ∷ []

abbrev space_pairs : PartDef → List Expression
space_pairs p = number_pair (codes "anchors") p.anchors ∷ number_pair (codes "fbff") p.fbff ∷ number_pair (codes "fspf") p.fspf ∷ []

abbrev part_lines : PartDef → List Expression
part_lines p = header_line ∷ (name_pairs p ++ space_pairs p)

abbrev file_lines : Schema → List Expression
file_lines s = number_pair (codes "blocks") s.blocks ∷ flat_map part_lines s.parts

number_written : (key : List ℕ) (number : ℕ) → key_text key ≡ key → number < 2 ^ 32 → WritesLines (number_pair key number ∷ []) (number_line key number)
number_written key number plain small = one_line (number_pair key number) (number_line key number) (number_line-is key number plain small)

part_written : (p : PartDef) → IsPrintable p → WritesLines (part_lines p) (part_text p)
unfolding part_text key_text
part_written p h =
    let name = one_line (text_pair (codes "name") p.name) (text_line (codes "name") p.name) (text_line-is (codes "name") p.name refl (name_simple p.name h.name)) in
    let number = number_written (codes "number") p.number refl h.number in
    let high = one_line (text_pair (codes "high") (high_text p.high)) (text_line (codes "high") (high_text p.high)) (text_line-is (codes "high") (high_text p.high) refl (high_simple p.high h.bytes)) in
    let anchors = number_written (codes "anchors") p.anchors refl h.anchors in
    let fbff = number_written (codes "fbff") p.fbff refl h.fbff in
    let fspf = number_written (codes "fspf") p.fspf refl h.fspf in
    let one : Expression = text_pair (codes "name") p.name in
    let two : Expression = number_pair (codes "number") p.number in
    let three : Expression = text_pair (codes "high") (high_text p.high) in
    let four : Expression = number_pair (codes "anchors") p.anchors in
    let five : Expression = number_pair (codes "fbff") p.fbff in
    let six : Expression = number_pair (codes "fspf") p.fspf in
    let front = more_lines (one ∷ []) (two ∷ []) (text_line (codes "name") p.name) (number_line (codes "number") p.number) name number in
    let names : WritesLines (name_pairs p) (name_lines p) = more_lines (one ∷ two ∷ []) (three ∷ []) (text_line (codes "name") p.name ++ number_line (codes "number") p.number) (text_line (codes "high") (high_text p.high)) front high in
    let back = more_lines (four ∷ []) (five ∷ []) (number_line (codes "anchors") p.anchors) (number_line (codes "fbff") p.fbff) anchors fbff in
    let spaces : WritesLines (space_pairs p) (space_lines p) = more_lines (four ∷ five ∷ []) (six ∷ []) (number_line (codes "anchors") p.anchors ++ number_line (codes "fbff") p.fbff) (number_line (codes "fspf") p.fspf) back fspf in
    more_lines (header_line ∷ name_pairs p) (space_pairs p) (table_line ++ name_lines p) (space_lines p) (more_lines (header_line ∷ []) (name_pairs p) table_line (name_lines p) (one_line header_line table_line table_line-is) names) spaces

parts_written : (ps : List PartDef) → AllByRecursion IsPrintable ps → WritesLines (flat_map part_lines ps) (flat_map part_text ps)
parts_written [] h = refl
parts_written (p ∷ ps) h = more_lines (part_lines p) (flat_map part_lines ps) (part_text p) (flat_map part_text ps) (part_written p h.0) (parts_written ps h.1)

file_written : (s : Schema) → ArePrintable s → WritesLines (file_lines s) (partitions_text s)
unfolding partitions_text key_text
file_written s h = more_lines (number_pair (codes "blocks") s.blocks ∷ []) (flat_map part_lines s.parts) (number_line (codes "blocks") s.blocks) (flat_map part_text s.parts) (number_written (codes "blocks") s.blocks refl h.0) (parts_written s.parts h.1)

part_printed : (p : PartDef) → AllPrinted (part_lines p)
part_printed p =
    (omega arith, ((refl, omega arith, refl), ((refl, omega arith, refl), ((refl, omega arith, refl), ((refl, omega arith, refl), ((refl, omega arith, refl), ((refl, omega arith, refl), tt)))))))

parts_printed : (ps : List PartDef) → AllPrinted (flat_map part_lines ps)
parts_printed [] = tt
parts_printed (p ∷ ps) = printed_append (part_lines p) (flat_map part_lines ps) (part_printed p) (parts_printed ps)

-- ---- the document

abbrev part_nodes : PartDef → Nodes
part_nodes p =
    node (codes "anchors") (value (integer (pos p.anchors))) (node (codes "fbff") (value (integer (pos p.fbff))) (node (codes "fspf") (value (integer (pos p.fspf)))
    (node (codes "high") (value (string (high_text p.high))) (node (codes "name") (value (string p.name)) (node (codes "number") (value (integer (pos p.number))) no_nodes)))))

-- the document with the blocks, and with the partitions done and the last one
abbrev with_blocks : ℕ → Nodes → Nodes
with_blocks blocks more = node (codes "blocks") (value (integer (pos blocks))) more

abbrev with_parts : ℕ → Items → Nodes → Nodes
with_parts blocks done last = with_blocks blocks (node (codes "partition") (open_array done last) no_nodes)

abbrev in_part : List (List ℕ)
in_part = codes "partition" ∷ []

blocks_run : (blocks : ℕ) (es : List Expression) → run (no_nodes, []) (number_pair (codes "blocks") blocks ∷ es) ≡ run (with_blocks blocks no_nodes, []) es
unfolding define at_key along_dots along_header
blocks_run blocks es = refl

first_run : (blocks : ℕ) (p : PartDef) (path : List (List ℕ)) (es : List Expression) → run (with_blocks blocks no_nodes, path) (part_lines p ++ es) ≡ run (with_parts blocks no_items (part_nodes p), in_part) es
unfolding define at_key along_dots along_header
first_run blocks p path es = refl

next_run : (blocks : ℕ) (done : Items) (last : Nodes) (p : PartDef) (path : List (List ℕ)) (es : List Expression)
    → run (with_parts blocks done last, path) (part_lines p ++ es) ≡ run (with_parts blocks (push_item done (table (close last))) (part_nodes p), in_part) es
unfolding define at_key along_dots along_header
next_run blocks done last p path es = refl

abbrev in_file : ℕ → Items → Members
in_file blocks items = member (codes "blocks") (integer (pos blocks)) (member (codes "partition") (array items) no_members)

last_joins : (done : Items) (d : Data) → push_item done d ≡ item_join done (item d no_items)
last_joins done d = sym (item_join-none (push_item done d)) ∙ item_join-push done d no_items

parts_run : (blocks : ℕ) (done : Items) (last : PartDef) (path : List (List ℕ)) (ps : List PartDef)
    → (doc : Document) × (run (with_parts blocks done (part_nodes last), path) (flat_map part_lines ps) ≡ Some doc) × (close doc.0 ≡ in_file blocks (item_join done (items_of (last ∷ ps))))
parts_run blocks done last path [] = ((with_parts blocks done (part_nodes last), path), refl, ap (in_file blocks) (last_joins done (table (part_members last))))
parts_run blocks done last path (p ∷ ps) =
    let (doc, ran, closed) = parts_run blocks (push_item done (table (part_members last))) p in_part ps in
    (doc, next_run blocks done (part_nodes last) p path (flat_map part_lines ps) ∙ ran, closed ∙ ap (in_file blocks) (item_join-push done (table (part_members last)) (items_of (p ∷ ps))))

file_run : (blocks : ℕ) (ps : List PartDef) → (doc : Document) × (run (no_nodes, []) (number_pair (codes "blocks") blocks ∷ flat_map part_lines ps) ≡ Some doc) × (close doc.0 ≡ members_of blocks ps)
file_run blocks [] = ((with_blocks blocks no_nodes, []), blocks_run blocks [], refl)
file_run blocks (p ∷ ps) =
    let (doc, ran, closed) = parts_run blocks no_items p in_part ps in
    (doc, blocks_run blocks (flat_map part_lines (p ∷ ps)) ∙ first_run blocks p [] (flat_map part_lines ps) ∙ ran, closed)

no_mark : (s : Schema) → skip_bom (partitions_text s) ≡ partitions_text s
unfolding skip_bom partitions_text number_line
no_mark s = refl

file_printed : (s : Schema) → AllPrinted (file_lines s)
file_printed s = ((refl, omega arith, refl), parts_printed s.parts)

pub file_parsed : (s : Schema) → ArePrintable s → parse_document (partitions_text s) ≡ Some (members_of s.blocks s.parts)
file_parsed s h =
    let text = partitions_text s in
    let read = read_text (file_lines s) text text (no_nodes, []) (suc (length text)) (file_written s h) (file_printed s) refl (omega arith) in
    let (doc, ran, closed) = file_run s.blocks s.parts in
    document_some text doc (rw (no_mark s) (read ∙ ran)) ∙ ap (λ (ms : Members). Some ms) closed
