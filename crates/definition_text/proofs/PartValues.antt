-- What the tables of the canonical partition file say.
use Rattle.std.proofs.Common.{◌≡◌, ℕ, ◌<◌, ◌^◌, true, pos, List, [], ◌∷◌, codes, Ok, refl}
use Rattle.std.proofs.lemmas.Bool.{lt-ltb}
use Rattle.std.specs.List.{AllByRecursion}
use Rattle.toml.specs.Data.{string, integer, array, table, Items, no_items, item, Members, no_members, member}
use Rattle.toml.specs.Text.{are_tables}
use Rattle.hal_base.specs.Name.{is_name}
use Rattle.hal_schema.specs.declared.schema.PartDef.{PartDef}
use Rattle.hal_schema.specs.declared.schema.Schema.{Schema}
use Rattle.definition_printer.specs.Partitions.{high_text}
use Rattle.partition_reader.specs.Values.{number_in, name_in, high_in}
use Rattle.partition_reader.specs.Tables.{next_place, part_of, parts_from, parts_of}
use Rattle.definition_text.specs.Raw.{raw_part, raw_parts_from, raw_parts_of}
use Rattle.definition_text.proofs.Printable.{IsPrintable, ArePrintable}
use Rattle.definition_text.proofs.HighText.{name_upper, high_back}

-- the table of a partition, its keys in the order of their bytes
abbrev pub part_members : PartDef → Members
part_members p =
    member (codes "anchors") (integer (pos p.anchors)) (member (codes "fbff") (integer (pos p.fbff)) (member (codes "fspf") (integer (pos p.fspf))
    (member (codes "high") (string (high_text p.high)) (member (codes "name") (string p.name) (member (codes "number") (integer (pos p.number)) no_members)))))

abbrev pub items_of : List PartDef → Items
items_of [] = no_items
items_of (p ∷ ps) = item (table (part_members p)) (items_of ps)

abbrev pub members_of : ℕ → List PartDef → Members
members_of blocks [] = member (codes "blocks") (integer (pos blocks)) no_members
members_of blocks (p ∷ ps) = member (codes "blocks") (integer (pos blocks)) (member (codes "partition") (array (items_of (p ∷ ps))) no_members)

number_back : (place n : ℕ) → n < 2 ^ 32 → number_in place (integer (pos n)) ≡ Ok n
unfolding number_in
number_back place n small = rw (lt-ltb n 4294967296 small) refl

name_back : (place : ℕ) (name : List ℕ) → is_name name ≡ true → name_in place (string name) ≡ Ok name
unfolding name_in
name_back place name h = rw (name_upper name h, h) refl

part_back : (place : ℕ) (p : PartDef) → IsPrintable p → part_of place (part_members p) ≡ Ok (raw_part place p)
unfolding part_of high_in
part_back place p h =
    rw (name_back place p.name h.name, number_back place p.number h.number, high_back place p.high h.bytes h.some, number_back place p.anchors h.anchors, number_back place p.fbff h.fbff, number_back place p.fspf h.fspf) refl

items_back : (place : ℕ) (ps : List PartDef) → AllByRecursion IsPrintable ps → parts_from place (items_of ps) ≡ Ok (raw_parts_from place ps)
unfolding parts_from
items_back place [] h = refl
items_back place (p ∷ ps) h = rw (part_back place p h.0, items_back (next_place place) ps h.1) refl

tables_all : (ps : List PartDef) → are_tables (items_of ps) ≡ true
tables_all [] = refl
tables_all (p ∷ ps) = tables_all ps

members_back : (blocks : ℕ) (ps : List PartDef) → blocks < 2 ^ 32 → AllByRecursion IsPrintable ps → parts_of (members_of blocks ps) ≡ Ok (record { blocks = blocks; parts = raw_parts_from 1 ps })
unfolding parts_of parts_from
members_back blocks [] small h = rw (number_back 0 blocks small) refl
members_back blocks (p ∷ ps) small h = rw (number_back 0 blocks small, tables_all ps, items_back 1 (p ∷ ps) h) refl

pub file_back : (s : Schema) → ArePrintable s → parts_of (members_of s.blocks s.parts) ≡ Ok (raw_parts_of s)
file_back s h = members_back s.blocks s.parts h.0 h.1
