-- What the tables of a partition file say. Of one table the rules are judged in their order: 22 for a key that is
-- absent, 23 for a value, 24 for a key that isn't known.
use Rattle.hal_base.specs.Reading.{◌>>=◌}
use Rattle.std.specs.Prelude.{ℕ, ◌+◌, ◌&&◌, ◌||◌, Bool, true, min, if◌then◌else◌, List, [], ◌∷◌, Option, Some, None, Result, Ok, Err, codes}
use Rattle.std.specs.Str.{bytes_eq}
use Rattle.toml.specs.Data.{Data, array, table, Items, no_items, item, Members, no_members, member, get_member}
use Rattle.toml.specs.Text.{are_tables}
use Rattle.hal_schema.specs.declared.raw.RawPart.{RawPart}
use Rattle.hal_schema.specs.declared.raw.RawParts.{RawParts}
use Rattle.hal_schema.specs.declared.text_fault.TextFault.{TextFault}
use Rattle.hal_schema.specs.declared.text_fault.TextFault.TheVariants.{Rule}
use Rattle.partition_reader.specs.Values.{needed, number_in, number_or_zero, optional_number, name_in, high_in}

abbrev pub all_keys : (List ℕ → Bool) → Members → Bool
all_keys test no_members = true
all_keys test (member key value more) = test key && all_keys test more

abbrev pub known : ℕ → (List ℕ → Bool) → Members → Result (Unit {0}) TextFault
known place test members = if all_keys test members then Ok tt else Err (Rule 24 place)

abbrev pub is_part_key : List ℕ → Bool
is_part_key key = bytes_eq key (codes "name") || bytes_eq key (codes "number") || bytes_eq key (codes "high") || bytes_eq key (codes "anchors") || bytes_eq key (codes "fbff") || bytes_eq key (codes "fspf")

-- the partition that a table says
unfoldable pub part_of : ℕ → Members → Result RawPart TextFault
part_of place members = do
  name_value ← needed place (codes "name") members
  number_value ← needed place (codes "number") members
  high_value ← needed place (codes "high") members
  name ← name_in place name_value
  number ← number_in place number_value
  high ← high_in place high_value
  anchors ← optional_number place (get_member (codes "anchors") members)
  fbff ← number_or_zero place (get_member (codes "fbff") members)
  fspf ← number_or_zero place (get_member (codes "fspf") members)
  _ ← known place is_part_key members
  Ok (record { name = name; number = number; high = high; anchors = anchors; fbff = fbff; fspf = fspf; place = place })

-- places count to the greatest number of 32 bits; a text that has fewer bytes than that has fewer tables
abbrev pub next_place : ℕ → ℕ
next_place place = min (place + 1) 4294967295

abbrev pub part_in : ℕ → Data → Result RawPart TextFault
part_in place (table members) = part_of place members
part_in place _ = Err (Rule 23 0)

-- the partitions of tables, whose first has this place
unfoldable pub parts_from : ℕ → Items → Result (List RawPart) TextFault
parts_from place no_items = Ok []
parts_from place (item value more) = do
  part ← part_in place value
  parts ← parts_from (next_place place) more
  Ok (part ∷ parts)

abbrev pub is_file_key : List ℕ → Bool
is_file_key key = bytes_eq key (codes "blocks") || bytes_eq key (codes "partition")

-- an array of tables, and none where the key is absent
abbrev pub tables_in : Option Data → Result Items TextFault
tables_in None = Ok no_items
tables_in (Some (array items)) = if are_tables items then Ok items else Err (Rule 23 0)
tables_in (Some _) = Err (Rule 23 0)

-- the table of the whole file, then those of the partitions in their order
unfoldable pub parts_of : Members → Result RawParts TextFault
parts_of members = do
  blocks_value ← needed 0 (codes "blocks") members
  blocks ← number_in 0 blocks_value
  tables ← tables_in (get_member (codes "partition") members)
  _ ← known 0 is_file_key members
  parts ← parts_from 1 tables
  Ok (record { blocks = blocks; parts = parts })
