-- The schema of a database of one segment type R of 5 bytes, with the unique key K and the field V, and one partition.
use Rattle.std.specs.Prelude.{false, true, [], ◌∷◌, List, None, Some, codes, refl}
use Rattle.hal_schema.specs.declared.schema.Schema.{Schema}
use Rattle.hal_schema.specs.declared.schema.SegType.{SegType}
use Rattle.hal_schema.specs.declared.schema.PartDef.{PartDef}

abbrev pub first_types : List SegType
first_types =
    record {
      name = codes "R";
      parent = None;
      bytes = 5;
      key = Some (record { start = 1; bytes = 3; unique = true });
      first = false;
      letter = 65;
      fields = record { name = codes "K"; start = 1; bytes = 3 } ∷ record { name = codes "V"; start = 4; bytes = 2 } ∷ [];
    } ∷ []

-- no readable key is above the high key
abbrev pub first_parts : List PartDef
first_parts = record { name = codes "P1"; number = 1; high = codes "~~~"; anchors = 1; fbff = 0; fspf = 0 } ∷ []

abbrev pub first_schema : Schema
first_schema = record {
  name = codes "KDB";
  phdam = false;
  rm = None;
  anch = 1;
  rbn = 1;
  types = first_types;
  indexes = [];
  parts = first_parts;
  blocks = 40;
  parents = refl;
  type_names = refl;
  index_names = refl;
  part_names = refl;
  part_numbers = refl;
  field_names = refl;
  counts = refl;
  fields = refl;
  keys = refl;
  root_key = refl;
  letters = refl;
  kept_indexes = refl;
  highs = refl;
  kept_parts = refl;
  kept_blocks = refl;
  names = refl;
  module_kept = refl;
  stored_parts = refl;
}
