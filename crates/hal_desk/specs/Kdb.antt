-- The schema of the sample database KDB: four segment types in three levels, and two partitions.
use Rattle.std.specs.Prelude.{ℕ, Bool, false, true, [], ◌∷◌, List, Option, None, Some, codes, refl}
use Rattle.std.specs.Option.{option_map}
use Rattle.hal_schema.specs.declared.schema.Field.{Field}
use Rattle.hal_schema.specs.declared.schema.Schema.{Schema}
use Rattle.hal_schema.specs.declared.schema.SegType.{SegType}
use Rattle.hal_schema.specs.declared.schema.PartDef.{PartDef}

abbrev pub field : List ℕ → ℕ → ℕ → Field
field name start bytes = record { name = name; start = start; bytes = bytes }

-- a type whose sequence field, if it has one, begins it
abbrev pub seg_type : List ℕ → Option ℕ → ℕ → Option (ℕ × Bool) → Bool → List Field → SegType
seg_type name parent bytes key first fields = record {
  name = name;
  parent = parent;
  bytes = bytes;
  key = option_map (λ (k : ℕ × Bool). record { start = 1; bytes = k.0; unique = k.1 }) key;
  first = first;
  letter = 65;
  fields = fields;
}

abbrev pub kdb_types : List SegType
kdb_types =
    seg_type (codes "R") None 5 (Some (3, true)) false (field (codes "K") 1 3 ∷ field (codes "V") 4 2 ∷ [])
    ∷ seg_type (codes "C") (Some 1) 4 (Some (2, false)) false (field (codes "CK") 1 2 ∷ [])
    ∷ seg_type (codes "G") (Some 2) 2 None false []
    ∷ seg_type (codes "U") (Some 1) 4 (Some (2, false)) true (field (codes "UK") 1 2 ∷ [])
    ∷ []

abbrev pub part : List ℕ → ℕ → List ℕ → PartDef
part name number high = record { name = name; number = number; high = high; anchors = 1; fbff = 0; fspf = 0 }

abbrev pub kdb_parts : List PartDef
kdb_parts = part (codes "P1") 1 (codes "500") ∷ part (codes "P2") 2 (codes "999") ∷ []

abbrev pub kdb : Schema
kdb = record {
  name = codes "KDB";
  phdam = false;
  rm = None;
  anch = 1;
  rbn = 1;
  types = kdb_types;
  indexes = [];
  parts = kdb_parts;
  blocks = 40;
  parents = refl;
  type_names = refl;
  index_names = refl;
  part_names = refl;
  part_numbers = refl;
  field_names = refl;
  counts = refl;
  fields = refl;
  keys = refl;
  root_key = refl;
  letters = refl;
  kept_indexes = refl;
  highs = refl;
  kept_parts = refl;
  kept_blocks = refl;
  names = refl;
  module_kept = refl;
  stored_parts = refl;
}
