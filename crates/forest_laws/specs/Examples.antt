-- Forests that there are, so that no law has a condition that can't be met: the empty one, and one of three levels with two indexes.
use Rattle.std.specs.Prelude.{ℕ, Bool, true, false, ◌&&◌, [], ◌∷◌, List, None, Some, codes, fold, map, refl, ◌≡◌, IsTrue}
use Rattle.std.specs.List.{list_any}
use Rattle.hal_base.specs.declared.place.Ilk.{Ilk}
use Rattle.hal_schema.specs.declared.row.Row.{Row}
use Rattle.hal_schema.specs.declared.schema.IndexDef.{IndexDef}
use Rattle.hal_schema.specs.declared.schema.PartDef.{PartDef}
use Rattle.hal_schema.specs.declared.schema.Schema.{Schema}
use Rattle.hal_schema.specs.declared.schema.SegType.{SegType}
use Rattle.hal_schema.specs.Forest.{is_forest}
use Rattle.hal_schema.specs.Insertion.{inserted, may_be_inserted}
use Rattle.hal_schema.specs.Paths.{paths_of}
use Rattle.hal_schema.specs.Span.{without_span, replaced, may_be_replaced}
use Rattle.forest_laws.specs.Paths.{path_by_parents}
use Rattle.forest_laws.specs.Places.{IsByRule}
use Rattle.forest_laws.specs.Spans.{IsCut, LeavesAnchors}

abbrev pub EmptyIsForest : Type 0
EmptyIsForest = (schema : Schema) → IsTrue (is_forest schema [])

-- R with the unique key K, below it C whose twins may have equal keys and stand last, below C the unkeyed G whose twins stand first, and U below R
abbrev pub example_types : List SegType
example_types =
    record {
      name = codes "R";
      parent = None;
      bytes = 5;
      key = Some (record { start = 1; bytes = 3; unique = true });
      first = false;
      letter = 65;
      fields = record { name = codes "K"; start = 1; bytes = 3 } ∷ record { name = codes "V"; start = 4; bytes = 2 } ∷ [];
    }
    ∷ record {
      name = codes "C";
      parent = Some 1;
      bytes = 4;
      key = Some (record { start = 1; bytes = 2; unique = false });
      first = false;
      letter = 65;
      fields = record { name = codes "CK"; start = 1; bytes = 2 } ∷ [];
    }
    ∷ record {
      name = codes "G";
      parent = Some 2;
      bytes = 2;
      key = None;
      first = true;
      letter = 66;
      fields = record { name = codes "GV"; start = 1; bytes = 2 } ∷ record { name = codes "/CKP"; start = 1; bytes = 3 } ∷ [];
    }
    ∷ record { name = codes "U"; parent = Some 1; bytes = 1; key = None; first = false; letter = 66; fields = [] } ∷ []

-- one index finds R by V, the other C by G's field and the key of R
abbrev pub two_indexes : List IndexDef
two_indexes =
    record {
      seg = codes "VX";
      name = codes "VDB";
      xdfld = codes "XV";
      target = 1;
      source = 1;
      search = record { name = codes "V"; start = 4; bytes = 2 } ∷ [];
      subseq = [];
    }
    ∷ record {
      seg = codes "GX";
      name = codes "GDB";
      xdfld = codes "XG";
      target = 2;
      source = 3;
      search = record { name = codes "GV"; start = 1; bytes = 2 } ∷ [];
      subseq = record { name = codes "/CKP"; start = 1; bytes = 3 } ∷ [];
    } ∷ []

abbrev pub two_parts : List PartDef
two_parts =
    record { name = codes "P1"; number = 1; high = codes "500"; anchors = 1; fbff = 0; fspf = 0 }
    ∷ record { name = codes "P2"; number = 2; high = codes "999"; anchors = 1; fbff = 0; fspf = 0 } ∷ []

abbrev pub example_schema : Schema
example_schema = record {
  name = codes "EXDB";
  phdam = false;
  rm = None;
  anch = 1;
  rbn = 1;
  types = example_types;
  indexes = two_indexes;
  parts = two_parts;
  blocks = 40;
  parents = refl;
  type_names = refl;
  index_names = refl;
  part_names = refl;
  part_numbers = refl;
  field_names = refl;
  counts = refl;
  fields = refl;
  keys = refl;
  root_key = refl;
  letters = refl;
  kept_indexes = refl;
  highs = refl;
  kept_parts = refl;
  kept_blocks = refl;
  names = refl;
  module_kept = refl;
  stored_parts = refl;
}

abbrev pub name_at : ℕ → Ilk
name_at addr = record { addr = addr; part = 1; number = 1 }

abbrev pub root_row : ℕ → List ℕ → Row
root_row addr content = record { name = name_at addr; code = 1; parent = None; content = content }

abbrev pub child_row : ℕ → ℕ → ℕ → List ℕ → Row
child_row addr code above content = record { name = name_at addr; code = code; parent = Some (name_at above); content = content }

-- two roots, one with its children
abbrev pub r1 : Row
r1 = root_row 16 (codes "001aa")

abbrev pub r7 : Row
r7 = root_row 96 (codes "700bb")

abbrev pub cx : Row
cx = child_row 32 2 16 (codes "01xx")

abbrev pub cy : Row
cy = child_row 80 2 16 (codes "01yy")

abbrev pub g1 : Row
g1 = child_row 48 3 32 (codes "g1")

abbrev pub g2 : Row
g2 = child_row 64 3 32 (codes "g2")

abbrev pub u1 : Row
u1 = child_row 112 4 16 (codes "u")

abbrev pub example_rows : List Row
example_rows = r1 ∷ cx ∷ g2 ∷ g1 ∷ cy ∷ u1 ∷ r7 ∷ []

-- the rows as they came
abbrev pub rows_as_they_came : List Row
rows_as_they_came = r7 ∷ r1 ∷ cx ∷ g1 ∷ u1 ∷ g2 ∷ cy ∷ []

-- each of the rows may be inserted behind those before it
abbrev pub may_come : List Row → List Row → Bool
may_come rows [] = true
may_come rows (new ∷ more) = may_be_inserted example_schema rows new && may_come (inserted example_schema rows new) more

-- the lists are forests only where each part of the test holds: none of these is one
abbrev pub no_forests : List (List Row)
no_forests =
    -- two rows of a name
    (r1 ∷ root_row 16 (codes "700bb") ∷ [])
    -- a row of another length
    ∷ (root_row 16 (codes "001a") ∷ [])
    -- a child without its parent, below another root, and below a row that isn't of the parent type
    ∷ (cx ∷ [])
    ∷ (r1 ∷ r7 ∷ cx ∷ [])
    ∷ (r1 ∷ child_row 64 3 16 (codes "g2") ∷ [])
    -- a child of higher code before one of lower code
    ∷ (r1 ∷ u1 ∷ cx ∷ [])
    -- roots that fall, roots of one key, and twins that fall
    ∷ (r7 ∷ r1 ∷ [])
    ∷ (r7 ∷ root_row 16 (codes "700aa") ∷ [])
    ∷ (r1 ∷ child_row 80 2 16 (codes "02yy") ∷ cx ∷ [])
    -- a root above every high key
    ∷ (root_row 16 (codes "~~~aa") ∷ [])
    -- two entries of a key
    ∷ (r1 ∷ root_row 96 (codes "700aa") ∷ []) ∷ []

pub record IsExample : Type 0 where
  pub forest : is_forest example_schema example_rows ≡ true
  pub others : list_any (is_forest example_schema) no_forests ≡ false
  pub come : may_come [] rows_as_they_came ≡ true
  pub made : fold (inserted example_schema) [] rows_as_they_came ≡ example_rows
  pub cut : without_span example_types example_rows (name_at 32) ≡ r1 ∷ cy ∷ u1 ∷ r7 ∷ []
  pub may_change : may_be_replaced example_schema example_rows (name_at 96) (codes "700cc") ≡ true
  pub changed : replaced (r1 ∷ r7 ∷ []) (name_at 96) (codes "700cc") ≡ r1 ∷ root_row 96 (codes "700cc") ∷ []
  pub key_changed : may_be_replaced example_schema example_rows (name_at 96) (codes "800cc") ≡ false
  pub key_taken : may_be_replaced example_schema example_rows (name_at 96) (codes "700aa") ≡ false

-- what the laws say of the example: each of them at rows that meet its conditions
abbrev pub another_row : Row
another_row = child_row 128 2 96 (codes "05zz")

-- the first C, cut out with what is below it
abbrev pub first_cut : IsCut example_schema example_rows (name_at 32)
first_cut = record { front = r1 ∷ []; back = cy ∷ u1 ∷ r7 ∷ []; whole = refl; cut = refl }

pub record MeetsLaws : Type 0 where
  pub inserted_keeps : is_forest example_schema (inserted example_schema example_rows another_row) ≡ true
  pub cut_keeps : is_forest example_schema (without_span example_types example_rows (name_at 32)) ≡ true
  pub replaced_keeps : is_forest example_schema (replaced example_rows (name_at 96) (codes "700cc")) ≡ true
  pub by_rule : IsByRule example_schema example_rows another_row
  pub anchors : LeavesAnchors example_schema example_rows (name_at 32) first_cut
  pub by_parents : paths_of example_types example_rows ≡ map (λ row. (path_by_parents example_rows row, row)) example_rows
