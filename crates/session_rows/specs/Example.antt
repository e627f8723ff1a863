-- A database of three levels with two records, and sessions that stand in it.
use Rattle.std.specs.Prelude.{ℕ, true, false, List, [], ◌∷◌, Option, None, Some, codes, refl}
use Rattle.hal_base.specs.declared.place.Ilk.{Ilk}
use Rattle.hal_schema.specs.declared.row.Row.{Row}
use Rattle.hal_schema.specs.declared.schema.PartDef.{PartDef}
use Rattle.hal_schema.specs.declared.schema.Schema.{Schema}
use Rattle.hal_schema.specs.declared.schema.SegType.{SegType}
use Rattle.position_state.specs.declared.session.Anchor.{Anchor}
use Rattle.position_state.specs.declared.session.Anchor.TheVariants.{At}
use Rattle.position_state.specs.declared.session.Session.{Session}
use Rattle.position_state.specs.declared.spot.Change.{Change}
use Rattle.position_state.specs.declared.spot.Change.TheVariants.{Insert, Replace, Delete}

-- R with the unique key K; below it C with a key that isn't unique, below C the unkeyed G, and U below R
abbrev pub three_types : List SegType
three_types =
    record {
      name = codes "R";
      parent = None;
      bytes = 5;
      key = Some (record { start = 1; bytes = 3; unique = true });
      first = false;
      letter = 65;
      fields = record { name = codes "K"; start = 1; bytes = 3 } ∷ [];
    }
    ∷ record {
      name = codes "C";
      parent = Some 1;
      bytes = 4;
      key = Some (record { start = 1; bytes = 2; unique = false });
      first = false;
      letter = 65;
      fields = record { name = codes "CK"; start = 1; bytes = 2 } ∷ [];
    }
    ∷ record { name = codes "G"; parent = Some 2; bytes = 2; key = None; first = false; letter = 66; fields = [] }
    ∷ record { name = codes "U"; parent = Some 1; bytes = 1; key = None; first = true; letter = 66; fields = [] } ∷ []

abbrev pub one_part : List PartDef
one_part = record { name = codes "P1"; number = 1; high = codes "999"; anchors = 1; fbff = 0; fspf = 0 } ∷ []

abbrev pub three_levels : Schema
three_levels = record {
  name = codes "KDB";
  phdam = false;
  rm = None;
  anch = 1;
  rbn = 1;
  types = three_types;
  indexes = [];
  parts = one_part;
  blocks = 40;
  parents = refl;
  type_names = refl;
  index_names = refl;
  part_names = refl;
  part_numbers = refl;
  field_names = refl;
  counts = refl;
  fields = refl;
  keys = refl;
  root_key = refl;
  letters = refl;
  kept_indexes = refl;
  highs = refl;
  kept_parts = refl;
  kept_blocks = refl;
  names = refl;
  module_kept = refl;
  stored_parts = refl;
}

abbrev pub name_at : ℕ → Ilk
name_at addr = record { addr = addr; part = 1; number = 1 }

abbrev pub row : ℕ → ℕ → Option Ilk → List ℕ → Row
row addr code parent content = record { name = name_at addr; code = code; parent = parent; content = content }

-- two C below the first root, a G below the first of them, and a U; behind them the second root
abbrev pub two_records : List Row
two_records =
    row 16 1 None (codes "001aa")
    ∷ row 32 2 (Some (name_at 16)) (codes "01xx")
    ∷ row 48 3 (Some (name_at 32)) (codes "g1")
    ∷ row 64 2 (Some (name_at 16)) (codes "01yy")
    ∷ row 80 4 (Some (name_at 16)) (codes "q")
    ∷ row 96 1 None (codes "002bb") ∷ []

-- the place of a row under a root
abbrev pub place : ℕ → List ℕ → Anchor
place addr root = At (name_at addr) root None

abbrev pub standing : Anchor → Option Anchor → Option Anchor → Session
standing at held parent = record { options = []; index = None; anchor = at; held = held; parent = parent }

abbrev pub deletion : ℕ → List ℕ → Change
deletion addr root = Delete (name_at addr) root

abbrev pub replacement : ℕ → List ℕ → List ℕ → Change
replacement addr root content = Replace (name_at addr) root content

-- a G behind the one that there is
abbrev pub insertion_of_g : Change
insertion_of_g = Insert (Some (name_at 32)) (codes "001") 3 (codes "g2")
