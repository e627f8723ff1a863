-- Reorganizations on lists that there are: events one by one, with each refusal, of a PHIDAM and of a PHDAM database.
use Rattle.std.specs.Prelude.{◌≡◌, ℕ, false, true, List, [], ◌∷◌, map, Option, None, Some, codes, refl}
use Rattle.hal_base.specs.declared.place.Cursor.{Cursor}
use Rattle.hal_base.specs.declared.place.Cursor.TheVariants.{Front, At, Anchors}
use Rattle.hal_base.specs.declared.place.PartState.{PartState}
use Rattle.hal_schema.specs.declared.row.Row.{Row}
use Rattle.hal_schema.specs.declared.schema.PartDef.{PartDef}
use Rattle.hal_schema.specs.declared.schema.Schema.{Schema}
use Rattle.hal_schema.specs.declared.schema.SegType.{SegType}
use Rattle.hal_schema.specs.Forest.{is_forest}
use Rattle.volume_image.specs.Control.{state_fits}
use Rattle.call_text.specs.declared.line.Command.{Command}
use Rattle.call_text.specs.declared.line.Command.TheVariants.{Start, Step, Pause, Resume, Finish, Query}
use Rattle.call_text.specs.declared.reply.Reply.{Reply}
use Rattle.reorg_cursor.specs.Events.{refused_reply, plainly, state_reply, outcome_of}

-- R with the unique key K, and C below it
abbrev pub kdb_types : List SegType
kdb_types =
    record {
      name = codes "R";
      parent = None;
      bytes = 5;
      key = Some (record { start = 1; bytes = 3; unique = true });
      first = false;
      letter = 65;
      fields = record { name = codes "K"; start = 1; bytes = 3 } ∷ [];
    }
    ∷ record { name = codes "C"; parent = Some 1; bytes = 2; key = None; first = false; letter = 65; fields = [] } ∷ []

abbrev pub kdb_parts : List PartDef
kdb_parts =
    record { name = codes "P1"; number = 1; high = codes "500"; anchors = 1; fbff = 0; fspf = 0 }
    ∷ record { name = codes "P2"; number = 2; high = codes "999"; anchors = 1; fbff = 2; fspf = 0 } ∷ []

abbrev pub kdb : Schema
kdb = record {
  name = codes "KDB";
  phdam = false;
  rm = None;
  anch = 1;
  rbn = 1;
  types = kdb_types;
  indexes = [];
  parts = kdb_parts;
  blocks = 40;
  parents = refl;
  type_names = refl;
  index_names = refl;
  part_names = refl;
  part_numbers = refl;
  field_names = refl;
  counts = refl;
  fields = refl;
  keys = refl;
  root_key = refl;
  letters = refl;
  kept_indexes = refl;
  highs = refl;
  kept_parts = refl;
  kept_blocks = refl;
  names = refl;
  module_kept = refl;
  stored_parts = refl;
}

-- one root type, whose records go to four root anchors
abbrev pub hdb : Schema
hdb = record {
  name = codes "HDB";
  phdam = true;
  rm = Some (codes "DFSHDC40");
  anch = 2;
  rbn = 2;
  types = record {
    name = codes "R";
    parent = None;
    bytes = 3;
    key = Some (record { start = 1; bytes = 3; unique = true });
    first = false;
    letter = 65;
    fields = record { name = codes "K"; start = 1; bytes = 3 } ∷ [];
  } ∷ [];
  indexes = [];
  parts = record { name = codes "P1"; number = 1; high = codes "ZZZ"; anchors = 4; fbff = 0; fspf = 0 } ∷ [];
  blocks = 40;
  parents = refl;
  type_names = refl;
  index_names = refl;
  part_names = refl;
  part_numbers = refl;
  field_names = refl;
  counts = refl;
  fields = refl;
  keys = refl;
  root_key = refl;
  letters = refl;
  kept_indexes = refl;
  highs = refl;
  kept_parts = refl;
  kept_blocks = refl;
  names = refl;
  module_kept = refl;
  stored_parts = refl;
}

abbrev pub root_at : ℕ → List ℕ → Row
root_at addr content = record { name = record { addr = addr; part = 1; number = 1 }; code = 1; parent = None; content = content }

-- the root of key 100 with a C below it, and the root of key 200
abbrev pub two_records : List Row
two_records =
    root_at 16 (codes "100aa")
    ∷ record { name = record { addr = 48; part = 1; number = 1 }; code = 2; parent = Some (record { addr = 16; part = 1; number = 1 }); content = codes "xx" }
    ∷ root_at 80 (codes "200bb") ∷ []

-- seventeen roots, of the keys 0AA to 0QA
abbrev pub seventeen : List Row
seventeen = map (λ b. root_at b (48 ∷ b ∷ codes "Aaa")) (65 ∷ 66 ∷ 67 ∷ 68 ∷ 69 ∷ 70 ∷ 71 ∷ 72 ∷ 73 ∷ 74 ∷ 75 ∷ 76 ∷ 77 ∷ 78 ∷ 79 ∷ 80 ∷ 81 ∷ [])

-- roots of the anchors 0, 1, 2 and 2; anchor 3 has none
abbrev pub four_records : List Row
four_records = root_at 16 (codes "AAD") ∷ root_at 32 (codes "AAA") ∷ root_at 48 (codes "AAB") ∷ root_at 64 (codes "BAA") ∷ []

abbrev pub state_of : ℕ → ℕ → ℕ → ℕ → Cursor → PartState
state_of part number side state cursor = record { part = part; number = number; side = side; state = state; cursor = cursor }

-- idle, with number 1 and side `A`
abbrev pub new_state : ℕ → PartState
new_state part = state_of part 1 65 73 Front

-- the replies of commands one after another, each asked with so many blocks free
abbrev pub replies_of : Schema → List Row → List PartState → List (ℕ × List ℕ × Command) → List (Option Reply)
replies_of schema rows states [] = []
replies_of schema rows states (asked ∷ more) =
    (outcome_of schema rows states asked.0 asked.1 asked.2).reply ∷ replies_of schema rows (outcome_of schema rows states asked.0 asked.1 asked.2).states more

-- a reply that shows P1
abbrev pub shows : ℕ → ℕ → ℕ → Cursor → Option Reply
shows number side state cursor = Some (state_reply (codes "P1") (state_of 1 number side state cursor))

-- a refusal by its digit
abbrev pub says : ℕ → Option Reply
says code = Some (refused_reply (plainly code))

-- a refusal for want of free blocks
abbrev pub wants : ℕ → Option Reply
wants need = Some (refused_reply (record { code = 6; need = Some need }))

abbrev pub p1 : Command → ℕ × List ℕ × Command
p1 command = (40, codes "P1", command)

abbrev pub p2 : Command → ℕ × List ℕ × Command
p2 command = (40, codes "P2", command)

pub record AreExamples : Type 0 where
  pub forests : (is_forest kdb two_records ≡ true) × (is_forest kdb seventeen ≡ true) × (is_forest hdb four_records ≡ true)
  pub fit : (state_fits kdb 0 (new_state 1) ≡ true)
      × (state_fits kdb 0 (state_of 1 1 65 67 (At (codes "200"))) ≡ true) × (state_fits hdb 0 (state_of 1 2 77 67 (Anchors 3)) ≡ true)
  -- a step of more groups than are left takes those, and one with none left changes nothing
  pub steps : replies_of kdb two_records (new_state 1 ∷ new_state 2 ∷ []) (p1 Start ∷ p1 (Step 1000) ∷ p1 (Step 1) ∷ p1 Query ∷ [])
      ≡ shows 1 65 67 Front ∷ shows 1 65 67 (At (codes "200")) ∷ shows 1 65 67 (At (codes "200")) ∷ shows 1 65 67 (At (codes "200")) ∷ []
  -- a record with two segments reserves three blocks
  pub wanting : replies_of kdb two_records (new_state 1 ∷ new_state 2 ∷ [])
      (p1 Start ∷ (2, codes "P1", Step 1) ∷ (3, codes "P1", Step 1) ∷ (1, codes "P1", Finish) ∷ [])
      ≡ shows 1 65 67 Front ∷ wants 3 ∷ shows 1 65 67 (At (codes "100")) ∷ wants 2 ∷ []
  -- each refusal by the state: of an idle partition, and of none
  pub idle : replies_of kdb two_records (new_state 1 ∷ new_state 2 ∷ []) ((40, codes "P9", Start) ∷ p1 (Step 1) ∷ p1 Pause ∷ p1 Resume ∷ p1 Finish ∷ [])
      ≡ says 1 ∷ says 3 ∷ says 3 ∷ says 3 ∷ says 3 ∷ []
  -- of an active one, and of a paused one
  pub active : replies_of kdb two_records (new_state 1 ∷ new_state 2 ∷ []) (p1 Start ∷ p1 Start ∷ p1 Resume ∷ p2 Pause ∷ [])
      ≡ shows 1 65 67 Front ∷ says 2 ∷ says 2 ∷ says 3 ∷ []
  pub paused : replies_of kdb two_records (new_state 1 ∷ new_state 2 ∷ [])
      (p1 Start ∷ p1 Pause ∷ p1 Pause ∷ p1 (Step 1) ∷ p1 Finish ∷ p1 Start ∷ p1 Resume ∷ [])
      ≡ shows 1 65 67 Front ∷ shows 1 65 80 Front ∷ says 4 ∷ says 4 ∷ says 4 ∷ says 2 ∷ shows 1 65 67 Front ∷ []
  pub last_number : replies_of kdb two_records (state_of 1 65535 65 73 Front ∷ new_state 2 ∷ []) (p1 Start ∷ []) ≡ says 5 ∷ []
  -- seventeen records are a unit of sixteen, a unit of one, and the switch
  pub finish : replies_of kdb seventeen (new_state 1 ∷ new_state 2 ∷ []) (p1 Start ∷ p1 Finish ∷ p1 Query ∷ p1 Finish ∷ p1 Query ∷ p1 Finish ∷ [])
      ≡ shows 1 65 67 Front ∷ None ∷ shows 1 65 67 (At (codes "0PA")) ∷ None ∷ shows 1 65 67 (At (codes "0QA")) ∷ shows 2 77 73 Front ∷ []
  -- groups by anchors
  pub anchors : replies_of hdb four_records (state_of 1 2 77 73 Front ∷ []) (p1 Start ∷ p1 (Step 1) ∷ p1 (Step 2) ∷ p1 (Step 1) ∷ p1 Finish ∷ [])
      ≡ shows 2 77 67 Front ∷ shows 2 77 67 (Anchors 1) ∷ shows 2 77 67 (Anchors 3) ∷ shows 2 77 67 (Anchors 3) ∷ shows 3 65 73 Front ∷ []
  -- the records of an anchor are one group: with two of them a unit of one group reserves for both
  pub one_anchor : replies_of hdb four_records (state_of 1 2 77 67 (Anchors 2) ∷ []) ((3, codes "P1", Step 1) ∷ (4, codes "P1", Step 1) ∷ [])
      ≡ wants 4 ∷ shows 2 77 67 (Anchors 3) ∷ []
