-- Scripts of REORG lines that there are, and all that is said of each.
use Rattle.std.specs.Prelude.{◌≡◌, ℕ, true, false, List, [], ◌∷◌, ◌++◌, codes, flat_map, length, refl, Some}
use Rattle.hal_base.specs.declared.place.Cursor.TheVariants.{Front, At}
use Rattle.hal_base.specs.declared.place.PartState.{PartState}
use Rattle.hal_schema.specs.declared.row.Row.{Row}
use Rattle.hal_schema.specs.declared.schema.Schema.{Schema}
use Rattle.hal_schema.specs.Forest.{is_forest}
use Rattle.forest_laws.specs.Examples.{example_schema, example_rows}
use Rattle.script_runs.specs.Language.{Step, state_after}
use Rattle.reorg_cursor.specs.Examples.{kdb, kdb_parts, hdb, root_at, two_records, seventeen, four_records, state_of, new_state}
use Rattle.reorg_cursor.specs.Lines.{Holder}
use Rattle.reorg_cursor.specs.Taking.{steps_of, script_text}

-- a list with the states of its partitions
abbrev pub Kept : Type 0
Kept = List Row × List PartState

abbrev pub kept : Holder Kept
kept = record { forest = λ s. s.0; states = λ s. s.1; with_states = λ states s. (s.0, states) }

-- lines with their ends
abbrev pub ended : List (List ℕ) → List ℕ
ended lines = flat_map (λ line. line ++ 10 ∷ []) lines

-- what is said of lines from number n on, each asked with so many blocks free, in at most ninety events
abbrev pub said_from : ℕ → ℕ → Schema → List Row → List PartState → List (List ℕ) → List ℕ
said_from n free schema rows states lines = script_text true schema kept free 90 n lines (rows, states)

abbrev pub said : ℕ → Schema → List Row → List PartState → List (List ℕ) → List ℕ
said free schema rows states lines = said_from 1 free schema rows states lines

-- where REORG lines aren't built yet
abbrev pub steps_unbuilt : List PartState → List (List ℕ) → List (Step Kept)
steps_unbuilt states lines = steps_of false kdb kept 40 90 1 lines (two_records, states)

abbrev pub idle : List PartState
idle = new_state 1 ∷ new_state 2 ∷ []

-- P1 of KDB, by its state and cursor
abbrev pub standing : ℕ → List PartState
standing state = state_of 1 1 65 state (At (codes "100")) ∷ new_state 2 ∷ []

-- the example of forests with two indexes, where the second partition leaves every second block empty
abbrev pub spaced_schema : Schema
spaced_schema = record example_schema {
  parts = kdb_parts;
  part_names = refl;
  part_numbers = refl;
  highs = refl;
  kept_parts = refl;
  stored_parts = refl;
}

-- two records of the second partition's keys: that of 600 has a C below it
abbrev pub second_records : List Row
second_records =
    root_at 16 (codes "600aa")
    ∷ record { name = record { addr = 48; part = 1; number = 1 }; code = 2; parent = Some (record { addr = 16; part = 1; number = 1 }); content = codes "xx" }
    ∷ root_at 80 (codes "700bb") ∷ []

pub record AreScripts : Type 0 where
  -- a step of more groups than there are takes these, and one with none left takes none
  pub steps : said 40 kdb two_records idle (codes "REORG START P1" ∷ codes "REORG STEP P1 1000" ∷ codes "REORG STEP P1 1"
      ∷ codes "REORG QUERY P1" ∷ [])
      ≡ ended (codes "1 -- P1 1 A ACTIVE -" ∷ codes "2 -- P1 1 A ACTIVE '200'" ∷ codes "3 -- P1 1 A ACTIVE '200'"
      ∷ codes "4 -- P1 1 A ACTIVE '200'" ∷ [])
  -- small letters, blanks and notes
  pub spelling : said 40 kdb two_records idle (codes "  reorg start p1 " ∷ codes "* a note" ∷ codes "" ∷ codes "Reorg  Step  p1  01" ∷ [])
      ≡ ended (codes "1 -- P1 1 A ACTIVE -" ∷ codes "4 -- P1 1 A ACTIVE '100'" ∷ [])
  -- a paused partition takes no step, and goes on where it stood; FINISH has one reply, that of the switch
  pub pausing : said_from 5 40 kdb two_records idle (codes "REORG START P1" ∷ codes "REORG STEP P1 1" ∷ codes "REORG PAUSE P1"
      ∷ codes "REORG STEP P1 1" ∷ codes "REORG RESUME P1" ∷ codes "REORG FINISH P1" ∷ codes "REORG QUERY P1" ∷ [])
      ≡ ended (codes "5 -- P1 1 A ACTIVE -" ∷ codes "6 -- P1 1 A ACTIVE '100'" ∷ codes "7 -- P1 1 A PAUSED '100'" ∷ codes "8 +4"
      ∷ codes "9 -- P1 1 A ACTIVE '100'" ∷ codes "10 -- P1 2 M IDLE -" ∷ codes "11 -- P1 2 M IDLE -" ∷ [])
  -- with one block free a record of one segment isn't copied
  pub room : said 1 kdb (root_at 16 (codes "100aa") ∷ []) idle (codes "REORG START P1" ∷ codes "REORG STEP P1 1" ∷ codes "REORG START P9"
      ∷ codes "REORG START P1" ∷ codes "REORG STEP P2 1" ∷ [])
      ≡ ended (codes "1 -- P1 1 A ACTIVE -" ∷ codes "2 +6 2" ∷ codes "3 +1" ∷ codes "4 +2" ∷ codes "5 +3" ∷ [])
  -- the refusals of an idle partition, of an active one, of a paused one, and of one with the last number; each comes before want of blocks
  pub idle_refuses : said 0 kdb two_records idle (codes "REORG STEP P1 1" ∷ codes "REORG PAUSE P1" ∷ codes "REORG RESUME P1" ∷ codes "REORG FINISH P1"
      ∷ codes "REORG QUERY P9" ∷ [])
      ≡ ended (codes "1 +3" ∷ codes "2 +3" ∷ codes "3 +3" ∷ codes "4 +3" ∷ codes "5 +1" ∷ [])
  pub active_refuses : said 0 kdb two_records (standing 67) (codes "REORG START P1" ∷ codes "REORG RESUME P1" ∷ codes "REORG STEP P1 1"
      ∷ codes "REORG FINISH P1" ∷ codes "REORG QUERY P1" ∷ [])
      ≡ ended (codes "1 +2" ∷ codes "2 +2" ∷ codes "3 +6 2" ∷ codes "4 +6 2" ∷ codes "5 -- P1 1 A ACTIVE '100'" ∷ [])
  pub paused_refuses : said 0 kdb two_records (standing 80) (codes "REORG START P1" ∷ codes "REORG STEP P1 1" ∷ codes "REORG PAUSE P1"
      ∷ codes "REORG FINISH P1" ∷ codes "REORG QUERY P1" ∷ [])
      ≡ ended (codes "1 +2" ∷ codes "2 +4" ∷ codes "3 +4" ∷ codes "4 +4" ∷ codes "5 -- P1 1 A PAUSED '100'" ∷ [])
  pub last_number : said 40 kdb two_records (state_of 1 65535 65 73 Front ∷ new_state 2 ∷ []) (codes "REORG START P1" ∷ codes "REORG QUERY P1" ∷ [])
      ≡ ended (codes "1 +5" ∷ codes "2 -- P1 65535 A IDLE -" ∷ [])
  pub last_but_one : said 40 kdb two_records (state_of 1 65534 77 73 Front ∷ new_state 2 ∷ []) (codes "REORG START P1" ∷ codes "REORG FINISH P1"
      ∷ codes "REORG START P1" ∷ [])
      ≡ ended (codes "1 -- P1 65534 M ACTIVE -" ∷ codes "2 -- P1 65535 A IDLE -" ∷ codes "3 +5" ∷ [])
  -- by anchors (PHDAM): anchor 3 has no records
  pub anchors : said_from 12 40 hdb four_records (state_of 1 2 77 73 Front ∷ []) (codes "REORG START P1" ∷ codes "REORG STEP P1 1"
      ∷ codes "REORG STEP P1 2" ∷ codes "REORG STEP P1 1" ∷ codes "REORG FINISH P1" ∷ [])
      ≡ ended (codes "12 -- P1 2 M ACTIVE -" ∷ codes "13 -- P1 2 M ACTIVE 1" ∷ codes "14 -- P1 2 M ACTIVE 3" ∷ codes "15 -- P1 2 M ACTIVE 3"
      ∷ codes "16 -- P1 3 A IDLE -" ∷ [])
  -- seventeen records are two units without a reply, and the switch
  pub finish : said 40 kdb seventeen idle (codes "REORG START P1" ∷ codes "REORG FINISH P1" ∷ codes "REORG QUERY P1" ∷ [])
      ≡ ended (codes "1 -- P1 1 A ACTIVE -" ∷ codes "2 -- P1 2 M IDLE -" ∷ codes "3 -- P1 2 M IDLE -" ∷ [])
  pub finish_events : length (steps_of true kdb kept 40 90 1 (codes "REORG START P1" ∷ codes "REORG FINISH P1" ∷ []) (seventeen, idle)) ≡ 4

-- how many free blocks a unit of the first record wants
pub record AreNeeds : Type 0 where
  pub forests : (is_forest example_schema example_rows ≡ true) × (is_forest spaced_schema example_rows ≡ true) × (is_forest kdb second_records ≡ true)
  -- six segments, of which three are targets of indexes, in one record
  pub targets : said 9 example_schema example_rows idle (codes "REORG START P1" ∷ codes "REORG STEP P1 1" ∷ []) ≡ ended (codes "1 -- P1 1 A ACTIVE -"
      ∷ codes "2 +6 10" ∷ [])
  pub enough : said 10 example_schema example_rows idle (codes "REORG START P1" ∷ codes "REORG STEP P1 1" ∷ []) ≡ ended (codes "1 -- P1 1 A ACTIVE -"
      ∷ codes "2 -- P1 1 A ACTIVE '001'" ∷ [])
  -- where blocks are left empty each segment counts twice: two segments in one record, three in two
  pub spaced : said 4 kdb second_records idle (codes "REORG START P2" ∷ codes "REORG STEP P2 1"
      ∷ codes "REORG STEP P2 2" ∷ []) ≡ ended (codes "1 -- P2 1 A ACTIVE -" ∷ codes "2 +6 5" ∷ codes "3 +6 8" ∷ [])
  -- and a target once more
  pub both : said 3 spaced_schema example_rows idle (codes "REORG START P2" ∷ codes "REORG FINISH P2" ∷ []) ≡ ended (codes "1 -- P2 1 A ACTIVE -"
      ∷ codes "2 +6 4" ∷ [])

-- `+B 9` for each REORG line, and nothing changes
pub record AreUnbuilt : Type 0 where
  pub text : script_text false kdb kept 40 90 1 (codes "REORG START P1" ∷ codes "* a note" ∷ codes "reorg step p9 5"
      ∷ codes "REORG FINISH P1" ∷ []) (two_records, standing 67)
      ≡ ended (codes "1 +B 9" ∷ codes "3 +B 9" ∷ codes "4 +B 9" ∷ [])
  pub after : state_after (two_records, idle) (steps_unbuilt idle (codes "REORG START P1" ∷ codes "REORG STEP P1 1" ∷ [])) ≡ (two_records, idle)
