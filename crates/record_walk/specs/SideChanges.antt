-- A changed side is a side again.
use Rattle.std.specs.Prelude.{◌≡◌, ◌≢◌, ℕ, zero, suc, ◌<◌, ◌≤◌, true, false, List, [], ◌∷◌, length, map, insert, slice_get, Option, None, Some}
use Rattle.std.specs.List.{remove}
use Rattle.std.specs.Option.{option_map}
use Rattle.hal_schema.specs.declared.schema.Schema.{Schema}
use Rattle.segment_blocks.specs.declared.tile.Cell.{Cell}
use Rattle.record_walk.specs.Tree.{Occurrence, Chains, times_in, child_codes}
use Rattle.record_walk.specs.Pointers.{Pointer, Behind, Below, Root, with_segment, without_segment, with_content_at}
use Rattle.record_walk.specs.Side.{RootRow, seen, heads_in, key_of, row_key_of, belongs, roots_rise, IsWalked}
use Rattle.record_walk.specs.Changes.{stands_in, leads_to, set_in_cell, new_cell, set_content}
use Rattle.record_walk.specs.Spans.{IsIn}
use Rattle.record_walk.specs.Records.{code_behind}
use Rattle.record_walk.specs.Roots.{with_row, without_row}

-- the pointer as its cell or its row has it
abbrev pub leads_in : Schema → Pointer → (ℕ → Option Cell) → List RootRow → ℕ
leads_in schema pointer cells rows = leads_to pointer (seen schema.phdam cells) (map (λ (row : RootRow). row.home) rows)

abbrev pub IsInSide : Schema → Pointer → (ℕ → Option Cell) → List RootRow → Chains → Type 0
IsInSide schema pointer cells rows trees = IsIn pointer (seen schema.phdam cells) (map (λ (row : RootRow). row.home) rows) trees

-- the rows of the root set with the pointer set
abbrev pub set_home : ℕ → ℕ → List RootRow → List RootRow
set_home place to [] = []
set_home zero to (row ∷ rows) = record row { home = to } ∷ rows
set_home (suc place) to (row ∷ rows) = row ∷ set_home place to rows

abbrev pub set_in_root_rows : Pointer → ℕ → List RootRow → List RootRow
set_in_root_rows (Behind prior) to rows = rows
set_in_root_rows (Below above place) to rows = rows
set_in_root_rows (Root place) to rows = set_home place to rows

-- the segment of a cell
abbrev pub segment_in : ℕ → Cell → Occurrence
segment_in home cell = record { home = home; code = cell.code; name = cell.name; content = cell.content }

-- A new root belongs to the partition, has the key of its row, and stands in order among the roots. Behind a root it has that root's row. In PHIDAM a
-- row leads to one root.
pub record FitsAsRoot (schema : Schema) (place : ℕ) (cells : ℕ → Option Cell) (rows : List RootRow) (at : Pointer) (new : Occurrence) (trees : Chains) : Type 0 where
  pub belongs : belongs schema place new ≡ true
  pub at_head : (k : ℕ) (row : RootRow) → at ≡ Root k → slice_get rows k ≡ Some row → row_key_of schema new ≡ row.key
  pub behind : (prior : ℕ) (cell : Cell) → at ≡ Behind prior → cells prior ≡ Some cell → row_key_of schema new ≡ row_key_of schema (segment_in prior cell)
  pub rising : roots_rise schema (heads_in trees) ≡ true
  pub chained : (prior : ℕ) → at ≡ Behind prior → schema.phdam ≡ true
  pub single : schema.phdam ≡ false → leads_in schema at cells rows ≡ 0

-- the pointer was set in its cell, and these other cells stay
pub record SetsPointer (pointer : Pointer) (to : ℕ) (cells now : ℕ → Option Cell) (stay : ℕ → Type 0) : Type 0 where
  pub set : (home : ℕ) → stands_in pointer ≡ Some home → now home ≡ option_map (set_in_cell pointer to) (cells home)
  pub others : (home : ℕ) → stay home → stands_in pointer ≢ Some home → now home ≡ cells home

-- so many child types as a segment's type has
abbrev pub kinds_of : Schema → Occurrence → ℕ
kinds_of schema new = length (child_codes schema.types new.code)

-- where a root stands at the home, the content has its key
abbrev pub KeepsRootKey : Schema → (ℕ → Option Cell) → ℕ → List ℕ → Type 0
KeepsRootKey schema cells home content = (cell : Cell) → cells home ≡ Some cell → cell.code ≡ 1
    → key_of schema (segment_in home (set_content content cell)) ≡ key_of schema (segment_in home cell)

pub record ChangedSides : Type 0 where
  -- a cell came to a free home, and a pointer was set to it
  pub inserts : (schema : Schema) (place : ℕ) (cells now : ℕ → Option Cell) (rows : List RootRow) (trees : Chains) (pointer : Pointer) (new : Occurrence)
      → IsWalked schema place cells rows trees → IsInSide schema pointer cells rows trees → 0 < new.home → cells new.home ≡ None
      → code_behind schema.types pointer (seen schema.phdam cells) ≡ Some new.code
      → (new.code ≡ 1 → FitsAsRoot schema place cells rows pointer new (with_segment pointer new (kinds_of schema new) trees))
      → now new.home ≡ Some (new_cell new (kinds_of schema new) (leads_in schema pointer cells rows))
      → SetsPointer pointer new.home cells now (λ home. home ≢ new.home)
      → IsWalked schema place now (set_in_root_rows pointer new.home rows) (with_segment pointer new (kinds_of schema new) trees)
  -- a pointer was set past a segment, whose cell and those below it are gone or copied
  pub cuts : (schema : Schema) (place : ℕ) (cells now : ℕ → Option Cell) (rows : List RootRow) (trees : Chains) (pointer : Pointer) (cut : Cell)
      → IsWalked schema place cells rows trees → IsInSide schema pointer cells rows trees → 0 < leads_in schema pointer cells rows
      → seen schema.phdam cells (leads_in schema pointer cells rows) ≡ Some cut
      → SetsPointer pointer cut.twin cells now (λ home. 0 < times_in home trees → 0 < times_in home (without_segment pointer trees))
      → ((home : ℕ) (cell : Cell) → 0 < times_in home trees → times_in home (without_segment pointer trees) ≡ 0 → now home ≡ Some cell → cell.copied ≡ true)
      → IsWalked schema place now (set_in_root_rows pointer cut.twin rows) (without_segment pointer trees)
  -- the content of a cell was replaced, by one with its key where it is a root
  pub replaces : (schema : Schema) (place : ℕ) (cells now : ℕ → Option Cell) (rows : List RootRow) (trees : Chains) (home : ℕ) (content : List ℕ)
      → IsWalked schema place cells rows trees → now home ≡ option_map (set_content content) (cells home)
      → ((other : ℕ) → other ≢ home → now other ≡ cells other) → KeepsRootKey schema cells home content
      → IsWalked schema place now rows (with_content_at home content trees)
  -- a row that leads nowhere came, or went
  pub row_comes : (schema : Schema) (place : ℕ) (cells : ℕ → Option Cell) (rows : List RootRow) (trees : Chains) (at : ℕ) (key : List ℕ)
      → IsWalked schema place cells rows trees → at ≤ length rows
      → IsWalked schema place cells (insert rows at (record { key = key; home = 0 })) (with_row at trees)
  pub row_goes : (schema : Schema) (place : ℕ) (cells : ℕ → Option Cell) (rows : List RootRow) (trees : Chains) (at : ℕ) (row : RootRow)
      → IsWalked schema place cells rows trees → slice_get rows at ≡ Some row → row.home ≡ 0
      → IsWalked schema place cells (remove rows at) (without_row at trees)
