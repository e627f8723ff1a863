-- Records as finite trees, and what it is that a tree hangs in cells. All that is known of storage is which cell stands at a home.
use Rattle.std.specs.Prelude.{◌≡◌, ℕ, ◌+◌, ◌<◌, ◌==◌, ◌&&◌, Bool, true, false, if◌then◌else◌, List, [], ◌∷◌, ◌++◌, map, filter, Option, Some, ⊤}
use Rattle.std.specs.List.{enumerate_from}
use Rattle.hal_base.specs.declared.place.Ilk.{Ilk}
use Rattle.hal_schema.specs.declared.schema.SegType.{SegType}
use Rattle.hal_schema.specs.SegType.{is_child}
use Rattle.segment_blocks.specs.declared.tile.Cell.{Cell}

-- a segment at its home, which is the address of its cell
pub record Occurrence : Type 0 where
  pub home : ℕ
  pub code : ℕ
  pub name : Ilk
  pub content : List ℕ

mutual
  -- the twins behind a pointer: none, or a segment with what is below it, and its next twins
  pub data Twins : Type 0 where
    no_segment : Twins
    segment : Occurrence → Chains → Twins → Twins

  -- the chains of twins behind several pointers: below a segment one for each child type, of a side one for each row of its root set
  pub data Chains : Type 0 where
    no_chain : Chains
    chain : Twins → Chains → Chains

-- the pointer that leads to the twins: the home of the first, and 0 where there is none
abbrev pub first_of : Twins → ℕ
first_of no_segment = 0
first_of (segment s below next) = s.home

abbrev pub firsts_of : Chains → List ℕ
firsts_of no_chain = []
firsts_of (chain twins more) = first_of twins ∷ firsts_of more

-- the cell of a segment of a tree: its pointers are the next twin, and the first child of each child type in definition order
abbrev pub cell_of : Occurrence → Chains → Twins → Cell
cell_of s below next = record {
  copied = false;
  code = s.code;
  name = s.name;
  twin = first_of next;
  children = firsts_of below;
  content = s.content;
}

-- each cell is what the tree says
abbrev mutual
  pub Hangs : (ℕ → Option Cell) → Twins → Type 0
  Hangs cells no_segment = ⊤
  Hangs cells (segment s below next) = (0 < s.home) × (cells s.home ≡ Some (cell_of s below next)) × HangIn cells below × Hangs cells next

  pub HangIn : (ℕ → Option Cell) → Chains → Type 0
  HangIn cells no_chain = ⊤
  HangIn cells (chain twins more) = Hangs cells twins × HangIn cells more

-- whether a segment is at a home, as a number
unfoldable pub here : ℕ → Occurrence → ℕ
here home s = if s.home == home then 1 else 0

-- how often a home is met in a tree
abbrev mutual
  pub times : ℕ → Twins → ℕ
  times home no_segment = 0
  times home (segment s below next) = here home s + (times_in home below + times home next)

  pub times_in : ℕ → Chains → ℕ
  times_in home no_chain = 0
  times_in home (chain twins more) = times home twins + times_in home more

-- the codes of a type's child types, in definition order
abbrev pub child_codes : List SegType → ℕ → List ℕ
child_codes types code = map (λ p. p.0) (filter (λ p. is_child code p.1) (enumerate_from 1 types))

-- the twins are of the type of a code, and below each are its child types
abbrev mutual
  pub are_of : List SegType → ℕ → Twins → Bool
  are_of types code no_segment = true
  are_of types code (segment s below next) = s.code == code && are_chains_of types (child_codes types code) below && are_of types code next

  pub are_chains_of : List SegType → List ℕ → Chains → Bool
  are_chains_of types [] no_chain = true
  are_chains_of types [] (chain twins more) = false
  are_chains_of types (code ∷ codes) no_chain = false
  are_chains_of types (code ∷ codes) (chain twins more) = are_of types code twins && are_chains_of types codes more

-- the chains of a side: each is one of roots
abbrev pub are_roots : List SegType → Chains → Bool
are_roots types no_chain = true
are_roots types (chain twins more) = are_of types 1 twins && are_roots types more

-- the homes that are met in a tree, in hierarchic sequence
abbrev mutual
  pub homes_of : Twins → List ℕ
  homes_of no_segment = []
  homes_of (segment s below next) = s.home ∷ (homes_in below ++ homes_of next)

  pub homes_in : Chains → List ℕ
  homes_in no_chain = []
  homes_in (chain twins more) = homes_of twins ++ homes_in more
