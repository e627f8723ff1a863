-- The sides of a volume together, partitions in order: their lists, one behind the other, are a well-formed forest.
use Rattle.std.specs.Prelude.{◌≡◌, ℕ, ◌==◌, nat_lt, Bool, true, ◌&&◌, ◌||◌, List, [], ◌∷◌, ◌++◌, Option, None}
use Rattle.std.specs.List.{list_all, AllByRecursion}
use Rattle.std.specs.Ordering.{is_lt}
use Rattle.hal_schema.specs.declared.schema.Schema.{Schema}
use Rattle.hal_schema.specs.Roots.{root_cmp}
use Rattle.hal_schema.specs.Forest.{all_pairs, rows_are_named, entries_differ, is_forest}
use Rattle.segment_blocks.specs.declared.tile.Cell.{Cell}
use Rattle.record_walk.specs.Tree.{Occurrence, Chains}
use Rattle.record_walk.specs.Listing.{Placed, list_in, rows_of}
use Rattle.record_walk.specs.Side.{RootRow, heads_in, key_of, IsSideOf}
use Rattle.record_walk.specs.Siblings.{twins_follow_in}

-- a side of the partition at a place, with the trees that hang in it
pub record PlacedSide : Type 0 where
  pub place : ℕ
  pub cells : ℕ → Option Cell
  pub rows : List RootRow
  pub trees : Chains

-- their lists, one behind the other
abbrev pub listed : List PlacedSide → List Placed
listed [] = []
listed (side ∷ sides) = list_in None side.trees ++ listed sides

-- whether each of these roots stands before each of the others
abbrev pub all_before : Schema → List Occurrence → List Occurrence → Bool
all_before schema roots others = list_all (λ a. list_all (λ b. is_lt (root_cmp schema (key_of schema a) (key_of schema b))) others) roots

-- A side stands before one of a later partition. Of one partition the output stands before the input, whose roots are behind all of the output's,
-- since the cursor is between.
abbrev pub precedes : Schema → PlacedSide → PlacedSide → Bool
precedes schema a b = nat_lt a.place b.place || a.place == b.place && all_before schema (heads_in a.trees) (heads_in b.trees)

abbrev pub AreAllSides : Schema → List PlacedSide → Type 0
AreAllSides schema sides = AllByRecursion (λ side. IsSideOf schema side.place side.cells side.rows side.trees) sides

-- sides in that order that keep the rules of a volume on sides: 4, 5 and 7
pub record AreSidesInOrder (schema : Schema) (sides : List PlacedSide) : Type 0 where
  pub each : AreAllSides schema sides
  pub twins : list_all (λ side. twins_follow_in schema side.trees) sides ≡ true
  pub order : all_pairs (precedes schema) sides ≡ true

-- with names that differ, contents of the types' lengths, and no key twice in an index, which other rules say
abbrev pub SidesAreForests : Type 0
SidesAreForests = (schema : Schema) (sides : List PlacedSide) → AreSidesInOrder schema sides → rows_are_named schema.types (rows_of (listed sides)) ≡ true
    → list_all (entries_differ schema.types (rows_of (listed sides))) schema.indexes ≡ true → is_forest schema (rows_of (listed sides)) ≡ true
