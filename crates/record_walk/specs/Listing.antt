-- The list of a tree in hierarchic sequence, each row with its home.
use Rattle.std.specs.Prelude.{ℕ, List, [], ◌∷◌, ◌++◌, map, Option, Some}
use Rattle.hal_base.specs.declared.place.Ilk.{Ilk}
use Rattle.hal_schema.specs.declared.row.Row.{Row}
use Rattle.record_walk.specs.Tree.{Occurrence, Twins, no_segment, segment, Chains, no_chain, chain}

pub record Placed : Type 0 where
  pub home : ℕ
  pub row : Row

-- the row of a segment below a parent of this name, or of a root
abbrev pub placed : Option Ilk → Occurrence → Placed
placed parent s = record { home = s.home; row = record { name = s.name; code = s.code; parent = parent; content = s.content } }

-- a segment, then what is below it, then its next twins
abbrev mutual
  pub list_of : Option Ilk → Twins → List Placed
  list_of parent no_segment = []
  list_of parent (segment s below next) = placed parent s ∷ (list_in (Some s.name) below ++ list_of parent next)

  pub list_in : Option Ilk → Chains → List Placed
  list_in parent no_chain = []
  list_in parent (chain twins more) = list_of parent twins ++ list_in parent more

abbrev pub rows_of : List Placed → List Row
rows_of list = map (λ p. p.row) list
