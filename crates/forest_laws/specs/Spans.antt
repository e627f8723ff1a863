-- What a span is, and what a cut leaves where it was.
use Rattle.std.specs.Prelude.{◌≡◌, Bool, not, List, ◌++◌, map, filter, IsTrue}
use Rattle.std.specs.List.{list_any}
use Rattle.hal_base.specs.declared.place.Ilk.{Ilk}
use Rattle.hal_schema.specs.declared.row.Row.{Row}
use Rattle.hal_schema.specs.declared.schema.Schema.{Schema}
use Rattle.hal_schema.specs.Row.{same_name, is_new_name}
use Rattle.hal_schema.specs.Paths.{paths_of}
use Rattle.hal_schema.specs.Span.{span_of, without_span}
use Rattle.hal_schema.specs.Forest.{is_forest}

-- whether a row of this name is on a path
abbrev pub is_on : Ilk → List Row → Bool
is_on name path = list_any (λ row. same_name row.name name) path

-- a span is exactly the rows whose path has the row
abbrev pub SpansAreBelow : Type 0
SpansAreBelow = (schema : Schema) (rows : List Row) (name : Ilk) → IsTrue (is_forest schema rows)
    → span_of schema.types rows name ≡ map (λ p. p.1) (filter (λ p. is_on name p.0) (paths_of schema.types rows))

-- a span stands in one piece, and a cut takes that piece and no more
pub record IsCut (schema : Schema) (rows : List Row) (name : Ilk) : Type 0 where
  pub front : List Row
  pub back : List Row
  pub whole : rows ≡ front ++ (span_of schema.types rows name ++ back)
  pub cut : without_span schema.types rows name ≡ front ++ back

abbrev pub CutsAreSpans : Type 0
CutsAreSpans = (schema : Schema) (rows : List Row) (name : Ilk) → IsCut schema rows name

-- the rows of a list that stand in another by their names
abbrev pub those_in : List Row → List Row → List Row
those_in rows others = filter (λ row. not (is_new_name rows row.name)) others

-- of the rows up to an anchor those that a cut leaves: so an anchor in the cut part goes to the last row before that, and every other stays
pub record LeavesAnchors (schema : Schema) (rows : List Row) (name : Ilk) (c : IsCut schema rows name) : Type 0 where
  pub before : (upto rest : List Row) → c.front ≡ upto ++ rest → those_in (without_span schema.types rows name) upto ≡ upto
  pub within : (upto rest : List Row) → span_of schema.types rows name ≡ upto ++ rest
      → those_in (without_span schema.types rows name) (c.front ++ upto) ≡ c.front
  pub behind : (upto rest : List Row) → c.back ≡ upto ++ rest
      → those_in (without_span schema.types rows name) (c.front ++ (span_of schema.types rows name ++ upto)) ≡ c.front ++ upto

abbrev pub CutsLeaveAnchors : Type 0
CutsLeaveAnchors = (schema : Schema) (rows : List Row) (name : Ilk) → IsTrue (is_forest schema rows)
    → (c : IsCut schema rows name) → LeavesAnchors schema rows name c
