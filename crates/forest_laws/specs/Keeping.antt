-- What keeps a forest: inserting a row, cutting a span out, replacing a row's content.
use Rattle.std.specs.Prelude.{ℕ, List, IsTrue}
use Rattle.hal_base.specs.declared.place.Ilk.{Ilk}
use Rattle.hal_schema.specs.declared.row.Row.{Row}
use Rattle.hal_schema.specs.declared.schema.Schema.{Schema}
use Rattle.hal_schema.specs.Forest.{is_forest}
use Rattle.hal_schema.specs.Insertion.{inserted, may_be_inserted}
use Rattle.hal_schema.specs.Span.{without_span, replaced, may_be_replaced}

abbrev pub InsertionKeeps : Type 0
InsertionKeeps = (schema : Schema) (rows : List Row) (new : Row) → IsTrue (is_forest schema rows)
    → IsTrue (may_be_inserted schema rows new) → IsTrue (is_forest schema (inserted schema rows new))

abbrev pub CutKeeps : Type 0
CutKeeps = (schema : Schema) (rows : List Row) (name : Ilk) → IsTrue (is_forest schema rows)
    → IsTrue (is_forest schema (without_span schema.types rows name))

abbrev pub ReplacementKeeps : Type 0
ReplacementKeeps = (schema : Schema) (rows : List Row) (name : Ilk) (content : List ℕ) → IsTrue (is_forest schema rows)
    → IsTrue (may_be_replaced schema rows name content) → IsTrue (is_forest schema (replaced rows name content))
