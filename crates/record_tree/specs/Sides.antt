-- Which data sets a side of a partition has, of which lengths, and the rows of its root set.
use Rattle.std.specs.Prelude.{ℕ, ◌==◌, if◌then◌else◌, List, [], map, count_by, Option, None, Some}
use Rattle.std.specs.Int.{w32, from_be_bytes}
use Rattle.std.specs.List.{enumerate_from, slice_get}
use Rattle.std.specs.Option.{option_map_or}
use Rattle.hal_base.specs.declared.pages.SetId.{SetId}
use Rattle.hal_base.specs.declared.place.Shape.{Shape}
use Rattle.hal_schema.specs.declared.schema.Schema.{Schema}
use Rattle.hal_schema.specs.declared.schema.SegType.{SegType}
use Rattle.hal_schema.specs.SegType.{is_child, key_bytes}
use Rattle.keyed_sets.specs.declared.row.RowShape.{RowShape}
use Rattle.keyed_sets.specs.Layout.{Row}
use Rattle.keyed_sets.specs.Map.{rows_of}
use Rattle.record_walk.specs.Side.{RootRow}

-- the number of the partition at a place of the definition
abbrev pub part_number : Schema → ℕ → ℕ
part_number schema place = option_map_or (λ part. part.number) (slice_get schema.parts place) 0

-- A side is named by the letter of its first data set, A (65) or M (77). Its generation is the reorganization number of its data sets.
abbrev pub first_set : Schema → (place number side : ℕ) → SetId
first_set schema place number side = record { part = part_number schema place; number = number; letter = side }

-- the root set beside it has the letter X (88) or Y (89)
abbrev pub root_set : SetId → SetId
root_set first = record first { letter = if first.letter == 65 then 88 else 89 }

-- a row of a root set: a root key (PHIDAM) or an anchor's number (PHDAM), and the address of a root
abbrev pub root_shape : Schema → RowShape
root_shape schema = record { key = if schema.phdam then 4 else key_bytes schema.types 1; body = 4 }

abbrev pub root_row : Row → RootRow
root_row row = record { key = row.0; home = from_be_bytes w32 (row.1) }

-- the rows of a root set, none where its pages aren't told
abbrev pub root_rows : RowShape → Option (List (List ℕ)) → List RootRow
root_rows shape None = []
root_rows shape (Some pages) = map root_row (rows_of shape pages)

-- the letters of the types, by their codes, and their shapes
abbrev pub letters_of : Schema → List ℕ
letters_of schema = map (λ t. t.letter) schema.types

abbrev pub shape_of : List SegType → ℕ × SegType → Shape
shape_of types t = record { children = count_by (is_child (t.0)) types; bytes = (t.1).bytes }

abbrev pub shapes_of : Schema → List Shape
shapes_of schema = map (shape_of schema.types) (enumerate_from 1 schema.types)
