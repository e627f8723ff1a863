-- Why a load row is refused: a table in the order of the refusals, of which the first row that holds is said.
use Rattle.std.specs.Prelude.{ℕ, ◌==◌, nat_lt, Bool, false, not, ◌&&◌, List, [], ◌∷◌, ◌++◌, filter, length, codes, Option, None, Some, is_none, is_some, unwrap_or, if◌then◌else◌}
use Rattle.std.specs.List.{list_all, list_any, last_or}
use Rattle.std.specs.Option.{option_map_or}
use Rattle.std.specs.Ordering.{is_lt}
use Rattle.hal_schema.specs.declared.row.Row.{Row}
use Rattle.hal_schema.specs.declared.schema.Schema.{Schema}
use Rattle.hal_schema.specs.declared.schema.SegType.{SegType}
use Rattle.hal_schema.specs.Forest.{is_selected}
use Rattle.hal_schema.specs.Insertion.{has_free_key, has_parent_in, enters_freely}
use Rattle.hal_schema.specs.Keys.{key_cmp}
use Rattle.hal_schema.specs.Row.{same_parent, are_twins, row_key}
use Rattle.hal_schema.specs.SegType.{parent_code}
use Rattle.hal_loader.specs.Placing.{coming, parent_path, first_name, goes_by_key, load_need}
use Rattle.hal_loader.specs.Text.{code_said, content_said}

abbrev pub first_that_holds : List (Bool × List ℕ) → Option (List ℕ)
first_that_holds [] = None
first_that_holds (row ∷ rows) = if row.0 then Some row.1 else first_that_holds rows

-- what stands when a row comes: the rows loaded before it, the path upwards from the last of them, and how many blocks are free
pub record Standing : Type 0 where
  pub rows : List Row
  pub path : List Row
  pub free : ℕ

-- the row that a record says, but for its name
abbrev pub row_said : List SegType → List Row → List (List ℕ) → Row
row_said types path fields =
    let code = unwrap_or (code_said types fields) 0 in
    coming (first_name (parent_path types path code)) code (unwrap_or (content_said types fields) [])

-- a child of the same parent, of a type that comes later
abbrev pub is_later_sibling : Row → Row → Bool
is_later_sibling new row = same_parent row.parent new.parent && nat_lt new.code row.code

abbrev pub twins_of : List Row → Row → List Row
twins_of rows new = filter (λ row. are_twins row new) rows

-- the key is below that of the last twin
abbrev pub is_below_last : List SegType → List Row → Row → Bool
is_below_last types rows new = option_map_or (λ twin. is_lt (key_cmp (row_key types new) (row_key types twin))) (last_or None (twins_of rows new)) false

-- what the record itself says: three fields, a known segment, a value that fits
abbrev pub text_refusals : List SegType → List (List ℕ) → List (Bool × List ℕ)
text_refusals types fields =
    (not (length fields == 3), codes "F1")
    ∷ (is_none (code_said types fields), codes "F2")
    ∷ (is_none (content_said types fields), codes "F3") ∷ []

-- the keys of roots in PHDAM may come in any order
abbrev pub row_refusals : Schema → List Row → ℕ → Row → List (Bool × List ℕ)
row_refusals schema rows free row =
    (is_some (parent_code schema.types row.code) && is_none row.parent, codes "LD")
    ∷ (list_any (is_later_sibling row) rows, codes "LE")
    ∷ (not (goes_by_key schema row) && is_below_last schema.types rows row, codes "LC")
    ∷ (not (has_free_key schema rows row), codes "LB")
    ∷ (not (is_selected schema row), codes "FM")
    ∷ (not (list_all (enters_freely schema.types rows row) schema.indexes), codes "NI")
    ∷ (nat_lt free (load_need schema rows row), codes "+R") ∷ []

abbrev pub refusal_of : Schema → Standing → List (List ℕ) → Option (List ℕ)
refusal_of schema at fields =
    first_that_holds (text_refusals schema.types fields ++ row_refusals schema at.rows at.free (row_said schema.types at.path fields))

-- what a taker asks of a row
abbrev pub may_be_taken : Schema → List Row → Row → Bool
may_be_taken schema rows row =
    has_parent_in schema.types rows row && not (not (goes_by_key schema row) && is_below_last schema.types rows row)
    && has_free_key schema rows row && is_selected schema row
