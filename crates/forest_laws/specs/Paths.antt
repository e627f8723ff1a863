-- What the paths by levels are.
use Rattle.std.specs.Prelude.{◌≡◌, ℕ, zero, suc, nat_lt, List, [], ◌∷◌, ◌++◌, length, reverse, map, filter, option_and_then, IsTrue}
use Rattle.std.specs.List.{list_all, AllByRecursion}
use Rattle.std.specs.Option.{option_map_or}
use Rattle.hal_schema.specs.declared.row.Row.{Row}
use Rattle.hal_schema.specs.declared.schema.Schema.{Schema}
use Rattle.hal_schema.specs.SegType.{parent_code, ancestry, path_key_bytes}
use Rattle.hal_schema.specs.Row.{row_named}
use Rattle.hal_schema.specs.Paths.{path_after, with_paths, paths_of, concatenated_key}
use Rattle.hal_schema.specs.Forest.{is_forest}

-- a row's root, the rows between, and the row itself, each found by its name as a parent: at most so many of them
abbrev pub parents_within : ℕ → List Row → Row → List Row
parents_within zero rows row = []
parents_within (suc most) rows row = option_map_or (parents_within most rows) (option_and_then (row_named rows) row.parent) [] ++ row ∷ []

-- all of them, since a parent's code is lower
abbrev pub path_by_parents : List Row → Row → List Row
path_by_parents rows row = parents_within row.code rows row

-- in a forest the path by levels is the path by parents
abbrev pub PathsAreByParents : Type 0
PathsAreByParents = (schema : Schema) (rows : List Row) → IsTrue (is_forest schema rows)
    → paths_of schema.types rows ≡ map (λ row. (path_by_parents rows row, row)) rows

-- a path begins with a row of the root type and ends at its row, and its codes are the row's type and those above it
abbrev pub PathsAreAncestries : Type 0
PathsAreAncestries = (schema : Schema) (rows : List Row) → IsTrue (is_forest schema rows)
    → AllByRecursion (λ p. reverse (map (λ row. row.code) p.0) ≡ ancestry (parent_code schema.types) p.1.code) (paths_of schema.types rows)

-- a concatenated key has the length that the schema says
abbrev pub KeysAreLong : Type 0
KeysAreLong = (schema : Schema) (rows : List Row) → IsTrue (is_forest schema rows)
    → AllByRecursion (λ p. length (concatenated_key schema.types p.0) ≡ path_key_bytes schema.types p.1.code) (paths_of schema.types rows)

-- what is deeper than all of a path goes on with it: so a scan that fails at a row may pass over all that is below it
abbrev pub PathsGoOn : Type 0 → Type 0
PathsGoOn X = (level : X → ℕ) (path below : List X) → IsTrue (list_all (λ x. list_all (λ above. nat_lt (level above) (level x)) path) below)
    → with_paths level path below ≡ map (λ p. (path ++ p.0, p.1)) (with_paths level [] below)

-- an item that nothing is above begins anew: so the paths of a record are within that record
abbrev pub PathsBeginAnew : Type 0 → Type 0
PathsBeginAnew X = (level : X → ℕ) (path : List X) (root : X) (behind : List X) → filter (λ above. nat_lt (level above) (level root)) path ≡ []
    → with_paths level path (root ∷ behind) ≡ with_paths level [] (root ∷ behind)

-- the paths along two lists, one behind the other
abbrev pub PathsAppend : Type 0 → Type 0
PathsAppend X = (level : X → ℕ) (path front back : List X)
    → with_paths level path (front ++ back) ≡ with_paths level path front ++ with_paths level (path_after level path front) back
