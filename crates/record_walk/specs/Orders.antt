-- The orders that a walk goes by: a segment's child types by their codes, and the roots of a PHIDAM partition by their keys.
use Rattle.std.specs.Prelude.{◌≡◌, ℕ, ◌-◌, nat_lt, true, false, List, length, take, count_by, Some}
use Rattle.std.specs.List.{slice_get}
use Rattle.std.specs.Option.{option_map_or}
use Rattle.hal_schema.specs.declared.schema.SegType.{SegType}
use Rattle.hal_schema.specs.declared.schema.Schema.{Schema}
use Rattle.hal_schema.specs.Forest.{all_pairs}
use Rattle.hal_schema.specs.Keys.{key_cmp}
use Rattle.hal_schema.specs.Roots.{partition_of, root_cmp}
use Rattle.hal_schema.specs.SegType.{parent_code, is_child}
use Rattle.record_walk.specs.Tree.{child_codes}

-- each child type has a higher code than those before it
abbrev pub ChildCodesRise : Type 0
ChildCodesRise = (types : List SegType) (code : ℕ) → all_pairs nat_lt (child_codes types code) ≡ true

-- of two roots of one PHIDAM partition the one with the lower key stands first
abbrev pub RootsGoByKey : Type 0
RootsGoByKey = (schema : Schema) (a b : List ℕ) → schema.phdam ≡ false → partition_of schema a ≡ partition_of schema b → root_cmp schema a b ≡ key_cmp a b

-- the place of a type's pointer among those of its parent's cells, from 0: how many types of that parent stand before it
abbrev pub child_place : List SegType → ℕ → ℕ
child_place types code = option_map_or (λ parent. count_by (is_child parent) (take (code - 1) types)) (parent_code types code) 0

-- at that place stands its code among the parent's child types; and a type has so many of these
pub record ChildPlaces : Type 0 where
  pub place : (types : List SegType) (above code : ℕ) → parent_code types code ≡ Some above → slice_get (child_codes types above) (child_place types code) ≡ Some code
  pub many : (types : List SegType) (code : ℕ) → length (child_codes types code) ≡ count_by (is_child code) types
