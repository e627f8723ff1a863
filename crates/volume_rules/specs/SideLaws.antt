-- Lawful deltas keep the rules 4, 5 and 7.
use Rattle.std.specs.Prelude.{ℕ, Bool, List}
use Rattle.hal_schema.specs.declared.schema.Schema.{Schema}
use Rattle.hal_schema.specs.declared.schema.SegType.{SegType}
use Rattle.volume_rules.specs.View.{View}
use Rattle.volume_rules.specs.Delta.{Delta, IsLawful, after}
use Rattle.volume_rules.specs.Volume.{RowsStand}
use Rattle.volume_rules.specs.Sides.{RootSet, Rooting, KeepsRule4, roots_after, RootsFollow, RowsFollow, KeepsRule7, OrderFollows}

abbrev pub DeltasKeepRule4 : Type 0
DeltasKeepRule4 = (schema : Schema) (is_target : ℕ → Bool) (view : View) (d : Delta) (roots : RootSet) (rooting : ℕ → List ℕ → Rooting)
    → IsLawful schema.types is_target view d → RootsFollow schema view d roots rooting → KeepsRule4 schema view roots
    → KeepsRule4 schema (after view d) (roots_after roots rooting)

abbrev pub DeltasKeepRule5 : Type 0
DeltasKeepRule5 = (types : List SegType) (is_target : ℕ → Bool) (view : View) (d : Delta) → IsLawful types is_target view d → RowsFollow view d
    → RowsStand view → RowsStand (after view d)

abbrev pub DeltasKeepRule7 : Type 0
DeltasKeepRule7 = (schema : Schema) (is_target : ℕ → Bool) (place : ℕ) (view : View) (d : Delta) → IsLawful schema.types is_target view d
    → OrderFollows schema place view d → KeepsRule7 schema place view → KeepsRule7 schema place (after view d)
