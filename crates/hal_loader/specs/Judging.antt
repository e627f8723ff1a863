-- The refusals of a row as they are found by what is kept of the rows before.
use Rattle.std.specs.Prelude.{◌≡◌, ℕ, ◌==◌, Bool, not, ◌&&◌, List, [], ◌∷◌, ◌++◌, codes, Option, None, Some, is_none, is_some, Result, Ok, Err, ⊤, if◌then◌else◌}
use Rattle.hal_base.specs.declared.place.Ilk.{Ilk}
use Rattle.hal_schema.specs.declared.row.Row.{Row}
use Rattle.hal_schema.specs.declared.schema.Schema.{Schema}
use Rattle.hal_schema.specs.Forest.{has_unique_key}
use Rattle.hal_schema.specs.Roots.{partition_of}
use Rattle.hal_schema.specs.SegType.{parent_code}
use Rattle.hal_loader.specs.Carrying.{is_of_later_type, is_above_key, has_same_key}
use Rattle.hal_loader.specs.Refusals.{first_that_holds}
use Rattle.hal_loader.specs.Taker.{has_root}
use Rattle.hal_loader.specs.declared.fault.RowFault.{RowFault}
use Rattle.hal_loader.specs.declared.fault.RowFault.TheVariants as row
use Rattle.hal_loader.specs.declared.path.Level.{Level}
use Rattle.hal_loader.specs.declared.taker.TakeFault.{TakeFault}
use Rattle.hal_loader.specs.declared.taker.TakeFault.TheVariants as take

-- the code of a fault of a taker
abbrev pub as_row_fault : TakeFault → RowFault
as_row_fault take.Twice = row.Broken (codes "NI")
as_row_fault (take.NoRoom need) = row.Broken (codes "+R")
as_row_fault take.Failed = row.Failed
as_row_fault take.Memory = row.Memory

-- by the newest sibling alone
abbrev pub level_refusals : Schema → ℕ → Option Ilk → List ℕ → Option Level → List (Bool × List ℕ)
level_refusals schema code parent key below =
    (is_some (parent_code schema.types code) && is_none parent, codes "LD")
    ∷ (is_of_later_type below code, codes "LE")
    ∷ (not (schema.phdam && code == 1) && is_above_key below code key, codes "LC")
    ∷ (not (schema.phdam && code == 1) && (has_unique_key schema.types code && has_same_key below code key), codes "LB") ∷ []

-- of a root, by all roots and by the partitions
abbrev pub root_refusals : Schema → List Row → List ℕ → List (Bool × List ℕ)
root_refusals schema rows key = (schema.phdam && has_root schema.types rows key, codes "LB") ∷ (is_none (partition_of schema key), codes "FM") ∷ []

abbrev pub kept_refusals : Schema → List Row → ℕ → Option Ilk → List ℕ → Option Level → List (Bool × List ℕ)
kept_refusals schema rows code parent key below =
    level_refusals schema code parent key below ++ (if code == 1 then root_refusals schema rows key else [])

-- the first of these, if any, is said
abbrev pub JudgesBy : List (Bool × List ℕ) → Result Unit RowFault → Type 0
JudgesBy refusals (Ok done) = first_that_holds refusals ≡ None
JudgesBy refusals (Err (row.Broken code)) = first_that_holds refusals ≡ Some code
JudgesBy refusals (Err row.Failed) = ⊤
JudgesBy refusals (Err row.Memory) = ⊤

-- a fault of the taker, and no rule
abbrev pub IsFaultOfTaker : RowFault → Type 0
IsFaultOfTaker (row.Broken code) = ⊥
IsFaultOfTaker row.Failed = ⊤
IsFaultOfTaker row.Memory = ⊤

-- a rule is broken, or none is
abbrev pub IsJudgement : Result Unit RowFault → Type 0
IsJudgement (Ok done) = ⊤
IsJudgement (Err why) = IsFaultOfTaker why → ⊥
