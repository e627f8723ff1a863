-- What a scan passes on its way to elements of a type. Below an element whose type leads to none of them nothing is looked at.
use Rattle.std.specs.Prelude.{◌≡◌, ℕ, ◌+◌, ◌≤◌, Bool, true, false, not, ◌||◌, List, length, take_while, Option, None, Some, if◌then◌else◌}
use Rattle.std.specs.List.{count_by, last_or, list_all}
use Rattle.std.specs.Option.{option_map_or}
use Rattle.hal_schema.specs.declared.schema.Schema.{Schema}
use Rattle.hal_schema.specs.Paths.{with_paths}
use Rattle.hal_schema.specs.SegType.{parent_code}
use Rattle.call_text.specs.declared.line.Call.{Call}
use Rattle.call_text.specs.declared.line.Ssa.{Ssa}
use Rattle.position_state.specs.declared.session.Anchor.{Anchor}
use Rattle.position_state.specs.declared.session.Anchor.TheVariants.{Front}
use Rattle.position_state.specs.declared.session.Session.{Session}
use Rattle.position_state.specs.declared.spot.Spot.{Spot}
use Rattle.position_state.specs.Looks.{WalkView}
use Rattle.dli_calls.specs.Ssas.{code_named}
use Rattle.dli_calls.specs.Meets.{meets, on_paths}
use Rattle.dli_calls.specs.Gets.{OnPath, is_next, is_unique, paths_behind}
use Rattle.dli_calls.specs.Refusals.{is_below_type}
use Rattle.call_gets.specs.declared.scan.Step.{Step}
use Rattle.call_gets.specs.declared.scan.Step.TheVariants.{Ends, GoesOn}
use Rattle.call_gets.specs.Keyed.{keyed_path}
use Rattle.call_gets.specs.Scan.{LooksWithin, from_on, path_of, plain_view}

-- elements of the last SSA's type may stand below one of this type; where there is no SSA any may
abbrev pub leads : Schema → List Ssa → ℕ → Bool
leads schema ssas code = option_map_or (λ ssa. option_map_or (is_below_type schema code) (code_named schema ssa.seg) false) (last_or None ssas) true

abbrev pub all_lead : Schema → List Ssa → List Spot → Bool
all_lead schema ssas path = list_all (λ spot. leads schema ssas spot.code) path

-- a root, or right below an element that leads
abbrev pub is_on_way : Schema → List Ssa → Spot → Bool
is_on_way schema ssas spot = option_map_or (leads schema ssas) (parent_code schema.types spot.code) true

-- how many elements that are on the way stand before the first that meets the SSAs
abbrev pub passed : Schema → List Spot → List Ssa → List OnPath → ℕ
passed schema view ssas paths = count_by (λ p. is_on_way schema ssas p.1) (take_while (λ p. not (meets schema None view ssas p)) paths)

abbrev pub passed_from : Schema → List Spot → List Ssa → List Spot → Option Spot → ℕ
passed_from schema view ssas path next = passed schema view ssas (with_paths (λ spot. spot.level) path (from_on view next))

-- a step behind a path of elements that lead keeps to such a path, and there is one less to pass after it
abbrev pub IsCloser : Schema → List Spot → List Ssa → List Spot → Spot → List Spot → Step → Type 0
IsCloser schema view ssas old spot new (Ends found) = Unit {0}
IsCloser schema view ssas old spot new (GoesOn next) =
    all_lead schema ssas old ≡ true → (all_lead schema ssas new ≡ true) × (1 + passed_from schema view ssas new next ≤ passed_from schema view ssas old (Some spot))

-- a scan behind a path of elements that lead has a look for each that it passes, and one more
abbrev pub LooksPassing : Schema → List Ssa → List Spot → Option Spot → WalkView → WalkView → Type 0
LooksPassing schema ssas path next old new =
    all_lead schema ssas path ≡ true → LooksWithin ssas old new (λ rows. 1 + passed_from schema (plain_view schema rows) ssas path next)

-- a scan behind a place has a look for each that it passes, and two more
abbrev pub LooksBehind : Schema → List Ssa → Anchor → WalkView → WalkView → Type 0
LooksBehind schema ssas at old new = LooksWithin ssas old new
    (λ rows. let view = plain_view schema rows in 2 + passed schema view ssas (paths_behind at (on_paths view)))

-- so many looks, one for each element on the path to a place, and one for each on the way that is passed behind it
abbrev pub LooksClimbing : ℕ → Schema → List Ssa → Anchor → WalkView → WalkView → Type 0
LooksClimbing most schema ssas at old new = LooksWithin ssas old new
    (λ rows. let view = plain_view schema rows in most + length (path_of at view) + passed schema view ssas (paths_behind at (on_paths view)))

abbrev pub begins_at : Call → Session → Anchor
begins_at call session = if is_unique call then Front else session.anchor

-- where a GN, or a GU that isn't kept within a record, has no SSA with L, there are no more looks than so many, one for each
-- element on the path to where it begins, and one for each on the way that it passes. Of roots alone, where it asks for roots
abbrev pub IsWithinPassed : ℕ → Schema → Session → Call → WalkView → WalkView → Type 0
IsWithinPassed most schema session call old new =
    (is_unique call || is_next call) ≡ true → keyed_path schema call ≡ None → LooksClimbing most schema call.ssas (begins_at call session) old new
