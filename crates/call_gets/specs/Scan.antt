-- What a scan of the view in hierarchic sequence finds: it goes from element to element, and carries the path.
use Rattle.std.specs.Prelude.{◌≡◌, ℕ, ◌+◌, ◌==◌, ◌-◌, ◌^◌, ◌≤◌, min, nat_lt, Bool, true, false, not, List, [], ◌∷◌, ◌++◌, find, filter, All, Option, None, Some, IfSome, if◌then◌else◌}
use Rattle.std.specs.List.{last_or, list_all, list_any}
use Rattle.std.specs.Option.{ForSome, option_map, option_map_or, option_and_then}
use Rattle.hal_base.specs.Fault.{Fails}
use Rattle.hal_schema.specs.declared.row.Row.{Row}
use Rattle.hal_schema.specs.declared.schema.Schema.{Schema}
use Rattle.hal_schema.specs.Paths.{with_paths}
use Rattle.call_text.specs.declared.line.Call.{Call}
use Rattle.call_text.specs.declared.line.Ssa.{Ssa}
use Rattle.position_state.specs.declared.session.Anchor.{Anchor}
use Rattle.position_state.specs.declared.session.Anchor.TheVariants.{Front, At}
use Rattle.position_state.specs.declared.session.Session.{Session}
use Rattle.position_state.specs.declared.spot.Spot.{Spot}
use Rattle.position_state.specs.View.{view_of, is_at, behind}
use Rattle.position_state.specs.Looks.{WalkView, found_at}
use Rattle.dli_calls.specs.Ssas.{asks_last, code_named}
use Rattle.dli_calls.specs.Meets.{on_paths, meets, ssa_holds}
use Rattle.dli_calls.specs.Gets.{OnPath, is_below_parent, paths_behind}
use Rattle.dli_calls.specs.Decided.{decision_of}
use Rattle.dli_calls.specs.Refusals.{is_in_subtree}
use Rattle.view_laws.specs.Views.{goes_down}
use Rattle.dli_calls.specs.declared.decision.Decision.{Decision}
use Rattle.call_gets.specs.declared.scan.Met.{Met}
use Rattle.call_gets.specs.declared.scan.Step.{Step}
use Rattle.call_gets.specs.declared.scan.Step.TheVariants.{Ends, GoesOn}
use Rattle.call_gets.specs.declared.judged.Verdict.{Verdict}
use Rattle.call_gets.specs.declared.judged.Verdict.TheVariants.{Meets, Open, Closed}

-- looks, however many: nothing is changed, and their count, which has 64 bits, doesn't fall
pub record LooksOn (failed : Type 0) (old new : WalkView) : Type 0 where
  pub faults : Fails failed old.faults new.faults new.live
  pub looks : min old.looks (2 ^ 64 - 1) ≤ new.looks
  pub schema : new.schema ≡ old.schema
  pub forest : new.forest ≡ old.forest
  pub free : new.free ≡ old.free

abbrev pub plain_view : Schema → List Row → List Spot
plain_view schema rows = view_of schema None rows

-- an element as the view has it at its place
abbrev pub IsFound : List Spot → Spot → Type 0
IsFound view spot = found_at spot.at view ≡ Some spot

-- where the list is told, these are elements of its view
abbrev pub IsShown : Schema → WalkView → Spot → Type 0
IsShown schema seen spot = ForSome seen.forest (λ rows. IsFound (plain_view schema rows) spot)

pub record AreFound (view path : List Spot) (next : Option Spot) : Type 0 where
  pub along : All (IsFound view) path
  pub ahead : IfSome next (IsFound view)

abbrev pub AreShown : Schema → WalkView → List Spot → Option Spot → Type 0
AreShown schema seen path next = ForSome seen.forest (λ rows. AreFound (plain_view schema rows) path next)

-- ---- one element

-- the element of an SSA's type on a path
abbrev pub of_ssa : Schema → Ssa → List Spot → Option Spot
of_ssa schema ssa path = option_and_then (λ code. find (λ spot. spot.code == code) path) (code_named schema ssa.seg)

abbrev pub Holds : Schema → WalkView → Ssa → Spot → Bool → Type 0
Holds schema seen ssa spot holds = IfSome seen.forest (λ rows. holds ≡ ssa_holds schema None (plain_view schema rows) ssa spot)

-- whether an SSA holds for the element of its type on a path
abbrev pub IsOn : Schema → List Spot → List Spot → Ssa → Option Bool → Type 0
IsOn schema view path ssa on = on ≡ option_map (ssa_holds schema None view ssa) (of_ssa schema ssa path)

-- nothing whose path goes on from this one, by types one below the other, meets the SSAs
abbrev pub IsClosed : Schema → List Spot → List Ssa → List Spot → Type 0
IsClosed schema view ssas path =
    (more : List Spot) (x : Spot) → goes_down schema.types None (path ++ more) ≡ true → last_or None (path ++ more) ≡ Some x → meets schema None view ssas (path ++ more, x) ≡ false

-- whether the last SSA's type is that of a code, or below it; any may lead to what no SSA asks for
abbrev pub may_lead : Schema → List Ssa → ℕ → Bool
may_lead schema ssas code = option_map_or (λ ssa. option_map_or (is_in_subtree schema code) (code_named schema ssa.seg) false) (last_or None ssas) true

abbrev pub IsVerdict : Schema → List Spot → List Ssa → List Spot → Spot → Verdict → Type 0
IsVerdict schema view ssas path spot Meets = meets schema None view ssas (path, spot) ≡ true
IsVerdict schema view ssas path spot Open = meets schema None view ssas (path, spot) ≡ false
IsVerdict schema view ssas path spot Closed = IsClosed schema view ssas path

-- ---- the path to a place

abbrev pub path_of : Anchor → List Spot → List Spot
path_of Front view = []
path_of (At name root entry) view = option_map_or (λ p. p.0) (find (λ p. is_at (At name root entry) p.1) (on_paths view)) []

-- the path to a place, of elements as the view has them
pub record IsPath (view : List Spot) (at : Anchor) (path : List Spot) : Type 0 where
  pub same : path ≡ path_of at view
  pub found : All (IsFound view) path

-- the level of the first element of a path that is at a place
abbrev pub level_at : List Spot → Anchor → Option ℕ
level_at path at = option_map (λ (spot : Spot). spot.level) (find (is_at at) path)

-- ---- many

-- an element, and what stands behind it
abbrev pub from_on : List Spot → Option Spot → List Spot
from_on view None = []
from_on view (Some spot) = spot ∷ behind spot.at view

-- on each path from an element on each type is right below the one before it
abbrev pub AllGoDown : Schema → List Spot → List Spot → Option Spot → Type 0
AllGoDown schema view path next = list_all (λ p. goes_down schema.types None p.0) (with_paths (λ spot. spot.level) path (from_on view next)) ≡ true

-- a scan goes below an element of this level, and no further than what is deeper
abbrev pub is_inside : Option ℕ → Spot → Bool
is_inside top spot = option_map_or (λ level. nat_lt level spot.level) top true

-- the first that passes the test, up to the first that isn't inside
abbrev pub first_inside : Option ℕ → (OnPath → Bool) → List OnPath → Option OnPath
first_inside top test [] = None
first_inside top test (p ∷ paths) = if not (is_inside top p.1) then None else if test p then Some p else first_inside top test paths

-- what a scan finds that goes on at an element, behind a path
abbrev pub met_from : Schema → List Spot → List Ssa → Option ℕ → List Spot → Option Spot → Option OnPath
met_from schema view ssas top path next = first_inside top (meets schema None view ssas) (with_paths (λ spot. spot.level) path (from_on view next))

-- what a scan finds behind a place
abbrev pub met_behind : Schema → List Ssa → Option ℕ → Anchor → List Spot → Option OnPath
met_behind schema ssas top at view = first_inside top (meets schema None view ssas) (with_paths (λ spot. spot.level) (path_of at view) (behind at view))

abbrev pub on_its_path : Met → OnPath
on_its_path met = (met.above.items ++ met.spot ∷ [], met.spot)

abbrev pub IsFirstMet : Schema → WalkView → List Ssa → Option ℕ → List Spot → Option Spot → Option Met → Type 0
IsFirstMet schema seen ssas top path next met =
    IfSome seen.forest (λ rows. option_map on_its_path met ≡ met_from schema (plain_view schema rows) ssas top path next)

-- what one step of a scan leaves to be found: nothing, since this is it, or what it finds that goes on at another element
abbrev pub IsStep : Schema → List Spot → List Ssa → Option ℕ → Option OnPath → List Spot → Step → Type 0
IsStep schema view ssas top met path (Ends found) = met ≡ Some (path ++ found ∷ [], found)
IsStep schema view ssas top met path (GoesOn next) = (met ≡ met_from schema view ssas top path next) × AreFound view path next × AllGoDown schema view path next

abbrev pub Steps : Schema → WalkView → List Ssa → Option ℕ → List Spot → Spot → List Spot → Step → Type 0
Steps schema seen ssas top old spot new step =
    IfSome seen.forest (λ rows. let view = plain_view schema rows in IsStep schema view ssas top (met_from schema view ssas top old (Some spot)) new step)

-- ---- how often a scan looks

-- how many elements of a list stand before the first that a scan goes no further than
abbrev pub inside_ahead : Option ℕ → List Spot → ℕ
inside_ahead top [] = 0
inside_ahead top (spot ∷ more) = if is_inside top spot then 1 + inside_ahead top more else 0

-- fewer of them are ahead after a step that goes on
abbrev pub IsNearer : Option ℕ → List Spot → Spot → Step → Type 0
IsNearer top view spot (Ends found) = Unit {0}
IsNearer top view spot (GoesOn next) = 1 + inside_ahead top (from_on view next) ≤ inside_ahead top (from_on view (Some spot))

-- where no SSA has L, there are no more looks than this, which the list says where it is told
abbrev pub LooksWithin : List Ssa → WalkView → WalkView → (List Row → ℕ) → Type 0
LooksWithin ssas old new most = list_any asks_last ssas ≡ false → IfSome old.forest (λ rows. new.looks ≤ old.looks + most rows)

-- ---- gets

-- what a GNP finds: the first behind one place and below another that meets the SSAs
abbrev pub met_below : Schema → List Ssa → Anchor → Anchor → List Spot → Option OnPath
met_below schema ssas at parent view = find (meets schema None view ssas) (filter (is_below_parent (Some parent)) (paths_behind at (on_paths view)))

-- where the list is told, this is what is wanted of its view
abbrev pub IsGot : Schema → WalkView → (List Spot → Option OnPath) → Option Met → Type 0
IsGot schema seen wanted met = IfSome seen.forest (λ rows. option_map on_its_path met ≡ wanted (plain_view schema rows))

-- where the list is told, this is the decision of a call, however many blocks are free
abbrev pub IsDecided : Schema → WalkView → Session → Call → Decision → Type 0
IsDecided schema seen session call decision = IfSome seen.forest (λ rows. (free : ℕ) → decision ≡ decision_of schema rows free session call)
