-- Which elements of a view meet a list of SSAs. IMS: qualification.
use Rattle.std.specs.Prelude.{ℕ, ◌==◌, nat_le, Bool, true, false, not, ◌&&◌, ◌||◌, List, [], ◌∷◌, find, filter, take_while, Option, None, if◌then◌else◌}
use Rattle.std.specs.List.{list_all, list_any, last_or}
use Rattle.std.specs.Option.{option_map_or}
use Rattle.hal_schema.specs.declared.schema.Schema.{Schema}
use Rattle.hal_schema.specs.Paths.{with_paths}
use Rattle.call_text.specs.declared.line.Clause.{Clause}
use Rattle.call_text.specs.declared.line.Ssa.{Ssa}
use Rattle.position_state.specs.declared.spot.Spot.{Spot}
use Rattle.position_state.specs.View.{behind}
use Rattle.dli_calls.specs.Ssas.{code_named, clause_holds, asks_last}

-- the elements of a view with their paths, carried along by levels; in a view by an index a path begins at the target
abbrev pub on_paths : List Spot → List (List Spot × Spot)
on_paths view = with_paths (λ spot. spot.level) [] view

-- whether what began holds with the clauses that follow: AND binds tighter than OR
abbrev pub goes_on : (Clause → Bool) → Bool → List Clause → Bool
goes_on holds group [] = group
goes_on holds group (clause ∷ more) = if clause.or then group || goes_on holds (holds clause) more else goes_on holds (group && holds clause) more

abbrev pub clauses_hold : (Clause → Bool) → List Clause → Bool
clauses_hold holds [] = true
clauses_hold holds (clause ∷ more) = goes_on holds (holds clause) more

-- the later rows of the same type under the same parent; roots are twins, and so are the targets of a view by an index
abbrev pub later_twins : List Spot → Spot → List Spot
later_twins view spot = filter (λ other. other.code == spot.code) (take_while (λ other. nat_le spot.level other.level) (behind spot.at view))

-- an element of the SSA's type makes its clauses true; with L no later twin makes them true
abbrev pub ssa_holds : Schema → Option ℕ → List Spot → Ssa → Spot → Bool
ssa_holds schema index view ssa spot =
    let holds : Spot → Bool = λ other. clauses_hold (clause_holds schema index spot.code other) ssa.clauses in
    holds spot && not (asks_last ssa && list_any holds (later_twins view spot))

-- on the path stands an element of the SSA's type for which it holds
abbrev pub holds_on : Schema → Option ℕ → List Spot → List Spot → Ssa → Bool
holds_on schema index view path ssa =
    option_map_or (λ code. option_map_or (ssa_holds schema index view ssa) (find (λ spot. spot.code == code) path) false) (code_named schema ssa.seg) false

abbrev pub is_of : Schema → Spot → Ssa → Bool
is_of schema spot ssa = option_map_or (λ code. code == spot.code) (code_named schema ssa.seg) false

-- the element is of the last SSA's type, and each SSA holds on its path; every element meets the empty list
abbrev pub meets : Schema → Option ℕ → List Spot → List Ssa → List Spot × Spot → Bool
meets schema index view ssas p = option_map_or (is_of schema p.1) (last_or None ssas) true && list_all (holds_on schema index view p.0) ssas
