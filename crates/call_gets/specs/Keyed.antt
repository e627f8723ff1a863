-- A GU by the root's key: of the root alone, or of what is below it. IMS: a call whose first SSA is qualified on the sequence
-- field alone.
use Rattle.std.specs.Prelude.{ℕ, ◌+◌, ◌==◌, nat_lt, Bool, false, not, ◌&&◌, List, [], ◌∷◌, codes, Option, None, Some, IfSome, option_and_then, if◌then◌else◌}
use Rattle.std.specs.List.{count_by, last_or, slice_get}
use Rattle.std.specs.Option.{option_map_or}
use Rattle.std.specs.Str.{bytes_eq}
use Rattle.hal_schema.specs.declared.schema.Schema.{Schema}
use Rattle.position_state.specs.declared.spot.Spot.{Spot}
use Rattle.position_state.specs.Looks.{WalkView, first_behind, root_of_key}
use Rattle.position_state.specs.View.{root_named}
use Rattle.call_text.specs.declared.line.Call.{Call}
use Rattle.call_text.specs.declared.line.Clause.{Clause}
use Rattle.call_text.specs.declared.line.Ssa.{Ssa}
use Rattle.dli_calls.specs.Ssas.{Subject, Content, Search, asks_last, code_named, fitted, subject_of}
use Rattle.dli_calls.specs.Gets.{OnPath, is_unique}
use Rattle.dli_calls.specs.Refusals.{is_at_root_key}
use Rattle.call_gets.specs.Scan.{LooksWithin, met_from, plain_view}

abbrev pub one_of : {X : Type 0} → List X → Option X
one_of [] = None
one_of (x ∷ []) = Some x
one_of (x ∷ y ∷ more) = None

-- the value that a clause wants the root key to equal
abbrev pub key_wanted : Schema → Clause → Option Subject → Option (List ℕ)
key_wanted schema clause None = None
key_wanted schema clause (Some (Search bytes)) = None
key_wanted schema clause (Some (Content f)) = if is_at_root_key schema f && bytes_eq clause.op (codes "=") then fitted f.bytes clause.value else None

-- the root key that an SSA asks for: the root's, without L, with exactly one such clause
abbrev pub root_wanted : Schema → Ssa → Option (List ℕ)
root_wanted schema ssa =
    if option_map_or (λ code. code == 1) (code_named schema ssa.seg) false && not (asks_last ssa)
    then option_and_then (λ clause. key_wanted schema clause (subject_of schema None 1 clause.field)) (one_of ssa.clauses) else None

-- the root key that a GU asks for whose only SSA asks for one
abbrev pub keyed_by : Schema → Call → Option (List ℕ)
keyed_by schema call = if is_unique call then option_and_then (root_wanted schema) (one_of call.ssas) else None

-- the last SSA is of a type below the root's
abbrev pub goes_below : Schema → List Ssa → Bool
goes_below schema ssas = option_map_or (λ ssa. option_map_or (λ code. nat_lt 1 code) (code_named schema ssa.seg) false) (last_or None ssas) false

-- the root key that a GU asks for by its first SSA, and goes on to what is below that root
abbrev pub keyed_path : Schema → Call → Option (List ℕ)
keyed_path schema call = if is_unique call && goes_below schema call.ssas then option_and_then (root_wanted schema) (slice_get call.ssas 0) else None

-- how many elements are under the root with a key: those of its record
abbrev pub rows_under : List ℕ → List Spot → ℕ
rows_under key view = count_by (λ spot. bytes_eq (root_named spot.at) key) view

-- where a GU asks for a root key and goes on, and no SSA has L, there are no more looks than two and one for each element of
-- that record
abbrev pub IsWithinRecord : Schema → Call → WalkView → WalkView → Type 0
IsWithinRecord schema call old new = IfSome (keyed_path schema call) (λ key. LooksWithin call.ssas old new (λ rows. 2 + rows_under key (plain_view schema rows)))

-- what a scan finds of the record of the root with a key, below the root
abbrev pub met_in_record : Schema → List Ssa → List ℕ → List Spot → Option OnPath
met_in_record schema ssas key view =
    option_and_then (λ root. met_from schema view ssas (Some 1) (root ∷ []) (first_behind root.at view)) (root_of_key key view)
