-- Why a call is refused: two tables in the order of the refusals, of which the first row that holds is said. The first
-- looks at the call and its session alone, the second at the view. IMS: status codes.
use Rattle.std.specs.Prelude.{ℕ, ◌==◌, nat_lt, Bool, true, false, not, ◌&&◌, ◌||◌, List, [], ◌∷◌, length, filter_map, codes, Option, None, Some, is_none, is_some, option_and_then, if◌then◌else◌}
use Rattle.std.specs.List.{list_all, list_any, last_or, slice_get}
use Rattle.std.specs.Option.{option_map_or}
use Rattle.std.specs.Str.{bytes_eq}
use Rattle.hal_schema.specs.declared.row.Row.{Row}
use Rattle.hal_schema.specs.declared.schema.Field.{Field}
use Rattle.hal_schema.specs.declared.schema.KeyField.{KeyField}
use Rattle.hal_schema.specs.declared.schema.Schema.{Schema}
use Rattle.hal_schema.specs.Insertion.{has_free_key, enters_freely}
use Rattle.hal_schema.specs.Roots.{partition_of}
use Rattle.hal_schema.specs.Row.{row_key}
use Rattle.hal_schema.specs.SegType.{type_of, ancestry, parent_code, is_parent_code}
use Rattle.hal_schema.specs.Span.{with_content, keeps_freely}
use Rattle.call_text.specs.declared.line.Call.{Call}
use Rattle.call_text.specs.declared.line.Clause.{Clause}
use Rattle.call_text.specs.declared.line.Ssa.{Ssa}
use Rattle.position_state.specs.declared.session.Session.{Session}
use Rattle.dli_calls.specs.Ssas.{Subject, Content, Search, code_named, index_of, subject_of, subject_bytes, fitted, operator_of, asks_data}
use Rattle.dli_calls.specs.Gets.{is_one_of, is_get, is_unique, is_next, is_within_parent, got}
use Rattle.dli_calls.specs.Changes.{inserted_code, has_parent, no_name, content_for, content_or_none, new_row, held_row, held_code, need_of_insert, need_of_replace}

abbrev pub first_that_holds : List (Bool × List ℕ) → Option (List ℕ)
first_that_holds [] = None
first_that_holds (row ∷ rows) = if row.0 then Some row.1 else first_that_holds rows

abbrev pub is_insert : Call → Bool
is_insert call = is_one_of call (codes "ISRT" ∷ [])

abbrev pub is_replace : Call → Bool
is_replace call = is_one_of call (codes "REPL" ∷ [])

abbrev pub is_delete : Call → Bool
is_delete call = is_one_of call (codes "DLET" ∷ [])

-- ---- call and session

-- R and D include G, and A stands for all (IMS: PROCOPT)
abbrev pub allows : List ℕ → Session → Bool
allows letters session = list_any (λ option. list_any (λ letter. option == letter) letters) session.options

abbrev pub is_not_allowed : Session → Call → Bool
is_not_allowed session call =
    (is_get call && not (allows (codes "GRDA") session))
    || (is_insert call && (not (allows (codes "IA") session) || is_some session.index))
    || (is_replace call && not (allows (codes "RA") session))
    || (is_delete call && (not (allows (codes "DA") session) || is_some session.index))

abbrev pub is_bare : Ssa → Bool
is_bare ssa = length ssa.codes == 0 && length ssa.clauses == 0

abbrev pub has_odd_code : Ssa → Bool
has_odd_code ssa = list_any (λ c. not (c == 68 || c == 76)) ssa.codes

abbrev pub has_odd_operator : Ssa → Bool
has_odd_operator ssa = list_any (λ clause. is_none (operator_of clause.op)) ssa.clauses

-- a clause of a known segment and field
abbrev pub any_subject : Schema → Option ℕ → (Clause → Option Subject → Bool) → Ssa → Bool
any_subject schema index test ssa = option_map_or (λ code. list_any (λ clause. test clause (subject_of schema index code clause.field)) ssa.clauses) (code_named schema ssa.seg) false

abbrev pub is_misfit : Clause → Option Subject → Bool
is_misfit clause subject = option_map_or (λ s. is_none (fitted (subject_bytes s) clause.value)) subject false

abbrev pub is_unknown : Clause → Option Subject → Bool
is_unknown clause subject = is_none subject

abbrev pub is_malformed : Schema → Session → Call → Bool
is_malformed schema session call =
    list_any has_odd_code call.ssas
    || (is_insert call && (list_any asks_data call.ssas || not (option_map_or is_bare (last_or None call.ssas) true)))
    || ((is_replace call || is_delete call) && not (length call.ssas == 0))
    || nat_lt 15 (length call.ssas)
    || list_any has_odd_operator call.ssas
    || list_any (any_subject schema session.index is_misfit) call.ssas

-- the test passes each one and the next
abbrev pub each_next : (ℕ → ℕ → Bool) → List ℕ → Bool
each_next test [] = true
each_next test (a ∷ []) = true
each_next test (a ∷ b ∷ more) = test a b && each_next test (b ∷ more)

abbrev pub is_in_subtree : Schema → ℕ → ℕ → Bool
is_in_subtree schema above code = list_any (λ c. c == above) (ancestry (parent_code schema.types) code)

abbrev pub is_below_type : Schema → ℕ → ℕ → Bool
is_below_type schema above code = is_in_subtree schema above code && not (code == above)

abbrev pub codes_of : Schema → Call → List ℕ
codes_of schema call = filter_map (λ (ssa : Ssa). code_named schema ssa.seg) call.ssas

-- a get's types go down, in a view by an index within the target's subtree; an ISRT's path starts at the root and leaves out no level
abbrev pub is_off_path : Schema → Session → Call → Bool
is_off_path schema session call =
    list_any (λ ssa. is_none (code_named schema ssa.seg)) call.ssas
    || (is_get call && not (each_next (is_below_type schema) (codes_of schema call)
    && option_map_or (λ index. list_all (is_in_subtree schema index.target) (codes_of schema call)) (index_of schema session.index) true))
    || (is_insert call && nat_lt 1 (length call.ssas) && not (option_map_or (λ code. code == 1) (slice_get (codes_of schema call) 0) false && each_next (is_parent_code schema.types) (codes_of schema call)))

abbrev pub text_refusals : Schema → Session → Call → List (Bool × List ℕ)
text_refusals schema session call =
    (not (is_get call || is_insert call || is_replace call || is_delete call), codes "AD")
    ∷ (is_not_allowed session call, codes "AM")
    ∷ (is_insert call && length call.ssas == 0, codes "AH")
    ∷ (is_malformed schema session call, codes "AJ")
    ∷ (list_any (any_subject schema session.index is_unknown) call.ssas, codes "AK")
    ∷ (is_off_path schema session call, codes "AC")
    ∷ (is_within_parent call && is_none session.parent, codes "GP")
    ∷ ((is_replace call || is_delete call) && is_none session.held, codes "DJ") ∷ []

-- ---- the view

abbrev pub has_no_data : Schema → List Row → Session → Call → Bool
has_no_data schema rows session call =
    if is_insert call then is_none (content_for schema (inserted_code schema call) call)
    else if is_replace call then is_none (content_for schema (held_code schema rows session) call)
    else is_some call.content

abbrev pub is_at_root_key : Schema → Field → Bool
is_at_root_key schema f = option_map_or (λ (k : KeyField). k.start == f.start && k.bytes == f.bytes) (option_and_then (λ t. t.key) (type_of schema.types 1)) false

-- a value for the root key that is above every high key
abbrev pub is_high_value : Schema → Clause → Option Subject → Bool
is_high_value schema clause None = false
is_high_value schema clause (Some (Search bytes)) = false
is_high_value schema clause (Some (Content f)) = is_at_root_key schema f && bytes_eq clause.op (codes "=") && option_map_or (λ key. is_none (partition_of schema key)) (fitted f.bytes clause.value) false

-- the root's SSA is exactly one such clause
abbrev pub asks_high_root : Schema → Ssa → Bool
asks_high_root schema ssa = option_map_or (λ code. code == 1) (code_named schema ssa.seg) false && length ssa.clauses == 1 && any_subject schema None (is_high_value schema) ssa

abbrev pub asks_for_high_root : Schema → Call → Bool
asks_for_high_root schema call = (is_unique call || is_insert call) && list_any (asks_high_root schema) call.ssas

abbrev pub inserts_high_root : Schema → List Row → Session → Call → Bool
inserts_high_root schema rows session call =
    let row = new_row schema rows call session no_name in is_insert call && row.code == 1 && is_none (partition_of schema (row_key schema.types row))

abbrev pub finds_nothing : Schema → List Row → Session → Call → Bool
finds_nothing schema rows session call = is_get call && is_none (got schema rows call session)

-- GN at the end of the view where no SSA has a clause
abbrev pub is_at_end : Schema → List Row → Session → Call → Bool
is_at_end schema rows session call = is_next call && finds_nothing schema rows session call && list_all (λ (ssa : Ssa). length ssa.clauses == 0) call.ssas

abbrev pub changes_key : Schema → List Row → Session → Call → Bool
changes_key schema rows session call =
    is_replace call
    && option_map_or (λ (p : List Row × Row). not (bytes_eq (row_key schema.types (with_content p.1 (content_or_none schema p.1.code call))) (row_key schema.types p.1))) (held_row schema rows session) false

-- the change would give an index a key that another entry has
abbrev pub takes_key : Schema → List Row → Session → Call → Bool
takes_key schema rows session call =
    if is_insert call then not (list_all (enters_freely schema.types rows (new_row schema rows call session no_name)) schema.indexes)
    else if is_replace call then option_map_or (λ (p : List Row × Row). not (list_all (keeps_freely schema.types rows (content_or_none schema p.1.code call) p.0 p.1) schema.indexes)) (held_row schema rows session) false
    else false

abbrev pub need_of : Schema → List Row → Session → Call → ℕ
need_of schema rows session call = if is_insert call then need_of_insert schema else if is_replace call then need_of_replace schema rows call session else 0

abbrev pub view_refusals : Schema → List Row → ℕ → Session → Call → List (Bool × List ℕ)
view_refusals schema rows free session call =
    (has_no_data schema rows session call, codes "+L")
    ∷ (is_none session.index && (asks_for_high_root schema call || inserts_high_root schema rows session call), codes "FM")
    ∷ ((finds_nothing schema rows session call && not (is_at_end schema rows session call)) || (is_insert call && not (has_parent schema rows call session)), codes "GE")
    ∷ (is_at_end schema rows session call, codes "GB")
    ∷ (is_insert call && not (has_free_key schema rows (new_row schema rows call session no_name)), codes "II")
    ∷ (changes_key schema rows session call, codes "DA")
    ∷ (takes_key schema rows session call, codes "NI")
    ∷ (nat_lt free (need_of schema rows session call), codes "+R") ∷ []

abbrev pub refusal_of : Schema → List Row → ℕ → Session → Call → Option (List ℕ)
refusal_of schema rows free session call = said (first_that_holds (text_refusals schema session call))
  where
    said : Option (List ℕ) → Option (List ℕ)
    said (Some status) = Some status
    said None = first_that_holds (view_refusals schema rows free session call)
