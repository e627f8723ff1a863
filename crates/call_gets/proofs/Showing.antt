-- The content that a get shows.
use Rattle.std.proofs.Common.{◌≡◌, ℕ, Bool, true, false, cond, ◌&&◌, List, [], ◌∷◌, ◌++◌, refl, sym, ap, ◌∙◌, arith}
use Rattle.std.specs.Prelude.{nat_lt, filter, flat_map}
use Rattle.std.specs.List.{list_any}
use Rattle.std.proofs.lemmas.Bool.{and_parts, le-ltb}
use Rattle.std.proofs.lemmas.List.{append-nil}
use Rattle.std.proofs.lemmas.List.Elements.{filter-append}
use Rattle.hal_schema.specs.declared.schema.Schema.{Schema}
use Rattle.call_text.specs.declared.line.Ssa.{Ssa}
use Rattle.position_state.specs.declared.spot.Spot.{Spot}
use Rattle.dli_calls.specs.Ssas.{asks_data}
use Rattle.dli_calls.specs.Meets.{is_of}
use Rattle.dli_calls.specs.Gets.{shown_content}

abbrev pub asked : Schema → List Ssa → Spot → Bool
asked schema ssas above = list_any (λ ssa. asks_data ssa && is_of schema above ssa) ssas

-- the content of those of a path that are above a level and asked for
abbrev pub shown_of : Schema → List Ssa → ℕ → List Spot → List ℕ
shown_of schema ssas level path = flat_map (λ (above : Spot). above.content) (filter (asked schema ssas) (filter (λ (above : Spot). nat_lt above.level level) path))

pub shown_yes : (schema : Schema) (ssas : List Ssa) (level : ℕ) (x : Spot) (rest : List Spot) → true ≡ (nat_lt x.level level && asked schema ssas x)
    → shown_of schema ssas level (x ∷ rest) ≡ x.content ++ shown_of schema ssas level rest
shown_yes schema ssas level x rest e =
    let a = and_parts (nat_lt x.level level) (asked schema ssas x) (sym e) in
    let above : List Spot = filter (λ (y : Spot). nat_lt y.level level) rest in
    ap (λ b. flat_map (λ (y : Spot). y.content) (filter (asked schema ssas) (cond b (x ∷ above) above))) a.0
    ∙ ap (λ b. flat_map (λ (y : Spot). y.content) (cond b (x ∷ filter (asked schema ssas) above) (filter (asked schema ssas) above))) a.1

pub shown_no : (schema : Schema) (ssas : List Ssa) (level : ℕ) (x : Spot) (rest : List Spot) → false ≡ (nat_lt x.level level && asked schema ssas x)
    → shown_of schema ssas level (x ∷ rest) ≡ shown_of schema ssas level rest
shown_no schema ssas level x rest e = by (nat_lt x.level level) e
  where
    above : List Spot
    above = filter (λ (y : Spot). nat_lt y.level level) rest

    by : (l : Bool) → false ≡ (l && asked schema ssas x) → flat_map (λ (y : Spot). y.content) (filter (asked schema ssas) (cond l (x ∷ above) above)) ≡ shown_of schema ssas level rest
    by true k = ap (λ b. flat_map (λ (y : Spot). y.content) (cond b (x ∷ filter (asked schema ssas) above) (filter (asked schema ssas) above))) (sym k)
    by false k = refl

pub shown_all : (schema : Schema) (ssas : List Ssa) (above : List Spot) (s : Spot) → shown_content schema ssas (above ++ s ∷ [], s) ≡ shown_of schema ssas s.level above ++ s.content
shown_all schema ssas above s =
    ap (λ (ys : List Spot). flat_map (λ (y : Spot). y.content) (filter (asked schema ssas) ys) ++ s.content)
    (filter-append (λ (y : Spot). nat_lt y.level s.level) above (s ∷ []) ∙ ap (λ b. filter (λ (y : Spot). nat_lt y.level s.level) above ++ cond b (s ∷ []) []) (le-ltb s.level s.level (omega arith))
    ∙ append-nil (filter (λ (y : Spot). nat_lt y.level s.level) above))
