-- Whether an SSA asks for a root key above every high key.
use Rattle.std.proofs.Common.{◌≡◌, ℕ, ◌==◌, Bool, true, false, ◌&&◌, List, length, Option, None, Some, sym, ap, ◌∙◌}
use Rattle.std.specs.List.{list_any}
use Rattle.std.specs.Option.{option_map_or}
use Rattle.std.proofs.lemmas.Bool.{eqb-true, and_parts}
use Rattle.hal_schema.specs.declared.schema.Schema.{Schema}
use Rattle.call_text.specs.declared.line.Clause.{Clause}
use Rattle.call_text.specs.declared.line.Ssa.{Ssa}
use Rattle.dli_calls.specs.Ssas.{code_named, subject_of}
use Rattle.dli_calls.specs.Refusals.{asks_high_root, is_high_value}

abbrev pub asks_by : Schema → List Clause → ℕ → Bool
asks_by schema clauses code = list_any (λ (clause : Clause). is_high_value schema clause (subject_of schema None code clause.field)) clauses

pub asks_so : (schema : Schema) (ssa : Ssa) (any : Bool) → (option_map_or (λ code. code == 1) (code_named schema ssa.seg) false && (length ssa.clauses == 1)) ≡ true → any ≡ asks_by schema ssa.clauses 1
    → any ≡ asks_high_root schema ssa
asks_so schema ssa any h e =
    let a = and_parts (option_map_or (λ code. code == 1) (code_named schema ssa.seg) false) (length ssa.clauses == 1) h in
    e ∙ sym (ap (λ b. b && option_map_or (asks_by schema ssa.clauses) (code_named schema ssa.seg) false) h ∙ by (code_named schema ssa.seg) a.0)
  where
    by : (o : Option ℕ) → option_map_or (λ code. code == 1) o false ≡ true → option_map_or (asks_by schema ssa.clauses) o false ≡ asks_by schema ssa.clauses 1
    by None k = absurd (let no : ⊥ = cc in no)
    by (Some code) k = ap (asks_by schema ssa.clauses) (eqb-true code 1 k)

pub asks_not : (schema : Schema) (ssa : Ssa) → (option_map_or (λ code. code == 1) (code_named schema ssa.seg) false && (length ssa.clauses == 1)) ≡ false → false ≡ asks_high_root schema ssa
asks_not schema ssa h = sym (ap (λ b. b && option_map_or (asks_by schema ssa.clauses) (code_named schema ssa.seg) false) h)
