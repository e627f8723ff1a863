-- What a call's text names.
use Rattle.std.specs.Prelude.{ℕ, Bool, true, List, filter_map, Option, None, Some}
use Rattle.hal_schema.specs.declared.schema.Schema.{Schema}
use Rattle.call_text.specs.declared.line.Ssa.{Ssa}
use Rattle.dli_calls.specs.Ssas.{code_named}

-- the codes of the types that are known
abbrev pub codes_in : Schema → List Ssa → List ℕ
codes_in schema ssas = filter_map (λ (ssa : Ssa). code_named schema ssa.seg) ssas

-- of two codes, where both are known
abbrev pub stand_so : (ℕ → ℕ → Bool) → Option ℕ → Option ℕ → Bool
stand_so test (Some above) (Some code) = test above code
stand_so test above code = true

abbrev pub later_of : Option ℕ → Option ℕ → Option ℕ
later_of above None = above
later_of above (Some code) = Some code
