use Rattle.std.proofs.Common.{◌≡◌, ℕ, zero, suc, ◌<◌, List, [], ◌∷◌, length, Option, sym, ap, arith}
use Rattle.std.specs.Prelude.{option_and_then}
use Rattle.std.specs.Option.{option_map_or}
use Rattle.std.proofs.lemmas.Option.{slice_get_past}
use Rattle.hal_schema.specs.declared.schema.SegType.{SegType}
use Rattle.hal_schema.specs.SegType.{parent_code, ancestry_within, level_of}
use Rattle.hal_schema.proofs.segment.level_of.Goals as goal

-- a code that no type has stands alone
unknown_level : (types : List SegType) (code : ℕ) → 0 < code → length types < code → level_of types code ≡ 1
unknown_level types zero h k = absurd (omega arith)
unknown_level types (suc place) h k =
    ap (λ (o : Option SegType). length (suc place ∷ option_map_or (ancestry_within place (parent_code types)) (option_and_then (λ t. t.parent) o) []))
    (slice_get_past types place (omega arith))

pub returns-then-code-len : goal.returns-then-code-len
returns-then-code-len c = sym (unknown_level c.args.schema.now.types c.args.code (omega arith) (omega arith))
