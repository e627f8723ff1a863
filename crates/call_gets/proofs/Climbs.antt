-- One step from a type to its parent.
use Rattle.std.proofs.Common.{◌≡◌, ℕ, suc, ◌==◌, Bool, false, Option, [], Some, ap, ◌∙◌}
use Rattle.std.specs.Prelude.{◌||◌}
use Rattle.std.specs.List.{list_any}
use Rattle.std.specs.Option.{option_map_or}
use Rattle.hal_schema.specs.SegType.{ancestry_within}

pub one_up : (most m above at up : ℕ) (parent : ℕ → Option ℕ) → most ≡ suc m → (at == above) ≡ false → parent at ≡ Some up
    → list_any (λ c. c == above) (ancestry_within most parent at) ≡ list_any (λ c. c == above) (ancestry_within m parent up)
one_up most m above at up parent e h k =
    ap (λ n. list_any (λ c. c == above) (ancestry_within n parent at)) e
    ∙ ap (λ (b : Bool). b || list_any (λ c. c == above) (option_map_or (ancestry_within m parent) (parent at) [])) h
    ∙ ap (λ (o : Option ℕ). list_any (λ c. c == above) (option_map_or (ancestry_within m parent) o [])) k
