-- The target of a pointer in the words of the rules of a volume.
use Rattle.std.proofs.Common.{◌≡◌, ℕ, Bool, true, false, cond, Option, Some, None, refl, ap}
use Rattle.std.specs.Option.{option_map}
use Rattle.eps_pointers.specs.declared.pointer.Ile.{Ile}
use Rattle.volume_rules.specs.View.{Home}
use Rattle.pointer_rows.specs.Rules.{home_of, home_in}

pub led : (direct : Bool) (now addr : ℕ) (ruled : Option Home) (listed : Option Ile) → ruled ≡ option_map home_of listed
    → cond direct (Some (home_in now addr)) (option_map (λ (home : Home). home_in now home.addr) ruled) ≡ option_map (home_in now) (cond direct (Some addr) (option_map (λ (ile : Ile). ile.addr) listed))
led true now addr ruled listed is = refl
led false now addr ruled None is = ap (option_map (λ (home : Home). home_in now home.addr)) is
led false now addr ruled (Some ile) is = ap (option_map (λ (home : Home). home_in now home.addr)) is
