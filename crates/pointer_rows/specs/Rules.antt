-- The words that the rules of a sound volume have for a pointer and its target, beside those of a secondary index.
use Rattle.std.specs.Prelude.{ℕ, List, Option}
use Rattle.hal_base.specs.declared.place.PartState.{PartState}
use Rattle.hal_schema.specs.declared.schema.PartDef.{PartDef}
use Rattle.eps_pointers.specs.declared.pointer.Eps.{Eps}
use Rattle.eps_pointers.specs.declared.pointer.Ile.{Ile}
use Rattle.volume_rules.specs.View as rules
use Rattle.volume_rules.specs.View.{View, Home}
use Rattle.volume_rules.specs.Target as target
use Rattle.volume_rules.specs.Target.{Pointer}

abbrev pub ruled_generation : PartDef → PartState → List ℕ → ℕ
ruled_generation = rules.generation_of

abbrev pub ruled_target : View → Pointer → Option Home
ruled_target = target.target_of

-- the pointer that an index entry has
abbrev pub pointer_of : Eps → List ℕ → ℕ → Pointer
pointer_of eps root code = record { eps = record { part = eps.part; number = eps.number; addr = eps.addr; name = eps.ilk }; root = root; code = code }

abbrev pub home_of : Ile → Home
home_of ile = record { number = ile.number; addr = ile.addr }

abbrev pub home_in : ℕ → ℕ → Home
home_in now addr = record { number = now; addr = addr }
