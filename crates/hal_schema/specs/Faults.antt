-- What a refusal of a definition says.
use Rattle.std.specs.Prelude.{◌≡◌, ℕ, List, Option, Some, ⊤}
use Rattle.hal_schema.specs.declared.fault.Place.{Place}
use Rattle.hal_schema.specs.declared.fault.SchemaFault.{SchemaFault}
use Rattle.hal_schema.specs.declared.fault.SchemaFault.TheVariants.{Rule, Memory}
use Rattle.hal_schema.specs.Places.{least}

-- this rule, at the first of the places where it is broken, or want of memory
abbrev pub IsFaultAt : ℕ → List Place → SchemaFault → Type 0
IsFaultAt rule places Memory = ⊤
IsFaultAt rule places (Rule r part line) = (r ≡ rule) × (least places ≡ Some (record { part = part; line = line }))

-- the fault that is found first, or want of memory
abbrev pub IsFault : Option (ℕ × Place) → SchemaFault → Type 0
IsFault first Memory = ⊤
IsFault first (Rule r part line) = first ≡ Some (r, record { part = part; line = line })
