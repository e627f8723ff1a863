-- What a reader of a definition's text answers.
use Rattle.std.specs.Prelude.{◌≡◌, Result, Err}
use Rattle.hal_schema.specs.declared.text_fault.TextFault.{TextFault}
use Rattle.hal_schema.specs.declared.text_fault.TextFault.TheVariants as faults

-- What a reader returned is this, unless memory ran out.
abbrev pub Says : {X : Type 0} → Result X TextFault → Result X TextFault → Type 0
Says (Err faults.Memory) meaning = Unit {0}
Says result meaning = meaning ≡ result
