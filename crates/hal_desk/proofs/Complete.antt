-- A told text within the limit, with no fault counted, is done to its end, unless memory runs out.
use Rattle.std.proofs.Common.{◌≡◌, ℕ, ◌≤◌, ◌⊎◌, List, length, Option, None, Some, refl, ap, inl, inr, arith, length-append}
use Rattle.std.specs.Io.KnownBytes.{Consumes}
use Rattle.hal_base.specs.Fault.{Rose}
use Rattle.script_runs.specs.TakerView.{TakerView}
use Rattle.script_runs.specs.Taken.{Meaning}
use Rattle.script_runs.specs.Script.{SourceView, RanScript, HasItsCause, status_of, limit}
use Rattle.script_runs.specs.declared.ending.Ending.{Ending}
use Rattle.script_runs.specs.declared.ending.Ending.TheVariants.{Done, ReadFault, DiskFault, SayFault, Memory, TooLong}

-- what was taken of a text is no longer than it
pub taken_within : (text taken : List ℕ) (after : Option (List ℕ)) → Consumes (Some text) after taken → length taken ≤ length text
taken_within text taken None read = absurd read
taken_within text taken (Some rest) read = omega (arith, ap (λ (l : List ℕ). length l) read, length-append taken rest)

ends_well : {S : Type 0} (ending : Ending) (before after : SourceView) (old new : TakerView S) → HasItsCause ending before after old new → (Rose before.read_faults after.read_faults → ⊥) → (Rose old.say_faults new.say_faults → ⊥) → (Rose old.disk_faults new.disk_faults → ⊥)
    → (ending ≡ TooLong → ⊥) → (status_of ending ≡ 0) ⊎ (status_of ending ≡ 8)
ends_well Done before after old new cause reads says disks short = inl refl
ends_well Memory before after old new cause reads says disks short = inr refl
ends_well ReadFault before after old new cause reads says disks short = absurd (reads cause)
ends_well SayFault before after old new cause reads says disks short = absurd (says cause)
ends_well DiskFault before after old new cause reads says disks short = absurd (disks cause)
ends_well TooLong before after old new cause reads says disks short = absurd (short refl)

pub complete : {S : Type 0} (meaning : Meaning S) (before after : SourceView) (old new : TakerView S) (ending : Ending) (text : List ℕ) → RanScript meaning before after old new ending → before.left ≡ Some text → length text ≤ limit
    → (Rose before.read_faults after.read_faults → ⊥) → (Rose old.say_faults new.say_faults → ⊥) → (Rose old.disk_faults new.disk_faults → ⊥)
    → (status_of ending ≡ 0) ⊎ (status_of ending ≡ 8)
complete meaning before after old new ending text ran tells within reads says disks =
    let short : length ran.taken ≤ length text = taken_within text ran.taken after.left (rw tells at ran.read) in
    ends_well ending before after old new ran.cause reads says disks (λ long. absurd (omega (arith, ran.past_limit.0 long, short, within)))
