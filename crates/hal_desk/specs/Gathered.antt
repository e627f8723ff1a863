-- A source that is taken in whole.
use Rattle.std.specs.Prelude.{ℕ, ◌≡◌, ◌+◌, ◌≤◌, List, length, Option, Result, MatchResult}
use Rattle.std.specs.Io.KnownBytes.{Consumes, IsAtEnd}
use Rattle.hal_base.specs.Fault.{Rose}
use Rattle.script_runs.specs.Script.{limit}
use Rattle.hal_desk.specs.declared.source.SourceFault.{SourceFault}
use Rattle.hal_desk.specs.declared.source.SourceFault.TheVariants.{ReadFault, TooLong, Memory}

-- why it wasn't, once so many bytes were taken: it is too long exactly where a byte past the limit was
abbrev pub IsCut : SourceFault → ℕ → ℕ → ℕ → Type 0
IsCut ReadFault count faults faults_now = (count ≤ limit) × Rose faults faults_now
IsCut TooLong count faults faults_now = count ≡ limit + 1
IsCut Memory count faults faults_now = count ≤ limit

abbrev pub status_of : SourceFault → ℕ
status_of ReadFault = 5
status_of Memory = 8
status_of TooLong = 10

-- the text is all that was left, within the limit
pub record Gathered (before after : Option (List ℕ)) (faults faults_now : ℕ) (result : Result (List ℕ) SourceFault) : Type 0 where
  pub taken : List ℕ
  pub read : Consumes before after taken
  pub later : faults ≤ faults_now
  pub ends : MatchResult result (λ text. (text ≡ taken) × (length taken ≤ limit) × IsAtEnd after) (λ fault. IsCut fault (length taken) faults faults_now)
