-- What a call that runs a whole script did.
use Rattle.std.specs.Prelude.{◌≡◌, ◌↔◌, ℕ, ◌+◌, ◌≤◌, ◌++◌, Bool, true, false, List, [], length, take, Option, None, Some, IsTrue}
use Rattle.std.specs.Io.KnownBytes.{Consumes, IsAtEnd}
use Rattle.std.specs.Str.Lines.{lines}
use Rattle.hal_base.specs.Fault.{Rose}
use Rattle.hal_base.specs.declared.source.Source.{Ghosts as Source}
use Rattle.script_runs.specs.Language.{Step}
use Rattle.script_runs.specs.Lines.{ended_lines, rest_of}
use Rattle.script_runs.specs.TakerView.{TakerView, is_ready}
use Rattle.script_runs.specs.Taken.{Meaning, Lines, DidLines}
use Rattle.script_runs.specs.declared.taker.EngineFault.{EngineFault}
use Rattle.script_runs.specs.declared.taker.EngineFault.TheVariants as engine
use Rattle.script_runs.specs.declared.ending.Ending.{Ending}
use Rattle.script_runs.specs.declared.ending.Ending.TheVariants.{Done, ReadFault, DiskFault, SayFault, Memory, TooLong}

-- what is seen of a source: what it has left, where that is told, and how often a read failed
pub record SourceView : Type 0 where
  pub left : Option (List ℕ)
  pub read_faults : ℕ

-- by what its trait tells of it
abbrev pub source_view : {X : Type 0} → Source X → X → SourceView
source_view tells source = record { left = tells.left source; read_faults = tells.read_faults source }

-- the most bytes that a script may have
abbrev pub limit : ℕ
limit = 67108864

abbrev pub status_of : Ending → ℕ
status_of Done = 0
status_of DiskFault = 4
status_of ReadFault = 5
status_of SayFault = 6
status_of Memory = 8
status_of TooLong = 10

abbrev pub ending_of : EngineFault → Ending
ending_of engine.DiskFault = DiskFault
ending_of engine.SayFault = SayFault
ending_of engine.Memory = Memory

-- the fault of the taker that ended a run, if one did
abbrev pub fault_of : Ending → Option EngineFault
fault_of DiskFault = Some engine.DiskFault
fault_of SayFault = Some engine.SayFault
fault_of Memory = Some engine.Memory
fault_of other = None

-- The lines that a run may take: all of the text where the source was found at its end, else those whose end was read;
-- past the limit those that ended within it.
abbrev pub due_lines : Bool → Ending → ℕ → List ℕ → List (List ℕ)
due_lines true ending most text = lines text
due_lines false TooLong most text = ended_lines (take most text)
due_lines false other most text = ended_lines text

-- the endings that leave no line which is due
abbrev pub AllDone : Ending → List (List ℕ) → Type 0
AllDone Done left = left ≡ []
AllDone ReadFault left = left ≡ []
AllDone TooLong left = left ≡ []
AllDone other left = Unit {0}

-- an ending that names a fault comes only where its count rose
abbrev pub HasItsCause : {S : Type 0} → Ending → SourceView → SourceView → TakerView S → TakerView S → Type 0
HasItsCause ReadFault before after old new = Rose before.read_faults after.read_faults
HasItsCause SayFault before after old new = Rose old.say_faults new.say_faults
HasItsCause DiskFault before after old new = Rose old.disk_faults new.disk_faults
HasItsCause other before after old new = Unit {0}

-- whether the source was found at its end: status 0 comes only there, and a fault of a read or a byte past the limit
-- comes before it
abbrev pub HasItsEnd : Ending → Bool → Type 0
HasItsEnd Done whole = whole ≡ true
HasItsEnd ReadFault whole = whole ≡ false
HasItsEnd TooLong whole = whole ≡ false
HasItsEnd other whole = Unit {0}

-- after a fault of the disk the taker may be used no more; after any other ending it is ready for another script
abbrev pub IsLeftAt : {S : Type 0} → Ending → TakerView S → Type 0
IsLeftAt DiskFault view = view.live ≡ false
IsLeftAt other view = IsTrue (is_ready view)

-- What was taken of the source, the events of its lines, and at most one more that a fault cut short. Before it some bytes
-- of a line were read, with its number, and so many more may be.
pub record RanFrom {S : Type 0} (meaning : Meaning S) (line : List ℕ) (number room : ℕ)
    (before after : SourceView) (old new : TakerView S) (ending : Ending) : Type 0 where
  pub taken : List ℕ
  pub read : Consumes before.left after.left taken
  -- whether the source was found at its end
  pub whole : Bool
  pub steps : List (Step S)
  pub begun : List (Step S)
  pub part : List ℕ
  pub left : List (List ℕ)
  pub lines : Lines meaning (fault_of ending) None (due_lines whole ending (length line + room) (line ++ taken)) number old new left steps begun part
  pub all_done : AllDone ending left
  pub at_end : whole ≡ true → IsAtEnd after.left
  pub found : HasItsEnd ending whole
  -- no more than one byte past the limit is read, and that ends the run
  pub within : length taken ≤ room + 1
  pub past_limit : (ending ≡ TooLong) ↔ (length taken ≡ room + 1)
  pub cause : HasItsCause ending before after old new
  pub ready : IsLeftAt ending new

-- A piece was read, and the lines that ended in it are done: the line that is begun now, its number, and how many more
-- bytes may be read.
pub record ReadOn {S : Type 0} (meaning : Meaning S) (begun : List ℕ) (from most : ℕ) (line_now : List ℕ) (number_now room_now : ℕ)
    (before after : SourceView) (old new : TakerView S) : Type 0 where
  pub piece : List ℕ
  pub read : Consumes before.left after.left piece
  pub room : room_now + length piece ≡ most
  pub line : line_now ≡ rest_of (begun ++ piece)
  pub number : number_now ≡ from + length (ended_lines (begun ++ piece))
  pub did : DidLines meaning None (ended_lines (begun ++ piece)) from old new

-- the counts of faults don't fall
pub record IsLater {S : Type 0} (before after : SourceView) (old new : TakerView S) : Type 0 where
  pub read : before.read_faults ≤ after.read_faults
  pub say : old.say_faults ≤ new.say_faults
  pub disk : old.disk_faults ≤ new.disk_faults

-- a whole script
abbrev pub RanScript : {S : Type 0} → Meaning S → SourceView → SourceView → TakerView S → TakerView S → Ending → Type 0
RanScript meaning before after old new ending = RanFrom meaning [] 1 limit before after old new ending
