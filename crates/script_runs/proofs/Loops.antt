-- What the loops of a script keep.
use Rattle.std.proofs.Common.{◌≡◌, ℕ, ◌+◌, ◌^◌, ◌<◌, ◌≤◌, IsTrue, List, [], ◌∷◌, ◌++◌, length, None}
use Rattle.script_runs.specs.Lines.{parts_of, ended_lines, rest_of}
use Rattle.script_runs.specs.TakerView.{TakerView, is_ready}
use Rattle.script_runs.specs.Taken.{Meaning, DidLines}
use Rattle.script_runs.specs.Script.{SourceView, ReadOn, IsLater, limit}
use Rattle.script_runs.proofs.Joined.{NotYetDone}

-- nothing is staged, and the counts haven't fallen
pub record Ready {S : Type 0} (old new : TakerView S) : Type 0 where
  pub is_ready : IsTrue (is_ready new)
  pub disk_later : old.disk_faults ≤ new.disk_faults
  pub say_later : old.say_faults ≤ new.say_faults

-- the units of a line so far
pub record UnitsSoFar {S : Type 0} (meaning : Meaning S) (line : List ℕ) (number : ℕ) (old new : TakerView S) : Type 0 where
  pub ready : Ready old new
  pub not_yet : NotYetDone meaning None line number old new

-- a piece so far: `seen` is what was taken of it
pub record PieceSoFar {S : Type 0} (meaning : Meaning S) (begun : List ℕ) (from : ℕ) (seen line : List ℕ) (number : ℕ) (old new : TakerView S) : Type 0 where
  pub ready : Ready old new
  pub is_rest : line ≡ rest_of (begun ++ seen)
  pub is_number : number ≡ from + length (ended_lines (begun ++ seen))
  pub rises : number ≤ from + length seen
  pub did : DidLines meaning None (ended_lines (begun ++ seen)) from old new

-- a script so far: the pieces that were read, as one
pub record PiecesSoFar {S : Type 0} (meaning : Meaning S) (line : List ℕ) (number room : ℕ) (before now : SourceView) (old view : TakerView S) : Type 0 where
  pub is_ready : IsTrue (is_ready view)
  pub unended : parts_of line ≡ line ∷ []
  pub numbers : number + room < 2 ^ 30
  pub so_far : ReadOn meaning [] 1 limit line number room before now old view
  pub later : IsLater before now old view
