-- What is seen of a taker of lines.
use Rattle.std.specs.Prelude.{◌≡◌, ℕ, ◌&&◌, Bool, List, Option, Some}
use Rattle.script_runs.specs.Stops.{Keeping}

-- The state, where it is told, and how many blocks are free; what was said, where that is told; the clock, and the blocks
-- and said bytes that a stop at each moment might have left; how often the disk and a say failed; how many bytes may be
-- said without a fault, where the site tells that it has room for all that is written on it; whether nothing is staged;
-- whether the taker may still be used.
pub record TakerView (S : Type 0) : Type 1 where
  pub state : Option S
  pub free : ℕ
  pub said : Option (List ℕ)
  pub moment : ℕ
  pub left_at : ℕ → List (List ℕ) → List ℕ → Type 0
  pub disk_faults : ℕ
  pub say_faults : ℕ
  pub room : Option ℕ
  pub clean : Bool
  pub live : Bool

-- it may be used, and nothing is staged
abbrev pub is_ready : {S : Type 0} → TakerView S → Bool
is_ready view = view.clean && view.live

abbrev pub LeavesNow : {S : Type 0} → TakerView S → List (List ℕ) → List ℕ → Type 0
LeavesNow view blocks words = view.left_at view.moment blocks words

-- a stop now leaves nothing but blocks that hold the state that is told, with as many free ones, and what was said
pub record LeavesTold {S : Type 0} (keeping : Keeping S) (view : TakerView S) : Type 0 where
  pub kept : (start : S) (blocks : List (List ℕ)) (words : List ℕ) → view.state ≡ Some start → LeavesNow view blocks words → keeping.holds blocks start
  pub free : (start : S) (blocks : List (List ℕ)) (words : List ℕ) → view.state ≡ Some start → LeavesNow view blocks words → keeping.free blocks ≡ view.free
  pub said : (before : List ℕ) (blocks : List (List ℕ)) (words : List ℕ) → view.said ≡ Some before → LeavesNow view blocks words → words ≡ before
