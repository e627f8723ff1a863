-- What of an image a journal leaves alone: all that lies below its first block, but the gate.
use Rattle.std.specs.Prelude.{◌≡◌, ℕ, ◌-◌, ◌≤◌, true, List, length, take, drop}
use Rattle.block_journal.specs.Body.{HasBody}
use Rattle.block_journal.specs.Redo.{is_open, gate, gate_end}

-- where its gate is open, it has a body
abbrev pub HasLawfulGate : ℕ → ℕ → List ℕ → Type 0
HasLawfulGate first count image = is_open image ≡ true → HasBody first count image

-- the same bytes up to the gate, and behind it up to the first block; no gate is opened without a body
pub record KeepsFront (first count : ℕ) (old new : List ℕ) : Type 0 where
  pub head : take gate new ≡ take gate old
  pub behind : take (first - gate_end) (drop gate_end new) ≡ take (first - gate_end) (drop gate_end old)
  pub no_shorter : length old ≤ length new
  pub lawful : HasLawfulGate first count old → HasLawfulGate first count new
